use Rattle.roll.proofs.Shift.{put-turned}
use Rattle.roll.proofs.enter.insert_at.Goals as goal

pub returns : goal.returns
returns g c = put-turned c.args.places.now c.args.count c.args.at c.args.item c.rotate_right.new.self c.requires.within c.requires.free c.rotate_right.ensures.after
