use Rattle.std.proofs.Common.{sym, ◌∙◌}
use Rattle.window.specs.Sets.{has}
use Rattle.window.proofs.Entries.{leaf-roll, enters-added, enters-full, rolled}
use Rattle.window.proofs.leaf_list.LeafList.enter.Goals as goal

pub invariant_of-self : goal.invariant_of-self
invariant_of-self c = record { room = (rolled c.args.signal _ _ _ _ c.add.result (leaf-roll c.args.self.now) c.add.ensures.adds c.add.ensures.roll).room }

pub returns-in-Entered : goal.returns-in-Entered
returns-in-Entered c =
    enters-added (has c.args.members.now) c.args.signal (sym c.has.ensures ∙ c.if-has.false) _ _ _ _ (leaf-roll c.args.self.now) c.add.result c.in-Entered.is c.add.ensures.adds c.add.ensures.count

pub returns-in-Full : goal.returns-in-Full
returns-in-Full c =
    enters-full (has c.args.members.now) c.args.signal (sym c.has.ensures ∙ c.if-has.false) _ _ _ _ (leaf-roll c.args.self.now) c.in-Full.ensures.adds c.in-Full.ensures.count
