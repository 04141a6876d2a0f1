use Rattle.std.proofs.Common.{eqb, ap, ◌∙◌}
use Rattle.std.proofs.lemmas.Nat.{and_mask}
use Rattle.network.specs.Rows.{bit_at}
use Rattle.logic.proofs.words.WordsExact.read.Goals as goal

pub returns : goal.returns
unfolding bit_at
returns c = λ a h. ap (λ n. eqb n 1) (and_mask _ 1) ∙ h c.args.lane c.requires
