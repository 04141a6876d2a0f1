use Rattle.theory.proofs.Same.{same-equivalence, same-unread, same-equal, replaced-twice, replaced-own}
use Rattle.theory.proofs.same_outputs_stand.Goals as goal

pub returns : goal.returns
returns c = record { equivalence = same-equivalence; unread = same-unread; equal = same-equal; twice = replaced-twice; own = λ net t l. replaced-own net t }
