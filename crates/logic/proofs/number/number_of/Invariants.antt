use Rattle.std.proofs.Common.{◌≡◌, ℕ, ◌^◌, ◌<◌, Bool}
use Rattle.theory.specs.Values.{number}
use Rattle.logic.specs.Items.{IsItem}
use Rattle.logic.proofs.number.number_of.Given as goal

abbrev pub invariant-loop-i : goal.invariant-loop-i
invariant-loop-i g l =
    (l.number < 2 ^ l.i)
    × ((x : ℕ → Bool) → ((k : ℕ) (r : _) (b : Bool) → IsItem l.items k r.now → goal.B-post g l.bit r b → b ≡ x k) → l.number ≡ number x l.i)
