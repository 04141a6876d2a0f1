use Rattle.std.proofs.Common.{◌≡◌, ℕ, Bool, false, eqb, Some, None, Option, rules}
use Rattle.std.specs.Option.{MatchOption}
use Rattle.network.specs.declared.row.Signal.{Signal}
use Rattle.theory.specs.Values.{turns}
use Rattle.logic.specs.Walks.{turn_of}
use Rattle.logic.proofs.walk.is_turned.Goals as goal

-- what holds of the signal to invert, if there is one
decided : (o : Option Signal) (r : Bool) (s : ℕ) {P : Signal → Type 0} → MatchOption o (r ≡ false) P → ((t : Signal) → P t → r ≡ eqb t.0 s) → r ≡ turns (turn_of o) s
unfolding turns
decided None r s h f = h
decided (Some t) r s h f = f t h

pub returns : goal.returns
returns c = decided c.args.turn c.is_some_and.result c.args.signal c.is_some_and.ensures (λ t p. search rules)
