-- Three-valued bits with equal flags are equal.
use Rattle.std.proofs.Common.{◌≡◌, Bool, ◌||◌, T}
use mathlib.Core.HLevel.{is_prop→PathP}
use denote.Struct.Props.{props}
use Rattle.logic.specs.declared.trit.Trit.{Trit}

some-prop : (z o : Bool) → IsProp (T (z || o))
some-prop z o = hlevel props

pub trit-same : (v w : Trit) → v.zero ≡ w.zero → v.one ≡ w.one → v ≡ w
trit-same v w p q = λ i. record {
  zero = p i;
  one = q i;
  some = is_prop→PathP (λ j. T (p j || q j)) (λ j. some-prop (p j) (q j)) v.some w.some i;
}
