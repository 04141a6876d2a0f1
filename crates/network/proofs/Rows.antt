-- What holds of each row at its place, after one is replaced or added.
use Rattle.std.proofs.Common.{◌≡◌, ℕ, ◌+◌, ◌<◌, ◌≤◌, List, length, get_or, set, sym, subst, inl, inr, arith}
use mathlib.Core.Logic.{∥∥₁_elim}
use Rattle.std.proofs.lemmas.List.{get_or-set_same, get_or-set_other, length-set}
use Rattle.std.proofs.lemmas.Bool.{cases_eq}
use denote.Struct.Props.{props}
use Rattle.network.specs.declared.row.Function.{Function}
use Rattle.network.specs.declared.row.Row.{Row}
use Rattle.network.specs.Limits.{max_fanins, function_bytes}
use Rattle.network.specs.Rows.{Legal, Lower, Unused, Clean, Bytes, blank, with_function}

-- each row is legal at its place
abbrev pub Rows : ℕ → List Row → Type 0
Rows i xs = (k : ℕ) → k < length xs → ∥ Legal (i + k) (get_or xs k blank) ∥₁

few-prop : (r : Row) → IsProp (r.count ≤ max_fanins)
few-prop r = hlevel props

lower-prop : (s : ℕ) (r : Row) → IsProp (Lower s r)
lower-prop s r = hlevel props

unused-prop : (r : Row) → IsProp (Unused r)
unused-prop r = hlevel props

clean-prop : (n : ℕ) (f : Function) → IsProp (Clean n f)
clean-prop n f = hlevel props

byte-prop : (f : Function) → IsProp (Bytes f)
byte-prop f = hlevel props

size-prop : (m n : ℕ) → IsProp (m ≡ n)
size-prop m n = hlevel props

legal-prop : (s : ℕ) (r : Row) → IsProp (Legal s r)
legal-prop s r p q = λ i. record {
  few = few-prop r p.few q.few i;
  lower = lower-prop s r p.lower q.lower i;
  unused = unused-prop r p.unused q.unused i;
  clean = clean-prop r.count r.function p.clean q.clean i;
  places = size-prop (length r.fanins) max_fanins p.places q.places i;
  bytes = size-prop (length r.function.bytes) function_bytes p.bytes q.bytes i;
  byte = byte-prop r.function p.byte q.byte i;
}

-- a row's being legal is a fact with at most one proof, so the bars can go
pub legal-of : {s : ℕ} {r : Row} → ∥ Legal s r ∥₁ → Legal s r
legal-of {s} {r} t = ∥∥₁_elim t (legal-prop s r) (λ o. o)

-- the row with another clean function
pub legal-with : (s : ℕ) (r : Row) (f : Function) → length f.bytes ≡ function_bytes → Bytes f → Clean r.count f → Legal s r → Legal s (with_function r f)
legal-with s r f w b h o = record { few = o.few; lower = o.lower; unused = o.unused; clean = h; places = o.places; bytes = w; byte = b }

-- the rows after one of them was replaced
pub legal-set : (i : ℕ) (xs : List Row) (n : ℕ) (x : Row) → n < length xs → Legal (i + n) x → Rows i xs → Rows i (set xs n x)
legal-set i xs n x h new old k l =
    let k< : k < length xs = omega (arith, length-set xs n x) in
    elim (cases_eq k n) [
      | inl e ↦ subst (λ j. ∥ Legal (i + j) (get_or (set xs n x) j blank) ∥₁) (sym e) (subst (λ r. ∥ Legal (i + n) r ∥₁) (sym (get_or-set_same xs n x blank h)) ∣ new ∣₁)
      | inr ne ↦ subst (λ r. ∥ Legal (i + k) r ∥₁) (sym (get_or-set_other xs n k x blank ne)) (old k k<)
    ]
