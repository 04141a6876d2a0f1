-- The laws of three-valued bits, and what a walk over known and unknown leaves gives.
use Rattle.std.proofs.Common.{◌≡◌, ℕ, ◌<◌, Bool, true, false, cond, ◌||◌, T, ◌⊎◌, List, length, get_or, Option, sym, refl, ap, ◌∙◌, subst, inl, inr, ⊎_elim, rules}
use Rattle.std.proofs.lemmas.Bool.{false≢true, or_right}
use Rattle.network.specs.Nets.{Net, LegalNet, size}
use Rattle.theory.specs.Values.{value}
use Rattle.theory.proofs.Values.{lowers}
use Rattle.logic.specs.Lanes.{LaneRow, always, picked, Admit}
use Rattle.logic.specs.Trits.{trit_admits, trit_of, unknown, either, trit_pick, Known}
use Rattle.logic.specs.Walks.{walked}
use Rattle.logic.specs.declared.trit.Trit.{Trit}
use Rattle.logic.proofs.SameTrits.{trit-same}
use Rattle.logic.proofs.Walks.{walked-sound}

pub trit-steady : (b : Bool) → trit_admits (trit_of b) (always b)
trit-steady true = refl
trit-steady false = refl

pub trit-sound : (s h l : Trit) (a b c : LaneRow) → trit_admits s a → trit_admits h b → trit_admits l c → trit_admits (trit_pick s h l) (picked a b c)
trit-sound s h l a b c p q r = search rules

-- a value is known or not
pub three : (v : Trit) → (v ≡ unknown) ⊎ ((b : Bool) × (v ≡ trit_of b))
three v = which v.zero v.one refl refl
  where
    which : (z o : Bool) → v.zero ≡ z → v.one ≡ o → (v ≡ unknown) ⊎ ((b : Bool) × (v ≡ trit_of b))
    which true true p q = inl (trit-same v unknown p q)
    which true false p q = inr (false, trit-same v (trit_of false) p q)
    which false true p q = inr (true, trit-same v (trit_of true) p q)
    which false false p q = absurd (subst T (ap (λ z. z || v.one) p ∙ q) v.some)

-- a known value picks its side
pub pick_known : (b : Bool) (h l : Trit) → trit_pick (trit_of b) h l ≡ cond b h l
pick_known true h l = refl
pick_known false h l = refl

either_same : (b : Bool) → either (trit_of b) (trit_of b) ≡ trit_of b
either_same true = trit-same (either (trit_of true) (trit_of true)) (trit_of true) refl refl
either_same false = trit-same (either (trit_of false) (trit_of false)) (trit_of false) refl refl

either_left : (l : Trit) → either unknown l ≡ unknown
either_left l = trit-same (either unknown l) unknown refl refl

either-right : (h : Trit) → either h unknown ≡ unknown
either-right h = trit-same (either h unknown) unknown (or_right h.zero true refl) (or_right h.one true refl)

-- an unknown one picks the common value, if both are known and equal
pub pick-common : (b : Bool) → trit_pick unknown (trit_of b) (trit_of b) ≡ trit_of b
pick-common b = either_same b

-- and else the unknown one
pub pick-otherwise : (h l : Trit) → ((b : Bool) → h ≡ trit_of b → l ≡ trit_of b → ⊥) → trit_pick unknown h l ≡ unknown
pick-otherwise h l ne =
    ⊎_elim
    (λ (e : h ≡ unknown). ap (λ v. either v l) e ∙ either_left l)
    (λ (u : (b : Bool) × (h ≡ trit_of b)).
    ⊎_elim
    (λ (e : l ≡ unknown). ap (either h) e ∙ either-right h)
    (λ (w : (b : Bool) × (l ≡ trit_of b)). ap (λ v. either v l) u.1 ∙ ap (either (trit_of u.0)) w.1 ∙ apart u.0 w.0 u.1 w.1)
    (three l))
    (three h)
  where
    apart : (a b : Bool) → h ≡ trit_of a → l ≡ trit_of b → either (trit_of a) (trit_of b) ≡ unknown
    apart true true p q = absurd (ne true p q)
    apart false false p q = absurd (ne false p q)
    apart true false p q = trit-same (either (trit_of true) (trit_of false)) unknown refl refl
    apart false true p q = trit-same (either (trit_of false) (trit_of true)) unknown refl refl

-- to be the known bit of a row is a meaning too, of which the laws hold
abbrev Is : Trit → LaneRow → Type 0
Is v a = v ≡ trit_of (a 0)

is-sound : (s h l : Trit) (a b c : LaneRow) → Is s a → Is h b → Is l c → Is (trit_pick s h l) (picked a b c)
is-sound s h l a b c p q r =
    ap (λ v. trit_pick v h l) p ∙ ap (λ v. trit_pick (trit_of (a 0)) v l) q ∙ ap (trit_pick (trit_of (a 0)) (trit_of (b 0))) r ∙ pick_known (a 0) (trit_of (b 0)) (trit_of (c 0)) ∙ sides (a 0) (b 0) (c 0)
  where
    sides : (x y z : Bool) → cond x (trit_of y) (trit_of z) ≡ trit_of (cond x y z)
    sides true y z = refl
    sides false y z = refl

-- with every leaf known, every value is known and is the signal's
pub walked-exact : (turn : Option ℕ) (net : Net) (leaves : List Trit) (x : ℕ → Bool) → LegalNet net → length leaves ≡ net.inputs → Known leaves net.inputs x → Known (walked trit_pick trit_of turn net.rows leaves) (size net) (value turn net x)
walked-exact turn net leaves x legal long all = walked-sound Is trit_pick trit_of (λ b. refl) is-sound turn net (lowers legal) leaves (λ i. always (x i)) long all

only-bit : (v : Trit) (y b : Bool) → v ≡ trit_of b → cond y v.one v.zero ≡ true → y ≡ b
only-bit v true true e h = refl
only-bit v false false e h = refl
only-bit v true false e h = absurd (false≢true (sym (ap (λ w. w.one) e) ∙ h))
only-bit v false true e h = absurd (false≢true (sym (ap (λ w. w.zero) e) ∙ h))

-- a known value is the signal's under each assignment that the leaves admit
pub walked-known : (turn : Option ℕ) (net : Net) (leaves : List Trit) (x : ℕ → Bool) → LegalNet net → length leaves ≡ net.inputs → Admit trit_admits leaves net.inputs (λ i. always (x i)) →
    (s : ℕ) (d : Trit) (b : Bool) → s < size net → get_or (walked trit_pick trit_of turn net.rows leaves) s d ≡ trit_of b → value turn net x s ≡ b
walked-known turn net leaves x legal long all s d b h e =
    only-bit (get_or (walked trit_pick trit_of turn net.rows leaves) s d) (value turn net x s) b e
    (walked-sound trit_admits trit_pick trit_of trit-steady trit-sound turn net (lowers legal) leaves (λ i. always (x i)) long all s d h)
