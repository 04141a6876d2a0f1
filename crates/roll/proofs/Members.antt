-- Which values are entries of a list.
use Rattle.std.proofs.Common.{◌≡◌, ℕ, zero, suc, ◌<◌, ◌⊎◌, List, [], ◌∷◌, length, get_or, inl, inr, arith}
use Rattle.std.specs.List.{ContainsAt as Has}

pub has-none : {X : Type 0} (x : X) → Has [] x → ⊥
has-none x h = omega (arith, h.1)

pub has_here : {X : Type 0} (y x : X) (ys : List X) → y ≡ x → Has (y ∷ ys) x
has_here y x ys e = (0, omega arith, λ d. e)

pub has_there : {X : Type 0} (y x : X) (ys : List X) → Has ys x → Has (y ∷ ys) x
has_there y x ys h = (suc h.0, omega (arith, h.1), λ d. h.2 d)

cases-at : {X : Type 0} (y x : X) (ys : List X) (k : ℕ) → k < length (y ∷ ys) → ((d : X) → get_or (y ∷ ys) k d ≡ x) → (y ≡ x) ⊎ Has ys x
cases-at y x ys zero l e = inl (e y)
cases-at y x ys (suc k) l e = inr (k, omega arith, e)

pub has-cases : {X : Type 0} (y x : X) (ys : List X) → Has (y ∷ ys) x → (y ≡ x) ⊎ Has ys x
has-cases y x ys h = cases-at y x ys h.0 h.1 h.2
