-- Whether some number has a property.
use Rattle.std.proofs.Common.{◌≡◌, ℕ, zero, suc, ◌+◌, Bool, true, false, ◌||◌, List, [], ◌∷◌, length, get_or, sym, refl, ap, ◌∙◌, arith}
use Rattle.std.specs.List.{list_any}
use Rattle.context.specs.Care.{any_below}

pub or-none : (a : Bool) → (a || false) ≡ a
or-none true = refl
or-none false = refl

or_swap : (a b c : Bool) → (a || (b || c)) ≡ (b || (a || c))
or_swap true true c = refl
or_swap true false c = refl
or_swap false b c = refl

-- the first number and the others
any_first : (n : ℕ) (p : ℕ → Bool) → any_below (suc n) p ≡ (p 0 || any_below n (λ j. p (suc j)))
unfolding any_below
any_first zero p = refl
any_first (suc n) p = ap (λ b. p (suc n) || b) (any_first n p) ∙ or_swap (p (suc n)) (p 0) (any_below n (λ j. p (suc j)))

-- the numbers below n and those from n on
pub any_add : (n m : ℕ) (p : ℕ → Bool) → any_below (n + m) p ≡ (any_below n p || any_below m (λ j. p (n + j)))
unfolding any_below
any_add n zero p = let z : n + 0 ≡ n = omega arith in ap (λ k. any_below k p) z ∙ sym (or-none (any_below n p))
any_add n (suc m) p =
    let next : n + suc m ≡ suc (n + m) = omega arith in
    ap (λ k. any_below k p) next ∙ ap (λ b. p (n + m) || b) (any_add n m p) ∙ or_swap (p (n + m)) (any_below n p) (any_below m (λ j. p (n + j)))

-- a test of some element, by its place
pub any-listed : {X : Type 0} (p : X → Bool) (xs : List X) (e : X) → list_any p xs ≡ any_below (length xs) (λ j. p (get_or xs j e))
unfolding any_below
any-listed p [] e = refl
any-listed p (x ∷ xs) e = ap (λ b. p x || b) (any-listed p xs e) ∙ sym (any_first (length xs) (λ j. p (get_or (x ∷ xs) j e)))
