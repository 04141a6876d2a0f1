-- Whether some number below n has p.
use Rattle.std.proofs.Common.{◌≡◌, ℕ, zero, suc, ◌<◌, Bool, true, false, refl, ap, ◌∙◌, ⊎_elim, arith}
use Rattle.std.proofs.lemmas.Bool.{cases_eq, cases_Bool, or_cases, or_parts, both_ways}
use Rattle.context.specs.Care.{any_below}

-- one is found
pub any-find : (n : ℕ) (p : ℕ → Bool) → any_below n p ≡ true → (a : ℕ) × (a < n) × (p a ≡ true)
unfolding any_below
any-find zero p h = absurd (both_ways false refl h)
any-find (suc n) p h =
    ⊎_elim
    (λ e. (n, omega arith, e))
    (λ e. let w = any-find n p e in (w.0, omega arith, w.2))
    (or_cases (p n) (any_below n p) h)

-- none has p
pub any_none : (n : ℕ) (p : ℕ → Bool) → any_below n p ≡ false → (a : ℕ) → a < n → p a ≡ false
unfolding any_below
any_none zero p h a l = absurd (omega arith)
any_none (suc n) p h a l =
    let q = or_parts (p n) (any_below n p) h in
    ⊎_elim (λ e. ap p e ∙ q.0) (λ ne. any_none n p q.1 a (omega arith)) (cases_eq a n)

-- from one that has p
pub any_some : (n : ℕ) (p : ℕ → Bool) (a : ℕ) → a < n → p a ≡ true → any_below n p ≡ true
any_some n p a l h = ⊎_elim (λ e. e) (λ e. absurd (both_ways (p a) (any_none n p e a l) h)) (cases_Bool (any_below n p))

-- from each that has not
pub any-never : (n : ℕ) (p : ℕ → Bool) → ((a : ℕ) → a < n → p a ≡ false) → any_below n p ≡ false
any-never n p h = ⊎_elim (λ e. let w = any-find n p e in absurd (both_ways (p w.0) (h w.0 w.1) w.2)) (λ e. e) (cases_Bool (any_below n p))

-- p and q are equal below n
pub any_same : (n : ℕ) (p q : ℕ → Bool) → ((a : ℕ) → a < n → p a ≡ q a) → any_below n p ≡ any_below n q
unfolding any_below
any_same zero p q h = refl
any_same (suc n) p q h =
    let a : p n ≡ q n = h n (omega arith) in
    let b : any_below n p ≡ any_below n q = any_same n p q (λ a l. h a (omega arith)) in
    rw (a, b)
