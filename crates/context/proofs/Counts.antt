-- How many numbers below n have p.
use Rattle.std.proofs.Common.{◌≡◌, ℕ, zero, suc, ◌<◌, ◌≤◌, Bool, true, false, sym, refl, ap, ◌∙◌, ⊎_elim, arith}
use Rattle.std.proofs.lemmas.Bool.{cases_Bool, cases_eq, cond-true, cond-false}
use Rattle.context.specs.Care.{count_below}

pub count_yes : (n : ℕ) (p : ℕ → Bool) → p n ≡ true → count_below (suc n) p ≡ suc (count_below n p)
unfolding count_below
count_yes n p h = cond-true (p n) _ _ h

pub count_no : (n : ℕ) (p : ℕ → Bool) → p n ≡ false → count_below (suc n) p ≡ count_below n p
unfolding count_below
count_no n p h = cond-false (p n) _ _ h

pub count-grows : (n : ℕ) (p : ℕ → Bool) → count_below n p ≤ count_below (suc n) p
count-grows n p = ⊎_elim (λ h. omega (arith, count_yes n p h)) (λ h. omega (arith, count_no n p h)) (cases_Bool (p n))

-- at most one more
pub count-step : (n : ℕ) (p : ℕ → Bool) → count_below (suc n) p ≤ suc (count_below n p)
count-step n p = ⊎_elim (λ h. omega (arith, count_yes n p h)) (λ h. omega (arith, count_no n p h)) (cases_Bool (p n))

-- at most n
pub count_most : (n : ℕ) (p : ℕ → Bool) → count_below n p ≤ n
unfolding count_below
count_most zero p = omega arith
count_most (suc n) p = let i = count_most n p in omega (arith, count-step n p)

-- none, where none has p
pub count_none : (n : ℕ) (p : ℕ → Bool) → ((a : ℕ) → a < n → p a ≡ false) → count_below n p ≡ 0
unfolding count_below
count_none zero p h = refl
count_none (suc n) p h = count_no n p (h n (omega arith)) ∙ count_none n p (λ a l. h a (omega arith))

-- fewer below a number that has p
pub count-lt : (b a : ℕ) (p : ℕ → Bool) → a < b → p a ≡ true → count_below a p < count_below b p
count-lt zero a p l h = absurd (omega arith)
count-lt (suc b) a p l h =
    ⊎_elim
    (λ e. let h' : p b ≡ true = ap p (sym e) ∙ h in let e' : count_below a p ≡ count_below b p = ap (λ n. count_below n p) e in omega (arith, count_yes b p h'))
    (λ ne. let i = count-lt b a p (omega arith) h in omega (arith, count-grows b p))
    (cases_eq a b)

-- p and q are equal below n
pub count_same : (n : ℕ) (p q : ℕ → Bool) → ((a : ℕ) → a < n → p a ≡ q a) → count_below n p ≡ count_below n q
unfolding count_below
count_same zero p q h = refl
count_same (suc n) p q h =
    let a : p n ≡ q n = h n (omega arith) in
    let b : count_below n p ≡ count_below n q = count_same n p q (λ a l. h a (omega arith)) in
    rw (a, b)

-- whatever has p has q
pub count-within : (n : ℕ) (p q : ℕ → Bool) → ((a : ℕ) → a < n → p a ≡ true → q a ≡ true) → count_below n p ≤ count_below n q
unfolding count_below
count-within zero p q h = omega arith
count-within (suc n) p q h =
    let i = count-within n p q (λ a l. h a (omega arith)) in
    ⊎_elim
    (λ e. omega (arith, count_yes n p e, count_yes n q (h n (omega arith) e)))
    (λ e. omega (arith, count_no n p e, count-grows n q))
    (cases_Bool (p n))

-- q has one number more than p
pub count-more : (n : ℕ) (p q : ℕ → Bool) (a : ℕ) → a < n → p a ≡ false → q a ≡ true → ((b : ℕ) → (b ≡ a → ⊥) → q b ≡ p b) → count_below n q ≡ suc (count_below n p)
count-more zero p q a l no' yes' h = absurd (omega arith)
count-more (suc n) p q a l no' yes' h =
    ⊎_elim
    (λ e.
    let s : count_below n q ≡ count_below n p = count_same n q p (λ b k. h b (λ g. omega arith)) in
    count_yes n q (ap q (sym e) ∙ yes') ∙ ap suc (s ∙ sym (count_no n p (ap p (sym e) ∙ no'))))
    (λ ne.
    let i = count-more n p q a (omega arith) no' yes' h in
    let g : q n ≡ p n = h n (λ e. ne (sym e)) in
    ⊎_elim
    (λ e. count_yes n q (g ∙ e) ∙ ap suc (i ∙ sym (count_yes n p e)))
    (λ e. count_no n q (g ∙ e) ∙ i ∙ ap suc (sym (count_no n p e)))
    (cases_Bool (p n)))
    (cases_eq a n)

-- no number from a up to b has p
pub count-gap : (b a : ℕ) (p : ℕ → Bool) → a ≤ b → ((c : ℕ) → a ≤ c → c < b → p c ≡ false) → count_below b p ≡ count_below a p
count-gap zero a p l h = let e : 0 ≡ a = omega arith in ap (λ n. count_below n p) e
count-gap (suc b) a p l h =
    ⊎_elim
    (λ e. ap (λ n. count_below n p) (sym e))
    (λ ne. count_no b p (h b (omega arith) (omega arith)) ∙ count-gap b a p (omega arith) (λ c k m. h c k (omega arith)))
    (cases_eq a (suc b))
