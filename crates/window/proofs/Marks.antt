-- Flags that are set one by one.
use Rattle.std.proofs.Common.{◌≡◌, ℕ, zero, suc, ◌+◌, ◌<◌, ◌≤◌, Bool, true, false, ◌&&◌, ◌||◌, List, length, get_or, take, sym, refl, ap, ◌∙◌, ⊎_elim, add-one, arith}
use Rattle.std.specs.List.{list_any}
use Rattle.std.proofs.Math.Bool.{or-false, or_comm, or_assoc}
use Rattle.std.proofs.lemmas.List.{take_all}
use Rattle.std.proofs.lemmas.List.Folds.{list_any_more}
use Rattle.std.proofs.lemmas.Bool.{or_cases, or_left, or_right, and_parts, and_from}
use Rattle.context.proofs.Any.{any-find, any_some}
use Rattle.context.specs.Care.{any_below}

shuffle : (e a q : Bool) → ((e || a) || q) ≡ (e || (q || a))
shuffle e a q = or_assoc e a q ∙ ap (λ b. e || b) (or_comm a q)

any-none : (p : ℕ → Bool) → false ≡ any_below 0 p
unfolding any_below
any-none p = refl

pub any-zero : (b : Bool) (p : ℕ → Bool) → b ≡ (b || any_below 0 p)
unfolding any_below
any-zero b p = sym (or-false b)

pub any_next : (n : ℕ) (p : ℕ → Bool) → any_below (n + 1) p ≡ (p n || any_below n p)
unfolding any_below
any_next n p = ap (λ m. any_below m p) (add-one n)

-- whether one of the first n elements has p, as two words say it
pub list_any-take : {X : Type 0} (p : X → Bool) (xs : List X) (d : X) (n : ℕ) → n ≤ length xs → list_any p (take n xs) ≡ any_below n (λ i. p (get_or xs i d))
list_any-take p xs d zero l = any-none (λ i. p (get_or xs i d))
list_any-take p xs d (suc n) l =
    let q : n < length xs = omega (arith, add-one n) in
    ap (λ k. list_any p (take k xs)) (sym (add-one n)) ∙ list_any_more p xs n d q ∙ or_comm (list_any p (take n xs)) (p (get_or xs n d))
    ∙ ap (λ b. p (get_or xs n d) || b) (list_any-take p xs d n (omega arith)) ∙ sym (any_next n (λ i. p (get_or xs i d))) ∙ ap (λ k. any_below k (λ i. p (get_or xs i d))) (add-one n)

pub list_any-below : {X : Type 0} (p : X → Bool) (xs : List X) (d : X) → list_any p xs ≡ any_below (length xs) (λ i. p (get_or xs i d))
list_any-below p xs d = ap (list_any p) (sym (take_all (length xs) xs (omega arith))) ∙ list_any-take p xs d (length xs) (omega arith)

-- one mark more: q is the new one's test
pub mark-next : (v e q : Bool) (n : ℕ) (p : ℕ → Bool) → v ≡ (e || any_below n p) → p n ≡ q → (v || q) ≡ (e || any_below (n + 1) p)
mark-next v e q n p h g = ap (λ b. b || q) h ∙ shuffle e (any_below n p) q ∙ ap (λ b. e || (b || any_below n p)) (sym g) ∙ ap (λ b. e || b) (sym (any_next n p))

pub mark-skip : (v e : Bool) (n : ℕ) (p : ℕ → Bool) → v ≡ (e || any_below n p) → p n ≡ false → v ≡ (e || any_below (n + 1) p)
mark-skip v e n p h g = sym (or-false v) ∙ mark-next v e false n p h g

-- marks that a guard g lets through
guarded : (e g a q : Bool) → ((e || (g && a)) || (g && q)) ≡ (e || (g && (q || a)))
guarded true g a q = refl
guarded false false a q = refl
guarded false true a q = shuffle false a q

guard_none : (e g : Bool) → e ≡ (e || (g && false))
guard_none true g = refl
guard_none false true = refl
guard_none false false = refl

pub guard-zero : (e g : Bool) (p : ℕ → Bool) → e ≡ (e || (g && any_below 0 p))
unfolding any_below
guard-zero e g p = guard_none e g

pub guard-next : (v e g q : Bool) (n : ℕ) (p : ℕ → Bool) → v ≡ (e || (g && any_below n p)) → p n ≡ q → (v || (g && q)) ≡ (e || (g && any_below (n + 1) p))
guard-next v e g q n p h k =
    ap (λ b. b || (g && q)) h ∙ guarded e g (any_below n p) q ∙ ap (λ b. e || (g && (b || any_below n p))) (sym k) ∙ ap (λ b. e || (g && b)) (sym (any_next n p))

pub guard-skip : (v e g : Bool) (n : ℕ) (p : ℕ → Bool) → v ≡ (e || (g && any_below n p)) → p n ≡ false → v ≡ (e || (g && any_below (n + 1) p))
guard-skip v e g n p h k = guard_none v g ∙ guard-next v e g false n p h k

-- what is marked so far is marked in the end
pub guard-part : (v e g : Bool) (n k : ℕ) (p : ℕ → Bool) → n ≤ k → v ≡ (e || (g && any_below n p)) → v ≡ true → (e || (g && any_below k p)) ≡ true
guard-part v e g n k p l h y =
    ⊎_elim
    (λ a. or_left e _ a)
    (λ a.
    let b = and_parts g (any_below n p) a in
    let w = any-find n p b.1 in
    let q = w.1 in
    or_right e _ (and_from g (any_below k p) b.0 (any_some k p w.0 (omega arith) w.2)))
    (or_cases e (g && any_below n p) (sym h ∙ y))

pub guard-one : (g : Bool) (n k : ℕ) (p : ℕ → Bool) → n < k → (g && p n) ≡ true → (g && any_below k p) ≡ true
guard-one g n k p l h = let b = and_parts g (p n) h in and_from g (any_below k p) b.0 (any_some k p n l b.1)
