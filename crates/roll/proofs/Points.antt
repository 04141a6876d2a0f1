-- The place of a value, as the point at which a test of the entries changes.
use Rattle.std.proofs.Common.{◌≡◌, ℕ, ◌-◌, ◌≤◌, Bool, true, false, List, length, get_or, inl, inr, subst, arith}
use Rattle.std.specs.List.Sorted.{IsPartitionedBy, IsPartitionPoint}
use Rattle.std.proofs.lemmas.Bool.{cases_lt}
use Rattle.roll.specs.Rolls.{place, ascending}
use Rattle.roll.proofs.Places.{Transitive, place-within, place-le, place-past}
use Rattle.roll.proofs.Rising.{rising-get_or}

-- the entries below x stand first
pub below_first : {X : Type 0} (lt : X → X → Bool) → Transitive lt → (x : X) (xs : List X) → ascending lt xs ≡ true → IsPartitionedBy (λ y. lt y x) xs
below_first lt tr x xs a i j d h k e =
    elim (cases_lt i j) [
      | inl l ↦ tr (get_or xs i d) (get_or xs j d) x (rising-get_or lt d xs i j a l k) e
      | inr l ↦ (let s : j ≡ i = omega arith in subst (λ n. lt (get_or xs n d) x ≡ true) s e)
    ]

-- and they end at the place of x
pub place-from_point : {X : Type 0} (lt : X → X → Bool) → Transitive lt → (x : X) (xs : List X) (i : ℕ) → ascending lt xs ≡ true → i ≤ length xs
    → IsPartitionPoint (λ y. lt y x ≡ true) (λ y. lt y x ≡ false) xs i → i ≡ place lt x xs
place-from_point lt tr x xs i a h p =
    let most : place lt x xs ≤ i = elim (cases_lt i (length xs)) [
      | inl l ↦ place-le lt x x xs i l (p.1 i x (omega arith) l)
      | inr l ↦ (let w = place-within lt x xs in omega arith)
    ] in
    let least : i ≤ place lt x xs = elim (cases_lt 0 i) [
      | inl l ↦ (let w = place-past lt tr x x xs (i - 1) a (omega arith) (p.0 (i - 1) x (omega arith) (omega arith)) in omega arith)
      | inr l ↦ omega arith
    ] in
    omega arith
