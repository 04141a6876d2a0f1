-- What is read in a lane.
use Rattle.std.proofs.Common.{get_or, Bool, List, None, Option, Some, ap, ap₂, arith, false, length, map, not, refl, sym, true, zero-le, ℕ, ◌<◌, ◌∙◌, ◌≡◌, ◌≤◌}
use mathlib.Core.Bool.{xor, beq}
use denote.Param.Members.{Mut}
use denote.Ref.{Bor}
use Rattle.std.specs.Option.{MatchOption}
use Rattle.std.specs.Bool.{⊤}
use Rattle.std.specs.Fn.{CalledAt}
use Rattle.std.specs.Iterator.{YieldsThen}
use Rattle.std.proofs.iter.Yields.{nat_range_steps}
use Rattle.std.proofs.lemmas.Iterator.{first_from_Range}
use Rattle.std.specs.List.{list_any, FoldsTo, range_with_len}
use Rattle.std.specs.declared.ops.Range.{Range}
use Rattle.network.specs.Rows.{no_signal, bit_at}
use Rattle.context.specs.Care.{differs}
use Rattle.context.proofs.Any.{any_same}
use Rattle.window.specs.declared.extracted.Context.{Context}
use Rattle.search.specs.Contexts.{net_in}
use Rattle.search.specs.Lanes.{unlike, Shown, Lowest}
use Rattle.search.proofs.Anys.{any-listed}
use Rattle.logic.specs.Lanes.{LaneRow, Admit}
use Rattle.logic.specs.Bits.{bit_admits}
use Rattle.logic.specs.Walks.{over}
use Rattle.logic.proofs.Fronts.{counted-at}

-- two bits that were compared
pub xor-compared : (a b : Bool) → not (beq a b) ≡ xor a b
unfolding xor
xor-compared true true = refl
xor-compared true false = refl
xor-compared false true = refl
xor-compared false false = refl

-- the roots differ in lane l as they do under its assignment
pub differs-shown : {V : Type 0} (admits : V → LaneRow → Type 0) (row : V → LaneRow) (n : ℕ) → ((v : V) (a : LaneRow) → admits v a → (l : ℕ) → l < n → a l ≡ row v l)
    → (c : Context) (rows : ℕ → LaneRow) (plain turned : List V) (l : ℕ) (d : V) → l < n → Shown admits c rows plain turned
    → list_any (unlike row plain turned l d) (net_in c).outputs ≡ differs (net_in c) c.target (λ i. rows i l)
differs-shown admits row n one c rows plain turned l d h shown =
    any-listed (unlike row plain turned l d) (net_in c).outputs no_signal
    ∙ any_same (length (net_in c).outputs) _ _ (λ j k. ap₂ xor (sym (one _ _ (shown.roots j d k) l h)) (sym (one _ _ (shown.inverted j d k) l h)))

not-passed : (b : Bool) → true ≡ not b → b ≡ false
not-passed true e = e
not-passed false e = refl

not-failed : (b : Bool) → false ≡ not b → b ≡ true
not-failed true e = refl
not-failed false e = e

lowest-found : (n : ℕ) (test : ℕ → Bool) (r : Option ℕ)
    → MatchOption r ((k : ℕ) → 0 ≤ k → k < n → test k ≡ true) (λ l. (0 ≤ l) × (l < n) × (test l ≡ false) × ((k : ℕ) → 0 ≤ k → k < l → test k ≡ true))
    → Lowest n test r
lowest-found n test None all = λ l h. all l zero-le h
lowest-found n test (Some l) found = (found.1, found.2, λ m h. found.3 m zero-le h)

-- a search from 0 up finds the lowest number at which the test fails
pub lowest-by : {F : Type 0} {g : Mut F (Bor ℕ × Unit {0}) Bool} (s u : Range ℕ) (f : F) (test : ℕ → Bool) (r : Option ℕ)
    → (xs : List ℕ) × (j : F) × YieldsThen nat_range_steps s xs r u × FoldsTo (λ p x q. CalledAt g p x false q) f xs j × MatchOption r ⊤ (λ x. (h : F) × CalledAt g j x true h)
    → ((x : ℕ) (b : Bool) (q : F) → CalledAt g f x b q → (q ≡ f) × (b ≡ not (test x))) → s.start ≡ 0 → Lowest s.end test r
lowest-by s u f test r ran called from =
    lowest-found s.end test r
    (rw from at (first_from_Range s u f r (λ l. test l ≡ false) (λ l. test l ≡ true) ran (λ x q k. not-passed (test x) (called x true q k).1) (λ x q k. ((called x false q k).0, not-failed (test x) (called x false q k).1))))

-- the leaves' values, put from an assignment, admit its bits
pub leaves-put : (a n k : ℕ) (vs old : List Bool) → vs ≡ over (map (bit_at a) (range_with_len 0 n)) old → n ≡ k → Admit bit_admits vs k (λ i l. bit_at a i)
leaves-put a n k vs old put same i d h = let lt : i < n = omega arith in ap (λ (ws : List Bool). get_or ws i d) put ∙ counted-at (bit_at a) n old i d lt
