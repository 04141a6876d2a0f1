-- Every cover meets the laws, in whatever order its literals were tried.
use Rattle.std.proofs.Common.{◌≡◌, ℕ, ◌/◌, ◌%◌, ◌^◌, ◌<◌, ◌≤◌, true, false, not, eqb, List, [], ◌∷◌, ◌++◌, append_assoc, length, get_or, take, set, sym, refl, ap, ◌∙◌, subst, ap₂, inl, inr, ⊎_elim, zero-add, arith, pow_mono, shr_lt}
use Rattle.std.specs.List.{range_with_len, ContainsAt as Has}
use Rattle.std.proofs.lemmas.List.FromFn.{get_or-range_with_len, length-range_with_len}
use Rattle.std.proofs.ByRecursion.{has_get_or}
use Rattle.std.proofs.lemmas.List.{get_or-set_same, length-set, take_at}
use Rattle.std.proofs.lemmas.Bool.{and_parts, and_from, or_parts, or_from, or_cases, not-true, not_from_false, both_ways, cases_Bool, cases_lt}
use Rattle.network.specs.Rows.{bit_at, bit_of}
use Rattle.roll.proofs.Members.{has-none, has_here, has_there, has-cases}
use Rattle.cover.specs.Cubes.{in_cube, in_cover, struck, start, no_cube}
use Rattle.cover.specs.Covers.{care_with, minterms_on, minterms_off, touches, gathered, pruned, cover_of}
use Rattle.cover.specs.Laws.{Tries, IsCare, Lawful}
use Rattle.cover.specs.Answers.{rising_cover}
use Rattle.cover.specs.declared.care.CareFunction.{CareFunction}
use Rattle.cover.specs.declared.cube.Cube.{Cube}
use Rattle.cover.proofs.Listed.{kept-has, has_kept}
use Rattle.cover.proofs.Primes.{literal-there, start-alone}
use Rattle.cover.proofs.Gathering.{in_cover-has}
use Rattle.cover.proofs.Covering.{Good, AllGood, Apart, gathered-good, gathered-holds, gathered-rising}
use Rattle.cover.proofs.Irredundancy.{pruned-own, pruned-has, pruned-holds, pruned-rising}

on-has : (target : CareFunction) (y : ℕ) → Has (minterms_on target) y → IsCare target true y
unfolding minterms_on
on-has target y h =
    let k = kept-has (care_with true target) 0 (2 ^ target.fanins.count) y h in
    let p = and_parts (bit_of target.care y) (bit_of target.function y) k.2 in
    (omega (arith, k.1), p.0, p.1)

has_on : (target : CareFunction) (y : ℕ) → IsCare target true y → Has (minterms_on target) y
unfolding minterms_on
has_on target y h = has_kept (care_with true target) 0 (2 ^ target.fanins.count) y (omega arith) (omega (arith, h.0)) (and_from (bit_of target.care y) (bit_of target.function y) h.1 h.2)

off-has : (target : CareFunction) (y : ℕ) → Has (minterms_off target) y → IsCare target false y
unfolding minterms_off
off-has target y h =
    let k = kept-has (care_with false target) 0 (2 ^ target.fanins.count) y h in
    let p = and_parts (bit_of target.care y) (not (bit_of target.function y)) k.2 in
    (omega (arith, k.1), p.0, not-true (bit_of target.function y) p.1)

has-off : (target : CareFunction) (y : ℕ) → IsCare target false y → Has (minterms_off target) y
unfolding minterms_off
has-off target y h = has_kept (care_with false target) 0 (2 ^ target.fanins.count) y (omega arith) (omega (arith, h.0)) (and_from (bit_of target.care y) (not (bit_of target.function y)) h.1 (not_from_false (bit_of target.function y) h.2))

touches_none : (ys : List ℕ) (c : Cube) → ((y : ℕ) → Has ys y → in_cube c y ≡ false) → touches ys c ≡ false
touches_none [] c f = refl
touches_none (y ∷ ys) c f = or_from (in_cube c y) (touches ys c) (f y (has_here y y ys refl)) (touches_none ys c (λ z h. f z (has_there y z ys h)))

untouched : (ys : List ℕ) (c : Cube) → touches ys c ≡ false → (y : ℕ) → Has ys y → in_cube c y ≡ false
untouched [] c e y h = absurd (has-none y h)
untouched (z ∷ ys) c e y h =
    let p = or_parts (in_cube c z) (touches ys c) e in
    ⊎_elim (λ s. ap (in_cube c) (sym s) ∙ p.0) (untouched ys c p.1 y) (has-cases z y ys h)

touched : (ys : List ℕ) (c : Cube) → touches ys c ≡ true → (y : ℕ) × Has ys y × (in_cube c y ≡ true)
touched [] c e = absurd (both_ways false refl e)
touched (z ∷ ys) c e =
    ⊎_elim (λ i. (z, has_here z z ys refl, i)) (λ k. let w = touched ys c k in (w.0, has_there z w.0 ys w.1, w.2)) (or_cases (in_cube c z) (touches ys c) e)

in_cover-none : (cs : List Cube) (y : ℕ) → ((c : Cube) → Has cs c → in_cube c y ≡ false) → in_cover cs y ≡ false
in_cover-none [] y f = refl
in_cover-none (c ∷ cs) y f = or_from (in_cube c y) (in_cover cs y) (f c (has_here c c cs refl)) (in_cover-none cs y (λ d h. f d (has_there c d cs h)))

-- a number below 2 ^ f has its bits below f
bit_below : (n f i : ℕ) → n < 2 ^ f → bit_at n i ≡ true → i < f
unfolding bit_at
bit_below n f i h b = elim (cases_lt i f) [
  | inl l ↦ l
  | inr l ↦ let p : 2 ^ f ≤ 2 ^ i = pow_mono l in
      let q : n / 2 ^ i < 2 ^ 0 = shr_lt 0 i (subst (λ k. n < 2 ^ k) (sym (zero-add i)) (omega arith)) in
      let z : n / 2 ^ i ≡ 0 = omega arith in
      absurd (both_ways (eqb (n / 2 ^ i % 2) 1) (ap (λ k. eqb (k % 2) 1) z) b)
]

-- an on-minterm's own cube holds no off-minterm
apart : (target : CareFunction) → Apart target.fanins.count (minterms_off target) (minterms_on target)
apart target y h =
    let f = target.fanins.count in
    let o = on-has target y h in (
      o.0,
      touches_none (minterms_off target) (start f y) (λ z k.
          let w = off-has target z k in
          ⊎_elim (λ i. absurd (both_ways (bit_of target.function y) (ap (bit_of target.function) (sym (start-alone f y z w.0 i)) ∙ w.2) o.2)) (λ i. i) (cases_Bool (in_cube (start f y) z))),
    )

-- the cubes after one of them was replaced hold what the new one holds
held-set : (cs : List Cube) (k : ℕ) (d : Cube) (y : ℕ) → k < length cs → in_cube d y ≡ true → in_cover (set cs k d) y ≡ true
held-set cs k d y h i =
    let n : k < length (set cs k d) = omega (arith, length-set cs k d) in
    in_cover-has (set cs k d) d y (subst (Has (set cs k d)) (get_or-set_same cs k d no_cube h) (has_get_or (set cs k d) k no_cube n)) i

pub cover-lawful : (target : CareFunction) (order : List ℕ) → Tries target.fanins.count order → Lawful target (cover_of target order)
unfolding cover_of
cover-lawful target order t =
    let f = target.fanins.count in
    let few = target.fanins.few in
    let on = minterms_on target in
    let off = minterms_off target in
    let gs = gathered f order off on [] in
    let cs = pruned on [] gs in
    let a = apart target in
    let good : AllGood f off cs = λ c h. gathered-good f order off on [] t a (λ c h. absurd (has-none c h)) c (⊎_elim (λ k. absurd (has-none c k)) (λ k. k) (pruned-has on [] gs c h)) in
    let good-at : (k : ℕ) → k < length cs → Good f off (get_or cs k no_cube) = λ k h. good (get_or cs k no_cube) (has_get_or cs k no_cube h) in
    record {
      on = λ y h. let o = has_on target y h in pruned-holds on [] gs y o (gathered-holds f order off on [] a y o);
      off = λ y h. let o = has-off target y h in in_cover-none cs y (λ c k. untouched off c (good c k).clear y o);
      prime = λ k i h.
          let c = get_or cs k no_cube in
          let g = good-at k h.0 in
          let b : i < f = bit_below c.mask f i g.cube.small h.1 in
          let e : touches off (struck c i) ≡ true = ⊎_elim (λ u. u) (λ u. absurd (literal-there c i (omega arith) h.1 u)) (g.tried i b) in
          let w = touched off (struck c i) e in
          (w.0, off-has target w.0 w.1, held-set cs k (struck c i) w.0 h.0 w.2);
      irredundant = λ k h. let w = pruned-own on gs k h in (w.0, on-has target w.0 w.1, w.2);
      rising = pruned-rising on [] gs (gathered-rising f order off on [] a refl);
      cube = λ k h. (good-at k h).cube;
    }

-- each fanin is tried upward
pub tries-rising : (f : ℕ) → Tries f (range_with_len 0 f)
tries-rising f i h = subst (Has (range_with_len 0 f)) (get_or-range_with_len 0 f i 0 h ∙ zero-add i) (has_get_or (range_with_len 0 f) i 0 (omega (arith, length-range_with_len 0 f)))

-- the cubes at the front of the list meet the laws
pub front-lawful : (target : CareFunction) (places blanks rest : List Cube) (s : ℕ) → s ≡ length (rising_cover target) → places ≡ rising_cover target ++ blanks → Lawful target (take s (places ++ rest))
front-lawful target places blanks rest s n e =
    let cs = rising_cover target in
    let front : take s (places ++ rest) ≡ cs = ap₂ (λ m ps. take m (ps ++ rest)) n e ∙ ap (take (length cs)) (append_assoc cs blanks rest) ∙ take_at cs (blanks ++ rest) (length cs) refl in
    subst (Lawful target) (sym front) (cover-lawful target (range_with_len 0 target.fanins.count) (tries-rising target.fanins.count))
