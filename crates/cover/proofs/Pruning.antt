-- Irredundancy, one cube on.
use Rattle.std.proofs.Common.{◌≡◌, ℕ, ◌+◌, ◌<◌, ◌≤◌, Bool, true, false, not, ◌&&◌, ◌||◌, List, [], ◌∷◌, ◌++◌, length, get_or, take, drop, set, Decides, sym, refl, ap, ◌∙◌, subst, ap₂, inl, inr, ⊎_elim, add-zero, append_assoc, arith}
use Rattle.std.specs.List.{push, ContainsAt as Has}
use Rattle.std.proofs.lemmas.List.{length_push, drop_at, get_or-set_same, get_or-set_other, get_or-drop, length-set, drop_more, drop-drop, drop-set-lt, take_more_set}
use Rattle.std.proofs.lemmas.List.Folds.{list_any-append}
use Rattle.std.proofs.lemmas.Bool.{and_parts, and_from, and_left, and_right, or_left, or_right, or_parts, or_from, not-true, not_from_true, not_from_false, both_ways, cases_eq, cases_Bool, cond-true, cond-false}
use Rattle.network.specs.Rows.{bit_of}
use Rattle.network.specs.declared.row.Function.{Function}
use Rattle.roll.proofs.Members.{has-none, has_here, has_there, has-cases}
use Rattle.cover.specs.Cubes.{in_cube, in_cover, no_cube}
use Rattle.cover.specs.Tables.{IsSet, Meets, members, no_table}
use Rattle.cover.specs.Covers.{spare, pruned}
use Rattle.cover.specs.declared.cube.Cube.{Cube}
use Rattle.cover.proofs.Listed.{members-has, has-member}

-- entries from the length of `rest` on are the minterms of the cubes behind them, and `behind` those of all of these
pub record Fills (cubes : List Cube) (later : List Function) (behind : Function) (rest : List Cube) : Type 0 where
  pub whole : cubes ≡ rest ++ drop (length rest) cubes
  pub done : (k : ℕ) → length rest ≤ k → k < length cubes → IsSet (get_or later k no_table) (in_cover (drop (k + 1) cubes))
  pub next : IsSet behind (in_cover (drop (length rest) cubes))

-- one cube more from the end
pub fills-more : (cubes : List Cube) (later : List Function) (behind own both : Function) (rest less : List Cube) (c : Cube) (i : ℕ) → rest ≡ push less c → i ≡ length less → length cubes ≤ length later
    → IsSet own (in_cube c) → IsSet both (λ y. bit_of own y || bit_of behind y) → Fills cubes later behind rest → Fills cubes (set later i behind) both less
fills-more cubes later behind own both rest less c i e n m o b f =
    let size : length rest ≡ length less + 1 = ap length e ∙ length_push less c in
    let whole : cubes ≡ less ++ c ∷ drop (length less + 1) cubes = f.whole ∙ ap₂ (λ (xs : List Cube) k. xs ++ drop k cubes) e size ∙ append_assoc less (c ∷ []) (drop (length less + 1) cubes) in
    let behind-less : drop (length less) cubes ≡ c ∷ drop (length less + 1) cubes = ap (drop (length less)) whole ∙ drop_at less (c ∷ drop (length less + 1) cubes) (length less) refl in
    record {
      whole = whole ∙ ap (λ xs. less ++ xs) (sym behind-less);
      done = λ k h l. elim (cases_eq k i) [
        | inl s ↦ subst (λ t. IsSet t (in_cover (drop (k + 1) cubes))) (sym (ap (λ j. get_or (set later i behind) j no_table) s ∙ get_or-set_same later i behind no_table (omega arith)))
            (let j : length rest ≡ k + 1 = omega (arith, size) in subst (λ j. IsSet behind (in_cover (drop j cubes))) j f.next)
        | inr s ↦ subst (λ t. IsSet t (in_cover (drop (k + 1) cubes))) (sym (get_or-set_other later i k behind no_table s)) (f.done k (omega (arith, size)) l)
      ];
      next = λ y h. b y h ∙ ap₂ ◌||◌ (o y h) (f.next y h ∙ ap (λ j. in_cover (drop j cubes) y) size) ∙ ap (λ cs. in_cover cs y) (sym behind-less);
    }

-- an on-minterm in the cube that is in no other
pub spare-not : (on : List ℕ) (c : Cube) (others : List Cube) (y : ℕ) → Has on y → in_cube c y ≡ true → in_cover others y ≡ false → spare on c others ≡ false
spare-not [] c others y h i n = absurd (has-none y h)
spare-not (z ∷ on) c others y h i n =
    ⊎_elim
    (λ s. and_left (not (in_cube c z) || in_cover others z) (spare on c others) (or_from (not (in_cube c z)) (in_cover others z) (not_from_true (in_cube c z) (ap (in_cube c) s ∙ i)) (ap (in_cover others) s ∙ n)))
    (λ k. and_right (not (in_cube c z) || in_cover others z) (spare on c others) (spare-not on c others y k i n))
    (has-cases z y on h)

-- no on-minterm of the cube is in no other
pub spare-so : (on : List ℕ) (c : Cube) (others : List Cube) → ((y : ℕ) → Has on y → in_cube c y ≡ true → in_cover others y ≡ true) → spare on c others ≡ true
spare-so [] c others f = refl
spare-so (z ∷ on) c others f =
    and_from (not (in_cube c z) || in_cover others z) (spare on c others)
    (⊎_elim (λ i. or_right (not (in_cube c z)) (in_cover others z) (f z (has_here z z on refl) i)) (λ i. or_left (not (in_cube c z)) (in_cover others z) (not_from_false (in_cube c z) i)) (cases_Bool (in_cube c z)))
    (spare-so on c others (λ y k i. f y (has_there z y on k) i))

-- whether a cube can go, by the minterms that are on, in no cube that stays and in none behind it
pub spare-by-table : (on left later lone : Function) (c : Cube) (ks cs : List Cube) (r : Bool) → IsSet left (λ z. bit_of on z && not (in_cover ks z)) → IsSet later (in_cover cs)
    → IsSet lone (λ z. bit_of left z && not (bit_of later z)) → Decides r (Meets lone c) → spare (members on) c (ks ++ cs) ≡ not r
spare-by-table on left later lone c ks cs true l s e d =
    let w = d.0 refl in
    let y = w.0 in
    let h = w.1 in
    let t = and_parts (bit_of left y) (not (bit_of later y)) (sym (e y h) ∙ w.2) in
    let u = and_parts (bit_of on y) (not (in_cover ks y)) (sym (l y h) ∙ t.0) in
    let behind : in_cover cs y ≡ false = sym (s y h) ∙ not-true (bit_of later y) t.1 in
    spare-not (members on) c (ks ++ cs) y (has-member on y h u.0) w.3 (list_any-append (λ k. in_cube k y) ks cs ∙ or_from (in_cover ks y) (in_cover cs y) (not-true (in_cover ks y) u.1) behind)
spare-by-table on left later lone c ks cs false l s e d =
    spare-so (members on) c (ks ++ cs) (λ y k i.
    let m = members-has on y k in
    let h = m.0 in
    ⊎_elim (λ t. t)
    (λ t.
    let p = or_parts (in_cover ks y) (in_cover cs y) (sym (list_any-append (λ k. in_cube k y) ks cs) ∙ t) in
    let bare : bit_of left y ≡ true = l y h ∙ and_from (bit_of on y) (not (in_cover ks y)) m.1 (not_from_false (in_cover ks y) p.0) in
    let alone : bit_of lone y ≡ true = e y h ∙ and_from (bit_of left y) (not (bit_of later y)) bare (not_from_false (bit_of later y) (s y h ∙ p.1)) in
    absurd (both_ways false refl (d.1 (y, h, alone, i))))
    (cases_Bool (in_cover (ks ++ cs) y)))

-- cubes below i are tried, and the first `stays` places are those that stay
pub record Prunes (on left : Function) (first cubes : List Cube) (stays i : ℕ) : Type 0 where
  pub few : stays ≤ i
  pub whole : pruned (members on) (take stays cubes) (drop i first) ≡ pruned (members on) [] first
  pub bare : IsSet left (λ z. bit_of on z && not (in_cover (take stays cubes) z))
  pub long : length cubes ≡ length first
  pub rest : drop i cubes ≡ drop i first

at_zero : (xs : List Cube) (i : ℕ) → get_or xs i no_cube ≡ get_or (drop i xs) 0 no_cube
at_zero xs i = sym (get_or-drop i xs 0 no_cube ∙ ap (λ k. get_or xs k no_cube) (add-zero i))

-- the next cube, and those behind it
next-cube : (first cubes : List Cube) (i : ℕ) → i < length first → drop i cubes ≡ drop i first
    → drop i first ≡ get_or cubes i no_cube ∷ drop (i + 1) first
next-cube first cubes i l e =
    let same : get_or cubes i no_cube ≡ get_or first i no_cube = at_zero cubes i ∙ ap (λ cs. get_or cs 0 no_cube) e ∙ sym (at_zero first i) in
    drop_more first i no_cube l ∙ ap (λ d. d ∷ drop (i + 1) first) (sym same)

-- the rest of it, one on
next-rest : (first cubes : List Cube) (i : ℕ) → drop i cubes ≡ drop i first → drop (i + 1) cubes ≡ drop (i + 1) first
next-rest first cubes i e = sym (drop-drop 1 i cubes) ∙ ap (drop 1) e ∙ drop-drop 1 i first

-- the next cube goes
pub prunes-drop : (on left : Function) (first cubes : List Cube) (stays i : ℕ) → i < length first
    → spare (members on) (get_or cubes i no_cube) (take stays cubes ++ drop (i + 1) first) ≡ true
    → Prunes on left first cubes stays i → Prunes on left first cubes stays (i + 1)
prunes-drop on left first cubes stays i l t p =
    let few = p.few in
    let ks = take stays cubes in
    let c = get_or cubes i no_cube in
    let cs = drop (i + 1) first in
    let step : pruned (members on) ks (c ∷ cs) ≡ pruned (members on) ks cs =
    cond-true (spare (members on) c (ks ++ cs)) (pruned (members on) ks cs) (pruned (members on) (ks ++ c ∷ []) cs) t in
    record {
      few = omega arith;
      whole = sym step ∙ sym (ap (pruned (members on) ks) (next-cube first cubes i l p.rest)) ∙ p.whole;
      bare = p.bare;
      long = p.long;
      rest = next-rest first cubes i p.rest;
    }

less : (a b c : Bool) → (a && not b && not c) ≡ (a && not (b || (c || false)))
less true true c = refl
less true false true = refl
less true false false = refl
less false b c = refl

-- the next cube stays
pub prunes-keep : (on left less : Function) (first cubes : List Cube) (stays i : ℕ) → i < length first
    → spare (members on) (get_or cubes i no_cube) (take stays cubes ++ drop (i + 1) first) ≡ false
    → IsSet less (λ z. bit_of left z && not (in_cube (get_or cubes i no_cube) z))
    → Prunes on left first cubes stays i → Prunes on less first (set cubes stays (get_or cubes i no_cube)) (stays + 1) (i + 1)
prunes-keep on left less₀ first cubes stays i l t s p =
    let few = p.few in
    let long = p.long in
    let ks = take stays cubes in
    let c = get_or cubes i no_cube in
    let cs = drop (i + 1) first in
    let front : take (stays + 1) (set cubes stays c) ≡ ks ++ c ∷ [] = take_more_set cubes stays c (omega arith) in
    let step : pruned (members on) ks (c ∷ cs) ≡ pruned (members on) (ks ++ c ∷ []) cs =
    cond-false (spare (members on) c (ks ++ cs)) (pruned (members on) ks cs) (pruned (members on) (ks ++ c ∷ []) cs) t in
    record {
      few = omega arith;
      whole = ap (λ k. pruned (members on) k cs) front ∙ sym step ∙ sym (ap (pruned (members on) ks) (next-cube first cubes i l p.rest)) ∙ p.whole;
      bare = λ z h. s z h ∙ ap (λ b. b && not (in_cube c z)) (p.bare z h) ∙ less (bit_of on z) (in_cover ks z) (in_cube c z)
          ∙ ap (λ b. bit_of on z && not b) (sym (list_any-append (λ k. in_cube k z) ks (c ∷ [])) ∙ ap (λ ds. in_cover ds z) (sym front));
      long = length-set cubes stays c ∙ long;
      rest = drop-set-lt (i + 1) cubes stays c (omega arith) ∙ next-rest first cubes i p.rest;
    }

pub prunes-at : (on : Function) {left left' : Function} (first : List Cube) {cubes cubes' : List Cube} {stays stays' : ℕ} (i : ℕ) → left ≡ left' → cubes ≡ cubes' → stays ≡ stays'
    → Prunes on left' first cubes' stays' i → Prunes on left first cubes stays i
prunes-at on {left} {left'} first {cubes} {cubes'} {stays} {stays'} i a b e p =
    subst (λ t. Prunes on t first cubes stays i) (sym a) (subst (λ cs. Prunes on left' first cs stays i) (sym b) (subst (λ n. Prunes on left' first cubes' n i) (sym e) p))
