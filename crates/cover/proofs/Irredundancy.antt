-- What holds of the cubes that pruning leaves.
use Rattle.std.proofs.Common.{◌≡◌, ℕ, ◌+◌, ◌<◌, Bool, true, false, cond, not, ◌||◌, ◌⊎◌, List, [], ◌∷◌, ◌++◌, length, get_or, take, drop, sym, refl, ap, ◌∙◌, inl, inr, ⊎_elim, append_assoc, append-nil, add-one, arith, length-append, below_more}
use Rattle.std.specs.List.{ContainsAt as Has, remove}
use Rattle.std.proofs.lemmas.List.{get_or_append_left, take-append-le, drop-append-le, take_at, drop_all, get_or_at}
use Rattle.std.proofs.ByRecursion.{has_push_cases}
use Rattle.std.proofs.lemmas.List.Folds.{list_any-append}
use Rattle.std.proofs.lemmas.Bool.{and_parts, and_from, and_cases, or_left, or_right, or_cases, or_parts, or_from, not-true, not-false, both_ways}
use Rattle.roll.specs.Rolls.{under, ascending}
use Rattle.roll.proofs.Members.{has-none, has_here, has_there, has-cases}
use Rattle.cover.specs.Cubes.{in_cube, in_cover, cube_below, no_cube}
use Rattle.cover.specs.Covers.{spare, pruned}
use Rattle.cover.specs.declared.cube.Cube.{Cube}

-- an on-minterm of the cube that no other cube holds
abbrev Own : List ℕ → Cube → List Cube → Type 0
Own on c others = (y : ℕ) × Has on y × (in_cube c y ≡ true) × (in_cover others y ≡ false)

own : (on : List ℕ) (c : Cube) (others : List Cube) → spare on c others ≡ false → Own on c others
own [] c others e = absurd (both_ways true e refl)
own (z ∷ on) c others e =
    ⊎_elim
    (λ f. let p = or_parts (not (in_cube c z)) (in_cover others z) f in (z, has_here z z on refl, not-false (in_cube c z) p.0, p.1))
    (λ f. let w = own on c others f in (w.0, has_there z w.0 on w.1, w.2, w.3))
    (and_cases (not (in_cube c z) || in_cover others z) (spare on c others) e)

-- each on-minterm of a spare cube is in another
spare-other : (on : List ℕ) (c : Cube) (others : List Cube) → spare on c others ≡ true → (y : ℕ) → Has on y → in_cube c y ≡ true → in_cover others y ≡ true
spare-other [] c others e y h i = absurd (has-none y h)
spare-other (z ∷ on) c others e y h i =
    let p = and_parts (not (in_cube c z) || in_cover others z) (spare on c others) e in
    ⊎_elim
    (λ s. ⊎_elim (λ n. absurd (both_ways (in_cube c z) (not-true (in_cube c z) n) (ap (in_cube c) s ∙ i))) (λ k. ap (in_cover others) (sym s) ∙ k) (or_cases (not (in_cube c z)) (in_cover others z) p.0))
    (λ k. spare-other on c others p.1 y k i)
    (has-cases z y on h)

-- one cube fewer, in the middle, holds no more
fewer : (xs bs : List Cube) (d : Cube) (y : ℕ) → in_cover (xs ++ d ∷ bs) y ≡ false → in_cover (xs ++ bs) y ≡ false
fewer xs bs d y h =
    let p = or_parts (in_cover xs y) (in_cover (d ∷ bs) y) (sym (list_any-append (λ k. in_cube k y) xs (d ∷ bs)) ∙ h) in
    list_any-append (λ k. in_cube k y) xs bs ∙ or_from (in_cover xs y) (in_cover bs y) p.0 (or_parts (in_cube d y) (in_cover bs y) p.1).1

-- each cube that stays has such a minterm, against all cubes still there
abbrev Kept : List ℕ → List Cube → List Cube → Type 0
Kept on ks cs = (k : ℕ) → k < length ks → Own on (get_or ks k no_cube) (take k ks ++ (drop (k + 1) ks ++ cs))

gone : (on : List ℕ) (ks cs : List Cube) (d : Cube) → Kept on ks (d ∷ cs) → Kept on ks cs
gone on ks cs d p k h =
    let w = p k h in
    let y = w.0 in
    let f : in_cover ((take k ks ++ drop (k + 1) ks) ++ d ∷ cs) y ≡ false = ap (λ xs. in_cover xs y) (append_assoc (take k ks) (drop (k + 1) ks) (d ∷ cs)) ∙ w.3 in
    let g : in_cover ((take k ks ++ drop (k + 1) ks) ++ cs) y ≡ false = fewer (take k ks ++ drop (k + 1) ks) cs d y f in
    (y, w.1, w.2, ap (λ xs. in_cover xs y) (sym (append_assoc (take k ks) (drop (k + 1) ks) cs)) ∙ g)

stays : (on : List ℕ) (ks cs : List Cube) (d : Cube) → Own on d (ks ++ cs) → Kept on ks (d ∷ cs) → Kept on (ks ++ d ∷ []) cs
stays on ks cs d o p k h =
    let P : ℕ → Type 0 = λ k. Own on (get_or (ks ++ d ∷ []) k no_cube) (take k (ks ++ d ∷ []) ++ (drop (k + 1) (ks ++ d ∷ []) ++ cs)) in
    let n : length (ks ++ d ∷ []) ≡ length ks + 1 = simp length-append in
    below_more P (length ks)
    (λ j l.
    let t : take j (ks ++ d ∷ []) ≡ take j ks = take-append-le j ks (d ∷ []) (omega arith) in
    let r : drop (j + 1) (ks ++ d ∷ []) ++ cs ≡ drop (j + 1) ks ++ d ∷ cs =
    ap (λ (q : List Cube). q ++ cs) (drop-append-le (j + 1) ks (d ∷ []) (omega arith)) ∙ append_assoc (drop (j + 1) ks) (d ∷ []) cs in
    let g : get_or (ks ++ d ∷ []) j no_cube ≡ get_or ks j no_cube = get_or_append_left ks (d ∷ []) no_cube j l in
    rw (g, t, r) (p j l))
    (let t : take (length ks) (ks ++ d ∷ []) ≡ ks = take_at ks (d ∷ []) (length ks) refl in
    let r : drop (length ks + 1) (ks ++ d ∷ []) ≡ [] = drop_all (length ks + 1) (ks ++ d ∷ []) (omega arith) in
    let g : get_or (ks ++ d ∷ []) (length ks) no_cube ≡ d = get_or_at ks d [] no_cube (length ks) refl in
    rw (g, t, r) o)
    k (omega arith)

kept-all : (on : List ℕ) (ks cs : List Cube) → Kept on ks cs → Kept on (pruned on ks cs) []
kept-all on ks [] p = p
kept-all on ks (d ∷ cs) p =
    let P : Bool → Type 0 = λ b. spare on d (ks ++ cs) ≡ b → Kept on (cond b (pruned on ks cs) (pruned on (ks ++ d ∷ []) cs)) [] in
    let q : P (spare on d (ks ++ cs)) = elim (spare on d (ks ++ cs)) as P
    [ true ↦ (λ _. kept-all on ks cs (gone on ks cs d p)) | false ↦ (λ e. kept-all on (ks ++ d ∷ []) cs (stays on ks cs d (own on d (ks ++ cs) e) p)) ] in
    q refl

-- each cube that is left has an on-minterm that is in no other
pub pruned-own : (on : List ℕ) (cs : List Cube) (k : ℕ) → k < length (pruned on [] cs)
    → (y : ℕ) × Has on y × (in_cover (remove (pruned on [] cs) k) y ≡ false)
pruned-own on cs k h =
    let ks = pruned on [] cs in
    let w = kept-all on [] cs (λ k h. absurd (omega arith)) k h in
    let e : take k ks ++ (drop (k + 1) ks ++ []) ≡ remove ks k = ap (λ xs. take k ks ++ xs) (append-nil (drop (k + 1) ks)) ∙ ap (λ n. take k ks ++ drop n ks) (add-one k) in
    (w.0, w.1, ap (λ xs. in_cover xs w.0) (sym e) ∙ w.3)

under-fewer : (x : Cube) (ks : List Cube) (d : Cube) (cs : List Cube) → under cube_below x (ks ++ d ∷ cs) ≡ true → under cube_below x (ks ++ cs) ≡ true
under-fewer x [] d cs u = (and_parts (cube_below x d) (under cube_below x cs) u).1
under-fewer x (k ∷ ks) d cs u =
    let p = and_parts (cube_below x k) (under cube_below x (ks ++ d ∷ cs)) u in
    and_from (cube_below x k) (under cube_below x (ks ++ cs)) p.0 (under-fewer x ks d cs p.1)

rising-fewer : (ks : List Cube) (d : Cube) (cs : List Cube) → ascending cube_below (ks ++ d ∷ cs) ≡ true → ascending cube_below (ks ++ cs) ≡ true
rising-fewer [] d cs r = (and_parts (under cube_below d cs) (ascending cube_below cs) r).1
rising-fewer (k ∷ ks) d cs r =
    let p = and_parts (under cube_below k (ks ++ d ∷ cs)) (ascending cube_below (ks ++ d ∷ cs)) r in
    and_from (under cube_below k (ks ++ cs)) (ascending cube_below (ks ++ cs)) (under-fewer k ks d cs p.0) (rising-fewer ks d cs p.1)

module _ (on : List ℕ) where
  pub pruned-has : (ks cs : List Cube) (c : Cube) → Has (pruned on ks cs) c → Has ks c ⊎ Has cs c
  pruned-has ks [] c h = inl h
  pruned-has ks (d ∷ cs) c h =
      let P : Bool → Type 0 = λ b. Has (cond b (pruned on ks cs) (pruned on (ks ++ d ∷ []) cs)) c → Has ks c ⊎ Has (d ∷ cs) c in
      let p : P (spare on d (ks ++ cs)) = elim (spare on d (ks ++ cs)) as P [
        | true ↦ (λ k. ⊎_elim inl (λ m. inr (has_there d c cs m)) (pruned-has ks cs c k))
        | false ↦ (λ k. ⊎_elim (λ m. ⊎_elim inl (λ s. inr (has_here d c cs s)) (has_push_cases ks d c m)) (λ m. inr (has_there d c cs m)) (pruned-has (ks ++ d ∷ []) cs c k))
      ] in
      p h

  -- every on-minterm that was in a cube is in one
  pub pruned-holds : (ks cs : List Cube) (y : ℕ) → Has on y → in_cover (ks ++ cs) y ≡ true → in_cover (pruned on ks cs) y ≡ true
  pruned-holds ks [] y h e = ap (λ xs. in_cover xs y) (sym (append-nil ks)) ∙ e
  pruned-holds ks (d ∷ cs) y h e =
      let in-other : spare on d (ks ++ cs) ≡ true → in_cover (ks ++ cs) y ≡ true =
      λ s. ⊎_elim (λ k. list_any-append (λ k. in_cube k y) ks cs ∙ or_left (in_cover ks y) (in_cover cs y) k)
      (λ k. ⊎_elim (spare-other on d (ks ++ cs) s y h) (λ m. list_any-append (λ k. in_cube k y) ks cs ∙ or_right (in_cover ks y) (in_cover cs y) m) (or_cases (in_cube d y) (in_cover cs y) k))
      (or_cases (in_cover ks y) (in_cover (d ∷ cs) y) (sym (list_any-append (λ k. in_cube k y) ks (d ∷ cs)) ∙ e)) in
      let P : Bool → Type 0 = λ b. spare on d (ks ++ cs) ≡ b → in_cover (cond b (pruned on ks cs) (pruned on (ks ++ d ∷ []) cs)) y ≡ true in
      let p : P (spare on d (ks ++ cs)) = elim (spare on d (ks ++ cs)) as P [
        | true ↦ (λ s. pruned-holds ks cs y h (in-other s))
        | false ↦ (λ _. pruned-holds (ks ++ d ∷ []) cs y h (ap (λ xs. in_cover xs y) (append_assoc ks (d ∷ []) cs) ∙ e))
      ] in
      p refl

  -- they stay ascending
  pub pruned-rising : (ks cs : List Cube) → ascending cube_below (ks ++ cs) ≡ true → ascending cube_below (pruned on ks cs) ≡ true
  pruned-rising ks [] r = ap (ascending cube_below) (sym (append-nil ks)) ∙ r
  pruned-rising ks (d ∷ cs) r =
      let P : Bool → Type 0 = λ b. ascending cube_below (cond b (pruned on ks cs) (pruned on (ks ++ d ∷ []) cs)) ≡ true in
      elim (spare on d (ks ++ cs)) as P [
        | true ↦ pruned-rising ks cs (rising-fewer ks d cs r)
        | false ↦ pruned-rising (ks ++ d ∷ []) cs (ap (ascending cube_below) (append_assoc ks (d ∷ []) cs) ∙ r)
      ]
