use Rattle.std.proofs.Common.{◌≡◌, ℕ, ◌+◌, ◌-◌, ◌<◌, ◌≤◌, List, [], ◌∷◌, ◌++◌, length, take, drop, set, sym, refl, ap, ◌∙◌, subst, append_assoc, le_of_lt, add-one, arith, length-append, length-drop}
use Rattle.std.specs.List.{insert}
use Rattle.std.proofs.lemmas.List.{take_at, drop_at, set_split, take-append-drop, length-take-le}
use borrow.Rule.Slice.PartMut.{put_mid}

abbrev turned : {X : Type 0} → List X → List X
turned P = drop (length P - 1) P ++ take (length P - 1) P

turned-push : {X : Type 0} (B : List X) (e : X) → turned (B ++ e ∷ []) ≡ (e ∷ []) ++ B
turned-push B e =
    let n : length (B ++ e ∷ []) - 1 ≡ length B = simp length-append (omega arith) in
    rw n (rw (drop_at B (e ∷ []) (length B) refl) (rw (take_at B (e ∷ []) (length B) refl) refl))

core-put : {X : Type 0} (A B C : List X) (e : X) (at k : ℕ) → length A ≡ at → k ≡ length B + 1
    → (part : List X) → part ≡ turned (take k (drop at (A ++ (B ++ e ∷ C))))
    → put_mid at k (A ++ (B ++ e ∷ C)) part ≡ A ++ (e ∷ (B ++ C))
core-put A B C e at k h hk part hp =
    let d : drop at (A ++ (B ++ e ∷ C)) ≡ B ++ e ∷ C = drop_at A (B ++ e ∷ C) at h in
    let s : B ++ e ∷ C ≡ (B ++ e ∷ []) ++ C = sym (append_assoc B (e ∷ []) C) in
    let n : length (B ++ e ∷ []) ≡ k = simp length-append (omega arith) in
    let t : take k (drop at (A ++ (B ++ e ∷ C))) ≡ B ++ e ∷ [] = ap (take k) (d ∙ s) ∙ take_at (B ++ e ∷ []) C k n in
    let q : drop k (drop at (A ++ (B ++ e ∷ C))) ≡ C = ap (drop k) (d ∙ s) ∙ drop_at (B ++ e ∷ []) C k n in
    let p : part ≡ (e ∷ []) ++ B = hp ∙ (ap turned t ∙ turned-push B e) in
    let a : take at (A ++ (B ++ e ∷ C)) ≡ A = take_at A (B ++ e ∷ C) at h in
    cc

-- what a write at `count` and a turn of the part from `at` on come to
pub put-turned : {X : Type 0} (p : List X) (count at : ℕ) (e : X) (part : List X) → at ≤ count → count < length p
    → part ≡ turned (take (count + 1 - at) (drop at (set p count e)))
    → put_mid at (count + 1 - at) (set p count e) part ≡ insert (take count p) at e ++ drop (count + 1) p
put-turned {X = X} p count at e part h1 h2 hp =
    let A = take at (take count p) in
    let B = drop at (take count p) in
    let C = drop (count + 1) p in
    let n : length (take count p) ≡ count = length-take-le count p (le_of_lt h2) in
    let a : length A ≡ at = length-take-le at (take count p) (omega arith) in
    let b : count + 1 - at ≡ length B + 1 = simp length-drop (omega arith) in
    let s : set p count e ≡ A ++ (B ++ e ∷ C) =
    set_split p count e h2 ∙ (rw (sym (add-one count)) (rw (sym (append_assoc A B (e ∷ C))) (ap (λ q. q ++ e ∷ C) (sym (take-append-drop at (take count p)))))) in
    let P : List X → Type 0 = λ q. part ≡ turned (take (count + 1 - at) (drop at q)) in
    ap (λ q. put_mid at (count + 1 - at) q part) s ∙ (core-put A B C e at (count + 1 - at) a b part (subst P s hp) ∙ sym (append_assoc A (e ∷ B) C))
