-- Signals in ascending order, and what one pass upward over the rows gives.
use Rattle.std.proofs.Common.{◌≡◌, ℕ, zero, suc, ◌+◌, ◌<◌, List, [], ◌∷◌, ◌++◌, length, get_or, sym, refl, ◌∙◌, subst, ⊎_elim, add-zero, arith}
use mathlib.Core.Path.{subst⁻¹}
use Rattle.std.proofs.lemmas.List.{get_or_append_left, get_or_push, length_push}
use Rattle.std.proofs.lemmas.Bool.{cases_eq}
use Rattle.network.specs.Rows.{blank, fanin, Lower}
use Rattle.network.specs.declared.row.Row.{Row}
use Rattle.theory.specs.Values.{built}

-- induction over signals: the k inputs, and each of n nodes from all lower signals
pub rises : (P : ℕ → Type 0) (k n : ℕ) → ((i : ℕ) → i < k → P i) → ((j : ℕ) → j < n → ((s : ℕ) → s < k + j → P s) → P (k + j)) → (s : ℕ) → s < k + n → P s
rises P k zero leaf node s h = leaf s (omega arith)
rises P k (suc n) leaf node s h =
    let below : (s : ℕ) → s < k + n → P s = rises P k n leaf (λ j l. node j (omega arith)) in
    ⊎_elim (λ e. subst⁻¹ P e (node n (omega arith) below)) (λ ne. below s (omega arith)) (cases_eq s (k + n))

module _ {A : Type 0} (step : ℕ → Row → (ℕ → A) → A) (d : A) where
  -- later rows change no entry
  pub built-low : (rs : List Row) (vs : List A) (s : ℕ) → s < length vs → get_or (built step d rs vs) s d ≡ get_or vs s d
  unfolding built
  built-low [] vs s h = refl
  built-low (r ∷ rs) vs s h =
      let b : A = step (length vs) r (λ s. get_or vs s d) in
      let l : s < length (vs ++ (b ∷ [])) = omega (arith, length_push vs b) in
      built-low rs (vs ++ (b ∷ [])) s l ∙ get_or_append_left vs (b ∷ []) d s h

  -- one entry for each row
  pub built-length : (rs : List Row) (vs : List A) → length (built step d rs vs) ≡ length vs + length rs
  unfolding built
  built-length [] vs = sym (add-zero (length vs))
  built-length (r ∷ rs) vs =
      let b : A = step (length vs) r (λ s. get_or vs s d) in
      let e = built-length rs (vs ++ (b ∷ [])) in
      omega (arith, e, length_push vs b)

  -- a pass can be cut in two
  pub built-append : (rs qs : List Row) (vs : List A) → built step d (rs ++ qs) vs ≡ built step d qs (built step d rs vs)
  unfolding built
  built-append [] qs vs = refl
  built-append (r ∷ rs) qs vs = built-append rs qs (vs ++ (step (length vs) r (λ s. get_or vs s d) ∷ []))

  -- where a step asks only for its row's fanins, and these are lower signals, each row has its entry from the finished list
  pub built-row : ((s : ℕ) (r : Row) (v w : ℕ → A) → ((i : ℕ) → i < r.count → v (fanin r i) ≡ w (fanin r i)) → step s r v ≡ step s r w) →
      (rs : List Row) (vs : List A) (k : ℕ) → k ≡ length vs → ((n : ℕ) → n < length rs → Lower (k + n) (get_or rs n blank)) →
      (n : ℕ) → n < length rs → get_or (built step d rs vs) (k + n) d ≡ step (k + n) (get_or rs n blank) (λ s. get_or (built step d rs vs) s d)
  unfolding built
  built-row local [] vs k e lowers n h = absurd (omega arith)
  built-row local (r ∷ rs) vs k e lowers zero h =
      let b : A = step (length vs) r (λ s. get_or vs s d) in
      let us : List A = vs ++ (b ∷ []) in
      let w : ℕ → A = λ s. get_or (built step d rs us) s d in
      let z : k + 0 ≡ length vs = omega arith in
      let l : length vs < length us = omega (arith, length_push vs b) in
      let one : w (length vs) ≡ b = built-low rs us (length vs) l ∙ get_or_push vs b d (length vs) refl in
      let two : b ≡ step (length vs) r w =
      local (length vs) r (λ s. get_or vs s d) w (λ i q.
      let low : fanin r i < length vs = omega (arith, lowers 0 (omega arith) i q) in
      sym (built-low (r ∷ rs) vs (fanin r i) low)) in
      subst⁻¹ (λ (p : ℕ). w p ≡ step p r w) z (one ∙ two)
  built-row local (r ∷ rs) vs k e lowers (suc n) h =
      let b : A = step (length vs) r (λ s. get_or vs s d) in
      let us : List A = vs ++ (b ∷ []) in
      let w : ℕ → A = λ s. get_or (built step d rs us) s d in
      let z : suc k + n ≡ k + suc n = omega arith in
      let long : suc k ≡ length us = omega (arith, length_push vs b) in
      let there = built-row local rs us (suc k) long (λ n l i q. let o = lowers (suc n) (omega arith) i q in omega arith) n (omega arith) in
      subst (λ (p : ℕ). w p ≡ step p (get_or rs n blank) w) z there
