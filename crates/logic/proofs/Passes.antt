-- One pass upward over some nodes of a network, written place by place into a slice.
use Rattle.std.proofs.Common.{◌≡◌, ℕ, ◌+◌, ◌<◌, ◌≤◌, Bool, true, false, List, length, get_or, drop, set, Option, sym, refl, ap, ◌∙◌, ⊎_elim, arith}
use Rattle.std.proofs.lemmas.List.{get_or-set_same, get_or-set_other, drop-set-lt, drop-drop}
use Rattle.std.proofs.lemmas.Bool.{cases_eq, false≢true}
use Rattle.network.specs.Rows.{fanin}
use Rattle.network.specs.Nets.{Net, nodes, size, row_at}
use Rattle.theory.specs.Values.{turns, Lowers}
use Rattle.logic.specs.Folds.{turned_of}
use Rattle.logic.specs.Walks.{node_step, Passed}
use Rattle.logic.proofs.Folds.{node-same}

module _ {V : Type 0} (pick : V → V → V → V) (of : Bool → V) (turn : Option ℕ) (net : Net) (first : ℕ) (wanted : ℕ → Bool) (es : List V) where
  -- no node yet
  pub passed_none : Passed pick of turn net first first wanted es es
  passed_none = record {
    made = λ n d low h e. absurd (omega arith);
    below = λ s d h. refl;
    others = λ s d e. refl;
    behind = refl;
  }

  -- one node more, which is not wanted
  pub passed-skip : (vs : List V) (n : ℕ) → wanted (net.inputs + n) ≡ false → Passed pick of turn net first n wanted es vs → Passed pick of turn net first (n + 1) wanted es vs
  passed-skip vs n not f = record {
    made = λ m d low h e.
        ⊎_elim
        (λ (q : m ≡ n). absurd (false≢true (sym not ∙ ap (λ k. wanted (net.inputs + k)) (sym q) ∙ e)))
        (λ ne. f.made m d low (omega arith) e)
        (cases_eq m n);
    below = f.below;
    others = f.others;
    behind = let z : net.inputs + (n + 1) ≡ net.inputs + n + 1 = omega arith in
        ap (λ k. drop k vs) z ∙ sym (drop-drop 1 (net.inputs + n) vs) ∙ ap (drop 1) f.behind ∙ drop-drop 1 (net.inputs + n) es ∙ ap (λ k. drop k es) (sym z);
  }

  -- one node more, with its value
  pub passed-make : Lowers net → (vs : List V) (n : ℕ) (v : V) → first ≤ n → n < nodes net → size net ≤ length vs → wanted (net.inputs + n) ≡ true →
      ((d : V) → v ≡ node_step pick of turn (net.inputs + n) (row_at net n) (λ s. get_or vs s d)) →
      Passed pick of turn net first n wanted es vs → Passed pick of turn net first (n + 1) wanted es (set vs (net.inputs + n) v)
  passed-make low vs n v up h room chosen is f =
      let i : ℕ = net.inputs + n in
      let ws : List V = set vs i v in
      let fits : i < length vs = omega arith in
      let same : (m : ℕ) (d : V) → m < nodes net → m ≤ n → node_step pick of turn (net.inputs + m) (row_at net m) (λ s. get_or vs s d) ≡ node_step pick of turn (net.inputs + m) (row_at net m) (λ s. get_or ws s d) =
      λ m d b le.
      ap (turned_of pick of (turns turn (net.inputs + m)))
      (node-same pick of (row_at net m) (λ s. get_or vs s d) (λ s. get_or ws s d)
      (λ j q. let o = low m b j q in sym (get_or-set_other vs i (fanin (row_at net m) j) v d (λ e. omega arith)))) in
      record {
        made = λ m d lo hi e.
            ⊎_elim
            (λ (q : m ≡ n).
            ap (λ k. get_or ws (net.inputs + k) d) q ∙ get_or-set_same vs i v d fits ∙ is d ∙ same n d h (omega arith) ∙ ap (λ k. node_step pick of turn (net.inputs + k) (row_at net k) (λ s. get_or ws s d)) (sym q))
            (λ ne. get_or-set_other vs i (net.inputs + m) v d (λ q. ne (omega arith)) ∙ f.made m d lo (omega arith) e ∙ same m d (omega arith) (omega arith))
            (cases_eq m n);
        below = λ s d b. get_or-set_other vs i s v d (λ q. omega arith) ∙ f.below s d b;
        others = λ s d e. get_or-set_other vs i s v d (λ q. false≢true (sym e ∙ ap wanted q ∙ chosen)) ∙ f.others s d e;
        behind = let z : i + 1 ≡ net.inputs + (n + 1) = omega arith in
            let lt : i < i + 1 = omega arith in
            ap (λ k. drop k ws) (sym z) ∙ drop-set-lt (i + 1) vs i v lt ∙ sym (drop-drop 1 i vs) ∙ ap (drop 1) f.behind ∙ drop-drop 1 i es ∙ ap (λ k. drop k es) z;
      }
