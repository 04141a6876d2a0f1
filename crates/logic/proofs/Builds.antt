-- One pass upward over the rows of a network, and a slice into which it is written place by place.
use Rattle.std.proofs.Common.{◌≡◌, ℕ, ◌+◌, ◌<◌, ◌≤◌, List, length, get_or, take, set, sym, ap, ◌∙◌, subst, add-zero, add_assoc, arith}
use mathlib.Core.Path.{subst⁻¹}
use Rattle.std.proofs.lemmas.List.{get_or_default, get_or-take, length-take-le, same_lists}
use Rattle.network.specs.Rows.{fanin}
use Rattle.network.specs.Nets.{Net, nodes, size, row_at}
use Rattle.network.specs.declared.row.Row.{Row}
use Rattle.theory.specs.Values.{built, Lowers}
use Rattle.theory.proofs.Passes.{built-low, built-length, built-row}
use Rattle.logic.specs.Walks.{over}
use Rattle.logic.proofs.Fronts.{Front, front-none, front-more, front-all, front_at}

-- the step asks only for its row's fanins
abbrev pub Local : {A : Type 0} → (ℕ → Row → (ℕ → A) → A) → Type 0
Local {A} step = (s : ℕ) (r : Row) (v w : ℕ → A) → ((i : ℕ) → i < r.count → v (fanin r i) ≡ w (fanin r i)) → step s r v ≡ step s r w

module _ {A : Type 0} (step : ℕ → Row → (ℕ → A) → A) (d : A) (local : Local step) (net : Net) (low : Lowers net) (leaves : List A) (long : length leaves ≡ net.inputs) where
  -- what the pass gives
  abbrev pub done : List A
  done = built step d net.rows leaves

  -- an entry for each signal
  pub done-size : length done ≡ size net
  done-size = built-length step d net.rows leaves ∙ ap (λ k. k + nodes net) long

  -- the leaves' entries stay
  pub done-leaf : (s : ℕ) (e : A) → s < net.inputs → get_or done s e ≡ get_or leaves s e
  done-leaf s e h =
      let l : s < length leaves = omega arith in
      let m : s < length done = omega (arith, done-size) in
      get_or_default done s e d m ∙ built-low step d net.rows leaves s l ∙ get_or_default leaves s d e l

  pub done-front : take net.inputs done ≡ leaves
  done-front =
      let k : ℕ = net.inputs in
      let fits : k ≤ length done = omega (arith, done-size) in
      same_lists (take k done) leaves (length-take-le k done fits ∙ sym long)
      (λ s e h.
      let lt : s < k = omega (arith, length-take-le k done fits) in
      get_or-take k done s e lt ∙ done-leaf s e lt)

  -- each node's entry is made from those of lower signals
  pub done-node : (n : ℕ) → n < nodes net → get_or done (net.inputs + n) d ≡ step (net.inputs + n) (row_at net n) (λ s. get_or done s d)
  done-node = built-row step d local net.rows leaves net.inputs (sym long) low

  -- a slice that has the leaves' entries
  pub slice-none : (es : List A) → take net.inputs es ≡ leaves → Front es (net.inputs + 0) done es
  slice-none es e = subst⁻¹ (λ (m : ℕ). Front es m done es) (add-zero net.inputs) (front-none es done net.inputs (e ∙ sym done-front))

  -- the next entry, from a slice that has those below it
  pub slice-next : (vs es : List A) (n : ℕ) → n < nodes net → Front vs (net.inputs + n) done es → step (net.inputs + n) (row_at net n) (λ s. get_or vs s d) ≡ get_or done (net.inputs + n) d
  slice-next vs es n h f =
      let m : ℕ = net.inputs + n in
      local m (row_at net n) (λ s. get_or vs s d) (λ s. get_or done s d) (λ i q. front_at vs done es m (fanin (row_at net n) i) d (low n h i q) f) ∙ sym (done-node n h)

  -- one entry more
  pub slice-more : (vs es : List A) (n : ℕ) (v : A) → n < nodes net → size net ≤ length vs → Front vs (net.inputs + n) done es → v ≡ get_or done (net.inputs + n) d →
      Front (set vs (net.inputs + n) v) (net.inputs + (n + 1)) done es
  slice-more vs es n v h room f is =
      let m : ℕ = net.inputs + n in
      let fits : m < length vs = omega arith in
      let more : m < length done = omega (arith, done-size) in
      subst (λ (k : ℕ). Front (set vs m v) k done es) (add_assoc net.inputs n 1) (front-more vs done es m v d fits more is f)

  -- all entries
  pub slice_all : (vs es : List A) (n : ℕ) → n ≡ nodes net → Front vs (net.inputs + n) done es → vs ≡ over done es
  slice_all vs es n e f = front-all vs done es (net.inputs + n) (done-size ∙ ap (λ m. net.inputs + m) (sym e)) f
