-- The walked values: what they are at each signal, and which rows they admit.
use Rattle.std.proofs.Common.{◌≡◌, ℕ, ◌+◌, ◌<◌, ◌≤◌, Bool, false, List, length, get_or, take, drop, set, Option, sym, ap, ◌∙◌, subst, arith}
use mathlib.Core.Path.{subst⁻¹, fun_ext}
use Rattle.std.proofs.lemmas.List.{get_or_default, get_or-take, length-take-le, take-append-le, take_at}
use Rattle.network.specs.Rows.{fanin}
use Rattle.network.specs.Nets.{Net, nodes, size, row_at}
use Rattle.network.specs.declared.row.Row.{Row}
use Rattle.theory.specs.Values.{turns, flipped, value_of, Lowers}
use Rattle.theory.proofs.Passes.{rises}
use Rattle.theory.proofs.Values.{holds}
use Rattle.logic.specs.Lanes.{LaneRow, always, picked, Admit}
use Rattle.logic.specs.Folds.{node_of, turned_of}
use Rattle.logic.specs.Walks.{node_step, walked, over, signal_row}
use Rattle.logic.proofs.Folds.{node-same, node-sound, turned-sound}
use Rattle.logic.proofs.Fronts.{Front, over-at}
use Rattle.logic.proofs.Builds as builds

module _ {V : Type 0} (pick : V → V → V → V) (of : Bool → V) (turn : Option ℕ) where
  pub local : builds.Local (node_step pick of turn)
  local s r v w h = ap (turned_of pick of (turns turn s)) (node-same pick of r v w h)

  module _ (net : Net) (low : Lowers net) (leaves : List V) (long : length leaves ≡ net.inputs) where
    -- one value for each signal
    pub walked-size : length (walked pick of turn net.rows leaves) ≡ size net
    unfolding walked
    walked-size = builds.done-size (node_step pick of turn) (of false) local net low leaves long

    -- the leaves' values stay
    pub walked-leaf : (s : ℕ) (d : V) → s < net.inputs → get_or (walked pick of turn net.rows leaves) s d ≡ get_or leaves s d
    unfolding walked
    walked-leaf = builds.done-leaf (node_step pick of turn) (of false) local net low leaves long

    pub walked-front : take net.inputs (walked pick of turn net.rows leaves) ≡ leaves
    unfolding walked
    walked-front = builds.done-front (node_step pick of turn) (of false) local net low leaves long

    -- the values as a function
    abbrev pub at : ℕ → V
    at s = get_or (walked pick of turn net.rows leaves) s (of false)

    -- each node's value is made from those of lower signals
    pub walked-node : (n : ℕ) → n < nodes net → at (net.inputs + n) ≡ node_step pick of turn (net.inputs + n) (row_at net n) at
    unfolding walked
    walked-node = builds.done-node (node_step pick of turn) (of false) local net low leaves long

    -- a walk into a slice: only the leaves have their values
    pub walk_none : (es : List V) → take net.inputs es ≡ leaves → Front es (net.inputs + 0) (walked pick of turn net.rows leaves) es
    unfolding walked
    walk_none = builds.slice-none (node_step pick of turn) (of false) local net low leaves long

    -- the next node's value, from a slice that has those below it
    pub walk-next : (vs es : List V) (n : ℕ) → n < nodes net → Front vs (net.inputs + n) (walked pick of turn net.rows leaves) es →
        node_step pick of turn (net.inputs + n) (row_at net n) (λ s. get_or vs s (of false)) ≡ at (net.inputs + n)
    unfolding walked
    walk-next = builds.slice-next (node_step pick of turn) (of false) local net low leaves long

    -- one node more
    pub walk_more : (vs es : List V) (n : ℕ) (v : V) → n < nodes net → size net ≤ length vs → Front vs (net.inputs + n) (walked pick of turn net.rows leaves) es → v ≡ at (net.inputs + n) →
        Front (set vs (net.inputs + n) v) (net.inputs + (n + 1)) (walked pick of turn net.rows leaves) es
    unfolding walked
    walk_more = builds.slice-more (node_step pick of turn) (of false) local net low leaves long

    -- all nodes have their values
    pub walk-all : (vs es : List V) (n : ℕ) → n ≡ nodes net → Front vs (net.inputs + n) (walked pick of turn net.rows leaves) es → vs ≡ over (walked pick of turn net.rows leaves) es
    unfolding walked
    walk-all = builds.slice_all (node_step pick of turn) (of false) local net low leaves long

    -- the leaves' places keep what they had
    pub over-leaves : (es : List V) → take net.inputs (over (walked pick of turn net.rows leaves) es) ≡ leaves
    over-leaves es =
        let ws : List V = walked pick of turn net.rows leaves in
        take-append-le net.inputs ws (drop (length ws) es) (let l : net.inputs ≤ length ws = omega (arith, walked-size) in l) ∙ walked-front

    pub over-walked : (es : List V) → take (size net) (over (walked pick of turn net.rows leaves) es) ≡ walked pick of turn net.rows leaves
    over-walked es = let ws : List V = walked pick of turn net.rows leaves in take_at ws (drop (length ws) es) (size net) walked-size

-- the leaves' values, in the front of a slice
pub leaves-long : {V : Type 0} (net : Net) (es : List V) → size net ≤ length es → length (take net.inputs es) ≡ net.inputs
leaves-long net es room = length-take-le net.inputs es (let l : net.inputs ≤ length es = omega arith in l)

-- from the laws of a logic
module _ {V : Type 0} (admits : V → LaneRow → Type 0) (pick : V → V → V → V) (of : Bool → V)
    (steady : (b : Bool) → admits (of b) (always b))
    (sound : (s h l : V) (a b c : LaneRow) → admits s a → admits h b → admits l c → admits (pick s h l) (picked a b c))
    (turn : Option ℕ) (net : Net) (low : Lowers net) where
  -- every value admits the row of its signal's values, if the leaves' do
  pub walked-sound : (leaves : List V) (rows : ℕ → LaneRow) → length leaves ≡ net.inputs → Admit admits leaves net.inputs rows →
      Admit admits (walked pick of turn net.rows leaves) (size net) (signal_row turn net rows)
  walked-sound leaves rows long all s d h =
      let k : ℕ = net.inputs in
      let ws : List V = walked pick of turn net.rows leaves in
      let v : ℕ → V = at pick of turn net low leaves long in
      let input : (i : ℕ) → i < k → admits (v i) (signal_row turn net rows i) =
      λ i b.
      let row : rows i ≡ signal_row turn net rows i = fun_ext (λ l. sym ((holds turn net (λ j. rows j l) low).input i b)) in
      subst⁻¹ (λ (x : V). admits x (signal_row turn net rows i)) (walked-leaf pick of turn net low leaves long i (of false) b) (subst (λ (r : LaneRow). admits (get_or leaves i (of false)) r) row (all i (of false) b)) in
      let node : (n : ℕ) → n < nodes net → ((s : ℕ) → s < k + n → admits (v s) (signal_row turn net rows s)) → admits (v (k + n)) (signal_row turn net rows (k + n)) =
      λ n b below.
      let r : Row = row_at net n in
      let made = node-sound admits pick of steady sound r v (signal_row turn net rows) (λ i q. below (fanin r i) (low n b i q)) in
      let turned = turned-sound admits pick of steady sound (turns turn (k + n)) (node_of pick of r v) (λ l. value_of r (λ s. signal_row turn net rows s l)) made in
      let row : (λ l. flipped (turns turn (k + n)) (value_of r (λ s. signal_row turn net rows s l))) ≡ signal_row turn net rows (k + n) =
      fun_ext (λ l. sym ((holds turn net (λ j. rows j l) low).node n b)) in
      subst⁻¹ (λ (x : V). admits x (signal_row turn net rows (k + n))) (walked-node pick of turn net low leaves long n b) (subst (λ (w : LaneRow). admits (node_step pick of turn (k + n) r v) w) row turned) in
      let inside : s < length ws = omega (arith, walked-size pick of turn net low leaves long) in
      subst⁻¹ (λ (x : V). admits x (signal_row turn net rows s)) (get_or_default ws s d (of false) inside)
      (rises (λ s. admits (v s) (signal_row turn net rows s)) k (nodes net) input node s h)

  -- the same in a slice
  pub over-sound : (leaves es : List V) (rows : ℕ → LaneRow) → length leaves ≡ net.inputs → Admit admits leaves net.inputs rows →
      Admit admits (over (walked pick of turn net.rows leaves) es) (size net) (signal_row turn net rows)
  over-sound leaves es rows long all s d h =
      let ws : List V = walked pick of turn net.rows leaves in
      let lt : s < length ws = omega (arith, walked-size pick of turn net low leaves long) in
      subst⁻¹ (λ (x : V). admits x (signal_row turn net rows s)) (over-at ws es s d lt) (walked-sound leaves rows long all s d h)

-- what the front of a slice admits
pub admit-front : {V : Type 0} (admits : V → LaneRow → Type 0) (es : List V) (n : ℕ) (rows : ℕ → LaneRow) → Admit admits es n rows → Admit admits (take n es) n rows
admit-front {V} admits es n rows all i d h = subst⁻¹ (λ (x : V). admits x (rows i)) (get_or-take n es i d h) (all i d h)
