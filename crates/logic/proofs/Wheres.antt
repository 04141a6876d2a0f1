-- What stands in a slice after a pass over wanted signals.
use Rattle.std.proofs.Common.{◌≡◌, ℕ, ◌+◌, ◌<◌, ◌≤◌, Bool, true, false, List, length, get_or, take, drop, Option, sym, ap, ◌∙◌, arith}
use mathlib.Core.Path.{subst⁻¹}
use Rattle.std.proofs.lemmas.List.{get_or_default, get_or-take, length-take-le, same_lists, take_all}
use Rattle.network.specs.Rows.{fanin}
use Rattle.network.specs.Nets.{Net, nodes, size, row_at}
use Rattle.network.specs.declared.row.Row.{Row}
use Rattle.theory.specs.Values.{Lowers}
use Rattle.theory.proofs.Passes.{rises}
use Rattle.logic.specs.Lanes.{LaneRow, always, picked}
use Rattle.logic.specs.Sets.{is_in}
use Rattle.logic.specs.Walks.{walked, over, signal_row, WalkedWhere, AdmitWhere, Passed}
use Rattle.logic.proofs.Fronts.{front-all}
use Rattle.logic.proofs.Walks.{admit-front, leaves-long, walked-sound}
use Rattle.logic.proofs.Walks as walks

-- what is wanted has the fanins of each of its nodes
abbrev pub Shut : Net → (ℕ → Bool) → Type 0
Shut net is = (n i : ℕ) → n < nodes net → is (net.inputs + n) ≡ true → i < (row_at net n).count → is (fanin (row_at net n) i) ≡ true

module _ {V : Type 0} (pick : V → V → V → V) (of : Bool → V) (turn : Option ℕ) (net : Net) (low : Lowers net) (leaves : List V) (long : length leaves ≡ net.inputs) where
  -- a pass over all nodes gives each wanted signal its value
  pub passed_at : (is : ℕ → Bool) (es vs : List V) → Shut net is → take net.inputs es ≡ leaves → Passed pick of turn net 0 (nodes net) is es vs →
      (s : ℕ) → s < size net → is s ≡ true → get_or vs s (of false) ≡ walks.at pick of turn net low leaves long s
  passed_at is es vs shut e f =
      let v : ℕ → V = λ s. get_or vs s (of false) in
      let w : ℕ → V = walks.at pick of turn net low leaves long in
      rises (λ s. is s ≡ true → v s ≡ w s) net.inputs (nodes net)
      (λ i l _.
      f.below i (of false) (omega arith) ∙ sym (get_or-take net.inputs es i (of false) l) ∙ ap (λ l. get_or l i (of false)) e ∙ sym (walks.walked-leaf pick of turn net low leaves long i (of false) l))
      (λ n l below b.
      let r : Row = row_at net n in
      f.made n (of false) (omega arith) l b ∙ walks.local pick of turn (net.inputs + n) r v w (λ i q. below (fanin r i) (low n l i q) (shut n i l b q)) ∙ sym (walks.walked-node pick of turn net low leaves long n l))

  -- a slice that has the values of a set
  pub where_at : (needed : List Bool) (vs : List V) → size net ≤ length vs → ((s : ℕ) → s < size net → is_in needed s ≡ true → get_or vs s (of false) ≡ walks.at pick of turn net low leaves long s) →
      WalkedWhere needed (size net) (walked pick of turn net.rows leaves) vs
  where_at needed vs room f s d h e =
      let ws : List V = walked pick of turn net.rows leaves in
      let a : s < length vs = omega arith in
      let b : s < length ws = omega (arith, walks.walked-size pick of turn net low leaves long) in
      get_or_default vs s d (of false) a ∙ f s h e ∙ get_or_default ws s (of false) d b

  -- a slice that has all values, and behind them what es has there
  pub all_at : (vs es : List V) → size net ≤ length vs → ((s : ℕ) → s < size net → get_or vs s (of false) ≡ walks.at pick of turn net low leaves long s) → drop (size net) vs ≡ drop (size net) es →
      vs ≡ over (walked pick of turn net.rows leaves) es
  all_at vs es room f rest =
      let ws : List V = walked pick of turn net.rows leaves in
      let k : ℕ = size net in
      let size-is : length ws ≡ k = walks.walked-size pick of turn net low leaves long in
      let le : length ws ≤ k = omega arith in
      let front : take k vs ≡ ws =
      same_lists (take k vs) ws (length-take-le k vs room ∙ sym size-is)
      (λ s d h.
      let lt : s < k = omega (arith, length-take-le k vs room) in
      let a : s < length vs = omega arith in
      let b : s < length ws = omega arith in
      get_or-take k vs s d lt ∙ get_or_default vs s d (of false) a ∙ f s lt ∙ get_or_default ws s (of false) d b) in
      front-all vs ws es k size-is (record { front = front ∙ sym (take_all k ws le); rest = rest })

-- from the laws of a logic: every value of the set admits the row of its signal's values, if the leaves' do
pub where-sound : {V : Type 0} (admits : V → LaneRow → Type 0) (pick : V → V → V → V) (of : Bool → V) →
    ((b : Bool) → admits (of b) (always b)) →
    ((s h l : V) (a b c : LaneRow) → admits s a → admits h b → admits l c → admits (pick s h l) (picked a b c)) →
    (turn : Option ℕ) (net : Net) → Lowers net → (needed : List Bool) (es vs : List V) → size net ≤ length es →
    WalkedWhere needed (size net) (walked pick of turn net.rows (take net.inputs es)) vs → AdmitWhere needed admits turn net es vs
where-sound {V} admits pick of steady sound turn net low needed es vs room f rows all s d h e =
    subst⁻¹ (λ (x : V). admits x (signal_row turn net rows s)) (f s d h e)
    (walked-sound admits pick of steady sound turn net low (take net.inputs es) rows (leaves-long net es room) (admit-front admits es net.inputs rows all) s d h)
