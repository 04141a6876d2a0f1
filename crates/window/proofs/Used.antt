-- The fanins in use, as a list.
use Rattle.std.proofs.Common.{◌≡◌, ℕ, ◌<◌, ◌≤◌, Bool, eqb, List, length, get_or, take, sym, ap, ◌∙◌, arith}
use Rattle.network.specs.Rows.{fanin, blank, no_signal}
use Rattle.network.specs.Nets.{Net, nodes, row_at, LegalNet}
use Rattle.network.specs.declared.row.Signal.{Signal}
use Rattle.network.specs.declared.row.Row.{Row}
use Rattle.context.specs.Care.{any_below}
use Rattle.context.specs.Levels.{is_fanin}
use Rattle.window.specs.Lists.{some_in, listed}
use Rattle.window.proofs.Marks.{list_any-take, list_any-below}

-- a set has one of the fanins in use exactly if it has one of those that count
pub some-used : (X : ℕ → Bool) (r : Row) → r.count ≤ length r.fanins → some_in X (take r.count r.fanins) ≡ any_below r.count (λ i. X (fanin r i))
some-used X r l = list_any-take (λ s. X s.0) r.fanins no_signal r.count l

listed-some : (xs : List Signal) (s : ℕ) → listed xs s ≡ some_in (λ k. eqb k s) xs
listed-some xs s = sym (list_any-below (λ x. eqb x.0 s) xs no_signal)

pub listed-used : (r : Row) (s : ℕ) → r.count ≤ length r.fanins → listed (take r.count r.fanins) s ≡ is_fanin r s
listed-used r s l = listed-some (take r.count r.fanins) s ∙ some-used (λ k. eqb k s) r l

-- the same of the fanins of node n, which were read from a list of the rows
module _ (net : Net) (rows : List Row) (used : List Signal) (n : ℕ) (legal : LegalNet net) (l : n < nodes net) (e : rows ≡ net.rows) (u : used ≡ take (get_or rows n blank).count (get_or rows n blank).fanins) where
  pub some_used : (X : ℕ → Bool) → some_in X used ≡ any_below (row_at net n).count (λ i. X (fanin (row_at net n) i))
  some_used X =
      let row = legal.row n l in
      ap (some_in X) (u ∙ ap (λ (rs : List Row). take (get_or rs n blank).count (get_or rs n blank).fanins) e) ∙ some-used X (row_at net n) (omega arith)

  pub listed_used : (s : ℕ) → listed used s ≡ is_fanin (row_at net n) s
  listed_used s = listed-some used s ∙ some_used (λ k. eqb k s)
