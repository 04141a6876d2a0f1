-- The values of a network are the only ones that agree with its inputs and rows.
use Rattle.std.proofs.Common.{◌≡◌, ℕ, ◌+◌, ◌^◌, ◌<◌, Bool, false, List, map, length, Option, sym, ap, ◌∙◌, arith}
use Rattle.std.specs.List.{range_with_len}
use Rattle.std.proofs.lemmas.List.FromFn.{length-map-range_with_len, get_or-map-range_with_len}
use Rattle.network.specs.Rows.{bit_of, fanin}
use Rattle.network.specs.Nets.{Net, nodes, size, row_at, LegalNet}
use Rattle.network.specs.declared.row.Row.{Row}
use Rattle.theory.specs.Values.{reads, turns, flipped, value_step, value, Values, Lowers}
use Rattle.theory.proofs.Numbers.{number_same, number-below}
use Rattle.theory.proofs.Passes.{rises, built-low, built-row}

-- a legal network has no cycle
pub lowers : {net : Net} → LegalNet net → Lowers net
lowers legal n l = (legal.row n l).lower

-- equal values at the fanins are read as equal minterms
pub reads_same : (r : Row) (v w : ℕ → Bool) → ((i : ℕ) → i < r.count → v (fanin r i) ≡ w (fanin r i)) → reads r v ≡ reads r w
unfolding reads
reads_same r v w h = number_same (λ i. v (fanin r i)) (λ i. w (fanin r i)) r.count h

-- what is read is a minterm of the row's fanins
pub reads-below : (r : Row) (v : ℕ → Bool) → reads r v < 2 ^ r.count
unfolding reads
reads-below r v = number-below (λ i. v (fanin r i)) r.count

-- two valuations that agree with the inputs and the rows are equal
pub unique : (turn : Option ℕ) (net : Net) (x v w : ℕ → Bool) → Lowers net → Values turn net x v → Values turn net x w → (s : ℕ) → s < size net → v s ≡ w s
unique turn net x v w low p q =
    rises (λ s. v s ≡ w s) net.inputs (nodes net)
    (λ i l. p.input i l ∙ sym (q.input i l))
    (λ n l below.
    let r : reads (row_at net n) v ≡ reads (row_at net n) w = reads_same (row_at net n) v w (λ i k. below (fanin (row_at net n) i) (low n l i k)) in
    p.node n l ∙ ap (λ y. flipped (turns turn (net.inputs + n)) (bit_of (row_at net n).function y)) r ∙ sym (q.node n l))

-- the values agree with the inputs and the rows
pub holds : (turn : Option ℕ) (net : Net) (x : ℕ → Bool) → Lowers net → Values turn net x (value turn net x)
unfolding value
holds turn net x low =
    let k = net.inputs in
    let vs : List Bool = map x (range_with_len 0 k) in
    let long : k ≡ length vs = sym (length-map-range_with_len x 0 k) in
    record {
      input = λ i l.
          let z : 0 + i ≡ i = omega arith in
          let q : i < length vs = omega arith in
          built-low (value_step turn) false net.rows vs i q ∙ get_or-map-range_with_len x 0 k i i false l z;
      node = built-row (value_step turn) false (λ s r v w h. ap (λ y. flipped (turns turn s) (bit_of r.function y)) (reads_same r v w h)) net.rows vs k long low;
    }

-- whatever agrees with them is the values
pub only : (turn : Option ℕ) (net : Net) (x v : ℕ → Bool) → Lowers net → Values turn net x v → (s : ℕ) → s < size net → v s ≡ value turn net x s
only turn net x v low p = unique turn net x v (value turn net x) low p (holds turn net x low)
