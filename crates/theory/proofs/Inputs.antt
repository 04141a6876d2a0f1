-- Only a network's own inputs matter.
use Rattle.std.proofs.Common.{◌≡◌, ℕ, ◌+◌, Bool, false, List, map, get_or, Option, sym, ap, ◌∙◌, arith}
use Rattle.std.specs.List.{range_with_len}
use Rattle.std.proofs.lemmas.List.FromFn.{length-map-range_with_len, get_or-map-range_with_len, fill_by_all}
use Rattle.network.specs.Rows.{bit_at}
use Rattle.network.specs.Nets.{Net}
use Rattle.theory.specs.Values.{AgreeBelow, number, valued, value}
use Rattle.theory.proofs.Numbers.{bit-number}

-- equal below k, so equal as lists of k values
pub counted_same : (x y : ℕ → Bool) (k : ℕ) → AgreeBelow k x y → map x (range_with_len 0 k) ≡ map y (range_with_len 0 k)
counted_same x y k h =
    fill_by_all y (map x (range_with_len 0 k)) k false (length-map-range_with_len x 0 k)
    (λ i l. let z : 0 + i ≡ i = omega arith in get_or-map-range_with_len x 0 k i i false l z ∙ h i l)

-- assignments that are equal at the network's inputs give equal values
pub value_same : (turn : Option ℕ) (net : Net) (x y : ℕ → Bool) → AgreeBelow net.inputs x y → (s : ℕ) → value turn net x s ≡ value turn net y s
unfolding value
value_same turn net x y h s = ap (λ (vs : List Bool). get_or (valued turn net.rows vs) s false) (counted_same x y net.inputs h)

-- the bits of an assignment's number give its values
pub value-number : (turn : Option ℕ) (net : Net) (x : ℕ → Bool) (s : ℕ) → value turn net x s ≡ value turn net (bit_at (number x net.inputs)) s
value-number turn net x = value_same turn net x (bit_at (number x net.inputs)) (λ i l. sym (bit-number x net.inputs i l))
