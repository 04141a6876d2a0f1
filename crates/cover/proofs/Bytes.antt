-- Sets of minterms, byte by byte.
use Rattle.std.proofs.Common.{◌≡◌, ℕ, ◌/◌, ◌%◌, ◌<◌, Bool, get_or, ap, ◌∙◌, mod-lt, arith, lit<}
use Rattle.network.specs.Limits.{function_bytes}
use Rattle.network.specs.Rows.{bit_at, bit_of}
use Rattle.network.specs.declared.row.Function.{Function}
use Rattle.cover.specs.Tables.{IsSet}

-- the bits of a table of which each byte is made from those of two
pub combined-set : (op : ℕ → ℕ → ℕ) (bit : Bool → Bool → Bool) (a b r : Function)
    → ((j i : ℕ) → j < function_bytes → i < 8 → bit_at (op (get_or a.bytes j 0) (get_or b.bytes j 0)) i ≡ bit (bit_at (get_or a.bytes j 0) i) (bit_at (get_or b.bytes j 0) i))
    → ((j : ℕ) → j < function_bytes → get_or r.bytes j 0 ≡ op (get_or a.bytes j 0) (get_or b.bytes j 0))
    → IsSet r (λ y. bit (bit_of a y) (bit_of b y))
unfolding bit_of
combined-set op bit a b r law made y h =
    let d : y / 8 < function_bytes = omega arith in
    ap (λ n. bit_at n (y % 8)) (made (y / 8) d) ∙ law (y / 8) (y % 8) d (mod-lt y (lit< tt))
