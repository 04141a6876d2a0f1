-- The bytes of a job.
use Rattle.std.specs.Prelude.{ℕ, ◌+◌, ◌*◌, ◌/◌, ◌%◌, List, [], ◌∷◌, ◌++◌, length, take, drop}
use Rattle.std.specs.List.{flat_map}
use Rattle.network.specs.Nets.{Net}
use Rattle.network.specs.declared.row.Row.{Row}
use Rattle.network.specs.declared.row.Signal.{Signal}
use Rattle.job.specs.Checks.{width_of, record_size}

-- a word, the low byte first
abbrev pub le16 : ℕ → List ℕ
le16 n = n % 256 ∷ n / 256 ∷ []

abbrev pub signal_bytes : List Signal → List ℕ
signal_bytes ss = flat_map (λ s. le16 s.0) ss

-- the record of a row: f, the fanins, the function
abbrev pub record_bytes : Row → List ℕ
record_bytes r = r.count ∷ signal_bytes (take r.count r.fanins) ++ take (width_of r.count) r.function.bytes

-- how many bytes the records of some rows have
abbrev pub sizes : List Row → ℕ
sizes [] = 0
sizes (r ∷ rs) = record_size r.count + sizes rs

-- offset and length of each record, where the first starts at a place
abbrev pub pairs_from : ℕ → List Row → List ℕ
pairs_from at [] = []
pairs_from at (r ∷ rs) = (le16 at ++ le16 (record_size r.count)) ++ pairs_from (at + record_size r.count) rs

-- a whole job: counts, pairs, outputs, records
unfoldable pub encode : Net → List ℕ
encode net = (net.inputs ∷ length net.outputs ∷ le16 (length net.rows))
    ++ (pairs_from (4 + 4 * length net.rows + 2 * length net.outputs) net.rows
    ++ (signal_bytes net.outputs
    ++ flat_map record_bytes net.rows))

-- n bytes from a place on
unfoldable pub seg : List ℕ → ℕ → ℕ → List ℕ
seg bs a n = take n (drop a bs)

-- a list with others written over it from a place on
unfoldable pub splice : List ℕ → ℕ → List ℕ → List ℕ
splice o a x = take a o ++ (x ++ drop (a + length x) o)
