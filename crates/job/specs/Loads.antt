-- What is known of a network while it is read from a file that passes.
use Rattle.std.specs.Prelude.{◌≡◌, ℕ, ◌+◌, ◌*◌, List, [], length, None}
use Rattle.std.specs.List.{flat_map}
use Rattle.network.specs.Nets.{Net, nodes}
use Rattle.network.specs.Rows.{Legal}
use Rattle.network.specs.declared.row.Row.{Row}
use Rattle.job.specs.Checks.{byte_at, inputs_of, nodes_of, head_end, due_of, record_size, record_checks, verdict}
use Rattle.job.specs.Bytes.{signal_bytes, record_bytes, sizes, pairs_from, seg}

-- the row of the record at a place: its bytes are those of the record, and it is legal wherever the record passes
pub record RowLoaded (bs : List ℕ) (at : ℕ) (r : Row) : Type 0 where
  pub count : r.count ≡ byte_at bs at
  pub same : record_bytes r ≡ seg bs at (record_size (byte_at bs at))
  pub legal : (s : ℕ) → verdict (record_checks bs s at (record_size (byte_at bs at))) ≡ None → Legal s r

-- the first n nodes
pub record RowsLoaded (bs : List ℕ) (n : ℕ) (net : Net) : Type 0 where
  pub inputs : net.inputs ≡ inputs_of bs
  pub count : nodes net ≡ n
  pub outputs : net.outputs ≡ []
  pub pairs : pairs_from (head_end bs) net.rows ≡ seg bs 4 (4 * n)
  pub records : flat_map record_bytes net.rows ≡ seg bs (head_end bs) (sizes net.rows)
  pub end : head_end bs + sizes net.rows ≡ due_of bs n

-- all nodes and the first j outputs
pub record OutputsLoaded (bs : List ℕ) (j : ℕ) (net : Net) : Type 0 where
  pub inputs : net.inputs ≡ inputs_of bs
  pub count : nodes net ≡ nodes_of bs
  pub pairs : pairs_from (head_end bs) net.rows ≡ seg bs 4 (4 * nodes_of bs)
  pub records : flat_map record_bytes net.rows ≡ seg bs (head_end bs) (sizes net.rows)
  pub end : head_end bs + sizes net.rows ≡ due_of bs (nodes_of bs)
  pub outputs : length net.outputs ≡ j
  pub signals : signal_bytes net.outputs ≡ seg bs (4 + 4 * nodes_of bs) (2 * j)
