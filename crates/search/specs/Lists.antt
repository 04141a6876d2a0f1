-- Lists of minterms.
use Rattle.std.specs.Prelude.{ℕ, Bool}
use Rattle.network.specs.Rows.{bit_of}
use Rattle.search.specs.declared.listed.Listed.{Listed}

-- minterm y is listed
abbrev pub has : Listed → ℕ → Bool
has l y = bit_of l.table y
