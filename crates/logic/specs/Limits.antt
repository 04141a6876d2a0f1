-- How many lanes a word has.
use Rattle.std.specs.Prelude.{ℕ}

-- bits of a word: its lanes, and the outputs that one number holds
abbrev pub word_bits : ℕ
word_bits = 64
