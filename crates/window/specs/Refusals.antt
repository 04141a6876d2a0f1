-- The numbers of the refusals, and their words.
use Rattle.std.specs.Prelude.{ℕ, List, Some, None, Option, codes}
use Rattle.window.specs.declared.refusal.ContextError.{ContextError}
use Rattle.window.specs.declared.refusal.ContextError.TheVariants.{NoNode, Level, Leaves, NoMemory}

-- want of memory has none
abbrev pub number_of : ContextError → Option ℕ
number_of NoNode = Some 8
number_of Level = Some 9
number_of Leaves = Some 10
number_of NoMemory = None

-- the refusal in words, for a person
abbrev pub words_of : ContextError → List ℕ
words_of NoNode = codes "there is no such node"
words_of Level = codes "a level is above the limit"
words_of Leaves = codes "there are too many leaves"
words_of NoMemory = codes "memory ran out"
