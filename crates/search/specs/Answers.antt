-- The answers of a look: their numbers, and up to where each has settled the assignments.
use Rattle.std.specs.Prelude.{ℕ}
use Rattle.window.specs.declared.extracted.Context.{Context}
use Rattle.search.specs.Contexts.{space}
use Rattle.search.specs.declared.answer.Answer.{Answer}
use Rattle.search.specs.declared.answer.Answer.TheVariants.{Found, Spent, Exhausted}

abbrev pub number_of : Answer → ℕ
number_of (Found at upto) = 1
number_of (Spent upto) = 2
number_of Exhausted = 3

-- below it all assignments are settled
abbrev pub upto_of : Context → Answer → ℕ
upto_of c (Found at upto) = upto
upto_of c (Spent upto) = upto
upto_of c Exhausted = space c
