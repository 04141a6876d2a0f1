-- The counting finder.
use Rattle.std.specs.Prelude.{◌≡◌, ℕ, ◌+◌, ◌<◌, ◌≤◌, false}
use Rattle.window.specs.declared.extracted.Context.{Context}
use Rattle.search.specs.Contexts.{space, dull_at, DullIn}
use Rattle.search.specs.declared.listed.Listed.{Listed}
use Rattle.search.specs.declared.answer.Answer.{Answer}
use Rattle.search.specs.declared.answer.Answer.TheVariants.{Found, Spent, Exhausted}

-- its answer from `from` with budget b: the first assignment that is not dull, if fewer than b dull ones lie before it; spent
-- if b dull ones lie there and some are left; none if all that are left are dull
abbrev pub Counts : Context → Listed → ℕ → ℕ → Answer → Type 0
Counts c l from b (Found at upto) = (at.0 ≡ upto) × (from ≤ upto) × (upto < from + b) × (upto < space c) × DullIn c l from upto × (dull_at c l upto ≡ false)
Counts c l from b (Spent upto) = (upto ≡ from + b) × (upto < space c) × DullIn c l from upto
Counts c l from b Exhausted = (space c ≤ from + b) × DullIn c l from (space c)

-- there is just one answer
abbrev pub CountsOnce : Type 0
CountsOnce = (c : Context) (l : Listed) (from b : ℕ) (r s : Answer) → Counts c l from b r → Counts c l from b s → r ≡ s
