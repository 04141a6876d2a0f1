-- The finder rules: what a look has to answer.
use Rattle.std.specs.Prelude.{◌≡◌, ℕ, ◌+◌, ◌<◌, ◌≤◌, false}
use Rattle.window.specs.declared.extracted.Context.{Context}
use Rattle.search.specs.Limits.{max_budget}
use Rattle.search.specs.Contexts.{space, dull_at, DullTo}
use Rattle.search.specs.Answers.{upto_of}
use Rattle.search.specs.declared.listed.Listed.{Listed}
use Rattle.search.specs.declared.answer.Answer.{Answer}
use Rattle.search.specs.declared.answer.Answer.TheVariants.{Found, Spent, Exhausted}

-- found: an assignment that is not dull; spent: at least b assignments are settled, and some are left; none: all are settled
abbrev pub OfKind : Context → Listed → ℕ → ℕ → Answer → Type 0
OfKind c l from b (Found at upto) = (at.0 < space c) × (dull_at c l at.0 ≡ false)
OfKind c l from b (Spent upto) = (from + b ≤ upto) × (upto < space c)
OfKind c l from b Exhausted = Unit {0}

-- the answer of a look from `from` with budget b keeps the rules
pub record Keeps (c : Context) (l : Listed) (from b : ℕ) (r : Answer) : Type 0 where
  pub after : from ≤ upto_of c r
  pub most : upto_of c r ≤ space c
  pub settled : DullTo c l (upto_of c r)
  pub kind : OfKind c l from b r

-- as a look is asked: some assignment is left, the budget is in its range, and what lies below `from` is dull
pub record Asked (c : Context) (l : Listed) (from b : ℕ) : Type 0 where
  pub left : from < space c
  pub some : 1 ≤ b
  pub few : b ≤ max_budget
  pub dull : DullTo c l from

-- a look keeps the rules if it is so asked
abbrev pub Rules : Context → Listed → ℕ → ℕ → Answer → Type 0
Rules c l from b r = Asked c l from b → Keeps c l from b r
