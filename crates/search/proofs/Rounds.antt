-- Rounds.
use Rattle.std.proofs.Common.{◌≡◌, ℕ, Bool, List, get_or, Some, None, Option, sym, ◌∙◌}
use Rattle.network.specs.Rows.{bit_at}
use Rattle.theory.specs.Values.{number}
use Rattle.theory.proofs.Numbers.{bit-number}
use Rattle.context.proofs.Dull.{dull-same}
use Rattle.window.specs.declared.extracted.Context.{Context}
use Rattle.search.specs.Contexts.{net_in, dull_of, dull_at}
use Rattle.search.specs.Lists.{has}
use Rattle.search.specs.Lanes.{Lowest}
use Rattle.search.specs.Rounds.{lane_at}
use Rattle.search.specs.declared.listed.Listed.{Listed}

-- leaf values and the number that has them
pub dull-number : (c : Context) (l : Listed) (x : ℕ → Bool) → dull_of c l x ≡ dull_at c l (number x (net_in c).inputs)
unfolding dull_at
dull-number c l x = dull-same (net_in c) c.target (has l) x (bit_at (number x (net_in c).inputs)) (λ i h. sym (bit-number x (net_in c).inputs i h))

-- a lane and its assignment
pub dull-lane : (c : Context) (l : Listed) (words : List ℕ) (lane : ℕ) → dull_of c l (λ i. bit_at (get_or words i 0) lane) ≡ dull_at c l (lane_at c words lane)
unfolding lane_at
dull-lane c l words lane = dull-number c l (λ i. bit_at (get_or words i 0) lane)

pub lowest-same : (n : ℕ) (p q : ℕ → Bool) (r : Option ℕ) → ((l : ℕ) → p l ≡ q l) → Lowest n p r → Lowest n q r
lowest-same n p q None same low = λ l h. sym (same l) ∙ low l h
lowest-same n p q (Some l) same low = (low.0, sym (same l) ∙ low.1, λ m h. sym (same m) ∙ low.2 m h)
