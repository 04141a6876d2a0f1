-- Sets of numbers are equal where they have the same numbers.
use Rattle.std.proofs.Common.{◌≡◌, ℕ, Bool}

pub same_set : {f g : ℕ → Bool} → ((s : ℕ) → f s ≡ g s) → f ≡ g
same_set h = λ i s. h s i
