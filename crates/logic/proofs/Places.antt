-- What the first places of a list hold.
use Rattle.std.proofs.Common.{◌≡◌, ℕ, ◌+◌, ◌<◌, ◌≤◌, List, length, get_or, set, sym, ap, ◌∙◌, ⊎_elim, arith}
use Rattle.std.proofs.lemmas.List.{get_or-set_same, get_or-set_other, length-set}
use Rattle.std.proofs.lemmas.Bool.{cases_eq}
use Rattle.logic.specs.Folds.{Holds}

-- one place more
pub put : {V : Type 0} (vs : List V) (i : ℕ) (v : V) (at : ℕ → V) → i < length vs → Holds vs i at → v ≡ at i → Holds (set vs i v) (i + 1) at
put vs i v at lt below here k d h =
    ⊎_elim
    (λ e. ap (λ n. get_or (set vs i v) n d) e ∙ get_or-set_same vs i v d lt ∙ here ∙ ap at (sym e))
    (λ ne. get_or-set_other vs i k v d ne ∙ below k d (let l : k < i = omega arith in l))
    (cases_eq k i)

-- four places
pub four : {V : Type 0} (vs : List V) (a b c e : V) (at : ℕ → V) → 4 ≤ length vs → a ≡ at 0 → b ≡ at 1 → c ≡ at 2 → e ≡ at 3 → Holds (set (set (set (set vs 0 a) 1 b) 2 c) 3 e) 4 at
four {V} vs a b c e at room p q r s =
    let one : List V = set vs 0 a in
    let two : List V = set one 1 b in
    let three : List V = set two 2 c in
    let long : length three ≡ length vs = length-set two 2 c ∙ length-set one 1 b ∙ length-set vs 0 a in
    put three 3 e at (omega arith)
    (put two 2 c at (omega (arith, length-set two 2 c))
    (put one 1 b at (omega (arith, length-set vs 0 a)) (put vs 0 a at (omega arith) (λ i d h. absurd (omega arith)) p) q) r) s
