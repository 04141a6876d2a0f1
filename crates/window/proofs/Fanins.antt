-- The fanins of a renumbered row.
use Rattle.std.proofs.Common.{◌≡◌, ℕ, ◌<◌, ◌≤◌, List, length, get_or, sym, ◌∙◌, ⊎_elim, arith}
use Rattle.std.proofs.lemmas.List.{ext_get_or}
use Rattle.std.proofs.lemmas.Bool.{cases_lt}
use Rattle.network.specs.Limits.{max_fanins}
use Rattle.network.specs.Rows.{fanin, no_signal}
use Rattle.network.specs.declared.row.Signal.{Signal}
use Rattle.network.specs.declared.row.Row.{Row}
use Rattle.context.specs.Extracts.{renumber}
use Rattle.context.proofs.Made.{renumber-used, renumber-unused, renumber-places}
use Rattle.window.proofs.Entries.{same-signal}

pub fanins-are : (new : ℕ → ℕ) (r : Row) (fs : List Signal) (i : ℕ) → r.count ≤ max_fanins → i ≡ r.count → length fs ≡ max_fanins →
    ((k : ℕ) → k < i → (get_or fs k no_signal).0 ≡ new (fanin r k)) → ((k : ℕ) → i ≤ k → (get_or fs k no_signal).0 ≡ 0) → fs ≡ (renumber new r).fanins
fanins-are new r fs i few e long used unused =
    ext_get_or no_signal fs (renumber new r).fanins (long ∙ sym (renumber-places new r few))
    (λ k _. same-signal _ _ (⊎_elim (λ h. used k (omega arith) ∙ sym (renumber-used new r k h)) (λ h. unused k (omega arith) ∙ sym (renumber-unused new r k h)) (cases_lt k r.count)))

pub row_is : (new : ℕ → ℕ) (r : Row) (fs : List Signal) → fs ≡ (renumber new r).fanins → ◌≡◌ {A = Row} (record { count = r.count; fanins = fs; function = r.function }) (renumber new r)
row_is new r fs e = λ i. record { count = r.count; fanins = e i; function = r.function }
