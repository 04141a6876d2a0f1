-- What an array holds that was made by calls at each index.
use Rattle.std.proofs.Common.{◌≡◌, ℕ, zero, suc, ◌+◌, ◌<◌, ◌≤◌, List, get_or, sym, subst, inl, inr, arith}
use Rattle.std.specs.Array.{IsFromFnResultFrom}
use Rattle.std.specs.Fn.{Called}
use Rattle.std.proofs.lemmas.Bool.{cases_eq}
use denote.Param.Members.{Mut}

pub made : {F B : Type 0} (g : Mut F (ℕ × Unit {0}) B) (R : ℕ → B → Type 0) (f : F) → ((i : ℕ) (y : B) (q : F) → Called g f (i, tt) y q → (q ≡ f) × R i y)
    → (ys : List B) (d : B) (i n : ℕ) → IsFromFnResultFrom g f ys i n → (j : ℕ) → i ≤ j → j < i + n → R j (get_or ys j d)
made g R f call ys d i zero m j a b = absurd (omega arith)
made g R f call ys d i (suc n) m j a b =
    let k = call i m.1 m.0 m.3 in
    elim (cases_eq j i) [
      | inl e ↦ subst (λ l. R l (get_or ys l d)) (sym e) (subst (R i) (sym (m.2.1 d)) k.1)
      | inr e ↦ made g R f call ys d (i + 1) n (subst (λ p. IsFromFnResultFrom g p ys (i + 1) n) k.0 m.4) j (omega arith) (omega arith)
    ]
