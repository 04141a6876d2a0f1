-- The counting finder has just one answer, and it keeps the rules.
use Rattle.std.proofs.Common.{◌≡◌, ℕ, ◌+◌, ◌<◌, ◌≤◌, true, false, sym, refl, ap, ◌∙◌, ⊎_elim, arith}
use Rattle.std.proofs.lemmas.Bool.{both_ways, cases_order, cases_lt}
use Rattle.window.specs.declared.extracted.Context.{Context}
use Rattle.search.specs.Contexts.{space, dull_at, DullIn, DullTo}
use Rattle.search.specs.Rules.{Rules}
use Rattle.search.specs.Counts.{Counts}
use Rattle.search.specs.declared.listed.Listed.{Listed}
use Rattle.search.specs.declared.answer.Answer.{Answer}
use Rattle.search.specs.declared.answer.Answer.TheVariants.{Found, Spent, Exhausted}

module _ (c : Context) (l : Listed) (from b : ℕ) where
  apart : (a : ℕ) → dull_at c l a ≡ true → dull_at c l a ≡ false → ⊥
  apart a t f = both_ways (dull_at c l a) f t

  pub counts-once : (r s : Answer) → Counts c l from b r → Counts c l from b s → r ≡ s
  counts-once (Found at upto) (Found bt vpto) x y =
      let same : upto ≡ vpto =
      ⊎_elim (λ e. e)
      (λ o. ⊎_elim (λ lt. absurd (apart upto (y.4 upto x.1 lt) x.5)) (λ gt. absurd (apart vpto (x.4 vpto y.1 gt) y.5)) o)
      (cases_order upto vpto) in
      let value : at.0 ≡ bt.0 = x.0 ∙ same ∙ sym y.0 in
      ap (λ (n : ℕ). Found (record { 0 = n }) upto) value ∙ ap (Found bt) same
  counts-once (Found at upto) (Spent vpto) x y = absurd (apart upto (y.2 upto x.1 (omega (arith, x.2, y.0))) x.5)
  counts-once (Found at upto) Exhausted x y = absurd (apart upto (y.1 upto x.1 x.3) x.5)
  counts-once (Spent upto) (Found bt vpto) x y = absurd (apart vpto (x.2 vpto y.1 (omega (arith, y.2, x.0))) y.5)
  counts-once (Spent upto) (Spent vpto) x y = ap Spent (x.0 ∙ sym y.0)
  counts-once (Spent upto) Exhausted x y = absurd (let z : ⊥ = omega (arith, x.0, x.1, y.0) in z)
  counts-once Exhausted (Found bt vpto) x y = absurd (apart vpto (x.1 vpto y.1 y.3) y.5)
  counts-once Exhausted (Spent vpto) x y = absurd (let z : ⊥ = omega (arith, y.0, y.1, x.0) in z)
  counts-once Exhausted Exhausted x y = refl

  -- what lies below `from` and what lies from there on
  pub dull-on : (upto : ℕ) → DullTo c l from → DullIn c l from upto → DullTo c l upto
  dull-on upto low high a h = ⊎_elim (λ lt. low a lt) (λ ge. high a ge h) (cases_lt a from)

  pub counts-keep : (r : Answer) → Counts c l from b r → Rules c l from b r
  counts-keep (Found at upto) x asked =
      let small : at.0 < space c = omega (arith, x.0, x.3) in
      let shown : dull_at c l at.0 ≡ false = ap (dull_at c l) x.0 ∙ x.5 in
      record { after = x.1; most = omega (arith, x.3); settled = dull-on upto asked.dull x.4; kind = (small, shown) }
  counts-keep (Spent upto) x asked =
      let far : from + b ≤ upto = omega (arith, x.0) in
      record { after = omega (arith, x.0); most = omega (arith, x.1); settled = dull-on upto asked.dull x.2; kind = (far, x.1) }
  counts-keep Exhausted x asked = record { after = omega (arith, asked.left); most = omega arith; settled = dull-on (space c) asked.dull x.1; kind = tt }
