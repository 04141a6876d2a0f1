-- One level more.
use Rattle.std.proofs.Common.{◌≡◌, ℕ, ◌+◌, ◌-◌, ◌<◌, ◌≤◌, Bool, true, false, ◌&&◌, ◌||◌, eqb, nat_eq, get_or, replicate, sym, refl, ap, ◌∙◌, ⊎_elim, add-one, arith}
use Rattle.std.proofs.lemmas.List.{get_or-replicate, get_or_past, length-replicate}
use Rattle.std.proofs.lemmas.Bool.{cases_lt, cases_Bool, both_ways, and_parts, and_from, eqb-true, eq-eqb}
use Rattle.std.proofs.Math.Bool.{and-false}
use Rattle.network.specs.Rows.{fanin}
use Rattle.network.specs.Nets.{Net, LegalNet, nodes, row_at}
use Rattle.network.specs.declared.row.Row.{Row}
use Rattle.context.specs.Levels.{into, outof, whole, is_fanin}
use Rattle.context.specs.Care.{any_below}
use Rattle.context.proofs.Any.{any-find, any_none, any-never}
use Rattle.context.proofs.Levels.{whole-exact}
use Rattle.window.specs.Sets.{feeds, fed}
use Rattle.window.proofs.Functions.{same_set}

-- no flag is set
pub none-set : (n s : ℕ) → get_or (replicate n false) s false ≡ false
none-set n s = ⊎_elim (λ h. get_or-replicate n s false false h) (λ h. get_or_past (replicate n false) s false (omega (arith, length-replicate n false))) (cases_lt s n)

module _ (net : Net) (X : ℕ → Bool) where
  pub into-none : (s : ℕ) → X s ≡ into net X 0 s
  unfolding into
  into-none s = refl

  into_next : (d s : ℕ) → into net X (d + 1) s ≡ (into net X d s || feeds net (into net X d) (nodes net) s)
  unfolding into
  into_next d s = ap (λ d. into net X d s) (add-one d)

  pub into_more : (d : ℕ) (Y : ℕ → Bool) → ((s : ℕ) → Y s ≡ into net X d s) → (s : ℕ) → (Y s || feeds net Y (nodes net) s) ≡ into net X (d + 1) s
  into_more d Y h s = ap (λ Z. Z s || feeds net Z (nodes net) s) (same_set h) ∙ sym (into_next d s)

  pub outof-none : (s : ℕ) → X s ≡ outof net X 0 s
  unfolding outof
  outof-none s = refl

  outof-next : (d s : ℕ) → outof net X (d + 1) s ≡ (outof net X d s || fed net (outof net X d) (nodes net) s)
  unfolding outof
  outof-next d s = ap (λ d. outof net X d s) (add-one d)

  pub outof-more : (d : ℕ) (Y : ℕ → Bool) → ((s : ℕ) → Y s ≡ outof net X d s) → (s : ℕ) → (Y s || fed net Y (nodes net) s) ≡ outof net X (d + 1) s
  outof-more d Y h s = ap (λ Z. Z s || fed net Z (nodes net) s) (same_set h) ∙ sym (outof-next d s)

-- fanins that are all below m are no signal from m on
not-fanin : (r : Row) (m s : ℕ) → ((i : ℕ) → i < r.count → fanin r i < m) → m ≤ s → is_fanin r s ≡ false
not-fanin r m s low le =
    any-never r.count (λ i. nat_eq (fanin r i) s)
    (λ i h. ⊎_elim (λ (t : nat_eq (fanin r i) s ≡ true). let e : fanin r i ≡ s = eqb-true _ _ t in absurd (omega (arith, low i h))) (λ f. f) (cases_Bool (nat_eq (fanin r i) s)))

-- the first n nodes read no signal from that of node n on
pub none-feeds : (net : Net) (X : ℕ → Bool) (n : ℕ) → LegalNet net → n < nodes net → feeds net X n (net.inputs + n) ≡ false
none-feeds net X n legal h =
    any-never n (λ j. X (net.inputs + j) && is_fanin (row_at net j) (net.inputs + n))
    (λ j l.
    let below : j < nodes net = omega arith in
    ap (λ b. X (net.inputs + j) && b) (not-fanin (row_at net j) (net.inputs + j) (net.inputs + n) (legal.row j below).lower (omega arith)) ∙ and-false (X (net.inputs + j)))

-- some node is s and has q: s is a node, and has q
pub common-any : (net : Net) (q : ℕ → Bool) (s : ℕ) → any_below (nodes net) (λ j. eqb (net.inputs + j) s && q (net.inputs + j)) ≡ (whole net s && q s)
common-any net q s =
    let p : ℕ → Bool = λ j. eqb (net.inputs + j) s && q (net.inputs + j) in
    ⊎_elim
    (λ h.
    let w = any-find (nodes net) p h in
    let l = w.1 in
    let b = and_parts (eqb (net.inputs + w.0) s) (q (net.inputs + w.0)) w.2 in
    let e : net.inputs + w.0 ≡ s = eqb-true _ _ b.0 in
    h ∙ sym (and_from (whole net s) (q s) ((whole-exact net s).1 (omega arith, omega arith)) (ap q (sym e) ∙ b.1)))
    (λ h.
    h ∙ sym (⊎_elim
    (λ g.
    let b = and_parts (whole net s) (q s) g in
    let i = (whole-exact net s).0 b.0 in
    let z = i.0 in
    let y = i.1 in
    let j : ℕ = s - net.inputs in
    let e : net.inputs + j ≡ s = omega arith in
    let l : j < nodes net = omega arith in
    absurd (both_ways (p j) (any_none (nodes net) p h j l) (and_from (eqb (net.inputs + j) s) (q (net.inputs + j)) (eq-eqb _ _ e) (ap q e ∙ b.1))))
    (λ g. g) (cases_Bool (whole net s && q s))))
    (cases_Bool (any_below (nodes net) p))
