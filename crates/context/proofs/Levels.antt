-- Levels are paths.
use Rattle.std.proofs.Common.{◌≡◌, ℕ, zero, suc, ◌+◌, ◌<◌, Bool, true, ◌&&◌, ◌||◌, eqb, ltb, leb, ◌⊎◌, Decides, sym, refl, ap, ◌∙◌, subst, inl, inr, ⊎_elim, arith}
use mathlib.Core.Path.{subst⁻¹}
use Rattle.std.proofs.lemmas.Bool.{or_cases, or_left, or_right, and_parts, and_from, eqb-true, eq-eqb, leb-true, ltb-true, le-leb, lt-ltb}
use Rattle.network.specs.Rows.{fanin}
use Rattle.network.specs.Nets.{Net, nodes, size, row_at}
use Rattle.network.specs.declared.row.Row.{Row}
use Rattle.context.specs.Care.{any_below}
use Rattle.context.specs.Levels.{Edge, PathWithin, In, Out, IsNode, Within, is_fanin, into, outof, whole, windowed}
use Rattle.context.specs.Windows.{Members}
use Rattle.context.proofs.Any.{any-find, any_some}

-- a fanin of a row
pub fanin-find : (r : Row) (s : ℕ) → is_fanin r s ≡ true → (i : ℕ) × (i < r.count) × (fanin r i ≡ s)
fanin-find r s h = let w = any-find r.count (λ i. eqb (fanin r i) s) h in (w.0, w.1, eqb-true _ _ w.2)

pub fanin-is : (r : Row) (s i : ℕ) → i < r.count → fanin r i ≡ s → is_fanin r s ≡ true
fanin-is r s i l e = any_some r.count (λ i. eqb (fanin r i) s) i l (eq-eqb _ _ e)

module _ (net : Net) where
  pub whole-exact : (s : ℕ) → Decides (whole net s) (IsNode net s)
  whole-exact s = (
    λ h. let p = and_parts (leb net.inputs s) (ltb s (size net)) h in (leb-true net.inputs s p.0, ltb-true s (size net) p.1),
    λ h. and_from (leb net.inputs s) (ltb s (size net)) (le-leb net.inputs s h.0) (lt-ltb s (size net) h.1),
  )

  pub whole-node : (n : ℕ) → n < nodes net → whole net (net.inputs + n) ≡ true
  whole-node n l = (whole-exact (net.inputs + n)).1 (omega arith, omega arith)

  pub whole-members : (t : ℕ) → t < nodes net → Members net (whole net) t
  whole-members t l = record { above = λ s h. ((whole-exact s).0 h).0; inside = λ s h. ((whole-exact s).0 h).1; held = whole-node t l }

  path-more : (d a b : ℕ) → PathWithin net d a b → PathWithin net (suc d) a b
  path-more zero a b s = inl s
  path-more (suc d) a b s = ⊎_elim (λ e. inl e) (λ w. inr (w.0, w.1, path-more d w.0 b w.2)) s

  path-last : (d a c b : ℕ) → PathWithin net d a c → Edge net c b → PathWithin net (suc d) a b
  path-last zero a c b s e = inr (b, subst⁻¹ (λ (a : ℕ). Edge net a b) s e, refl)
  path-last (suc d) a c b s e =
      ⊎_elim
      (λ q. inr (b, subst⁻¹ (λ (a : ℕ). Edge net a b) q e, inl refl))
      (λ w. inr (w.0, w.1, path-last d w.0 c b w.2 e))
      s

  path-parts : (d a b : ℕ) → PathWithin net (suc d) a b → PathWithin net d a b ⊎ ((c : ℕ) × PathWithin net d a c × Edge net c b)
  path-parts zero a b s = ⊎_elim (λ q. inl q) (λ w. inr (a, refl, subst (λ (b : ℕ). Edge net a b) w.2 w.1)) s
  path-parts (suc d) a b s =
      ⊎_elim
      (λ q. inl (inl q))
      (λ w. ⊎_elim (λ p. inl (inr (w.0, w.1, p))) (λ p. inr (p.0, inr (w.0, w.1, p.1), p.2)) (path-parts d w.0 b w.2))
      s

  module _ (X : ℕ → Bool) where
    -- no edge, and one edge more
    pub into-start : (s : ℕ) → into net X 0 s ≡ X s
    unfolding into
    into-start s = refl

    pub into-step : (d s : ℕ) → into net X (suc d) s ≡ (into net X d s || any_below (nodes net) (λ n. into net X d (net.inputs + n) && is_fanin (row_at net n) s))
    unfolding into
    into-step d s = refl

    pub outof-start : (s : ℕ) → outof net X 0 s ≡ X s
    unfolding outof
    outof-start s = refl

    pub outof-step : (d s : ℕ) → outof net X (suc d) s ≡ (outof net X d s || any_below (nodes net) (λ n. eqb (net.inputs + n) s && any_below (row_at net n).count (λ i. outof net X d (fanin (row_at net n) i))))
    unfolding outof
    outof-step d s = refl

    pub into-self : (d s : ℕ) → X s ≡ true → into net X d s ≡ true
    unfolding into
    into-self zero s h = h
    into-self (suc d) s h = or_left (into net X d s) _ (into-self d s h)

    pub outof-self : (d s : ℕ) → X s ≡ true → outof net X d s ≡ true
    unfolding outof
    outof-self zero s h = h
    outof-self (suc d) s h = or_left (outof net X d s) _ (outof-self d s h)

    pub into-path : (d s : ℕ) → into net X d s ≡ true → In net (λ b. X b ≡ true) d s
    unfolding into
    into-path zero s h = (s, h, refl)
    into-path (suc d) s h =
        ⊎_elim
        (λ q. let w = into-path d s q in (w.0, w.1, path-more d s w.0 w.2))
        (λ q.
        let f = any-find (nodes net) (λ n. into net X d (net.inputs + n) && is_fanin (row_at net n) s) q in
        let n : ℕ = f.0 in
        let p = and_parts (into net X d (net.inputs + n)) (is_fanin (row_at net n) s) f.2 in
        let g = fanin-find (row_at net n) s p.1 in
        let w = into-path d (net.inputs + n) p.0 in
        let e : Edge net s (net.inputs + n) = record { node = n; place = g.0; inside = f.1; used = g.1; head = refl; tail = g.2 } in
        (w.0, w.1, inr (net.inputs + n, e, w.2)))
        (or_cases (into net X d s) _ h)

    pub path-into : (d s b : ℕ) → X b ≡ true → PathWithin net d s b → into net X d s ≡ true
    unfolding into
    path-into zero s b h p = ap X p ∙ h
    path-into (suc d) s b h p =
        ⊎_elim
        (λ q. or_left (into net X d s) _ (into-self d s (ap X q ∙ h)))
        (λ w.
        let e = w.1 in
        let n : ℕ = e.node in
        let i : into net X d (net.inputs + n) ≡ true = ap (into net X d) e.head ∙ path-into d w.0 b h w.2 in
        or_right (into net X d s) _
        (any_some (nodes net) (λ n. into net X d (net.inputs + n) && is_fanin (row_at net n) s) n e.inside
        (and_from _ _ i (fanin-is (row_at net n) s e.place e.used e.tail))))
        p

    pub outof-path : (d s : ℕ) → outof net X d s ≡ true → Out net (λ a. X a ≡ true) d s
    unfolding outof
    outof-path zero s h = (s, h, refl)
    outof-path (suc d) s h =
        ⊎_elim
        (λ q. let w = outof-path d s q in (w.0, w.1, path-more d w.0 s w.2))
        (λ q.
        let f = any-find (nodes net) (λ n. eqb (net.inputs + n) s && any_below (row_at net n).count (λ i. outof net X d (fanin (row_at net n) i))) q in
        let n : ℕ = f.0 in
        let p = and_parts (eqb (net.inputs + n) s) (any_below (row_at net n).count (λ i. outof net X d (fanin (row_at net n) i))) f.2 in
        let g = any-find (row_at net n).count (λ i. outof net X d (fanin (row_at net n) i)) p.1 in
        let w = outof-path d (fanin (row_at net n) g.0) g.2 in
        let e : Edge net (fanin (row_at net n) g.0) s = record { node = n; place = g.0; inside = f.1; used = g.1; head = eqb-true _ _ p.0; tail = refl } in
        (w.0, w.1, path-last d w.0 (fanin (row_at net n) g.0) s w.2 e))
        (or_cases (outof net X d s) _ h)

    pub path-outof : (d s a : ℕ) → X a ≡ true → PathWithin net d a s → outof net X d s ≡ true
    unfolding outof
    path-outof zero s a h p = ap X (sym p) ∙ h
    path-outof (suc d) s a h p =
        ⊎_elim
        (λ q. or_left (outof net X d s) _ (path-outof d s a h q))
        (λ w.
        let e = w.2 in
        let n : ℕ = e.node in
        let i : outof net X d (fanin (row_at net n) e.place) ≡ true = ap (outof net X d) e.tail ∙ path-outof d w.0 a h w.1 in
        or_right (outof net X d s) _
        (any_some (nodes net) (λ n. eqb (net.inputs + n) s && any_below (row_at net n).count (λ i. outof net X d (fanin (row_at net n) i))) n e.inside
        (and_from _ _ (eq-eqb _ _ e.head) (any_some (row_at net n).count (λ i. outof net X d (fanin (row_at net n) i)) e.place e.used i))))
        (path-parts d a s p)

    -- In(X, d) and Out(X, d) are what paths make them
    pub into-exact : (d s : ℕ) → Decides (into net X d s) (In net (λ b. X b ≡ true) d s)
    into-exact d s = (into-path d s, λ w. path-into d s w.0 w.1 w.2)

    pub outof-exact : (d s : ℕ) → Decides (outof net X d s) (Out net (λ a. X a ≡ true) d s)
    outof-exact d s = (outof-path d s, λ w. path-outof d s w.0 w.1 w.2)

  module _ (T p q : ℕ) where
    A : ℕ → Bool
    A = into net (eqb T) p

    B : ℕ → Bool
    B = outof net (eqb T) q

    a-exact : (s : ℕ) → Decides (A s) (In net (λ b. b ≡ T) p s)
    unfolding A
    a-exact s = (
      λ h. let w = into-path (eqb T) p s h in (w.0, sym (eqb-true T w.0 w.1), w.2),
      λ w. path-into (eqb T) p s w.0 (eq-eqb T w.0 (sym w.1)) w.2,
    )

    b-exact : (s : ℕ) → Decides (B s) (Out net (λ a. a ≡ T) q s)
    unfolding B
    b-exact s = (
      λ h. let w = outof-path (eqb T) q s h in (w.0, sym (eqb-true T w.0 w.1), w.2),
      λ w. path-outof (eqb T) q s w.0 (eq-eqb T w.0 (sym w.1)) w.2,
    )

    -- the members of a window
    pub windowed-exact : (s : ℕ) → Decides (windowed net T p q s) (Within net T p q s)
    unfolding A B
    windowed-exact s = (
      λ h.
          let w = and_parts (whole net s) (into net B (p + q) s && outof net A (p + q) s) h in
          let v = and_parts (into net B (p + q) s) (outof net A (p + q) s) w.1 in
          let i = into-path B (p + q) s v.0 in
          let o = outof-path A (p + q) s v.1 in
          record { node = (whole-exact s).0 w.0; into = (i.0, (b-exact i.0).0 i.1, i.2); outof = (o.0, (a-exact o.0).0 o.1, o.2) },
      λ w.
          let i = w.into in
          let o = w.outof in
          and_from (whole net s) (into net B (p + q) s && outof net A (p + q) s) ((whole-exact s).1 w.node)
          (and_from (into net B (p + q) s) (outof net A (p + q) s)
          (path-into B (p + q) s i.0 ((b-exact i.0).1 i.1) i.2)
          (path-outof A (p + q) s o.0 ((a-exact o.0).1 o.1) o.2)),
    )

  -- a window holds its target
  pub windowed-target : (t p q : ℕ) → t < nodes net → windowed net (net.inputs + t) p q (net.inputs + t) ≡ true
  windowed-target t p q l =
      let T = net.inputs + t in
      let e : eqb T T ≡ true = eq-eqb T T refl in
      and_from _ _ (whole-node t l)
      (and_from _ _ (into-self (outof net (eqb T) q) (p + q) T (outof-self (eqb T) q T e)) (outof-self (into net (eqb T) p) (p + q) T (into-self (eqb T) p T e)))

  pub windowed-members : (t p q : ℕ) → t < nodes net → Members net (windowed net (net.inputs + t) p q) t
  windowed-members t p q l =
      let T = net.inputs + t in
      record {
        above = λ s h. ((windowed-exact T p q s).0 h).node.0;
        inside = λ s h. ((windowed-exact T p q s).0 h).node.1;
        held = windowed-target t p q l;
      }
