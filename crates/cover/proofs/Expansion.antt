-- Expansion, one fanin on.
use Rattle.std.proofs.Common.{◌≡◌, ℕ, suc, ◌+◌, ◌-◌, ◌<◌, true, false, cond, List, sym, ap, ◌∙◌, arith}
use Rattle.std.specs.List.{range_with_len}
use Rattle.std.proofs.lemmas.Bool.{cond-true, cond-false}
use Rattle.cover.specs.Cubes.{struck}
use Rattle.cover.specs.Covers.{touches, expanded}
use Rattle.cover.specs.declared.cube.Cube.{Cube}

one_less : (i n : ℕ) → i < n → range_with_len i (n - i) ≡ range_with_len i (suc (n - (i + 1)))
one_less i n h = let e : n - i ≡ suc (n - (i + 1)) = omega arith in ap (range_with_len i) e

-- the literal goes
pub expand-gone : (off : List ℕ) (i n : ℕ) (c larger next whole : Cube) → i < n → expanded off (range_with_len i (n - i)) c ≡ whole → larger ≡ struck c i
    → touches off larger ≡ false → next ≡ larger → expanded off (range_with_len (i + 1) (n - (i + 1))) next ≡ whole
expand-gone off i n c larger next whole h e l t x =
    let k : cond (touches off (struck c i)) c (struck c i) ≡ struck c i = cond-false (touches off (struck c i)) c (struck c i) (ap (touches off) (sym l) ∙ t) in
    ap (expanded off (range_with_len (i + 1) (n - (i + 1)))) (x ∙ l ∙ sym k) ∙ sym (ap (λ ys. expanded off ys c) (one_less i n h)) ∙ e

-- the literal stays
pub expand-kept : (off : List ℕ) (i n : ℕ) (c larger next whole : Cube) → i < n → expanded off (range_with_len i (n - i)) c ≡ whole → larger ≡ struck c i
    → touches off larger ≡ true → next ≡ c → expanded off (range_with_len (i + 1) (n - (i + 1))) next ≡ whole
expand-kept off i n c larger next whole h e l t x =
    let k : cond (touches off (struck c i)) c (struck c i) ≡ c = cond-true (touches off (struck c i)) c (struck c i) (ap (touches off) (sym l) ∙ t) in
    ap (expanded off (range_with_len (i + 1) (n - (i + 1)))) (x ∙ sym k) ∙ sym (ap (λ ys. expanded off ys c) (one_less i n h)) ∙ e
