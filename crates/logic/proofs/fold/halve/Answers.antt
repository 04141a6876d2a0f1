use Rattle.std.proofs.Common.{◌≡◌, ℕ, ◌+◌, ◌*◌, ◌≢◌, ap, ◌∙◌, arith}
use Rattle.std.proofs.lemmas.List.{get_or-set_other}
use Rattle.logic.proofs.Places.{put}
use Rattle.logic.proofs.fold.halve.Goals as goal

pub loop-i-preserved : goal.loop-i-preserved
loop-i-preserved g c at entry =
    let inv = c.loop-i.invariant at entry in
    let p = g.L.Logic.picks in
    let s = c.args.s in
    let i : ℕ = c.loop-i.i in
    let high : c.index-fold-i.result ≡ at (2 * i + 1) = c.index-fold-i.is ∙ inv.1 (2 * i + 1) c.index-fold-i.result (omega arith) (omega arith) in
    let low : c.index-fold-i-in-loop-i.result ≡ at (2 * i) = c.index-fold-i-in-loop-i.is ∙ inv.1 (2 * i) c.index-fold-i-in-loop-i.result (omega arith) (omega arith) in (
      put c.loop-i.fold i c.pick.result (λ k. p s (at (2 * k + 1)) (at (2 * k))) (omega arith) inv.0
          (c.pick.ensures ∙ ap (λ h. p s h c.index-fold-i-in-loop-i.result) high ∙ ap (p s (at (2 * i + 1))) low),
      λ k d lo hi. let ne : k ≢ i = omega arith in get_or-set_other c.loop-i.fold i k c.pick.result d ne ∙ inv.1 k d (omega arith) hi,
    )

pub returns : goal.returns
returns g c at entry i d h = (c.loop-i.invariant at entry).0 i d (omega arith)
