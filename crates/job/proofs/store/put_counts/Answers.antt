use Rattle.std.proofs.Common.{◌≡◌, [], ◌∷◌, set, refl, ap, ◌∙◌, arith, length-set}
use Rattle.job.specs.Bytes.{le16, splice}
use Rattle.job.proofs.Splices.{splice-set, splice-splice}
use Rattle.job.proofs.store.put_counts.Goals as goal

pub returns : goal.returns
returns c =
    let o = c.args.out.now in
    let i = c.args.inputs in
    let j = c.args.outputs in
    let w = le16 c.args.nodes in
    let one : set o 0 i ≡ splice o 0 (i ∷ []) = splice-set o 0 i (omega (arith, c.requires)) in
    let two : set (set o 0 i) 1 j ≡ splice o 0 (i ∷ j ∷ []) = splice-set (set o 0 i) 1 j (simp length-set (omega (arith, c.requires))) ∙ ap (λ v. splice v 1 (j ∷ [])) one ∙ splice-splice o 0 1 (i ∷ []) (j ∷ []) refl (omega (arith, c.requires)) in
    c.put_word.ensures ∙ ap (λ v. splice v 2 w) two ∙ splice-splice o 0 2 (i ∷ j ∷ []) w refl (omega (arith, c.requires))
