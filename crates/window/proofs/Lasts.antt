-- Lists that are gone over from the end.
use Rattle.std.proofs.Common.{◌≡◌, ◌+◌, ◌<◌, List, [], ◌∷◌, length, get_or, take, min, sym, refl, ap, ◌∙◌, arith}
use Rattle.std.specs.List.{push}
use Rattle.std.proofs.lemmas.List.{length_push, length-take, get_or_push, get_or-take, take_at, take-take}

-- the last item of a front of the list, and the front before it
pub record IsLast {A : Type 0} (all less : List A) (x : A) : Type 0 where
  pub low : length less < length all
  pub front : less ≡ take (length less) all
  pub item : (d : A) → x ≡ get_or all (length less) d

pub front-last : {A : Type 0} (all rest less : List A) (x : A) → rest ≡ push less x → rest ≡ take (length rest) all → IsLast all less x
front-last {A} all rest less x e f =
    let k = length less in
    let n : length rest ≡ k + 1 = ap length e ∙ length_push less x in
    let w : push less x ≡ take (k + 1) all = sym e ∙ f ∙ ap (λ j. take j all) n in
    let m : k + 1 ≡ min (k + 1) (length all) = sym (length_push less x) ∙ ap length w ∙ length-take (k + 1) all in
    record {
      low = omega arith;
      front = sym (take_at less (x ∷ []) k refl) ∙ ap (take k) w ∙ take-take k (k + 1) all (omega arith);
      item = λ d. sym (get_or_push less x d k refl) ∙ ap (λ xs. get_or xs k d) w ∙ get_or-take (k + 1) all k d (omega arith);
    }
