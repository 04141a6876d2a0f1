-- The cover as it lies in the list.
use Rattle.std.proofs.Common.{◌≡◌, ℕ, ◌-◌, ◌^◌, ◌≤◌, true, false, List, [], ◌++◌, length, take, drop, replicate, ap, ◌∙◌, ap₂, arith}
use borrow.Rule.Slice.PartMut.{put_mid}
use Rattle.std.specs.List.{range_with_len}
use Rattle.std.proofs.lemmas.List.{take-append-le, drop_all, append-nil, length-take, length-drop}
use Rattle.network.specs.declared.row.Function.{Function}
use Rattle.cover.specs.Cubes.{no_cube}
use Rattle.cover.specs.Tables.{members, members_below}
use Rattle.cover.specs.Covers.{gathered, pruned, cover_of}
use Rattle.cover.specs.Answers.{rising_cover}
use Rattle.cover.specs.declared.care.CareFunction.{CareFunction}
use Rattle.cover.specs.declared.cube.Cube.{Cube}
use Rattle.cover.proofs.Listed.{IsSide, members-on, members-off, below_on}

-- what is pruned of what is gathered is the cover
pub cover-is : (target : CareFunction) (on off : Function) (cs ds : List Cube) → IsSide target true on → IsSide target false off
    → cs ≡ gathered target.fanins.count (range_with_len 0 target.fanins.count) (members off) (members_below (2 ^ target.fanins.count) on) [] → ds ≡ pruned (members on) [] cs → ds ≡ rising_cover target
unfolding cover_of
cover-is target on off cs ds a b e d =
    let f = target.fanins.count in
    d ∙ ap₂ (λ ys xs. pruned ys [] xs) (members-on target on a)
    (e ∙ ap₂ (λ zs ys. gathered f (range_with_len 0 f) zs ys []) (members-off target off b) (below_on target on a))

-- the places, with the cubes that stay at the front and the others filled with one value
pub written : (cs ks rest blanks : List Cube) (s n : ℕ) → s ≤ length ks → take s ks ≡ cs → length (ks ++ rest) ≡ n
    → blanks ≡ replicate (length (take (length (ks ++ rest) - s) (drop s (ks ++ rest)))) no_cube → put_mid s (length (ks ++ rest) - s) (ks ++ rest) blanks ≡ cs ++ replicate (n - s) no_cube
written cs ks rest blanks s n h e m b =
    let ps = ks ++ rest in
    let front : take s ps ≡ cs = take-append-le s ks rest h ∙ e in
    let none : drop (length ps - s) (drop s ps) ≡ [] = drop_all (length ps - s) (drop s ps) (omega (arith, length-drop s ps)) in
    let size : length (take (length ps - s) (drop s ps)) ≡ n - s = simp (length-take, length-drop) (omega (arith, m)) in
    ap₂ (λ (xs ys : List Cube). xs ++ ys) front (ap₂ (λ (xs ys : List Cube). xs ++ ys) (b ∙ ap (λ k. replicate k no_cube) size) none ∙ append-nil (replicate (n - s) no_cube))
