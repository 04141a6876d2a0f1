use Rattle.std.proofs.Common.{◌≡◌, ℕ, ◌+◌, ◌-◌, ◌≤◌, length, get_or, drop, refl, ap, ◌∙◌, arith, length-drop, length-append}
use Rattle.std.proofs.lemmas.List.{length-take-le, get_or-drop, get_or_append_left, get_or-append_right}
use Rattle.network.specs.Rows.{no_signal}
use Rattle.network.specs.declared.row.Signal.{Signal}
use Rattle.window.specs.Numbers.{new_at}
use Rattle.window.proofs.Fanins.{fanins-are, row_is}
use Rattle.window.proofs.renumber.Renumbering.row.Goals as goal

pub returns : goal.returns
returns c =
    let i : ℕ = c.loop-fanin.fanin-index in
    let xs = c.loop-fanin.fanin-items in
    let r = c.args.row.now in
    let v = c.loop-fanin.invariant in
    let legal = c.requires.1 in
    let few : r.count ≤ length r.fanins = omega arith in
    let n : length xs ≡ r.count = omega (arith, length-take-le r.count r.fanins few) in
    let behind = drop r.count r.fanins in
    row_is (new_at c.args.self.now) r _
    (fanins-are (new_at c.args.self.now) r _ r.count legal.few refl (omega (arith, length-append xs behind, length-drop r.count r.fanins))
    (λ k l. ap (λ (s : Signal). s.0) (get_or_append_left xs behind no_signal k (omega arith)) ∙ v.written k (omega arith))
    (λ k l.
    let e : r.count + (k - r.count) ≡ k = omega arith in
    ap (λ (s : Signal). s.0) (get_or-append_right xs behind r.count k no_signal n l ∙ get_or-drop r.count r.fanins (k - r.count) no_signal ∙ ap (λ j. get_or r.fanins j no_signal) e) ∙ legal.unused k l))
