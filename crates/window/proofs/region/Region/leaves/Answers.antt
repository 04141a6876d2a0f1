use Rattle.std.proofs.Common.{◌≡◌, List, [], Err, take, ap, ◌∙◌, subst}
use Rattle.network.specs.declared.row.Signal.{Signal}
use Rattle.network.specs.Parts.{net_of}
use Rattle.network.proofs.Nets.{legal-net}
use Rattle.theory.proofs.Values.{lowers}
use Rattle.context.specs.Windows.{is_leaf}
use Rattle.window.specs.Sets.{has}
use Rattle.window.specs.Entries.{entries_of, Enters}
use Rattle.window.specs.declared.refusal.ContextError.TheVariants.{NoMemory}
use Rattle.window.proofs.Entries.{leaf-roll, first, leaves-are, leaves-few, leaves-refused, refused-on}
use Rattle.window.proofs.region.Region.leaves.Goals as goal

pub returns-in_err-enter_leaves : goal.returns-in_err-enter_leaves
returns-in_err-enter_leaves c =
    let net = net_of c.args.self.now.network.now in
    let m = has c.args.self.now.members in
    let none : take c.over.result.count c.over.result.places.now ≡ [] = ap (λ n. take n c.over.result.places.now) c.over.ensures.count in
    refused-on net m _ c.in_err-enter_leaves.field-0.0 c.from_residual.result
    (leaves-refused net m (lowers (legal-net c.args.self.now.network.now)) c.enter_leaves.new.self.roll.count c.enter_leaves.new.self.roll.places.now (leaf-roll c.enter_leaves.new.self) c.in_err-enter_leaves.field-0.0
    (subst (λ (xs : List Signal). Enters (is_leaf net m) xs (Err c.in_err-enter_leaves.field-0.0) (entries_of c.enter_leaves.new.self)) none c.in_err-enter_leaves.ensures))
    c.from_residual.ensures.1

pub returns-in_err-to_vec : goal.returns-in_err-to_vec
returns-in_err-to_vec c =
    let net = net_of c.args.self.now.network.now in
    let m = has c.args.self.now.members in
    let none : take c.over.result.count c.over.result.places.now ≡ [] = ap (λ n. take n c.over.result.places.now) c.over.ensures.count in
    let roll = c.enter_leaves.new.self.roll in
    refused-on net m _ NoMemory c.from_residual-in_err-to_vec.result
    (leaves-few net m (lowers (legal-net c.args.self.now.network.now)) roll.count roll.places.now (leaf-roll c.enter_leaves.new.self) (λ s. c.in_ok-enter_leaves.ensures s ∙ first none s _))
    c.from_residual-in_err-to_vec.ensures.1

pub returns : goal.returns
returns c =
    let net = net_of c.args.self.now.network.now in
    let m = has c.args.self.now.members in
    let none : take c.over.result.count c.over.result.places.now ≡ [] = ap (λ n. take n c.over.result.places.now) c.over.ensures.count in
    let roll = c.enter_leaves.new.self.roll in
    let low = lowers (legal-net c.args.self.now.network.now) in
    record {
      list = c.in_ok-to_vec.ensures.items_if_clones_equal (λ x y h. h) ∙ c.entries.ensures ∙ leaves-are net m low roll.count roll.places.now (leaf-roll c.enter_leaves.new.self) (λ s. c.in_ok-enter_leaves.ensures s ∙ first none s _);
      few = leaves-few net m low roll.count roll.places.now (leaf-roll c.enter_leaves.new.self) (λ s. c.in_ok-enter_leaves.ensures s ∙ first none s _);
    }
