-- What a walk over the signals that matter says of the roots and of the target's fanins.
use Rattle.std.proofs.Common.{◌≡◌, ℕ, ◌<◌, ◌≤◌, Bool, true, List, None, refl, arith}
use Rattle.network.specs.Rows.{fanin}
use Rattle.network.specs.Nets.{size, row_at, output_at}
use Rattle.theory.specs.Values.{target}
use Rattle.logic.specs.Sets.{is_in}
use Rattle.logic.specs.Lanes.{LaneRow, Admit}
use Rattle.logic.specs.Walks.{walked, WalkedWhere, AdmitWhere}
use Rattle.window.specs.declared.extracted.Context.{Context}
use Rattle.search.specs.Contexts.{net_in}
use Rattle.search.specs.Plans.{Plans}
use Rattle.search.specs.Lanes.{Shown, Valued}
use Rattle.search.specs.declared.plan.Plan.{Plan}
use Rattle.search.proofs.Contexts.{legal-in, target-lower}

module _ (c : Context) (p : Plan) (plans : Plans c p) where
  fanin-in : (i : ℕ) → i < (row_at (net_in c) c.target).count → is_in p.needed.flags (fanin (row_at (net_in c) c.target) i) ≡ true
  fanin-in i h = plans.needs.closed c.target i c.node plans.needs.target h

  fanin-below : (i : ℕ) → i < (row_at (net_in c) c.target).count → fanin (row_at (net_in c) c.target) i < size (net_in c)
  fanin-below i h = let le : size (net_in c) ≤ size (net_in c) = omega arith in target-lower c (row_at (net_in c) c.target) (size (net_in c)) refl le i h

  pub valued_by : {V : Type 0} (pick : V → V → V → V) (of : Bool → V) (leaves plain turned : List V) →
      WalkedWhere p.needed.flags (size (net_in c)) (walked pick of None (net_in c).rows leaves) plain →
      WalkedWhere p.needed.flags (size (net_in c)) (walked pick of (target (net_in c) c.target) (net_in c).rows leaves) turned →
      Valued pick of c leaves plain turned
  valued_by pick of leaves plain turned first second = record {
    roots = λ j d h. first (output_at (net_in c) j) d ((legal-in c).exit j h) (plans.needs.root j h);
    inverted = λ j d h. second (output_at (net_in c) j) d ((legal-in c).exit j h) (plans.needs.root j h);
    fanins = λ i d h. first (fanin (row_at (net_in c) c.target) i) d (fanin-below i h) (fanin-in i h);
  }

  pub shown_by : {V : Type 0} (admits : V → LaneRow → Type 0) (leaves plain turned : List V) →
      AdmitWhere p.needed.flags admits None (net_in c) leaves plain →
      AdmitWhere p.needed.flags admits (target (net_in c) c.target) (net_in c) leaves turned →
      (rows : ℕ → LaneRow) → Admit admits leaves (net_in c).inputs rows → Shown admits c rows plain turned
  shown_by admits leaves plain turned first second rows given = record {
    roots = λ j d h. first rows given (output_at (net_in c) j) d ((legal-in c).exit j h) (plans.needs.root j h);
    inverted = λ j d h. second rows given (output_at (net_in c) j) d ((legal-in c).exit j h) (plans.needs.root j h);
    fanins = λ i d h. first rows given (fanin (row_at (net_in c) c.target) i) d (fanin-below i h) (fanin-in i h);
  }
