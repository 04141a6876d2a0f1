-- The network of a context.
use Rattle.std.proofs.Common.{◌≡◌, ℕ, ◌+◌, ◌≤◌, List, get_or, ap₂, arith}
use mathlib.Core.Path.{subst⁻¹}
use Rattle.network.specs.Rows.{blank, Legal, Lower}
use Rattle.network.specs.Nets.{size, row_at, LegalNet}
use Rattle.network.specs.declared.row.Row.{Row}
use Rattle.network.proofs.Nets.{legal-net}
use Rattle.window.specs.declared.extracted.Context.{Context}
use Rattle.search.specs.Contexts.{net_in}

module _ (c : Context) where
  pub legal-in : LegalNet (net_in c)
  legal-in = legal-net c.network

  pub target-legal : Legal ((net_in c).inputs + c.target) (row_at (net_in c) c.target)
  target-legal = legal-in.row c.target c.node

  -- the target's row, as the code reads it
  pub target_row : (rows : List Row) (t : ℕ) → rows ≡ (net_in c).rows → t ≡ c.target → get_or rows t blank ≡ row_at (net_in c) c.target
  target_row rows t e h = ap₂ (λ (qs : List Row) n. get_or qs n blank) e h

  pub target-lower : (r : Row) (n : ℕ) → r ≡ row_at (net_in c) c.target → size (net_in c) ≤ n → Lower n r
  target-lower r n e h =
      subst⁻¹ (λ (q : Row). Lower n q) e (λ i l. omega (arith, target-legal.lower i l, c.node))
