-- Networks with the same outputs, and replacements that keep them.
use Rattle.std.proofs.Common.{◌≡◌, ℕ, ◌<◌, List, set, None, sym, refl, ap, ◌∙◌, arith}
use Rattle.std.proofs.lemmas.List.{set-set, set-get_or}
use Rattle.network.specs.Rows.{blank, with_function}
use Rattle.network.specs.Nets.{Net, nodes, row_at, output_at, LegalNet, replaced}
use Rattle.network.specs.declared.row.Row.{Row}
use Rattle.network.specs.declared.row.Function.{Function}
use Rattle.theory.specs.Values.{value, minterm_at}
use Rattle.theory.specs.Same.{SameOutputs, SameFunction, SameWhereRead}
use Rattle.theory.specs.Claims.{Equivalence}
use Rattle.theory.proofs.Values.{lowers, reads-below}
use Rattle.theory.proofs.Replace.{same, row_here}

pub same_refl : (net : Net) → SameOutputs net net
same_refl net = record { inputs = refl; count = refl; values = λ x j l. refl }

pub same-sym : (net net' : Net) → SameOutputs net net' → SameOutputs net' net
same-sym net net' p = record {
  inputs = sym p.inputs;
  count = sym p.count;
  values = λ x j l. let e = p.count in sym (p.values x j (omega arith));
}

pub same-trans : (net net' net'' : Net) → SameOutputs net net' → SameOutputs net' net'' → SameOutputs net net''
same-trans net net' net'' p q = record {
  inputs = q.inputs ∙ p.inputs;
  count = q.count ∙ p.count;
  values = λ x j l. let e = p.count in q.values x j (omega arith) ∙ p.values x j l;
}

pub same-equivalence : Equivalence SameOutputs
same-equivalence = record { reflexive = same_refl; symmetric = same-sym; transitive = same-trans }

-- a function that differs only where it is never read
pub same-unread : (net : Net) (t : ℕ) (f : Function) → LegalNet net → t < nodes net → SameWhereRead net t f (row_at net t).function → SameOutputs net (replaced net t f)
same-unread net t f legal l h = record {
  inputs = refl;
  count = refl;
  values = λ x j q. same net t f l x (lowers legal) (h x) (output_at net j) (legal.exit j q);
}

pub read_same : (net : Net) (t : ℕ) (f g : Function) → SameFunction (row_at net t).count f g → SameWhereRead net t f g
read_same net t f g h x = h (minterm_at net t x) (reads-below (row_at net t) (value None net x))

pub same-equal : (net : Net) (t : ℕ) (f : Function) → LegalNet net → t < nodes net → SameFunction (row_at net t).count f (row_at net t).function → SameOutputs net (replaced net t f)
same-equal net t f legal l h = same-unread net t f legal l (read_same net t f (row_at net t).function h)

-- a network with other rows
abbrev with_rows : Net → List Row → Net
with_rows net rs = record { inputs = net.inputs; rows = rs; outputs = net.outputs }

-- of two replacements the later one counts
pub replaced-twice : (net : Net) (t : ℕ) (f g : Function) → t < nodes net → replaced (replaced net t f) t g ≡ replaced net t g
replaced-twice net t f g l =
    ap (λ (r : Row). with_rows net (set (replaced net t f).rows t (with_function r g))) (row_here net t f l)
    ∙ ap (with_rows net) (set-set net.rows t (with_function (row_at net t) f) (with_function (row_at net t) g))

-- a node's own function replaces nothing
pub replaced-own : (net : Net) (t : ℕ) → replaced net t (row_at net t).function ≡ net
replaced-own net t = ap (with_rows net) (set-get_or net.rows t blank)
