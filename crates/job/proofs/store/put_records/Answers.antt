use Rattle.std.proofs.Common.{◌≡◌, ℕ, ◌+◌, ◌<◌, ◌≤◌, List, length, get_or, take, sym, ap, subst, add-zero, arith}
use Rattle.std.specs.List.{flat_map}
use Rattle.std.proofs.lemmas.List.{get_or-take, length-take-le}
use Rattle.network.specs.Rows.{blank}
use Rattle.network.specs.Nets.{Net, LegalNet}
use Rattle.network.specs.Parts.{net_of}
use Rattle.network.specs.declared.row.Row.{Row}
use Rattle.job.specs.Bytes.{sizes, record_bytes}
use Rattle.job.proofs.Sizes.{Sound, sizes-more, record-ends}
use Rattle.job.proofs.Encoded.{sound-of, length-records}
use Rattle.job.proofs.Splices.{splice-none, splice-more}
use Rattle.job.proofs.store.put_records.Goals as goal

pub loop-row-init : goal.loop-row-init
loop-row-init c = record { written = sym (splice-none c.args.out.now c.args.first); place = sym (add-zero c.args.first) }

pub put_record-requires-clause-within : goal.put_record-requires-clause-within
put_record-requires-clause-within c = omega (arith, record-ends c.rows-row-items.result.now (net_of c.args.network.now).rows c.loop-row.row-index c.args.first c.loop-row.at (length c.args.out.now) c.rows-row-items.ensures.value c.loop-row-test.true c.loop-row.invariant.place c.requires)

pub overflow_add-at : goal.overflow_add-at
overflow_add-at c =
    let e = c.rows-row-items.ensures.value in
    omega (arith, record-ends c.rows-row-items.result.now (net_of c.args.network.now).rows c.loop-row.row-index c.args.first c.loop-row.at (length c.args.out.now) e c.loop-row-test.true c.loop-row.invariant.place c.requires, c.record_len-at.ensures)

-- the first records, and where the next starts
front : (net : Net) (rs : List Row) (n first at : ℕ) → LegalNet net → rs ≡ net.rows → n ≤ length rs → at ≡ first + sizes (take n rs) → at ≡ first + length (flat_map record_bytes (take n rs))
front net rs n first at legal e l h =
    let m : length (flat_map record_bytes (take n rs)) ≡ sizes (take n rs) = length-records (take n rs) (λ k q.
    let q' : k < n = omega (arith, length-take-le n rs l) in
    subst Sound (sym (get_or-take n rs k blank q')) (subst (λ v. Sound (get_or v k blank)) (sym e) (sound-of (legal.row k (omega (arith, ap length e)))))) in
    omega arith

pub loop-row-preserved : goal.loop-row-preserved
loop-row-preserved c =
    let rs = c.rows-row-items.result.now in
    let n = c.loop-row.row-index in
    let l : n < length rs = c.loop-row-test.true in
    let e = c.rows-row-items.ensures.value in
    let place = front (net_of c.args.network.now) rs n c.args.first c.loop-row.at c.rows-row-items.ensures.legal e (omega arith) c.loop-row.invariant.place in
    let room = record-ends rs (net_of c.args.network.now).rows n c.args.first c.loop-row.at (length c.args.out.now) e l c.loop-row.invariant.place c.requires in
    record {
      written = splice-more record_bytes rs n blank c.args.out.now c.loop-row.out c.put_record.new.out c.args.first c.loop-row.at l c.loop-row.invariant.written place (omega (arith, room)) c.put_record.ensures;
      place = omega (arith, c.loop-row.invariant.place, c.record_len-at.ensures, sizes-more rs n l);
    }
