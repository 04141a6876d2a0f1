use Rattle.std.proofs.Common.{refl, sym, subst}
use Rattle.job.proofs.Loads.{row_loaded, row-there}
use Rattle.job.proofs.Segments.{AreBytes}
use Rattle.job.proofs.fields.Passed.load_row.Goals as goal

pub returns : goal.returns
returns c =
    let head = c.args.self.now.head in
    let found = c.record_at-found.result in
    let same = c.record_at-found.ensures in
    let fanins = c.load_fanins.ensures in
    let table = c.load_function.ensures in
    let bytes : AreBytes found.bytes.now = subst AreBytes (sym same.bytes) head.bytes_fit in
    row-there head.bytes.now found.bytes.now c.args.n found.at (record { count = c.count.result; fanins = c.load_fanins.result; function = c.load_function.result }) same.bytes same.place
    (rw c.count.ensures (row_loaded found.bytes.now found.at _ c.load_fanins.result c.load_function.result bytes found.few found.within refl fanins.words fanins.unused fanins.places table.bytes table.unused table.places))
