use Rattle.job.proofs.Passed.{passed}
use Rattle.job.proofs.Loads.{all-loaded}
use Rattle.job.proofs.fields.Passed.load.Goals as goal

pub returns-clause-same : goal.returns-clause-same
returns-clause-same c =
    let file = c.args.self.now in
    all-loaded file.head.bytes.now _ file.head.bytes_fit (passed file.head.bytes.now file.passed) c.in_ok-load_outputs.ensures
