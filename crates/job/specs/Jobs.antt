-- What reading and writing a job answer, and what holds of the one after the other.
use Rattle.std.specs.Prelude.{◌≡◌, ℕ, ◌<◌, ◌≤◌, List, ◌++◌, length, take, drop, Some, None, Ok, Err, Result, MatchResult}
use Rattle.network.specs.Nets.{Net}
use Rattle.network.specs.Parts.{net_of}
use Rattle.job.specs.declared.job.Job.{Job}
use Rattle.job.specs.declared.denial.Cause.{Cause}
use Rattle.job.specs.declared.denial.Cause.TheVariants.{OutputShort}
use Rattle.job.specs.declared.denial.ReadError.{ReadError}
use Rattle.job.specs.declared.denial.ReadError.TheVariants.{Refused, NoMemory}
use Rattle.job.specs.Checks.{verdict, checks}
use Rattle.job.specs.Bytes.{encode}

abbrev pub job_net : Job → Net
job_net j = net_of j.network

-- reading some bytes: a job, exactly if no check fails and there is memory, and then one whose encoding they are; else the first fault
abbrev pub Reads : List ℕ → Result Job ReadError → Type 0
Reads bs (Ok j) = (verdict (checks bs) ≡ None) × (encode (job_net j) ≡ bs)
Reads bs (Err (Refused d)) = verdict (checks bs) ≡ Some d
Reads bs (Err NoMemory) = verdict (checks bs) ≡ None

-- writing a network over some bytes: its encoding, with the bytes behind it untouched; or none is changed, since they are too few
abbrev pub Writes : Net → List ℕ → Result ℕ Cause → List ℕ → Type 0
Writes net out (Ok n) out' = (n ≡ length (encode net)) × (n ≤ length out) × (out' ≡ encode net ++ drop n out)
Writes net out (Err c) out' = (c ≡ OutputShort) × (length out < length (encode net)) × (out' ≡ out)

-- the network that is read, unless memory is wanting
abbrev pub SameAgain : Net → Result Job ReadError → Type 0
SameAgain net (Ok j) = job_net j ≡ net
SameAgain net (Err (Refused d)) = ⊥
SameAgain net (Err NoMemory) = Unit {0}

-- whatever reading the bytes of a job answers: the same network, unless memory is wanting
abbrev pub Reopens : Job → Type 0
Reopens j = (r : Result Job ReadError) → Reads (encode (job_net j)) r → SameAgain (job_net j) r

-- whatever writing a job answers that was read from bs: the same bytes, unless there is too little room for them
abbrev pub WritesBack : List ℕ → Job → Type 0
WritesBack bs j = (out : List ℕ) (r : Result ℕ Cause) (out' : List ℕ) → Writes (job_net j) out r out' →
    MatchResult r (λ n. (n ≡ length bs) × (take n out' ≡ bs)) (λ _. length out < length bs)
