-- Reading what was written, and writing what was read.
use Rattle.std.proofs.Common.{◌≡◌, ℕ, ◌<◌, List, length, take, drop, Some, None, Ok, Err, Result, MatchResult, sym, ap, ◌∙◌, arith}
use Rattle.std.proofs.lemmas.List.{take_at}
use Rattle.network.specs.Nets.{Net, LegalNet}
use Rattle.network.proofs.Nets.{legal-net}
use Rattle.job.specs.declared.job.Job.{Job}
use Rattle.job.specs.declared.denial.Cause.{Cause}
use Rattle.job.specs.declared.denial.ReadError.TheVariants.{Refused, NoMemory}
use Rattle.job.specs.Checks.{verdict, checks}
use Rattle.job.specs.Bytes.{encode}
use Rattle.job.specs.Jobs.{job_net, Reopens, Writes}
use Rattle.job.proofs.Passed.{passes}
use Rattle.job.proofs.Encoded.{encoded-passes}
use Rattle.job.proofs.Same.{encode_same}

job-legal : (j : Job) → LegalNet (job_net j)
job-legal j = legal-net j.network

job-passes : (j : Job) → verdict (checks (encode (job_net j))) ≡ None
job-passes j = passes (encode (job_net j)) (encoded-passes (job_net j) (job-legal j) j.some j.few)

pub reopens : (j : Job) → Reopens j
reopens j (Ok k) h = encode_same (job_net k) (job_net j) (job-legal k) (job-legal j) h.1
reopens j (Err (Refused d)) h = let e : Some d ≡ None = sym h ∙ job-passes j in let z : ◌≡◌ {A = ℕ} 0 1 = cc in omega arith
reopens j (Err NoMemory) h = tt

pub writes-back : (bs : List ℕ) (net : Net) → encode net ≡ bs → (out : List ℕ) (r : Result ℕ Cause) (out' : List ℕ) → Writes net out r out' → MatchResult r (λ n. (n ≡ length bs) × (take n out' ≡ bs)) (λ _. length out < length bs)
writes-back bs net e out (Ok n) out' h = (h.0 ∙ ap length e, ap (take n) h.2 ∙ take_at (encode net) (drop n out) n (sym h.0) ∙ e)
writes-back bs net e out (Err c) out' h = let l = ap length e in omega (arith, h.1)
