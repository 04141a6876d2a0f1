use Rattle.std.proofs.Common.{◌≡◌, ℕ, List, ◌++◌, length, take, sym, ap, ◌∙◌, arith}
use Rattle.std.proofs.lemmas.List.{append-nil, take_at, drop_all}
use Rattle.job.specs.Bytes.{encode, splice}
use Rattle.job.specs.Jobs.{job_net}
use Rattle.job.proofs.Splices.{splice_front}
use Rattle.job.proofs.job.Job.to_bytes.Goals as goal

-- bytes written over as many others
over : (n : ℕ) (o w x rest : List ℕ) → w ≡ splice o 0 x → length o ≡ n → length x ≡ n → take n (w ++ rest) ≡ x
over n o w x rest e lo lx =
    let all : w ≡ x = e ∙ splice_front o x ∙ ap (λ v. x ++ v) (drop_all (length x) o (omega arith)) ∙ append-nil x in
    ap (λ v. take n (v ++ rest)) all ∙ take_at x rest n lx

pub returns : goal.returns
returns c =
    let v = c.in_ok-bytes.bytes in
    let made = c.in_ok-bytes.ensures in
    over v.len c.deref_mut.result.now c.store.new.out (encode (job_net c.args.self.now)) _ c.store.ensures c.deref_mut.ensures.len (sym c.file_len.ensures.value ∙ sym made.len)
