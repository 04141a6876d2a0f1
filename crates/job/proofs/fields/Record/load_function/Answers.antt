use Rattle.std.proofs.Common.{◌≡◌, ℕ, ◌≤◌, inl, inr, ◌+◌, ◌-◌, ◌*◌, drop, replicate, length, get_or, ap, ◌∙◌, arith}
use Rattle.std.proofs.lemmas.List.{get_or_append_left, get_or-append_right, get_or-drop, get_or-replicate, get_or_past, length-replicate}
use Rattle.std.proofs.lemmas.Bool.{cases_lt}
use Rattle.network.specs.Limits.{function_bytes}
use Rattle.job.specs.Checks.{byte_at, width_of}
use Rattle.job.proofs.Segments.{byte-seg}
use Rattle.job.proofs.fields.Record.load_function.Goals as goal

-- nothing but the default
all-default : {X : Type 0} (n i : ℕ) (d : X) → get_or (replicate n d) i d ≡ d
all-default n i d = elim (cases_lt i n) [
  | inl l ↦ get_or-replicate n i d d l
  | inr g ↦ get_or_past (replicate n d) i d (let z : length (replicate n d) ≤ i = omega (arith, length-replicate n d) in z)
]

pub returns-clause-bytes : goal.returns-clause-bytes
returns-clause-bytes c k h =
    let bs = c.args.self.now.bytes.now in
    let f = byte_at bs c.args.self.now.at in
    let n = c.function-known.ensures.len in
    let m = c.copy_from_slice.ensures.after in
    get_or_append_left c.copy_from_slice.new.self _ 0 k (omega (arith, ap length m))
    ∙ ap (λ v. get_or v k 0) (m ∙ c.function-known.ensures.value) ∙ byte-seg bs (c.args.self.now.at + 1 + 2 * f) (width_of f) k h

pub returns-clause-unused : goal.returns-clause-unused
returns-clause-unused c k h =
    let w = length c.function-known.result.now in
    let n = c.function-known.ensures.len in
    get_or-append_right c.copy_from_slice.new.self (drop w (replicate function_bytes 0)) w k 0 (ap length c.copy_from_slice.ensures.after) (omega arith)
    ∙ get_or-drop w (replicate function_bytes 0) (k - w) 0 ∙ all-default function_bytes (w + (k - w)) 0
