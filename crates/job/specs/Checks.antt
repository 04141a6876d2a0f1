-- Where the fields of a job file lie, and the checks that it has to pass, in their order.
use Rattle.std.specs.Prelude.{ℕ, zero, suc, ◌+◌, ◌*◌, ◌/◌, ◌^◌, min, max, Bool, cond, ◌&&◌, List, [], ◌∷◌, ◌++◌, length, Some, None, Option, ◌==◌, nat_le, nat_lt, slice_index}
use Rattle.network.specs.Limits.{max_inputs, max_nodes, max_fanins}
use Rattle.job.specs.declared.denial.Refusal.{Refusal}
use Rattle.job.specs.declared.denial.Cause.{Cause}
use Rattle.job.specs.declared.denial.Cause.TheVariants.{HeadShort, CountRange, PairLine, RecordShape, SignalRange, StrayBit}

abbrev pub max_outputs : ℕ
max_outputs = 48

-- the length of the longest job
abbrev pub max_file_length : ℕ
max_file_length = 4 + 4 * max_nodes + 2 * max_outputs + max_nodes * (1 + 2 * max_fanins + 2 ^ max_fanins / 8)

-- a check: whether it holds, and the refusal where it does not
pub record Check : Type 0 where
  pub holds : Bool
  pub fault : Refusal

abbrev pub check : Bool → Cause → ℕ → Check
check b c p = record { holds = b; fault = record { cause = c; place = p } }

-- the fault of the first check that fails
abbrev pub verdict : List Check → Option Refusal
verdict [] = None
verdict (c ∷ cs) = cond c.holds (verdict cs) (Some c.fault)

-- f 0, then f 1, and so on up to f (n - 1)
abbrev pub upto : ℕ → (ℕ → List Check) → List Check
upto zero f = []
upto (suc n) f = upto n f ++ f n

-- fields: a byte, and a word of two bytes, the low one first
abbrev pub byte_at : List ℕ → ℕ → ℕ
byte_at bs p = slice_index bs p

abbrev pub word_at : List ℕ → ℕ → ℕ
word_at bs p = slice_index bs p + 256 * slice_index bs (p + 1)

-- I, O and N
abbrev pub inputs_of : List ℕ → ℕ
inputs_of bs = byte_at bs 0

abbrev pub outputs_of : List ℕ → ℕ
outputs_of bs = byte_at bs 1

abbrev pub nodes_of : List ℕ → ℕ
nodes_of bs = word_at bs 2

-- the pair of record n
abbrev pub offset_of : List ℕ → ℕ → ℕ
offset_of bs n = word_at bs (4 + 4 * n)

abbrev pub length_of : List ℕ → ℕ → ℕ
length_of bs n = word_at bs (6 + 4 * n)

-- the place of output j
abbrev pub output_place : List ℕ → ℕ → ℕ
output_place bs j = 4 + 4 * nodes_of bs + 2 * j

abbrev pub head_end : List ℕ → ℕ
head_end bs = 4 + 4 * nodes_of bs + 2 * outputs_of bs

-- where record n is due: after the head, or after the record before
abbrev pub due_of : List ℕ → ℕ → ℕ
due_of bs zero = head_end bs
due_of bs (suc n) = offset_of bs n + length_of bs n

-- the function bytes of f fanins, and the length of such a record
abbrev pub width_of : ℕ → ℕ
width_of f = max 1 (2 ^ f / 8)

abbrev pub record_size : ℕ → ℕ
record_size f = 1 + 2 * f + width_of f

-- the checks of the head
abbrev pub head_checks : List ℕ → List Check
head_checks bs = check (nat_le 4 (length bs)) HeadShort (length bs)
    ∷ check (nat_le (inputs_of bs) max_inputs) CountRange 0
    ∷ check (nat_le 1 (outputs_of bs) && nat_le (outputs_of bs) max_outputs) CountRange 1
    ∷ check (nat_le (nodes_of bs) max_nodes) CountRange 2
    ∷ check (nat_le (head_end bs) (length bs)) HeadShort (length bs)
    ∷ []

-- output j is a signal
abbrev pub output_checks : List ℕ → ℕ → List Check
output_checks bs j = check (nat_lt (word_at bs (output_place bs j)) (inputs_of bs + nodes_of bs)) SignalRange (output_place bs j) ∷ []

-- record n starts where it is due, and ends within the file
abbrev pub pair_checks : List ℕ → ℕ → List Check
pair_checks bs n = check (offset_of bs n == due_of bs n) PairLine (4 + 4 * n)
    ∷ check (nat_le (offset_of bs n + length_of bs n) (length bs)) PairLine (6 + 4 * n)
    ∷ []

-- the last record, or the head where there is none, ends the file
abbrev pub end_place : List ℕ → ℕ
end_place bs = cond (nodes_of bs == 0) (head_end bs) (2 + 4 * nodes_of bs)

abbrev pub end_checks : List ℕ → List Check
end_checks bs = check (due_of bs (nodes_of bs) == length bs) PairLine (end_place bs) ∷ []

-- a record's fanin count and length
abbrev pub shape_check : List ℕ → ℕ → ℕ → Check
shape_check bs at size = check (nat_le (byte_at bs at) max_fanins && size == record_size (byte_at bs at)) RecordShape at

-- a fanin at a place is lower than s
abbrev pub fanin_check : List ℕ → ℕ → ℕ → Check
fanin_check bs s p = check (nat_lt (word_at bs p) s) SignalRange p

-- words from a place on are signals lower than s
abbrev pub signal_checks : List ℕ → ℕ → ℕ → ℕ → List Check
signal_checks bs s p i = fanin_check bs s (p + 2 * i) ∷ []

abbrev pub fanin_checks : List ℕ → ℕ → ℕ → ℕ → List Check
fanin_checks bs s at i = fanin_check bs s (at + 1 + 2 * i) ∷ []

-- the first function byte, which alone can have a bit at or above 2 ^ f, has none
abbrev pub stray_check : List ℕ → ℕ → ℕ → Check
stray_check bs f p = check (nat_lt (byte_at bs p) (2 ^ (2 ^ min f 3))) StrayBit p

-- the record of some bytes at a place, as the row of signal s
abbrev pub record_checks : List ℕ → ℕ → ℕ → ℕ → List Check
record_checks bs s at size = shape_check bs at size
    ∷ upto (byte_at bs at) (fanin_checks bs s at)
    ++ stray_check bs (byte_at bs at) (at + 1 + 2 * byte_at bs at)
    ∷ []

abbrev pub node_checks : List ℕ → ℕ → List Check
node_checks bs n = record_checks bs (inputs_of bs + n) (offset_of bs n) (length_of bs n)

-- all checks, in their order
abbrev pub checks : List ℕ → List Check
checks bs = head_checks bs
    ++ (upto (outputs_of bs) (output_checks bs)
    ++ (upto (nodes_of bs) (pair_checks bs)
    ++ (end_checks bs
    ++ upto (nodes_of bs) (node_checks bs))))
