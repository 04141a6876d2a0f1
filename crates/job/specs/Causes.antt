-- The number of each cause, its words, and what is printed of a refusal.
use Rattle.std.specs.Prelude.{◌≡◌, ℕ, List, ◌++◌, codes, decimal}
use Rattle.job.specs.declared.denial.Cause.{Cause}
use Rattle.job.specs.declared.denial.Cause.TheVariants.{HeadShort, CountRange, PairLine, RecordShape, SignalRange, StrayBit, OutputShort}
use Rattle.job.specs.declared.denial.Refusal.{Refusal}
use Rattle.job.specs.declared.denial.ReadError.{ReadError}
use Rattle.job.specs.declared.denial.ReadError.TheVariants.{Refused, NoMemory}

abbrev pub number_of : Cause → ℕ
number_of HeadShort = 1
number_of CountRange = 2
number_of PairLine = 3
number_of RecordShape = 4
number_of SignalRange = 5
number_of StrayBit = 6
number_of OutputShort = 18

-- the cause in words, for a person
abbrev pub words_of : Cause → List ℕ
words_of HeadShort = codes "the file ends in its head"
words_of CountRange = codes "I, O or N is beyond its range"
words_of PairLine = codes "a pair is out of line or past the end"
words_of RecordShape = codes "f is above 8, or the record's length is wrong"
words_of SignalRange = codes "a fanin is not lower, or an output is no signal"
words_of StrayBit = codes "a function bit at or above 2^f is set"
words_of OutputShort = codes "the bytes supplied for writing are too few"

abbrev pub Says : Cause → List ℕ → Type 0
Says c ws = ws ≡ words_of c

-- what is printed: the number, the place and the words
abbrev pub refusal_text : Refusal → List ℕ
refusal_text r = decimal (number_of r.cause) ++ (codes " at " ++ (decimal r.place ++ (codes ": " ++ words_of r.cause)))

abbrev pub error_text : ReadError → List ℕ
error_text (Refused r) = codes "refused: " ++ refusal_text r
error_text NoMemory = codes "no memory"
