-- The first check that fails, part by part.
use Rattle.std.proofs.Common.{◌≡◌, ℕ, zero, suc, ◌+◌, ◌*◌, ◌<◌, ◌≤◌, Bool, true, false, cond, List, [], ◌∷◌, ◌++◌, length, Some, None, Option, Ok, Err, Result, sym, refl, ap, ◌∙◌, subst, inl, inr, add-one, arith}
use Rattle.std.specs.Result.{IsErrAnd, result_err}
use Rattle.std.proofs.lemmas.Bool.{cases_lt}
use Rattle.job.specs.declared.denial.Refusal.{Refusal}
use Rattle.job.specs.Checks.{Check, verdict, upto, due_of, offset_of, length_of, byte_at, shape_check, stray_check, signal_checks, fanin_checks, record_checks, node_checks, head_checks, output_checks, pair_checks, end_checks, inputs_of, outputs_of, nodes_of, checks}
use Rattle.std.proofs.lemmas.Bool.Decides.{nat_tests}

-- the first of two answers
abbrev pub or_else : Option Refusal → Option Refusal → Option Refusal
or_else None o = o
or_else (Some d) o = Some d

or-else-cond : (b : Bool) (d : Refusal) (a v w : Option Refusal) → a ≡ or_else v w → cond b a (Some d) ≡ or_else (cond b v (Some d)) w
or-else-cond true d a v w e = e
or-else-cond false d a v w e = refl

pub verdict-append : (xs ys : List Check) → verdict (xs ++ ys) ≡ or_else (verdict xs) (verdict ys)
verdict-append [] ys = refl
verdict-append (x ∷ xs) ys = or-else-cond x.holds x.fault _ (verdict xs) (verdict ys) (verdict-append xs ys)

left-none : (v w : Option Refusal) → or_else v w ≡ None → v ≡ None
left-none None w e = refl
left-none (Some d) w e = let z : ◌≡◌ {A = ℕ} 0 1 = cc in absurd (omega arith)

abbrev after_pairs : List ℕ → List Check
after_pairs bs = end_checks bs ++ upto (nodes_of bs) (node_checks bs)

abbrev after_outputs : List ℕ → List Check
after_outputs bs = upto (nodes_of bs) (pair_checks bs) ++ after_pairs bs

abbrev after_head : List ℕ → List Check
after_head bs = upto (outputs_of bs) (output_checks bs) ++ after_outputs bs

pub append-pass : (xs ys : List Check) → verdict xs ≡ None → verdict (xs ++ ys) ≡ verdict ys
append-pass xs ys e = verdict-append xs ys ∙ ap (λ o. or_else o (verdict ys)) e

pub append-stop : (xs ys : List Check) (d : Refusal) → verdict xs ≡ Some d → verdict (xs ++ ys) ≡ Some d
append-stop xs ys d e = verdict-append xs ys ∙ ap (λ o. or_else o (verdict ys)) e

-- a loop's step, and its stop
pub upto-more : (f : ℕ → List Check) (i : ℕ) → verdict (upto i f) ≡ None → verdict (f i) ≡ None → verdict (upto (i + 1) f) ≡ None
upto-more f i e h = rw add-one (append-pass (upto i f) (f i) e ∙ h)

pub upto-stop : (f : ℕ → List Check) (i n : ℕ) (d : Refusal) → i < n → verdict (upto i f) ≡ None → verdict (f i) ≡ Some d → verdict (upto n f) ≡ Some d
upto-stop f i zero d l e h = absurd (omega arith)
upto-stop f i (suc n) d l e h = elim (cases_lt i n) [
  | inl lt ↦ append-stop (upto n f) (f n) d (upto-stop f i n d lt e h)
  | inr ge ↦ let same : i ≡ n = omega arith in
      append-pass (upto n f) (f n) (subst (λ k. verdict (upto k f) ≡ None) same e) ∙ subst (λ k. verdict (f k) ≡ Some d) same h
]

pub due-more : (bs : List ℕ) (n : ℕ) → due_of bs (n + 1) ≡ offset_of bs n + length_of bs n
due-more bs n = ap (due_of bs) (add-one n)

pub cons-pass : (c : Check) (cs : List Check) → c.holds ≡ true → verdict (c ∷ cs) ≡ verdict cs
cons-pass c cs e = ap (λ b. cond b (verdict cs) (Some c.fault)) e

pub cons-stop : (c : Check) (cs : List Check) → c.holds ≡ false → verdict (c ∷ cs) ≡ Some c.fault
cons-stop c cs e = ap (λ b. cond b (verdict cs) (Some c.fault)) e

pub record-stop : (bs : List ℕ) (s at size : ℕ) (d : Refusal) → verdict (shape_check bs at size ∷ []) ≡ None → verdict (upto (byte_at bs at) (fanin_checks bs s at)) ≡ Some d → verdict (record_checks bs s at size) ≡ Some d
record-stop bs s at size d e h =
    let rest = stray_check bs (byte_at bs at) (at + 1 + 2 * byte_at bs at) ∷ [] in
    append-pass (shape_check bs at size ∷ []) (upto (byte_at bs at) (fanin_checks bs s at) ++ rest) e
    ∙ append-stop (upto (byte_at bs at) (fanin_checks bs s at)) rest d h

pub record-end : (bs : List ℕ) (s at size : ℕ) → verdict (shape_check bs at size ∷ []) ≡ None → verdict (upto (byte_at bs at) (fanin_checks bs s at)) ≡ None → verdict (record_checks bs s at size) ≡ verdict (stray_check bs (byte_at bs at) (at + 1 + 2 * byte_at bs at) ∷ [])
record-end bs s at size e h =
    let rest = stray_check bs (byte_at bs at) (at + 1 + 2 * byte_at bs at) ∷ [] in
    append-pass (shape_check bs at size ∷ []) (upto (byte_at bs at) (fanin_checks bs s at) ++ rest) e
    ∙ append-pass (upto (byte_at bs at) (fanin_checks bs s at)) rest h

-- what each part says where all pass
pub none_left : (xs ys : List Check) → verdict (xs ++ ys) ≡ None → verdict xs ≡ None
none_left xs ys e = left-none (verdict xs) (verdict ys) (sym (verdict-append xs ys) ∙ e)

pub none_right : (xs ys : List Check) → verdict (xs ++ ys) ≡ None → verdict ys ≡ None
none_right xs ys e = sym (append-pass xs ys (none_left xs ys e)) ∙ e

pub upto-each : (f : ℕ → List Check) (n i : ℕ) → verdict (upto n f) ≡ None → i < n → verdict (f i) ≡ None
upto-each f zero i e l = absurd (omega arith)
upto-each f (suc n) i e l = elim (cases_lt i n) [
  | inl lt ↦ upto-each f n i (none_left (upto n f) (f n) e) lt
  | inr ge ↦ let same : n ≡ i = omega arith in subst (λ k. verdict (f k) ≡ None) same (none_right (upto n f) (f n) e)
]

pub pair-within : (bs : List ℕ) (n i : ℕ) → verdict (upto n (pair_checks bs)) ≡ None → i < n → offset_of bs i + length_of bs i ≤ length bs
pair-within bs n i e l = let h : verdict (pair_checks bs i) ≡ None = upto-each (pair_checks bs) n i e l in grind (arith, nat_tests)

-- how the parts of the whole list join
pub at-outputs : (bs : List ℕ) (d : Refusal) → verdict (head_checks bs) ≡ None → verdict (upto (outputs_of bs) (output_checks bs)) ≡ Some d → verdict (checks bs) ≡ Some d
at-outputs bs d h e = append-pass (head_checks bs) (after_head bs) h ∙ append-stop (upto (outputs_of bs) (output_checks bs)) (after_outputs bs) d e

pub at-pairs : (bs : List ℕ) (d : Refusal) → verdict (head_checks bs) ≡ None → verdict (upto (outputs_of bs) (output_checks bs)) ≡ None → verdict (upto (nodes_of bs) (pair_checks bs)) ≡ Some d → verdict (checks bs) ≡ Some d
at-pairs bs d h o e = append-pass (head_checks bs) (after_head bs) h ∙ append-pass (upto (outputs_of bs) (output_checks bs)) (after_outputs bs) o ∙ append-stop (upto (nodes_of bs) (pair_checks bs)) (after_pairs bs) d e

pub at_rest : (bs : List ℕ) → verdict (head_checks bs) ≡ None → verdict (upto (outputs_of bs) (output_checks bs)) ≡ None → verdict (upto (nodes_of bs) (pair_checks bs)) ≡ None → verdict (checks bs) ≡ or_else (verdict (end_checks bs)) (verdict (upto (nodes_of bs) (node_checks bs)))
at_rest bs h o p = append-pass (head_checks bs) (after_head bs) h ∙ append-pass (upto (outputs_of bs) (output_checks bs)) (after_outputs bs) o ∙ append-pass (upto (nodes_of bs) (pair_checks bs)) (after_pairs bs) p ∙ verdict-append (end_checks bs) (upto (nodes_of bs) (node_checks bs))

pub at-end : (bs : List ℕ) (d : Refusal) → verdict (head_checks bs) ≡ None → verdict (upto (outputs_of bs) (output_checks bs)) ≡ None → verdict (upto (nodes_of bs) (pair_checks bs)) ≡ None → verdict (end_checks bs) ≡ Some d → verdict (checks bs) ≡ Some d
at-end bs d h o p e = at_rest bs h o p ∙ ap (λ x. or_else x (verdict (upto (nodes_of bs) (node_checks bs)))) e

pub at_records : (bs : List ℕ) → verdict (head_checks bs) ≡ None → verdict (upto (outputs_of bs) (output_checks bs)) ≡ None → verdict (upto (nodes_of bs) (pair_checks bs)) ≡ None → verdict (end_checks bs) ≡ None → verdict (checks bs) ≡ verdict (upto (nodes_of bs) (node_checks bs))
at_records bs h o p e = at_rest bs h o p ∙ ap (λ x. or_else x (verdict (upto (nodes_of bs) (node_checks bs)))) e

pub same-record : (bs : List ℕ) (n i o s : ℕ) → i ≡ inputs_of bs → o ≡ offset_of bs n → s ≡ length_of bs n → verdict (record_checks bs (i + n) o s) ≡ verdict (node_checks bs n)
same-record bs n i o s e p q = ap (λ x. verdict (record_checks bs (x + n) o s)) e ∙ ap (λ x. verdict (record_checks bs (inputs_of bs + n) x s)) p ∙ ap (λ x. verdict (record_checks bs (inputs_of bs + n) (offset_of bs n) x)) q

-- the refusal that a `?` passes on
pub passed-on : {T : Type 0} (r : Result T Refusal) {d : Refusal} {v : Option Refusal} → IsErrAnd r (λ e. e ≡ d) → v ≡ Some d → result_err r ≡ v
passed-on (Ok x) h e = absurd h
passed-on (Err y) h e = ap Some h ∙ sym e

-- a head that passes, by other bytes that are the same
pub head-passes : (bs xs : List ℕ) → xs ≡ bs → None ≡ verdict (head_checks bs) → verdict (head_checks xs) ≡ None
head-passes bs xs e h = ap (λ b. verdict (head_checks b)) e ∙ sym h

-- the checks of the same signals
pub same-signals : (bs : List ℕ) (m n s t p q : ℕ) → m ≡ n → s ≡ t → p ≡ q → verdict (upto m (signal_checks bs s p)) ≡ verdict (upto n (signal_checks bs t q))
same-signals bs m n s t p q em es ep = ap (λ v. verdict (upto v (signal_checks bs s p))) em ∙ ap (λ v. verdict (upto n (signal_checks bs v p))) es ∙ ap (λ v. verdict (upto n (signal_checks bs t v))) ep

-- the checks of the same record
pub same-fanins : (xs ys : List ℕ) (s a b : ℕ) → xs ≡ ys → a ≡ b → verdict (upto (byte_at xs a) (fanin_checks xs s a)) ≡ verdict (upto (byte_at ys b) (fanin_checks ys s b))
same-fanins xs ys s a b p q = ap (λ x. verdict (upto (byte_at x a) (fanin_checks x s a))) p ∙ ap (λ x. verdict (upto (byte_at ys x) (fanin_checks ys s x))) q

pub same-stray : (xs ys : List ℕ) (a b : ℕ) → xs ≡ ys → a ≡ b → verdict (stray_check xs (byte_at xs a) (a + 1 + 2 * byte_at xs a) ∷ []) ≡ verdict (stray_check ys (byte_at ys b) (b + 1 + 2 * byte_at ys b) ∷ [])
same-stray xs ys a b p q = ap (λ x. verdict (stray_check x (byte_at x a) (a + 1 + 2 * byte_at x a) ∷ [])) p ∙ ap (λ x. verdict (stray_check ys (byte_at ys x) (x + 1 + 2 * byte_at ys x) ∷ [])) q
