-- What a file has that passes every check, and that such a file passes.
use Rattle.std.proofs.Common.{◌≡◌, ℕ, zero, suc, ◌+◌, ◌*◌, ◌^◌, ◌<◌, ◌≤◌, min, Bool, true, false, cond, eqb, leb, List, [], ◌∷◌, ◌++◌, length, Some, None, sym, refl, ap, ◌∙◌, arith}
use Rattle.std.proofs.lemmas.Bool.Decides.{nat_tests}
use Rattle.std.proofs.lemmas.Bool.{lt-ltb, le-leb, eq-eqb, ltb-true, leb-true, eqb-true}
use Rattle.network.specs.Limits.{max_inputs, max_nodes, max_fanins}
use Rattle.job.specs.declared.denial.Cause.TheVariants.{PairLine}
use Rattle.job.specs.Checks.{Check, check, verdict, upto, max_outputs, byte_at, word_at, inputs_of, outputs_of, nodes_of, offset_of, length_of, output_place, head_end, due_of, record_size, head_checks, output_checks, pair_checks, end_checks, shape_check, fanin_checks, stray_check, record_checks, node_checks, checks}
use Rattle.job.proofs.Verdicts.{append-pass, cons-pass, none_left, none_right, upto-each, record-end, at_records}

-- the record of some bytes at a place, as the row of signal s
pub record Fits (bs : List ℕ) (s at size : ℕ) : Type 0 where
  pub few : byte_at bs at ≤ max_fanins
  pub long : size ≡ record_size (byte_at bs at)
  pub lower : (i : ℕ) → i < byte_at bs at → word_at bs (at + 1 + 2 * i) < s
  pub clean : byte_at bs (at + 1 + 2 * byte_at bs at) < 2 ^ (2 ^ min (byte_at bs at) 3)

pub record Passed (bs : List ℕ) : Type 0 where
  pub four : 4 ≤ length bs
  pub inputs : inputs_of bs ≤ max_inputs
  pub some : 1 ≤ outputs_of bs
  pub few : outputs_of bs ≤ max_outputs
  pub nodes : nodes_of bs ≤ max_nodes
  pub head : head_end bs ≤ length bs
  pub output : (j : ℕ) → j < outputs_of bs → word_at bs (output_place bs j) < inputs_of bs + nodes_of bs
  pub due : (n : ℕ) → n < nodes_of bs → offset_of bs n ≡ due_of bs n
  pub within : (n : ℕ) → n < nodes_of bs → offset_of bs n + length_of bs n ≤ length bs
  pub end : due_of bs (nodes_of bs) ≡ length bs
  pub fits : (n : ℕ) → n < nodes_of bs → Fits bs (inputs_of bs + n) (offset_of bs n) (length_of bs n)

-- the parts that pass
pub record HeadFits (bs : List ℕ) : Type 0 where
  pub four : 4 ≤ length bs
  pub inputs : inputs_of bs ≤ max_inputs
  pub some : 1 ≤ outputs_of bs
  pub few : outputs_of bs ≤ max_outputs
  pub nodes : nodes_of bs ≤ max_nodes
  pub head : head_end bs ≤ length bs

pub head-fits : (bs : List ℕ) → verdict (head_checks bs) ≡ None → HeadFits bs
head-fits bs h = record { four = grind (arith, nat_tests); inputs = grind (arith, nat_tests); some = grind (arith, nat_tests); few = grind (arith, nat_tests); nodes = grind (arith, nat_tests); head = grind (arith, nat_tests) }

-- a check that passes, and those behind it
cons-none : (c : Check) (cs : List Check) → verdict (c ∷ cs) ≡ None → (c.holds ≡ true) × (verdict cs ≡ None)
cons-none c cs h = go c.holds refl
  where
    go : (b : Bool) → b ≡ c.holds → (c.holds ≡ true) × (verdict cs ≡ None)
    go true e = (sym e, ap (λ x. cond x (verdict cs) (Some c.fault)) e ∙ h)
    go false e = let n : Some c.fault ≡ None = ap (λ x. cond x (verdict cs) (Some c.fault)) e ∙ h in let z : ◌≡◌ {A = ℕ} 0 1 = cc in absurd (omega arith)

upto_all : (f : ℕ → List Check) (n : ℕ) → ((i : ℕ) → i < n → verdict (f i) ≡ None) → verdict (upto n f) ≡ None
upto_all f zero h = refl
upto_all f (suc n) h = append-pass (upto n f) (f n) (upto_all f n (λ i l. h i (omega arith))) ∙ h n (omega arith)

pub record-fits : (bs : List ℕ) (s at size : ℕ) → verdict (record_checks bs s at size) ≡ None → Fits bs s at size
record-fits bs s at size h =
    let f = byte_at bs at in
    let last : Check = stray_check bs f (at + 1 + 2 * f) in
    let shape = cons-none (shape_check bs at size) (upto f (fanin_checks bs s at) ++ last ∷ []) h in
    let fanins : verdict (upto f (fanin_checks bs s at)) ≡ None = none_left (upto f (fanin_checks bs s at)) (last ∷ []) shape.1 in
    let stray = cons-none last [] (none_right (upto f (fanin_checks bs s at)) (last ∷ []) shape.1) in
    let is-shape : (shape_check bs at size).holds ≡ true = shape.0 in
    let is-clean : last.holds ≡ true = stray.0 in
    record {
      few = grind (arith, nat_tests);
      long = grind (arith, nat_tests);
      lower = λ i l. lower-at i (upto-each (fanin_checks bs s at) f i fanins l);
      clean = ltb-true (byte_at bs (at + 1 + 2 * f)) (2 ^ (2 ^ min f 3)) is-clean;
    }
  where
    lower-at : (i : ℕ) → verdict (fanin_checks bs s at i) ≡ None → word_at bs (at + 1 + 2 * i) < s
    lower-at i e = ltb-true (word_at bs (at + 1 + 2 * i)) s (cons-none _ [] e).0

abbrev start_check : List ℕ → ℕ → Check
start_check bs n = check (eqb (offset_of bs n) (due_of bs n)) PairLine (4 + 4 * n)

abbrev stop_check : List ℕ → ℕ → Check
stop_check bs n = check (leb (offset_of bs n + length_of bs n) (length bs)) PairLine (6 + 4 * n)

-- a file that passes every check
pub passed : (bs : List ℕ) → verdict (checks bs) ≡ None → Passed bs
passed bs h =
    let records : List Check = upto (nodes_of bs) (node_checks bs) in
    let pairs : List Check = upto (nodes_of bs) (pair_checks bs) in
    let outputs : List Check = upto (outputs_of bs) (output_checks bs) in
    let head : HeadFits bs = head-fits bs (none_left (head_checks bs) (outputs ++ (pairs ++ (end_checks bs ++ records))) h) in
    let h1 = none_right (head_checks bs) (outputs ++ (pairs ++ (end_checks bs ++ records))) h in
    let o : verdict outputs ≡ None = none_left outputs (pairs ++ (end_checks bs ++ records)) h1 in
    let h2 = none_right outputs (pairs ++ (end_checks bs ++ records)) h1 in
    let p : verdict pairs ≡ None = none_left pairs (end_checks bs ++ records) h2 in
    let h3 = none_right pairs (end_checks bs ++ records) h2 in
    let e = cons-none _ [] (none_left (end_checks bs) records h3) in
    let r : verdict records ≡ None = none_right (end_checks bs) records h3 in
    record {
      four = head.four;
      inputs = head.inputs;
      some = head.some;
      few = head.few;
      nodes = head.nodes;
      head = head.head;
      output = λ j l. ltb-true _ _ (cons-none _ [] (upto-each (output_checks bs) (outputs_of bs) j o l)).0;
      due = λ n l. eqb-true _ _ (cons-none (start_check bs n) (stop_check bs n ∷ []) (upto-each (pair_checks bs) (nodes_of bs) n p l)).0;
      within = λ n l. leb-true _ _ (cons-none (stop_check bs n) [] (cons-none (start_check bs n) (stop_check bs n ∷ []) (upto-each (pair_checks bs) (nodes_of bs) n p l)).1).0;
      end = eqb-true _ _ e.0;
      fits = λ n l. record-fits bs _ _ _ (upto-each (node_checks bs) (nodes_of bs) n r l);
    }

pub record-passes : (bs : List ℕ) (s at size : ℕ) → Fits bs s at size → verdict (record_checks bs s at size) ≡ None
record-passes bs s at size k =
    let f = byte_at bs at in
    let few : byte_at bs at ≤ max_fanins = k.few in
    let long : size ≡ record_size (byte_at bs at) = k.long in
    record-end bs s at size (cons-pass (shape_check bs at size) [] (grind (arith, nat_tests)))
    (upto_all (fanin_checks bs s at) f (λ i l. cons-pass _ [] (lt-ltb _ _ (k.lower i l))))
    ∙ cons-pass (stray_check bs f (at + 1 + 2 * f)) [] (lt-ltb _ _ k.clean)

-- and it is refused by none
pub passes : (bs : List ℕ) → Passed bs → verdict (checks bs) ≡ None
passes bs k = at_records bs head
    (upto_all (output_checks bs) (outputs_of bs) (λ j l. cons-pass _ [] (lt-ltb _ _ (k.output j l))))
    (upto_all (pair_checks bs) (nodes_of bs) (λ n l. cons-pass (start_check bs n) (stop_check bs n ∷ []) (eq-eqb _ _ (k.due n l)) ∙ cons-pass (stop_check bs n) [] (le-leb _ _ (k.within n l))))
    (cons-pass _ [] (eq-eqb _ _ k.end))
    ∙ upto_all (node_checks bs) (nodes_of bs) (λ n l. record-passes bs _ _ _ (k.fits n l))
  where
    head : verdict (head_checks bs) ≡ None
    head =
        let a = k.four in
        let b = k.inputs in
        let c = k.some in
        let d = k.few in
        let e = k.nodes in
        let f = k.head in
        grind (arith, nat_tests)
