-- The fields of an encoded network, and that it passes every check.
use Rattle.std.proofs.Common.{◌≡◌, ℕ, zero, suc, ◌+◌, ◌-◌, ◌*◌, ◌/◌, ◌%◌, ◌^◌, ◌<◌, ◌≤◌, min, List, [], ◌∷◌, ◌++◌, length, get_or, take, drop, sym, refl, ap, ◌∙◌, subst, add-zero, add-one, arith}
use Rattle.std.specs.List.{flat_map}
use Rattle.std.proofs.lemmas.List.{append_assoc, get_or_append_left, get_or-append_right, length-append, length-take-le, take-append-drop, drop_more, take_all, get_or-take}
use Rattle.network.specs.Limits.{max_fanins}
use Rattle.network.specs.Rows.{no_signal, blank, fanin, Legal}
use Rattle.network.specs.Nets.{Net, nodes, row_at, output_at, LegalNet}
use Rattle.network.specs.declared.row.Signal.{Signal}
use Rattle.network.specs.declared.row.Row.{Row}
use Rattle.job.specs.Checks.{max_outputs, byte_at, word_at, inputs_of, outputs_of, nodes_of, offset_of, length_of, output_place, head_end, due_of, width_of, record_size}
use Rattle.job.specs.Bytes.{le16, signal_bytes, record_bytes, sizes, pairs_from, encode}
use Rattle.job.proofs.Functions.{wide, clean-first}
use Rattle.job.proofs.Sizes.{Sound, joined-append, sizes-more, sizes-within, pairs-append, length-signals, length_pairs, length-record}
use Rattle.job.proofs.Passed.{Fits, Passed}

-- a byte and a word behind other bytes
byte-in : (xs ys : List ℕ) (b p : ℕ) → length xs ≡ p → byte_at (xs ++ b ∷ ys) p ≡ b
byte-in xs ys b p e = let z : p - p ≡ 0 = omega arith in get_or-append_right xs (b ∷ ys) p p 0 e (omega arith) ∙ ap (λ i. get_or (b ∷ ys) i 0) z

whole_word : (w : ℕ) → w % 256 + 256 * (w / 256) ≡ w
whole_word w = omega arith

word_in : (xs ys : List ℕ) (w p : ℕ) → length xs ≡ p → word_at (xs ++ (le16 w ++ ys)) p ≡ w
word_in xs ys w p e =
    let z : p - p ≡ 0 = omega arith in
    let o : p + 1 - p ≡ 1 = omega arith in
    let a : get_or (xs ++ (le16 w ++ ys)) p 0 ≡ w % 256 = get_or-append_right xs (le16 w ++ ys) p p 0 e (omega arith) ∙ ap (λ i. get_or (le16 w ++ ys) i 0) z in
    let b : get_or (xs ++ (le16 w ++ ys)) (p + 1) 0 ≡ w / 256 = get_or-append_right xs (le16 w ++ ys) p (p + 1) 0 e (omega arith) ∙ ap (λ i. get_or (le16 w ++ ys) i 0) o in
    let c = whole_word w in
    omega arith

-- a list at one of its elements
at-element : {X : Type 0} (xs : List X) (n : ℕ) (d : X) → n < length xs → xs ≡ take n xs ++ get_or xs n d ∷ drop (n + 1) xs
at-element xs n d l = sym (take-append-drop n xs) ∙ ap (λ v. take n xs ++ v) (drop_more xs n d l)

-- the place of a word among others
signals-at : (xs : List Signal) (n : ℕ) → n < length xs → signal_bytes xs ≡ signal_bytes (take n xs) ++ (le16 (get_or xs n no_signal).0 ++ signal_bytes (drop (n + 1) xs))
signals-at xs n l = ap signal_bytes (at-element xs n no_signal l) ∙ joined-append (λ s. le16 s.0) (take n xs) (get_or xs n no_signal ∷ drop (n + 1) xs)

length-signals-take : (xs : List Signal) (n : ℕ) → n ≤ length xs → length (signal_bytes (take n xs)) ≡ 2 * n
length-signals-take xs n l = length-signals (take n xs) ∙ ap (λ m. 2 * m) (length-take-le n xs l)

-- the record of a legal row, behind other bytes
record-there : (xs ys : List ℕ) (s at : ℕ) (r : Row) → Legal s r → length xs ≡ at → Fits (xs ++ (record_bytes r ++ ys)) s at (record_size r.count)
record-there xs ys s at r l e =
    let c = r.count in
    let few = l.few in
    let places = l.places in
    let bytes = l.bytes in
    let w = wide c few in
    let signals : List ℕ = signal_bytes (take c r.fanins) in
    let table : List ℕ = take (width_of c) r.function.bytes in
    let bs : List ℕ = xs ++ (record_bytes r ++ ys) in
    let lt : length (take c r.fanins) ≡ c = length-take-le c r.fanins (omega arith) in
    let count : byte_at bs at ≡ c = byte-in xs ((signals ++ table) ++ ys) c at e in
    let word : (i : ℕ) → i < c → word_at bs (at + 1 + 2 * i) ≡ fanin r i = λ i q.
    let q' : i < length (take c r.fanins) = omega arith in
    let front : List ℕ = signal_bytes (take i (take c r.fanins)) in
    let x : ℕ = (get_or (take c r.fanins) i no_signal).0 in
    let back : List ℕ = signal_bytes (drop (i + 1) (take c r.fanins)) in
    let shape : bs ≡ (xs ++ c ∷ front) ++ (le16 x ++ (back ++ (table ++ ys))) =
    ap (λ v. xs ++ c ∷ v) (append_assoc signals table ys ∙ ap (λ v. v ++ (table ++ ys)) (signals-at (take c r.fanins) i q') ∙ append_assoc front (le16 x ++ back) (table ++ ys) ∙ ap (λ v. front ++ v) (append_assoc (le16 x) back (table ++ ys)))
    ∙ sym (append_assoc xs (c ∷ front) (le16 x ++ (back ++ (table ++ ys)))) in
    let long : length (xs ++ c ∷ front) ≡ at + 1 + 2 * i = omega (arith, length-append xs (c ∷ front), length-signals-take (take c r.fanins) i (omega arith)) in
    ap (λ v. word_at v (at + 1 + 2 * i)) shape ∙ word_in (xs ++ c ∷ front) (back ++ (table ++ ys)) x (at + 1 + 2 * i) long ∙ ap (λ t. t.0) (get_or-take c r.fanins i no_signal q) in
    let first : byte_at bs (at + 1 + 2 * c) ≡ get_or r.function.bytes 0 0 =
    let z : at + 1 + 2 * c - (at + 1 + 2 * c) ≡ 0 = omega arith in
    let one = w.one in
    let most = w.most in
    let lt' : length table ≡ width_of c = length-take-le (width_of c) r.function.bytes (omega arith) in
    let shape : bs ≡ (xs ++ c ∷ signals) ++ (table ++ ys) = ap (λ v. xs ++ c ∷ v) (append_assoc signals table ys) ∙ sym (append_assoc xs (c ∷ signals) (table ++ ys)) in
    let long : length (xs ++ c ∷ signals) ≡ at + 1 + 2 * c = omega (arith, length-append xs (c ∷ signals), length-signals (take c r.fanins)) in
    ap (λ v. byte_at v (at + 1 + 2 * c)) shape
    ∙ get_or-append_right (xs ++ c ∷ signals) (table ++ ys) (at + 1 + 2 * c) (at + 1 + 2 * c) 0 long (omega arith) ∙ ap (λ i. get_or (table ++ ys) i 0) z
    ∙ get_or_append_left table ys 0 0 (omega arith) ∙ get_or-take (width_of c) r.function.bytes 0 0 (omega arith) in
    record {
      few = subst (λ n. n ≤ max_fanins) (sym count) few;
      long = ap record_size (sym count);
      lower = λ i q. let q' : i < c = omega arith in omega (arith, word i q', l.lower i q');
      clean = subst (λ n. byte_at bs (at + 1 + 2 * n) < 2 ^ (2 ^ min n 3)) (sym count) (subst (λ b. b < 2 ^ (2 ^ min c 3)) (sym first) (clean-first c r.function few l.bytes l.byte l.clean));
    }

-- every row of a legal network has a record of its length
pub sound-of : {s : ℕ} {r : Row} → Legal s r → Sound r
sound-of l = record { few = l.few; places = l.places; bytes = l.bytes }

pub length-records : (rs : List Row) → ((n : ℕ) → n < length rs → Sound (get_or rs n blank)) → length (flat_map record_bytes rs) ≡ sizes rs
length-records [] h = refl
length-records (r ∷ rs) h =
    let a = length-append (record_bytes r) (flat_map record_bytes rs) in
    let b = length-record r (h 0 (omega arith)) in
    let c = length-records rs (λ n l. h (suc n) (omega arith)) in
    omega (arith, a, b, c)

module _ (net : Net) (legal : LegalNet net) where
  abbrev first : ℕ
  first = 4 + 4 * nodes net + 2 * length net.outputs

  abbrev counts : List ℕ
  counts = net.inputs ∷ length net.outputs ∷ le16 (nodes net)

  -- where record n starts
  abbrev start : ℕ → ℕ
  start n = first + sizes (take n net.rows)

  sound : (n : ℕ) → n < nodes net → Sound (row_at net n)
  sound n l = sound-of (legal.row n l)

  pub length-encode : length (encode net) ≡ first + sizes net.rows
  unfolding encode
  length-encode =
      let ps = pairs_from first net.rows in
      let ss = signal_bytes net.outputs in
      let rs = flat_map record_bytes net.rows in
      omega (arith, length-append ps (ss ++ rs), length-append ss rs, length_pairs first net.rows, length-signals net.outputs, length-records net.rows sound)

  pub inputs-of : inputs_of (encode net) ≡ net.inputs
  unfolding encode
  inputs-of = refl

  pub outputs-of : outputs_of (encode net) ≡ length net.outputs
  unfolding encode
  outputs-of = refl

  pub nodes-of : nodes_of (encode net) ≡ nodes net
  unfolding encode
  nodes-of = whole_word (nodes net)

  head-end : head_end (encode net) ≡ first
  head-end = omega (arith, nodes-of, outputs-of)

  -- the pair of record n, and what stands before and behind it
  pairs-at : (n : ℕ) → n < nodes net → encode net ≡ (counts ++ pairs_from first (take n net.rows)) ++ (le16 (start n) ++ (le16 (record_size (row_at net n).count) ++ (pairs_from (start n + record_size (row_at net n).count) (drop (n + 1) net.rows) ++ (signal_bytes net.outputs ++ flat_map record_bytes net.rows))))
  unfolding encode
  pairs-at n l =
      let front = pairs_from first (take n net.rows) in
      let a = le16 (start n) in
      let b = le16 (record_size (row_at net n).count) in
      let back = pairs_from (start n + record_size (row_at net n).count) (drop (n + 1) net.rows) in
      let rest = signal_bytes net.outputs ++ flat_map record_bytes net.rows in
      let e : pairs_from first net.rows ≡ front ++ ((a ++ b) ++ back) = ap (pairs_from first) (at-element net.rows n blank l) ∙ pairs-append first (take n net.rows) (row_at net n ∷ drop (n + 1) net.rows) in
      ap (λ v. counts ++ (v ++ rest)) e
      ∙ ap (λ v. counts ++ v) (append_assoc front ((a ++ b) ++ back) rest ∙ ap (λ v. front ++ v) (append_assoc (a ++ b) back rest ∙ append_assoc a b (back ++ rest)))
      ∙ sym (append_assoc counts front (a ++ (b ++ (back ++ rest))))

  length_before : (n : ℕ) → n ≤ nodes net → length (counts ++ pairs_from first (take n net.rows)) ≡ 4 + 4 * n
  length_before n l = omega (arith, length_pairs first (take n net.rows), length-take-le n net.rows l)

  offset-of : (n : ℕ) → n < nodes net → offset_of (encode net) n ≡ start n
  offset-of n l = ap (λ v. word_at v (4 + 4 * n)) (pairs-at n l) ∙ word_in (counts ++ pairs_from first (take n net.rows)) _ (start n) (4 + 4 * n) (length_before n (omega arith))

  length-of : (n : ℕ) → n < nodes net → length_of (encode net) n ≡ record_size (row_at net n).count
  length-of n l =
      let front = counts ++ pairs_from first (take n net.rows) in
      let back = le16 (record_size (row_at net n).count) ++ (pairs_from (start n + record_size (row_at net n).count) (drop (n + 1) net.rows) ++ (signal_bytes net.outputs ++ flat_map record_bytes net.rows)) in
      ap (λ v. word_at v (6 + 4 * n)) (pairs-at n l ∙ sym (append_assoc front (le16 (start n)) back))
      ∙ word_in (front ++ le16 (start n)) _ (record_size (row_at net n).count) (6 + 4 * n) (omega (arith, length-append front (le16 (start n)), length_before n (omega arith)))

  due-of : (n : ℕ) → n ≤ nodes net → due_of (encode net) n ≡ start n
  due-of zero l = head-end ∙ sym (add-zero first)
  due-of (suc n) l =
      let h : n < nodes net = omega arith in
      let e : suc n ≡ n + 1 = sym (add-one n) in
      omega (arith, offset-of n h, length-of n h, sizes-more net.rows n h, ap (λ m. sizes (take m net.rows)) e)

  output-of : (j : ℕ) → j < length net.outputs → word_at (encode net) (output_place (encode net) j) ≡ output_at net j
  unfolding encode
  output-of j l =
      let ps = pairs_from first net.rows in
      let front = signal_bytes (take j net.outputs) in
      let back = signal_bytes (drop (j + 1) net.outputs) in
      let w = le16 (output_at net j) in
      let rs = flat_map record_bytes net.rows in
      let shape : counts ++ (ps ++ (signal_bytes net.outputs ++ rs)) ≡ (counts ++ (ps ++ front)) ++ (w ++ (back ++ rs)) =
      ap (λ v. counts ++ (ps ++ (v ++ rs))) (signals-at net.outputs j l)
      ∙ ap (λ v. counts ++ (ps ++ v)) (append_assoc front (w ++ back) rs ∙ ap (λ v. front ++ v) (append_assoc w back rs))
      ∙ ap (λ v. counts ++ v) (sym (append_assoc ps front (w ++ (back ++ rs))))
      ∙ sym (append_assoc counts (ps ++ front) (w ++ (back ++ rs))) in
      let e : output_place (encode net) j ≡ 4 + 4 * nodes net + 2 * j = omega (arith, nodes-of) in
      ap (word_at (encode net)) e ∙ ap (λ v. word_at v (4 + 4 * nodes net + 2 * j)) shape
      ∙ word_in (counts ++ (ps ++ front)) (back ++ rs) (output_at net j) (4 + 4 * nodes net + 2 * j) (omega (arith, length-append ps front, length_pairs first net.rows, length-signals-take net.outputs j (omega arith)))

  record_of : (n : ℕ) → n < nodes net → Fits (encode net) (net.inputs + n) (start n) (record_size (row_at net n).count)
  unfolding encode
  record_of n l =
      let ps = pairs_from first net.rows in
      let ss = signal_bytes net.outputs in
      let front = flat_map record_bytes (take n net.rows) in
      let back = flat_map record_bytes (drop (n + 1) net.rows) in
      let r = record_bytes (row_at net n) in
      let e : flat_map record_bytes net.rows ≡ front ++ (r ++ back) = ap (flat_map record_bytes) (at-element net.rows n blank l) ∙ joined-append record_bytes (take n net.rows) (row_at net n ∷ drop (n + 1) net.rows) in
      let shape : (counts ++ (ps ++ (ss ++ front))) ++ (r ++ back) ≡ counts ++ (ps ++ (ss ++ flat_map record_bytes net.rows)) =
      append_assoc counts (ps ++ (ss ++ front)) (r ++ back) ∙ ap (λ v. counts ++ v) (append_assoc ps (ss ++ front) (r ++ back) ∙ ap (λ v. ps ++ v) (append_assoc ss front (r ++ back) ∙ ap (λ v. ss ++ v) (sym e))) in
      let few : n ≤ length net.rows = omega arith in
      let lf : length front ≡ sizes (take n net.rows) = length-records (take n net.rows) (λ m q. let q' : m < n = omega (arith, length-take-le n net.rows few) in subst Sound (sym (get_or-take n net.rows m blank q')) (sound m (omega arith))) in
      subst (λ v. Fits v (net.inputs + n) (start n) (record_size (row_at net n).count)) shape
      (record-there (counts ++ (ps ++ (ss ++ front))) back (net.inputs + n) (start n) (row_at net n) (legal.row n l)
      (omega (arith, length-append ps (ss ++ front), length-append ss front, length_pairs first net.rows, length-signals net.outputs, lf)))

  -- it passes, if it has as many outputs as a job may have
  pub encoded-passes : 0 < length net.outputs → length net.outputs ≤ max_outputs → Passed (encode net)
  encoded-passes some most =
      let all : take (nodes net) net.rows ≡ net.rows = take_all (nodes net) net.rows (omega arith) in
      let end : start (nodes net) ≡ length (encode net) = ap (λ v. first + sizes v) all ∙ sym length-encode in
      let inputs = legal.few_inputs in
      let few = legal.few_nodes in
      record {
        four = omega (arith, length-encode);
        inputs = omega (arith, inputs-of);
        some = omega (arith, outputs-of);
        few = omega (arith, outputs-of);
        nodes = omega (arith, nodes-of);
        head = omega (arith, head-end, length-encode);
        output = λ j l. let l' : j < length net.outputs = omega (arith, outputs-of) in omega (arith, output-of j l', legal.exit j l', inputs-of, nodes-of);
        due = λ n l. let l' : n < nodes net = omega (arith, nodes-of) in offset-of n l' ∙ sym (due-of n (omega arith));
        within = λ n l. let l' : n < nodes net = omega (arith, nodes-of) in within_of n l';
        end = ap (due_of (encode net)) nodes-of ∙ due-of (nodes net) (omega arith) ∙ end;
        fits = λ n l.
            let l' : n < nodes net = omega (arith, nodes-of) in
            subst (λ s. Fits (encode net) (s + n) (offset_of (encode net) n) (length_of (encode net) n)) (sym inputs-of)
            (subst (λ a. Fits (encode net) (net.inputs + n) a (length_of (encode net) n)) (sym (offset-of n l'))
            (subst (Fits (encode net) (net.inputs + n) (start n)) (sym (length-of n l')) (record_of n l')));
      }
    where
      within_of : (n : ℕ) → n < nodes net → offset_of (encode net) n + length_of (encode net) n ≤ length (encode net)
      within_of n l =
          omega (arith, offset-of n l, length-of n l, sizes-more net.rows n l, sizes-within net.rows (n + 1), length-encode)
