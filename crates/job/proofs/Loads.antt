-- What is read of a file that passes, part by part.
use Rattle.std.proofs.Common.{◌≡◌, ℕ, ◌+◌, ◌*◌, ◌<◌, ◌≤◌, List, [], ◌∷◌, ◌++◌, length, get_or, take, drop, sym, refl, ap, ◌∙◌, subst, inl, inr, add-zero, arith}
use Rattle.std.specs.List.{flat_map}
use Rattle.std.proofs.lemmas.List.{get_or-take, get_or-drop, ext_get_or, length-take-le, length-drop, length_push}
use Rattle.std.proofs.lemmas.Bool.{cases_lt}
use Rattle.network.specs.Limits.{max_fanins, function_bytes}
use Rattle.network.specs.Rows.{no_signal}
use Rattle.network.specs.declared.row.Signal.{Signal}
use Rattle.network.specs.declared.row.Function.{Function}
use Rattle.network.specs.declared.row.Row.{Row}
use Rattle.network.specs.Nets.{Net, bare, with_row, with_output}
use Rattle.job.specs.Checks.{byte_at, word_at, inputs_of, outputs_of, nodes_of, offset_of, length_of, output_place, head_end, width_of, record_size}
use Rattle.job.specs.Bytes.{le16, signal_bytes, record_bytes, sizes, pairs_from, encode, seg}
use Rattle.job.specs.Loads.{RowLoaded, RowsLoaded, OutputsLoaded}
use Rattle.job.proofs.Segments.{AreBytes, seg-none, seg_all, seg-append, seg-byte, seg-word, seg-signals}
use Rattle.job.proofs.Functions.{wide, clean-from}
use Rattle.job.proofs.Passed.{Fits, Passed, record-fits}
use Rattle.job.proofs.Verdicts.{due-more}
use Rattle.job.proofs.Sizes.{joined-push, sizes-append, pairs-push}

-- bytes copied one by one
seg-copy : (bs xs : List ℕ) (a n : ℕ) → n ≤ length xs → a + n ≤ length bs → ((k : ℕ) → k < n → get_or xs k 0 ≡ byte_at bs (a + k)) → take n xs ≡ seg bs a n
unfolding seg
seg-copy bs xs a n lx lb h =
    let ly : n ≤ length (drop a bs) = simp length-drop (omega arith) in
    ext_get_or 0 (take n xs) (take n (drop a bs)) (length-take-le n xs lx ∙ sym (length-take-le n (drop a bs) ly))
    (λ k l. let q : k < n = omega (arith, length-take-le n xs lx) in
    get_or-take n xs k 0 q ∙ h k q ∙ sym (get_or-drop a bs k 0) ∙ sym (get_or-take n (drop a bs) k 0 q))

-- the row of the record at a place, from its parts
pub row_loaded : (bs : List ℕ) (at w : ℕ) (fanins : List Signal) (f : Function) → AreBytes bs → byte_at bs at ≤ max_fanins → at + record_size (byte_at bs at) ≤ length bs → w ≡ width_of (byte_at bs at) →
    ((i : ℕ) → i < byte_at bs at → (get_or fanins i no_signal).0 ≡ word_at bs (at + 1 + 2 * i)) → ((i : ℕ) → byte_at bs at ≤ i → (get_or fanins i no_signal).0 ≡ 0) → length fanins ≡ max_fanins →
    ((k : ℕ) → k < w → get_or f.bytes k 0 ≡ byte_at bs (at + 1 + 2 * byte_at bs at + k)) → ((k : ℕ) → w ≤ k → get_or f.bytes k 0 ≡ 0) → length f.bytes ≡ function_bytes →
    RowLoaded bs at (record { count = byte_at bs at; fanins = fanins; function = f })
row_loaded bs at w fanins f small few within ew words none places copied past bytes =
    let c = byte_at bs at in
    let r : Row = record { count = c; fanins = fanins; function = f } in
    let ws = wide c few in
    let lt : length (take c fanins) ≡ c = length-take-le c fanins (omega arith) in
    let past' : (k : ℕ) → width_of c ≤ k → get_or f.bytes k 0 ≡ 0 = λ k l. past k (omega arith) in
    record {
      count = refl;
      same =
          let one : c ∷ [] ≡ seg bs at 1 = sym (seg-byte bs at (omega arith)) in
          let two : signal_bytes (take c fanins) ≡ seg bs (at + 1) (2 * c) = seg-signals bs (take c fanins) (at + 1) small (omega arith) (λ i l. let q : i < c = omega arith in ap (λ s. s.0) (get_or-take c fanins i no_signal q) ∙ words i q) ∙ ap (λ n. seg bs (at + 1) (2 * n)) lt in
          let three : take (width_of c) f.bytes ≡ seg bs (at + 1 + 2 * c) (width_of c) = seg-copy bs f.bytes (at + 1 + 2 * c) (width_of c) (let z = ws.most in omega arith) (omega arith) (λ k l. copied k (omega arith)) in
          ap (λ x. x ++ (signal_bytes (take c fanins) ++ take (width_of c) f.bytes)) one
          ∙ ap (λ x. seg bs at 1 ++ (x ++ take (width_of c) f.bytes)) two
          ∙ ap (λ x. seg bs at 1 ++ (seg bs (at + 1) (2 * c) ++ x)) three
          ∙ ap (λ x. seg bs at 1 ++ x) (seg-append bs (at + 1) (2 * c) (width_of c))
          ∙ seg-append bs at 1 (2 * c + width_of c) ∙ ap (seg bs at) (let z : 1 + (2 * c + width_of c) ≡ record_size c = omega arith in z);
      legal = λ s h.
          let k : Fits bs s at (record_size c) = record-fits bs s at (record_size c) h in
          let z : at + 1 + 2 * c + 0 ≡ at + 1 + 2 * c = omega arith in
          let first : get_or f.bytes 0 0 ≡ byte_at bs (at + 1 + 2 * c) = copied 0 (let q = ws.one in omega arith) ∙ ap (byte_at bs) z in
          record {
            few = few;
            lower = λ i l. omega (arith, words i l, k.lower i l);
            unused = none;
            clean = clean-from c f few (let q = k.clean in omega arith) past';
            places = places;
            bytes = bytes;
            byte = λ k. elim (cases_lt k w) [
              | inl l ↦ omega (arith, copied k l, small (at + 1 + 2 * c + k))
              | inr g ↦ omega (arith, past k g)
            ];
          };
    }

-- the same row, by the pair of its record
pub row-there : (bs bs' : List ℕ) (n at : ℕ) (r : Row) → bs' ≡ bs → at ≡ offset_of bs n → RowLoaded bs' at r → RowLoaded bs (offset_of bs n) r
row-there bs bs' n at r e p k = subst (λ a. RowLoaded bs a r) p (subst (λ b. RowLoaded b at r) e k)

-- no row yet
pub rows_none : (bs : List ℕ) (net : Net) → net ≡ bare (inputs_of bs) → RowsLoaded bs 0 net
rows_none bs net e = subst (RowsLoaded bs 0) (sym e) (record { inputs = refl; count = refl; outputs = refl; pairs = sym (seg-none bs 4); records = sym (seg-none bs (head_end bs)); end = add-zero (head_end bs) })

-- one row more
pub rows_more : (bs : List ℕ) (n : ℕ) (net net' : Net) (r : Row) → AreBytes bs → Passed bs → n < nodes_of bs → RowsLoaded bs n net → RowLoaded bs (offset_of bs n) r → net' ≡ with_row net r → RowsLoaded bs (n + 1) net'
rows_more bs n net net' r small p l k o e =
    let rs = net.rows in
    let h = head_end bs in
    let head = p.head in
    let fits = p.fits n l in
    let size : record_size r.count ≡ length_of bs n = ap record_size o.count ∙ sym fits.long in
    let start : h + sizes rs ≡ offset_of bs n = k.end ∙ sym (p.due n l) in
    let more : sizes (rs ++ r ∷ []) ≡ sizes rs + record_size r.count = sizes-append rs (r ∷ []) ∙ (let z : sizes rs + (record_size r.count + 0) ≡ sizes rs + record_size r.count = omega arith in z) in
    subst (RowsLoaded bs (n + 1)) (sym e) (record {
      inputs = k.inputs;
      count = length_push rs r ∙ ap (λ m. m + 1) k.count;
      outputs = k.outputs;
      pairs =
          let a : le16 (h + sizes rs) ≡ seg bs (4 + 4 * n) 2 = ap le16 start ∙ seg-word bs (4 + 4 * n) small (omega arith) in
          let b : le16 (record_size r.count) ≡ seg bs (4 + 4 * n + 2) 2 = ap le16 size ∙ seg-word bs (6 + 4 * n) small (omega arith) ∙ ap (λ q. seg bs q 2) (let z : 6 + 4 * n ≡ 4 + 4 * n + 2 = omega arith in z) in
          pairs-push h rs r
          ∙ ap (λ v. v ++ (le16 (h + sizes rs) ++ le16 (record_size r.count))) k.pairs
          ∙ ap (λ v. seg bs 4 (4 * n) ++ (v ++ le16 (record_size r.count))) a
          ∙ ap (λ v. seg bs 4 (4 * n) ++ (seg bs (4 + 4 * n) 2 ++ v)) b
          ∙ ap (λ v. seg bs 4 (4 * n) ++ v) (seg-append bs (4 + 4 * n) 2 2)
          ∙ seg-append bs 4 (4 * n) 4 ∙ ap (seg bs 4) (let z : 4 * n + 4 ≡ 4 * (n + 1) = omega arith in z);
      records =
          joined-push record_bytes rs r
          ∙ ap (λ v. v ++ record_bytes r) k.records
          ∙ ap (λ v. seg bs h (sizes rs) ++ v) (o.same ∙ ap (seg bs (offset_of bs n)) (ap record_size (sym o.count)) ∙ ap (λ q. seg bs q (record_size r.count)) (sym start))
          ∙ seg-append bs h (sizes rs) (record_size r.count) ∙ ap (seg bs h) (sym more);
      end = omega (arith, due-more bs n);
    })

-- no output yet
pub outputs-none : (bs : List ℕ) (net : Net) → RowsLoaded bs (nodes_of bs) net → OutputsLoaded bs 0 net
outputs-none bs net k = record {
  inputs = k.inputs;
  count = k.count;
  pairs = k.pairs;
  records = k.records;
  end = k.end;
  outputs = ap length k.outputs;
  signals = ap signal_bytes k.outputs ∙ sym (seg-none bs (4 + 4 * nodes_of bs));
}

-- one output more
pub outputs-more : (bs : List ℕ) (j : ℕ) (net net' : Net) (s : Signal) → AreBytes bs → Passed bs → j < outputs_of bs → OutputsLoaded bs j net → s.0 ≡ word_at bs (output_place bs j) → net' ≡ with_output net s → OutputsLoaded bs (j + 1) net'
outputs-more bs j net net' s small p l k o e =
    let a = 4 + 4 * nodes_of bs in
    let head = p.head in
    subst (OutputsLoaded bs (j + 1)) (sym e) (record {
      inputs = k.inputs;
      count = k.count;
      pairs = k.pairs;
      records = k.records;
      end = k.end;
      outputs = length_push net.outputs s ∙ ap (λ m. m + 1) k.outputs;
      signals =
          joined-push (λ t. le16 t.0) net.outputs s
          ∙ ap (λ v. v ++ le16 s.0) k.signals
          ∙ ap (λ v. seg bs a (2 * j) ++ v) (ap le16 o ∙ seg-word bs (a + 2 * j) small (omega arith))
          ∙ seg-append bs a (2 * j) 2 ∙ ap (seg bs a) (let z : 2 * j + 2 ≡ 2 * (j + 1) = omega arith in z);
    })

-- all of it
pub all-loaded : (bs : List ℕ) (net : Net) → AreBytes bs → Passed bs → OutputsLoaded bs (outputs_of bs) net → encode net ≡ bs
unfolding encode
all-loaded bs net small p k =
    let h = head_end bs in
    let rs = net.rows in
    let four = p.four in
    let pairs' : pairs_from (4 + 4 * length rs + 2 * length net.outputs) rs ≡ seg bs 4 (4 * nodes_of bs) =
    ap (λ n. pairs_from (4 + 4 * n + 2 * length net.outputs) rs) k.count ∙ ap (λ n. pairs_from (4 + 4 * nodes_of bs + 2 * n) rs) k.outputs ∙ k.pairs in
    let front : net.inputs ∷ length net.outputs ∷ le16 (length rs) ≡ seg bs 0 4 =
    ap (λ v. v ∷ length net.outputs ∷ le16 (length rs)) k.inputs
    ∙ ap (λ v. inputs_of bs ∷ v ∷ le16 (length rs)) k.outputs
    ∙ ap (λ v. inputs_of bs ∷ outputs_of bs ∷ v) (ap le16 k.count ∙ seg-word bs 2 small (omega arith))
    ∙ ap (λ v. inputs_of bs ∷ v ++ seg bs 2 2) (sym (seg-byte bs 1 (omega arith)))
    ∙ ap (λ v. v ++ (seg bs 1 1 ++ seg bs 2 2)) (sym (seg-byte bs 0 (omega arith)))
    ∙ ap (λ v. seg bs 0 1 ++ v) (seg-append bs 1 1 2) ∙ seg-append bs 0 1 3 in
    let stop : h + sizes rs ≡ length bs = k.end ∙ p.end in
    ap (λ v. v ++ (pairs_from (4 + 4 * length rs + 2 * length net.outputs) rs ++ (signal_bytes net.outputs ++ flat_map record_bytes rs))) front
    ∙ ap (λ v. seg bs 0 4 ++ (v ++ (signal_bytes net.outputs ++ flat_map record_bytes rs))) pairs'
    ∙ ap (λ v. seg bs 0 4 ++ (seg bs 4 (4 * nodes_of bs) ++ (v ++ flat_map record_bytes rs))) k.signals
    ∙ ap (λ v. seg bs 0 4 ++ (seg bs 4 (4 * nodes_of bs) ++ (seg bs (4 + 4 * nodes_of bs) (2 * outputs_of bs) ++ v))) k.records
    ∙ ap (λ v. seg bs 0 4 ++ (seg bs 4 (4 * nodes_of bs) ++ v)) (seg-append bs (4 + 4 * nodes_of bs) (2 * outputs_of bs) (sizes rs))
    ∙ ap (λ v. seg bs 0 4 ++ v) (seg-append bs 4 (4 * nodes_of bs) (2 * outputs_of bs + sizes rs))
    ∙ seg-append bs 0 4 (4 * nodes_of bs + (2 * outputs_of bs + sizes rs))
    ∙ ap (seg bs 0) (let z : 4 + (4 * nodes_of bs + (2 * outputs_of bs + sizes rs)) ≡ length bs = omega arith in z) ∙ seg_all bs
