-- Equal bytes come from equal networks.
use Rattle.std.proofs.Common.{◌≡◌, ℕ, suc, ◌+◌, ◌*◌, ◌/◌, ◌%◌, ◌<◌, ◌≤◌, List, [], ◌∷◌, ◌++◌, length, get_or, take, drop, sym, refl, ap, ◌∙◌, subst, inl, inr, arith}
use Rattle.std.specs.List.{flat_map}
use Rattle.std.proofs.lemmas.List.{append_assoc, take_at, drop_at, ext_get_or, get_or-take, length-take-le}
use Rattle.std.proofs.lemmas.Bool.{cases_lt}
use Rattle.network.specs.Rows.{no_signal, blank, Legal}
use Rattle.network.specs.Nets.{Net, nodes, LegalNet}
use Rattle.network.specs.declared.row.Signal.{Signal}
use Rattle.network.specs.declared.row.Row.{Row}
use Rattle.job.specs.Checks.{width_of, inputs_of, outputs_of, nodes_of}
use Rattle.job.specs.Bytes.{le16, signal_bytes, record_bytes, pairs_from, encode}
use Rattle.job.proofs.Functions.{wide, clean-past}
use Rattle.job.proofs.Sizes.{length-signals, length_pairs}
use Rattle.job.proofs.Encoded.{inputs-of, outputs-of, nodes-of}

-- two lists that begin with parts of one length
append-same : (a b s t : List ℕ) → length a ≡ length b → a ++ s ≡ b ++ t → (a ≡ b) × (s ≡ t)
append-same a b s t l e = (
  sym (take_at a s (length a) refl) ∙ ap (take (length a)) e ∙ take_at b t (length a) (sym l),
  sym (drop_at a s (length a) refl) ∙ ap (drop (length a)) e ∙ drop_at b t (length a) (sym l),
)

le16-same : (m n : ℕ) → m % 256 ≡ n % 256 → m / 256 ≡ n / 256 → m ≡ n
le16-same m n p q = omega arith

signal-same : (s t : Signal) → s.0 ≡ t.0 → s ≡ t
signal-same s t e = λ i. record { 0 = e i }

signals-same : (xs ys : List Signal) → signal_bytes xs ≡ signal_bytes ys → xs ≡ ys
signals-same [] [] e = refl
signals-same [] (y ∷ ys) e = let z : ◌≡◌ {A = ℕ} 0 1 = cc in absurd (omega arith)
signals-same (x ∷ xs) [] e = let z : ◌≡◌ {A = ℕ} 0 1 = cc in absurd (omega arith)
signals-same (x ∷ xs) (y ∷ ys) e =
    let p : x.0 % 256 ≡ y.0 % 256 = cc in
    let q : x.0 / 256 ≡ y.0 / 256 = cc in
    let r : signal_bytes xs ≡ signal_bytes ys = cc in
    let s : x ≡ y = signal-same x y (le16-same x.0 y.0 p q) in
    let t : xs ≡ ys = signals-same xs ys r in
    cc

-- a list of given length that holds one thing from a place on is known by what comes before that place
rest-same : {X : Type 0} (d : X) (xs ys : List X) (k : ℕ) → length xs ≡ length ys → take k xs ≡ take k ys → ((i : ℕ) → k ≤ i → get_or xs i d ≡ d) → ((i : ℕ) → k ≤ i → get_or ys i d ≡ d) → xs ≡ ys
rest-same d xs ys k l e p q = ext_get_or d xs ys l (λ i _. elim (cases_lt i k) [
  | inl h ↦ sym (get_or-take k xs i d h) ∙ ap (λ v. get_or v i d) e ∙ get_or-take k ys i d h
  | inr h ↦ p i h ∙ sym (q i h)
])

-- two legal rows whose records begin one list
row_same : (a b : ℕ) (r q : Row) (s t : List ℕ) → Legal a r → Legal b q → record_bytes r ++ s ≡ record_bytes q ++ t → (r ≡ q) × (s ≡ t)
row_same a b r q s t lr lq e =
    let same : r.count ≡ q.count = cc in
    let fr : List ℕ = signal_bytes (take r.count r.fanins) in
    let fq : List ℕ = signal_bytes (take q.count q.fanins) in
    let tr : List ℕ = take (width_of r.count) r.function.bytes in
    let tq : List ℕ = take (width_of q.count) q.function.bytes in
    let rest : (fr ++ tr) ++ s ≡ (fq ++ tq) ++ t = cc in
    let wr = wide r.count lr.few in
    let wq = wide q.count lq.few in
    let nr : length fr ≡ 2 * r.count = length-signals (take r.count r.fanins) ∙ ap (λ n. 2 * n) (length-take-le r.count r.fanins (omega (arith, lr.few, lr.places))) in
    let nq : length fq ≡ 2 * q.count = length-signals (take q.count q.fanins) ∙ ap (λ n. 2 * n) (length-take-le q.count q.fanins (omega (arith, lq.few, lq.places))) in
    let mr : length tr ≡ width_of r.count = length-take-le (width_of r.count) r.function.bytes (omega (arith, wr.most, lr.bytes)) in
    let mq : length tq ≡ width_of q.count = length-take-le (width_of q.count) q.function.bytes (omega (arith, wq.most, lq.bytes)) in
    let one = append-same fr fq (tr ++ s) (tq ++ t) (omega arith) (sym (append_assoc fr tr s) ∙ rest ∙ append_assoc fq tq t) in
    let two = append-same tr tq s t (mr ∙ ap width_of same ∙ sym mq) one.1 in
    let fanins : r.fanins ≡ q.fanins = rest-same no_signal r.fanins q.fanins r.count (lr.places ∙ sym lq.places)
    (signals-same (take r.count r.fanins) (take q.count q.fanins) one.0 ∙ ap (λ n. take n q.fanins) (sym same))
    (λ i h. signal-same _ no_signal (lr.unused i h)) (λ i h. signal-same _ no_signal (lq.unused i (omega arith))) in
    let bytes : r.function.bytes ≡ q.function.bytes = rest-same 0 r.function.bytes q.function.bytes (width_of r.count) (lr.bytes ∙ sym lq.bytes)
    (two.0 ∙ ap (λ n. take (width_of n) q.function.bytes) (sym same))
    (clean-past r.count r.function lr.few lr.bytes lr.byte lr.clean)
    (λ k h. clean-past q.count q.function lq.few lq.bytes lq.byte lq.clean k (subst (λ n. width_of n ≤ k) same h)) in
    (λ i. record { count = same i; fanins = fanins i; function = record { bytes = bytes i } }, two.1)

rows_same : (xs ys : List Row) → length xs ≡ length ys → ((n : ℕ) → n < length xs → (s : ℕ) × Legal s (get_or xs n blank)) → ((n : ℕ) → n < length ys → (s : ℕ) × Legal s (get_or ys n blank)) → flat_map record_bytes xs ≡ flat_map record_bytes ys → xs ≡ ys
rows_same [] [] l p q e = refl
rows_same [] (y ∷ ys) l p q e = absurd (omega arith)
rows_same (x ∷ xs) [] l p q e = absurd (omega arith)
rows_same (x ∷ xs) (y ∷ ys) l p q e =
    let a = p 0 (omega arith) in
    let b = q 0 (omega arith) in
    let h = row_same a.0 b.0 x y (flat_map record_bytes xs) (flat_map record_bytes ys) a.1 b.1 e in
    let t : xs ≡ ys = rows_same xs ys (omega arith) (λ n k. p (suc n) (omega arith)) (λ n k. q (suc n) (omega arith)) h.1 in
    let s : x ≡ y = h.0 in
    cc

pub encode_same : (a b : Net) → LegalNet a → LegalNet b → encode a ≡ encode b → a ≡ b
unfolding encode
encode_same a b la lb e =
    let inputs : a.inputs ≡ b.inputs = sym (inputs-of a la) ∙ ap inputs_of e ∙ inputs-of b lb in
    let count : length a.outputs ≡ length b.outputs = sym (outputs-of a la) ∙ ap outputs_of e ∙ outputs-of b lb in
    let many : nodes a ≡ nodes b = sym (nodes-of a la) ∙ ap nodes_of e ∙ nodes-of b lb in
    let fa = 4 + 4 * nodes a + 2 * length a.outputs in
    let fb = 4 + 4 * nodes b + 2 * length b.outputs in
    let one = append-same (a.inputs ∷ length a.outputs ∷ le16 (nodes a)) (b.inputs ∷ length b.outputs ∷ le16 (nodes b)) _ _ refl e in
    let two = append-same (pairs_from fa a.rows) (pairs_from fb b.rows) _ _ (omega (arith, length_pairs fa a.rows, length_pairs fb b.rows)) one.1 in
    let three = append-same (signal_bytes a.outputs) (signal_bytes b.outputs) _ _ (omega (arith, length-signals a.outputs, length-signals b.outputs)) two.1 in
    let outputs : a.outputs ≡ b.outputs = signals-same a.outputs b.outputs three.0 in
    let rows : a.rows ≡ b.rows = rows_same a.rows b.rows many (λ n k. (a.inputs + n, la.row n k)) (λ n k. (b.inputs + n, lb.row n k)) three.1 in
    λ i. record { inputs = inputs i; rows = rows i; outputs = outputs i }
