-- Parts of a file, one after another.
use Rattle.std.proofs.Common.{◌≡◌, ℕ, suc, ◌+◌, ◌*◌, ◌/◌, ◌%◌, ◌<◌, ◌≤◌, List, [], ◌∷◌, ◌++◌, length, get_or, take, drop, sym, refl, ap, ◌∙◌, arith}
use Rattle.std.proofs.lemmas.List.{take_all, take-append-drop, drop-take, drop-drop, drop_more, take-take, get_or-take, get_or-drop}
use Rattle.network.specs.Rows.{no_signal}
use Rattle.network.specs.declared.row.Signal.{Signal}
use Rattle.job.specs.Checks.{byte_at, word_at}
use Rattle.job.specs.Bytes.{le16, signal_bytes, seg}

-- every element is a byte
abbrev pub AreBytes : List ℕ → Type 0
AreBytes bs = (i : ℕ) → get_or bs i 0 < 256

pub seg-none : (bs : List ℕ) (a : ℕ) → seg bs a 0 ≡ []
unfolding seg
seg-none bs a = refl

pub seg_all : (bs : List ℕ) → seg bs 0 (length bs) ≡ bs
unfolding seg
seg_all bs = take_all (length bs) bs (omega arith)

-- a byte of a part
pub byte-seg : (bs : List ℕ) (a n k : ℕ) → k < n → get_or (seg bs a n) k 0 ≡ byte_at bs (a + k)
unfolding seg
byte-seg bs a n k l = get_or-take n (drop a bs) k 0 l ∙ get_or-drop a bs k 0

-- two parts, the one right after the other
pub seg-append : (bs : List ℕ) (a n m : ℕ) → seg bs a n ++ seg bs (a + n) m ≡ seg bs a (n + m)
unfolding seg
seg-append bs a n m =
    let front : take n (take (n + m) (drop a bs)) ≡ take n (drop a bs) = take-take n (n + m) (drop a bs) (omega arith) in
    let back : drop n (take (n + m) (drop a bs)) ≡ take m (drop (a + n) bs) = drop-take n m (drop a bs) ∙ ap (take m) (drop-drop n a bs) in
    sym (ap (λ x. x ++ take m (drop (a + n) bs)) front) ∙ sym (ap (λ x. take n (take (n + m) (drop a bs)) ++ x) back) ∙ take-append-drop n (take (n + m) (drop a bs))

pub seg-byte : (bs : List ℕ) (a : ℕ) → a < length bs → seg bs a 1 ≡ byte_at bs a ∷ []
unfolding seg
seg-byte bs a l = ap (take 1) (drop_more bs a 0 l)

low_byte : (a b : ℕ) → a < 256 → (a + 256 * b) % 256 ≡ a
low_byte a b h = omega arith

high_byte : (a b : ℕ) → a < 256 → (a + 256 * b) / 256 ≡ b
high_byte a b h = omega arith

-- a word is its two bytes
pub seg-word : (bs : List ℕ) (p : ℕ) → AreBytes bs → p + 1 < length bs → le16 (word_at bs p) ≡ seg bs p 2
seg-word bs p small l =
    let lo = low_byte (get_or bs p 0) (get_or bs (p + 1) 0) (small p) in
    let hi = high_byte (get_or bs p 0) (get_or bs (p + 1) 0) (small p) in
    let two : seg bs p 1 ++ seg bs (p + 1) 1 ≡ seg bs p 2 = seg-append bs p 1 1 in
    ap (λ x. x ∷ (word_at bs p / 256) ∷ []) lo ∙ ap (λ x. get_or bs p 0 ∷ x ∷ []) hi
    ∙ sym (ap (λ x. x ++ (byte_at bs (p + 1) ∷ [])) (seg-byte bs p (omega arith)))
    ∙ sym (ap (λ x. seg bs p 1 ++ x) (seg-byte bs (p + 1) l)) ∙ two

-- signals read one by one from a place on are the bytes that they were read from
pub seg-signals : (bs : List ℕ) (xs : List Signal) (a : ℕ) → AreBytes bs → a + 2 * length xs ≤ length bs → ((i : ℕ) → i < length xs → (get_or xs i no_signal).0 ≡ word_at bs (a + 2 * i)) → signal_bytes xs ≡ seg bs a (2 * length xs)
seg-signals bs [] a small l h = sym (seg-none bs a)
seg-signals bs (x ∷ xs) a small l h =
    let z : a + 2 * 0 ≡ a = omega arith in
    let first : le16 x.0 ≡ seg bs a 2 = ap le16 (h 0 (omega arith) ∙ ap (word_at bs) z) ∙ seg-word bs a small (omega arith) in
    let rest : signal_bytes xs ≡ seg bs (a + 2) (2 * length xs) = seg-signals bs xs (a + 2) small (omega arith) (λ i k. let e : a + 2 * suc i ≡ (a + 2) + 2 * i = omega arith in h (suc i) (omega arith) ∙ ap (word_at bs) e) in
    let e : 2 + 2 * length xs ≡ 2 * suc (length xs) = omega arith in
    ap (λ v. v ++ signal_bytes xs) first ∙ ap (λ v. seg bs a 2 ++ v) rest ∙ seg-append bs a 2 (2 * length xs) ∙ ap (seg bs a) e
