-- The outputs of a network, from the values of its signals.
use Rattle.std.proofs.Common.{◌≡◌, ℕ, ◌+◌, ◌-◌, ◌%◌, ◌^◌, ◌<◌, ◌≤◌, min, Bool, false, List, ◌++◌, map, length, get_or, take, drop, replicate, None, sym, ap, ◌∙◌, ⊎_elim, arith}
use Rattle.std.specs.List.{range_with_len}
use Rattle.std.proofs.lemmas.List.FromFn.{length-map-range_with_len}
use Rattle.std.proofs.lemmas.List.{length-take-le, get_or-take, get_or_default, get_or-drop, get_or-append_right, get_or_past, get_or-replicate}
use Rattle.std.proofs.lemmas.Slice.{drop-append-drop}
use Rattle.std.proofs.lemmas.Bool.{cases_lt}
use Rattle.network.specs.Rows.{bit_at, no_signal}
use Rattle.network.specs.Nets.{Net, size, output_at, LegalNet}
use Rattle.network.specs.declared.row.Signal.{Signal}
use Rattle.theory.specs.Values.{number, value, output}
use Rattle.theory.proofs.Numbers.{number_same, bit-number, number-mod}
use Rattle.theory.proofs.Inputs.{value_same}
use Rattle.logic.specs.Walks.{over}
use Rattle.logic.proofs.Fronts.{over-at}

-- the number of the first n outputs, read at a network's output signals ss
pub gathered : (net : Net) (x : ℕ → Bool) (vs : List Bool) (ss : List Signal) (n : ℕ) → LegalNet net → ss ≡ net.outputs → n ≤ length net.outputs →
    ((s : ℕ) (d : Bool) → s < size net → get_or vs s d ≡ value None net x s) → number (λ j. get_or vs (get_or ss j no_signal).0 false) n ≡ number (output None net x) n
gathered net x vs ss n legal e le is =
    number_same (λ j. get_or vs (get_or ss j no_signal).0 false) (output None net x) n
    (λ j h.
    let l : j < length net.outputs = omega arith in
    ap (λ (qs : List Signal). get_or vs (get_or qs j no_signal).0 false) e ∙ is (output_at net j) false (legal.exit j l))

-- the low bits of a number
low_bits : (a k i : ℕ) → i < k → bit_at a i ≡ bit_at (a % 2 ^ k) i
low_bits a k i h = sym (ap (λ n. bit_at n i) (sym (number-mod a k)) ∙ bit-number (bit_at a) k i h)

-- only the bits of inputs matter
pub inputs-only : (net : Net) (a n : ℕ) → number (output None net (bit_at a)) n ≡ number (output None net (bit_at (a % 2 ^ net.inputs))) n
inputs-only net a n =
    number_same (output None net (bit_at a)) (output None net (bit_at (a % 2 ^ net.inputs))) n
    (λ j h. value_same None net (bit_at a) (bit_at (a % 2 ^ net.inputs)) (λ i l. low_bits a net.inputs i l) (output_at net j))

-- the leaves' words, over a slice of zeros: a word that is not given is 0
pub words-given : (ls : List ℕ) (k g n i d : ℕ) → g ≡ min k (length ls) → k ≤ n → i < k → get_or (over (take (g - 0) ls) (replicate n 0)) i d ≡ get_or ls i 0
words-given ls k g n i d e le h =
    let fs : List ℕ = take (g - 0) ls in
    let zs : List ℕ = replicate n 0 in
    let fits : g - 0 ≤ length ls = omega arith in
    let long : length fs ≡ g = length-take-le (g - 0) ls fits ∙ (let z : g - 0 ≡ g = omega arith in z) in
    let small : i < n = omega arith in
    ⊎_elim
    (λ (l : i < g).
    let a : i < length fs = omega arith in
    let b : i < g - 0 = omega arith in
    let c : i < length ls = omega arith in
    over-at fs zs i d a ∙ get_or-take (g - 0) ls i d b ∙ get_or_default ls i d 0 c)
    (λ (l : g ≤ i).
    let past : length ls ≤ i = omega arith in
    let back : length fs + (i - g) ≡ i = omega arith in
    get_or-append_right fs (drop (length fs) zs) g i d long l ∙ get_or-drop (length fs) zs (i - g) d ∙ ap (λ m. get_or zs m d) back ∙ get_or-replicate n i 0 d small ∙ sym (get_or_past ls i 0 past))
    (cases_lt i g)

-- what is put leaves the places behind it
pub put_rest : {V : Type 0} (f : ℕ → V) (n m : ℕ) (es : List V) → n ≤ m → drop m (over (map f (range_with_len 0 n)) es) ≡ drop m es
put_rest {V} f n m es h =
    let ws : List V = map f (range_with_len 0 n) in
    let long : length ws ≡ n = length-map-range_with_len f 0 n in
    ap (λ k. drop m (ws ++ drop k es)) long ∙ drop-append-drop n es ws m h long
