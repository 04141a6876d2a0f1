-- A list whose front is written over, place by place.
use Rattle.std.proofs.Common.{◌≡◌, ℕ, ◌+◌, ◌-◌, ◌<◌, ◌≤◌, List, ◌++◌, map, length, get_or, take, drop, set, sym, refl, ap, ◌∙◌, arith}
use Rattle.std.proofs.lemmas.List.{take_more_same, same_lists, take-set, take_all, take_at, take-append-drop, drop-set-lt, drop-drop, length-set, get_or-set_same, get_or_append_left, get_or-take, length-append, length-drop}
use Rattle.std.specs.List.{range_with_len}
use Rattle.std.proofs.lemmas.List.FromFn.{length-map-range_with_len, get_or-map-range_with_len}
use Rattle.std.proofs.lemmas.Slice.{drop-append-drop}
use Rattle.logic.specs.Folds.{Holds}
use Rattle.logic.specs.Walks.{over}

-- vs has the first m of ws, and behind them what es has there
pub record Front {V : Type 0} (vs : List V) (m : ℕ) (ws es : List V) : Type 0 where
  pub front : take m vs ≡ take m ws
  pub rest : drop m vs ≡ drop m es

-- nothing is written yet
pub front-none : {V : Type 0} (vs ws : List V) (m : ℕ) → take m vs ≡ take m ws → Front vs m ws vs
front-none vs ws m e = record { front = e; rest = refl }

-- one place more
pub front-more : {V : Type 0} (vs ws es : List V) (m : ℕ) (v d : V) → m < length vs → m < length ws → v ≡ get_or ws m d → Front vs m ws es → Front (set vs m v) (m + 1) ws es
front-more {V} vs ws es m v d room more here f =
    let long : m < length (set vs m v) = omega (arith, length-set vs m v) in
    let lt : m < m + 1 = omega arith in
    record {
      front = take_more_same (set vs m v) ws m d long more (take-set vs m v ∙ f.front) (get_or-set_same vs m v d room ∙ here);
      rest = drop-set-lt (m + 1) vs m v lt ∙ sym (drop-drop 1 m vs) ∙ ap (drop 1) f.rest ∙ drop-drop 1 m es;
    }

-- all is written
pub front-all : {V : Type 0} (vs ws es : List V) (m : ℕ) → length ws ≡ m → Front vs m ws es → vs ≡ over ws es
front-all vs ws es m e f =
    let le : length ws ≤ m = omega arith in
    sym (take-append-drop m vs) ∙ ap (λ l. l ++ drop m vs) (f.front ∙ take_all m ws le) ∙ ap (λ l. ws ++ l) f.rest ∙ ap (λ n. ws ++ drop n es) (sym e)

-- what the written places hold
pub front_at : {V : Type 0} (vs ws es : List V) (m i : ℕ) (d : V) → i < m → Front vs m ws es → get_or vs i d ≡ get_or ws i d
front_at vs ws es m i d h f = sym (get_or-take m vs i d h) ∙ ap (λ l. get_or l i d) f.front ∙ get_or-take m ws i d h

pub over-at : {V : Type 0} (ws es : List V) (i : ℕ) (d : V) → i < length ws → get_or (over ws es) i d ≡ get_or ws i d
over-at ws es i d h = get_or_append_left ws (drop (length ws) es) d i h

-- a list that begins with ws, where m is its length or less
pub over-front : {V : Type 0} (fs ws es : List V) (m : ℕ) → length fs ≡ m → fs ≡ take m ws → Front (over fs es) m ws es
over-front fs ws es m e is =
    let le : m ≤ m = omega arith in
    record {
      front = take_at fs (drop (length fs) es) m e ∙ is;
      rest = ap (λ n. drop m (fs ++ drop n es)) e ∙ drop-append-drop m es fs m le e;
    }

-- what is written on top of a front
pub front-then : {V : Type 0} (vs ss ws es : List V) (m j : ℕ) → j ≤ m → Front ss j ws es → Front vs m ws ss → Front vs m ws es
front-then vs ss ws es m j h f g =
    let e : m ≡ j + (m - j) = omega arith in
    record {
      front = g.front;
      rest = g.rest ∙ ap (λ n. drop n ss) e ∙ sym (drop-drop (m - j) j ss) ∙ ap (drop (m - j)) f.rest ∙ drop-drop (m - j) j es ∙ ap (λ n. drop n es) (sym e);
    }

-- f i at each place i below n, in front of the rest of es
pub counted_put : {V : Type 0} (f : ℕ → V) (n m : ℕ) (ws es : List V) → m ≡ n → length ws ≡ n → Holds ws n f → ws ++ drop m es ≡ over (map f (range_with_len 0 n)) es
counted_put {V} f n m ws es is long held =
    let cs : List V = map f (range_with_len 0 n) in
    let size : length cs ≡ n = length-map-range_with_len f 0 n in
    let same : ws ≡ cs = same_lists ws cs (long ∙ sym size)
    (λ i d h.
    let l : i < n = omega arith in
    let z : 0 + i ≡ i = omega arith in
    held i d l ∙ sym (get_or-map-range_with_len f 0 n i i d l z)) in
    ap (λ l. l ++ drop m es) same ∙ ap (λ k. cs ++ drop k es) (is ∙ sym size)

pub counted-at : {V : Type 0} (f : ℕ → V) (n : ℕ) (es : List V) (i : ℕ) (d : V) → i < n → get_or (over (map f (range_with_len 0 n)) es) i d ≡ f i
counted-at f n es i d h =
    let z : 0 + i ≡ i = omega arith in
    let l : i < length (map f (range_with_len 0 n)) = omega (arith, length-map-range_with_len f 0 n) in
    over-at (map f (range_with_len 0 n)) es i d l ∙ get_or-map-range_with_len f 0 n i i d h z

pub counted-length : {V : Type 0} (f : ℕ → V) (n : ℕ) (es : List V) → n ≤ length es → length (over (map f (range_with_len 0 n)) es) ≡ length es
counted-length {V} f n es h =
    let ws : List V = map f (range_with_len 0 n) in
    let long : length ws ≡ n = length-map-range_with_len f 0 n in
    length-append ws (drop (length ws) es) ∙ (let z : length ws + length (drop (length ws) es) ≡ length es = omega (arith, long, length-drop (length ws) es) in z)
