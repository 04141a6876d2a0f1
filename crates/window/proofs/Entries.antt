-- What a roll of leaves lists.
use Rattle.std.proofs.Common.{◌≡◌, ℕ, suc, ◌+◌, ◌<◌, ◌≤◌, Bool, true, false, not, ◌&&◌, ◌||◌, eqb, List, [], ◌∷◌, map, length, get_or, take, Ok, Err, IsErrAnd, MatchResult, Result, sym, refl, ap, ◌∙◌, inl, inr, ◌⊎◌, ⊎_elim, arith}
use mathlib.Core.Path.{subst⁻¹}
use Rattle.std.proofs.Math.Bool.{or-false}
use Rattle.std.specs.List.{ContainsAt as Has}
use Rattle.std.proofs.lemmas.List.{get_or_default, length-take-le, length-map, get_or-map}
use Rattle.std.proofs.lemmas.Bool.{cases_Bool, and_parts, and_from, or_cases, or_left, or_right, eqb-true, eq-eqb, ne_eqb, ltb-true, not_from_false}
use Rattle.network.specs.Rows.{no_signal}
use Rattle.network.specs.Nets.{Net, nodes, size, row_at}
use Rattle.network.specs.declared.row.Signal.{Signal}
use Rattle.theory.specs.Values.{Lowers}
use Rattle.context.specs.Care.{any_below, count_below}
use Rattle.context.specs.Ranks.{chosen, Ascending}
use Rattle.context.specs.Levels.{is_fanin}
use Rattle.context.specs.Windows.{is_leaf, leaves_of}
use Rattle.context.specs.Extracts.{signal_of}
use Rattle.context.proofs.Any.{any-find, any_some}
use Rattle.context.proofs.Counts.{count-more, count-within}
use Rattle.context.proofs.Ranks.{chosen-only, chosen-length}
use Rattle.context.proofs.Levels.{fanin-find}
use Rattle.roll.specs.Rolls.{entered, ascending, IsRoll}
use Rattle.roll.specs.Signals.{signal_below}
use Rattle.roll.specs.Adding.{Adds, grown}
use Rattle.roll.specs.declared.added.Added.{Added}
use Rattle.roll.specs.declared.added.Added.TheVariants.{Entered, Present, Full}
use Rattle.roll.proofs.Adds.{entries-after, adds-length}
use Rattle.roll.proofs.Rising.{has-entered, entered-has, rising-get_or}
use Rattle.window.specs.Limits.{max_leaves}
use Rattle.window.specs.declared.leaf_list.LeafList.{LeafList}
use Rattle.window.specs.declared.refusal.ContextError.{ContextError}
use Rattle.window.specs.declared.refusal.ContextError.TheVariants.{NoNode, Level, Leaves, NoMemory}
use Rattle.window.specs.Lists.{listed}
use Rattle.window.specs.Entries.{Overfull, Enters, NoLeaves, leaf_signals}

-- the first n places are a roll, which has room for as many leaves as a context may have
pub record LeafRoll (n : ℕ) (places : List Signal) : Type 0 where
  pub roll : IsRoll signal_below n places
  pub room : length places ≡ max_leaves

pub leaf-roll : (l : LeafList) → LeafRoll l.roll.count l.roll.places.now
leaf-roll l = record { roll = record { fits = l.roll.fits; rising = l.roll.rising }; room = l.room }

pub same_truth : (a b : Bool) → (a ≡ true → b ≡ true) → (b ≡ true → a ≡ true) → a ≡ b
same_truth true b f g = sym (f refl)
same_truth false true f g = g refl
same_truth false false f g = refl

pub same-signal : (a b : Signal) → a.0 ≡ b.0 → a ≡ b
same-signal a b e = λ i. record { 0 = e i }

has_listed : (xs : List Signal) (x : Signal) → Has xs x → listed xs x.0 ≡ true
has_listed xs x h = any_some (length xs) (λ i. eqb (get_or xs i no_signal).0 x.0) h.0 h.1 (eq-eqb _ _ (ap (λ (s : Signal). s.0) (h.2 no_signal)))

pub listed-find : (xs : List Signal) (s : ℕ) → listed xs s ≡ true → (i : ℕ) × (i < length xs) × ((get_or xs i no_signal).0 ≡ s)
listed-find xs s h = let w = any-find (length xs) (λ i. eqb (get_or xs i no_signal).0 s) h in (w.0, w.1, eqb-true _ _ w.2)

listed_has : (xs : List Signal) (x : Signal) → listed xs x.0 ≡ true → Has xs x
listed_has xs x h = let w = listed-find xs x.0 h in (w.0, w.1, λ d. get_or_default xs w.0 d no_signal w.1 ∙ same-signal _ x w.2)

listed-not : (xs : List Signal) (x : Signal) → (Has xs x → ⊥) → listed xs x.0 ≡ false
listed-not xs x n = ⊎_elim (λ h. absurd (n (listed_has xs x h))) (λ h. h) (cases_Bool (listed xs x.0))

-- an empty list lists none
pub first : {xs : List Signal} → xs ≡ [] → (s : ℕ) (b : Bool) → (listed xs s || b) ≡ b
unfolding any_below
first e s b = ap (λ (xs : List Signal). listed xs s || b) e

-- one entry more
listed-entered : (x : Signal) (xs : List Signal) (s : ℕ) → listed (entered signal_below x xs) s ≡ (listed xs s || eqb x.0 s)
listed-entered x xs s =
    same_truth (listed (entered signal_below x xs) s) (listed xs s || eqb x.0 s)
    (λ h. ⊎_elim
    (λ e. or_right (listed xs s) (eqb x.0 s) (eq-eqb x.0 s (ap (λ (y : Signal). y.0) e)))
    (λ g. or_left (listed xs s) (eqb x.0 s) (has_listed xs (signal_of s) g))
    (has-entered signal_below x (signal_of s) xs (listed_has (entered signal_below x xs) (signal_of s) h)))
    (λ h. has_listed (entered signal_below x xs) (signal_of s) (entered-has signal_below x (signal_of s) xs
    (⊎_elim (λ g. inr (listed_has xs (signal_of s) g)) (λ g. inl (same-signal x (signal_of s) (eqb-true x.0 s g))) (or_cases (listed xs s) (eqb x.0 s) h))))

-- a signal that is no member
module _ (m : ℕ → Bool) (x : Signal) (out : m x.0 ≡ false) where
  here : not (m x.0) && eqb x.0 x.0 ≡ true
  here = and_from (not (m x.0)) (eqb x.0 x.0) (not_from_false _ out) (eq-eqb x.0 x.0 refl)

  alone : (s : ℕ) → eqb x.0 s ≡ (not (m s) && eqb x.0 s)
  alone s =
      same_truth (eqb x.0 s) (not (m s) && eqb x.0 s)
      (λ h. and_from (not (m s)) (eqb x.0 s) (not_from_false (m s) (ap m (sym (eqb-true x.0 s h)) ∙ out)) h)
      (λ h. (and_parts (not (m s)) (eqb x.0 s) h).1)

  module _ (n n' : ℕ) (p q : List Signal) (o : LeafRoll n p) where
    pub enters-entered : Adds signal_below x n p Entered q → n' ≡ n + 1 → Enters (λ s. not (m s) && eqb x.0 s) (take n p) (Ok tt) (take n' q)
    enters-entered a e s =
        ap (λ (xs : List Signal). listed xs s) (ap (λ k. take k q) e ∙ entries-after signal_below x n p q a) ∙ listed-entered x (take n p) s
        ∙ ap (λ b. listed (take n p) s || b) (alone s)

    pub enters-present : Adds signal_below x n p Present q → n' ≡ n + 0 → Enters (λ s. not (m s) && eqb x.0 s) (take n p) (Ok tt) (take n' q)
    enters-present a e s =
        let z : n' ≡ n = omega arith in
        ap (λ (xs : List Signal). listed xs s) (ap (λ k. take k q) z ∙ ap (take n) a.1)
        ∙ same_truth (listed (take n p) s) (listed (take n p) s || (not (m s) && eqb x.0 s))
        (λ h. or_left (listed (take n p) s) (not (m s) && eqb x.0 s) h)
        (λ h. ⊎_elim (λ g. g)
        (λ g. let k : x.0 ≡ s = eqb-true x.0 s (and_parts (not (m s)) (eqb x.0 s) g).1 in ap (listed (take n p)) (sym k) ∙ has_listed (take n p) x a.0)
        (or_cases (listed (take n p) s) (not (m s) && eqb x.0 s) h))

    pub enters-full : Adds signal_below x n p Full q → n' ≡ n + 0 → Enters (λ s. not (m s) && eqb x.0 s) (take n p) (Err Leaves) (take n' q)
    enters-full a e =
        let z : n' ≡ n = omega arith in
        let b = o.roll.fits in
        let r = o.room in
        let k = a.1 in
        subst⁻¹ (λ (xs : List Signal). Overfull (λ s. not (m s) && eqb x.0 s) (take n p) xs) (ap (λ k. take k q) z ∙ ap (take n) a.2)
        (record {
          full = omega (arith, length-take-le n p b);
          within = λ s h. or_left (listed (take n p) s) _ h;
          missing = (x.0, here, listed-not (take n p) x a.0);
        })

    pub enters-added : (r : Added) → (r ≡ Entered) ⊎ (r ≡ Present) → Adds signal_below x n p r q → n' ≡ n + grown r → Enters (λ s. not (m s) && eqb x.0 s) (take n p) (Ok tt) (take n' q)
    enters-added Entered _ a e = enters-entered a e
    enters-added Present _ a e = enters-present a e
    enters-added Full h a e = ⊎_elim (λ (k : Full ≡ Entered). absurd cc) (λ (k : Full ≡ Present). absurd cc) h

pub rolled : (x : Signal) (n n' : ℕ) (p q : List Signal) (r : Added) → LeafRoll n p → Adds signal_below x n p r q → IsRoll signal_below n' q → LeafRoll n' q
rolled x n n' p q r o a i = record { roll = i; room = adds-length signal_below x n p q r a ∙ o.room }

-- a fuller set is entered
pub overfull-more : (X Y : ℕ → Bool) (before mid after : List Signal) → ((s : ℕ) → listed mid s ≡ true → (listed before s || Y s) ≡ true) → ((s : ℕ) → X s ≡ true → Y s ≡ true) →
    Overfull X mid after → Overfull Y before after
overfull-more X Y before mid after h g o = record {
  full = o.full;
  within = λ s k. ⊎_elim (λ a. h s a) (λ a. or_right (listed before s) (Y s) (g s a)) (or_cases (listed mid s) (X s) (o.within s k));
  missing = let w = o.missing in (w.0, g w.0 w.1, w.2);
}

-- so it is where the smaller set finds no room
pub full-more : (X Y : ℕ → Bool) (before mid after : List Signal) → ((s : ℕ) → listed mid s ≡ true → (listed before s || Y s) ≡ true) → ((s : ℕ) → X s ≡ true → Y s ≡ true) →
    (e : ContextError) → Enters X mid (Err e) after → Enters Y before (Err e) after
full-more X Y before mid after h g NoNode v = v
full-more X Y before mid after h g Level v = v
full-more X Y before mid after h g Leaves v = overfull-more X Y before mid after h g v
full-more X Y before mid after h g NoMemory v = v

-- an error that is handed on
pub handed-on : (Y : ℕ → Bool) (before after : List Signal) (e : ContextError) (r : Result Unit ContextError) → Enters Y before (Err e) after → IsErrAnd r (λ e'. e' ≡ e) → Enters Y before r after
handed-on Y before after e (Ok u) v h = absurd h
handed-on Y before after e (Err e') v h = subst⁻¹ (λ k. Enters Y before (Err k) after) h v

pub numbers : List Signal → List ℕ
numbers xs = map (λ s. s.0) xs

numbers-length : (xs : List Signal) → length (numbers xs) ≡ length xs
unfolding numbers
numbers-length xs = length-map xs (λ s. s.0)

numbers-at : (xs : List Signal) (i : ℕ) → i < length xs → get_or (numbers xs) i 0 ≡ (get_or xs i no_signal).0
unfolding numbers
numbers-at xs i l = get_or-map (λ s. s.0) xs i no_signal 0 l

signals-back : (xs : List Signal) → xs ≡ map signal_of (numbers xs)
unfolding numbers
signals-back [] = refl
signals-back (x ∷ xs) = ap (λ (ys : List Signal). x ∷ ys) (signals-back xs)

-- an ascending list of signals is that of the numbers that it lists
module _ (n : ℕ) (xs : List Signal) (p : ℕ → Bool) (up : ascending signal_below xs ≡ true) (is : (s : ℕ) → listed xs s ≡ p s) (small : (s : ℕ) → p s ≡ true → s < n) where
  rising : Ascending (numbers xs)
  rising i j l k =
      let k' : j < length xs = omega (arith, numbers-length xs) in
      let i' : i < length xs = omega arith in
      let u : (get_or xs i no_signal).0 < (get_or xs j no_signal).0 = ltb-true _ _ (rising-get_or signal_below no_signal xs i j up l k') in
      omega (arith, numbers-at xs i i', numbers-at xs j k')

  at : (i : ℕ) → i < length (numbers xs) → p (get_or (numbers xs) i 0) ≡ true
  at i l =
      let l' : i < length xs = omega (arith, numbers-length xs) in
      let s : ℕ = (get_or xs i no_signal).0 in
      ap p (numbers-at xs i l') ∙ sym (is s) ∙ any_some (length xs) (λ i. eqb (get_or xs i no_signal).0 s) i l' (eq-eqb s s refl)

  pub numbers-are : numbers xs ≡ chosen n p
  numbers-are =
      chosen-only n p (numbers xs) rising (λ i l. (small _ (at i l), at i l))
      (λ s l h. let w = listed-find xs s (is s ∙ h) in let q = w.1 in (w.0, omega (arith, numbers-length xs), numbers-at xs w.0 w.1 ∙ w.2))

  pub entries-are : xs ≡ map signal_of (chosen n p)
  entries-are = signals-back xs ∙ ap (map signal_of) numbers-are

  pub entries-count : length xs ≡ count_below n p
  entries-count = sym (numbers-length xs) ∙ ap length numbers-are ∙ chosen-length n p

module _ (net : Net) (m : ℕ → Bool) (low : Lowers net) where
  -- a leaf is a signal
  leaf-small : (s : ℕ) → is_leaf net m s ≡ true → s < size net
  leaf-small s h =
      let f = any-find (nodes net) (λ n. m (net.inputs + n) && is_fanin (row_at net n) s) (and_parts (not (m s)) _ h).1 in
      let g = fanin-find (row_at net f.0) s (and_parts (m (net.inputs + f.0)) _ f.2).1 in
      let l = f.1 in
      let k = low f.0 f.1 g.0 g.1 in
      let e = g.2 in
      omega arith

  pub leaves-are : (n : ℕ) (p : List Signal) → LeafRoll n p → ((s : ℕ) → listed (take n p) s ≡ is_leaf net m s) → take n p ≡ leaf_signals net m
  leaves-are n p o h = entries-are (size net) (take n p) (is_leaf net m) o.roll.rising h leaf-small

  pub leaves-few : (n : ℕ) (p : List Signal) → LeafRoll n p → ((s : ℕ) → listed (take n p) s ≡ is_leaf net m s) → length (leaves_of net m) ≤ max_leaves
  leaves-few n p o h =
      let f = o.roll.fits in
      let r = o.room in
      omega (arith, entries-count (size net) (take n p) (is_leaf net m) o.roll.rising h leaf-small, chosen-length (size net) (is_leaf net m), length-take-le n p f)

  none : (s : ℕ) → (listed [] s || is_leaf net m s) ≡ true → is_leaf net m s ≡ true
  unfolding any_below
  none s h = h

  pub leaves-many : (n : ℕ) (p : List Signal) → LeafRoll n p → Overfull (is_leaf net m) [] (take n p) → max_leaves < length (leaves_of net m)
  leaves-many n p o v =
      let xs : List Signal = take n p in
      let z : ℕ = v.missing.0 in
      let leaf : (s : ℕ) → listed xs s ≡ true → is_leaf net m s ≡ true = λ s h. none s (v.within s h) in
      let more : ℕ → Bool = λ s. listed xs s || eqb z s in
      let c : count_below (size net) more ≡ suc (count_below (size net) (listed xs)) =
      count-more (size net) (listed xs) more z (leaf-small z v.missing.1) v.missing.2 (or_right (listed xs z) (eqb z z) (eq-eqb z z refl))
      (λ b ne. ap (λ c. listed xs b || c) (ne_eqb z b (λ e. ne (sym e))) ∙ or-false (listed xs b)) in
      let w : count_below (size net) more ≤ count_below (size net) (is_leaf net m) =
      count-within (size net) more (is_leaf net m) (λ a _ h. ⊎_elim (λ g. leaf a g) (λ g. ap (is_leaf net m) (sym (eqb-true z a g)) ∙ v.missing.1) (or_cases (listed xs a) (eqb z a) h)) in
      let f = v.full in
      omega (arith, entries-count (size net) xs (listed xs) o.roll.rising (λ _. refl) (λ s h. leaf-small s (leaf s h)), chosen-length (size net) (is_leaf net m))

  -- the leaves do not fit
  pub leaves-refused : (n : ℕ) (p : List Signal) → LeafRoll n p → (e : ContextError) → Enters (is_leaf net m) [] (Err e) (take n p) → NoLeaves net m e
  leaves-refused n p o NoNode v = v
  leaves-refused n p o Level v = v
  leaves-refused n p o Leaves v = leaves-many n p o v
  leaves-refused n p o NoMemory v = absurd v

-- why there is no list of the leaves is handed on
pub refused-on : {A : Type 0} (net : Net) (m : ℕ → Bool) (P : A → Type 0) (e : ContextError) (r : Result A ContextError) → NoLeaves net m e → IsErrAnd r (λ e'. e' ≡ e) → MatchResult r P (NoLeaves net m)
refused-on net m P e (Ok x) v h = absurd h
refused-on net m P e (Err e') v h = subst⁻¹ (NoLeaves net m) h v
