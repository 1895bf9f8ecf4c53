-- The closed list exists, is one, and has exactly the closed set.
use Rattle.std.proofs.Common.{◌≡◌, ℕ, zero, suc, ◌^◌, ◌<◌, ◌≤◌, true, false, List, [], ◌∷◌, length, inl, inr, refl, sym, ◌∙◌, ap, subst, arith, eqb}
use Rattle.std.specs.Prelude.{Option, Some, None, slice_get, Contains, take, map}
use Rattle.std.specs.List.{IsDistinct, list_any, AllByRecursion}
use borrow.Author.Tests.{eqb-true}
use Rattle.std.proofs.lemmas.Option.{slice_get_past, slice_get_within, slice_get_cases, get_or_from_slice_get}
use Rattle.std.proofs.lemmas.Map.Steps.{length-le_from_distinct_below}
use Rattle.std.proofs.lemmas.Bool.{cases_lt}
use Rattle.std.proofs.lemmas.List.{length-map}
use Rattle.std.specs.Prelude.{◌||◌}
use Rattle.mono_list.proofs.Cases.{split, split_option, some_is, none_some}
use Rattle.mono_syntax.specs.Ty.{Ty, dyn, int, bool, str, nil}
use Rattle.mono_tree.specs.Meet.{meet_of}
use Rattle.mono_tree.proofs.MeetMade.{meet_is}
use Rattle.mono_tree.proofs.MeetLaws.{computed, meet-swap, meet-itself}
use Rattle.mono_tree.specs.ClosedList.{IsPartClosed, base_types, IsPart, IsClosed, in_base, in_given, in_part, in_meet, each_parts_first, put_all, first_types, with_found, meets_with, row_meets, with_row, after_rows, IsClosedList, AreDistinct}
use Rattle.mono_tree.proofs.ClosedPuts.{none_in, first_in, in_rest, at_head, IsBeginning, begins_itself, begins_on, begins-put_all, in_longer, get_longer, from_put_all, to_put_all, distinct-put_all, isnt_there}
use Rattle.mono_tree.proofs.ClosedParts.{each_closed, each_has, only_each}
use Rattle.mono_tree.proofs.ClosedFinite.{IsTold, told_member, told_meet, told_part, above, above-below, above_tells}

-- ---- the meets of a row

pub met_here : (t : Ty) (us : List Ty) (u m : Ty) → Contains us u → meet_of u t ≡ Some m → Contains (meets_with t us) m
met_here t [] u m c e = absurd (none_in u c)
met_here t (v ∷ us) u m c e =
    split_option (meet_of v t) (λ o. meet_of v t ≡ o → Contains (with_found o (meets_with t us)) m)
    (λ n f. elim (at_head v u us c) [ inl h ↦ none_some (Contains (meets_with t us) m) (sym f ∙ ap (λ (x : Ty). meet_of x t) (sym h) ∙ e) | inr i ↦ met_here t us u m i e ])
    (λ w n f. elim (at_head v u us c) [
      | inl h ↦ subst (λ (x : Ty). Contains (w ∷ meets_with t us) x) (some_is (sym f ∙ ap (λ (x : Ty). meet_of x t) (sym h) ∙ e)) (first_in w (meets_with t us))
      | inr i ↦ in_rest w m (meets_with t us) (met_here t us u m i e)
    ])
    refl

-- each of them is a meet of t and one of the types
module _ (S : Ty → Type 0) (t : Ty) where
  found_only : (o : Option Ty) (ms : List Ty) → ((m : Ty) → o ≡ Some m → S m) → ((m : Ty) → Contains ms m → S m) → (m : Ty) → Contains (with_found o ms) m → S m
  found_only None ms f g m c = g m c
  found_only (Some w) ms f g m c = elim (at_head w m ms c) [ inl e ↦ subst S (sym e) (f w refl) | inr i ↦ g m i ]

  pub met_only : (us : List Ty) → ((u m : Ty) → Contains us u → meet_of u t ≡ Some m → S m) → (m : Ty) → Contains (meets_with t us) m → S m
  met_only [] f = λ m c. absurd (none_in m c)
  met_only (u ∷ us) f = found_only (meet_of u t) (meets_with t us) (λ m e. f u m (first_in u us) e) (met_only us (λ v m c e. f v m (in_rest u v us c) e))

pub in_take : (n : ℕ) (ts : List Ty) (t : Ty) → Contains (take n ts) t → Contains ts t
in_take zero ts t c = absurd (none_in t c)
in_take (suc n) [] t c = absurd (none_in t c)
in_take (suc n) (u ∷ ts) t c = elim (at_head u t (take n ts) c) [
  | inl e ↦ subst (λ (x : Ty). Contains (u ∷ ts) x) (sym e) (first_in u ts)
  | inr i ↦ in_rest u t ts (in_take n ts t i)
]

take_has : (n k : ℕ) (ts : List Ty) (t : Ty) → k < n → slice_get ts k ≡ Some t → Contains (take n ts) t
take_has zero k ts t l e = absurd (omega arith)
take_has (suc n) k [] t l e = none_some (Contains (take (suc n) []) t) e
take_has (suc n) zero (u ∷ ts) t l e = subst (λ (x : Ty). Contains (u ∷ take n ts) x) (some_is e) (first_in u (take n ts))
take_has (suc n) (suc k) (u ∷ ts) t l e = in_rest u t (take n ts) (take_has n k ts t (omega arith) e)

pub get_in : (ts : List Ty) (k : ℕ) (t : Ty) → slice_get ts k ≡ Some t → Contains ts t
get_in ts k t e = (k, slice_get_within ts k t e, get_or_from_slice_get ts k t t e)

pub in_get : (ts : List Ty) (t : Ty) → Contains ts t → (k : ℕ) × (slice_get ts k ≡ Some t)
in_get [] t c = absurd (none_in t c)
in_get (u ∷ ts) t c = elim (at_head u t ts c) [ inl e ↦ (0, ap (λ (x : Ty). Some x) (sym e)) | inr i ↦ let (k, e) = in_get ts t i in (suc k, e) ]

-- ---- what holds of every member

module _ (types : List Ty) (S : Ty → Type 0) (parts : (t p : Ty) → S t → IsPart p t → S p) (meets : (a b m : Ty) → S a → S b → meet_of a b ≡ Some m → S m) where
  abbrev AllAre : List Ty → Type 0
  AllAre ts = (t : Ty) → Contains ts t → S t

  only_put : (ts us : List Ty) → AllAre ts → AllAre us → AllAre (put_all ts (each_parts_first us))
  only_put ts us f g t c = elim (from_put_all ts (each_parts_first us) t c) [ inl i ↦ f t i | inr i ↦ only_each S parts us t g i ]

  row_only : (ts : List Ty) (n : ℕ) (o : Option Ty) → slice_get ts n ≡ o → AllAre ts → AllAre (row_meets o (take n ts))
  row_only ts n None e f = λ m c. absurd (none_in m c)
  row_only ts n (Some t) e f = met_only S t (take n ts) (λ u m c d. meets u t m (f u (in_take n ts u c)) (f t (get_in ts n t e)) d)

  pub only_rows : AllAre (first_types types) → (n : ℕ) → AllAre (after_rows types n)
  only_rows f zero = f
  only_rows f (suc n) = only_put (after_rows types n) _ (only_rows f n) (row_only (after_rows types n) n (slice_get (after_rows types n) n) refl (only_rows f n))

  pub only_first : AllAre base_types → AllAre types → AllAre (first_types types)
  only_first f g = only_put base_types types f g

-- ---- parts

base_closed : IsPartClosed base_types
base_closed = record { part = λ t p c i. by t c p i }
  where
    by : (t : Ty) → Contains base_types t → (p : Ty) → IsPart p t → Contains base_types p
    by t (zero, l, e) p i = absurd (subst (λ (x : Ty). IsPart p x) (sym e) i)
    by t (suc zero, l, e) p i = absurd (subst (λ (x : Ty). IsPart p x) (sym e) i)
    by t (suc (suc zero), l, e) p i = absurd (subst (λ (x : Ty). IsPart p x) (sym e) i)
    by t (suc (suc (suc zero)), l, e) p i = absurd (subst (λ (x : Ty). IsPart p x) (sym e) i)
    by t (suc (suc (suc (suc zero))), l, e) p i = absurd (subst (λ (x : Ty). IsPart p x) (sym e) i)
    by t (suc (suc (suc (suc (suc k)))), l, e) p i = absurd (omega arith)

put_closed : (ts us : List Ty) → IsPartClosed ts → IsPartClosed us → IsPartClosed (put_all ts us)
put_closed ts us a b = record {
  part = λ t p c i. elim (from_put_all ts us t c) [
    | inl h ↦ in_longer ts (put_all ts us) p (begins-put_all ts us) (a.part t p h i)
    | inr h ↦ to_put_all ts us p (b.part t p h i)
  ];
}

pub rows_closed : (types : List Ty) (n : ℕ) → IsPartClosed (after_rows types n)
rows_closed types zero = put_closed base_types (each_parts_first types) base_closed (each_closed types)
rows_closed types (suc n) = put_closed (after_rows types n) _ (rows_closed types n) (each_closed (row_meets (slice_get (after_rows types n) n) (take n (after_rows types n))))

-- ---- growth

pub rows_grow : (types : List Ty) (n : ℕ) → IsBeginning (after_rows types n) (after_rows types (suc n))
rows_grow types n = begins-put_all (after_rows types n) (each_parts_first (row_meets (slice_get (after_rows types n) n) (take n (after_rows types n))))

pub first_begins : (types : List Ty) (n : ℕ) → IsBeginning (first_types types) (after_rows types n)
first_begins types zero = begins_itself (first_types types)
first_begins types (suc n) = begins_on (first_types types) (after_rows types n) (after_rows types (suc n)) (first_begins types n) (rows_grow types n)

row_past : (ts : List Ty) (n : ℕ) → slice_get ts n ≡ None → with_row ts n ≡ ts
row_past ts n e = ap (λ (o : Option Ty). put_all ts (each_parts_first (row_meets o (take n ts)))) e

past_by : (types : List Ty) (n : ℕ) → length (after_rows types n) ≤ n → after_rows types (suc n) ≡ after_rows types n
past_by types n h = row_past (after_rows types n) n (slice_get_past (after_rows types n) n h)

-- later rows change nothing
pub stays : (types : List Ty) (n k : ℕ) → n ≤ k → length (after_rows types n) ≤ n → after_rows types k ≡ after_rows types n
stays types n zero l h = let e : 0 ≡ n = omega arith in ap (after_rows types) e
stays types n (suc k) l h = elim (cases_lt n (suc k)) [
  | inl below ↦ let s : after_rows types k ≡ after_rows types n = stays types n k (omega arith) h in
      past_by types k (subst (λ (ts : List Ty). length ts ≤ k) (sym s) (omega arith)) ∙ s
  | inr beyond ↦ let e : suc k ≡ n = omega arith in ap (after_rows types) e
]

pub one_list : (types l m : List Ty) → IsClosedList types l → IsClosedList types m → l ≡ m
one_list types l m p q =
    let a : length (after_rows types p.rows) ≤ p.rows = subst (λ (ts : List Ty). length ts ≤ p.rows) (sym p.made) p.whole in
    let b : length (after_rows types q.rows) ≤ q.rows = subst (λ (ts : List Ty). length ts ≤ q.rows) (sym q.made) q.whole in
    elim (cases_lt p.rows q.rows) [
      | inl below ↦ sym p.made ∙ sym (stays types p.rows q.rows (omega arith) a) ∙ q.made
      | inr beyond ↦ sym p.made ∙ stays types q.rows p.rows (omega arith) b ∙ q.made
    ]

pub rows_distinct : (types : List Ty) (n : ℕ) → AreDistinct (after_rows types n)
rows_distinct types zero = distinct-put_all base_types (each_parts_first types) base_distinct
  where
    base_distinct : AreDistinct base_types
    base_distinct = (
      isnt_there (int ∷ bool ∷ str ∷ nil ∷ []) dyn refl,
      (
        isnt_there (bool ∷ str ∷ nil ∷ []) int refl,
        (isnt_there (str ∷ nil ∷ []) bool refl, (isnt_there (nil ∷ []) str refl, (isnt_there [] nil refl, tt))),
      ),
    )
rows_distinct types (suc n) = distinct-put_all (after_rows types n) (each_parts_first (row_meets (slice_get (after_rows types n) n) (take n (after_rows types n)))) (rows_distinct types n)

-- ---- meets

-- the meets of the members below n are there
abbrev MetBelow : List Ty → ℕ → Type 0
MetBelow ts n = (i j : ℕ) → j < i → i < n → (a b m : Ty) → slice_get ts j ≡ Some a → slice_get ts i ≡ Some b → meet_of a b ≡ Some m → Contains ts m

pub got_before : (ts us : List Ty) (k : ℕ) (t : Ty) → IsBeginning ts us → k < length ts → slice_get us k ≡ Some t → slice_get ts k ≡ Some t
got_before ts us k t b l e = elim (slice_get_cases ts k).1 [
  | inl h ↦ h.2 ∙ sym (get_longer ts us k h.0 b h.2) ∙ e
  | inr h ↦ absurd (let w : length ts ≤ k = h.0 in omega arith)
]

pub rows_met : (types : List Ty) (n : ℕ) → MetBelow (after_rows types n) n
rows_met types zero i j p q a b m e f g = absurd (omega arith)
rows_met types (suc n) i j p q a b m e f g =
    let ts : List Ty = after_rows types n in
    let us : List Ty = after_rows types (suc n) in
    elim (slice_get_cases (after_rows types n) n).1 [
      | inl h ↦
          let inside : n < length (after_rows types n) = h.1 in
          let ea : slice_get (after_rows types n) j ≡ Some a = got_before (after_rows types n) (after_rows types (suc n)) j a (rows_grow types n) (omega arith) e in
          let fb : slice_get (after_rows types n) i ≡ Some b = got_before (after_rows types n) (after_rows types (suc n)) i b (rows_grow types n) (omega arith) f in
          elim (cases_lt i n) [
            | inl below ↦ in_longer (after_rows types n) (after_rows types (suc n)) m (rows_grow types n) (rows_met types n i j p below a b m ea fb g)
            | inr beyond ↦
                let at : i ≡ n = omega arith in
                let here : slice_get (after_rows types n) n ≡ Some b = subst (λ (k : ℕ). slice_get (after_rows types n) k ≡ Some b) at fb in
                let jn : j < n = omega arith in
                to_put_all (after_rows types n) _ m
                (subst (λ (o : Option Ty). Contains (each_parts_first (row_meets o (take n (after_rows types n)))) m) (sym here)
                (each_has (meets_with b (take n (after_rows types n))) m (met_here b (take n (after_rows types n)) a m (take_has n j (after_rows types n) a jn ea) g)))
          ]
      | inr h ↦
          let past : length (after_rows types n) ≤ n = h.0 in
          let same : after_rows types (suc n) ≡ after_rows types n = past_by types n past in
          let fb : slice_get (after_rows types n) i ≡ Some b = subst (λ (l : List Ty). slice_get l i ≡ Some b) same f in
          let ea : slice_get (after_rows types n) j ≡ Some a = subst (λ (l : List Ty). slice_get l j ≡ Some a) same e in
          let inside : i < length (after_rows types n) = slice_get_within (after_rows types n) i b fb in
          subst (λ (l : List Ty). Contains l m) (sym same) (rows_met types n i j p (omega arith) a b m ea fb g)
    ]

pub met_all : (types : List Ty) (n : ℕ) → length (after_rows types n) ≤ n → (a b m : Ty) → Contains (after_rows types n) a → Contains (after_rows types n) b → meet_of a b ≡ Some m → Contains (after_rows types n) m
met_all types n h a b m ca cb e =
    let (j, ea) = in_get (after_rows types n) a ca in
    let (i, fb) = in_get (after_rows types n) b cb in
    let lj : j < length (after_rows types n) = slice_get_within (after_rows types n) j a ea in
    let li : i < length (after_rows types n) = slice_get_within (after_rows types n) i b fb in
    elim (cases_lt j i) [
      | inl below ↦ rows_met types n i j below (omega arith) a b m ea fb e
      | inr other ↦ elim (cases_lt i j) [
        | inl below ↦ rows_met types n j i below (omega arith) b a m fb ea (meet-swap b a ∙ e)
        | inr beyond ↦
            let at : i ≡ j = omega arith in
            let same : a ≡ b = some_is (sym ea ∙ ap (slice_get (after_rows types n)) (sym at) ∙ fb) in
            subst (λ (x : Ty). Contains (after_rows types n) x) (some_is (sym (meet-itself a) ∙ ap (meet_of a) same ∙ e)) ca
      ]
    ]

-- ---- the set

pub members_in : (types : List Ty) (n : ℕ) (t : Ty) → Contains (after_rows types n) t → IsClosed types t
members_in types n = only_rows types (IsClosed types) in_part (λ a b m p q e. in_meet a b m p q (meet_is a b m e))
    (only_first types (IsClosed types) in_part (λ a b m p q e. in_meet a b m p q (meet_is a b m e)) in_base in_given) n

pub set_has : (types : List Ty) (n : ℕ) → length (after_rows types n) ≤ n → (t : Ty) → IsClosed types t → Contains (after_rows types n) t
set_has types n h _ (in_base t c) = in_longer (first_types types) (after_rows types n) t (first_begins types n) (in_longer base_types (first_types types) t (begins-put_all base_types (each_parts_first types)) c)
set_has types n h _ (in_given t c) = in_longer (first_types types) (after_rows types n) t (first_begins types n) (to_put_all base_types (each_parts_first types) t (each_has types t c))
set_has types n h _ (in_part u t s i) = (rows_closed types n).part u t (set_has types n h u s) i
set_has types n h _ (in_meet a b t p q is) = met_all types n h a b t (set_has types n h a p) (set_has types n h b q) (computed a b t is)

-- ---- it ends

told_rows : (types : List Ty) (n : ℕ) (t : Ty) → Contains (after_rows types n) t → IsTold (first_types types) (rows_closed types zero) t
told_rows types n = only_rows types (IsTold (first_types types) (rows_closed types zero)) (told_part (first_types types) (rows_closed types zero))
    (λ a b m p q e. told_meet (first_types types) (rows_closed types zero) a b m p q (meet_is a b m e))
    (told_member (first_types types) (rows_closed types zero)) n

module _ (gs : List Ty) (closed : IsPartClosed gs) where
  apart : (t : Ty) (ts : List Ty) → (Contains ts t → ⊥) → IsTold gs closed t → ((u : Ty) → Contains ts u → IsTold gs closed u) → AllByRecursion (λ y. eqb (above gs t) y ≡ false) (map (above gs) ts)
  apart t [] h p q = tt
  apart t (u ∷ ts) h p q = (
    split (eqb (above gs t) (above gs u)) (λ b. eqb (above gs t) (above gs u) ≡ b → b ≡ false)
        (λ y e. absurd (h (subst (λ (x : Ty). Contains (u ∷ ts) x) (sym (above_tells gs closed t u p (q u (first_in u ts)) (eqb-true _ _ e))) (first_in u ts))))
        (λ n e. refl) refl,
    apart t ts (λ c. h (in_rest u t ts c)) p (λ v c. q v (in_rest u v ts c)),
  )

  all_apart : (ts : List Ty) → AreDistinct ts → ((u : Ty) → Contains ts u → IsTold gs closed u) → IsDistinct eqb (map (above gs) ts)
  unfolding IsDistinct
  all_apart [] d q = tt
  all_apart (t ∷ ts) d q = (apart t ts d.0 (q t (first_in t ts)) (λ u c. q u (in_rest t u ts c)), all_apart ts d.1 (λ u c. q u (in_rest t u ts c)))

  small : (ts : List Ty) (q : ℕ) → list_any (eqb q) (map (above gs) ts) ≡ true → q < 2 ^ length gs
  small [] q = λ e. absurd cc
  small (t ∷ ts) q = split (eqb q (above gs t)) (λ b. (b || list_any (eqb q) (map (above gs) ts)) ≡ true → q < 2 ^ length gs)
      (λ y e. subst (λ (z : ℕ). z < 2 ^ length gs) (sym (eqb-true _ _ y)) (above-below gs t))
      (λ n e. small ts q e)

  few : (ts : List Ty) → AreDistinct ts → ((u : Ty) → Contains ts u → IsTold gs closed u) → length ts ≤ 2 ^ length gs
  few ts d q = simp length-map at (length-le_from_distinct_below (map (above gs) ts) (2 ^ length gs) (all_apart ts d q) (small ts))

pub list_exists : (types : List Ty) → (l : List Ty) × IsClosedList types l
list_exists types =
    let n : ℕ = 2 ^ length (first_types types) in (
      after_rows types (2 ^ length (first_types types)),
      record {
        rows = 2 ^ length (first_types types);
        made = refl;
        whole = few (first_types types) (rows_closed types zero) (after_rows types (2 ^ length (first_types types))) (rows_distinct types (2 ^ length (first_types types))) (told_rows types (2 ^ length (first_types types)));
      },
    )
