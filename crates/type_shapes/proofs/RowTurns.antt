-- A row of meets, one pair after another.
use Rattle.std.proofs.Common.{◌≡◌, ℕ, zero, suc, ◌+◌, ◌<◌, ◌≤◌, List, [], ◌∷◌, ◌++◌, length, inl, inr, refl, sym, ◌∙◌, ap, subst, arith, take, drop}
use Rattle.std.specs.Prelude.{Option, Some, None, slice_get}
use Rattle.std.proofs.lemmas.Option.{slice_get_cases}
use Rattle.std.proofs.lemmas.Bool.{cases_lt}
use Rattle.mono_list.proofs.Cases.{some_is, none_some}
use Rattle.mono_syntax.specs.Ty.{Ty}
use Rattle.mono_syntax.specs.declared.refusal.LoadFault.{LoadFault}
use Rattle.mono_tree.specs.Meet.{meet_of}
use Rattle.type_shapes.specs.computed.ByNumber.{flat}
use Rattle.type_shapes.specs.Shows.{IsNamed}
use Rattle.mono_tree.specs.ClosedList.{put_all, parts_first, each_parts_first, with_found, meets_with, row_meets}
use Rattle.type_shapes.specs.Limits.{IsFault}
use Rattle.type_shapes.specs.computed.PairMeets.{pair_meet, pair_list}
use Rattle.type_shapes.specs.Numbered.{IsRow}
use Rattle.mono_tree.proofs.ClosedPuts.{IsBeginning, begins-put_all, get_longer}
use Rattle.mono_tree.proofs.ClosedPuts.{put_two}
use Rattle.type_shapes.proofs.LimitLaws.{fault_rest}
use Rattle.type_shapes.proofs.Going.{named_met_longer}
use Rattle.mono_tree.proofs.ClosedMembers.{got_before}

-- what is left of a row makes the whole row
abbrev pub row_left : List Ty → List Ty → ℕ → ℕ → List Ty
row_left old now i j = put_all now (each_parts_first (row_meets (slice_get old i) (drop j (take i old))))

get_take : (xs : List Ty) (i j : ℕ) (x : Ty) → j < i → slice_get xs j ≡ Some x → drop j (take i xs) ≡ x ∷ drop (j + 1) (take i xs)
get_take xs zero j x l e = absurd (omega arith)
get_take [] (suc i) j x l e = none_some _ e
get_take (y ∷ xs) (suc i) zero x l e = ap (λ (z : Ty). z ∷ take i xs) (some_is e)
get_take (y ∷ xs) (suc i) (suc j) x l e =
    let h : drop j (take i xs) ≡ x ∷ drop (j + 1) (take i xs) = get_take xs i j x (omega arith) e in
    let k : suc (j + 1) ≡ suc j + 1 = omega arith in
    h ∙ ap (λ (n : ℕ). x ∷ drop n (y ∷ take i xs)) k

none_left : (xs : List Ty) (i : ℕ) → drop i (take i xs) ≡ []
none_left xs zero = refl
none_left [] (suc i) = refl
none_left (x ∷ xs) (suc i) = none_left xs i

found_two : (o : Option Ty) (ms : List Ty) → each_parts_first (with_found o ms) ≡ each_parts_first (with_found o []) ++ each_parts_first ms
found_two None ms = refl
found_two (Some m) ms = ap (λ (l : List Ty). l ++ each_parts_first ms) (sym (nothing_behind (parts_first m)))
  where
    nothing_behind : (us : List Ty) → us ++ [] ≡ us
    nothing_behind [] = refl
    nothing_behind (v ∷ us) = ap (λ (l : List Ty). v ∷ l) (nothing_behind us)

pub no_pair_left : (old now : List Ty) (i : ℕ) → row_left old now i i ≡ now
no_pair_left old now i = ap (λ (l : List Ty). put_all now (each_parts_first (row_meets (slice_get old i) l))) (none_left old i) ∙ by (slice_get old i)
  where
    by : (o : Option Ty) → put_all now (each_parts_first (row_meets o [])) ≡ now
    by None = refl
    by (Some t) = refl

module _ (old now : List Ty) (i j : ℕ) (order : j < i) (inside : i < length old) (begins : IsBeginning old now) where
  -- the types of the pair, and the rest of the row
  both_there : (u : Ty) × (t : Ty) × (slice_get old j ≡ Some u) × (slice_get old i ≡ Some t)
  both_there = elim (slice_get_cases old j).1 [
    | inl hu ↦ elim (slice_get_cases old i).1 [ inl ht ↦ (hu.0, ht.0, hu.2, ht.2) | inr ht ↦ absurd (let w : length old ≤ i = ht.0 in omega arith) ]
    | inr hu ↦ absurd (let w : length old ≤ j = hu.0 in omega arith)
  ]

  first_left : row_left old now i j ≡ put_all now (each_parts_first (with_found (pair_meet (slice_get now j) (slice_get now i)) []) ++ each_parts_first (row_meets (slice_get old i) (drop (j + 1) (take i old))))
  first_left =
      let (u, t, e, f) = both_there in
      let a : slice_get now j ≡ Some u = get_longer old now j u begins e in
      let b : slice_get now i ≡ Some t = get_longer old now i t begins f in
      (λ k. put_all now (each_parts_first (row_meets (f k) (get_take old i j u order e k))))
      ∙ ap (put_all now) (found_two (meet_of u t) (meets_with t (drop (j + 1) (take i old))))
      ∙ (λ k. put_all now (each_parts_first (with_found (pair_meet (sym a k) (sym b k)) []) ++ each_parts_first (row_meets (sym f k) (drop (j + 1) (take i old)))))

  pub pair_left : row_left old (pair_list now j i) i (j + 1) ≡ row_left old now i j
  pair_left = sym (first_left ∙ put_two now (each_parts_first (with_found (pair_meet (slice_get now j) (slice_get now i)) [])) (each_parts_first (row_meets (slice_get old i) (drop (j + 1) (take i old)))))

  pub pair_fault : (target : List Ty) (e : LoadFault) → row_left old now i j ≡ target → IsFault (pair_list now j i) e → IsFault target e
  pair_fault target e same f = fault_rest now (each_parts_first (with_found (pair_meet (slice_get now j) (slice_get now i)) [])) (each_parts_first (row_meets (slice_get old i) (drop (j + 1) (take i old)))) target e (sym first_left ∙ same) f

pub begins_pair : (now : List Ty) (i j : ℕ) → IsBeginning now (pair_list now j i)
begins_pair now i j = begins-put_all now (each_parts_first (with_found (pair_meet (slice_get now j) (slice_get now i)) []))

module _ {X : Type 0} where
  pub at_end : (xs : List X) (x : X) → slice_get (xs ++ x ∷ []) (length xs) ≡ Some x
  at_end [] x = refl
  at_end (y ∷ xs) x = at_end xs x

  pub get_before : (xs : List X) (x : X) (k : ℕ) → k < length xs → slice_get (xs ++ x ∷ []) k ≡ slice_get xs k
  get_before [] x k l = absurd (omega arith)
  get_before (y ∷ xs) x zero l = refl
  get_before (y ∷ xs) x (suc k) l = get_before xs x k (omega arith)

pub row_more : (now next : List Ty) (row : List (Option ℕ)) (i j : ℕ) (o : Option ℕ) → IsBeginning now next → j < i → i < length now → length row ≡ j → IsRow now row i j
    → IsNamed next o (pair_meet (slice_get now j) (slice_get now i)) → IsRow next (row ++ o ∷ []) i (j + 1)
row_more now next row i j o b l k e is n = record {
  at = λ c q x y f g.
      let fx : slice_get now i ≡ Some x = got_before now next i x b k f in
      elim (cases_lt c j) [
        | inl below ↦
            let gy : slice_get now c ≡ Some y = got_before now next c y b (omega arith) g in
            let h : c < length row = omega arith in
            subst (λ (z : Option (Option ℕ)). IsNamed next (flat z) (meet_of y x)) (sym (get_before row o c h)) (named_met_longer now next b (flat (slice_get row c)) (meet_of y x) (is.at c below x y fx gy))
        | inr beyond ↦
            let same : length row ≡ c = omega arith in
            let cj : c ≡ j = omega arith in
            let gy : slice_get now j ≡ Some y = got_before now next j y b (omega arith) (subst (λ (z : ℕ). slice_get next z ≡ Some y) cj g) in
            subst (λ (z : Option (Option ℕ)). IsNamed next (flat z) (meet_of y x)) (sym (at_end row o) ∙ ap (slice_get (row ++ o ∷ [])) same)
            (subst (λ (z : Option Ty). IsNamed next o (pair_meet z (Some x))) gy
            (subst (λ (z : Option Ty). IsNamed next o (pair_meet (slice_get now j) z)) fx n))
      ];
}

pub no_row : (ts : List Ty) (i : ℕ) → IsRow ts [] i 0
no_row ts i = record { at = λ b q x y e f. absurd (omega arith) }
