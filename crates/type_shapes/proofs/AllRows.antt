-- Row after row, up to the closed list.
use Rattle.std.proofs.Common.{◌≡◌, ℕ, zero, suc, ◌+◌, ◌<◌, ◌≤◌, List, [], ◌∷◌, ◌++◌, length, inl, inr, refl, sym, ◌∙◌, ap, subst, arith}
use Rattle.std.specs.Prelude.{Option, Some, slice_get, take}
use Rattle.std.proofs.lemmas.Bool.{cases_lt}
use Rattle.mono_syntax.specs.Ty.{Ty}
use Rattle.mono_syntax.specs.declared.refusal.LoadFault.{LoadFault}
use Rattle.mono_syntax.specs.declared.refusal.LoadFault.TheVariants.{Memory}
use Rattle.mono_tree.specs.Meet.{meet_of}
use Rattle.type_shapes.specs.computed.ByNumber.{entry, entry_of}
use Rattle.type_shapes.specs.Shows.{IsNamed, AreMeets}
use Rattle.mono_tree.specs.ClosedList.{first_types, with_row, after_rows, IsClosedList, each_parts_first, row_meets}
use Rattle.type_shapes.specs.Limits.{IsFault, IsRefusal, IsWithinLimits}
use Rattle.type_shapes.specs.Numbered.{IsRow}
use Rattle.mono_tree.proofs.ClosedPuts.{IsBeginning, begins_itself, begins_on, begins-put_all}
use Rattle.type_shapes.proofs.LimitLaws.{fault_of_more, only_memory}
use Rattle.type_shapes.proofs.Going.{named_met_longer}
use Rattle.mono_tree.proofs.ClosedMembers.{rows_grow, stays, list_exists, got_before}
use Rattle.type_shapes.proofs.RowTurns.{at_end, get_before}

begins_later : (types : List Ty) (k n : ℕ) → k ≤ n → IsBeginning (after_rows types k) (after_rows types n)
begins_later types k zero l = let e : k ≡ 0 = omega arith in subst (λ (j : ℕ). IsBeginning (after_rows types j) (after_rows types 0)) (sym e) (begins_itself (first_types types))
begins_later types k (suc n) l = elim (cases_lt n k) [
  | inl beyond ↦ let e : k ≡ suc n = omega arith in subst (λ (j : ℕ). IsBeginning (after_rows types j) (after_rows types (suc n))) (sym e) (begins_itself (after_rows types (suc n)))
  | inr within ↦ begins_on (after_rows types k) (after_rows types n) (after_rows types (suc n)) (begins_later types k n within) (rows_grow types n)
]

begins_whole : (types : List Ty) (k n : ℕ) → length (after_rows types n) ≤ n → IsBeginning (after_rows types k) (after_rows types n)
begins_whole types k n h = elim (cases_lt n k) [
  | inl beyond ↦ subst (λ (l : List Ty). IsBeginning l (after_rows types n)) (sym (stays types n k (omega arith) h)) (begins_itself (after_rows types n))
  | inr within ↦ begins_later types k n within
]

-- a fault after some rows is one of the closed list
pub fault_whole : (types : List Ty) (k : ℕ) (e : LoadFault) → IsFault (after_rows types k) e → IsRefusal types e
fault_whole types k e f =
    let (l, is) = list_exists types in (
      l,
      is,
      subst (λ (x : List Ty). IsFault x e) is.made
          (fault_of_more (after_rows types k) (after_rows types is.rows) e (begins_whole types k is.rows (subst (λ (x : List Ty). length x ≤ is.rows) (sym is.made) is.whole)) f),
    )

pub memory_whole : (types : List Ty) → IsRefusal types Memory
memory_whole types = let (l, is) = list_exists types in (l, is, inl refl)

-- one more row
pub rows_more : (now next : List Ty) (rows : List (List (Option ℕ))) (row : List (Option ℕ)) (i : ℕ) → IsBeginning now next → length rows ≡ i → i < length now → AreMeets now rows i → IsRow next row i i
    → AreMeets next (rows ++ row ∷ []) (i + 1)
rows_more now next rows row i b e l m r = record {
  at = λ a c p q x y f g. elim (cases_lt a i) [
    | inl below ↦
        let fx = got_before now next a x b (omega arith) f in
        let gy = got_before now next c y b (omega arith) g in
        let h : a < length rows = omega arith in
        subst (λ (z : Option (List (Option ℕ))). IsNamed next (entry_of z c) (meet_of y x)) (sym (get_before rows row a h)) (named_met_longer now next b (entry rows a c) (meet_of y x) (m.at a c p below x y fx gy))
    | inr beyond ↦
        let ai : a ≡ i = omega arith in
        let same : length rows ≡ a = omega arith in
        subst (λ (z : Option (List (Option ℕ))). IsNamed next (entry_of z c) (meet_of y x)) (sym (at_end rows row) ∙ ap (slice_get (rows ++ row ∷ [])) same)
        (r.at c (omega arith) x y (subst (λ (z : ℕ). slice_get next z ≡ Some x) ai f) g)
  ];
}

pub no_rows : (ts : List Ty) → AreMeets ts [] 0
no_rows ts = record { at = λ a b p q x y e f. absurd (omega arith) }

pub closed_here : (types ts : List Ty) (i : ℕ) → ts ≡ after_rows types i → length ts ≤ i → IsClosedList types ts
closed_here types ts i e l = record { rows = i; made = sym e; whole = l }

pub next_here : (types ts us : List Ty) (i : ℕ) → ts ≡ after_rows types i → us ≡ with_row ts i → us ≡ after_rows types (i + 1)
next_here types ts us i e f =
    let k : suc i ≡ i + 1 = omega arith in
    f ∙ ap (λ (x : List Ty). with_row x i) e ∙ ap (after_rows types) k

pub fault_here : (types ts : List Ty) (i : ℕ) (x : LoadFault) → ts ≡ after_rows types i → IsFault (with_row ts i) x → IsRefusal types x
fault_here types ts i x e f = fault_whole types (suc i) x (subst (λ (y : List Ty). IsFault (with_row y i) x) e f)

pub begins_row : (ts us : List Ty) (i : ℕ) → us ≡ with_row ts i → IsBeginning ts us
begins_row ts us i e = subst (IsBeginning ts) (sym e) (begins-put_all ts (each_parts_first (row_meets (slice_get ts i) (take i ts))))

-- ---- a list that its rows don't make longer

pub still_here : (old ts us : List Ty) (i : ℕ) → ((n : ℕ) → with_row old n ≡ old) → ts ≡ old → us ≡ with_row ts i → us ≡ old
still_here old ts us i h e f = f ∙ ap (λ (x : List Ty). with_row x i) e ∙ h i

pub only_here : (old ts : List Ty) (i : ℕ) (x : LoadFault) → ((n : ℕ) → with_row old n ≡ old) → ts ≡ old → IsWithinLimits ts
    → IsFault (with_row ts i) x → x ≡ Memory
only_here old ts i x h e w f =
    let same : with_row ts i ≡ ts = ap (λ (y : List Ty). with_row y i) e ∙ h i ∙ sym e in
    only_memory ts x w (subst (λ (y : List Ty). IsFault y x) same f)
