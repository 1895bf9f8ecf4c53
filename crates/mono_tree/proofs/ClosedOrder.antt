-- In a closed list each part stands before its whole.
use Rattle.std.proofs.Common.{◌≡◌, ℕ, zero, suc, ◌<◌, List, [], ◌∷◌, ◌++◌, length, inl, inr, refl, sym, ap, subst, arith, cond}
use Rattle.std.specs.Prelude.{Some, slice_get, Contains, ◌⊎◌, take}
use Rattle.std.specs.List.{list_any}
use Rattle.std.proofs.lemmas.Option.{slice_get_within}
use Rattle.mono_list.proofs.Cases.{split, some_is}
use Rattle.mono_syntax.specs.Ty.{Ty, dyn, int, bool, str, nil, fun, obj, Tys, no_tys, more_tys, Fields, no_fields, more_fields}
use Rattle.mono_syntax.specs.computed.TyEq.{ty_eq}
use Rattle.mono_tree.specs.ClosedList.{IsOrdered, base_types, IsPart, parts_first, parts_before, all_parts_first, field_parts_first, each_parts_first, put, put_all, row_meets, after_rows}
use Rattle.mono_tree.proofs.ClosedPuts.{to_put_all}
use Rattle.mono_tree.proofs.ClosedParts.{has_field, has_part}
use Rattle.mono_tree.proofs.ClosedPuts.{put_two, whole_last}
use Rattle.mono_tree.proofs.ClosedMembers.{in_get}

module _ {X : Type 0} where
  get_cases : (xs : List X) (x y : X) (k : ℕ) → slice_get (xs ++ x ∷ []) k ≡ Some y → (slice_get xs k ≡ Some y) ⊎ ((k ≡ length xs) × (x ≡ y))
  get_cases [] x y zero e = inr (refl, some_is e)
  get_cases [] x y (suc k) e = absurd cc
  get_cases (z ∷ xs) x y zero e = inl e
  get_cases (z ∷ xs) x y (suc k) e = elim (get_cases xs x y k e) [ inl h ↦ inl h | inr h ↦ inr (ap suc h.0, h.1) ]

  get_still : (xs : List X) (x y : X) (k : ℕ) → slice_get xs k ≡ Some y → slice_get (xs ++ x ∷ []) k ≡ Some y
  get_still [] x y k e = absurd cc
  get_still (z ∷ xs) x y zero e = e
  get_still (z ∷ xs) x y (suc k) e = get_still xs x y k e

ordered_push : (ts : List Ty) (t : Ty) → IsOrdered ts → ((p : Ty) → IsPart p t → Contains ts p) → IsOrdered (ts ++ t ∷ [])
ordered_push ts t o h = record {
  before = λ k u p e i. elim (get_cases ts t u k e) [
    | inl a ↦ let (j, l, f) = o.before k u p a i in (j, l, get_still ts t p j f)
    | inr a ↦
        let (j, f) = in_get ts p (h p (subst (λ (x : Ty). IsPart p x) (sym a.1) i)) in
        let l : j < length ts = slice_get_within ts j p f in
        let same : k ≡ length ts = a.0 in
        (j, omega arith, get_still ts t p j f)
  ];
}

ordered_put : (ts : List Ty) (t : Ty) → IsOrdered ts → ((p : Ty) → IsPart p t → Contains ts p) → IsOrdered (put ts t)
ordered_put ts t o h = split (list_any (ty_eq t) ts) (λ b. IsOrdered (cond b ts (ts ++ t ∷ []))) (λ y. o) (λ n. ordered_push ts t o h)

part_put : (ts : List Ty) (t p : Ty) → IsPart p t → Contains (put_all ts (parts_before t)) p
part_put ts (fun ps r) p i = to_put_all ts (all_parts_first ps ++ parts_first r) p (has_part ps r p i)
part_put ts (obj fs) p i = to_put_all ts (field_parts_first fs) p (has_field fs p i)
part_put ts dyn p i = absurd i
part_put ts int p i = absurd i
part_put ts bool p i = absurd i
part_put ts str p i = absurd i
part_put ts nil p i = absurd i

mutual
  pub ordered_type : (t : Ty) (ts : List Ty) → IsOrdered ts → IsOrdered (put_all ts (parts_first t))
  ordered_type (fun ps r) ts o =
      subst IsOrdered (sym (whole_last ts (fun ps r)))
      (ordered_put (put_all ts (all_parts_first ps ++ parts_first r)) (fun ps r)
      (subst IsOrdered (sym (put_two ts (all_parts_first ps) (parts_first r))) (ordered_type r (put_all ts (all_parts_first ps)) (ordered_all ps ts o)))
      (part_put ts (fun ps r)))
  ordered_type (obj fs) ts o = subst IsOrdered (sym (whole_last ts (obj fs))) (ordered_put (put_all ts (field_parts_first fs)) (obj fs) (ordered_fields fs ts o) (part_put ts (obj fs)))
  ordered_type dyn ts o = ordered_put ts dyn o (λ p i. absurd i)
  ordered_type int ts o = ordered_put ts int o (λ p i. absurd i)
  ordered_type bool ts o = ordered_put ts bool o (λ p i. absurd i)
  ordered_type str ts o = ordered_put ts str o (λ p i. absurd i)
  ordered_type nil ts o = ordered_put ts nil o (λ p i. absurd i)

  pub ordered_all : (ps : Tys) (ts : List Ty) → IsOrdered ts → IsOrdered (put_all ts (all_parts_first ps))
  ordered_all no_tys ts o = o
  ordered_all (more_tys t us) ts o = subst IsOrdered (sym (put_two ts (parts_first t) (all_parts_first us))) (ordered_all us (put_all ts (parts_first t)) (ordered_type t ts o))

  pub ordered_fields : (fs : Fields) (ts : List Ty) → IsOrdered ts → IsOrdered (put_all ts (field_parts_first fs))
  ordered_fields no_fields ts o = o
  ordered_fields (more_fields n t fs) ts o = subst IsOrdered (sym (put_two ts (parts_first t) (field_parts_first fs))) (ordered_fields fs (put_all ts (parts_first t)) (ordered_type t ts o))

ordered_each : (us ts : List Ty) → IsOrdered ts → IsOrdered (put_all ts (each_parts_first us))
ordered_each [] ts o = o
ordered_each (u ∷ us) ts o = subst IsOrdered (sym (put_two ts (parts_first u) (each_parts_first us))) (ordered_each us (put_all ts (parts_first u)) (ordered_type u ts o))

ordered_base : IsOrdered base_types
ordered_base = ordered_each base_types [] (record { before = λ k t p e i. absurd cc })

-- each part stands before its whole
pub ordered_rows : (types : List Ty) (n : ℕ) → IsOrdered (after_rows types n)
ordered_rows types zero = ordered_each types base_types ordered_base
ordered_rows types (suc n) = ordered_each (row_meets (slice_get (after_rows types n) n) (take n (after_rows types n))) (after_rows types n) (ordered_rows types n)
