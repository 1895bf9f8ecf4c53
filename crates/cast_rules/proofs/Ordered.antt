-- Fields in order are the fields that were put in order.
use Rattle.std.proofs.Common.{inl, inr, ℕ, List, [], ◌∷◌, refl, subst, if◌then◌else◌}
use Rattle.std.specs.Ordering.{nat_cmp, is_gt}
use Rattle.std.specs.Cmp.Lexicographic.{slice_cmp}
use Rattle.std.specs.List.Sorted.{IsPermutation}
use Rattle.std.proofs.lemmas.List.Sorted.{IsPermutation-refl, IsPermutation-trans, IsPermutation-cons, IsPermutation-middle}
use Rattle.mono_list.proofs.Cases.{split}
use Rattle.mono_syntax.specs.Ty.{Ty, Fields, no_fields, more_fields}
use Rattle.mono_tree.specs.FieldNames.{names_of}
use Rattle.mono_tree.specs.TypedPrograms.{HasField}
use Rattle.script_rules.specs.Writes.{put_field, in_order}

put_names : (n : List ℕ) (t : Ty) (fs : Fields) → IsPermutation (n ∷ names_of fs) (names_of (put_field n t fs))
put_names n t no_fields = IsPermutation-refl (n ∷ [])
put_names n t (more_fields k u fs) =
    split (is_gt (slice_cmp nat_cmp n k))
    (λ b. IsPermutation (n ∷ k ∷ names_of fs) (names_of (if b then more_fields k u (put_field n t fs) else more_fields n t (more_fields k u fs))))
    (λ _.
    IsPermutation-trans (n ∷ k ∷ names_of fs) (k ∷ n ∷ names_of fs) (k ∷ names_of (put_field n t fs))
    (IsPermutation-middle (n ∷ []) k (names_of fs)) (IsPermutation-cons k (n ∷ names_of fs) (names_of (put_field n t fs)) (put_names n t fs)))
    (λ _. IsPermutation-refl (n ∷ k ∷ names_of fs))

-- the names are the same, in another order
pub in_order-names : (fs : Fields) → IsPermutation (names_of fs) (names_of (in_order fs))
in_order-names no_fields = IsPermutation-refl []
in_order-names (more_fields n t fs) =
    IsPermutation-trans (n ∷ names_of fs) (n ∷ names_of (in_order fs)) (names_of (put_field n t (in_order fs)))
    (IsPermutation-cons n (names_of fs) (names_of (in_order fs)) (in_order-names fs)) (put_names n t (in_order fs))

put_field-new : (n : List ℕ) (t : Ty) (fs : Fields) → HasField (put_field n t fs) n t
put_field-new n t no_fields = inl (refl, refl)
put_field-new n t (more_fields k u fs) =
    split (is_gt (slice_cmp nat_cmp n k)) (λ b. HasField (if b then more_fields k u (put_field n t fs) else more_fields n t (more_fields k u fs)) n t)
    (λ _. inr (put_field-new n t fs)) (λ _. inl (refl, refl))

put_field-old : (n : List ℕ) (t : Ty) (fs : Fields) (x : List ℕ) (v : Ty) → HasField fs x v → HasField (put_field n t fs) x v
put_field-old n t no_fields x v h = absurd h
put_field-old n t (more_fields k u fs) x v h =
    split (is_gt (slice_cmp nat_cmp n k)) (λ b. HasField (if b then more_fields k u (put_field n t fs) else more_fields n t (more_fields k u fs)) x v)
    (λ _. elim h [ inl e ↦ inl e | inr i ↦ inr (put_field-old n t fs x v i) ]) (λ _. inr h)

-- and each has its type
pub in_order-has : (fs : Fields) (x : List ℕ) (v : Ty) → HasField fs x v → HasField (in_order fs) x v
in_order-has no_fields x v h = absurd h
in_order-has (more_fields n t fs) x v (inl e) =
    subst (λ (k : List ℕ). HasField (put_field n t (in_order fs)) k v) e.0 (subst (λ (u : Ty). HasField (put_field n t (in_order fs)) n u) e.1 (put_field-new n t (in_order fs)))
in_order-has (more_fields n t fs) x v (inr h) = put_field-old n t (in_order fs) x v (in_order-has fs x v h)
