-- An error while types are put one after another is one of the whole list.
use Rattle.std.proofs.Common.{◌≡◌, ℕ, zero, suc, ◌<◌, List, [], ◌∷◌, ◌++◌, length, refl, sym, ◌∙◌, subst, arith, get_or, drop}
use Rattle.mono_syntax.specs.Ty.{Ty, dyn, int, bool, str, nil, fun, obj}
use Rattle.mono_syntax.specs.TyView.{tys, fields}
use Rattle.mono_syntax.specs.declared.tree.Field as rust_field
use Rattle.mono_syntax.specs.declared.refusal.LoadFault.{LoadFault}
use Rattle.mono_tree.specs.ClosedList.{IsPart, put_all, parts_first, parts_before, all_parts_first, field_parts_first}
use Rattle.mono_tree.proofs.ClosedPuts.{put_two, whole_last, to_put_all}
use Rattle.mono_tree.proofs.ClosedParts.{has_part, has_field}
use Rattle.std.specs.Prelude.{Contains}
use Rattle.type_shapes.specs.Limits.{IsFault}
use Rattle.type_shapes.proofs.LimitLaws.{fault_rest, no_memory}

pub fault_first : (s us vs : List Ty) (e : LoadFault) → IsFault (put_all s us) e → IsFault (put_all s (us ++ vs)) e
fault_first s us vs e f = fault_rest s us vs (put_all s (us ++ vs)) e refl f

pub fault_before : (s : List Ty) (t : Ty) (e : LoadFault) → IsFault (put_all s (parts_before t)) e → IsFault (put_all s (parts_first t)) e
fault_before s t e f = fault_rest s (parts_before t) (t ∷ []) (put_all s (parts_first t)) e (put_two s (parts_before t) (t ∷ []) ∙ sym (whole_last s t)) f

pub rest_same : (s us vs target : List Ty) → put_all s (us ++ vs) ≡ target → put_all (put_all s us) vs ≡ target
rest_same s us vs target e = sym (put_two s us vs) ∙ e

pub ruleset adding = (fault_rest, fault_first, fault_before, rest_same, whole_last, put_two, no_memory)

-- ---- an error inside a loop

pub fault_at : (s xs : List Ty) (i : ℕ) (x : Ty) (target : List Ty) (e : LoadFault) → i < length xs → x ≡ get_or xs i x → put_all s (all_parts_first (tys (drop i xs))) ≡ target → IsFault (put_all s (parts_first x)) e → IsFault target e
fault_at s [] i x target e l g same f = absurd (omega arith)
fault_at s (y ∷ xs) zero x target e l g same f = fault_rest s (parts_first y) (all_parts_first (tys xs)) target e same (subst (λ (z : Ty). IsFault (put_all s (parts_first z)) e) g f)
fault_at s (y ∷ xs) (suc i) x target e l g same f = fault_at s xs i x target e (omega arith) g same f

pub fault_at_field : (s : List Ty) (xs : List rust_field.Field) (i : ℕ) (x : rust_field.Field) (target : List Ty) (e : LoadFault) → i < length xs → x ≡ get_or xs i x → put_all s (field_parts_first (fields (drop i xs))) ≡ target → IsFault (put_all s (parts_first x.ty)) e → IsFault target e
fault_at_field s [] i x target e l g same f = absurd (omega arith)
fault_at_field s (y ∷ xs) zero x target e l g same f = fault_rest s (parts_first y.ty) (field_parts_first (fields xs)) target e same (subst (λ (z : rust_field.Field). IsFault (put_all s (parts_first z.ty)) e) g f)
fault_at_field s (y ∷ xs) (suc i) x target e l g same f = fault_at_field s xs i x target e (omega arith) g same f

-- ---- the parts stand before

pub part_there : (ts us : List Ty) (t : Ty) → us ≡ put_all ts (parts_before t) → (p : Ty) → IsPart p t → Contains us p
part_there ts us t e p i = subst (λ (l : List Ty). Contains l p) (sym e) (by t i)
  where
    by : (t : Ty) → IsPart p t → Contains (put_all ts (parts_before t)) p
    by (fun ps r) i = to_put_all ts (all_parts_first ps ++ parts_first r) p (has_part ps r p i)
    by (obj fs) i = to_put_all ts (field_parts_first fs) p (has_field fs p i)
    by dyn i = absurd i
    by int i = absurd i
    by bool i = absurd i
    by str i = absurd i
    by nil i = absurd i
