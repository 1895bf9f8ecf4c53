-- The beginning of a closed list.
use Rattle.std.proofs.Common.{◌≡◌, ℕ, List, [], ◌∷◌, length, refl, ap, subst, arith, get_or, drop, suc, zero, ◌<◌}
use Rattle.mono_syntax.specs.Ty.{Ty}
use Rattle.mono_syntax.specs.declared.refusal.LoadFault.{LoadFault}
use Rattle.mono_tree.specs.ClosedList.{base_types, first_types, put_all, parts_first, each_parts_first}
use Rattle.type_shapes.specs.Limits.{IsFault, IsRefusal}
use Rattle.type_shapes.specs.Numbered.{IsNumbered}
use Rattle.mono_tree.proofs.ClosedPuts.{none_in, begins-put_all}
use Rattle.type_shapes.proofs.LimitLaws.{fault_of_more, fault_rest}
use Rattle.type_shapes.proofs.AllRows.{fault_whole}

pub nothing_numbered : (names : List (List (List ℕ))) (ts : List Ty) → names ≡ [] → ts ≡ [] → IsNumbered [] [] []
nothing_numbered names ts e f = record {
  names_once = λ i j x g h. absurd cc;
  even = refl;
  distinct = tt;
  part_closed = record { part = λ t p c i. absurd (none_in t c) };
  shaped = λ k t g. absurd cc;
  typed = λ k s g. absurd cc;
}

pub base_made : (s : List Ty) → s ≡ [] → put_all s (each_parts_first base_types) ≡ base_types
base_made s e = ap (λ (l : List Ty). put_all l (each_parts_first base_types)) e

pub base_fault : (s types : List Ty) (e : LoadFault) → s ≡ [] → IsFault (put_all s (each_parts_first base_types)) e → IsRefusal types e
base_fault s types e n f = fault_whole types 0 e (fault_of_more base_types (first_types types) e (begins-put_all base_types (each_parts_first types)) (subst (λ (l : List Ty). IsFault l e) (base_made s n) f))

pub given_made : (s types : List Ty) → s ≡ base_types → put_all s (each_parts_first types) ≡ first_types types
given_made s types e = ap (λ (l : List Ty). put_all l (each_parts_first types)) e

pub given_fault : (s types : List Ty) (e : LoadFault) → s ≡ base_types → IsFault (put_all s (each_parts_first types)) e → IsRefusal types e
given_fault s types e n f = fault_whole types 0 e (subst (λ (l : List Ty). IsFault l e) (given_made s types n) f)

pub fault_at : (s xs : List Ty) (i : ℕ) (x : Ty) (target : List Ty) (e : LoadFault) → i < length xs → x ≡ get_or xs i x → put_all s (each_parts_first (drop i xs)) ≡ target → IsFault (put_all s (parts_first x)) e → IsFault target e
fault_at s [] i x target e l g same f = absurd (omega arith)
fault_at s (y ∷ xs) zero x target e l g same f = fault_rest s (parts_first y) (each_parts_first xs) target e same (subst (λ (z : Ty). IsFault (put_all s (parts_first z)) e) g f)
fault_at s (y ∷ xs) (suc i) x target e l g same f = fault_at s xs i x target e (omega arith) g same f
