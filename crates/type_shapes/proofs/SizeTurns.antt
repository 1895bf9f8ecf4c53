-- The counted size of a type from its parts.
use Rattle.std.proofs.Common.{◌≡◌, ◌↔◌, ℕ, ◌+◌, ◌<◌, List, [], ◌∷◌, min, max, inl, inr, refl, sym, subst, ◌∙◌, ap, arith}
use Rattle.std.specs.Prelude.{Option, IsTrue, ◌⊎◌, ◌||◌, nat_lt}
use Rattle.std.proofs.lemmas.Bool.Decides.{nat_tests}
use Rattle.mono_syntax.specs.Ty.{Ty, dyn, int, bool, str, nil, fun, obj, Tys, no_tys, more_tys, Fields, no_fields, more_fields}
use Rattle.mono_tree.specs.Sizes.{nodes_of, depth_of, nodes_of_all, depth_of_all, nodes_of_fields, depth_of_fields, IsTooLarge}
use Rattle.mono_tree.specs.computed.CountedSizes.{measured, nothing, joined, grown, is_too_large}
use Rattle.mono_tree.specs.declared.size.Size.{Size}
use Rattle.mono_tree.proofs.SizeLaws.{capped, joined-capped, grown-capped, capped-same}
use Rattle.type_shapes.specs.computed.CountedParts.{sizes_onto, fields_onto, size_more, sizes_at}
use Rattle.mono_syntax.specs.TyView.{tys_list}
use Rattle.type_shapes.specs.Shows.{types_of, kids, AreNamed}

onto_capped : (ts : Tys) (m d : ℕ) → sizes_onto (capped m d) ts ≡ capped (m + nodes_of_all ts) (max d (depth_of_all ts))
onto_capped no_tys m d = capped-same (omega arith) (omega arith)
onto_capped (more_tys t ts) m d =
    ap (λ (s : Size). sizes_onto s ts) (joined-capped m d t) ∙ onto_capped ts (m + nodes_of t) (max d (depth_of t))
    ∙ capped-same (omega arith) (omega arith)

fields_capped : (fs : Fields) (m d : ℕ) → fields_onto (capped m d) fs ≡ capped (m + nodes_of_fields fs) (max d (depth_of_fields fs))
fields_capped no_fields m d = capped-same (omega arith) (omega arith)
fields_capped (more_fields n t fs) m d =
    ap (λ (s : Size). fields_onto s fs) (joined-capped m d t) ∙ fields_capped fs (m + nodes_of t) (max d (depth_of t))
    ∙ capped-same (omega arith) (omega arith)

pub size-fun : (ps : Tys) (r : Ty) → grown (joined (sizes_onto nothing ps) (measured r)) ≡ measured (fun ps r)
size-fun ps r =
    ap (λ (s : Size). grown (joined s (measured r))) (onto_capped ps 0 0)
    ∙ ap grown (joined-capped (0 + nodes_of_all ps) (max 0 (depth_of_all ps)) r)
    ∙ grown-capped (0 + nodes_of_all ps + nodes_of r) (max (max 0 (depth_of_all ps)) (depth_of r))
    ∙ capped-same (omega arith) (omega arith)

pub size-obj : (fs : Fields) → grown (fields_onto nothing fs) ≡ measured (obj fs)
size-obj fs =
    ap grown (fields_capped fs 0 0) ∙ grown-capped (0 + nodes_of_fields fs) (max 0 (depth_of_fields fs)) ∙ capped-same (omega arith) (omega arith)

pub ruleset size_turns = (size-fun, size-obj)

-- ---- whether a counted size is over the limits

pub large_test : (t : Ty) → IsTrue (is_too_large (measured t)) ↔ IsTooLarge t
large_test t = (there (nodes_of t) (depth_of t), back (nodes_of t) (depth_of t))
  where
    there : (n d : ℕ) → IsTrue (nat_lt 1024 (min n 1025) || nat_lt 32 (min d 33)) → (1024 < n) ⊎ (32 < d)
    there n d = grind (arith, nat_tests)

    back : (n d : ℕ) → (1024 < n) ⊎ (32 < d) → IsTrue (nat_lt 1024 (min n 1025) || nat_lt 32 (min d 33))
    back n d (inl h) = grind (arith, nat_tests)
    back n d (inr h) = grind (arith, nat_tests)

-- ---- the size of a type by the places of its parts

abbrev types_onto : Size → List Ty → Size
types_onto s [] = s
types_onto s (t ∷ ts) = types_onto (joined s (measured t)) ts

named_sizes : (ts : List Ty) (ns : List ℕ) (us : List Ty) (s : Size) → AreNamed ts ns us → sizes_at ts s ns ≡ types_onto s us
named_sizes ts [] [] s p = refl
named_sizes ts [] (u ∷ us) s p = absurd p
named_sizes ts (n ∷ ns) [] s p = absurd p
named_sizes ts (n ∷ ns) (u ∷ us) s p =
    ap (λ (o : Option Ty). sizes_at ts (size_more s o) ns) p.0 ∙ named_sizes ts ns us (joined s (measured u)) p.1

listed_sizes : (ps : Tys) (s : Size) → types_onto s (tys_list ps) ≡ sizes_onto s ps
listed_sizes no_tys s = refl
listed_sizes (more_tys t ts) s = listed_sizes ts (joined s (measured t))

field_sizes : (fs : Fields) (s : Size) → types_onto s (types_of fs) ≡ fields_onto s fs
field_sizes no_fields s = refl
field_sizes (more_fields n t fs) s = field_sizes fs (joined s (measured t))

kids_size : (m : Ty) → grown (types_onto nothing (kids m)) ≡ measured m
kids_size dyn = refl
kids_size int = refl
kids_size bool = refl
kids_size str = refl
kids_size nil = refl
kids_size (fun ps r) =
    ap (λ (s : Size). grown (types_onto s (tys_list ps))) (joined-capped 0 0 r)
    ∙ ap grown (listed_sizes ps (capped (0 + nodes_of r) (max 0 (depth_of r))))
    ∙ ap grown (onto_capped ps (0 + nodes_of r) (max 0 (depth_of r)))
    ∙ grown-capped (0 + nodes_of r + nodes_of_all ps) (max (max 0 (depth_of r)) (depth_of_all ps))
    ∙ capped-same (omega arith) (omega arith)
kids_size (obj fs) = ap grown (field_sizes fs nothing) ∙ size-obj fs

pub parts_large : (ts : List Ty) (ns : List ℕ) (m : Ty) → AreNamed ts ns (kids m) → IsTrue (is_too_large (grown (sizes_at ts nothing ns))) ↔ IsTooLarge m
parts_large ts ns m p =
    subst (λ (s : Size). IsTrue (is_too_large s) ↔ IsTooLarge m) (sym (ap grown (named_sizes ts ns (kids m) nothing p) ∙ kids_size m)) (large_test m)
