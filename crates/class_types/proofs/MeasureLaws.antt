-- Sizes that are counted are those of the types that would be made.
use Rattle.std.proofs.Common.{◌≡◌, ◌∙◌, sym, ap, refl, ℕ, zero, suc, ◌+◌, Bool, true, false, List, [], ◌∷◌, map, max, arith}
use Rattle.std.specs.Prelude.{Option, Some, None, slice_get, slice_set, option_and_then, if◌then◌else◌}
use Rattle.std.specs.Option.{option_map}
use Rattle.std.specs.Ordering.{nat_cmp, is_gt}
use Rattle.std.specs.Cmp.Lexicographic.{slice_cmp}
use Rattle.std.proofs.lemmas.Option.{slice_get-map}
use Rattle.mono_syntax.specs.declared.tree.ClassDef.{ClassDef}
use Rattle.mono_syntax.specs.declared.tree.FieldDef.{FieldDef}
use Rattle.mono_syntax.specs.declared.tree.FuncDef.{FuncDef}
use Rattle.mono_syntax.specs.declared.tree.Param.{Param}
use Rattle.mono_syntax.specs.Ann.{Ann, ann, Anns, no_anns, more_anns}
use Rattle.mono_syntax.specs.Ann as form
use Rattle.mono_syntax.specs.Ty.{Ty, fun, Tys, more_tys, Fields, no_fields, more_fields}
use Rattle.mono_tree.specs.Meet.{both}
use Rattle.script_rules.specs.Writes.{put_field, in_order}
use Rattle.mono_tree.specs.declared.size.Size.{Size}
use Rattle.mono_tree.proofs.SizeLaws.{capped, joined-capped, grown-capped, capped-same}
use Rattle.class_types.specs.computed.Made.{known_at, look, type_by, types_by, fields_by, class_by, any_by, params_by, function_by, object_of}
use Rattle.name_places.specs.Places.{place_in}
use Rattle.mono_tree.specs.computed.CountedSizes.{measured, joined, grown}
use Rattle.class_types.specs.computed.Measured.{size_by, sizes_onto, fields_onto, class_size_by, any_size_by, params_onto, function_size_by}
use Rattle.class_types.specs.computed.Rounds.{fill, filled, round, unknown}
use Rattle.mono_tree.specs.Sizes.{nodes_of, nodes_of_all, nodes_of_fields, depth_of, depth_of_all, depth_of_fields}

-- ---- fields in order are as large as before

put-nodes : (n : List ℕ) (t : Ty) (fs : Fields) → nodes_of_fields (put_field n t fs) ≡ nodes_of t + nodes_of_fields fs
put-nodes n t no_fields = refl
put-nodes n t (more_fields k u fs) = go (is_gt (slice_cmp nat_cmp n k)) (put-nodes n t fs)
  where
    go : (b : Bool) → nodes_of_fields (put_field n t fs) ≡ nodes_of t + nodes_of_fields fs
        → nodes_of_fields (if b then more_fields k u (put_field n t fs) else more_fields n t (more_fields k u fs)) ≡ nodes_of t + nodes_of_fields (more_fields k u fs)
    go true h = omega arith
    go false h = refl

put-depth : (n : List ℕ) (t : Ty) (fs : Fields) → depth_of_fields (put_field n t fs) ≡ max (depth_of t) (depth_of_fields fs)
put-depth n t no_fields = refl
put-depth n t (more_fields k u fs) = go (is_gt (slice_cmp nat_cmp n k)) (put-depth n t fs)
  where
    go : (b : Bool) → depth_of_fields (put_field n t fs) ≡ max (depth_of t) (depth_of_fields fs)
        → depth_of_fields (if b then more_fields k u (put_field n t fs) else more_fields n t (more_fields k u fs)) ≡ max (depth_of t) (depth_of_fields (more_fields k u fs))
    go true h = omega arith
    go false h = refl

order-nodes : (fs : Fields) → nodes_of_fields (in_order fs) ≡ nodes_of_fields fs
order-nodes no_fields = refl
order-nodes (more_fields n t fs) = put-nodes n t (in_order fs) ∙ ap (λ m. nodes_of t + m) (order-nodes fs)

order-depth : (fs : Fields) → depth_of_fields (in_order fs) ≡ depth_of_fields fs
order-depth no_fields = refl
order-depth (more_fields n t fs) = put-depth n t (in_order fs) ∙ ap (max (depth_of t)) (order-depth fs)

-- ---- what is counted, and what would be made

module _ (sized : List ℕ → Option Size) (named : List ℕ → Option Ty) (same : (x : List ℕ) → sized x ≡ option_map measured (named x)) where
  mutual
    pub size-type : (a : Ann) → size_by sized a ≡ option_map measured (type_by named a)
    size-type (ann p form.dyn) = refl
    size-type (ann p form.int) = refl
    size-type (ann p form.bool) = refl
    size-type (ann p form.str) = refl
    size-type (ann p form.nil) = refl
    size-type (ann p (form.class w)) = same w.text
    size-type (ann p (form.fun as_ a)) =
        ap (λ o. option_map grown (option_and_then (λ s. option_map (joined s) (size_by sized a)) o)) (sizes-types as_ 0 0)
        ∙ (ap (λ o. option_map grown (option_and_then (λ s. option_map (joined s) o) (option_map (λ ts. capped (0 + nodes_of_all ts) (max 0 (depth_of_all ts))) (types_by named as_)))) (size-type a)
        ∙ go (types_by named as_) (type_by named a))
      where
        go : (ts : Option Tys) (t : Option Ty)
            → option_map grown (option_and_then (λ s. option_map (joined s) (option_map measured t)) (option_map (λ l. capped (0 + nodes_of_all l) (max 0 (depth_of_all l))) ts)) ≡ option_map measured (both fun ts t)
        go None t = refl
        go (Some ts) None = refl
        go (Some ts) (Some t) = ap Some (ap grown (joined-capped (0 + nodes_of_all ts) (max 0 (depth_of_all ts)) t) ∙ (grown-capped _ _ ∙ capped-same (omega arith) (omega arith)))

    sizes-types : (as_ : Anns) (m d : ℕ) → sizes_onto sized (capped m d) as_ ≡ option_map (λ ts. capped (m + nodes_of_all ts) (max d (depth_of_all ts))) (types_by named as_)
    sizes-types no_anns m d = ap Some (capped-same (omega arith) (omega arith))
    sizes-types (more_anns a as_) m d = ap (option_and_then (λ s. sizes_onto sized (joined (capped m d) s) as_)) (size-type a) ∙ go (type_by named a) (sizes-types as_)
      where
        go : (t : Option Ty) → ((k e : ℕ) → sizes_onto sized (capped k e) as_ ≡ option_map (λ ts. capped (k + nodes_of_all ts) (max e (depth_of_all ts))) (types_by named as_))
            → option_and_then (λ s. sizes_onto sized (joined (capped m d) s) as_) (option_map measured t)
            ≡ option_map (λ ts. capped (m + nodes_of_all ts) (max d (depth_of_all ts))) (both more_tys t (types_by named as_))
        go None later = refl
        go (Some t) later = ap (λ s. sizes_onto sized s as_) (joined-capped m d t) ∙ (later (m + nodes_of t) (max d (depth_of t)) ∙ rest (types_by named as_))
          where
            rest : (ts : Option Tys) → option_map (λ l. capped (m + nodes_of t + nodes_of_all l) (max (max d (depth_of t)) (depth_of_all l))) ts
                ≡ option_map (λ l. capped (m + nodes_of_all l) (max d (depth_of_all l))) (both more_tys (Some t) ts)
            rest None = refl
            rest (Some ts) = ap Some (capped-same (omega arith) (omega arith))

  fields-types : (ds : List FieldDef) (m d : ℕ) → fields_onto sized (capped m d) ds ≡ option_map (λ fs. capped (m + nodes_of_fields fs) (max d (depth_of_fields fs))) (fields_by named ds)
  fields-types [] m d = ap Some (capped-same (omega arith) (omega arith))
  fields-types (f ∷ ds) m d = ap (option_and_then (λ s. fields_onto sized (joined (capped m d) s) ds)) (size-type f.ann) ∙ go (type_by named f.ann) (fields-types ds)
    where
      go : (t : Option Ty) → ((k e : ℕ) → fields_onto sized (capped k e) ds ≡ option_map (λ fs. capped (k + nodes_of_fields fs) (max e (depth_of_fields fs))) (fields_by named ds))
          → option_and_then (λ s. fields_onto sized (joined (capped m d) s) ds) (option_map measured t)
          ≡ option_map (λ fs. capped (m + nodes_of_fields fs) (max d (depth_of_fields fs))) (both (more_fields f.name.text) t (fields_by named ds))
      go None later = refl
      go (Some t) later = ap (λ s. fields_onto sized s ds) (joined-capped m d t) ∙ (later (m + nodes_of t) (max d (depth_of t)) ∙ rest (fields_by named ds))
        where
          rest : (fs : Option Fields) → option_map (λ l. capped (m + nodes_of t + nodes_of_fields l) (max (max d (depth_of t)) (depth_of_fields l))) fs
              ≡ option_map (λ l. capped (m + nodes_of_fields l) (max d (depth_of_fields l))) (both (more_fields f.name.text) (Some t) fs)
          rest None = refl
          rest (Some fs) = ap Some (capped-same (omega arith) (omega arith))

  pub class-size : (d : ClassDef) → class_size_by sized d ≡ option_map measured (class_by named d)
  class-size d = ap (option_map grown) (fields-types d.fields 0 0) ∙ go (fields_by named d.fields)
    where
      go : (fs : Option Fields) → option_map grown (option_map (λ l. capped (0 + nodes_of_fields l) (max 0 (depth_of_fields l))) fs) ≡ option_map measured (option_map object_of fs)
      go None = refl
      go (Some fs) = ap Some (grown-capped _ _ ∙ capped-same (omega (arith, order-nodes fs)) (omega (arith, order-depth fs)))

  any-type : (a : Option Ann) → any_size_by sized a ≡ option_map measured (any_by named a)
  any-type None = refl
  any-type (Some a) = size-type a

  params-types : (ps : List Param) (m d : ℕ) → params_onto sized (capped m d) ps ≡ option_map (λ ts. capped (m + nodes_of_all ts) (max d (depth_of_all ts))) (params_by named ps)
  params-types [] m d = ap Some (capped-same (omega arith) (omega arith))
  params-types (p ∷ ps) m d = ap (option_and_then (λ s. params_onto sized (joined (capped m d) s) ps)) (any-type p.ann) ∙ go (any_by named p.ann) (params-types ps)
    where
      go : (t : Option Ty) → ((k e : ℕ) → params_onto sized (capped k e) ps ≡ option_map (λ ts. capped (k + nodes_of_all ts) (max e (depth_of_all ts))) (params_by named ps))
          → option_and_then (λ s. params_onto sized (joined (capped m d) s) ps) (option_map measured t)
          ≡ option_map (λ ts. capped (m + nodes_of_all ts) (max d (depth_of_all ts))) (both more_tys t (params_by named ps))
      go None later = refl
      go (Some t) later = ap (λ s. params_onto sized s ps) (joined-capped m d t) ∙ (later (m + nodes_of t) (max d (depth_of t)) ∙ rest (params_by named ps))
        where
          rest : (ts : Option Tys) → option_map (λ l. capped (m + nodes_of t + nodes_of_all l) (max (max d (depth_of t)) (depth_of_all l))) ts
              ≡ option_map (λ l. capped (m + nodes_of_all l) (max d (depth_of_all l))) (both more_tys (Some t) ts)
          rest None = refl
          rest (Some ts) = ap Some (capped-same (omega arith) (omega arith))

  pub function-size : (d : FuncDef) → function_size_by sized d ≡ option_map measured (function_by named d)
  function-size d =
      ap (λ o. option_map grown (option_and_then (λ s. option_map (joined s) (any_size_by sized d.result)) o)) (params-types d.params 0 0)
      ∙ (ap (λ o. option_map grown (option_and_then (λ s. option_map (joined s) o) (option_map (λ ts. capped (0 + nodes_of_all ts) (max 0 (depth_of_all ts))) (params_by named d.params)))) (any-type d.result)
      ∙ go (params_by named d.params) (any_by named d.result))
    where
      go : (ts : Option Tys) (t : Option Ty)
          → option_map grown (option_and_then (λ s. option_map (joined s) (option_map measured t)) (option_map (λ l. capped (0 + nodes_of_all l) (max 0 (depth_of_all l))) ts)) ≡ option_map measured (both fun ts t)
      go None t = refl
      go (Some ts) None = refl
      go (Some ts) (Some t) = ap Some (ap grown (joined-capped (0 + nodes_of_all ts) (max 0 (depth_of_all ts)) t) ∙ (grown-capped _ _ ∙ capped-same (omega arith) (omega arith)))

-- ---- rounds of sizes are rounds of types

map-set : {A B : Type 0} (f : A → B) (xs : List A) (i : ℕ) (x : A) → map f (slice_set xs i x) ≡ slice_set (map f xs) i (f x)
map-set f [] i x = refl
map-set f (y ∷ xs) zero x = refl
map-set f (y ∷ xs) (suc i) x = ap (λ l. f y ∷ l) (map-set f xs i x)

pub look-map : (ns : List (List ℕ)) (own : List (Option Ty)) (stray : Option Ty) (x : List ℕ)
    → look ns (map (option_map measured) own) (option_map measured stray) x ≡ option_map measured (look ns own stray x)
look-map ns own stray x = go (place_in ns x)
  where
    at : (o : Option (Option Ty)) → option_and_then (λ a. a) (option_map (option_map measured) o) ≡ option_map measured (option_and_then (λ a. a) o)
    at None = refl
    at (Some t) = refl

    go : (o : Option ℕ) → known_at (map (option_map measured) own) (option_map measured stray) o ≡ option_map measured (known_at own stray o)
    go None = refl
    go (Some i) = ap (option_and_then (λ a. a)) (slice_get-map (option_map measured) own i) ∙ at (slice_get own i)

pub filled-map : (ns : List (List ℕ)) (stray : Option Ty) (d : ClassDef) (own : List (Option Ty)) (at : ℕ)
    → filled class_size_by ns (option_map measured stray) d (map (option_map measured) own) at ≡ map (option_map measured) (filled class_by ns stray d own at)
filled-map ns stray d own at =
    (λ i. fill (map (option_map measured) own) at (slice_get-map (option_map measured) own at i)
    (class-size (look ns (map (option_map measured) own) (option_map measured stray)) (look ns own stray) (look-map ns own stray) d i))
    ∙ go (slice_get own at) (class_by (look ns own stray) d)
  where
    go : (o : Option (Option Ty)) (t : Option Ty) → fill (map (option_map measured) own) at (option_map (option_map measured) o) (option_map measured t) ≡ map (option_map measured) (fill own at o t)
    go None t = refl
    go (Some (Some u)) t = refl
    go (Some None) None = refl
    go (Some None) (Some t) = sym (map-set (option_map measured) own at (Some t))

pub round-map : (ns : List (List ℕ)) (stray : Option Ty) (ds : List ClassDef) (own : List (Option Ty)) (at : ℕ)
    → round class_size_by ns (option_map measured stray) ds (map (option_map measured) own) at ≡ map (option_map measured) (round class_by ns stray ds own at)
round-map ns stray [] own at = refl
round-map ns stray (d ∷ ds) own at =
    ap (λ l. round class_size_by ns (option_map measured stray) ds l (at + 1)) (filled-map ns stray d own at) ∙ round-map ns stray ds (filled class_by ns stray d own at) (at + 1)

pub unknown-map : (own : List (Option Ty)) → unknown (map (option_map measured) own) ≡ unknown own
unknown-map [] = refl
unknown-map (None ∷ own) = ap (λ n. n + 1) (unknown-map own)
unknown-map (Some t ∷ own) = unknown-map own
