-- Types made one by one.
use Rattle.std.proofs.Common.{◌≡◌, ℕ, List, [], ◌∷◌, ◌++◌, length, refl, sym, ◌∙◌, ap, arith, append_assoc}
use Rattle.std.specs.Prelude.{Option, Some, None, slice_get}
use Rattle.std.specs.Option.{option_map}
use Rattle.mono_syntax.specs.declared.tree.Field as rust_field
use Rattle.mono_syntax.specs.Ty.{Ty, Fields, no_fields, more_fields}
use Rattle.mono_syntax.specs.TyView.{fields}
use Rattle.mono_tree.proofs.MeetTurns.{append_fields}
use Rattle.type_shapes.specs.computed.MadeTypes.{listed_onto, types_at, retyped}

abbrev pub made_first : List Ty → List Ty → List Ty
made_first made ms = made ++ ms

pub one_more : (ts made : List Ty) (n : ℕ) (t : Ty) (ns : List ℕ) → slice_get ts n ≡ Some t
    → option_map (made_first (made ++ t ∷ [])) (types_at ts ns) ≡ option_map (made_first made) (types_at ts (n ∷ ns))
one_more ts made n t ns e =
    by (types_at ts ns) ∙ ap (λ (o : Option Ty). option_map (made_first made) (listed_onto ts o (types_at ts ns))) (sym e)
  where
    by : (o : Option (List Ty)) → option_map (made_first (made ++ t ∷ [])) o ≡ option_map (made_first made) (listed_onto ts (Some t) o)
    by None = refl
    by (Some ms) = ap (λ (l : List Ty). Some l) (append_assoc made (t ∷ []) ms)

pub none_there : (ts made : List Ty) (n : ℕ) (ns : List ℕ) → slice_get ts n ≡ None → option_map (made_first made) (types_at ts (n ∷ ns)) ≡ None
none_there ts made n ns e = ap (λ (o : Option Ty). option_map (made_first made) (listed_onto ts o (types_at ts ns))) e

pub ruleset types_turns = (one_more, none_there)

pub one_field : (made : List rust_field.Field) (f : rust_field.Field) (fs : Fields) → append_fields (made ++ f ∷ []) fs ≡ append_fields made (more_fields f.name f.ty fs)
one_field [] f fs = refl
one_field (g ∷ made) f fs = ap (more_fields g.name g.ty) (one_field made f fs)

pub no_more : (made : List rust_field.Field) → append_fields made no_fields ≡ fields made
no_more [] = refl
no_more (g ∷ made) = ap (more_fields g.name g.ty) (no_more made)

pub none_first : (ns : List (List ℕ)) (ts : List Ty) → length ns ≡ 0 → retyped ns ts ≡ no_fields
none_first [] ts e = refl
none_first (n ∷ ns) ts e = absurd (omega arith)

pub none_second : (ns : List (List ℕ)) (ts : List Ty) → length ts ≡ 0 → retyped ns ts ≡ no_fields
none_second [] ts e = refl
none_second (n ∷ ns) [] e = refl
none_second (n ∷ ns) (t ∷ ts) e = absurd (omega arith)

pub ruleset fields_turns = (one_field, no_more, none_first, none_second)
