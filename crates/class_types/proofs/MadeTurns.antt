-- Loops that make types and fields: what is made so far, before what is left.
use Rattle.std.proofs.Common.{◌≡◌, ◌∙◌, sym, ℕ, ◌+◌, ◌<◌, ◌≤◌, List, [], ◌∷◌, ◌++◌, length, drop, get_or, refl, ap}
use Rattle.std.proofs.lemmas.List.{drop_more, drop_all}
use Rattle.std.specs.Prelude.{Option, Some, None}
use Rattle.std.specs.Option.{option_map}
use Rattle.mono_syntax.specs.declared.tree.Field as rust_field
use Rattle.mono_syntax.specs.declared.tree.FieldDef.{FieldDef}
use Rattle.mono_syntax.specs.Ann.{Ann, Anns, more_anns}
use Rattle.mono_syntax.specs.AnnView.{anns}
use Rattle.mono_syntax.specs.Ty.{Ty, Tys, no_tys, more_tys, Fields, no_fields, more_fields}
use Rattle.mono_syntax.specs.TyView.{tys, fields}
use Rattle.mono_tree.specs.Meet.{both}
use Rattle.mono_syntax.specs.declared.tree.Param.{Param}
use Rattle.class_types.specs.computed.Made.{type_by, types_by, fields_by, any_by, params_by}

-- one step of a loop over a list
pub next : {X : Type 0} (xs : List X) (i : ℕ) (x : X) → i < length xs → x ≡ get_or xs i x → drop i xs ≡ x ∷ drop (i + 1) xs
next xs i x h is = drop_more xs i x h ∙ ap (λ y. y ∷ drop (i + 1) xs) (sym is)

abbrev pub append : List Ty → Tys → Tys
append [] rest = rest
append (m ∷ ms) rest = more_tys m (append ms rest)

append-push : (ms : List Ty) (m : Ty) (rest : Tys) → append (ms ++ m ∷ []) rest ≡ append ms (more_tys m rest)
append-push [] m rest = refl
append-push (k ∷ ms) m rest = ap (more_tys k) (append-push ms m rest)

append-end : (ms : List Ty) → append ms no_tys ≡ tys ms
append-end [] = refl
append-end (m ∷ ms) = ap (more_tys m) (append-end ms)

pub types-step : (named : List ℕ → Option Ty) (made : List Ty) (a : Ann) (t : Ty) (as_ : Anns) → type_by named a ≡ Some t
    → option_map (append (made ++ t ∷ [])) (types_by named as_) ≡ option_map (append made) (types_by named (more_anns a as_))
types-step named made a t as_ e = rw e (go (types_by named as_))
  where
    go : (rest : Option Tys) → option_map (append (made ++ t ∷ [])) rest ≡ option_map (append made) (both more_tys (Some t) rest)
    go None = refl
    go (Some rest) = ap Some (append-push made t rest)

pub types-stop : (named : List ℕ → Option Ty) (made : List Ty) (a : Ann) (as_ : Anns) → type_by named a ≡ None
    → option_map (append made) (types_by named (more_anns a as_)) ≡ None
types-stop named made a as_ e = rw e

pub types-next : (named : List ℕ → Option Ty) (made more : List Ty) (xs : List Ann) (i : ℕ) (a : Ann) (t : Ty) (all : Option Tys)
    → more ≡ made ++ t ∷ [] → i < length xs → a ≡ get_or xs i a → type_by named a ≡ Some t
    → option_map (append made) (types_by named (anns (drop i xs))) ≡ all → option_map (append more) (types_by named (anns (drop (i + 1) xs))) ≡ all
types-next named made more xs i a t all m h is e inv = rw m (types-step named made a t (anns (drop (i + 1) xs)) e ∙ (sym (ap (λ l. option_map (append made) (types_by named (anns l))) (next xs i a h is)) ∙ inv))

pub types-end : (named : List ℕ → Option Ty) (made : List Ty) (xs : List Ann) (i : ℕ) (all : Option Tys) → length xs ≤ i
    → option_map (append made) (types_by named (anns (drop i xs))) ≡ all → Some (tys made) ≡ all
types-end named made xs i all h inv = sym (ap Some (append-end made)) ∙ (sym (ap (λ l. option_map (append made) (types_by named (anns l))) (drop_all i xs h)) ∙ inv)

pub types-start : (rest : Option Tys) → option_map (append []) rest ≡ rest
types-start None = refl
types-start (Some rest) = refl

pub ruleset types_turns = (types-start, types-next, types-stop, types-end)

abbrev pub append_fields : List rust_field.Field → Fields → Fields
append_fields [] rest = rest
append_fields (m ∷ ms) rest = more_fields m.name m.ty (append_fields ms rest)

append_fields-push : (ms : List rust_field.Field) (m : rust_field.Field) (rest : Fields) → append_fields (ms ++ m ∷ []) rest ≡ append_fields ms (more_fields m.name m.ty rest)
append_fields-push [] m rest = refl
append_fields-push (k ∷ ms) m rest = ap (more_fields k.name k.ty) (append_fields-push ms m rest)

append_fields-end : (ms : List rust_field.Field) → append_fields ms no_fields ≡ fields ms
append_fields-end [] = refl
append_fields-end (m ∷ ms) = ap (more_fields m.name m.ty) (append_fields-end ms)

pub fields-step : (named : List ℕ → Option Ty) (made : List rust_field.Field) (d : FieldDef) (l : List ℕ) (t : Ty) (ds : List FieldDef) → l ≡ d.name.text → type_by named d.ann ≡ Some t
    → option_map (append_fields (made ++ (record { name = l; ty = t }) ∷ [])) (fields_by named ds) ≡ option_map (append_fields made) (fields_by named (d ∷ ds))
fields-step named made d l t ds c e = rw (c, e) (go (fields_by named ds))
  where
    go : (rest : Option Fields) → option_map (append_fields (made ++ (record { name = d.name.text; ty = t }) ∷ [])) rest ≡ option_map (append_fields made) (both (more_fields d.name.text) (Some t) rest)
    go None = refl
    go (Some rest) = ap Some (append_fields-push made (record { name = d.name.text; ty = t }) rest)

pub fields-stop : (named : List ℕ → Option Ty) (made : List rust_field.Field) (d : FieldDef) (ds : List FieldDef) → type_by named d.ann ≡ None
    → option_map (append_fields made) (fields_by named (d ∷ ds)) ≡ None
fields-stop named made d ds e = rw e

pub fields-next : (named : List ℕ → Option Ty) (made more : List rust_field.Field) (xs : List FieldDef) (i : ℕ) (d : FieldDef) (l : List ℕ) (t : Ty) (all : Option Fields)
    → more ≡ made ++ (record { name = l; ty = t }) ∷ [] → i < length xs → d ≡ get_or xs i d → l ≡ d.name.text → type_by named d.ann ≡ Some t
    → option_map (append_fields made) (fields_by named (drop i xs)) ≡ all → option_map (append_fields more) (fields_by named (drop (i + 1) xs)) ≡ all
fields-next named made more xs i d l t all m h is c e inv = rw m (fields-step named made d l t (drop (i + 1) xs) c e ∙ (sym (ap (λ l. option_map (append_fields made) (fields_by named l)) (next xs i d h is)) ∙ inv))

pub fields-end : (named : List ℕ → Option Ty) (made : List rust_field.Field) (xs : List FieldDef) (i : ℕ) (all : Option Fields) → length xs ≤ i
    → option_map (append_fields made) (fields_by named (drop i xs)) ≡ all → Some (fields made) ≡ all
fields-end named made xs i all h inv = sym (ap Some (append_fields-end made)) ∙ (sym (ap (λ l. option_map (append_fields made) (fields_by named l)) (drop_all i xs h)) ∙ inv)

pub fields-start : (rest : Option Fields) → option_map (append_fields []) rest ≡ rest
fields-start None = refl
fields-start (Some rest) = refl

pub ruleset fields_turns = (fields-start, fields-next, fields-stop, fields-end)

pub params-next : (named : List ℕ → Option Ty) (made more : List Ty) (xs : List Param) (i : ℕ) (p : Param) (t : Ty) (all : Option Tys)
    → more ≡ made ++ t ∷ [] → i < length xs → p ≡ get_or xs i p → any_by named p.ann ≡ Some t
    → option_map (append made) (params_by named (drop i xs)) ≡ all → option_map (append more) (params_by named (drop (i + 1) xs)) ≡ all
params-next named made more xs i p t all m h is e inv =
    rw m (go (params_by named (drop (i + 1) xs)) ∙ (ap (λ o. option_map (append made) (both more_tys o (params_by named (drop (i + 1) xs)))) (sym e)
    ∙ (sym (ap (λ l. option_map (append made) (params_by named l)) (next xs i p h is)) ∙ inv)))
  where
    go : (rest : Option Tys) → option_map (append (made ++ t ∷ [])) rest ≡ option_map (append made) (both more_tys (Some t) rest)
    go None = refl
    go (Some rest) = ap Some (append-push made t rest)

pub params-stop : (named : List ℕ → Option Ty) (made : List Ty) (p : Param) (ps : List Param) → any_by named p.ann ≡ None
    → option_map (append made) (params_by named (p ∷ ps)) ≡ None
params-stop named made p ps e = rw e

pub params-end : (named : List ℕ → Option Ty) (made : List Ty) (xs : List Param) (i : ℕ) (all : Option Tys) → length xs ≤ i
    → option_map (append made) (params_by named (drop i xs)) ≡ all → Some (tys made) ≡ all
params-end named made xs i all h inv = sym (ap Some (append-end made)) ∙ (sym (ap (λ l. option_map (append made) (params_by named l)) (drop_all i xs h)) ∙ inv)

pub ruleset params_turns = (types-start, params-next, params-stop, params-end)
