-- Loops that make a meet: what is made so far, before the meet of what is left.
use Rattle.std.proofs.Common.{◌≡◌, ℕ, suc, List, [], ◌∷◌, ◌++◌, length, refl, ap, arith, Bool, true, false}
use Rattle.std.specs.Prelude.{bytes_eq, if◌then◌else◌, Option, Some, None}
use Rattle.std.specs.Option.{option_map}
use Rattle.mono_syntax.specs.declared.tree.Field as rust_field
use Rattle.mono_syntax.specs.Ty.{Ty, Tys, no_tys, more_tys, Fields, no_fields, more_fields}
use Rattle.mono_syntax.specs.TyView.{tys, fields}
use Rattle.mono_tree.specs.Meet.{both, meet_of, meet_all, meet_fields}
use Rattle.mono_tree.proofs.MeetMade.{named, unnamed}

abbrev pub append : List Ty → Tys → Tys
append [] rest = rest
append (m ∷ ms) rest = more_tys m (append ms rest)

append-push : (ms : List Ty) (m : Ty) (rest : Tys) → append (ms ++ m ∷ []) rest ≡ append ms (more_tys m rest)
append-push [] m rest = refl
append-push (k ∷ ms) m rest = ap (more_tys k) (append-push ms m rest)

pub append-end : (ms : List Ty) → append ms no_tys ≡ tys ms
append-end [] = refl
append-end (m ∷ ms) = ap (more_tys m) (append-end ms)

pub meet_all-step : (made : List Ty) (t u m : Ty) (ts us : Tys) → meet_of t u ≡ Some m
    → option_map (append (made ++ m ∷ [])) (meet_all ts us) ≡ option_map (append made) (meet_all (more_tys t ts) (more_tys u us))
meet_all-step made t u m ts us e = rw e (go (meet_all ts us))
  where
    go : (rest : Option Tys) → option_map (append (made ++ m ∷ [])) rest ≡ option_map (append made) (both more_tys (Some m) rest)
    go None = refl
    go (Some rest) = ap Some (append-push made m rest)

pub meet_all-stop : (made : List Ty) (t u : Ty) (ts us : Tys) → meet_of t u ≡ None → option_map (append made) (meet_all (more_tys t ts) (more_tys u us)) ≡ None
meet_all-stop made t u ts us e = rw e

pub meet_all-uneven : (ts us : List Ty) → (length ts ≡ length us → ⊥) → meet_all (tys ts) (tys us) ≡ None
meet_all-uneven [] [] h = absurd (h refl)
meet_all-uneven [] (u ∷ us) h = refl
meet_all-uneven (t ∷ ts) [] h = refl
meet_all-uneven (t ∷ ts) (u ∷ us) h = rw (meet_all-uneven ts us (λ e. h (ap suc e))) (go (meet_of t u))
  where
    go : (m : Option Ty) → both more_tys m None ≡ None
    go None = refl
    go (Some m) = refl

pub meet_all-none : (made ts us : List Ty) → length ts ≡ 0 → length us ≡ 0 → option_map (append made) (meet_all (tys ts) (tys us)) ≡ Some (tys made)
meet_all-none made [] [] h k = ap Some (append-end made)
meet_all-none made [] (u ∷ us) h k = absurd (omega arith)
meet_all-none made (t ∷ ts) us h k = absurd (omega arith)

pub append-none : (rest : Option Tys) → option_map (append []) rest ≡ rest
append-none None = refl
append-none (Some rest) = refl

pub ruleset all_turns = (append-none, meet_all-step, meet_all-stop, meet_all-uneven, meet_all-none)

abbrev pub append_fields : List rust_field.Field → Fields → Fields
append_fields [] rest = rest
append_fields (m ∷ ms) rest = more_fields m.name m.ty (append_fields ms rest)

append_fields-push : (ms : List rust_field.Field) (m : rust_field.Field) (rest : Fields) → append_fields (ms ++ m ∷ []) rest ≡ append_fields ms (more_fields m.name m.ty rest)
append_fields-push [] m rest = refl
append_fields-push (k ∷ ms) m rest = ap (more_fields k.name k.ty) (append_fields-push ms m rest)

pub append_fields-end : (ms : List rust_field.Field) → append_fields ms no_fields ≡ fields ms
append_fields-end [] = refl
append_fields-end (m ∷ ms) = ap (more_fields m.name m.ty) (append_fields-end ms)

pub meet_fields-step : (made : List rust_field.Field) (l n k : List ℕ) (t u m : Ty) (fs gs : Fields) → l ≡ n → n ≡ k → meet_of t u ≡ Some m
    → option_map (append_fields (made ++ (record { name = l; ty = m }) ∷ [])) (meet_fields fs gs) ≡ option_map (append_fields made) (meet_fields (more_fields n t fs) (more_fields k u gs))
meet_fields-step made l n k t u m fs gs c d e = rw (c, named n k d, e) (go (meet_fields fs gs))
  where
    go : (rest : Option Fields) → option_map (append_fields (made ++ (record { name = n; ty = m }) ∷ [])) rest ≡ option_map (append_fields made) (both (more_fields n) (Some m) rest)
    go None = refl
    go (Some rest) = ap Some (append_fields-push made (record { name = n; ty = m }) rest)

pub meet_fields-stop : (made : List rust_field.Field) (n k : List ℕ) (t u : Ty) (fs gs : Fields) → n ≡ k → meet_of t u ≡ None → option_map (append_fields made) (meet_fields (more_fields n t fs) (more_fields k u gs)) ≡ None
meet_fields-stop made n k t u fs gs d e = rw (named n k d, e)

pub meet_fields-unnamed : (made : List rust_field.Field) (n k : List ℕ) (t u : Ty) (fs gs : Fields) → (n ≡ k → ⊥) → option_map (append_fields made) (meet_fields (more_fields n t fs) (more_fields k u gs)) ≡ None
meet_fields-unnamed made n k t u fs gs d = rw (unnamed n k d)

pub meet_fields-uneven : (fs gs : List rust_field.Field) → (length fs ≡ length gs → ⊥) → meet_fields (fields fs) (fields gs) ≡ None
meet_fields-uneven [] [] h = absurd (h refl)
meet_fields-uneven [] (g ∷ gs) h = refl
meet_fields-uneven (f ∷ fs) [] h = refl
meet_fields-uneven (f ∷ fs) (g ∷ gs) h = rw (meet_fields-uneven fs gs (λ e. h (ap suc e))) (go (bytes_eq f.name g.name) (meet_of f.ty g.ty))
  where
    go : (b : Bool) (m : Option Ty) → (if b then both (more_fields f.name) m None else None) ≡ None
    go true None = refl
    go true (Some m) = refl
    go false m = refl

pub meet_fields-none : (made fs gs : List rust_field.Field) → length fs ≡ 0 → length gs ≡ 0 → option_map (append_fields made) (meet_fields (fields fs) (fields gs)) ≡ Some (fields made)
meet_fields-none made [] [] h k = ap Some (append_fields-end made)
meet_fields-none made [] (g ∷ gs) h k = absurd (omega arith)
meet_fields-none made (f ∷ fs) gs h k = absurd (omega arith)

pub append_fields-none : (rest : Option Fields) → option_map (append_fields []) rest ≡ rest
append_fields-none None = refl
append_fields-none (Some rest) = refl

pub ruleset fields_turns = (append_fields-none, meet_fields-step, meet_fields-stop, meet_fields-unnamed, meet_fields-uneven, meet_fields-none)
