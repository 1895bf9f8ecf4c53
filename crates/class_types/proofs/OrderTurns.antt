-- Fields that are put in order one after the other.
use Rattle.std.proofs.Common.{◌≡◌, ◌∙◌, sym, ℕ, suc, ◌+◌, ◌≤◌, Bool, true, false, List, [], ◌∷◌, ◌++◌, length, refl, ap, arith, add-one}
use Rattle.std.specs.Prelude.{if◌then◌else◌}
use Rattle.std.specs.List.{insert}
use Rattle.std.specs.Ordering.{nat_cmp, is_gt}
use Rattle.std.specs.Cmp.Lexicographic.{slice_cmp}
use Rattle.mono_syntax.specs.declared.tree.Field.{Field}
use Rattle.mono_syntax.specs.Ty.{Ty, Fields, no_fields, more_fields}
use Rattle.mono_syntax.specs.TyView.{fields}
use Rattle.script_rules.specs.Writes.{put_field, in_order}
use Rattle.class_types.specs.computed.Order.{place_for, order_onto}

pub place-within : (n : List ℕ) (fs : List Field) → place_for n fs ≤ length fs
place-within n [] = omega arith
place-within n (f ∷ fs) = go (is_gt (slice_cmp nat_cmp n f.name)) (place-within n fs)
  where
    go : (b : Bool) → place_for n fs ≤ length fs → (if b then place_for n fs + 1 else 0) ≤ suc (length fs)
    go true h = omega arith
    go false h = omega arith

put-insert : (n : List ℕ) (t : Ty) (fs : List Field) → fields (insert fs (place_for n fs) (record { name = n; ty = t })) ≡ put_field n t (fields fs)
put-insert n t [] = refl
put-insert n t (f ∷ fs) = go (is_gt (slice_cmp nat_cmp n f.name)) (put-insert n t fs)
  where
    go : (b : Bool) → fields (insert fs (place_for n fs) (record { name = n; ty = t })) ≡ put_field n t (fields fs) → fields (insert (f ∷ fs) (if b then place_for n fs + 1 else 0) (record { name = n; ty = t }))
        ≡ (if b then more_fields f.name f.ty (put_field n t (fields fs)) else more_fields n t (more_fields f.name f.ty (fields fs)))
    go true h = rw add-one (ap (more_fields f.name f.ty) h)
    go false h = refl

pub put-is : (n : List ℕ) (t : Ty) (fs gs : List Field) (x : Field) (at : ℕ) → at ≡ place_for n fs → x ≡ record { name = n; ty = t } → gs ≡ insert fs at x → fields gs ≡ put_field n t (fields fs)
put-is n t fs gs x at a e g = ap fields (g ∙ (ap (λ k. insert fs k x) a ∙ ap (insert fs (place_for n fs)) e)) ∙ put-insert n t fs

onto-end : (fs : List Field) (x : Field) (sorted : Fields) → order_onto (fields (fs ++ x ∷ [])) sorted ≡ order_onto (fields fs) (put_field x.name x.ty sorted)
onto-end [] x sorted = refl
onto-end (f ∷ fs) x sorted = ap (put_field f.name f.ty) (onto-end fs x sorted)

pub onto-step : (all rest : List Field) (x : Field) (sorted now : Fields) (whole : Fields) → all ≡ rest ++ x ∷ [] → now ≡ put_field x.name x.ty sorted
    → order_onto (fields all) sorted ≡ whole → order_onto (fields rest) now ≡ whole
onto-step all rest x sorted now whole a e inv = ap (order_onto (fields rest)) e ∙ (sym (onto-end rest x sorted) ∙ (ap (λ l. order_onto (fields l) sorted) (sym a) ∙ inv))

pub onto-start : (fs : Fields) → order_onto fs no_fields ≡ in_order fs
onto-start no_fields = refl
onto-start (more_fields n t fs) = ap (put_field n t) (onto-start fs)

pub onto-done : (all : List Field) (sorted whole : Fields) → all ≡ [] → order_onto (fields all) sorted ≡ whole → sorted ≡ whole
onto-done all sorted whole e inv = ap (λ l. order_onto (fields l) sorted) (sym e) ∙ inv

pub ruleset place_turns = (place-within)

pub ruleset put_turns = (place-within, put-is)

pub ruleset order_turns = (onto-start, onto-step, onto-done)
