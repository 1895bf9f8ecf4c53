-- Each part has fewer nodes than the whole.
use Rattle.std.specs.Prelude.{◌+◌, ◌≤◌, max, List, [], ◌∷◌}
use Rattle.std.proofs.Common.{arith}
use denote.Param.Weighed.{most}
use Rattle.mono_syntax.specs.declared.tree.AnnForm as rust_form
use Rattle.mono_syntax.specs.declared.tree.AnnForm.TheVariants as form_kind
use Rattle.mono_syntax.specs.declared.leaf.Place.{Place}
use Rattle.mono_syntax.specs.declared.tree.Ann.TheDeep.{deep-AnnForm}
use Rattle.mono_syntax.specs.Ann.{Ann, ann_size, anns_size}
use Rattle.mono_syntax.specs.AnnView.{ann_of, anns}

most_le-anns_size : (xs : List Ann) → most (λ t. ann_size t + 1) xs ≤ anns_size (anns xs) + 1
most_le-anns_size [] = omega arith
most_le-anns_size (x ∷ xs) = omega (arith, most_le-anns_size xs)

pub deep_le-form : (p : Place) (k : rust_form.AnnForm) → max (deep-AnnForm k) 0 ≤ ann_size (ann_of p k)
deep_le-form p form_kind.Dyn = omega arith
deep_le-form p form_kind.Int = omega arith
deep_le-form p form_kind.Bool = omega arith
deep_le-form p form_kind.Str = omega arith
deep_le-form p form_kind.Nil = omega arith
deep_le-form p (form_kind.Class a) = omega arith
deep_le-form p (form_kind.Fun a b) = omega (arith, most_le-anns_size a)
