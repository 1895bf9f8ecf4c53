-- What a contract sees, from the variant, whose parts are seen so already.
use Rattle.std.specs.Prelude.{List, [], ◌∷◌}
use Rattle.mono_syntax.specs.declared.tree.AnnForm as rust_form
use Rattle.mono_syntax.specs.declared.tree.AnnForm.TheVariants as form_kind
use Rattle.mono_syntax.specs.declared.leaf.Place.{Place}
use Rattle.mono_syntax.specs.Ann.{Ann, Anns, Form, ann, bool, class, dyn, fun, int, more_anns, nil, no_anns, str}

abbrev pub anns : List Ann → Anns
anns [] = no_anns
anns (x ∷ xs) = more_anns x (anns xs)

abbrev pub anns_list : Anns → List Ann
anns_list no_anns = []
anns_list (more_anns x xs) = x ∷ anns_list xs

abbrev pub form_of : rust_form.AnnForm → Form
form_of form_kind.Dyn = dyn
form_of form_kind.Int = int
form_of form_kind.Bool = bool
form_of form_kind.Str = str
form_of form_kind.Nil = nil
form_of (form_kind.Class a) = class a
form_of (form_kind.Fun a b) = fun (anns a) b

abbrev pub ann_of : Place → rust_form.AnnForm → Ann
ann_of a b = ann a (form_of b)
