-- Field names that are text, so that types can be written.
use Rattle.std.specs.Prelude.{List, [], ◌∷◌}
use Rattle.std.specs.Str.{IsUtf8}
use Rattle.mono_syntax.specs.declared.tree.ClassDef.{ClassDef}
use Rattle.mono_syntax.specs.declared.tree.FieldDef.{FieldDef}

abbrev pub AreTextFields : List FieldDef → Type 0
AreTextFields [] = Unit {0}
AreTextFields (f ∷ fs) = IsUtf8 f.name.text × AreTextFields fs

-- so it is in each class
abbrev pub HaveTextFields : List ClassDef → Type 0
HaveTextFields [] = Unit {0}
HaveTextFields (d ∷ ds) = AreTextFields d.fields × HaveTextFields ds
