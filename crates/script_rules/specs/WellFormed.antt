-- Classes and annotations that write types of the language.
use Rattle.std.specs.Prelude.{ℕ, ◌≤◌, List, [], ◌∷◌, map, Contains}
use Rattle.mono_syntax.specs.Limits.{most_parameters}
use Rattle.mono_syntax.specs.declared.tree.ClassDef.{ClassDef}
use Rattle.mono_syntax.specs.declared.tree.FieldDef.{FieldDef}
use Rattle.mono_syntax.specs.Ann.{Ann}
use Rattle.script_rules.specs.SourceParts.{Counted, callables}

-- each name stands once
abbrev pub AreApart : List (List ℕ) → Type 0
AreApart [] = Unit {0}
AreApart (n ∷ ns) = (Contains ns n → ⊥) × AreApart ns

-- no Callable in the annotation has too many parameters
abbrev pub IsNarrow : Ann → Type 0
IsNarrow a = (c : Counted) → Contains (callables a) c → c.count ≤ most_parameters

-- no class has a field twice, or a field with a Callable of over eight parameters
pub record AreWellFormed (cs : List ClassDef) : Type 0 where
  pub apart : (d : ClassDef) → Contains cs d → AreApart (map (λ f. f.name.text) d.fields)
  pub narrow : (d : ClassDef) (f : FieldDef) → Contains cs d → Contains d.fields f → IsNarrow f.ann
