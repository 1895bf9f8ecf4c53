-- The class whose name is called.
use Rattle.std.specs.Prelude.{List, Option}
use Rattle.mono_syntax.specs.declared.tree.ClassDef.{ClassDef}
use Rattle.mono_syntax.specs.declared.tree.FuncDef.{FuncDef}
use Rattle.mono_syntax.specs.Expr.{Expr}
use Rattle.static_types.specs.Parts.{class_called}
use Rattle.known_names.specs.declared.known.Known.{Known}
use Rattle.known_names.specs.declared.known.KnownClass.{KnownClass}
use Rattle.known_names.specs.IsKnown.{IsKnown, IsSameClass}

-- k is the class that a call of f makes an object of, where ks is known, and nothing where there is none
abbrev pub IsClassCalled : Known → Expr → Option KnownClass → Type 0
IsClassCalled ks f k = (cs : List ClassDef) (fs : List FuncDef) → IsKnown cs fs ks → IsSameClass cs (class_called cs f) k
