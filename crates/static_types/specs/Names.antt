-- What may be named in a block, which is the main block or a function's body.
use Rattle.std.specs.Prelude.{◌≡◌, ℕ, List, [], ◌∷◌, ◌++◌, Option, Some, None}
use Rattle.mono_syntax.specs.declared.cast.NamedType.{NamedType}
use Rattle.mono_syntax.specs.declared.tree.ClassDef.{ClassDef}
use Rattle.mono_syntax.specs.declared.tree.FuncDef.{FuncDef}
use Rattle.mono_syntax.specs.Ty.{Ty}
use Rattle.mono_tree.specs.TypedPrograms.{type_of_name}
use Rattle.script_rules.specs.Definitions.{function_named}
use Rattle.script_rules.specs.Writes.{IsFunctionType}

-- The script's classes and functions in source order; the parameters and assigned names of the block with their types; the
-- names that it has started so far, with the types of what their threads give; and the declared result of its function,
-- which the main block hasn't.
pub record Names : Type 0 where
  pub classes : List ClassDef
  pub functions : List FuncDef
  pub values : List NamedType
  pub threads : List NamedType
  pub result : Option Ty

-- one more started name
abbrev pub with_thread : Names → List ℕ → Ty → Names
with_thread ns x t = record { classes = ns.classes; functions = ns.functions; values = ns.values; threads = ns.threads ++ record { name = x; ty = t } ∷ []; result = ns.result }

-- a function's name has its declared type
abbrev pub IsFunctionNamed : List ClassDef → Option FuncDef → Ty → Type 0
IsFunctionNamed cs None t = ⊥
IsFunctionNamed cs (Some d) t = IsFunctionType cs d t

abbrev pub IsNamed : Names → Option Ty → List ℕ → Ty → Type 0
IsNamed ns (Some s) x t = t ≡ s
IsNamed ns None x t = IsFunctionNamed ns.classes (function_named ns.functions x) t

-- a name that is read is one of the block, or a function
abbrev pub NameType : Names → List ℕ → Ty → Type 0
NameType ns x t = IsNamed ns (type_of_name ns.values x) x t
