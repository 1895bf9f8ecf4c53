-- The classes, functions and statements of a script, each in source order.
use Rattle.std.specs.Prelude.{ℕ, List, [], ◌∷◌, Option, Some, None, bytes_eq, if◌then◌else◌}
use Rattle.mono_syntax.specs.declared.tree.ClassDef.{ClassDef}
use Rattle.mono_syntax.specs.declared.tree.FuncDef.{FuncDef}
use Rattle.mono_syntax.specs.declared.tree.Item.{Item}
use Rattle.mono_syntax.specs.declared.tree.Item.TheVariants as item
use Rattle.mono_syntax.specs.Stmt.{Stmt}

abbrev pub classes_of : List Item → List ClassDef
classes_of [] = []
classes_of (item.Class d ∷ is) = d ∷ classes_of is
classes_of (i ∷ is) = classes_of is

abbrev pub functions_of : List Item → List FuncDef
functions_of [] = []
functions_of (item.Def d ∷ is) = d ∷ functions_of is
functions_of (i ∷ is) = functions_of is

-- the statements of the main block
abbrev pub statements_of : List Item → List Stmt
statements_of [] = []
statements_of (item.Stmt s ∷ is) = s ∷ statements_of is
statements_of (i ∷ is) = statements_of is

-- the class of a name; of several the first counts
abbrev pub class_named : List ClassDef → List ℕ → Option ClassDef
class_named [] x = None
class_named (d ∷ ds) x = if bytes_eq d.name.text x then Some d else class_named ds x

-- the function of a name; of several the first counts
abbrev pub function_named : List FuncDef → List ℕ → Option FuncDef
function_named [] x = None
function_named (d ∷ ds) x = if bytes_eq d.name.text x then Some d else function_named ds x
