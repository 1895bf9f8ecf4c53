-- The texts of printed values and lines.
use Rattle.std.specs.Prelude.{ℕ, zero, suc, Bool, true, false, List, [], ◌∷◌, ◌++◌, flat_map, codes}
use Rattle.std.specs.Fmt.{signed_decimal}
use Rattle.mono_syntax.specs.declared.tree.Item.{Item}
use Rattle.mono_syntax.specs.declared.tree.Item.TheVariants as item
use Rattle.mono_syntax.specs.declared.value.Val.{Val}
use Rattle.mono_syntax.specs.declared.value.Val.TheVariants as val

-- the name of a class by its number; classes are numbered in source order, from 0
abbrev pub class_name : List Item → ℕ → List ℕ
class_name [] n = []
class_name (item.Class d ∷ items) zero = d.name.text
class_name (item.Class d ∷ items) (suc n) = class_name items n
class_name (i ∷ items) n = class_name items n

-- the name of a function by its number; functions are numbered in source order, from 0
abbrev pub function_name : List Item → ℕ → List ℕ
function_name [] n = []
function_name (item.Def d ∷ items) zero = d.name.text
function_name (item.Def d ∷ items) (suc n) = function_name items n
function_name (i ∷ items) n = function_name items n

abbrev pub truth_text : Bool → List ℕ
truth_text true = codes "True"
truth_text false = codes "False"

-- an integer in decimal, `True`, `False`, `None`, a text as it is, `<P>` for an object of class P, `<function f>`
abbrev pub value_text : List Item → Val → List ℕ
value_text items (val.Int z) = signed_decimal z
value_text items (val.Bool b) = truth_text b
value_text items val.Nil = codes "None"
value_text items (val.Text t) = t
value_text items (val.Obj c a) = codes "<" ++ class_name items c ++ codes ">"
value_text items (val.Fun f t) = codes "<function " ++ function_name items f ++ codes ">"

-- the values of a line with a space between two of them, and a line feed behind the last
abbrev pub line_text : List Item → List Val → List ℕ
line_text items [] = 10 ∷ []
line_text items (v ∷ []) = value_text items v ++ 10 ∷ []
line_text items (v ∷ w ∷ vs) = value_text items v ++ (32 ∷ line_text items (w ∷ vs))

-- the printed lines in order
abbrev pub rendered : List Item → List (List Val) → List ℕ
rendered items lines = flat_map (line_text items) lines
