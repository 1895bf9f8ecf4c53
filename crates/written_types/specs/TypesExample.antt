-- A small script and the types that it writes:
--     class P:
--         x: int
--     def f(a: P) -> int:
--         b: Callable[[int], P] = cast(Callable[[int], P], a)
--         return 1
--     c: P = P(1)
use Rattle.std.specs.Prelude.{ℕ, ◌+◌, List, [], ◌∷◌, Some, codes}
use Rattle.mono_syntax.specs.declared.leaf.Place.{Place}
use Rattle.mono_syntax.specs.declared.leaf.Word.{Word}
use Rattle.mono_syntax.specs.declared.tree.Item.{Item}
use Rattle.mono_syntax.specs.declared.tree.Item.TheVariants as item
use Rattle.mono_syntax.specs.declared.tree.Script.{Script}
use Rattle.mono_syntax.specs.Ann.{Ann, ann, no_anns, more_anns}
use Rattle.mono_syntax.specs.Ann as form
use Rattle.mono_syntax.specs.Expr.{Expr, local, number, call, cast, no_exprs, more_exprs}
use Rattle.mono_syntax.specs.Stmt.{give, assign}
use Rattle.mono_syntax.specs.Ty.{Ty, int, fun, obj, no_tys, more_tys, no_fields, more_fields}

abbrev spot : ℕ → ℕ → Place
spot l c = record { line = l; column = c }

abbrev word : List ℕ → ℕ → ℕ → Word
word x l c = record { text = x; place = spot l c }

abbrev int_at : ℕ → ℕ → Ann
int_at l c = ann (spot l c) form.int

abbrev pub p_at : ℕ → ℕ → Ann
p_at l c = ann (spot l c) (form.class (word (codes "P") l c))

-- Callable[[int], P]
abbrev pub callable_at : ℕ → ℕ → Ann
callable_at l c = ann (spot l c) (form.fun (more_anns (int_at l (c + 10)) no_anns) (p_at l (c + 16)))

abbrev class_p : Item
class_p = item.Class (record {
  name = word (codes "P") 1 7;
  fields = record { name = word (codes "x") 2 5; ann = int_at 2 8 } ∷ [];
})

abbrev def_f : Item
def_f = item.Def (record {
  name = word (codes "f") 3 5;
  params = record { name = word (codes "a") 3 7; ann = Some (p_at 3 10) } ∷ [];
  result = Some (int_at 3 16);
  body =
      assign (word (codes "b") 4 5) (Some (callable_at 4 8)) (cast (spot 4 29) (callable_at 4 34) (local (word (codes "a") 4 54)))
      ∷ give (spot 5 5) (Some (number (spot 5 12) 1))
      ∷ [];
})

-- P(1)
abbrev new_p : Expr
new_p = call (spot 6 9) (local (word (codes "P") 6 8)) (more_exprs (number (spot 6 10) 1) no_exprs)

abbrev line_c : Item
line_c = item.Stmt (assign (word (codes "c") 6 1) (Some (p_at 6 4)) new_p)

abbrev pub source : Script
source = record { items = class_p ∷ def_f ∷ line_c ∷ [] }

-- {x: int}
abbrev pub object : Ty
object = obj (more_fields (codes "x") int no_fields)

-- {x: int}, Callable[[{x: int}], int], Callable[[int], {x: int}], Callable[[int], {x: int}], {x: int}
abbrev pub types : List Ty
types =
    object
    ∷ fun (more_tys object no_tys) int
    ∷ fun (more_tys int no_tys) object
    ∷ fun (more_tys int no_tys) object
    ∷ object
    ∷ []
