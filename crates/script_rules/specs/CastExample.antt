-- A small script and what it is with its casts, on which the definitions are tried:
--     x: int = 1
--     y: Dyn = cast(Dyn, x)
--     print(y)
use Rattle.std.specs.Prelude.{ℕ, List, [], ◌∷◌, Some, codes}
use Rattle.mono_syntax.specs.declared.cast.CastScript.{CastScript}
use Rattle.mono_syntax.specs.declared.leaf.Kind.TheVariants as kind
use Rattle.mono_syntax.specs.declared.leaf.Place.{Place}
use Rattle.mono_syntax.specs.declared.leaf.TyAt.{TyAt}
use Rattle.mono_syntax.specs.declared.leaf.Word.{Word}
use Rattle.mono_syntax.specs.declared.script.Scoped.{Scoped}
use Rattle.mono_syntax.specs.declared.tree.Item.TheVariants as item
use Rattle.mono_syntax.specs.declared.tree.Script.{Script}
use Rattle.mono_syntax.specs.Ann as form
use Rattle.mono_syntax.specs.CastExpr as cast
use Rattle.mono_syntax.specs.CastStmt as cast_stmt
use Rattle.mono_syntax.specs.CastStmt.{CastStmt}
use Rattle.mono_syntax.specs.Expr as expr
use Rattle.mono_syntax.specs.Stmt as stmt
use Rattle.mono_syntax.specs.Ty.{dyn, int}

abbrev pub spot : ℕ → ℕ → Place
spot l c = record { line = l; column = c }

abbrev pub word : List ℕ → ℕ → ℕ → Word
word x l c = record { text = x; place = spot l c }

abbrev pub source : Script
source = record {
  items =
      item.Stmt (stmt.assign (word (codes "x") 1 1) (Some (form.ann (spot 1 4) form.int)) (expr.number (spot 1 10) 1))
      ∷ item.Stmt (stmt.assign (word (codes "y") 2 1) (Some (form.ann (spot 2 4) form.dyn)) (expr.cast (spot 2 10) (form.ann (spot 2 15) form.dyn) (expr.local (word (codes "x") 2 20))))
      ∷ item.Stmt (stmt.print (spot 3 6) (expr.more_exprs (expr.local (word (codes "y") 3 7)) expr.no_exprs))
      ∷ [];
}

abbrev pub scoped : Scoped
scoped = record { script = source; types = dyn ∷ int ∷ []; classes = []; functions = []; blocks = [] }

abbrev pub at_type : ℕ → TyAt
at_type n = record { 0 = n }

abbrev pub lines : List CastStmt
lines =
    cast_stmt.assign (codes "x") (cast.number 1)
    ∷ cast_stmt.assign (codes "y") (cast.fit 1 (cast.local 0 (codes "x")))
    ∷ cast_stmt.print (cast.more_exprs (cast.local 2 (codes "y")) cast.no_exprs)
    ∷ []

-- the script with these lines in its main block, a Name site at each name that is read, and the site of the cast
abbrev pub with_lines : List CastStmt → CastScript
with_lines ls = record {
  scoped = scoped;
  types = dyn ∷ int ∷ [];
  classes = [];
  functions = [];
  main = record { names = record { name = codes "x"; ty = int } ∷ record { name = codes "y"; ty = dyn } ∷ []; threads = []; body = ls };
  sites =
      record { place = spot 2 20; kind = kind.Name; source = at_type 0; target = at_type 0 }
      ∷ record { place = spot 2 20; kind = kind.Cast; source = at_type 1; target = at_type 0 }
      ∷ record { place = spot 3 7; kind = kind.Name; source = at_type 0; target = at_type 0 }
      ∷ [];
}
