-- Steps of the walk through expressions and statements.
use Rattle.std.proofs.Common.{◌≡◌, refl, List, [], ◌∷◌, length, arith}
use Rattle.mono_syntax.specs.Expr.{Expr}
use Rattle.mono_syntax.specs.ExprView.{exprs}
use Rattle.script_rules.specs.SourceParts.{count_of_exprs}
use Rattle.class_types.proofs.FoundLaws.{found-append}

pub count-exprs : (l : List Expr) → count_of_exprs (exprs l) ≡ length l
count-exprs [] = refl
count-exprs (e ∷ l) = omega (arith, count-exprs l)

pub ruleset walk_steps = (found-append, count-exprs)
