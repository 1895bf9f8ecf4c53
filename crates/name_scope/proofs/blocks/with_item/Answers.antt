use Rattle.std.proofs.Common.{List, [], ◌∷◌, ◌++◌, IfOk, sym, subst}
use Rattle.mono_syntax.specs.declared.tree.FuncDef.{FuncDef}
use Rattle.mono_syntax.specs.declared.tree.Item.{Item}
use Rattle.script_rules.specs.Definitions.{functions_of}
use Rattle.class_types.specs.declared.table.ClassTypes.{ClassTypes}
use Rattle.name_scope.specs.computed.Typing.{FunctionsTyped}
use Rattle.name_scope.proofs.blocks.with_item.Goals as goal

pub returns-in-Def : goal.returns-in-Def
returns-in-Def c =
    subst (λ (i : Item). IfOk c.with_function.result (λ r. (first : ClassTypes) (ds : List FuncDef) → FunctionsTyped first ds c.args.state → FunctionsTyped first (ds ++ functions_of (i ∷ [])) r))
    (sym c.in-Def.is) c.with_function.ensures
