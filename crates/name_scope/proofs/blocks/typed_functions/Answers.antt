use Rattle.std.proofs.Common.{List, [], ◌∷◌, take, refl, sym, subst}
use Rattle.mono_syntax.specs.declared.leaf.TyAt.{TyAt}
use Rattle.mono_syntax.specs.declared.script.BlockNames.{BlockNames}
use Rattle.class_types.proofs.PlaceLaws.{begins-refl}
use Rattle.mono_syntax.specs.declared.tree.FuncDef.{FuncDef}
use Rattle.mono_syntax.specs.declared.tree.Script.{Script}
use Rattle.script_rules.specs.Definitions.{functions_of}
use Rattle.script_rules.specs.Scoping.{class_list, FunctionsStand}
use Rattle.name_scope.specs.computed.Typing.{AreTypable, FunctionBlocksStand, FunctionsTyped}
use Rattle.name_scope.proofs.TypedFunctionLaws.{functions_done, functions_left}
use Rattle.name_scope.proofs.blocks.typed_functions.Goals as goal

pub with_item-requires-clause-holds : goal.with_item-requires-clause-holds
with_item-requires-clause-holds c = c.loop-item.invariant.done.keeps.holds

pub with_item-requires-clause-typable : goal.with_item-requires-clause-typable
with_item-requires-clause-typable c =
    let left = functions_left (class_list c.args.known.script) c.args.items.now c.loop-item.item-index c.item-item.result c.loop-item-test.true c.item-item.is c.loop-item.invariant.left in
    subst (λ (s : Script). AreTypable (class_list s) (functions_of (c.item-item.result ∷ []))) (sym c.loop-item.invariant.done.keeps.script) left.0

pub loop-item-preserved : goal.loop-item-preserved
loop-item-preserved c =
    let left = functions_left (class_list c.args.known.script) c.args.items.now c.loop-item.item-index c.item-item.result c.loop-item-test.true c.item-item.is c.loop-item.invariant.left in
    record {
      done = subst (λ (l : List FuncDef). FunctionsTyped c.args.known l c.in_ok-state.state)
          (functions_done c.args.items.now c.loop-item.item-index c.item-item.result c.loop-item-test.true c.item-item.is)
          (c.in_ok-state.ensures c.args.known (functions_of (take c.loop-item.item-index c.args.items.now)) c.loop-item.invariant.done);
      left = left.1;
    }

pub loop-item-init : goal.loop-item-init
loop-item-init c =
    let known = c.args.known in
    record {
      done = record {
        functions = subst (λ (l : List TyAt). FunctionsStand (class_list known.script) known.types [] l) (sym c.new.ensures) tt;
        names = subst (λ (l : List BlockNames). FunctionBlocksStand (class_list known.script) known.types [] l) (sym c.new-2.ensures) tt;
        keeps = record { holds = c.requires.holds; script = refl; classes = refl; types = begins-refl known.types };
      };
      left = c.requires.typable;
    }
