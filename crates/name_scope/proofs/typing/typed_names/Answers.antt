use Rattle.std.proofs.Common.{List, [], take, sym, ap, subst}
use Rattle.std.specs.Prelude.{map}
use Rattle.mono_syntax.specs.declared.script.TypedName.{TypedName}
use Rattle.mono_syntax.specs.declared.tree.Script.{Script}
use Rattle.mono_syntax.specs.Ty.{Ty}
use Rattle.script_rules.specs.BlockNames.{Target}
use Rattle.script_rules.specs.Scoping.{class_list, NamesStand}
use Rattle.script_rules.specs.Writes.{WritesAny}
use Rattle.name_scope.specs.declared.roles.Roles.{Roles}
use Rattle.name_scope.specs.computed.Bound.{target_of}
use Rattle.name_scope.specs.computed.Typing.{EachWrites, NamesTyped}
use Rattle.name_scope.proofs.Growth.{extends_refl}
use Rattle.name_scope.proofs.TypedNameLaws.{targets_at, targets_done}
use Rattle.name_scope.proofs.typing.typed_names.Goals as goal

pub loop-t-init : goal.loop-t-init
loop-t-init c = record {
  done = record { stand = subst (λ (ks : List TypedName). NamesStand (class_list c.args.known.script) c.args.known.types [] ks) (sym c.new-names.ensures) tt; seen = λ x. ap (λ (r : Roles). r.name) (c.new-seen.ensures x); keeps = extends_refl c.args.known c.requires.holds };
  left = c.requires.writes;
}

pub with_target-requires-clause-holds : goal.with_target-requires-clause-holds
with_target-requires-clause-holds c = c.loop-t.invariant.done.keeps.holds

pub with_target-requires-clause-writes : goal.with_target-requires-clause-writes
with_target-requires-clause-writes c =
    let at = targets_at c.args.targets.now c.loop-t.t-index c.t-item.result c.loop-t-test.true c.t-item.is in
    let w = subst (EachWrites (class_list c.args.known.script)) at c.loop-t.invariant.left in
    subst (λ (s : Script). (x : Ty) × WritesAny (class_list s) (target_of c.t-item.result).ann x) (sym c.loop-t.invariant.done.keeps.script) w.0

pub loop-t-preserved : goal.loop-t-preserved
loop-t-preserved c =
    let at = targets_at c.args.targets.now c.loop-t.t-index c.t-item.result c.loop-t-test.true c.t-item.is in
    let done = targets_done c.args.targets.now c.loop-t.t-index c.t-item.result c.loop-t-test.true c.t-item.is in
    record {
      done = subst (λ (l : List Target). NamesTyped c.args.known l c.in_ok-state.state) done (c.in_ok-state.ensures c.args.known (map target_of (take c.loop-t.t-index c.args.targets.now)) c.loop-t.invariant.done);
      left = (subst (EachWrites (class_list c.args.known.script)) at c.loop-t.invariant.left).1;
    }
