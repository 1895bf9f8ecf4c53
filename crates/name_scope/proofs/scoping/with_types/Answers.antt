use Rattle.std.proofs.Common.{List, ◌∙◌, ap, sym, subst}
use Rattle.mono_syntax.specs.declared.script.Scoped.{Scoped}
use Rattle.mono_syntax.specs.declared.tree.Item.{Item}
use Rattle.mono_syntax.specs.declared.tree.Script.{Script}
use Rattle.mono_syntax.specs.Ty.{Ty}
use Rattle.script_rules.specs.Scoping.{IsScope}
use Rattle.name_scope.proofs.Answers.{scoped_script}
use Rattle.name_scope.proofs.scoping.with_types.Goals as goal

pub returns : goal.returns
returns c =
    let made : List Item → Script = λ l. record { items = l } in
    let over : List Ty → Scoped = λ ts. record { script = c.in_ok-script.script; types = ts; classes = c.in_ok-main.known.classes; functions = c.in_ok-state.state.types; blocks = c.push.new.self } in
    subst (λ (ts : List Ty). IsScope c.args.script.now (over ts)) (sym c.in_ok-types.ensures)
    (scoped_script c.args.script.now c.args.known c.in_ok-main.known c.as_slice-items.result.now c.in_ok-state.state c.in_ok-main.main c.in_ok-script.script c.push.new.self
    c.requires.same (c.as_slice-items.ensures ∙ c.get.ensures) c.in_ok-state.ensures c.in_ok-main.ensures.stand c.in_ok-main.ensures.keeps
    (c.in_ok-script.ensures ∙ ap made c.in_ok-items.ensures) c.in_ok-push.ensures.ok)
