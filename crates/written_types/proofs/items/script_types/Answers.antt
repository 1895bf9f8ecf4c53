use Rattle.std.proofs.Common.{◌≡◌, ◌∙◌, List, ap, subst, sym}
use Rattle.mono_syntax.specs.declared.script.Scoped.{Scoped}
use Rattle.mono_syntax.specs.declared.tree.Item.{Item}
use Rattle.mono_syntax.specs.declared.tree.Script.{Script}
use Rattle.mono_syntax.specs.Ty.{Ty}
use Rattle.written_types.specs.declared.items.Collected.{Collected}
use Rattle.known_names.specs.IsKnown.{IsKnownScript}
use Rattle.written_types.specs.ScriptTypes.{AreScriptTypes}
use Rattle.written_types.specs.computed.WrittenItems.{items_onto, nothing}
use Rattle.written_types.proofs.WrittenLaws.{script_collected}
use Rattle.written_types.proofs.items.script_types.Goals as goal

pub returns : goal.returns
returns c =
    let s = c.args.script.now.scoped.script in
    let known = subst (λ (z : Scoped). IsKnownScript z.script c.in_ok-known.known) c.get-scoped.ensures c.in_ok-known.ensures in
    let ks = c.in_ok-known.known.names in
    let script = ap (λ (z : Script). z.items) c.get.ensures ∙ ap (λ (z : Scoped). z.script.items) c.get-scoped.ensures in
    let read : c.as_slice-items.result.now ≡ s.items = c.as_slice-items.ensures ∙ (c.get-2.ensures ∙ script) in
    let done = ap (λ (l : List Item). items_onto ks nothing l) (sym read) ∙ sym c.in_ok-done.ensures in
    subst (λ (l : List Ty). AreScriptTypes s l) (ap (λ (d : Collected). d.types) done) (script_collected s ks known.names c.requires.names)
