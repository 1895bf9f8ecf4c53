use Rattle.std.proofs.Common.{◌≡◌, [], List, IfOk, refl, ◌∙◌, subst}
use Rattle.mono_syntax.specs.declared.cast.NamedType.{NamedType}
use Rattle.known_names.specs.computed.Gathered.{class_types, known_with}
use Rattle.known_names.proofs.gather.script_names.Goals as goal

pub returns : goal.returns
returns c =
    let d = c.args.scoped.now in
    let read : class_types c.as_slice.result.now c.as_slice-places.result.now [] c.as_slice-items.result.now ≡ class_types d.types d.classes [] d.script.items =
    rw (c.as_slice.ensures, c.as_slice-places.ensures, c.as_slice-items.ensures, c.get-2.ensures, c.get.ensures) refl in
    subst (λ (z : List NamedType). IfOk c.known_with.result (λ k. k ≡ known_with d z)) (c.in_ok-annotations.ensures ∙ read) c.known_with.ensures
