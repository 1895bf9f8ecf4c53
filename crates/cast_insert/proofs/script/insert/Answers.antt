use Rattle.std.proofs.Common.{sym, ◌∙◌, subst}
use Rattle.mono_syntax.specs.declared.script.Scoped.{Scoped}
use Rattle.known_names.specs.IsKnown.{IsKnownScript}
use Rattle.cast_insert.proofs.ScriptLaws.{found_casts, found_some}
use Rattle.cast_insert.proofs.script.insert.Goals as goal

pub unreachable-requires : goal.unreachable-requires
unreachable-requires c =
    let known = subst (λ (z : Scoped). IsKnownScript z.script c.in_ok-known.known) c.get.ensures c.in_ok-known.ensures in
    found_some c.args.typed.now.scoped c.in_ok-known.known known c.requires.typed.all c.requires.typed.types (sym c.in-None.is ∙ c.in_ok-script.ensures)

pub returns : goal.returns
returns c =
    let known = subst (λ (z : Scoped). IsKnownScript z.script c.in_ok-known.known) c.get.ensures c.in_ok-known.ensures in
    record { casts = found_casts c.args.typed.now.scoped c.in_ok-known.known known c.requires.typed.all c.in-Some.script c.requires.typed.types (sym c.in-Some.is ∙ c.in_ok-script.ensures) }
