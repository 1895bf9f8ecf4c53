use Rattle.std.proofs.Common.{◌≡◌, List, sym, subst}
use Rattle.mono_syntax.specs.Ty.{Ty}
use Rattle.program_code.specs.SameScript.{IsProgram}
use Rattle.type_shapes.specs.Limits.{IsWithinLimits}
use Rattle.program_types.proofs.ScriptStands.{script_stands}
use Rattle.load_script.specs.TreePhases.{IsClosedListOf}
use Rattle.load_script.proofs.Numbering.{counts_fault, counts_refuse, no_refusal}
use Rattle.load_script.proofs.TreeLoading.{no_program}
use Rattle.load_script.proofs.phases.with_numbers.Goals as goal

pub number_closed-requires-clause-closed : goal.number_closed-requires-clause-closed
number_closed-requires-clause-closed c = (c.requires.closed.written, c.requires.closed.closed)

pub number_closed-requires-clause-types : goal.number_closed-requires-clause-types
number_closed-requires-clause-types c =
    script_stands c.args.script.scoped c.args.script c.requires.closed.written c.args.closed.keys c.requires.well_typed.scope c.requires.casts
    c.requires.closed.are c.requires.closed.closed

pub returns-in-Ok-clause-accepted : goal.returns-in-Ok-clause-accepted
returns-in-Ok-clause-accepted c =
    let p = c.in-Ok.program in
    let same : p.table.types ≡ c.args.closed.keys = c.in-Ok.ensures.same.types_kept in
    record {
      closed = subst (IsClosedListOf c.args.script.scoped.script) (sym same) c.requires.closed;
      within = subst IsWithinLimits (sym same) c.requires.within;
      same = subst (λ (l : List Ty). IsProgram c.args.script l p) (sym same) c.in-Ok.ensures.same;
    }

pub returns-in-Ok-clause-refuses : goal.returns-in-Ok-clause-refuses
returns-in-Ok-clause-refuses c =
    counts_refuse c.args.script c.args.closed.keys c.requires.closed c.requires.within (no_refusal c.args.script) c.in-Ok.ensures.refuses

pub returns-in-Err-clause-refused : goal.returns-in-Err-clause-refused
returns-in-Err-clause-refused c = counts_fault c.args.script c.args.closed.keys c.requires.closed c.requires.within c.in-Err.fault c.in-Err.ensures.refused

pub returns-in-Err-clause-refuses : goal.returns-in-Err-clause-refuses
returns-in-Err-clause-refuses c =
    counts_refuse c.args.script c.args.closed.keys c.requires.closed c.requires.within (no_program c.in-Err.fault) c.in-Err.ensures.refuses
