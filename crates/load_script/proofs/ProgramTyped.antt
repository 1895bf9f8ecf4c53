-- An accepted script is well typed.
use Rattle.std.proofs.Common.{List, ℕ}
use Rattle.load_script.specs.declared.accepted.Accepted.{Accepted}
use Rattle.load_script.specs.Phases.{IsProgramOf}
use Rattle.parse_script.proofs.Shapes.{trees_are_shaped}
use Rattle.script_rules.specs.ScopeFaults.{IsRight}
use Rattle.script_rules.specs.WellTyped.{IsWellTypedProgram}
use Rattle.script_shape.specs.Shapes.{IsShaped}
use Rattle.cast_rules.proofs.WellTypedScript.{well_typed_by}
use Rattle.load_script.proofs.TreeLoading.{kept, own_scope}

pub program_well_typed : (bytes : List ℕ) (p : Accepted) → IsProgramOf bytes p → IsWellTypedProgram p.script
program_well_typed bytes p i =
    let text = i.program in
    let tokens = text.program in
    let tree = tokens.program in
    let s = tokens.script in
    let d = tree.scoped in
    let shaped = kept IsShaped s d tree.scope (trees_are_shaped bytes text.tokens s tokens.tree) in
    well_typed_by d p.script shaped (kept IsRight s d tree.scope tree.right) (own_scope s d tree.scope) tree.casts
