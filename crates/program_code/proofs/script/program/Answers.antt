use Rattle.std.proofs.Common.{◌≡◌, ap, map, sym, subst, List}
use Rattle.std.specs.Prelude.{Contains}
use Rattle.mono_syntax.specs.Ty.{Ty}
use Rattle.mono_tree.specs.TypeNumbers.{Names}
use Rattle.type_numbers.specs.Tables.{Table}
use Rattle.node_code.specs.Places.{Each}
use Rattle.program_code.specs.SameScript.{AreBlocks}
use Rattle.program_code.proofs.ScriptLaws.{program_over}
use Rattle.program_code.proofs.script.program.Goals as goal

pub type_numbers-requires : goal.type_numbers-requires
type_numbers-requires c =
    subst (λ (l : List Ty). (t : Ty) → Contains l t → Contains c.args.table.types t) (sym c.as_slice.ensures) (c.requires.slotted).sites

pub with_blocks-requires-clause-types : goal.with_blocks-requires-clause-types
with_blocks-requires-clause-types c =
    let b = c.in_ok-blocks.blocks in
    let here = subst (λ (l : List Ty). Each (Names c.args.table.types) c.in_ok-site_types.site_types l) c.as_slice.ensures c.in_ok-site_types.ensures in
    subst (λ (z : Table). Each (Names z.types) c.in_ok-site_types.site_types c.args.script.now.types) (sym (c.in_ok-blocks.ensures).table) here

pub with_blocks-requires-clause-blocks : goal.with_blocks-requires-clause-blocks
with_blocks-requires-clause-blocks c =
    subst (λ (z : Table). AreBlocks z c.args.script.now c.in_ok-blocks.blocks) (sym (c.in_ok-blocks.ensures).table) c.in_ok-blocks.ensures

pub with_blocks-requires-clause-classes : goal.with_blocks-requires-clause-classes
with_blocks-requires-clause-classes c =
    subst (λ (z : Table). z.classes ≡ map (λ d. d.ty) c.args.script.now.classes) (sym (c.in_ok-blocks.ensures).table) c.requires.classes

pub returns : goal.returns
returns c = program_over c.args.script.now c.in_ok-blocks.blocks.pool.table c.args.table (c.in_ok-blocks.ensures).table c.with_blocks.result c.with_blocks.ensures
