use Rattle.std.proofs.Common.{◌≡◌, ◌∙◌, ap, sym, subst, map, ℕ, List}
use Rattle.std.specs.Prelude.{Contains}
use Rattle.mono_syntax.specs.declared.cast.CastFunction.{CastFunction}
use Rattle.mono_syntax.specs.CastStmtView.{cast_block}
use Rattle.mono_syntax.specs.Ty.{Ty}
use Rattle.type_numbers.specs.Tables.{Table}
use Rattle.node_code.specs.Blocks.{slots_of}
use Rattle.node_code.specs.Slotted.{BlockSlotted}
use Rattle.node_code.specs.Places.{Each}
use Rattle.program_code.specs.SameScript.{IsFunction, IsSlottedFunction}
use Rattle.program_code.proofs.ScriptLaws.{functions_kept}
use Rattle.program_code.proofs.script.number_blocks.Goals as goal

-- the functions are slotted
slotted : (types : List Ty) (a b : List CastFunction) → a ≡ b → ((f : CastFunction) → Contains b f → IsSlottedFunction types f)
    → (f : CastFunction) → Contains a f → IsSlottedFunction types f
slotted types a b e h = subst (λ (l : List CastFunction). (f : CastFunction) → Contains l f → IsSlottedFunction types f) (sym e) h

pub number_functions-requires : goal.number_functions-requires
number_functions-requires c =
    slotted c.args.table.types c.as_slice.result.now c.args.script.now.functions c.as_slice.ensures c.requires.functions

pub returns : goal.returns
returns c =
    let p = c.args.script.now in
    let pool = c.in_ok-main.main.pool in
    let read : c.as_slice.result.now ≡ p.functions = c.as_slice.ensures in
    let fs = c.in_ok-with.ensures in
    let named = subst (λ (z : Table). BlockSlotted z.types (slots_of p.main) (cast_block p.main.body)) (fs.grows).table c.requires.main in
    let main = c.in_ok-main.ensures named in
    let same : c.args.table ≡ pool.table = (fs.grows).table ∙ (main.grows).table in
    let kept = functions_kept c.in_ok-with.with.pool pool main.grows c.in_ok-with.with.functions c.as_slice.result.now fs.functions in
    record {
      table = sym same;
      functions = subst (λ (l : List CastFunction). Each (IsFunction pool) c.in_ok-with.with.functions l) read kept;
      main = main.block;
    }
