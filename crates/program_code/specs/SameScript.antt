-- The same script by numbers.
use Rattle.std.specs.Prelude.{◌≡◌, ℕ, List, map, Contains}
use Rattle.mono_syntax.specs.declared.cast.CastClass.{CastClass}
use Rattle.mono_syntax.specs.declared.cast.CastFunction.{CastFunction}
use Rattle.mono_syntax.specs.declared.cast.CastScript.{CastScript}
use Rattle.mono_syntax.specs.CastStmtView.{cast_block}
use Rattle.mono_syntax.specs.Ty.{Ty}
use Rattle.mono_tree.specs.TypeNumbers.{Names}
use Rattle.node_code.specs.Blocks.{names_in, slots_of, IsBlock, PoolGrows}
use Rattle.node_code.specs.Places.{At, AreOnce, Each}
use Rattle.node_code.specs.Slotted.{BlockSlotted, HaveSlots}
use Rattle.node_code.specs.declared.data.Pool.{Pool}
use Rattle.program_code.specs.declared.data.ClassCode.{ClassCode}
use Rattle.program_code.specs.declared.data.FunctionCode.{FunctionCode}
use Rattle.program_code.specs.declared.data.Program.{Program}
use Rattle.program_code.specs.declared.script.Blocks.{Blocks}
use Rattle.program_code.specs.declared.functions.WithFunction.{WithFunction}
use Rattle.program_code.specs.declared.functions.WithFunctions.{WithFunctions}
use Rattle.type_numbers.specs.Tables.{Table}
use Rattle.script_rules.specs.Scoping.{class_list, function_list}

-- ---- names that have slots, and types that have numbers

-- each name that the function uses is one of its block's; its declared type, and those of its writes, stand in the list
pub record IsSlottedFunction (types : List Ty) (f : CastFunction) : Type 0 where
  pub params : HaveSlots (names_in f.block.names) f.params
  pub declared : Contains types f.ty
  pub body : BlockSlotted types (slots_of f.block) (cast_block f.block.body)

-- each name that the script uses is one of its block's; the types of its sites, functions and writes stand in the list
pub record IsSlottedScript (types : List Ty) (p : CastScript) : Type 0 where
  pub sites : (t : Ty) → Contains p.types t → Contains types t
  pub functions : (f : CastFunction) → Contains p.functions f → IsSlottedFunction types f
  pub main : BlockSlotted types (slots_of p.main) (cast_block p.main.body)

-- ---- the same by numbers

-- a function, over these texts and types: its parameters' slots, the number of its declared type, its block, and its end
pub record IsFunction (t : Pool) (r : FunctionCode) (f : CastFunction) : Type 0 where
  pub params : Each (At (names_in f.block.names)) r.params f.params
  pub declared : Names (t.table).types r.ty f.ty
  pub block : IsBlock t f.block r.block
  pub falls : r.falls ≡ f.falls

-- a class: its fields in declared order
abbrev pub IsClass : ClassCode → CastClass → Type 0
IsClass r c = r.params ≡ c.params

-- Each text has one number, and each block, function and class is that of the script; functions and classes have the names that the
-- source gives them. The table has these types and the types of the classes, and each position of the script's list has the number of
-- the type that stands there.
pub record IsProgram (p : CastScript) (types : List Ty) (r : Program) : Type 0 where
  pub texts : AreOnce r.texts
  pub types_kept : (r.table).types ≡ types
  pub class_types : (r.table).classes ≡ map (λ c. c.ty) p.classes
  pub site_types : Each (Names types) r.site_types p.types
  pub sites : r.sites ≡ p.sites
  pub classes : Each IsClass r.classes p.classes
  pub class_names : r.class_names ≡ map (λ d. d.name.text) (class_list (p.scoped).script)
  pub functions : Each (IsFunction (record { texts = r.texts; table = r.table })) r.functions p.functions
  pub function_names : r.function_names ≡ map (λ d. d.name.text) (function_list (p.scoped).script)
  pub main : IsBlock (record { texts = r.texts; table = r.table }) p.main r.main

-- ---- functions one behind the other

-- the functions stand over the texts behind them, which keep what these have, and over the same types
pub record AddsFunctions (a : Pool) (fs : List CastFunction) (r : WithFunctions) : Type 0 where
  pub grows : PoolGrows a r.pool
  pub functions : Each (IsFunction r.pool) r.functions fs

-- so does one
pub record AddsFunction (a : Pool) (f : CastFunction) (r : WithFunction) : Type 0 where
  pub grows : PoolGrows a r.pool
  pub function : IsFunction r.pool r.function f

-- ---- all blocks

-- the blocks are the script's, over this table
pub record AreBlocks (t : Table) (p : CastScript) (b : Blocks) : Type 0 where
  pub table : (b.pool).table ≡ t
  pub functions : Each (IsFunction b.pool) b.functions p.functions
  pub main : IsBlock b.pool p.main b.main
