-- A well-typed script with casts, of the language. Nothing in it speaks of consistency, or of how the casts got there.
use Rattle.std.specs.Prelude.{◌+◌, ◌≤◌, ◌++◌, map, length, Contains}
use Rattle.mono_syntax.specs.Limits.{most_names, most_fields, most_parameters}
use Rattle.mono_syntax.specs.declared.cast.CastBlock as rust_block
use Rattle.mono_syntax.specs.declared.cast.CastClass.{CastClass}
use Rattle.mono_syntax.specs.declared.cast.CastFunction.{CastFunction}
use Rattle.mono_syntax.specs.declared.cast.CastScript.{CastScript}
use Rattle.mono_syntax.specs.declared.cast.NamedType.{NamedType}
use Rattle.mono_syntax.specs.Ty.{Ty}
use Rattle.mono_tree.specs.ClosedList.{AreDistinct}
use Rattle.mono_tree.specs.IsType.{IsType}
use Rattle.mono_tree.specs.TypedPrograms.{IsTypedProgram}
use Rattle.script_rules.specs.Scoping.{IsScope}
use Rattle.script_rules.specs.ScopeFaults.{IsRight}
use Rattle.script_rules.specs.SourceCasts.{IsWithCasts}
use Rattle.script_rules.specs.WellFormed.{AreApart}

-- the names of a block, and those that it starts, are different names, not too many, and have types of the language
pub record IsBlockOfTypes (b : rust_block.CastBlock) : Type 0 where
  pub names : (n : NamedType) → Contains b.names n → IsType n.ty
  pub threads : (n : NamedType) → Contains b.threads n → IsType n.ty
  pub apart : AreApart (map (λ n. n.name) b.names ++ map (λ n. n.name) b.threads)
  pub few : length b.names + length b.threads ≤ most_names

-- Each expression has a type and each use fits it (`typed`); the source has no fault of names or sizes; the program is the source with
-- casts, each site at its construct; and all types are types of the language, each once in the list of types.
pub record IsWellTypedProgram (p : CastScript) : Type 0 where
  pub typed : IsTypedProgram p
  pub right : IsRight (p.scoped).script
  pub scope : IsScope (p.scoped).script p.scoped
  pub source : IsWithCasts (p.scoped).script p
  pub types : (t : Ty) → Contains p.types t → IsType t
  pub distinct : AreDistinct p.types
  pub main : IsBlockOfTypes p.main
  pub bodies : (f : CastFunction) → Contains p.functions f → IsBlockOfTypes f.block
  pub fields : (c : CastClass) → Contains p.classes c → length c.params ≤ most_fields
  pub parameters : (f : CastFunction) → Contains p.functions f → length f.params ≤ most_parameters
