-- A list of types that has each type of a script with casts: those of its sites, of its classes and functions, and of the names of its blocks.
use Rattle.std.specs.Prelude.{List, Contains}
use Rattle.mono_syntax.specs.declared.cast.CastBlock.{CastBlock}
use Rattle.mono_syntax.specs.declared.cast.CastClass.{CastClass}
use Rattle.mono_syntax.specs.declared.cast.CastFunction.{CastFunction}
use Rattle.mono_syntax.specs.declared.cast.CastScript.{CastScript}
use Rattle.mono_syntax.specs.declared.cast.NamedType.{NamedType}
use Rattle.mono_syntax.specs.Ty.{Ty}

-- the types of a block's names, of those that hold values and of those that hold threads, stand in the list
pub record BlockTypesIn (types : List Ty) (b : CastBlock) : Type 0 where
  pub names : (n : NamedType) → Contains b.names n → Contains types n.ty
  pub threads : (n : NamedType) → Contains b.threads n → Contains types n.ty

pub record AreTypesIn (types : List Ty) (p : CastScript) : Type 0 where
  pub sites : (t : Ty) → Contains p.types t → Contains types t
  pub classes : (c : CastClass) → Contains p.classes c → Contains types c.ty
  pub functions : (f : CastFunction) → Contains p.functions f → Contains types f.ty
  pub bodies : (f : CastFunction) → Contains p.functions f → BlockTypesIn types f.block
  pub main : BlockTypesIn types p.main
