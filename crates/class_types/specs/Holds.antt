-- What a value of `ClassTypes` keeps.
use Rattle.std.specs.Prelude.{◌≡◌}
use Rattle.script_rules.specs.Scoping.{class_list}
use Rattle.class_types.specs.declared.table.ClassTypes.{ClassTypes}
use Rattle.class_types.specs.Known.{StandTypes, Begins}
use Rattle.class_types.specs.computed.Made.{AreOwnTypes, names_of_classes}

-- the types of the script's classes are known and stand among its types
pub record Holds (k : ClassTypes) : Type 0 where
  pub stand : StandTypes (class_list k.script) k.types k.classes
  pub names : k.names ≡ names_of_classes (class_list k.script)
  pub own : AreOwnTypes (class_list k.script) k.own

-- types were added behind the old ones
pub record Extends (old new : ClassTypes) : Type 0 where
  pub holds : Holds new
  pub script : new.script ≡ old.script
  pub classes : new.classes ≡ old.classes
  pub types : Begins old.types new.types
