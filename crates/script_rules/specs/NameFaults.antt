-- What can be wrong with the names of a script.
use Rattle.std.specs.Prelude.{◌≡◌, List, IsTrue, Contains}
use Rattle.mono_syntax.specs.declared.leaf.Place.{Place}
use Rattle.mono_syntax.specs.declared.refusal.Reason.{Reason}
use Rattle.mono_syntax.specs.declared.refusal.Reason.TheVariants.{UnknownName, Twice, Misused}
use Rattle.mono_syntax.specs.declared.tree.Script.{Script}
use Rattle.script_rules.specs.declared.occurrence.Occurrence.{Occurrence}
use Rattle.script_rules.specs.declared.occurrence.Role.TheVariants as role
use Rattle.script_rules.specs.Occurrences.{definitions, bodies}
use Rattle.script_rules.specs.NameRules.{is_use, is_value_use, gives_name, is_first_name, is_field, is_start, is_start_end, is_class, is_definition, Stands, StandsBehind, FirstDefined, later}

-- a fault in this part of a script with these definitions: where it stands, and what it is
pub data BodyFault (script body : List Occurrence) : Place → Reason → Type 0 where
  -- a name is read, called or joined that is no name of its block, no function and no class
  unknown_name : {p : Place} (before : List Occurrence) (o : Occurrence) → StandsBehind body before o → IsTrue (is_use o.role)
      → (Stands body gives_name o.text → ⊥) → (Stands script is_definition o.text → ⊥) → p ≡ o.place → BodyFault script body p UnknownName
  -- a type's name is no class
  unknown_type : {p : Place} (before : List Occurrence) (o : Occurrence) → StandsBehind body before o → o.role ≡ role.Typed
      → (Stands script is_class o.text → ⊥) → p ≡ o.place → BodyFault script body p UnknownName
  -- a second class or function of one name
  defined_twice : {p : Place} (before : List Occurrence) (o : Occurrence) → StandsBehind body before o → IsTrue (is_definition o.role)
      → Stands before is_definition o.text → p ≡ o.place → BodyFault script body p Twice
  -- a field of a class twice
  field_twice : {p : Place} (before : List Occurrence) (o : Occurrence) → StandsBehind body before o → IsTrue (is_field o.role)
      → Stands before is_field o.text → p ≡ o.place → BodyFault script body p Twice
  -- a parameter, an annotated assignment or a start of a name that the block has before
  given_again : {p : Place} (before : List Occurrence) (o : Occurrence) → StandsBehind body before o → IsTrue (is_first_name o.role)
      → Stands before gives_name o.text → p ≡ o.place → BodyFault script body p Twice
  -- an assignment of a name that is started before
  assigned_thread : {p : Place} (before : List Occurrence) (o : Occurrence) → StandsBehind body before o → o.role ≡ role.Assigned
      → Stands before is_start o.text → p ≡ o.place → BodyFault script body p Twice
  -- a name of a block is also a function's or class's: the later of the two
  defined_too : {p q : Place} (before : List Occurrence) (o : Occurrence) → StandsBehind body before o → IsTrue (gives_name o.role)
      → FirstDefined script o.text q → p ≡ later o.place q → BodyFault script body p Twice
  -- a started name elsewhere than in a join
  thread_read : {p : Place} (before : List Occurrence) (o : Occurrence) → StandsBehind body before o → IsTrue (is_value_use o.role)
      → Stands body is_start o.text → p ≡ o.place → BodyFault script body p Misused
  -- a join of a name that isn't started, or whose start doesn't end before
  joined_early : {p : Place} (before : List Occurrence) (o : Occurrence) → StandsBehind body before o → o.role ≡ role.Joined
      → (Stands before is_start_end o.text → ⊥) → p ≡ o.place → BodyFault script body p Misused
  -- a class's name elsewhere than as the callee of a call or in a type
  class_read : {p : Place} (before : List Occurrence) (o : Occurrence) → StandsBehind body before o → o.role ≡ role.Read
      → Stands script is_class o.text → p ≡ o.place → BodyFault script body p Misused

-- a fault of the script's names
pub record NameFault (s : Script) (p : Place) (r : Reason) : Type 0 where
  pub body : List Occurrence
  pub part : Contains (bodies s) body
  pub fault : BodyFault (definitions s) body p r
