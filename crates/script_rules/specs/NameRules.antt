-- What a name does where it stands, and where a name does it.
use Rattle.std.specs.Prelude.{◌≡◌, ℕ, List, ◌∷◌, ◌++◌, Bool, true, false, IsTrue, ◌&&◌, ◌||◌, ◌==◌, Contains, nat_lt, if◌then◌else◌}
use Rattle.mono_syntax.specs.declared.leaf.Place.{Place}
use Rattle.script_rules.specs.declared.occurrence.Occurrence.{Occurrence}
use Rattle.script_rules.specs.declared.occurrence.Role.{Role}
use Rattle.script_rules.specs.declared.occurrence.Role.TheVariants as role

-- it is read, called or joined
abbrev pub is_use : Role → Bool
is_use role.Read = true
is_use role.Called = true
is_use role.Joined = true
is_use _ = false

-- it stands in an expression elsewhere than in a join
abbrev pub is_value_use : Role → Bool
is_value_use role.Read = true
is_value_use role.Called = true
is_value_use _ = false

-- it is a name of its block
abbrev pub gives_name : Role → Bool
gives_name role.Parameter = true
gives_name role.Assigned = true
gives_name role.Annotated = true
gives_name role.Started = true
gives_name _ = false

-- it is a name of its block, and the first such occurrence of it: only an assignment without annotation repeats
abbrev pub is_first_name : Role → Bool
is_first_name role.Parameter = true
is_first_name role.Annotated = true
is_first_name role.Started = true
is_first_name _ = false

abbrev pub is_field : Role → Bool
is_field role.Field = true
is_field _ = false

abbrev pub is_start : Role → Bool
is_start role.Started = true
is_start _ = false

abbrev pub is_start_end : Role → Bool
is_start_end role.Ended = true
is_start_end _ = false

abbrev pub is_class : Role → Bool
is_class role.Class = true
is_class _ = false

abbrev pub is_definition : Role → Bool
is_definition role.Class = true
is_definition role.Function = true
is_definition _ = false

-- this name stands in the list and does this there
pub record Stands (os : List Occurrence) (does : Role → Bool) (x : List ℕ) : Type 0 where
  pub occurrence : Occurrence
  pub member : Contains os occurrence
  pub role : IsTrue (does occurrence.role)
  pub text : occurrence.text ≡ x

-- an occurrence stands in the list behind these
pub record StandsBehind (os before : List Occurrence) (o : Occurrence) : Type 0 where
  pub after : List Occurrence
  pub whole : os ≡ before ++ o ∷ after

-- the first definition of a name as a class or function stands at this place
pub record FirstDefined (script : List Occurrence) (x : List ℕ) (p : Place) : Type 0 where
  pub definition : Occurrence
  pub before : List Occurrence
  pub stands : StandsBehind script before definition
  pub role : IsTrue (is_definition definition.role)
  pub text : definition.text ≡ x
  pub first : Stands before is_definition x → ⊥
  pub place : p ≡ definition.place

-- first by line, then by column
abbrev pub is_earlier : Place → Place → Bool
is_earlier p q = nat_lt p.line q.line || ((p.line == q.line) && nat_lt p.column q.column)

abbrev pub later : Place → Place → Place
later p q = if is_earlier p q then q else p
