-- Computed: what a name is by its roles, as the code keeps it, and what is wrong with it then.
use Rattle.std.specs.Prelude.{ℕ, List, [], ◌∷◌, Bool, true, false, ◌||◌, not, Option, Some, None, is_some, bytes_eq, if◌then◌else◌}
use Rattle.std.specs.Option.{option_or}
use Rattle.mono_syntax.specs.declared.leaf.Place.{Place}
use Rattle.script_rules.specs.declared.occurrence.Occurrence.{Occurrence}
use Rattle.script_rules.specs.declared.occurrence.Role.{Role}
use Rattle.script_rules.specs.declared.occurrence.Role.TheVariants as role
use Rattle.name_scope.specs.declared.roles.Roles.{Roles}

-- a name that stands nowhere
abbrev pub no_roles : Roles
no_roles = record { field = false; name = false; thread = false; ended = false; class = false; definition = None }

-- what one occurrence makes of its name
abbrev pub alone : Role → Place → Roles
alone role.Class p = record { field = false; name = false; thread = false; ended = false; class = true; definition = Some p }
alone role.Function p = record { field = false; name = false; thread = false; ended = false; class = false; definition = Some p }
alone role.Field p = record { field = true; name = false; thread = false; ended = false; class = false; definition = None }
alone role.Parameter p = record { field = false; name = true; thread = false; ended = false; class = false; definition = None }
alone role.Assigned p = record { field = false; name = true; thread = false; ended = false; class = false; definition = None }
alone role.Annotated p = record { field = false; name = true; thread = false; ended = false; class = false; definition = None }
alone role.Started p = record { field = false; name = true; thread = true; ended = false; class = false; definition = None }
alone role.Ended p = record { field = false; name = false; thread = false; ended = true; class = false; definition = None }
alone role.Read p = no_roles
alone role.Called p = no_roles
alone role.Joined p = no_roles
alone role.Typed p = no_roles

-- what it is by both; of two definitions the first counts
abbrev pub together : Roles → Roles → Roles
together a b = record {
  field = a.field || b.field;
  name = a.name || b.name;
  thread = a.thread || b.thread;
  ended = a.ended || b.ended;
  class = a.class || b.class;
  definition = option_or a.definition b.definition;
}

-- what a name is by its occurrences in a list
abbrev pub roles_of : List Occurrence → List ℕ → Roles
roles_of [] x = no_roles
roles_of (o ∷ os) x = if bytes_eq o.text x then together (alone o.role o.place) (roles_of os x) else roles_of os x

-- whether a name is used that nothing gives
abbrev pub is_unknown : Role → (body : Roles) → (script : Roles) → Bool
is_unknown role.Read b s = not (b.name || is_some s.definition)
is_unknown role.Called b s = not (b.name || is_some s.definition)
is_unknown role.Joined b s = not (b.name || is_some s.definition)
is_unknown role.Typed b s = not s.class
is_unknown _ b s = false

-- whether a name stands for a second thing
abbrev pub is_twice : Role → (before : Roles) → Bool
is_twice role.Class b = is_some b.definition
is_twice role.Function b = is_some b.definition
is_twice role.Field b = b.field
is_twice role.Parameter b = b.name
is_twice role.Assigned b = b.thread
is_twice role.Annotated b = b.name
is_twice role.Started b = b.name
is_twice _ b = false

-- whether a name of its kind can't stand there
abbrev pub is_misused : Role → (body : Roles) → (before : Roles) → (script : Roles) → Bool
is_misused role.Read b u s = b.thread || s.class
is_misused role.Called b u s = b.thread
is_misused role.Joined b u s = not u.ended
is_misused _ b u s = false

-- where a name of a block is also a function's or class's
abbrev pub defined_at : Role → (script : Roles) → Option Place
defined_at role.Parameter s = s.definition
defined_at role.Assigned s = s.definition
defined_at role.Annotated s = s.definition
defined_at role.Started s = s.definition
defined_at _ s = None
