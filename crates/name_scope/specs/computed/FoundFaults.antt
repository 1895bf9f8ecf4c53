-- Computed: the faults of names as the code meets them.
use Rattle.std.specs.Prelude.{ℕ, List, [], ◌∷◌, ◌++◌, flat_map, Bool, Option, Some, None, if◌then◌else◌}
use Rattle.mono_syntax.specs.declared.leaf.Place.{Place}
use Rattle.mono_syntax.specs.declared.refusal.Reason.{Reason}
use Rattle.mono_syntax.specs.declared.refusal.Reason.TheVariants.{UnknownName, Twice, Misused}
use Rattle.mono_syntax.specs.declared.refusal.Refusal.{Refusal}
use Rattle.mono_syntax.specs.declared.tree.Script.{Script}
use Rattle.script_rules.specs.FirstFault.{sooner}
use Rattle.script_rules.specs.declared.occurrence.Occurrence.{Occurrence}
use Rattle.script_rules.specs.declared.occurrence.Role.{Role}
use Rattle.name_scope.specs.declared.roles.Roles.{Roles}
use Rattle.script_rules.specs.Occurrences.{definitions, bodies}
use Rattle.script_rules.specs.NameRules.{later}
use Rattle.name_scope.specs.computed.NameRoles.{roles_of, is_unknown, is_twice, is_misused, defined_at}

-- a fault where the test holds
abbrev pub fault_if : Bool → Place → Reason → List Refusal
fault_if b p r = if b then record { place = p; reason = r } ∷ [] else []

-- a fault where the name is also defined
abbrev pub fault_of_both : Place → Option Place → List Refusal
fault_of_both p None = []
fault_of_both p (Some q) = record { place = later p q; reason = Twice } ∷ []

-- the faults at one occurrence
abbrev pub faults_at : Role → Place → (body before script : Roles) → List Refusal
faults_at r p b u s = fault_if (is_unknown r b s) p UnknownName ++ fault_if (is_twice r u) p Twice ++ fault_of_both p (defined_at r s) ++ fault_if (is_misused r b u s) p Misused

-- the faults in what is left of a part of the script
abbrev pub faults_behind : (script body : List ℕ → Roles) → (before rest : List Occurrence) → List Refusal
faults_behind s b before [] = []
faults_behind s b before (o ∷ rest) = faults_at o.role o.place (b o.text) (roles_of before o.text) (s o.text) ++ faults_behind s b (before ++ o ∷ []) rest

abbrev pub body_faults : (List ℕ → Roles) → List Occurrence → List Refusal
body_faults s os = faults_behind s (roles_of os) [] os

-- the faults of a script
abbrev pub name_faults : Script → List Refusal
name_faults s = flat_map (body_faults (roles_of (definitions s))) (bodies s)

-- the first of a fault so far and of more
abbrev pub first_of_all : Option Refusal → List Refusal → Option Refusal
first_of_all first [] = first
first_of_all first (r ∷ rs) = first_of_all (sooner first r) rs

-- the first of two faults, where there are any
abbrev pub first_of_both : Option Refusal → Option Refusal → Option Refusal
first_of_both a None = a
first_of_both a (Some r) = sooner a r
