-- From the tree of a script to its program: its names get their types, its expressions get theirs, it gets its casts, its types are closed, and
-- it gets its numbers. The first phase that refuses ends it.
use Rattle.std.specs.Prelude.{◌≡◌, List}
use Rattle.mono_syntax.specs.Ty.{Ty}
use Rattle.mono_syntax.specs.declared.cast.CastScript.{CastScript}
use Rattle.mono_syntax.specs.declared.refusal.Refusal.{Refusal}
use Rattle.mono_syntax.specs.declared.script.Scoped.{Scoped}
use Rattle.mono_syntax.specs.declared.tree.Script.{Script}
use Rattle.mono_tree.specs.ClosedList.{IsClosedList}
use Rattle.script_rules.specs.ScopeFaults.{IsRight, IsScopeRefusal}
use Rattle.script_rules.specs.Scoping.{IsScope}
use Rattle.static_types.specs.Scripts.{IsTypeFault}
use Rattle.cast_rules.specs.HasCasts.{HasCasts}
use Rattle.written_types.specs.ScriptTypes.{AreScriptTypes}
use Rattle.program_code.specs.Counts.{IsTooMany}
use Rattle.program_code.specs.SameScript.{IsProgram}
use Rattle.type_shapes.specs.Limits.{IsWithinLimits, IsFirstFault}
use Rattle.load_script.specs.declared.accepted.Accepted.{Accepted}

-- ---- closed types

-- l is the closed list of the types that the script writes
pub record IsClosedListOf (s : Script) (l : List Ty) : Type 0 where
  pub written : List Ty
  pub are : AreScriptTypes s written
  pub closed : IsClosedList written l

-- the script is refused for the first member of that list that is too large or one too many
pub record RefusesTypes (s : Script) (r : Refusal) : Type 0 where
  pub list : List Ty
  pub closed : IsClosedListOf s list
  pub fault : IsFirstFault list r.reason
  pub place : r.place ≡ record { line = 1; column = 1 }

-- ---- what a script with its casts comes to

-- it is refused for its closed types, else for more functions, classes or sites than there are numbers for
pub data RefusesCasts (p : CastScript) : Refusal → Type 0 where
  unclosed : {r : Refusal} → RefusesTypes (p.scoped).script r → RefusesCasts p r
  unnumbered : {r : Refusal} {l : List Ty} → IsClosedListOf (p.scoped).script l → IsWithinLimits l → IsTooMany p r → RefusesCasts p r

-- a is the script s with its casts, and that by numbers: no member of the closed list of the types of s is at fault, and the list's types
-- have numbers in its order
pub record IsNumbered (s : Script) (a : Accepted) : Type 0 where
  pub closed : IsClosedListOf s ((a.program).table).types
  pub within : IsWithinLimits ((a.program).table).types
  pub same : IsProgram a.script ((a.program).table).types a.program

-- ---- the tree's program

-- The accepted script of this tree: the tree has no fault of names or sizes, its expressions have their types, and it has its numbers.
pub record IsTreeProgram (s : Script) (p : Accepted) : Type 0 where
  pub right : IsRight s
  pub scoped : Scoped
  pub scope : IsScope s scoped
  pub casts : HasCasts scoped p.script
  pub numbered : IsNumbered s p

-- The tree is refused so: for its first fault of names, and where there is none of size; else for its first fault of typing; else for what
-- it has with its casts, for which no script is refused.
pub data RefusesTree (s : Script) : Refusal → Type 0 where
  misnamed : {r : Refusal} → IsScopeRefusal s r → RefusesTree s r
  mistyped : {r : Refusal} → IsRight s → IsTypeFault s r → RefusesTree s r
  with_casts : {r : Refusal} {d : Scoped} {p : CastScript} → IsRight s → ((q : Refusal) → IsTypeFault s q → ⊥) → IsScope s d → HasCasts d p
      → RefusesCasts p r → RefusesTree s r
