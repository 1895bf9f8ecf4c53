-- What the names of a script are refused for, and what is accepted.
use Rattle.std.specs.Prelude.{◌⊎◌, Result, Ok, Err}
use Rattle.mono_syntax.specs.declared.leaf.Place.{Place}
use Rattle.mono_syntax.specs.declared.refusal.LoadFault.{LoadFault}
use Rattle.mono_syntax.specs.declared.refusal.Reason.{Reason}
use Rattle.mono_syntax.specs.declared.refusal.Refusal.{Refusal}
use Rattle.mono_syntax.specs.declared.script.Scoped.{Scoped}
use Rattle.mono_syntax.specs.declared.tree.Script.{Script}
use Rattle.script_rules.specs.Scoping.{class_list, IsScope}
use Rattle.script_rules.specs.LoadFaults.{IsFault}
use Rattle.script_rules.specs.FirstFault.{IsFirst, IsFaultless}
use Rattle.script_rules.specs.Recursion.{IsRecursive}
use Rattle.script_rules.specs.SizeFaults.{SizeFault}
use Rattle.script_rules.specs.NameFaults.{NameFault}

-- a fault of names, or a class that leads back to itself
abbrev pub ScopeFault : Script → Place → Reason → Type 0
ScopeFault s p r = NameFault s p r ⊎ IsRecursive (class_list s) p r

-- nothing is wrong with the names, and nothing is too large
pub record IsRight (s : Script) : Type 0 where
  pub names : IsFaultless (ScopeFault s)
  pub sizes : IsFaultless (SizeFault s)

-- the script is refused so: for its first fault of names, and where there is none for its first fault of size
pub data IsScopeRefusal (s : Script) : Refusal → Type 0 where
  misnamed : {r : Refusal} → IsFirst (ScopeFault s) r → IsScopeRefusal s r
  oversized : {r : Refusal} → IsFaultless (ScopeFault s) → IsFirst (SizeFault s) r → IsScopeRefusal s r

-- the answer is what the rules give, or there was no memory
abbrev pub IsAnswer : Script → Result Scoped LoadFault → Type 0
IsAnswer s (Ok d) = IsRight s × IsScope s d
IsAnswer s (Err f) = IsFault (IsScopeRefusal s) f
