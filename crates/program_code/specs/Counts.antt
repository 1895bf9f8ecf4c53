-- How many functions, classes and sites a script may have, each with a number.
use Rattle.std.specs.Prelude.{◌≡◌, ◌≤◌, ◌<◌, ℕ, length}
use Rattle.mono_syntax.specs.declared.cast.CastScript.{CastScript}
use Rattle.mono_syntax.specs.declared.leaf.Place.{Place}
use Rattle.mono_syntax.specs.declared.refusal.LoadFault.{LoadFault}
use Rattle.mono_syntax.specs.declared.refusal.LoadFault.TheVariants.{Refused}
use Rattle.mono_syntax.specs.declared.refusal.Reason.{Reason}
use Rattle.mono_syntax.specs.declared.refusal.Reason.TheVariants.{TooManyFunctions, TooManyClasses, TooManySites}
use Rattle.mono_syntax.specs.declared.refusal.Refusal.{Refusal}

abbrev pub most_functions : ℕ
most_functions = 4095

abbrev pub most_classes : ℕ
most_classes = 1023

abbrev pub most_sites : ℕ
most_sites = 1048576

-- a refusal that belongs to no place stands at the start of the script
abbrev pub at_start : Reason → Refusal
at_start r = record { place = record { line = 1; column = 1 }; reason = r }

-- there is a number for each
pub record AreFew (p : CastScript) : Type 0 where
  pub functions : length p.functions ≤ most_functions
  pub classes : length p.classes ≤ most_classes
  pub sites : length p.sites ≤ most_sites

-- there are too many functions, else too many classes, else too many sites
pub data IsTooMany (p : CastScript) (r : Refusal) : Type 0 where
  functions : most_functions < length p.functions → r ≡ at_start TooManyFunctions → IsTooMany p r
  classes : length p.functions ≤ most_functions → most_classes < length p.classes → r ≡ at_start TooManyClasses → IsTooMany p r
  sites : length p.functions ≤ most_functions → length p.classes ≤ most_classes → most_sites < length p.sites → r ≡ at_start TooManySites
      → IsTooMany p r
