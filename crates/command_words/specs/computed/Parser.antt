-- What the parser of a command's words reads of its arguments.
use Rattle.std.specs.Prelude.{ℕ, true, List, [], ◌∷◌, map, Option, Some, None, codes, if◌then◌else◌}
use Rattle.std.specs.Str.{bytes_eq}
use Rattle.clap.specs.Simple.{App, new_rule, new_shape}
use Rattle.clap.specs.Walk.{Rule}
use Rattle.clap.specs.declared.builder.action.ArgAction.TheVariants.{Set}

-- an option with one value
abbrev pub option_rule : List ℕ → Rule
option_rule name = record (new_rule name) { long = Some name; action = Some Set }

-- the last word, which must stand
abbrev pub last_rule : Rule
last_rule = record (new_rule (codes "last")) { required = true; action = Some Set }

-- the parser with these options
abbrev pub parser_app : List (List ℕ) → App
parser_app names = record {
  top = record (new_shape (codes "mono")) {
    rules = last_rule ∷ map option_rule names;
    no_binary_name = true;
    disable_help_flag = true;
    disable_version_flag = true;
  };
  subs = [];
}

-- the text of the first option of this name
abbrev pub look : List ℕ → List (List ℕ × List ℕ) → Option (List ℕ)
look name [] = None
look name (o ∷ options) = if bytes_eq o.0 name then Some o.1 else look name options
