-- The answer of a command.
use Rattle.std.specs.Prelude.{◌≡◌, ◌⊎◌, ◌≤◌, ℕ, List, Option, Some, None, string_bytes}
use Rattle.mono_io.specs.Faults.{Rose, IsTold}
use Rattle.command_words.specs.CommandLine.{IsCommandLine, IsUsage}
use Rattle.command_words.specs.declared.command.Command.{Command}
use Rattle.command_words.specs.declared.command.Command.TheVariants as command
use Rattle.mono_cli.specs.declared.verb.Verb.{Verb}
use Rattle.mono_cli.specs.declared.verb.Verb.TheVariants as verb
use Rattle.stress_gen.specs.StressText.{stress_text}
use Rattle.mono_cli.specs.Answer.{Answer, usage, unfetched}
use Rattle.mono_cli.specs.Scripts.{AnswersText, IsFueled}

-- the answer to the bytes that are told, and to some bytes where none are told
pub record AnswersTold (v : Verb) (told : Option (List ℕ)) (a : Answer) : Type 0 where
  pub bytes : List ℕ
  pub are_told : IsTold told bytes
  pub answers : AnswersText v bytes a

-- The answer to a file, where the shelf tells these bytes by name; its counts of faults are s before the command and s' after it. That the
-- fetch failed is answered only where the count rose.
abbrev pub AnswersFile : Verb → List ℕ → (List ℕ → Option (List ℕ)) → ℕ → ℕ → Answer → Type 0
AnswersFile v file told s s' a = AnswersTold v (told file) a ⊎ (Rose s s' × (a ≡ unfetched))

-- the answer to a command; `run` isn't served, and `stress` makes its script itself
abbrev pub AnswersCommand : Command → (List ℕ → Option (List ℕ)) → ℕ → ℕ → Answer → Type 0
AnswersCommand (command.Check file) told s s' a = AnswersFile verb.Check (string_bytes file) told s s' a
AnswersCommand (command.Show file) told s s' a = AnswersFile verb.Show (string_bytes file) told s s' a
AnswersCommand (command.Casts file) told s s' a = AnswersFile verb.Casts (string_bytes file) told s s' a
AnswersCommand (command.Types file) told s s' a = AnswersFile verb.Types (string_bytes file) told s s' a
AnswersCommand (command.Step settings seed file) told s s' a = AnswersFile (verb.Step settings seed) (string_bytes file) told s s' a
AnswersCommand (command.Run settings file) told s s' a = a ≡ usage
AnswersCommand (command.Stress settings seed n) told s s' a = AnswersText (verb.Stress settings seed n) (stress_text n) a

-- the answer to words: the one to the command that they ask for, and usage where they ask for none
abbrev pub IsAnswer : List (List ℕ) → (List ℕ → Option (List ℕ)) → ℕ → ℕ → Answer → Type 0
IsAnswer words told s s' a =
    ((c : Command) × IsCommandLine words c × AnswersCommand c told s s' a) ⊎ (IsUsage words × (a ≡ usage))

-- the file of a command that is served
abbrev pub file_of : Command → Option (List ℕ)
file_of (command.Check file) = Some (string_bytes file)
file_of (command.Show file) = Some (string_bytes file)
file_of (command.Casts file) = Some (string_bytes file)
file_of (command.Types file) = Some (string_bytes file)
file_of (command.Step settings seed file) = Some (string_bytes file)
file_of _ = None

-- a command whose script may be run as it says
abbrev pub IsServable : Command → Type 0
IsServable (command.Step settings seed file) = IsFueled (verb.Step settings seed)
IsServable (command.Stress settings seed n) = (1 ≤ n) × IsFueled (verb.Stress settings seed n)
IsServable _ = Unit {0}
