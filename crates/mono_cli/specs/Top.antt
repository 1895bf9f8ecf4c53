-- What the top call says, clause by clause.
use Rattle.std.specs.Prelude.{◌≡◌, ◌≢◌, ◌≤◌, ◌⊎◌, ℕ, List, Option, Some}
use Rattle.mono_io.specs.Faults.{Rose}
use Rattle.mono_syntax.specs.declared.refusal.Refusal.{Refusal}
use Rattle.cast_machine.specs.declared.data.Settings.{Settings}
use Rattle.cast_machine.specs.Step.{run_of}
use Rattle.cast_machine.specs.Safety.{IsSafe}
use Rattle.command_words.specs.CommandLine.{IsCommandLine}
use Rattle.command_words.specs.declared.command.Command.{Command}
use Rattle.load_script.specs.declared.accepted.Accepted.{Accepted}
use Rattle.load_script.specs.Phases.{IsFirstRefusal, IsProgramOf}
use Rattle.mono_cli.specs.Answer.{Answer, refused}
use Rattle.mono_cli.specs.Commands.{IsAnswer, file_of}
use Rattle.mono_cli.specs.Putting.{Stream, HasFailed, Gets, GetsPart, GetsNothing, PutsAnswer, PutsWhole}

-- what a command is asked: its words, what the shelf tells by name, and the shelf's counts of faults before the command and behind it
pub record Asked : Type 0 where
  pub words : List (List ℕ)
  pub files : List ℕ → Option (List ℕ)
  pub faults : ℕ
  pub faults_after : ℕ

abbrev pub asked : List (List ℕ) → (List ℕ → Option (List ℕ)) → ℕ → ℕ → Asked
asked words files n n' = record { words = words; files = files; faults = n; faults_after = n' }

-- the answer to what is asked
abbrev pub Answers : Asked → Answer → Type 0
Answers q a = IsAnswer q.words q.files q.faults q.faults_after a

-- the words name a file, and these are the bytes that the shelf tells for it
pub record HasText (q : Asked) (text : List ℕ) : Type 0 where
  pub command : Command
  pub file : List ℕ
  pub is : IsCommandLine q.words command
  pub names : file_of command ≡ Some file
  pub told : q.files file ≡ Some text

-- A script is refused exactly where the rules refuse it: where they do and no fetch fails, their refusal is the answer; and the status of a
-- refusal comes for no other script.
pub record RefusesExactly (q : Asked) (out err : Stream) (status : ℕ) : Type 0 where
  pub refused_by_rules : (text : List ℕ) (r : Refusal) → HasText q text → (Rose q.faults q.faults_after → ⊥) → IsFirstRefusal text r
      → PutsAnswer (λ a. a ≡ refused r) out err status
  pub nothing_else : (text : List ℕ) → HasText q text → status ≡ 1 → (r : Refusal) × IsFirstRefusal text r

-- The err line is put last: where err got anything, out had got all of an answer, and err got its line or a part of it. Where there was no
-- memory err gets nothing.
pub record PutsErrLast (q : Asked) (out err : Stream) (status : ℕ) : Type 0 where
  pub last : GetsNothing err ⊎ ((a : Answer) × Answers q a × Gets out a.out × GetsPart err a.err)
  pub memory : status ≡ 8 → GetsNothing err

-- Each status has its cause: up to 6 it is that of an answer all of which was put; 7 says that a put failed; and 8, which is the last, that
-- there was no memory. Where no count of faults rose, all of an answer was put unless there was no memory.
pub record HasCause (q : Asked) (out err : Stream) (status : ℕ) : Type 0 where
  pub whole : status ≤ 6 → PutsWhole (Answers q) out err status
  pub failed : status ≡ 7 → HasFailed out ⊎ HasFailed err
  pub most : status ≤ 8
  pub complete : (HasFailed out → ⊥) → (HasFailed err → ⊥) → status ≢ 8 → PutsWhole (Answers q) out err status

-- Whatever its limits, and in whatever order its threads take their steps, every run of an accepted script is safe.
abbrev pub RunsSafely : Asked → Type 0
RunsSafely q =
    (text : List ℕ) (p : Accepted) → HasText q text → IsProgramOf text p → (s : Settings) → 1 ≤ s.fuel → (picks : List ℕ)
    → IsSafe p.script (run_of p.script s picks)
