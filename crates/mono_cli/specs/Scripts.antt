-- What a script's bytes come to: their first refusal, or what a command makes of their program: a run, which is safe, its text, its
-- casts, or its types.
use Rattle.std.specs.Prelude.{◌≡◌, ◌⊎◌, ◌≤◌, ◌^◌, ℕ, true, List, Some, is_some}
use Rattle.mono_syntax.specs.declared.cast.CastScript.{CastScript}
use Rattle.mono_syntax.specs.declared.refusal.Refusal.{Refusal}
use Rattle.load_script.specs.declared.accepted.Accepted.{Accepted}
use Rattle.load_script.specs.Phases.{IsFirstRefusal, IsProgramOf}
use Rattle.cast_machine.specs.declared.data.End.{End}
use Rattle.cast_machine.specs.declared.data.Settings.{Settings}
use Rattle.cast_machine.specs.Step.{Configuration, start_of, run_of, IsSeededRun}
use Rattle.cast_machine.specs.Safety.{IsSafe}
use Rattle.mono_syntax.specs.declared.tree.Script.{Script}
use Rattle.tree_print.specs.ReadsBack.{ReadsBack}
use Rattle.mono_cli.specs.declared.verb.Verb.{Verb}
use Rattle.mono_cli.specs.declared.verb.Verb.TheVariants as verb
use Rattle.cast_lines.specs.declared.rows.Row.{Row}
use Rattle.cast_lines.specs.CastLines.{AreRows}
use Rattle.mono_cli.specs.Answer.{Answer, refused, ended, listed, passed, casts_listed, types_listed, head_text, headed}

-- The run of the program p within the limits s and in the order of the seed ends at c. However the threads of p take turns, no
-- configuration is stuck, every heap is well typed, types only gain precision, and no cast that only loses precision is blamed.
pub record RunsTo (p : CastScript) (s : Settings) (seed : ℕ) (c : Configuration) : Type 0 where
  pub order : List ℕ
  pub seeded : IsSeededRun p (start_of p s) seed order
  pub reaches : c ≡ run_of p s order
  pub ends : is_some c.end ≡ true
  pub safe : (picks : List ℕ) → IsSafe p (run_of p s picks)

-- the answer is that of the refusal of these bytes
pub record IsRefusedAnswer (text : List ℕ) (a : Answer) : Type 0 where
  pub refusal : Refusal
  pub first : IsFirstRefusal text refusal
  pub says : a ≡ refused refusal

-- the answer is that of a run of p: all that it printed, and its end
pub record IsRunAnswer (p : CastScript) (s : Settings) (seed : ℕ) (a : Answer) : Type 0 where
  pub last : Configuration
  pub end : End
  pub run : RunsTo p s seed last
  pub ends : last.end ≡ Some end
  pub says : a ≡ ended p last.lines end

-- the answer is one of this kind behind a head line
pub record IsHeaded (head : List ℕ) (Is : Answer → Type 0) (a : Answer) : Type 0 where
  pub inner : Answer
  pub is : Is inner
  pub says : a ≡ headed head inner

-- the answer lists the script s, and what is put on out reads back: it has the same tree but for places
pub record IsListing (s : Script) (a : Answer) : Type 0 where
  pub says : a ≡ listed s
  pub reads : ReadsBack a.out s

-- the answer lists the casts of p by their places, of two at one place the inner one first
pub record IsCastList (p : CastScript) (a : Answer) : Type 0 where
  pub rows : List Row
  pub are : AreRows p.sites rows
  pub says : a ≡ casts_listed p rows

-- the limits of a run leave each thread some steps, and not too many to count; a stress script has up to 200 tasks
abbrev pub IsFueled : Verb → Type 0
IsFueled (verb.Step s seed) = (1 ≤ s.fuel) × (s.fuel ≤ 2 ^ 40)
IsFueled (verb.Stress s seed n) = (1 ≤ s.fuel) × (s.fuel ≤ 2 ^ 40) × (n ≤ 200)
IsFueled _ = Unit {0}

-- the answer of a command to an accepted script
abbrev pub IsAccepted : Verb → Accepted → Answer → Type 0
IsAccepted verb.Check p a = a ≡ passed
IsAccepted verb.Show p a = IsListing p.script.scoped.script a
IsAccepted verb.Casts p a = IsCastList p.script a
IsAccepted verb.Types p a = a ≡ types_listed ((p.program).table).types
IsAccepted (verb.Step s seed) p a = IsRunAnswer p.script s seed a
IsAccepted (verb.Stress s seed n) p a = IsHeaded (head_text n) (IsRunAnswer p.script s seed) a

-- the answer is that of the command to these bytes' program
pub record IsProgramAnswer (v : Verb) (text : List ℕ) (a : Answer) : Type 0 where
  pub program : Accepted
  pub is : IsProgramOf text program
  pub accepted : IsAccepted v program a

-- the answer to these bytes: their refusal exactly where they have one, and else what the command makes of their program
pub record AnswersText (v : Verb) (text : List ℕ) (a : Answer) : Type 0 where
  pub refuses : (r : Refusal) → IsFirstRefusal text r → a ≡ refused r
  pub answers : IsRefusedAnswer text a ⊎ IsProgramAnswer v text a
