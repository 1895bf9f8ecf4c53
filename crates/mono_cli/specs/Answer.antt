-- The answers of a command.
use Rattle.std.specs.Prelude.{ℕ, ◌+◌, ◌*◌, List, [], ◌∷◌, ◌++◌, Option, None, Some, codes, decimal}
use Rattle.mono_syntax.specs.declared.cast.CastScript.{CastScript}
use Rattle.cast_lines.specs.declared.rows.Row.{Row}
use Rattle.cast_lines.specs.CastLines.{rows_text}
use Rattle.mono_syntax.specs.declared.refusal.Refusal.{Refusal}
use Rattle.mono_syntax.specs.declared.tree.Script.{Script}
use Rattle.mono_syntax.specs.declared.value.Val.{Val}
use Rattle.mono_syntax.specs.Ty.{Ty}
use Rattle.mono_tree.specs.TypeText.{text_of}
use Rattle.token_lines.specs.Lines.{lines_text}
use Rattle.tree_print.specs.ScriptLines.{script_lines}
use Rattle.cast_machine.specs.declared.data.End.{End}
use Rattle.mono_cli.specs.Texts.{rendered}
use Rattle.run_report.specs.Ends.{refusal_text, end_line, status_of}

-- a status, the bytes for out and the bytes for err
pub record Answer : Type 0 where
  pub status : ℕ
  pub out : List ℕ
  pub err : List ℕ

-- the answer to words that are no command line
abbrev pub usage : Answer
usage = record { status = 2; out = []; err = codes "usage: mono check|show|casts|types|step|run|stress [OPTIONS] FILE\n" }

-- the answer to a fetch that failed
abbrev pub unfetched : Answer
unfetched = record { status = 6; out = []; err = codes "error: script not fetched\n" }

-- the answer to a script that is refused
abbrev pub refused : Refusal → Answer
refused r = record { status = 1; out = []; err = refusal_text r }

-- an err line where there is one
abbrev pub line_text : Option (List ℕ) → List ℕ
line_text None = []
line_text (Some line) = line

-- the answer to a script that printed these lines and came to this end
abbrev pub ended : CastScript → List (List Val) → End → Answer
ended p lines e = record { status = status_of e; out = rendered p.scoped.script.items lines; err = line_text (end_line p.sites e) }

-- the head line of the output of the stress script of n tasks
abbrev pub head_text : ℕ → List ℕ
head_text n = codes "stress " ++ (decimal n ++ (codes ": " ++ (decimal (12 + 7 * n) ++ codes " lines\n")))

-- an answer behind a head line
abbrev pub headed : List ℕ → Answer → Answer
headed head a = record a { out = head ++ a.out }

-- the answer that lists a script
abbrev pub listed : Script → Answer
listed s = record { status = 0; out = lines_text (script_lines s); err = [] }

-- the answer to a script in which nothing is wrong
abbrev pub passed : Answer
passed = record { status = 0; out = codes "ok\n"; err = [] }

-- the answer that lists the casts of a script, in this order
abbrev pub casts_listed : CastScript → List Row → Answer
casts_listed p rows = record { status = 0; out = rows_text p rows; err = [] }

-- a line for each type: its number, which goes on from n, a space, and its text
abbrev pub types_text : ℕ → List Ty → List ℕ
types_text n [] = []
types_text n (t ∷ ts) = decimal n ++ (32 ∷ (text_of t ++ (10 ∷ types_text (n + 1) ts)))

-- the answer that lists types
abbrev pub types_listed : List Ty → Answer
types_listed ts = record { status = 0; out = types_text 0 ts; err = [] }
