use Rattle.std.proofs.Common.{◌≡◌, ℕ, List, rules, sym, subst}
use Rattle.std.specs.Prelude.{IsUtf8, string_bytes}
use Rattle.token_lines.specs.Lines.{lines_text}
use Rattle.tree_print.specs.ReadsBack.{ReadsBack}
use Rattle.tree_print.specs.ScriptLines.{script_lines}
use Rattle.tree_print.proofs.PrintedReads.{printed_utf8, reads_back}
use Rattle.tree_print.proofs.printing.print_script.Goals as goal

pub unwrap-requires : goal.unwrap-requires
unwrap-requires c = c.from_utf8.ensures.succeeds (subst IsUtf8 (sym c.in_ok-bytes.ensures) (printed_utf8 c.args.script.now c.requires))

pub returns-clause-reads_back : goal.returns-clause-reads_back
returns-clause-reads_back c =
    let is : string_bytes c.unwrap.result ≡ lines_text (script_lines c.args.script.now) = search rules in
    let Reads : List ℕ → Type 0 = λ text. ReadsBack text c.args.script.now in
    subst Reads (sym is) (reads_back c.args.script.now c.requires)
