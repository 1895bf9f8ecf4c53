-- The text of a script that the grammar gives reads back.
use Rattle.std.proofs.Common.{ℕ, List}
use Rattle.std.specs.Str.{IsUtf8}
use Rattle.mono_syntax.specs.declared.tree.Script.{Script}
use Rattle.spelled_tokens.specs.SpelledTokens.{all_spelled}
use Rattle.token_lines.specs.Back.{LexesAs}
use Rattle.token_lines.specs.Lines.{lines_text, whats_of_lines}
use Rattle.token_lines.specs.Writable.{AreLines}
use Rattle.token_lines.proofs.LinesLex.{lines_utf8, lines_lex}
use Rattle.token_lines.proofs.Sound.{sound_tokens}
use Rattle.tree_print.specs.ReadsBack.{IsGrammatical, ReadsBack}
use Rattle.tree_print.specs.ScriptLines.{script_lines}
use Rattle.tree_print.proofs.LinesAre.{lines_are}
use Rattle.tree_print.proofs.ScriptBack.{reads_lines}

-- its lines can be written
lines_of : (s : Script) → IsGrammatical s → AreLines 0 (script_lines s)
lines_of s g =
    lines_are (all_spelled g.source g.has_tree.tokens) s g.has_tree.derives (sound_tokens g.source g.has_tree.tokens g.has_tree.is_text g.has_tree.lexes)

pub printed_utf8 : (s : Script) → IsGrammatical s → IsUtf8 (lines_text (script_lines s))
printed_utf8 s g = lines_utf8 0 (script_lines s) (lines_of s g)

pub reads_back : (s : Script) → IsGrammatical s → ReadsBack (lines_text (script_lines s)) s
reads_back s g =
    let text : List ℕ = lines_text (script_lines s) in
    let l : LexesAs text (whats_of_lines 0 (script_lines s)) = lines_lex (script_lines s) (lines_of s g) in
    let r = reads_lines (all_spelled g.source g.has_tree.tokens) s g.has_tree.derives (all_spelled text l.tokens) l.are in
    record {
      tree = r.0;
      has_tree = record { is_text = printed_utf8 s g; tokens = l.tokens; lexes = l.lexes; derives = r.1 };
      same = r.2;
    }
