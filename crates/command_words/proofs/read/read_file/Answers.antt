use Rattle.std.proofs.Common.{List, [], map, string_bytes, sym, subst}
use Rattle.std.proofs.lemmas.Result.{err_from_is_err_and, IfErr-weaker, IfOk-weaker}
use Rattle.clap.specs.Matches.{found_of}
use Rattle.clap.specs.Simple.{app_of}
use Rattle.clap.specs.Walk.{Row, rows_of}
use Rattle.command_words.specs.computed.Texts.{IsFileIn}
use Rattle.command_words.proofs.Whole.{file_simple}
use Rattle.command_words.proofs.Commands.{Matched, file_line, file_taken, matched, refused, words_utf8}
use Rattle.command_words.proofs.read.read_file.Goals as goal

pub returns-in_err-matches-clause-usage : goal.returns-in_err-matches-clause-usage
returns-in_err-matches-clause-usage c =
    let p = err_from_is_err_and c.from_residual-in_err-matches.result c.from_residual-in_err-matches.ensures.1 in
    let q = c.in_err-matches.ensures.usage in
    let words = map (λ w. string_bytes w) c.args.words.now in
    rw (p.1, p.2) (λ usage f g. refused [] words (app_of c.in_ok-file_parser.field-0) c.in_ok-file_parser.ensures file_simple
    (λ s clean. q s usage clean) (file_taken words f g).0)

pub returns-clause-file : goal.returns-clause-file
returns-clause-file c =
    let words = map (λ w. string_bytes w) c.args.words.now in
    let rows = rows_of (found_of c.in_ok-matches.matches) in
    let m : Matched [] words rows = matched [] words
    (app_of c.in_ok-file_parser.field-0) rows c.in_ok-file_parser.ensures file_simple c.in_ok-matches.ensures.taken
    c.in_ok-matches.ensures.rows in
    IfOk-weaker c.file_in.result _ _ (λ f i. file_line words rows (words_utf8 c.args.words.now) m (string_bytes f) i) c.file_in.ensures.file

pub returns-clause-usage : goal.returns-clause-usage
returns-clause-usage c =
    let words = map (λ w. string_bytes w) c.args.words.now in
    let rows = rows_of (found_of c.in_ok-matches.matches) in
    let m : Matched [] words rows = matched [] words
    (app_of c.in_ok-file_parser.field-0) rows c.in_ok-file_parser.ensures file_simple c.in_ok-matches.ensures.taken
    c.in_ok-matches.ensures.rows in
    IfErr-weaker c.file_in.result _ _ (λ e h usage f g. h usage f
    (subst (λ (rs : List Row). IsFileIn rs f) (sym m.rows) (file_taken words f g).1)) c.file_in.ensures.usage
