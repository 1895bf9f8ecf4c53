use Rattle.std.proofs.Common.{List, map, string_bytes, sym, subst}
use Rattle.std.proofs.lemmas.Result.{err_from_is_err_and}
use Rattle.clap.specs.Matches.{found_of}
use Rattle.clap.specs.Simple.{app_of}
use Rattle.clap.specs.Walk.{Row, rows_of}
use Rattle.command_words.specs.CommandLine.{run_options}
use Rattle.command_words.specs.computed.Texts.{AreSettingsIn, IsFileIn}
use Rattle.command_words.proofs.Whole.{run_simple}
use Rattle.command_words.proofs.Commands.{Matched, matched, only_run, refused, run_line, run_taken, words_utf8}
use Rattle.command_words.proofs.read.read_run.Goals as goal

pub returns-in_err-matches-clause-usage : goal.returns-in_err-matches-clause-usage
returns-in_err-matches-clause-usage c =
    let p = err_from_is_err_and c.from_residual-in_err-matches.result c.from_residual-in_err-matches.ensures.1 in
    let q = c.in_err-matches.ensures.usage in
    let words = map (λ w. string_bytes w) c.args.words.now in
    rw (p.1, p.2) (λ usage. only_run words (λ s f i. refused run_options words
    (app_of c.in_ok-run_parser.field-0) c.in_ok-run_parser.ensures run_simple (λ s clean. q s usage clean) (run_taken words s f i).0))

pub returns-in_err-settings-clause-usage : goal.returns-in_err-settings-clause-usage
returns-in_err-settings-clause-usage c =
    let p = err_from_is_err_and c.from_residual-in_err-settings.result c.from_residual-in_err-settings.ensures.1 in
    let words = map (λ w. string_bytes w) c.args.words.now in
    let rows = rows_of (found_of c.in_ok-matches.matches) in
    let m : Matched run_options words rows = matched run_options words
    (app_of c.in_ok-run_parser.field-0) rows c.in_ok-run_parser.ensures run_simple c.in_ok-matches.ensures.taken
    c.in_ok-matches.ensures.rows in
    rw (p.1, p.2) (λ usage. only_run words (λ s f i. c.in_err-settings.ensures.usage usage s
    (subst (λ (rs : List Row). AreSettingsIn rs s) (sym m.rows) (run_taken words s f i).1)))

pub returns-in_err-file-clause-usage : goal.returns-in_err-file-clause-usage
returns-in_err-file-clause-usage c =
    let p = err_from_is_err_and c.from_residual-in_err-file.result c.from_residual-in_err-file.ensures.1 in
    let words = map (λ w. string_bytes w) c.args.words.now in
    let rows = rows_of (found_of c.in_ok-matches.matches) in
    let m : Matched run_options words rows = matched run_options words
    (app_of c.in_ok-run_parser.field-0) rows c.in_ok-run_parser.ensures run_simple c.in_ok-matches.ensures.taken
    c.in_ok-matches.ensures.rows in
    rw (p.1, p.2) (λ usage. only_run words (λ s f i. c.in_err-file.ensures.usage usage (string_bytes f)
    (subst (λ (rs : List Row). IsFileIn rs (string_bytes f)) (sym m.rows) (run_taken words s f i).2)))

pub returns-clause-command : goal.returns-clause-command
returns-clause-command c =
    let words = map (λ w. string_bytes w) c.args.words.now in
    let rows = rows_of (found_of c.in_ok-matches.matches) in
    let m : Matched run_options words rows = matched run_options words
    (app_of c.in_ok-run_parser.field-0) rows c.in_ok-run_parser.ensures run_simple c.in_ok-matches.ensures.taken
    c.in_ok-matches.ensures.rows in
    run_line words rows (words_utf8 c.args.words.now) m c.in_ok-settings.settings c.in_ok-file.file c.in_ok-settings.ensures.settings
    c.in_ok-file.ensures.file
