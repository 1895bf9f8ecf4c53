use Rattle.std.proofs.Common.{List, map, string_bytes, sym, subst}
use Rattle.std.proofs.lemmas.Result.{err_from_is_err_and}
use Rattle.clap.specs.Matches.{found_of}
use Rattle.clap.specs.Simple.{app_of}
use Rattle.clap.specs.Walk.{Row, rows_of}
use Rattle.command_words.specs.CommandLine.{step_options}
use Rattle.command_words.specs.computed.Texts.{AreSettingsIn, AreTasksIn, IsSeedIn}
use Rattle.command_words.proofs.Whole.{step_simple}
use Rattle.command_words.proofs.Commands.{Matched, matched, only_stress, refused, stress_line, stress_taken, words_utf8}
use Rattle.command_words.proofs.read.read_stress.Goals as goal

pub returns-in_err-matches-clause-usage : goal.returns-in_err-matches-clause-usage
returns-in_err-matches-clause-usage c =
    let p = err_from_is_err_and c.from_residual-in_err-matches.result c.from_residual-in_err-matches.ensures.1 in
    let q = c.in_err-matches.ensures.usage in
    let words = map (λ w. string_bytes w) c.args.words.now in
    rw (p.1, p.2) (λ usage. only_stress words (λ s n k i. refused step_options words
    (app_of c.in_ok-step_parser.field-0) c.in_ok-step_parser.ensures step_simple (λ s clean. q s usage clean)
    (stress_taken words s n k i).0))

pub returns-in_err-settings-clause-usage : goal.returns-in_err-settings-clause-usage
returns-in_err-settings-clause-usage c =
    let p = err_from_is_err_and c.from_residual-in_err-settings.result c.from_residual-in_err-settings.ensures.1 in
    let words = map (λ w. string_bytes w) c.args.words.now in
    let rows = rows_of (found_of c.in_ok-matches.matches) in
    let m : Matched step_options words rows = matched step_options words
    (app_of c.in_ok-step_parser.field-0) rows c.in_ok-step_parser.ensures step_simple c.in_ok-matches.ensures.taken
    c.in_ok-matches.ensures.rows in
    rw (p.1, p.2) (λ usage. only_stress words (λ s n k i. c.in_err-settings.ensures.usage usage s
    (subst (λ (rs : List Row). AreSettingsIn rs s) (sym m.rows) (stress_taken words s n k i).1)))

pub returns-in_err-seed-clause-usage : goal.returns-in_err-seed-clause-usage
returns-in_err-seed-clause-usage c =
    let p = err_from_is_err_and c.from_residual-in_err-seed.result c.from_residual-in_err-seed.ensures.1 in
    let words = map (λ w. string_bytes w) c.args.words.now in
    let rows = rows_of (found_of c.in_ok-matches.matches) in
    let m : Matched step_options words rows = matched step_options words
    (app_of c.in_ok-step_parser.field-0) rows c.in_ok-step_parser.ensures step_simple c.in_ok-matches.ensures.taken
    c.in_ok-matches.ensures.rows in
    rw (p.1, p.2) (λ usage. only_stress words (λ s n k i. c.in_err-seed.ensures.usage usage n
    (subst (λ (rs : List Row). IsSeedIn rs n) (sym m.rows) (stress_taken words s n k i).2)))

pub returns-in_err-tasks-clause-usage : goal.returns-in_err-tasks-clause-usage
returns-in_err-tasks-clause-usage c =
    let p = err_from_is_err_and c.from_residual-in_err-tasks.result c.from_residual-in_err-tasks.ensures.1 in
    let words = map (λ w. string_bytes w) c.args.words.now in
    let rows = rows_of (found_of c.in_ok-matches.matches) in
    let m : Matched step_options words rows = matched step_options words
    (app_of c.in_ok-step_parser.field-0) rows c.in_ok-step_parser.ensures step_simple c.in_ok-matches.ensures.taken
    c.in_ok-matches.ensures.rows in
    rw (p.1, p.2) (λ usage. only_stress words (λ s n k i. c.in_err-tasks.ensures.usage usage k
    (subst (λ (rs : List Row). AreTasksIn rs k) (sym m.rows) (stress_taken words s n k i).3)))

pub returns-clause-command : goal.returns-clause-command
returns-clause-command c =
    let words = map (λ w. string_bytes w) c.args.words.now in
    let rows = rows_of (found_of c.in_ok-matches.matches) in
    let m : Matched step_options words rows = matched step_options words
    (app_of c.in_ok-step_parser.field-0) rows c.in_ok-step_parser.ensures step_simple c.in_ok-matches.ensures.taken
    c.in_ok-matches.ensures.rows in
    stress_line words rows (words_utf8 c.args.words.now) m c.in_ok-settings.settings c.in_ok-seed.seed c.in_ok-tasks.tasks
    c.in_ok-settings.ensures.settings c.in_ok-seed.ensures.seed c.in_ok-tasks.ensures.tasks
