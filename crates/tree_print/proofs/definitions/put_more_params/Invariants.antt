use Rattle.std.proofs.Common.{◌≡◌, drop}
use Rattle.token_lines.specs.Sheets.{written}
use Rattle.tree_print.specs.ScriptLines.{more_params_tokens}
use Rattle.tree_print.proofs.definitions.put_more_params.Given as goal

-- the page so far, and the parameters that are left
abbrev pub invariant-loop-param : goal.invariant-loop-param
invariant-loop-param l = written l.page (more_params_tokens (drop l.param-index l.list)) ≡ written l.initial.page (more_params_tokens l.list)
