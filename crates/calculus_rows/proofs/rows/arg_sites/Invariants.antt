use Rattle.std.proofs.Common.{◌≡◌, ◌++◌, drop}
use Rattle.mono_syntax.specs.CastExprView.{args}
use Rattle.mono_tree.specs.CastScripts.{sites_of}
use Rattle.calculus_rows.proofs.rows.arg_sites.Given as goal

abbrev pub invariant-loop-arg : goal.invariant-loop-arg
invariant-loop-arg l = l.sites ++ sites_of (args (drop l.arg-index l.given)) ≡ sites_of (args l.given)
