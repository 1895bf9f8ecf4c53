use Rattle.std.proofs.Common.{◌≡◌, drop}
use Rattle.cast_insert.specs.computed.Scripted.{with_sites, no_sites}
use Rattle.cast_insert.proofs.numbering.table_of.Given as goal

abbrev pub invariant-loop-site : goal.invariant-loop-site
invariant-loop-site l = with_sites l.table (drop l.site-index l.all) ≡ with_sites no_sites l.all
