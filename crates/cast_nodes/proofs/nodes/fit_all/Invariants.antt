use Rattle.std.proofs.Common.{◌≡◌, []}
use Rattle.std.specs.Slice.Iter.{iter_rest}
use Rattle.std.specs.Iterator.Adapters.{zip_first, zip_second}
use Rattle.cast_nodes.specs.computed.Noded.{fit_all}
use Rattle.cast_nodes.proofs.nodes.fit_all.Given as goal

abbrev pub invariant-loop-site : goal.invariant-loop-site
invariant-loop-site l = fit_all l.all (iter_rest (zip_first l.site-iterator)) (iter_rest (zip_second l.site-iterator)) ≡ fit_all [] l.sites l.parts
