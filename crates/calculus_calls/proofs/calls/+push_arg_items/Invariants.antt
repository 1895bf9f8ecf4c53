use Rattle.std.proofs.Common.{length}
use Rattle.calculus_calls.proofs.calls.+push_arg_items.Given as goal

abbrev pub decreases-push_arg_items : goal.decreases-push_arg_items
decreases-push_arg_items l = length l.sites.now
