use Rattle.std.proofs.Common.{sym, ◌∙◌}
use Rattle.calculus_data.proofs.HeapWrites.{absent}
use Rattle.calculus_data.proofs.Starts.{place_object}
use Rattle.calculus_data.proofs.heap.object_in.Goals as goal

pub returns-in-Some : goal.returns-in-Some
returns-in-Some c = c.object_number.ensures ∙ place_object c.args.objects.now c.args.base c.in-Some.at (c.in-Some.ensures c.args.objects.now c.requires.starts)

pub returns-in-None : goal.returns-in-None
returns-in-None c = sym (absent c.args.objects.now c.args.base 0 (sym (c.in-None.ensures c.args.objects.now c.requires.starts)))
