use Rattle.std.proofs.Common.{arith}
use Rattle.mono_list.proofs.Reversed.{set_back}
use Rattle.mono_list.proofs.stack.put_back.Goals as goal

pub returns-then-at-len : goal.returns-then-at-len
returns-then-at-len g c = set_back c.args.items.now.items c.args.at _ c.args.item (omega (arith, c.args.items.now.ok))
