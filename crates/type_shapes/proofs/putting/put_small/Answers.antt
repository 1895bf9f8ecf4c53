use Rattle.std.proofs.Common.{◌≡◌, Bool, true, false, not, sym, subst, List, length, ◌<◌, ◌≤◌, arith}
use Rattle.std.specs.List.{list_any}
use Rattle.mono_syntax.specs.Ty.{Ty}
use Rattle.mono_syntax.specs.computed.TyEq.{ty_eq}
use Rattle.mono_tree.specs.ClosedList.{put}
use Rattle.type_shapes.specs.Limits.{IsWithinLimits, IsFault}
use Rattle.type_shapes.proofs.LimitLaws.{many_put, fine_put}
use Rattle.type_shapes.proofs.putting.put_small.Goals as goal

absent : (x b : Bool) → x ≡ not b → x ≡ true → b ≡ false
absent x true e f = cc
absent x false e f = cc

pub returns-then-len-gt-MOST_TYPES-clause-fault : goal.returns-then-len-gt-MOST_TYPES-clause-fault
returns-then-len-gt-MOST_TYPES-clause-fault c =
    let n : list_any (ty_eq c.args.ty) c.args.set.now.keys ≡ false = absent _ _ c.in_ok-added.ensures.added c.if-not-added.false in
    let k : c.insert.new.self.keys ≡ put c.args.set.now.keys c.args.ty = c.in_ok-added.ensures.keys in
    let l : 4095 < length c.insert.new.self.keys = omega (arith, c.len.ensures.len) in
    subst (IsFault (put c.args.set.now.keys c.args.ty)) (sym c.refusal.ensures)
    (many_put c.args.set.now.keys c.args.ty c.requires.fine n c.requires.small (subst (λ (x : List Ty). 4095 < length x) k l))

pub returns-clause-fine : goal.returns-clause-fine
returns-clause-fine c =
    let n : list_any (ty_eq c.args.ty) c.args.set.now.keys ≡ false = absent _ _ c.in_ok-added.ensures.added c.if-not-added.false in
    let k : c.insert.new.self.keys ≡ put c.args.set.now.keys c.args.ty = c.in_ok-added.ensures.keys in
    let l : length c.insert.new.self.keys ≤ 4095 = omega (arith, c.len.ensures.len) in
    subst IsWithinLimits (sym k)
    (fine_put c.args.set.now.keys c.args.ty c.requires.fine n c.requires.small (subst (λ (x : List Ty). length x ≤ 4095) k l))
