use Rattle.std.proofs.Common.{◌≡◌, ◌∙◌, ◌++◌, ◌∷◌, [], ◌+◌, ap, sym, subst, take, List, Some, None, arith}
use Rattle.std.proofs.lemmas.List.{take_more, take_all}
use Rattle.mono_syntax.specs.declared.cast.Arg.{Arg}
use Rattle.mono_syntax.specs.declared.cast.CastExprKind.{CastExprKind}
use Rattle.mono_syntax.specs.CastExpr.{CastExpr, call}
use Rattle.mono_syntax.specs.CastExprView.{args, cast_exprs, cast_expr_of}
use Rattle.node_code.specs.NodeMeaning.{Trees, IsMeant, IsArg, IsValue}
use Rattle.node_code.specs.Numbering.{Gives, GivesValues, GivesArgs}
use Rattle.node_code.specs.Places.{At, Each}
use Rattle.node_code.specs.Slotted.{IsSlotted, AreSlotted, ArgsSlotted}
use Rattle.node_code.specs.declared.data.ArgNode.{ArgNode}
use Rattle.node_code.specs.declared.data.Slots.{Slots}
use Rattle.node_code.specs.declared.put.Many.{Many}
use Rattle.node_code.proofs.Growing.{args_kept, args_listed_ok, args_more, gives_on, none_yet, texted, values_kept, values_listed_ok}
use Rattle.node_code.proofs.Growing.{values_more}
use Rattle.node_code.proofs.Slotting.{arg_slotted, value_slotted}
use Rattle.node_code.proofs.exprs.+exprs.Goals as goal

-- what the names of an expression of this kind are
slotted : (s : Slots) (k l : CastExprKind) → k ≡ l → IsSlotted s (cast_expr_of k) → IsSlotted s (cast_expr_of l)
slotted s k l e u = subst (λ (z : CastExprKind). IsSlotted s (cast_expr_of z)) e u

pub number_values-returns : goal.number_values-returns
number_values-returns t c = λ m ok u.
    values_listed_ok c.args.slots.now c.args.tables m c.args.list.now c.in_ok-many.many c.put_list.result
    (c.in_ok-many.ensures m ok u) c.put_list.ensures

pub number_args-returns : goal.number_args-returns
number_args-returns t c = λ m ok u.
    args_listed_ok c.args.slots.now c.args.tables m c.args.list.now c.in_ok-many.many c.put_list.result
    (c.in_ok-many.ensures m ok u) c.put_list.ensures

pub node_of-returns-in_ok-t-in-Text : goal.node_of-returns-in_ok-t-in-Text
node_of-returns-in_ok-t-in-Text t c = λ m ok u.
    let x = texted c.args.slots.now c.args.tables m c.in-Text.text c.in_ok-t-in-Text.t ok c.in_ok-t-in-Text.ensures in
    record { trees = x.trees; grows = x.grows; meant = x.meant; here = (c.in-Text.text, x.here, ap cast_expr_of c.in-Text.is) }

pub node_of-returns-in_ok-b-in-Binary : goal.node_of-returns-in_ok-b-in-Binary
node_of-returns-in_ok-b-in-Binary t c = λ m ok u.
    let v = slotted c.args.slots.now _ _ c.in-Binary.is u in
    let a = c.in_ok-a-in-Binary.ensures m ok v.0 in
    let b = c.in_ok-b-in-Binary.ensures a.trees a.meant v.1 in
    gives_on _ _ _ _ _ _ _ _ a b
    (c.in-Binary.a, c.in-Binary.b, (b.grows).exprs c.in_ok-a-in-Binary.a.at c.in-Binary.a a.here, b.here, ap cast_expr_of c.in-Binary.is)

pub node_of-returns-in_ok-b-in-And : goal.node_of-returns-in_ok-b-in-And
node_of-returns-in_ok-b-in-And t c = λ m ok u.
    let v = slotted c.args.slots.now _ _ c.in-And.is u in
    let a = c.in_ok-a-in-And.ensures m ok v.0 in
    let b = c.in_ok-b-in-And.ensures a.trees a.meant v.1 in
    gives_on _ _ _ _ _ _ _ _ a b
    (c.in-And.a, c.in-And.b, (b.grows).exprs c.in_ok-a-in-And.a.at c.in-And.a a.here, b.here, ap cast_expr_of c.in-And.is)

pub node_of-returns-in_ok-b-in-Or : goal.node_of-returns-in_ok-b-in-Or
node_of-returns-in_ok-b-in-Or t c = λ m ok u.
    let v = slotted c.args.slots.now _ _ c.in-Or.is u in
    let a = c.in_ok-a-in-Or.ensures m ok v.0 in
    let b = c.in_ok-b-in-Or.ensures a.trees a.meant v.1 in
    gives_on _ _ _ _ _ _ _ _ a b
    (c.in-Or.a, c.in-Or.b, (b.grows).exprs c.in_ok-a-in-Or.a.at c.in-Or.a a.here, b.here, ap cast_expr_of c.in-Or.is)

pub node_of-returns-in_ok-field-in-Read : goal.node_of-returns-in_ok-field-in-Read
node_of-returns-in_ok-field-in-Read t c = λ m ok u.
    let v = slotted c.args.slots.now _ _ c.in-Read.is u in
    let a = c.in_ok-object-in-Read.ensures m ok v in
    let x = texted c.args.slots.now c.in_ok-object-in-Read.object.tables a.trees c.in-Read.field c.in_ok-field-in-Read.field a.meant
    c.in_ok-field-in-Read.ensures in
    gives_on _ _ _ _ _ _ _ _ a x (
      c.in-Read.object,
      c.in-Read.field,
      (x.grows).exprs c.in_ok-object-in-Read.object.at c.in-Read.object a.here,
      x.here,
      ap cast_expr_of c.in-Read.is,
    )

pub node_of-returns-in_ok-list-in-Call : goal.node_of-returns-in_ok-list-in-Call
node_of-returns-in_ok-list-in-Call t c = λ m ok u.
    let s = c.args.slots.now in
    let v = slotted s _ _ c.in-Call.is u in
    let a = c.in_ok-callee-in-Call.ensures m ok v.0 in
    let same = c.as_slice-in-Call.ensures in
    let l = c.in_ok-list-in-Call.ensures a.trees a.meant (subst (λ (l : List Arg). ArgsSlotted s (args l)) (sym same) v.1) in
    gives_on _ _ _ _ _ _ _ _ a l (
      c.in-Call.callee,
      l.here.0,
      c.as_slice-in-Call.result.now,
      (l.grows).exprs c.in_ok-callee-in-Call.callee.at c.in-Call.callee a.here,
      l.here.1,
      l.here.2,
      ap cast_expr_of c.in-Call.is ∙ ap (λ (l : List Arg). call c.in-Call.site c.in-Call.callee (args l)) (sym same),
    )

pub value_nodes-loop-e-preserved : goal.value_nodes-loop-e-preserved
value_nodes-loop-e-preserved t c = λ m ok u.
    let s = c.args.slots.now in
    let i = c.loop-e.e-index in
    let xs = c.args.list.now in
    let x = c.e-item.result in
    let before = c.loop-e.invariant m ok u in
    let n = c.in_ok-n.ensures before.trees before.meant (value_slotted s xs i x c.loop-e-test.true c.e-item.is u) in
    let step : take (i + 1) xs ≡ take i xs ++ x ∷ [] = take_more xs i x c.loop-e-test.true
    ∙ ap (λ y. take i xs ++ y ∷ []) (sym c.e-item.is) in
    let more = values_more s c.args.tables c.loop-e.tables m c.loop-e.nodes (take i xs) x c.in_ok-n.n before n in
    subst (λ (l : List CastExpr). GivesValues s c.args.tables m l (record { nodes = c.push.new.self; tables = c.in_ok-n.n.tables }))
    (sym step)
    (subst (λ (ns : List ArgNode). GivesValues s c.args.tables m (take i xs ++ x ∷ [])
    (record { nodes = ns; tables = c.in_ok-n.n.tables })) (sym (c.in_ok-push.ensures).ok) more)

pub arg_nodes-loop-arg-preserved : goal.arg_nodes-loop-arg-preserved
arg_nodes-loop-arg-preserved t c = λ m ok u.
    let s = c.args.slots.now in
    let i = c.loop-arg.arg-index in
    let xs = c.args.list.now in
    let x = c.arg-item.result in
    let before = c.loop-arg.invariant m ok u in
    let n = c.in_ok-n.ensures before.trees before.meant (arg_slotted s xs i x c.loop-arg-test.true c.arg-item.is u) in
    let step : take (i + 1) xs ≡ take i xs ++ x ∷ [] = take_more xs i x c.loop-arg-test.true
    ∙ ap (λ y. take i xs ++ y ∷ []) (sym c.arg-item.is) in
    let more = args_more s c.args.tables c.loop-arg.tables m c.loop-arg.nodes (take i xs) x c.in_ok-n.n before n in
    subst (λ (l : List Arg). GivesArgs s c.args.tables m l (record { nodes = c.push.new.self; tables = c.in_ok-n.n.tables })) (sym step)
    (subst (λ (ns : List ArgNode). GivesArgs s c.args.tables m (take i xs ++ x ∷ []) (record { nodes = ns; tables = c.in_ok-n.n.tables }))
    (sym (c.in_ok-push.ensures).ok) more)

pub value_nodes-returns : goal.value_nodes-returns
value_nodes-returns t c = λ m ok u.
    subst (λ (l : List CastExpr). GivesValues c.args.slots.now c.args.tables m l
    (record { nodes = c.loop-e.nodes; tables = c.loop-e.tables }))
    (take_all c.loop-e.e-index c.args.list.now c.loop-e-test.false) (c.loop-e.invariant m ok u)

pub arg_nodes-returns : goal.arg_nodes-returns
arg_nodes-returns t c = λ m ok u.
    subst (λ (l : List Arg). GivesArgs c.args.slots.now c.args.tables m l (record { nodes = c.loop-arg.nodes; tables = c.loop-arg.tables }))
    (take_all c.loop-arg.arg-index c.args.list.now c.loop-arg-test.false) (c.loop-arg.invariant m ok u)
