-- Statements start threads, and change nothing else that may be named.
use Rattle.std.proofs.Common.{◌≡◌, List, refl, ◌∙◌, ap}
use Rattle.mono_syntax.specs.declared.tree.Item.{Item}
use Rattle.mono_syntax.specs.Expr.{Expr}
use Rattle.mono_syntax.specs.Stmt as stmt
use Rattle.mono_syntax.specs.Stmt.{Stmt, Block, Branches, Else}
use Rattle.mono_syntax.specs.Ty.{Ty}
use Rattle.static_types.specs.Lines.{LineRule, TypedLine, line, branches, loops, TypedGuarded, guards, TypedBranches, no_branch, next_branch, TypedElse, no_last, at_last, TypedBlock, ends, goes_on}
use Rattle.static_types.specs.Names.{Names}
use Rattle.static_types.specs.Scripts.{TypedItems, no_item, class_item, function_item, line_item}

abbrev Same : Names → Names → Type 0
Same ns ms = ms.values ≡ ns.values

rule_keeps : (ns ms : Names) (s : Stmt) (ts asks : List Ty) → LineRule ns s ts asks ms → Same ns ms
rule_keeps ns ms stmt.pass ts asks h = ap (λ (z : Names). z.values) h.1
rule_keeps ns ms (stmt.give p e) ts asks h = ap (λ (z : Names). z.values) h.1
rule_keeps ns ms (stmt.print p es) ts asks h = ap (λ (z : Names). z.values) h.1
rule_keeps ns ms (stmt.assign w a e) ts asks h = ap (λ (z : Names). z.values) h.1
rule_keeps ns ms (stmt.write o w e) ts asks h = ap (λ (z : Names). z.values) h.1
rule_keeps ns ms (stmt.start w p f es) ts asks h = ap (λ (z : Names). z.values) h.named
rule_keeps ns ms (stmt.plain e) ts asks h = ap (λ (z : Names). z.values) h.1
rule_keeps ns ms (stmt.if_any bs last) ts asks h = absurd h
rule_keeps ns ms (stmt.loop e body) ts asks h = absurd h

mutual
  pub line_keeps : (ns ms : Names) (s : Stmt) (all : List Ty) → TypedLine ns s ms all → Same ns ms
  line_keeps ns ms s all (line {ts = ts} asks t r c) = rule_keeps ns ms s ts asks r
  line_keeps ns ms s all (branches {ks = ks} {bs = bs} {last = last} {us = us} {vs = vs} h k q) = else_keeps ks ms last vs k ∙ branches_keep ns ks bs us h
  line_keeps ns ms s all (loops {e = e} {body = body} h) = guarded_keeps ns ms e body all h

  guarded_keeps : (ns ms : Names) (e : Expr) (body : Block) (all : List Ty) → TypedGuarded ns e body ms all → Same ns ms
  guarded_keeps ns ms e body all (guards {vs = vs} h c k q) = block_keeps ns ms body vs k

  branches_keep : (ns ms : Names) (bs : Branches) (all : List Ty) → TypedBranches ns bs ms all → Same ns ms
  branches_keep ns ms bs all no_branch = refl
  branches_keep ns ms bs all (next_branch {ks = ks} {e = e} {body = body} {bs = rest} {us = us} {vs = vs} h k q) = branches_keep ks ms rest vs k ∙ guarded_keeps ns ks e body us h

  else_keeps : (ns ms : Names) (last : Else) (all : List Ty) → TypedElse ns last ms all → Same ns ms
  else_keeps ns ms last all no_last = refl
  else_keeps ns ms last all (at_last {body = body} h) = block_keeps ns ms body all h

  pub block_keeps : (ns ms : Names) (b : Block) (all : List Ty) → TypedBlock ns b ms all → Same ns ms
  block_keeps ns ms b all ends = refl
  block_keeps ns ms b all (goes_on {ks = ks} {s = s} {rest = rest} {us = us} {vs = vs} h k q) = block_keeps ks ms rest vs k ∙ line_keeps ns ks s us h

pub items_keep : (ns ms : Names) (is : List Item) (all : List Ty) → TypedItems ns is ms all → Same ns ms
items_keep ns ms is all no_item = refl
items_keep ns ms is all (class_item {is = rest} h) = items_keep ns ms rest all h
items_keep ns ms is all (function_item {is = rest} {vs = vs} h k q) = items_keep ns ms rest vs k
items_keep ns ms is all (line_item {ks = ks} {s = s} {is = rest} {us = us} {vs = vs} h k q) = items_keep ks ms rest vs k ∙ line_keeps ns ks s us h
