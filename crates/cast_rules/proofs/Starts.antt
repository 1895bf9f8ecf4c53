-- The names that a block has started behind it are those of its start statements, in their order.
use Rattle.std.proofs.Common.{◌≡◌, ℕ, List, [], ◌∷◌, ◌++◌, map, refl, sym, ◌∙◌, ap, append_assoc}
use Rattle.std.proofs.lemmas.List.{append-nil}
use Rattle.mono_syntax.specs.declared.cast.CastFunction.{CastFunction}
use Rattle.mono_syntax.specs.declared.cast.NamedType.{NamedType}
use Rattle.mono_syntax.specs.declared.leaf.Word.{Word}
use Rattle.mono_syntax.specs.declared.tree.Item.{Item}
use Rattle.mono_syntax.specs.CastStmt.{CastBlock}
use Rattle.mono_syntax.specs.Expr.{Expr}
use Rattle.mono_syntax.specs.Stmt as stmt
use Rattle.mono_syntax.specs.Stmt.{Stmt, Block, Branches, Else}
use Rattle.mono_syntax.specs.StmtView.{block}
use Rattle.mono_syntax.specs.Ty.{Ty}
use Rattle.script_rules.specs.BlockNames.{starts, block_starts, branch_starts, else_starts, all_starts}
use Rattle.script_rules.specs.Definitions.{statements_of}
use Rattle.static_types.specs.Lines.{LineRule, TypedLine, line, branches, loops, TypedGuarded, guards, TypedBranches, no_branch, next_branch, TypedElse, no_last, at_last, TypedBlock, ends, goes_on}
use Rattle.static_types.specs.Names.{Names, with_thread}
use Rattle.static_types.specs.Scripts.{TypedItems, no_item, class_item, function_item, line_item}
use Rattle.name_scope.proofs.BoundTurns.{starts_of_block}
use Rattle.cast_rules.specs.declared.site.TypedSite.{TypedSite}
use Rattle.cast_rules.specs.ElaboratesLines.{ElaboratesBlock}
use Rattle.cast_rules.specs.HasCasts.{ElaborateItems}
use Rattle.cast_rules.proofs.Typed.{block_typed, items_typed}

abbrev pub texts : List Word → List (List ℕ)
texts ws = map (λ w. w.text) ws

abbrev pub names : List NamedType → List (List ℕ)
names ns = map (λ n. n.name) ns

names_append : (xs ys : List NamedType) → names (xs ++ ys) ≡ names xs ++ names ys
names_append [] ys = refl
names_append (x ∷ xs) ys = ap (λ l. x.name ∷ l) (names_append xs ys)

pub texts_append : (xs ys : List Word) → texts (xs ++ ys) ≡ texts xs ++ texts ys
texts_append [] ys = refl
texts_append (x ∷ xs) ys = ap (λ l. x.text ∷ l) (texts_append xs ys)

-- behind the names of ns these are started, and all else may be named as before
pub record Started (ns ms : Names) (ws : List Word) : Type 0 where
  pub classes : ms.classes ≡ ns.classes
  pub functions : ms.functions ≡ ns.functions
  pub values : ms.values ≡ ns.values
  pub result : ms.result ≡ ns.result
  pub threads : names ms.threads ≡ names ns.threads ++ texts ws

pub none_started : (ns ms : Names) → ms ≡ ns → Started ns ms []
none_started ns ms e = record {
  classes = ap (λ (z : Names). z.classes) e;
  functions = ap (λ (z : Names). z.functions) e;
  values = ap (λ (z : Names). z.values) e;
  result = ap (λ (z : Names). z.result) e;
  threads = ap (λ (z : Names). names z.threads) e ∙ sym (append-nil (names ns.threads));
}

one_started : (ns ms : Names) (w : Word) (t : Ty) → ms ≡ with_thread ns w.text t → Started ns ms (w ∷ [])
one_started ns ms w t e = record {
  classes = ap (λ (z : Names). z.classes) e;
  functions = ap (λ (z : Names). z.functions) e;
  values = ap (λ (z : Names). z.values) e;
  result = ap (λ (z : Names). z.result) e;
  threads = ap (λ (z : Names). names z.threads) e ∙ names_append ns.threads (record { name = w.text; ty = t } ∷ []);
}

then_started : (ns ks ms : Names) (xs ys : List Word) → Started ns ks xs → Started ks ms ys → Started ns ms (xs ++ ys)
then_started ns ks ms xs ys h k = record {
  classes = k.classes ∙ h.classes;
  functions = k.functions ∙ h.functions;
  values = k.values ∙ h.values;
  result = k.result ∙ h.result;
  threads = k.threads ∙ ap (λ (l : List (List ℕ)). l ++ texts ys) h.threads ∙ append_assoc (names ns.threads) (texts xs) (texts ys)
      ∙ ap (λ (l : List (List ℕ)). names ns.threads ++ l) (sym (texts_append xs ys));
}

rule_starts : (ns ms : Names) (s : Stmt) (ts asks : List Ty) → LineRule ns s ts asks ms → Started ns ms (starts s)
rule_starts ns ms stmt.pass ts asks h = none_started ns ms h.1
rule_starts ns ms (stmt.give p e) ts asks h = none_started ns ms h.1
rule_starts ns ms (stmt.print p es) ts asks h = none_started ns ms h.1
rule_starts ns ms (stmt.assign w a e) ts asks h = none_started ns ms h.1
rule_starts ns ms (stmt.write o w e) ts asks h = none_started ns ms h.1
rule_starts ns ms (stmt.start w p f es) ts asks h = one_started ns ms w (h.rule).gives h.named
rule_starts ns ms (stmt.plain e) ts asks h = none_started ns ms h.1
rule_starts ns ms (stmt.if_any b l) ts asks h = absurd h
rule_starts ns ms (stmt.loop e b) ts asks h = absurd h

mutual
  pub line_starts : (ns ms : Names) (s : Stmt) (us : List Ty) → TypedLine ns s ms us → Started ns ms (starts s)
  line_starts ns ms s us (line {ts = ts} asks g rule h) = rule_starts ns ms s ts asks rule
  line_starts ns ms s us (branches {ks = ks} {bs = bs} {last = last} {us = vs} {vs = ws} g h q) =
      then_started ns ks ms (branch_starts bs) (else_starts last) (branches_start ns ks bs vs g) (last_starts ks ms last ws h)
  line_starts ns ms s us (loops {e = e} {body = body} g) = guarded_starts ns ms e body us g

  pub guarded_starts : (ns ms : Names) (e : Expr) (body : Block) (us : List Ty) → TypedGuarded ns e body ms us → Started ns ms (block_starts body)
  guarded_starts ns ms e body us (guards {vs = vs} g h b q) = inner_starts ns ms body vs b

  pub branches_start : (ns ms : Names) (bs : Branches) (us : List Ty) → TypedBranches ns bs ms us → Started ns ms (branch_starts bs)
  branches_start ns ms bs us no_branch = none_started ns ns refl
  branches_start ns ms bs us (next_branch {ks = ks} {e = e} {body = body} {bs = bs1} {us = vs} {vs = ws} g h q) =
      then_started ns ks ms (block_starts body) (branch_starts bs1) (guarded_starts ns ks e body vs g) (branches_start ks ms bs1 ws h)

  pub last_starts : (ns ms : Names) (last : Else) (us : List Ty) → TypedElse ns last ms us → Started ns ms (else_starts last)
  last_starts ns ms last us no_last = none_started ns ns refl
  last_starts ns ms last us (at_last {body = body} g) = inner_starts ns ms body us g

  pub inner_starts : (ns ms : Names) (body : Block) (us : List Ty) → TypedBlock ns body ms us → Started ns ms (block_starts body)
  inner_starts ns ms body us ends = none_started ns ns refl
  inner_starts ns ms body us (goes_on {ks = ks} {s = s} {rest = rest} {us = vs} {vs = ws} g h q) =
      then_started ns ks ms (starts s) (block_starts rest) (line_starts ns ks s vs g) (inner_starts ks ms rest ws h)

items_start : (ns ms : Names) (is : List Item) (us : List Ty) → TypedItems ns is ms us → Started ns ms (all_starts (statements_of is))
items_start ns ms is us no_item = none_started ns ns refl
items_start ns ms is us (class_item {is = rest} g) = items_start ns ms rest us g
items_start ns ms is us (function_item {is = rest} {vs = vs} g h q) = items_start ns ms rest vs h
items_start ns ms is us (line_item {ks = ks} {s = s} {is = rest} {us = vs} {vs = ws} g h q) =
    then_started ns ks ms (starts s) (all_starts (statements_of rest)) (line_starts ns ks s vs g) (items_start ks ms rest ws h)

-- where nothing is started before
pub body_starts : (ns ms : Names) (ss us : List TypedSite) (body : List Stmt) (d : CastBlock) → ns.threads ≡ [] → ElaboratesBlock ns ss (block body) d ms us
    → names ms.threads ≡ texts (all_starts body)
body_starts ns ms ss us body d e h =
    let typed = block_typed ns ms ss us (block body) d h in
    (inner_starts ns ms (block body) typed.0 typed.1).threads ∙ ap (λ (l : List NamedType). names l ++ texts (block_starts (block body))) e ∙ ap texts (starts_of_block body)

pub main_starts : (ns ms : Names) (ss us : List TypedSite) (is : List Item) (fs : List CastFunction) (b : CastBlock) → ns.threads ≡ [] → ElaborateItems ns ss is fs b ms us
    → names ms.threads ≡ texts (all_starts (statements_of is))
main_starts ns ms ss us is fs b e h =
    let typed = items_typed ns ms ss us is fs b h in
    (items_start ns ms is typed.0 typed.1).threads ∙ ap (λ (l : List NamedType). names l ++ texts (all_starts (statements_of is))) e
