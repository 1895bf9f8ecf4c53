-- The own sites of a statement without blocks, and what it becomes over its parts.
use Rattle.std.proofs.Common.{◌≡◌, ℕ, suc, List, [], ◌∷◌, length, refl, sym, ◌∙◌, subst, arith}
use Rattle.std.specs.Prelude.{Option, Some, None}
use Rattle.mono_syntax.specs.declared.leaf.Kind.TheVariants as kind
use Rattle.mono_syntax.specs.declared.leaf.Place.{Place}
use Rattle.mono_syntax.specs.declared.leaf.Word.{Word}
use Rattle.mono_syntax.specs.Ann.{Ann}
use Rattle.mono_syntax.specs.CastExpr.{CastExpr}
use Rattle.mono_syntax.specs.CastExprView.{cast_exprs, args}
use Rattle.mono_syntax.specs.CastStmt as cast_stmt
use Rattle.mono_syntax.specs.CastStmt.{CastStmt}
use Rattle.mono_syntax.specs.Expr.{Expr, Exprs}
use Rattle.mono_syntax.specs.ExprView.{exprs_list}
use Rattle.mono_syntax.specs.Stmt as stmt
use Rattle.mono_syntax.specs.Stmt.{Stmt}
use Rattle.mono_syntax.specs.Ty.{Ty, dyn}
use Rattle.static_types.specs.Lines.{line_parts, WriteRule, LineRule}
use Rattle.script_rules.specs.SourceCasts.{returned}
use Rattle.static_types.specs.Names.{Names}
use Rattle.static_types.specs.Rules.{member_of}
use Rattle.static_types.specs.Types.{AllConsistent}
use Rattle.cast_rules.specs.Nodes as nodes
use Rattle.cast_rules.specs.Nodes.{IsLineNode}
use Rattle.cast_rules.specs.OwnSites.{call_sites, write_sites, line_sites}
use Rattle.cast_rules.specs.Sites.{site_at_dyn, tested_site, tested_sites, numbered}
use Rattle.rule_choice.specs.declared.parts.Part.{Part}
use Rattle.rule_choice.specs.GivenParts.{types_of, AreAt}
use Rattle.cast_nodes.specs.declared.slots.Slots.{Slots}
use Rattle.cast_nodes.specs.computed.LineNodes.{put_write, put_line, line_node}
use Rattle.cast_nodes.specs.computed.Noded.{with_arguments}
use Rattle.cast_nodes.specs.computed.Placed.{with_slot}
use Rattle.cast_nodes.proofs.NodeLaws.{Row, Single, one_slot, Pair, two_slots, call_slots, arguments_are}
use Rattle.cast_nodes.proofs.SlotLaws.{behind, behind_none, behind_more, tests_are, call_are}

-- ---- own sites

write_are : (p : Place) (o e : Expr) (xs : List Part) (ts : List Ty) (q : Slots) → AreAt (o ∷ e ∷ []) xs → put_write p xs ts q ≡ behind q (write_sites p e (types_of xs) ts)
write_are p o e [] ts q h = absurd h
write_are p o e (x ∷ xs) [] q h = behind_none q
write_are p o e (x ∷ xs) (t ∷ ts) q h =
    tests_are kind.Write (with_slot q (site_at_dyn kind.Member p (types_of (x ∷ xs)))) (e ∷ []) xs ts h.1
    ∙ behind_more q (site_at_dyn kind.Member p (types_of (x ∷ xs))) (tested_sites kind.Write (e ∷ []) (types_of xs) ts)

pub line_are : (s : Stmt) (xs : List Part) (ts : List Ty) (q : Slots) → AreAt (line_parts s) xs → put_line s xs ts q ≡ behind q (line_sites s (types_of xs) ts)
line_are stmt.pass xs ts q h = behind_none q
line_are (stmt.give p e) xs ts q h = tests_are kind.Return q (returned p e ∷ []) xs ts h
line_are (stmt.print p es) xs ts q h = behind_none q
line_are (stmt.assign w a e) xs ts q h = behind_none q
line_are (stmt.write o w e) xs ts q h = write_are w.place o e xs ts q h
line_are (stmt.start w p f es) xs ts q h = call_are p f (exprs_list es) xs ts q h
line_are (stmt.plain e) xs ts q h = behind_none q
line_are (stmt.if_any bs last) xs ts q h = behind_none q
line_are (stmt.loop e body) xs ts q h = behind_none q

-- ---- nodes

-- the code makes this of a statement, and it is its node
pub record HasLineNode (s : Stmt) (ts : List Ty) (ds : List CastExpr) (ms : List (Option ℕ)) : Type 0 where
  pub line : CastStmt
  pub made : line_node s ts ds ms ≡ Some line
  pub is : IsLineNode s ts ds ms line

give_has : (p : Place) (e : Option Expr) (ts : List Ty) (ds : List CastExpr) (ms : List (Option ℕ)) → Single ms → length ds ≡ 1 → HasLineNode (stmt.give p e) ts ds ms
give_has p e ts (c ∷ []) ms s h =
    subst (λ (z : List (Option ℕ)). HasLineNode (stmt.give p e) ts (c ∷ []) z) (sym s.is) (record { line = cast_stmt.give s.first c; made = refl; is = nodes.give })
give_has p e ts [] ms s h = absurd cc
give_has p e ts (c ∷ d ∷ ds) ms s h = absurd cc

give_slot : (n : ℕ) (e : Expr) (ss ts : List Ty) → length ss ≡ 1 → length ts ≡ 1 → Single (numbered n (tested_sites kind.Return (e ∷ []) ss ts))
give_slot n e (s ∷ []) (t ∷ []) h k = one_slot n (tested_site kind.Return _ s t)
give_slot n e [] ts h k = absurd cc
give_slot n e (s ∷ u ∷ ss) ts h k = absurd cc
give_slot n e (s ∷ []) [] h k = absurd cc
give_slot n e (s ∷ []) (t ∷ u ∷ ts) h k = absurd cc

assign_has : (w : Word) (a : Option Ann) (e : Expr) (ts : List Ty) (ds : List CastExpr) → length ds ≡ 1 → HasLineNode (stmt.assign w a e) ts ds []
assign_has w a e ts (c ∷ []) h = record { line = cast_stmt.assign w.text c; made = refl; is = nodes.assign }
assign_has w a e ts [] h = absurd cc
assign_has w a e ts (c ∷ d ∷ ds) h = absurd cc

plain_has : (e : Expr) (ts : List Ty) (ds : List CastExpr) → length ds ≡ 1 → HasLineNode (stmt.plain e) ts ds []
plain_has e ts (c ∷ []) h = record { line = cast_stmt.plain c; made = refl; is = nodes.plain }
plain_has e ts [] h = absurd cc
plain_has e ts (c ∷ d ∷ ds) h = absurd cc

write_has : (o : Expr) (w : Word) (e : Expr) (t : Ty) (ds : List CastExpr) (ms : List (Option ℕ)) → Pair ms → length ds ≡ 2 → HasLineNode (stmt.write o w e) (dyn ∷ t ∷ []) ds ms
write_has o w e t (c ∷ d ∷ []) ms s h =
    subst (λ (z : List (Option ℕ)). HasLineNode (stmt.write o w e) (dyn ∷ t ∷ []) (c ∷ d ∷ []) z) (sym s.is)
    (record { line = cast_stmt.write s.first s.second t c w.text d; made = refl; is = nodes.write })
write_has o w e t [] ms s h = absurd cc
write_has o w e t (c ∷ []) ms s h = absurd cc
write_has o w e t (c ∷ d ∷ k ∷ ds) ms s h = absurd cc

write_slots : (n : ℕ) (p : Place) (e : Expr) (ss : List Ty) (t : Ty) → length ss ≡ 2 → Pair (numbered n (write_sites p e ss (dyn ∷ t ∷ [])))
write_slots n p e (s ∷ u ∷ []) t h = two_slots n (site_at_dyn kind.Member p (s ∷ u ∷ [])) (tested_site kind.Write _ u t)
write_slots n p e [] t h = absurd cc
write_slots n p e (s ∷ []) t h = absurd cc
write_slots n p e (s ∷ u ∷ v ∷ ss) t h = absurd cc

written_has : (n : ℕ) (o : Expr) (w : Word) (e : Expr) (ss ts : List Ty) (m : Option Ty) (ds : List CastExpr) → WriteRule m ts → length ss ≡ 2 → length ds ≡ 2
    → HasLineNode (stmt.write o w e) ts ds (numbered n (write_sites w.place e ss ts))
written_has n o w e ss ts None ds h g c = absurd h
written_has n o w e ss ts (Some t) ds h g c =
    subst (λ (z : List Ty). HasLineNode (stmt.write o w e) z ds (numbered n (write_sites w.place e ss z))) (sym h) (write_has o w e t ds _ (write_slots n w.place e ss t g) c)

start_has : (w : Word) (p : Place) (f : Expr) (es : Exprs) (ts : List Ty) (ds : List CastExpr) (ms : List (Option ℕ)) → Row ms → length ds ≡ suc (length (exprs_list es))
    → HasLineNode (stmt.start w p f es) ts ds ms
start_has w p f es ts [] ms r h = absurd (omega (arith, h))
start_has w p f es ts (c ∷ ds) ms r h =
    subst (λ (z : List (Option ℕ)). HasLineNode (stmt.start w p f es) ts (c ∷ ds) z) (sym r.is)
    (record { line = cast_stmt.start w.text r.first c (args (with_arguments [] r.others ds)); made = refl; is = nodes.start (arguments_are r.others ds) })

pass_has : (ts : List Ty) (ds : List CastExpr) → length ds ≡ 0 → HasLineNode stmt.pass ts ds []
pass_has ts [] h = record { line = cast_stmt.pass; made = refl; is = nodes.pass }
pass_has ts (d ∷ ds) h = absurd cc

pub line_node_so : (n : ℕ) (ns ms : Names) (s : Stmt) (ss ts : List Ty) (ds : List CastExpr) → LineRule ns s ss ts ms → AllConsistent ss ts → length ss ≡ length (line_parts s) → length ss ≡ length ts
    → length ds ≡ length (line_parts s) → HasLineNode s ts ds (numbered n (line_sites s ss ts))
line_node_so n ns ms stmt.pass ss ts ds h a g k c = pass_has ts ds c
line_node_so n ns ms (stmt.give p e) ss ts ds h a g k c = give_has p e ts ds _ (give_slot n (returned p e) ss ts g (sym k ∙ g)) c
line_node_so n ns ms (stmt.print p es) ss ts ds h a g k c = record { line = cast_stmt.print (cast_exprs ds); made = refl; is = nodes.print refl }
line_node_so n ns ms (stmt.assign w a e) ss ts ds h b g k c = assign_has w a e ts ds c
line_node_so n ns ms (stmt.write o w e) ss ts ds h a g k c = written_has n o w e ss ts (member_of ss w.text) ds h.0 g c
line_node_so n ns ms (stmt.start w p f es) ss ts ds h a g k c =
    start_has w p f es ts ds _ (subst (λ (z : List Ty). Row (numbered n (call_sites p (exprs_list es) ss z))) (sym h.asked) (call_slots n p (exprs_list es) ss h.rule h.called)) c
line_node_so n ns ms (stmt.plain e) ss ts ds h a g k c = plain_has e ts ds c
line_node_so n ns ms (stmt.if_any bs last) ss ts ds h a g k c = absurd h
line_node_so n ns ms (stmt.loop e body) ss ts ds h a g k c = absurd h
