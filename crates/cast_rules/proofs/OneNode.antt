-- A construct becomes one form over its parts and numbers.
use Rattle.std.proofs.Common.{◌≡◌, ℕ, List, [], ◌∷◌, Option, Some, None, map, refl, sym, ◌∙◌, ap}
use Rattle.std.specs.Option.{option_map}
use Rattle.mono_syntax.specs.declared.tree.ClassDef.{ClassDef}
use Rattle.mono_syntax.specs.CastExpr as cast
use Rattle.mono_syntax.specs.CastExpr.{CastExpr}
use Rattle.mono_syntax.specs.CastExprView.{cast_exprs}
use Rattle.mono_syntax.specs.CastStmt as cast_stmt
use Rattle.mono_syntax.specs.CastStmt.{CastStmt}
use Rattle.mono_syntax.specs.Expr as expr
use Rattle.mono_syntax.specs.Expr.{Expr}
use Rattle.mono_syntax.specs.Stmt as stmt
use Rattle.mono_syntax.specs.Stmt.{Stmt}
use Rattle.mono_syntax.specs.Ty.{Ty}
use Rattle.static_types.specs.Names.{Names}
use Rattle.static_types.specs.Parts.{class_called}
use Rattle.cast_rules.specs.Nodes as node
use Rattle.cast_rules.specs.Nodes.{named_at, arguments, IsNode, IsLineNode}

abbrev call_of : Names → Option ClassDef → Expr → List CastExpr → List (Option ℕ) → Option CastExpr
call_of ns (Some d) (expr.local w) cs ks = option_map (λ n. cast.make n (cast_exprs cs)) (named_at (map (λ d. d.name.text) ns.classes) w.text)
call_of ns None f (c ∷ cs) (k ∷ ks) = Some (cast.call k c (arguments ks cs))
call_of ns o f cs ks = None

-- the form, if there is one
abbrev pub node_of : Names → Expr → List CastExpr → List (Option ℕ) → Option CastExpr
node_of ns (expr.local w) cs (Some k ∷ ks) = Some (cast.local k w.text)
node_of ns (expr.local w) cs (None ∷ ks) = option_map cast.function (named_at (map (λ d. d.name.text) ns.functions) w.text)
node_of ns (expr.number p n) cs ks = Some (cast.number n)
node_of ns (expr.text p x) cs ks = Some (cast.text x)
node_of ns (expr.truth p b) cs ks = Some (cast.truth b)
node_of ns (expr.nil p) cs ks = Some cast.nil
node_of ns (expr.neg p e) (c ∷ cs) (Some k ∷ ks) = Some (cast.neg k c)
node_of ns (expr.negation p e) (c ∷ cs) ks = Some (cast.negation c)
node_of ns (expr.binary o p e f) (c ∷ d ∷ cs) (k ∷ a ∷ ks) = Some (cast.binary o k a c d)
node_of ns (expr.both e f) (c ∷ d ∷ cs) ks = Some (cast.both c d)
node_of ns (expr.either e f) (c ∷ d ∷ cs) ks = Some (cast.either c d)
node_of ns (expr.read e w) (c ∷ cs) (m ∷ ks) = Some (cast.read m c w.text)
node_of ns (expr.call p f es) cs ks = call_of ns (class_called ns.classes f) f cs ks
node_of ns (expr.cast p a e) (c ∷ cs) (Some k ∷ ks) = Some (cast.fit k c)
node_of ns (expr.join p w) cs (Some k ∷ ks) = Some (cast.join k w.text)
node_of ns e cs ks = None

pub node_is : (ns : Names) (e : Expr) (cs : List CastExpr) (ks : List (Option ℕ)) (c : CastExpr) → IsNode ns e cs ks c → node_of ns e cs ks ≡ Some c
node_is ns e cs ks c node.number = refl
node_is ns e cs ks c node.text = refl
node_is ns e cs ks c node.truth = refl
node_is ns e cs ks c node.nil = refl
node_is ns e cs ks c node.name = refl
node_is ns e cs ks c (node.function f) = ap (option_map cast.function) f
node_is ns e cs ks c node.neg = refl
node_is ns e cs ks c node.negation = refl
node_is ns e cs ks c node.binary = refl
node_is ns e cs ks c node.both = refl
node_is ns e cs ks c node.either = refl
node_is ns e cs ks c node.read = refl
node_is ns e cs ks c (node.make {w = w} {n = n} {cs = ds} e1 e2 e3) =
    ap (λ (o : Option ClassDef). call_of ns o (expr.local w) ds []) e1 ∙ ap (option_map (λ n. cast.make n (cast_exprs ds))) e2 ∙ ap (λ z. Some (cast.make n z)) (sym e3)
node_is ns e cs ks c (node.call {f = f} {c = c1} {cs = ds} {k = k} {ks = ls} e1 e2) =
    ap (λ (o : Option ClassDef). call_of ns o f (c1 ∷ ds) (k ∷ ls)) e1 ∙ ap (λ z. Some (cast.call k c1 z)) (sym e2)
node_is ns e cs ks c node.written = refl
node_is ns e cs ks c node.join = refl

abbrev pub line_node_of : Stmt → List Ty → List CastExpr → List (Option ℕ) → Option CastStmt
line_node_of stmt.pass asks cs ks = Some cast_stmt.pass
line_node_of (stmt.give p e) asks (c ∷ cs) (k ∷ ks) = Some (cast_stmt.give k c)
line_node_of (stmt.print p es) asks cs ks = Some (cast_stmt.print (cast_exprs cs))
line_node_of (stmt.assign w a e) asks (c ∷ cs) ks = Some (cast_stmt.assign w.text c)
line_node_of (stmt.write o w e) (s ∷ t ∷ asks) (c ∷ d ∷ cs) (m ∷ k ∷ ks) = Some (cast_stmt.write m k t c w.text d)
line_node_of (stmt.start w p f es) asks (c ∷ cs) (k ∷ ks) = Some (cast_stmt.start w.text k c (arguments ks cs))
line_node_of (stmt.plain e) asks (c ∷ cs) ks = Some (cast_stmt.plain c)
line_node_of s asks cs ks = None

pub line_node_is : (s : Stmt) (asks : List Ty) (cs : List CastExpr) (ks : List (Option ℕ)) (c : CastStmt) → IsLineNode s asks cs ks c → line_node_of s asks cs ks ≡ Some c
line_node_is s asks cs ks c node.pass = refl
line_node_is s asks cs ks c node.give = refl
line_node_is s asks cs ks c (node.print {cs = ds} e) = ap (λ z. Some (cast_stmt.print z)) (sym e)
line_node_is s asks cs ks c node.assign = refl
line_node_is s asks cs ks c node.write = refl
line_node_is s asks cs ks c (node.start {w = w} {c = c1} {k = k} e) = ap (λ z. Some (cast_stmt.start w.text k c1 z)) (sym e)
line_node_is s asks cs ks c node.plain = refl
