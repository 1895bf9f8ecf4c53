-- What a construct becomes over its parts: the same form, with the numbers of its own sites.
use Rattle.std.specs.Prelude.{◌≡◌, ℕ, ◌+◌, List, [], ◌∷◌, map, Bool, Option, Some, None, bytes_eq, if◌then◌else◌}
use Rattle.std.specs.Option.{option_map}
use Rattle.mono_syntax.specs.declared.leaf.Op.{Op}
use Rattle.mono_syntax.specs.declared.leaf.Place.{Place}
use Rattle.mono_syntax.specs.declared.leaf.Word.{Word}
use Rattle.mono_syntax.specs.declared.tree.ClassDef.{ClassDef}
use Rattle.mono_syntax.specs.Ann.{Ann}
use Rattle.mono_syntax.specs.CastExpr as cast
use Rattle.mono_syntax.specs.CastExpr.{CastExpr, CastExprs, Args}
use Rattle.mono_syntax.specs.CastExprView.{cast_exprs}
use Rattle.mono_syntax.specs.CastStmt as cast_stmt
use Rattle.mono_syntax.specs.CastStmt.{CastStmt}
use Rattle.mono_syntax.specs.Expr as expr
use Rattle.mono_syntax.specs.Expr.{Expr, Exprs}
use Rattle.mono_syntax.specs.Stmt as stmt
use Rattle.mono_syntax.specs.Stmt.{Stmt}
use Rattle.mono_syntax.specs.Ty.{Ty}
use Rattle.static_types.specs.Names.{Names}
use Rattle.static_types.specs.Parts.{class_called}

-- the first place of a name
abbrev pub named_at : List (List ℕ) → List ℕ → Option ℕ
named_at [] x = None
named_at (n ∷ ns) x = if bytes_eq n x then Some 0 else option_map (λ k. k + 1) (named_at ns x)

-- arguments, each with its site where one stands
abbrev pub arguments : List (Option ℕ) → List CastExpr → Args
arguments (k ∷ ks) (c ∷ cs) = cast.more_args k c (arguments ks cs)
arguments ks cs = cast.no_args

-- An expression whose parts have become cs, and whose own sites have the numbers ks, becomes c. Classes and functions stand by
-- their numbers in source order.
pub data IsNode (ns : Names) : Expr → List CastExpr → List (Option ℕ) → CastExpr → Type 0 where
  number : {p : Place} {n : ℕ} → IsNode ns (expr.number p n) [] [] (cast.number n)
  text : {p : Place} {x : List ℕ} → IsNode ns (expr.text p x) [] [] (cast.text x)
  truth : {p : Place} {b : Bool} → IsNode ns (expr.truth p b) [] [] (cast.truth b)
  nil : {p : Place} → IsNode ns (expr.nil p) [] [] cast.nil
  name : {w : Word} {k : ℕ} → IsNode ns (expr.local w) [] (Some k ∷ []) (cast.local k w.text)
  function : {w : Word} {g : ℕ} → named_at (map (λ d. d.name.text) ns.functions) w.text ≡ Some g
      → IsNode ns (expr.local w) [] (None ∷ []) (cast.function g)
  neg : {p : Place} {e : Expr} {c : CastExpr} {k : ℕ} → IsNode ns (expr.neg p e) (c ∷ []) (Some k ∷ []) (cast.neg k c)
  negation : {p : Place} {e : Expr} {c : CastExpr} → IsNode ns (expr.negation p e) (c ∷ []) [] (cast.negation c)
  binary : {o : Op} {p : Place} {e f : Expr} {c d : CastExpr} {k a : Option ℕ}
      → IsNode ns (expr.binary o p e f) (c ∷ d ∷ []) (k ∷ a ∷ []) (cast.binary o k a c d)
  both : {e f : Expr} {c d : CastExpr} → IsNode ns (expr.both e f) (c ∷ d ∷ []) [] (cast.both c d)
  either : {e f : Expr} {c d : CastExpr} → IsNode ns (expr.either e f) (c ∷ d ∷ []) [] (cast.either c d)
  read : {e : Expr} {w : Word} {c : CastExpr} {m : Option ℕ} → IsNode ns (expr.read e w) (c ∷ []) (m ∷ []) (cast.read m c w.text)
  make : {p : Place} {w : Word} {es : Exprs} {d : ClassDef} {n : ℕ} {cs : List CastExpr} {all : CastExprs}
      → class_called ns.classes (expr.local w) ≡ Some d → named_at (map (λ d. d.name.text) ns.classes) w.text ≡ Some n
      → all ≡ cast_exprs cs → IsNode ns (expr.call p (expr.local w) es) cs [] (cast.make n all)
  call : {p : Place} {f : Expr} {es : Exprs} {c : CastExpr} {cs : List CastExpr} {k : Option ℕ} {ks : List (Option ℕ)} {all : Args}
      → class_called ns.classes f ≡ None → all ≡ arguments ks cs
      → IsNode ns (expr.call p f es) (c ∷ cs) (k ∷ ks) (cast.call k c all)
  -- a written cast stands by itself
  written : {p : Place} {a : Ann} {e : Expr} {c : CastExpr} {k : ℕ} → IsNode ns (expr.cast p a e) (c ∷ []) (Some k ∷ []) (cast.fit k c)
  join : {p : Place} {w : Word} {k : ℕ} → IsNode ns (expr.join p w) [] (Some k ∷ []) (cast.join k w.text)

-- the same of a statement without blocks, whose parts are used at the types asks
pub data IsLineNode : Stmt → List Ty → List CastExpr → List (Option ℕ) → CastStmt → Type 0 where
  pass : {asks : List Ty} → IsLineNode stmt.pass asks [] [] cast_stmt.pass
  give : {p : Place} {e : Option Expr} {asks : List Ty} {c : CastExpr} {k : Option ℕ}
      → IsLineNode (stmt.give p e) asks (c ∷ []) (k ∷ []) (cast_stmt.give k c)
  print : {p : Place} {es : Exprs} {asks : List Ty} {cs : List CastExpr} {all : CastExprs} → all ≡ cast_exprs cs
      → IsLineNode (stmt.print p es) asks cs [] (cast_stmt.print all)
  assign : {w : Word} {a : Option Ann} {e : Expr} {asks : List Ty} {c : CastExpr}
      → IsLineNode (stmt.assign w a e) asks (c ∷ []) [] (cast_stmt.assign w.text c)
  -- a write knows the field's static type
  write : {o e : Expr} {w : Word} {s t : Ty} {c d : CastExpr} {m k : Option ℕ}
      → IsLineNode (stmt.write o w e) (s ∷ t ∷ []) (c ∷ d ∷ []) (m ∷ k ∷ []) (cast_stmt.write m k t c w.text d)
  start : {w : Word} {p : Place} {f : Expr} {es : Exprs} {asks : List Ty} {c : CastExpr} {cs : List CastExpr} {k : Option ℕ}
      {ks : List (Option ℕ)} {all : Args}
      → all ≡ arguments ks cs → IsLineNode (stmt.start w p f es) asks (c ∷ cs) (k ∷ ks) (cast_stmt.start w.text k c all)
  plain : {e : Expr} {asks : List Ty} {c : CastExpr} → IsLineNode (stmt.plain e) asks (c ∷ []) [] (cast_stmt.plain c)
