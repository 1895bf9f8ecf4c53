-- A script with casts is its source, with casts added: each expression and statement has become the same form, and each site stands at
-- its construct. An expression has at most one cast round it for its use, and a written cast one of its own.
use Rattle.std.specs.Prelude.{◌≡◌, ℕ, ◌<◌, ◌≤◌, List, [], ◌∷◌, ◌++◌, Bool, Option, Some, None, map, slice_get, Contains}
use Rattle.mono_syntax.specs.Limits.{most_arguments}
use Rattle.mono_syntax.specs.declared.cast.CastBlock as rust_block
use Rattle.mono_syntax.specs.declared.cast.CastClass.{CastClass}
use Rattle.mono_syntax.specs.declared.cast.CastFunction.{CastFunction}
use Rattle.mono_syntax.specs.declared.cast.CastScript.{CastScript}
use Rattle.mono_syntax.specs.declared.cast.NamedType.{NamedType}
use Rattle.mono_syntax.specs.declared.leaf.Kind.{Kind}
use Rattle.mono_syntax.specs.declared.leaf.Kind.TheVariants as kind
use Rattle.mono_syntax.specs.declared.leaf.Op.{Op}
use Rattle.mono_syntax.specs.declared.leaf.Place.{Place}
use Rattle.mono_syntax.specs.declared.leaf.Site.{Site}
use Rattle.mono_syntax.specs.declared.leaf.Word.{Word}
use Rattle.mono_syntax.specs.declared.tree.ClassDef.{ClassDef}
use Rattle.mono_syntax.specs.declared.tree.FuncDef.{FuncDef}
use Rattle.mono_syntax.specs.declared.tree.Param.{Param}
use Rattle.mono_syntax.specs.declared.tree.Script.{Script}
use Rattle.mono_syntax.specs.Ann.{Ann}
use Rattle.mono_syntax.specs.CastExpr as cast
use Rattle.mono_syntax.specs.CastExpr.{CastExpr, CastExprs, Args}
use Rattle.mono_syntax.specs.CastStmt as cast_stmt
use Rattle.mono_syntax.specs.CastStmt.{CastStmt, CastBlock, CastBranches, CastElse}
use Rattle.mono_syntax.specs.CastStmtView.{cast_block}
use Rattle.mono_syntax.specs.Expr as expr
use Rattle.mono_syntax.specs.Expr.{Expr, Exprs}
use Rattle.mono_syntax.specs.Stmt as stmt
use Rattle.mono_syntax.specs.Stmt.{Stmt, Block, Branches, Else}
use Rattle.mono_syntax.specs.StmtView.{block}
use Rattle.mono_syntax.specs.Ty.{Ty}
use Rattle.mono_tree.specs.CastScripts.{target_of}
use Rattle.script_rules.specs.BlockNames.{Target, firsts, all_targets, all_starts}
use Rattle.script_rules.specs.Scoping.{class_list, function_list, main_block}
use Rattle.script_rules.specs.SourceParts.{count_of_exprs}
use Rattle.script_rules.specs.SourcePlaces.{place_of}
use Rattle.script_rules.specs.Writes.{Writes, WritesAny, IsClassType, IsFunctionType}

-- ---- sites at their constructs

-- site k is of this kind, at this place
pub record IsSiteAt (p : CastScript) (k : ℕ) (q : Place) (of_kind : Kind) : Type 0 where
  pub site : Site
  pub at : slice_get p.sites k ≡ Some site
  pub place : site.place ≡ q
  pub kind : site.kind ≡ of_kind

-- where a site stands, it is of this kind, at this place; the types say where one stands
abbrev pub IsAnySiteAt : CastScript → Option ℕ → Place → Kind → Type 0
IsAnySiteAt p None q of_kind = Unit {0}
IsAnySiteAt p (Some k) q of_kind = IsSiteAt p k q of_kind

-- the casts that stand in an expression, by their sites
abbrev mutual
  pub casts_in : CastExpr → List ℕ
  casts_in (cast.neg a e) = casts_in e
  casts_in (cast.negation e) = casts_in e
  casts_in (cast.binary o k a x y) = casts_in x ++ casts_in y
  casts_in (cast.both x y) = casts_in x ++ casts_in y
  casts_in (cast.either x y) = casts_in x ++ casts_in y
  casts_in (cast.read m e x) = casts_in e
  casts_in (cast.make c es) = casts_in_all es
  casts_in (cast.call k e args) = casts_in e ++ casts_in_arguments args
  casts_in (cast.fit k e) = k ∷ casts_in e
  casts_in e = []

  pub casts_in_all : CastExprs → List ℕ
  casts_in_all cast.no_exprs = []
  casts_in_all (cast.more_exprs e es) = casts_in e ++ casts_in_all es

  pub casts_in_arguments : Args → List ℕ
  casts_in_arguments cast.no_args = []
  casts_in_arguments (cast.more_args k e rest) = casts_in e ++ casts_in_arguments rest

-- a cast round an expression stands at its place, and has a later site than the casts inside it
pub record IsCastRound (p : CastScript) (k : ℕ) (e : Expr) (c : CastExpr) : Type 0 where
  pub site : IsSiteAt p k (place_of e) kind.Cast
  pub inner_first : (j : ℕ) → Contains (casts_in c) j → j < k

-- ---- names

-- class c has this name
pub record IsClassAt (s : Script) (c : ℕ) (x : List ℕ) : Type 0 where
  pub class : ClassDef
  pub at : slice_get (class_list s) c ≡ Some class
  pub name : class.name.text ≡ x

-- function g has this name
pub record IsFunctionAt (s : Script) (g : ℕ) (x : List ℕ) : Type 0 where
  pub function : FuncDef
  pub at : slice_get (function_list s) g ≡ Some function
  pub name : function.name.text ≡ x

-- the site's target is the type that the annotation writes
pub record WritesTarget (s : Script) (p : CastScript) (k : ℕ) (a : Ann) : Type 0 where
  pub type : Ty
  pub written : Writes (class_list s) a type
  pub target : target_of p k ≡ Some type

-- ---- expressions

abbrev pub IsFewArguments : Exprs → Type 0
IsFewArguments es = count_of_exprs es ≤ most_arguments

mutual
  -- the expression has become this, with a cast round it or none
  pub data Becomes (s : Script) (p : CastScript) : Expr → CastExpr → Type 0 where
    as_it_is : {e : Expr} {c : CastExpr} → IsBuilt s p e c → Becomes s p e c
    with_cast : {e : Expr} {c : CastExpr} {k : ℕ} → IsBuilt s p e c → IsCastRound p k e c → Becomes s p e (cast.fit k c)

  -- the same form, over parts that have become what they are there
  pub data IsBuilt (s : Script) (p : CastScript) : Expr → CastExpr → Type 0 where
    of_number : {q : Place} {n : ℕ} → IsBuilt s p (expr.number q n) (cast.number n)
    of_text : {q : Place} {t : List ℕ} → IsBuilt s p (expr.text q t) (cast.text t)
    of_truth : {q : Place} {b : Bool} → IsBuilt s p (expr.truth q b) (cast.truth b)
    of_nil : {q : Place} → IsBuilt s p (expr.nil q) cast.nil
    of_name : {w : Word} {k : ℕ} → IsSiteAt p k w.place kind.Name → IsBuilt s p (expr.local w) (cast.local k w.text)
    of_function : {w : Word} {g : ℕ} → IsFunctionAt s g w.text → IsBuilt s p (expr.local w) (cast.function g)
    of_neg : {q : Place} {e : Expr} {c : CastExpr} {a : ℕ} → Becomes s p e c → IsSiteAt p a q kind.Arithmetic
        → IsBuilt s p (expr.neg q e) (cast.neg a c)
    of_not : {q : Place} {e : Expr} {c : CastExpr} → Becomes s p e c → IsBuilt s p (expr.negation q e) (cast.negation c)
    of_binary : {o : Op} {q : Place} {e f : Expr} {c d : CastExpr} {k a : Option ℕ} → Becomes s p e c → Becomes s p f d
        → IsAnySiteAt p k q kind.Operator → IsAnySiteAt p a q kind.Arithmetic → IsBuilt s p (expr.binary o q e f) (cast.binary o k a c d)
    of_both : {e f : Expr} {c d : CastExpr} → Becomes s p e c → Becomes s p f d → IsBuilt s p (expr.both e f) (cast.both c d)
    of_either : {e f : Expr} {c d : CastExpr} → Becomes s p e c → Becomes s p f d → IsBuilt s p (expr.either e f) (cast.either c d)
    of_read : {e : Expr} {w : Word} {c : CastExpr} {m : Option ℕ} → Becomes s p e c → IsAnySiteAt p m w.place kind.Member
        → IsBuilt s p (expr.read e w) (cast.read m c w.text)
    of_new : {q : Place} {w : Word} {es : Exprs} {c : ℕ} {cs : CastExprs} → IsClassAt s c w.text → IsFewArguments es → BecomeAll s p es cs
        → IsBuilt s p (expr.call q (expr.local w) es) (cast.make c cs)
    of_call : {q : Place} {f : Expr} {es : Exprs} {c : CastExpr} {k : Option ℕ} {args : Args} → Becomes s p f c → IsFewArguments es
        → BecomeArguments s p es args
        → IsAnySiteAt p k q kind.Call → IsBuilt s p (expr.call q f es) (cast.call k c args)
    of_cast : {q : Place} {a : Ann} {e : Expr} {c : CastExpr} {k : ℕ} → IsBuilt s p e c → IsCastRound p k e c → WritesTarget s p k a
        → IsBuilt s p (expr.cast q a e) (cast.fit k c)
    of_join : {q : Place} {w : Word} {k : ℕ} → IsSiteAt p k w.place kind.Name → IsBuilt s p (expr.join q w) (cast.join k w.text)

  pub data BecomeAll (s : Script) (p : CastScript) : Exprs → CastExprs → Type 0 where
    all_none : BecomeAll s p expr.no_exprs cast.no_exprs
    all_more : {e : Expr} {es : Exprs} {c : CastExpr} {cs : CastExprs} → Becomes s p e c → BecomeAll s p es cs
        → BecomeAll s p (expr.more_exprs e es) (cast.more_exprs c cs)

  -- each argument with its site, where one stands
  pub data BecomeArguments (s : Script) (p : CastScript) : Exprs → Args → Type 0 where
    arguments_none : BecomeArguments s p expr.no_exprs cast.no_args
    arguments_more : {e : Expr} {es : Exprs} {c : CastExpr} {k : Option ℕ} {rest : Args} → Becomes s p e c
        → IsAnySiteAt p k (place_of e) kind.Argument
        → BecomeArguments s p es rest → BecomeArguments s p (expr.more_exprs e es) (cast.more_args k c rest)

-- ---- statements

-- a bare return is `return None` at its word
abbrev pub returned : Place → Option Expr → Expr
returned q None = expr.nil q
returned q (Some e) = e

mutual
  pub data BecomesStatement (s : Script) (p : CastScript) : Stmt → CastStmt → Type 0 where
    passes : BecomesStatement s p stmt.pass cast_stmt.pass
    returns : {q : Place} {e : Option Expr} {c : CastExpr} {k : Option ℕ} → Becomes s p (returned q e) c
        → IsAnySiteAt p k (place_of (returned q e)) kind.Return
        → BecomesStatement s p (stmt.give q e) (cast_stmt.give k c)
    prints : {q : Place} {es : Exprs} {cs : CastExprs} → IsFewArguments es → BecomeAll s p es cs
        → BecomesStatement s p (stmt.print q es) (cast_stmt.print cs)
    assigns : {w : Word} {a : Option Ann} {e : Expr} {c : CastExpr} → Becomes s p e c
        → BecomesStatement s p (stmt.assign w a e) (cast_stmt.assign w.text c)
    writes : {o e : Expr} {w : Word} {t : Ty} {c d : CastExpr} {m k : Option ℕ} → Becomes s p o c → Becomes s p e d
        → IsAnySiteAt p m w.place kind.Member → IsAnySiteAt p k (place_of e) kind.Write
        → BecomesStatement s p (stmt.write o w e) (cast_stmt.write m k t c w.text d)
    starts : {w : Word} {q : Place} {f : Expr} {es : Exprs} {c : CastExpr} {k : Option ℕ} {args : Args} → Becomes s p f c
        → IsFewArguments es
        → BecomeArguments s p es args → IsAnySiteAt p k q kind.Call
        → BecomesStatement s p (stmt.start w q f es) (cast_stmt.start w.text k c args)
    stands_alone : {e : Expr} {c : CastExpr} → Becomes s p e c → BecomesStatement s p (stmt.plain e) (cast_stmt.plain c)
    branches : {bs : Branches} {last : Else} {cs : CastBranches} {d : CastElse} → BecomeBranches s p bs cs → BecomesElse s p last d
        → BecomesStatement s p (stmt.if_any bs last) (cast_stmt.if_any cs d)
    loops : {e : Expr} {body : Block} {c : CastExpr} {d : CastBlock} → Becomes s p e c → BecomesBlock s p body d
        → BecomesStatement s p (stmt.loop e body) (cast_stmt.loop c d)

  pub data BecomesBlock (s : Script) (p : CastScript) : Block → CastBlock → Type 0 where
    ends : BecomesBlock s p stmt.no_stmts cast_stmt.no_stmts
    goes_on : {a : Stmt} {rest : Block} {b : CastStmt} {more : CastBlock} → BecomesStatement s p a b → BecomesBlock s p rest more
        → BecomesBlock s p (stmt.more_stmts a rest) (cast_stmt.more_stmts b more)

  pub data BecomeBranches (s : Script) (p : CastScript) : Branches → CastBranches → Type 0 where
    no_branch : BecomeBranches s p stmt.no_branches cast_stmt.no_branches
    next_branch : {e : Expr} {body : Block} {bs : Branches} {c : CastExpr} {d : CastBlock} {cs : CastBranches} → Becomes s p e c
        → BecomesBlock s p body d
        → BecomeBranches s p bs cs → BecomeBranches s p (stmt.more_branches e body bs) (cast_stmt.more_branches c d cs)

  pub data BecomesElse (s : Script) (p : CastScript) : Else → CastElse → Type 0 where
    no_last : BecomesElse s p stmt.no_else cast_stmt.no_else
    at_last : {body : Block} {d : CastBlock} → BecomesBlock s p body d → BecomesElse s p (stmt.otherwise body) (cast_stmt.otherwise d)

-- ---- a script

-- the names of targets in order, with their types
abbrev pub AreNames : List ClassDef → List Target → List NamedType → Type 0
AreNames cs [] [] = Unit {0}
AreNames cs (t ∷ ts) (n ∷ ns) = (n.name ≡ t.word.text) × WritesAny cs t.ann n.ty × AreNames cs ts ns
AreNames cs ts ns = ⊥

-- a block with these parameters and statements: its names with their types, those that it starts, and its statements
pub record BecomesBody (s : Script) (p : CastScript) (ps : List Param) (ss : List Stmt) (b : rust_block.CastBlock) : Type 0 where
  pub names : AreNames (class_list s) (firsts (all_targets ps ss)) b.names
  pub threads : map (λ n. n.name) b.threads ≡ map (λ w. w.text) (all_starts ss)
  pub body : BecomesBlock s p (block ss) (cast_block b.body)

-- a class: its fields in declared order, and its type
pub record BecomesClass (s : Script) (d : ClassDef) (c : CastClass) : Type 0 where
  pub fields : c.params ≡ map (λ f. f.name.text) d.fields
  pub type : IsClassType (class_list s) d c.ty

-- a function: its parameters, its declared type, its body, and the site of its end at its name, where one stands
pub record BecomesFunction (s : Script) (p : CastScript) (d : FuncDef) (f : CastFunction) : Type 0 where
  pub params : f.params ≡ map (λ q. q.name.text) d.params
  pub type : IsFunctionType (class_list s) d f.ty
  pub body : BecomesBody s p d.params d.body f.block
  pub end : IsAnySiteAt p f.falls d.name.place kind.Return

abbrev pub BecomeClasses : Script → List ClassDef → List CastClass → Type 0
BecomeClasses s [] [] = Unit {0}
BecomeClasses s (d ∷ ds) (c ∷ cs) = BecomesClass s d c × BecomeClasses s ds cs
BecomeClasses s ds cs = ⊥

abbrev pub BecomeFunctions : Script → CastScript → List FuncDef → List CastFunction → Type 0
BecomeFunctions s p [] [] = Unit {0}
BecomeFunctions s p (d ∷ ds) (f ∷ fs) = BecomesFunction s p d f × BecomeFunctions s p ds fs
BecomeFunctions s p ds fs = ⊥

-- p is the script s with casts
pub record IsWithCasts (s : Script) (p : CastScript) : Type 0 where
  pub classes : BecomeClasses s (class_list s) p.classes
  pub functions : BecomeFunctions s p (function_list s) p.functions
  pub main : BecomesBody s p [] (main_block s) p.main
