-- A well-typed script with casts. Each expression has one type, which is found without consistency: a cast takes its part
-- at its site's source and gives the target, and every use is at a type that the expression's type is at least as precise
-- as.
use Rattle.std.specs.Prelude.{◌≡◌, ◌⊎◌, IsPermutation, ℕ, ◌≤◌, Bool, true, false, List, [], ◌∷◌, Option, Some, None, bytes_eq, if◌then◌else◌, slice_get}
use Rattle.mono_syntax.specs.Limits.{greatest_integer}
use Rattle.mono_syntax.specs.Ty.{Ty, dyn, int, bool, str, nil, fun, obj, Tys, no_tys, more_tys, Fields, no_fields, more_fields}
use Rattle.mono_syntax.specs.CastExpr as expr
use Rattle.mono_syntax.specs.CastExpr.{CastExpr, CastExprs, no_exprs, more_exprs, Args, no_args, more_args}
use Rattle.mono_syntax.specs.CastStmt as stmt
use Rattle.mono_syntax.specs.CastStmt.{CastStmt, CastBlock, no_stmts, more_stmts, CastBranches, no_branches, more_branches, CastElse, no_else, otherwise}
use Rattle.mono_syntax.specs.CastStmtView.{cast_block}
use Rattle.mono_syntax.specs.declared.leaf.Kind.{Kind}
use Rattle.mono_syntax.specs.declared.leaf.Kind.TheVariants as kinds
use Rattle.mono_syntax.specs.declared.leaf.Op.{Op}
use Rattle.mono_syntax.specs.declared.leaf.Op.TheVariants as op
use Rattle.mono_syntax.specs.declared.leaf.Site.{Site}
use Rattle.mono_syntax.specs.declared.cast.CastScript.{CastScript}
use Rattle.mono_syntax.specs.declared.cast.CastClass.{CastClass}
use Rattle.mono_syntax.specs.declared.cast.CastFunction.{CastFunction}
use Rattle.mono_syntax.specs.declared.cast.CastBlock as rust_block
use Rattle.mono_syntax.specs.declared.cast.NamedType.{NamedType}
use Rattle.mono_tree.specs.FieldNames.{names_of}
use Rattle.mono_tree.specs.IsType.{IsType}
use Rattle.mono_tree.specs.Precision.{precise}
use Rattle.mono_tree.specs.Static.{is_static}
use Rattle.mono_tree.specs.CastScripts.{fields_of, sites_of}
use Rattle.mono_tree.specs.Sites.{IsSite, HasSite, HasSiteTo, HasNoSite}
use Rattle.mono_tree.specs.BodyEnds.{may_end}

-- a value of type s can be used at t
abbrev pub IsUsedAt : Ty → Ty → Type 0
IsUsedAt s t = precise s t ≡ true

-- ---- names

-- the type of a name
abbrev pub type_of_name : List NamedType → List ℕ → Option Ty
type_of_name [] x = None
type_of_name (b ∷ bs) x = if bytes_eq b.name x then Some b.ty else type_of_name bs x

-- what a block may name: its values and its threads with their types, and its function's declared result, none in the
-- main block
pub record Scope : Type 0 where
  pub names : List NamedType
  pub threads : List NamedType
  pub result : Option Ty

-- x is a field of type t
abbrev pub HasField : Fields → List ℕ → Ty → Type 0
HasField no_fields x t = ⊥
HasField (more_fields n u fs) x t = ((n ≡ x) × (u ≡ t)) ⊎ HasField fs x t

-- ---- uses

-- a use of the field x of an object of type s has type t; a Member site stands where s is Dyn
abbrev pub FieldUse : CastScript → Option ℕ → Ty → List ℕ → Ty → Type 0
FieldUse p m (obj fs) x t = HasField fs x t × HasNoSite m
FieldUse p m dyn x t = (t ≡ dyn) × HasSite p m kinds.Member
FieldUse p m s x t = ⊥

-- a site of this kind with target t stands where t isn't fully static, and nowhere else
abbrev pub SiteWhere : CastScript → Option ℕ → Kind → Ty → Bool → Type 0
SiteWhere p k kind t true = HasNoSite k
SiteWhere p k kind t false = HasSiteTo p k kind t

abbrev pub StandsUnlessStatic : CastScript → Option ℕ → Kind → Ty → Type 0
StandsUnlessStatic p k kind t = SiteWhere p k kind t (is_static t)

-- a write to the field x of an object of type s, of a value of type u, where t is the field's static type; a Write site
-- stands where t isn't fully static
pub record WriteUse (p : CastScript) (m k : Option ℕ) (s : Ty) (x : List ℕ) (t u : Ty) : Type 0 where
  pub field : FieldUse p m s x t
  pub value : IsUsedAt u t
  pub site : StandsUnlessStatic p k kinds.Write t

-- arguments of these types at parameters of these types; an Argument site stands where the parameter's type isn't fully
-- static
abbrev pub ArgumentUses : CastScript → List (Option ℕ) → List Ty → Tys → Type 0
ArgumentUses p [] [] no_tys = Unit {0}
ArgumentUses p (k ∷ ks) (u ∷ us) (more_tys t ts) = IsUsedAt u t × StandsUnlessStatic p k kinds.Argument t × ArgumentUses p ks us ts
ArgumentUses p ks us ts = ⊥

-- arguments of a callee of type Dyn
abbrev pub DynArguments : CastScript → List (Option ℕ) → List Ty → Type 0
DynArguments p [] [] = Unit {0}
DynArguments p (k ∷ ks) (u ∷ us) = HasSiteTo p k kinds.Argument dyn × DynArguments p ks us
DynArguments p ks us = ⊥

-- a call of a callee of type s with arguments of these types has type t; a Call site stands where s is Dyn
abbrev pub CallUse : CastScript → Option ℕ → List (Option ℕ) → Ty → List Ty → Ty → Type 0
CallUse p k ks (fun ps r) us t = HasNoSite k × ArgumentUses p ks us ps × (t ≡ r)
CallUse p k ks dyn us t = HasSite p k kinds.Call × DynArguments p ks us × (t ≡ dyn)
CallUse p k ks s us t = ⊥

-- arguments of these types, one for each name, at the types of the fields with these names
abbrev pub FieldArguments : Fields → List (List ℕ) → List Ty → Type 0
FieldArguments fs [] [] = Unit {0}
FieldArguments fs (n ∷ ns) (u ∷ us) = ((t : Ty) × HasField fs n t × IsUsedAt u t) × FieldArguments fs ns us
FieldArguments fs ns us = ⊥

-- an object of class c from arguments of these types has type t
pub record NewUse (p : CastScript) (c : ℕ) (us : List Ty) (t : Ty) : Type 0 where
  pub class : CastClass
  pub at : slice_get p.classes c ≡ Some class
  pub arguments : FieldArguments (fields_of class.ty) class.params us
  pub type : t ≡ class.ty

-- a cast at site k of an expression of type s has type t
pub record CastUse (p : CastScript) (k : ℕ) (s t : Ty) : Type 0 where
  pub site : Site
  pub at : slice_get p.sites k ≡ Some site
  pub of_kind : site.kind ≡ kinds.Cast
  pub source : Ty
  pub source_at : slice_get p.types site.source.0 ≡ Some source
  pub value : IsUsedAt s source
  pub target_at : slice_get p.types site.target.0 ≡ Some t

-- + with parts of type Dyn has an Operator site
pub record DynSum (p : CastScript) (k a : Option ℕ) (s u t : Ty) : Type 0 where
  pub operator : HasSite p k kinds.Operator
  pub arithmetic : HasSite p a kinds.Arithmetic
  pub left : s ≡ dyn
  pub right : u ≡ dyn
  pub type : t ≡ dyn

-- parts that are integers
pub record OnIntegers (k : Option ℕ) (s u : Ty) : Type 0 where
  pub operator : HasNoSite k
  pub left : IsUsedAt s int
  pub right : IsUsedAt u int

-- arithmetic on integers
abbrev pub Arithmetic : CastScript → Option ℕ → Option ℕ → Ty → Ty → Ty → Type 0
Arithmetic p k a s u t = OnIntegers k s u × HasSite p a kinds.Arithmetic × (t ≡ int)

abbrev pub Comparison : Option ℕ → Option ℕ → Ty → Ty → Ty → Type 0
Comparison k a s u t = OnIntegers k s u × HasNoSite a × (t ≡ bool)

-- == and != take parts of any types
abbrev pub Equality : Option ℕ → Option ℕ → Ty → Type 0
Equality k a t = HasNoSite k × HasNoSite a × (t ≡ bool)

-- an operator on parts of types s and u gives type t
abbrev pub OperatorUse : CastScript → Op → Option ℕ → Option ℕ → Ty → Ty → Ty → Type 0
OperatorUse p op.Add k a s u t = DynSum p k a s u t ⊎ Arithmetic p k a s u t
OperatorUse p op.Sub k a s u t = Arithmetic p k a s u t
OperatorUse p op.Mul k a s u t = Arithmetic p k a s u t
OperatorUse p op.Div k a s u t = Arithmetic p k a s u t
OperatorUse p op.Mod k a s u t = Arithmetic p k a s u t
OperatorUse p op.Lt k a s u t = Comparison k a s u t
OperatorUse p op.Le k a s u t = Comparison k a s u t
OperatorUse p op.Gt k a s u t = Comparison k a s u t
OperatorUse p op.Ge k a s u t = Comparison k a s u t
OperatorUse p op.Eq k a s u t = Equality k a t
OperatorUse p op.Ne k a s u t = Equality k a t

-- ---- expressions

-- one of its types can be used at t
abbrev pub UsedAt : (Ty → Type 0) → Ty → Type 0
UsedAt types t = (u : Ty) × types u × IsUsedAt u t

abbrev mutual
  -- the expression has the static type t
  pub HasStaticType : CastScript → Scope → CastExpr → Ty → Type 0
  HasStaticType p s (expr.number n) t = (n ≤ greatest_integer) × (t ≡ int)
  HasStaticType p s (expr.text x) t = t ≡ str
  HasStaticType p s (expr.truth b) t = t ≡ bool
  HasStaticType p s expr.nil t = t ≡ nil
  HasStaticType p s (expr.local k x) t = IsSite p k kinds.Name × (type_of_name s.names x ≡ Some t)
  HasStaticType p s (expr.function g) t = (d : CastFunction) × (slice_get p.functions g ≡ Some d) × (t ≡ d.ty)
  HasStaticType p s (expr.neg a e) t = IsSite p a kinds.Arithmetic × UsedAt (λ u. HasStaticType p s e u) int × (t ≡ int)
  HasStaticType p s (expr.negation e) t = UsedAt (λ u. HasStaticType p s e u) bool × (t ≡ bool)
  HasStaticType p s (expr.binary o k a x y) t = (u : Ty) × (v : Ty) × HasStaticType p s x u × HasStaticType p s y v × OperatorUse p o k a u v t
  HasStaticType p s (expr.both x y) t = UsedAt (λ u. HasStaticType p s x u) bool × UsedAt (λ u. HasStaticType p s y u) bool × (t ≡ bool)
  HasStaticType p s (expr.either x y) t = UsedAt (λ u. HasStaticType p s x u) bool × UsedAt (λ u. HasStaticType p s y u) bool × (t ≡ bool)
  HasStaticType p s (expr.read m e x) t = (u : Ty) × HasStaticType p s e u × FieldUse p m u x t
  HasStaticType p s (expr.make c es) t = (us : List Ty) × HaveStaticTypes p s es us × NewUse p c us t
  HasStaticType p s (expr.call k e args) t = (u : Ty) × (us : List Ty) × HasStaticType p s e u × HaveArgumentTypes p s args us × CallUse p k (sites_of args) u us t
  HasStaticType p s (expr.fit k e) t = (u : Ty) × HasStaticType p s e u × CastUse p k u t
  HasStaticType p s (expr.join k x) t = IsSite p k kinds.Name × (type_of_name s.threads x ≡ Some t)

  -- the expression's value can be used at t
  pub HaveStaticTypes : CastScript → Scope → CastExprs → List Ty → Type 0
  HaveStaticTypes p s no_exprs ts = ts ≡ []
  HaveStaticTypes p s (more_exprs e es) ts = (u : Ty) × (us : List Ty) × HasStaticType p s e u × HaveStaticTypes p s es us × (ts ≡ u ∷ us)

  pub HaveArgumentTypes : CastScript → Scope → Args → List Ty → Type 0
  HaveArgumentTypes p s no_args ts = ts ≡ []
  HaveArgumentTypes p s (more_args k e rest) ts = (u : Ty) × (us : List Ty) × HasStaticType p s e u × HaveArgumentTypes p s rest us × (ts ≡ u ∷ us)

-- the expression's value can be used at t
abbrev pub IsOfType : CastScript → Scope → CastExpr → Ty → Type 0
IsOfType p s e t = UsedAt (λ u. HasStaticType p s e u) t

-- ---- statements

-- a value of type u is stored in x
abbrev pub StoreUse : Scope → List ℕ → Ty → Type 0
StoreUse s x u = (t : Ty) × (type_of_name s.names x ≡ Some t) × IsUsedAt u t

-- a value of type u is returned, which only a function does; a Return site stands where the declared result isn't fully
-- static
pub record ReturnUse (p : CastScript) (s : Scope) (k : Option ℕ) (u : Ty) : Type 0 where
  pub result : Ty
  pub declared : s.result ≡ Some result
  pub value : IsUsedAt u result
  pub site : StandsUnlessStatic p k kinds.Return result

abbrev pub HasBranch : CastBranches → Type 0
HasBranch no_branches = ⊥
HasBranch (more_branches e body rest) = Unit {0}

abbrev mutual
  pub IsWellTypedStatement : CastScript → Scope → CastStmt → Type 0
  IsWellTypedStatement p s stmt.pass = Unit {0}
  IsWellTypedStatement p s (stmt.give k e) = (u : Ty) × HasStaticType p s e u × ReturnUse p s k u
  IsWellTypedStatement p s (stmt.print es) = (us : List Ty) × HaveStaticTypes p s es us
  IsWellTypedStatement p s (stmt.assign x e) = (u : Ty) × HasStaticType p s e u × StoreUse s x u
  IsWellTypedStatement p s (stmt.write m k t o x e) = (v : Ty) × (u : Ty) × HasStaticType p s o v × HasStaticType p s e u × WriteUse p m k v x t u
  IsWellTypedStatement p s (stmt.start x k e args) =
      (u : Ty) × (us : List Ty) × (t : Ty) × HasStaticType p s e u × HaveArgumentTypes p s args us × CallUse p k (sites_of args) u us t × (type_of_name s.threads x ≡ Some t)
  IsWellTypedStatement p s (stmt.plain e) = (u : Ty) × HasStaticType p s e u
  IsWellTypedStatement p s (stmt.if_any bs last) = HasBranch bs × AreWellTypedBranches p s bs × IsWellTypedElse p s last
  IsWellTypedStatement p s (stmt.loop e body) = IsOfType p s e bool × IsWellTypedBlock p s body

  pub IsWellTypedBlock : CastScript → Scope → CastBlock → Type 0
  IsWellTypedBlock p s no_stmts = Unit {0}
  IsWellTypedBlock p s (more_stmts t ts) = IsWellTypedStatement p s t × IsWellTypedBlock p s ts

  pub AreWellTypedBranches : CastScript → Scope → CastBranches → Type 0
  AreWellTypedBranches p s no_branches = Unit {0}
  AreWellTypedBranches p s (more_branches e body rest) = IsOfType p s e bool × IsWellTypedBlock p s body × AreWellTypedBranches p s rest

  pub IsWellTypedElse : CastScript → Scope → CastElse → Type 0
  IsWellTypedElse p s no_else = Unit {0}
  IsWellTypedElse p s (otherwise body) = IsWellTypedBlock p s body

-- ---- a script

-- the type of a class is an object type with exactly the declared field names; as a type it has them in byte order, and
-- so they are distinct
pub record IsWellTypedClass (d : CastClass) : Type 0 where
  pub fields : Fields
  pub type : d.ty ≡ obj fields
  pub is_type : IsType d.ty
  pub declared : IsPermutation d.params (names_of fields)

-- each parameter is a name of the block, of its declared type
abbrev pub AreNamed : List NamedType → List (List ℕ) → Tys → Type 0
AreNamed names [] no_tys = Unit {0}
AreNamed names (x ∷ xs) (more_tys t ts) = (type_of_name names x ≡ Some t) × AreNamed names xs ts
AreNamed names xs ts = ⊥

-- the end of a body returns None where the body may end without a return
abbrev pub EndUse : CastScript → Scope → Option ℕ → Bool → Type 0
EndUse p s k true = ReturnUse p s k nil
EndUse p s k false = HasNoSite k

abbrev pub scope_of : rust_block.CastBlock → Option Ty → Scope
scope_of b r = record { names = b.names; threads = b.threads; result = r }

pub record IsWellTypedFunction (p : CastScript) (d : CastFunction) : Type 0 where
  pub parameters : Tys
  pub result : Ty
  pub type : d.ty ≡ fun parameters result
  pub is_type : IsType d.ty
  pub named : AreNamed d.block.names d.params parameters
  pub body : IsWellTypedBlock p (scope_of d.block (Some result)) (cast_block d.block.body)
  pub end : EndUse p (scope_of d.block (Some result)) d.falls (may_end (cast_block d.block.body))

pub record IsTypedProgram (p : CastScript) : Type 0 where
  pub classes : (c : ℕ) (d : CastClass) → slice_get p.classes c ≡ Some d → IsWellTypedClass d
  pub functions : (g : ℕ) (d : CastFunction) → slice_get p.functions g ≡ Some d → IsWellTypedFunction p d
  pub main : IsWellTypedBlock p (scope_of p.main None) (cast_block p.main.body)
