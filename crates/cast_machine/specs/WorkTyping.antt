-- When the work of a frame finds on its value list values of the types that its items ask for.
use Rattle.std.specs.Prelude.{◌≡◌, ◌⊎◌, ℕ, ◌<◌, true, false, ◌||◌, List, [], ◌∷◌, length, drop, Option, Some, None, slice_get, slice_set}
use Rattle.mono_syntax.specs.Ty.{Ty, int, bool, nil, obj, Tys, no_tys, more_tys, Fields}
use Rattle.mono_syntax.specs.CastStmt.{CastStmt}
use Rattle.mono_syntax.specs.CastStmtView.{cast_block, cast_branches, cast_else_block}
use Rattle.mono_syntax.specs.declared.leaf.Kind.TheVariants as kinds
use Rattle.mono_syntax.specs.declared.value.Val.{Val}
use Rattle.mono_syntax.specs.declared.value.Val.TheVariants as val
use Rattle.mono_syntax.specs.declared.cast.CastScript.{CastScript}
use Rattle.mono_tree.specs.FieldNames.{names_of}
use Rattle.mono_tree.specs.Static.{is_static}
use Rattle.mono_tree.specs.CastScripts.{params_of, result_of}
use Rattle.mono_tree.specs.Sites.{IsSite, loses_precision}
use Rattle.mono_tree.specs.BodyEnds.{may_end, statement_may_end, branches_may_end, else_may_end}
use Rattle.mono_tree.specs.TypedPrograms.{Scope, type_of_name, HasField, FieldUse, WriteUse, CallUse, NewUse, CastUse, OperatorUse, HasStaticType, IsOfType, StoreUse, ReturnUse, HasBranch, IsWellTypedStatement, IsWellTypedBlock, AreWellTypedBranches, IsWellTypedElse}
use Rattle.cast_machine.specs.declared.data.Cell.{Cell}
use Rattle.cast_machine.specs.declared.data.Work.{Work}
use Rattle.cast_machine.specs.declared.data.Work.TheVariants as work
use Rattle.cast_machine.specs.Heap.{Heap, cell_at, shape_at}
use Rattle.cast_machine.specs.Cells.{blamed}
use Rattle.cast_machine.specs.BlamedSites.{IsBlamedSite, IsFitSite}
use Rattle.cast_machine.specs.HeapTyping.{IsAsPrecise, IsBelow, IsFunctionOf}

-- ---- work that looks at no heap

-- types on a list of types, the first pushed first
abbrev pub push_all : List Ty → List Ty → List Ty
push_all [] ts = ts
push_all (u ∷ us) ts = push_all us (u ∷ ts)

abbrev pub OnTop : List Ty → (Ty → List Ty → Type 0) → Type 0
OnTop [] k = ⊥
OnTop (t ∷ ts) k = k t ts

abbrev pub OnTwo : List Ty → (Ty → Ty → List Ty → Type 0) → Type 0
OnTwo [] k = ⊥
OnTwo (t ∷ []) k = ⊥
OnTwo (t ∷ u ∷ ts) k = k t u ts

abbrev pub AreAllPrecise : List Ty → Tys → Type 0
AreAllPrecise [] no_tys = Unit {0}
AreAllPrecise (u ∷ us) (more_tys t ts) = IsAsPrecise u t × AreAllPrecise us ts
AreAllPrecise us ts = ⊥

-- a function and n arguments that fit the parameters of its merged type stand on top
pub record EnterUse (p : CastScript) (g : ℕ) (m : Ty) (n : ℕ) (ts rest : List Ty) : Type 0 where
  pub function : IsFunctionOf p g m
  pub arguments : List Ty
  pub callee : Ty
  pub is : ts ≡ push_all arguments (callee ∷ rest)
  pub many : length arguments ≡ n
  pub fit : AreAllPrecise arguments (params_of m)

-- the value that leaves a frame has the asked type
abbrev pub LeaveUse : Option Ty → List Ty → Type 0
LeaveUse None ts = Unit {0}
LeaveUse (Some r) ts = OnTop ts (λ t rest. IsAsPrecise t r)

-- the work of a frame over values of these types, where the frame's result is asked at a type
abbrev pub IsWellTypedWork : CastScript → Scope → Option Ty → List Work → List Ty → Type 0
IsWellTypedWork p s a [] ts = ⊥
IsWellTypedWork p s a (work.Block body i ∷ rest) ts =
    IsWellTypedBlock p s (cast_block (drop i body)) × (may_end (cast_block (drop i body)) ≡ true → IsWellTypedWork p s a rest ts)
IsWellTypedWork p s a (work.Stmt body i ∷ rest) ts =
    (t : CastStmt) × (slice_get body i ≡ Some t) × IsWellTypedStatement p s t × (statement_may_end t ≡ true → IsWellTypedWork p s a rest ts)
IsWellTypedWork p s a (work.Store x ∷ rest) ts = OnTop ts (λ t us. StoreUse s x t × IsWellTypedWork p s a rest us)
IsWellTypedWork p s a (work.Forget ∷ rest) ts = OnTop ts (λ t us. IsWellTypedWork p s a rest us)
IsWellTypedWork p s a (work.Branch bs last k ∷ rest) ts =
    OnTop ts (λ t us.
    IsAsPrecise t bool ×
    HasBranch (cast_branches (drop k bs)) ×
    AreWellTypedBranches p s (cast_branches (drop k bs)) ×
    IsWellTypedElse p s (cast_else_block last) ×
    (branches_may_end (cast_branches (drop k bs)) || else_may_end (cast_else_block last) ≡ true → IsWellTypedWork p s a rest us))
IsWellTypedWork p s a (work.Loop e body ∷ rest) ts = IsOfType p s e bool × IsWellTypedBlock p s (cast_block body) × IsWellTypedWork p s a rest ts
IsWellTypedWork p s a (work.Turn e body ∷ rest) ts =
    OnTop ts (λ t us. IsAsPrecise t bool × IsOfType p s e bool × IsWellTypedBlock p s (cast_block body) × IsWellTypedWork p s a rest us)
IsWellTypedWork p s a (work.Eval e ∷ rest) ts = (t : Ty) × HasStaticType p s e t × IsWellTypedWork p s a rest (t ∷ ts)
IsWellTypedWork p s a (work.Short b e ∷ rest) ts = OnTop ts (λ t us. IsAsPrecise t bool × IsOfType p s e bool × IsWellTypedWork p s a rest (bool ∷ us))
IsWellTypedWork p s a (work.Neg k ∷ rest) ts = OnTop ts (λ t us. IsAsPrecise t int × IsSite p k kinds.Arithmetic × IsWellTypedWork p s a rest (int ∷ us))
IsWellTypedWork p s a (work.Not ∷ rest) ts = OnTop ts (λ t us. IsAsPrecise t bool × IsWellTypedWork p s a rest (bool ∷ us))
IsWellTypedWork p s a (work.Binary o k n ∷ rest) ts = OnTwo ts (λ u v us. (t : Ty) × OperatorUse p o k n v u t × IsWellTypedWork p s a rest (t ∷ us))
IsWellTypedWork p s a (work.Read m x ∷ rest) ts = OnTop ts (λ u us. (t : Ty) × FieldUse p m u x t × IsWellTypedWork p s a rest (t ∷ us))
IsWellTypedWork p s a (work.New c ∷ rest) ts =
    (args : List Ty) × (us : List Ty) × (t : Ty) × NewUse p c args t × (ts ≡ push_all args us) × IsWellTypedWork p s a rest (t ∷ us)
IsWellTypedWork p s a (work.Call k ks ∷ rest) ts =
    (args : List Ty) × (f : Ty) × (us : List Ty) × (t : Ty) × CallUse p k ks f args t × (ts ≡ push_all args (f ∷ us)) × IsWellTypedWork p s a rest (t ∷ us)
IsWellTypedWork p s a (work.Start x k ks ∷ rest) ts =
    (args : List Ty) × (f : Ty) × (us : List Ty) × (t : Ty) × CallUse p k ks f args t × (ts ≡ push_all args (f ∷ us)) × (type_of_name s.threads x ≡ Some t) × IsWellTypedWork p s a rest us
IsWellTypedWork p s a (work.Arg k t j ∷ rest) ts = IsSite p k kinds.Argument × ((u : Ty) × (slice_get ts j ≡ Some u)) × IsWellTypedWork p s a rest (slice_set ts j t)
IsWellTypedWork p s a (work.Cast k ∷ rest) ts = OnTop ts (λ u us. (t : Ty) × CastUse p k u t × IsWellTypedWork p s a rest (t ∷ us))
IsWellTypedWork p s a (work.Result k ∷ rest) ts = OnTop ts (λ u us. (t : Ty) × (a ≡ Some t) × IsSite p k kinds.Return × IsWellTypedWork p s a rest (t ∷ us))
IsWellTypedWork p s a (work.Enter g m n ∷ rest) ts = (us : List Ty) × (t : Ty) × EnterUse p g m n ts us × IsAsPrecise (result_of m) t × IsWellTypedWork p s a rest (t ∷ us)
IsWellTypedWork p s a (work.Begin x g m n ∷ rest) ts =
    (us : List Ty) × (t : Ty) × EnterUse p g m n ts us × IsAsPrecise (result_of m) t × (type_of_name s.threads x ≡ Some t) × IsWellTypedWork p s a rest us
IsWellTypedWork p s a (work.Fall k ∷ rest) ts = ReturnUse p s k nil
IsWellTypedWork p s a (work.Leave ∷ rest) ts = LeaveUse a ts
IsWellTypedWork p s a (work.Write m k f x None ∷ rest) ts = OnTwo ts (λ t u us. WriteUse p m k t x f u × IsWellTypedWork p s a rest us)
IsWellTypedWork p s a (work.Print n ∷ rest) ts = (args : List Ty) × (us : List Ty) × (length args ≡ n) × (ts ≡ push_all args us) × IsWellTypedWork p s a rest us
IsWellTypedWork p s a (work.Join t ∷ rest) ts = ⊥
IsWellTypedWork p s a (work.Fitted k t j ∷ rest) ts = ⊥
IsWellTypedWork p s a (work.Obligation c o x t r ∷ rest) ts = ⊥
IsWellTypedWork p s a (work.Write m k f x (Some t) ∷ rest) ts = ⊥

-- ---- obligations that are left, and whose they are

pub record Pending : Type 0 where
  pub object : ℕ
  pub field : List ℕ
  pub to : Ty

abbrev pub IsPending : List Pending → ℕ → List ℕ → Ty → Type 0
IsPending [] a x t = ⊥
IsPending (q ∷ left) a x t = ((q.object ≡ a) × (q.field ≡ x) × (q.to ≡ t)) ⊎ IsPending left a x t

-- v is an object with the type's field names, and every field for which no obligation of its own is left has a recorded
-- type at least as precise as the type asked there
pub record Owns (h : Heap) (left : List Pending) (v : Val) (t : Ty) : Type 0 where
  pub class : ℕ
  pub base : ℕ
  pub fields : Fields
  pub value : v ≡ val.Obj class base
  pub type : t ≡ obj fields
  pub shape : shape_at h base ≡ Some (class, names_of fields)
  pub done : (x : List ℕ) (u : Ty) → HasField fields x u → IsPending left base x u ⊎ IsBelow h base x u

-- the site can be blamed, and one that only loses precision stands only below obligations that are met
abbrev pub MayBeBlamed : CastScript → Heap → Option ℕ → ℕ → List ℕ → Ty → Type 0
MayBeBlamed p h None a x t = ⊥
MayBeBlamed p h (Some k) a x t = IsBlamedSite p k × (loses_precision p k ≡ true → IsBelow h a x t)

-- an obligation at a field that is there, of an object of the class, above a site
pub record IsWellTypedObligation (p : CastScript) (h : Heap) (rest : List Work) (c a : ℕ) (x : List ℕ) (t : Ty) : Type 0 where
  pub cell : Cell
  pub at : cell_at h a x ≡ Some cell
  pub blame : MayBeBlamed p h (blamed rest) a x t
  pub shape : (ns : List (List ℕ)) × (shape_at h a ≡ Some (c, ns))

-- ---- the top frame's work

-- a thread later than me, whose result can be used at r
pub record IsLater (results : List Ty) (me t : ℕ) (r : Ty) : Type 0 where
  pub result : Ty
  pub at : slice_get results t ≡ Some result
  pub low : IsAsPrecise result r
  pub later : me < t

-- what is fixed for a frame: its scope, the type at which its result is asked, those of all threads, and its thread
pub record Around : Type 0 where
  pub scope : Scope
  pub asked : Option Ty
  pub results : List Ty
  pub me : ℕ

abbrev pub Later : CastScript → Around → List Work → List Ty → Type 0
Later p q rest ts = IsWellTypedWork p q.scope q.asked rest ts

-- a fit to t at site k of the value at place j; t is the target of a Cast site
pub record IsWellTypedFitted
    (p : CastScript) (q : Around) (h : Heap) (left : List Pending) (rest : List Work) (k : ℕ) (t : Ty) (j : ℕ) (vs : List Val) (ts : List Ty) : Type 0 where
  pub site : IsFitSite p k t
  pub value : Val
  pub at : slice_get vs j ≡ Some value
  pub owns : Owns h left value t
  pub later : Later p q rest (slice_set ts j t)

-- a write of v whose fields were fitted to r; f is the field's static type
pub record IsWellTypedFittedWrite (p : CastScript) (q : Around) (h : Heap) (left : List Pending) (rest : List Work) (m k : Option ℕ) (f : Ty) (x : List ℕ) (r : Ty) (v : Val) (t u : Ty) (us : List Ty) : Type 0 where
  pub owns : Owns h left v r
  pub write : WriteUse p m k t x f u
  pub dynamic : is_static f ≡ false
  pub later : Later p q rest us

pub record IsWellTypedJoin (p : CastScript) (q : Around) (left : List Pending) (rest : List Work) (t : ℕ) (ts : List Ty) : Type 0 where
  pub empty : left ≡ []
  pub type : Ty
  pub thread : IsLater q.results q.me t type
  pub later : Later p q rest (type ∷ ts)

-- The work of a thread's top frame: the obligations that are left above a Fitted or a Write, or a Join, and the rest.
-- `left` has the obligations seen so far that have one owner, which stands below them: a ready pair, or the Fitted or the
-- Write.
abbrev pub IsWellTypedTop : CastScript → Around → Heap → List Pending → List Work → List Val → List Ty → Type 0
IsWellTypedTop p q h left (work.Obligation c a x t None ∷ rest) vs ts =
    IsWellTypedObligation p h rest c a x t × IsWellTypedTop p q h (record { object = a; field = x; to = t } ∷ left) rest vs ts
IsWellTypedTop p q h left (work.Obligation c a x t (Some r) ∷ rest) vs ts =
    IsWellTypedObligation p h rest c a x t × Owns h left r.value r.ty × IsWellTypedTop p q h (record { object = a; field = x; to = t } ∷ []) rest vs ts
IsWellTypedTop p q h left (work.Fitted k t j ∷ rest) vs ts = IsWellTypedFitted p q h left rest k t j vs ts
IsWellTypedTop p q h left (work.Write m k f x (Some r) ∷ rest) (o ∷ v ∷ vs) (t ∷ u ∷ ts) = IsWellTypedFittedWrite p q h left rest m k f x r v t u ts
IsWellTypedTop p q h left (work.Write m k f x (Some r) ∷ rest) vs ts = ⊥
IsWellTypedTop p q h left (work.Join t ∷ rest) vs ts = IsWellTypedJoin p q left rest t ts
IsWellTypedTop p q h left rest vs ts = (left ≡ []) × Later p q rest ts
