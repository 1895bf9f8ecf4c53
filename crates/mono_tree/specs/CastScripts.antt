-- Look-ups in a script with casts.
use Rattle.std.specs.Prelude.{ℕ, List, [], ◌∷◌, Option, Some, None, slice_get}
use Rattle.mono_syntax.specs.Ty.{Ty, dyn, fun, obj, Tys, no_tys, Fields, no_fields}
use Rattle.mono_syntax.specs.CastExpr.{CastExpr, Args, no_args, more_args}
use Rattle.mono_syntax.specs.CastStmt.{CastStmt, CastBranches, no_branches, more_branches, CastElse, no_else, otherwise}
use Rattle.mono_syntax.specs.CastStmtView.{cast_block_list}
use Rattle.mono_syntax.specs.declared.cast.CastBranch.{CastBranch}
use Rattle.mono_syntax.specs.declared.cast.CastClass.{CastClass}
use Rattle.mono_syntax.specs.declared.cast.CastScript.{CastScript}
use Rattle.mono_syntax.specs.declared.leaf.Site.{Site}
use Rattle.mono_tree.specs.FieldNames.{names_of}

-- the fields of an object type
abbrev pub fields_of : Ty → Fields
fields_of (obj fs) = fs
fields_of t = no_fields

-- the parameters of a function type
abbrev pub params_of : Ty → Tys
params_of (fun ps r) = ps
params_of t = no_tys

-- the result of a function type
abbrev pub result_of : Ty → Ty
result_of (fun ps r) = r
result_of t = dyn

abbrev pub fields_in : Option CastClass → Fields
fields_in None = no_fields
fields_in (Some d) = fields_of d.ty

-- the declared fields of a class, in name order
abbrev pub class_fields : CastScript → ℕ → Fields
class_fields p c = fields_in (slice_get p.classes c)

-- the field names of a class
abbrev pub class_names : CastScript → ℕ → List (List ℕ)
class_names p c = names_of (class_fields p c)

abbrev pub target_in : CastScript → Option Site → Option Ty
target_in p None = None
target_in p (Some s) = slice_get p.types s.target.0

-- the type that the site asks for
abbrev pub target_of : CastScript → ℕ → Option Ty
target_of p k = target_in p (slice_get p.sites k)

-- the arguments of a call
abbrev pub values_of : Args → List CastExpr
values_of no_args = []
values_of (more_args k e rest) = e ∷ values_of rest

-- their Argument sites
abbrev pub sites_of : Args → List (Option ℕ)
sites_of no_args = []
sites_of (more_args k e rest) = k ∷ sites_of rest

-- the branches of an if
abbrev pub branch_list : CastBranches → List CastBranch
branch_list no_branches = []
branch_list (more_branches e body rest) = record { condition = e; body = cast_block_list body } ∷ branch_list rest

-- the statements behind else
abbrev pub else_list : CastElse → Option (List CastStmt)
else_list no_else = None
else_list (otherwise body) = Some (cast_block_list body)
