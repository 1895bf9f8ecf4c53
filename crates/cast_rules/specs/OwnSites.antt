-- The sites of a construct's own, in their order. A place for one that doesn't stand is `None`.
use Rattle.std.specs.Prelude.{List, [], ◌∷◌, Bool, true, false, Option, Some, None}
use Rattle.mono_syntax.specs.declared.leaf.Kind.TheVariants as kind
use Rattle.mono_syntax.specs.declared.leaf.Place.{Place}
use Rattle.mono_syntax.specs.declared.tree.ClassDef.{ClassDef}
use Rattle.mono_syntax.specs.declared.tree.FuncDef.{FuncDef}
use Rattle.mono_syntax.specs.Expr as expr
use Rattle.mono_syntax.specs.Expr.{Expr}
use Rattle.mono_syntax.specs.ExprView.{exprs_list}
use Rattle.mono_syntax.specs.Stmt as stmt
use Rattle.mono_syntax.specs.Stmt.{Stmt}
use Rattle.mono_syntax.specs.StmtView.{block}
use Rattle.mono_syntax.specs.Ty.{Ty, nil}
use Rattle.mono_tree.specs.TypedPrograms.{type_of_name}
use Rattle.script_rules.specs.SourcePlaces.{place_of}
use Rattle.static_types.specs.BodyEnds.{may_end}
use Rattle.script_rules.specs.SourceCasts.{returned}
use Rattle.static_types.specs.Names.{Names}
use Rattle.static_types.specs.Operators.{Sort, arithmetic, comparison, equality, sort_of, is_dyn_sum}
use Rattle.static_types.specs.Parts.{class_called}
use Rattle.cast_rules.specs.declared.site.TypedSite.{TypedSite}
use Rattle.cast_rules.specs.Sites.{site_from, plain_site, tested_site, tested_sites, site_at_dyn}

-- a name of the block may be unbound; a function's name never is
abbrev pub name_site : Option Ty → Place → Option TypedSite
name_site (Some t) p = Some (plain_site p kind.Name)
name_site None p = None

-- an operator's two: a sum of two `Dyn` may be of things that can't be added, and arithmetic may fail
abbrev pub operator_sites : Sort → Bool → Place → List (Option TypedSite)
operator_sites equality dyn_sum p = None ∷ None ∷ []
operator_sites comparison dyn_sum p = None ∷ None ∷ []
operator_sites arithmetic true p = Some (plain_site p kind.Operator) ∷ Some (plain_site p kind.Arithmetic) ∷ []
operator_sites arithmetic false p = None ∷ Some (plain_site p kind.Arithmetic) ∷ []

-- the one of a written cast, at its part, from the part's type
abbrev pub written_site : Place → List Ty → Ty → List (Option TypedSite)
written_site p [] t = []
written_site p (s ∷ ss) t = Some (site_from p kind.Cast s t) ∷ []

-- a call's own, where its callee is `Dyn`, and then one for each argument
abbrev pub call_sites : Place → List Expr → List Ty → List Ty → List (Option TypedSite)
call_sites p es (s ∷ ss) (t ∷ ts) = site_at_dyn kind.Call p (s ∷ ss) ∷ tested_sites kind.Argument es ss ts
call_sites p es ss ts = []

-- a new object has none
abbrev pub called_sites : Option ClassDef → Place → List Expr → List Ty → List Ty → List (Option TypedSite)
called_sites (Some d) p es ss ts = []
called_sites None p es ss ts = call_sites p es ss ts

-- those of an expression whose parts have the types ss, are used at the types asks, and which has type t itself
abbrev pub own_sites : Names → Expr → List Ty → List Ty → Ty → List (Option TypedSite)
own_sites ns (expr.local w) ss asks t = name_site (type_of_name ns.values w.text) w.place ∷ []
own_sites ns (expr.neg p a) ss asks t = Some (plain_site p kind.Arithmetic) ∷ []
own_sites ns (expr.binary o p a b) ss asks t = operator_sites (sort_of o) (is_dyn_sum o ss) p
own_sites ns (expr.read a w) ss asks t = site_at_dyn kind.Member w.place ss ∷ []
own_sites ns (expr.call p f es) ss asks t = called_sites (class_called ns.classes f) p (exprs_list es) ss asks
own_sites ns (expr.cast p a e) ss asks t = written_site (place_of e) ss t
own_sites ns (expr.join p w) ss asks t = Some (plain_site w.place kind.Name) ∷ []
own_sites ns e ss asks t = []

-- a write's: at the field where the object is `Dyn`, and at the value
abbrev pub write_sites : Place → Expr → List Ty → List Ty → List (Option TypedSite)
write_sites p e (s ∷ ss) (t ∷ ts) = site_at_dyn kind.Member p (s ∷ ss) ∷ tested_sites kind.Write (e ∷ []) ss ts
write_sites p e ss ts = []

-- those of a statement whose parts have the types ss and are used at the types asks
abbrev pub line_sites : Stmt → List Ty → List Ty → List (Option TypedSite)
line_sites (stmt.give p e) ss asks = tested_sites kind.Return (returned p e ∷ []) ss asks
line_sites (stmt.write o w e) ss asks = write_sites w.place e ss asks
line_sites (stmt.start w p f es) ss asks = call_sites p (exprs_list es) ss asks
line_sites s ss asks = []

-- that of the end of a body which gives `None` where t is declared, if the body may end so
abbrev pub end_of : Bool → Place → Ty → Option TypedSite
end_of true p t = tested_site kind.Return p nil t
end_of false p t = None

-- it stands at the function's name
abbrev pub end_site : FuncDef → Ty → Option TypedSite
end_site d t = end_of (may_end (block d.body)) d.name.place t
