-- Computed: statements whose expressions have their types, as the code finds them.
use Rattle.std.specs.Prelude.{ℕ, List, [], ◌∷◌, ◌++◌, Option, Some, None, Result, Ok, Err}
use Rattle.mono_syntax.specs.declared.leaf.Place.{Place}
use Rattle.mono_syntax.specs.declared.leaf.Word.{Word}
use Rattle.mono_syntax.specs.declared.refusal.Reason.TheVariants.{Inconsistent, NoField, Syntax, Twice, UnknownName}
use Rattle.mono_syntax.specs.declared.refusal.Refusal.{Refusal}
use Rattle.mono_syntax.specs.Expr.{Expr, Exprs}
use Rattle.mono_syntax.specs.Stmt as stmt
use Rattle.mono_syntax.specs.Stmt.{Stmt, Block, no_stmts, more_stmts, Branches, no_branches, more_branches, Else, no_else, otherwise}
use Rattle.mono_syntax.specs.Ty.{Ty, dyn, bool}
use Rattle.mono_tree.specs.TypedPrograms.{type_of_name}
use Rattle.script_rules.specs.SourceCasts.{returned}
use Rattle.static_types.specs.Rules.{at, member_of}
use Rattle.known_names.specs.declared.known.Known.{Known}
use Rattle.known_names.specs.declared.known.Local.{Local}
use Rattle.consistency.specs.declared.lines.State.{State}
use Rattle.consistency.specs.declared.parts.Parts.{Parts}
use Rattle.consistency.specs.declared.trace.Trace.{Trace}
use Rattle.consistency.specs.computed.Checked.{no_parts, with_part, all_typed, typed}
use Rattle.rule_choice.specs.GivenParts.{types_of}
use Rattle.rule_choice.specs.computed.Ruled.{first_rule}
use Rattle.rule_choice.specs.computed.Apart.{first_apart}
use Rattle.rule_choice.specs.computed.Steps.{and_then}

-- one more started name
abbrev pub with_thread : Local → List ℕ → Ty → Local
with_thread l x t = record { values = l.values; threads = l.threads ++ record { name = x; ty = t } ∷ []; result = l.result }

-- what is behind a statement, unless a part can't be used where it is
abbrev pub lined : Option Place → Local → Trace → Result State Refusal
lined (Some p) l b = Err (at p Inconsistent)
lined None l b = Ok (record { local = l; trace = b })

abbrev pub used_line : List Ty → Local → Parts → Result State Refusal
used_line asks l x = lined (first_apart x.parts asks) l x.trace

-- parts of which any types will do
abbrev pub any_line : Local → Result Parts Refusal → Result State Refusal
any_line l r = and_then r (λ x. Ok (record { local = l; trace = x.trace }))

-- ---- statements without blocks

abbrev pub first_typed : Known → State → Expr → Result Parts Refusal
first_typed ks s e = with_part (no_parts s.trace) e (typed ks s.local e s.trace)

abbrev pub two_typed : Known → State → Expr → Expr → Result Parts Refusal
two_typed ks s a b = and_then (first_typed ks s a) (λ x. with_part x b (typed ks s.local b x.trace))

abbrev pub row_typed : Known → State → Expr → Exprs → Result Parts Refusal
row_typed ks s f es = and_then (first_typed ks s f) (λ x. all_typed ks s.local x es)

abbrev pub return_used : Option Ty → Place → Local → Parts → Result State Refusal
return_used (Some t) p l x = used_line (t ∷ []) l x
return_used None p l x = Err (at p Syntax)

abbrev pub assign_used : Option Ty → Word → Local → Parts → Result State Refusal
assign_used (Some t) w l x = used_line (t ∷ []) l x
assign_used None w l x = Err (at w.place UnknownName)

abbrev pub write_used : Option Ty → Word → Local → Parts → Result State Refusal
write_used (Some t) w l x = used_line (dyn ∷ t ∷ []) l x
write_used None w l x = Err (at w.place NoField)

abbrev pub start_used : Option Ty → Word → Place → Local → Parts → Result State Refusal
start_used (Some t) w p l x = Err (at w.place Twice)
start_used None w p l x = and_then (first_rule p x.parts) (λ r. used_line r.asks (with_thread l w.text r.gives) x)

-- a condition, used at `bool`
abbrev pub condition : Known → State → Expr → Result State Refusal
condition ks s e = and_then (first_typed ks s e) (λ x. used_line (bool ∷ []) s.local x)

abbrev mutual
  pub line_typed : Known → State → Stmt → Result State Refusal
  line_typed ks s stmt.pass = Ok s
  line_typed ks s (stmt.give p e) = and_then (first_typed ks s (returned p e)) (λ x. return_used s.local.result p s.local x)
  line_typed ks s (stmt.print p es) = any_line s.local (all_typed ks s.local (no_parts s.trace) es)
  line_typed ks s (stmt.assign w a e) = and_then (first_typed ks s e) (λ x. assign_used (type_of_name s.local.values w.text) w s.local x)
  line_typed ks s (stmt.write o w e) = and_then (two_typed ks s o e) (λ x. write_used (member_of (types_of x.parts) w.text) w s.local x)
  line_typed ks s (stmt.start w p f es) = and_then (row_typed ks s f es) (λ x. start_used (type_of_name s.local.threads w.text) w p s.local x)
  line_typed ks s (stmt.plain e) = any_line s.local (first_typed ks s e)
  line_typed ks s (stmt.if_any bs last) = and_then (branches_typed ks s bs) (λ t. else_typed ks t last)
  line_typed ks s (stmt.loop e body) = and_then (condition ks s e) (λ t. block_typed ks t body)

  pub block_typed : Known → State → Block → Result State Refusal
  block_typed ks s no_stmts = Ok s
  block_typed ks s (more_stmts a rest) = and_then (line_typed ks s a) (λ t. block_typed ks t rest)

  pub branches_typed : Known → State → Branches → Result State Refusal
  branches_typed ks s no_branches = Ok s
  branches_typed ks s (more_branches e body bs) = and_then (and_then (condition ks s e) (λ t. block_typed ks t body)) (λ t. branches_typed ks t bs)

  pub else_typed : Known → State → Else → Result State Refusal
  else_typed ks s no_else = Ok s
  else_typed ks s (otherwise body) = block_typed ks s body
