-- Computed: statements with their casts as the code finds them.
use Rattle.std.specs.Prelude.{ℕ, List, [], ◌∷◌, ◌++◌, Option, Some, None, option_and_then, slice_get}
use Rattle.std.specs.Option.{option_map}
use Rattle.mono_syntax.specs.declared.cast.CastBranch.{CastBranch}
use Rattle.mono_syntax.specs.declared.leaf.Place.{Place}
use Rattle.mono_syntax.specs.CastStmt as cast_stmt
use Rattle.mono_syntax.specs.CastStmtView.{cast_block, cast_branches, cast_else_block}
use Rattle.mono_syntax.specs.Expr.{Expr, Exprs}
use Rattle.mono_syntax.specs.Stmt as stmt
use Rattle.mono_syntax.specs.Stmt.{Stmt, Block, no_stmts, more_stmts, Branches, no_branches, more_branches, Else, no_else, otherwise}
use Rattle.mono_syntax.specs.Ty.{Ty, dyn, bool}
use Rattle.mono_tree.specs.TypedPrograms.{type_of_name}
use Rattle.script_rules.specs.SourceCasts.{returned}
use Rattle.static_types.specs.Members.{all_dyn}
use Rattle.static_types.specs.Rules.{member_of}
use Rattle.cast_rules.specs.declared.site.TypedSite.{TypedSite}
use Rattle.known_names.specs.declared.known.Known.{Known}
use Rattle.known_names.specs.declared.known.Local.{Local}
use Rattle.rule_choice.specs.declared.parts.Part.{Part}
use Rattle.rule_choice.specs.GivenParts.{types_of}
use Rattle.rule_choice.specs.computed.Ruled.{first_rule}
use Rattle.cast_insert.specs.declared.states.Body.{Body}
use Rattle.cast_insert.specs.declared.states.Branched.{Branched}
use Rattle.cast_insert.specs.declared.states.Condition.{Condition}
use Rattle.cast_insert.specs.declared.states.Guarded.{Guarded}
use Rattle.cast_insert.specs.declared.states.Last.{Last}
use Rattle.cast_insert.specs.declared.states.Line.{Line}
use Rattle.cast_insert.specs.declared.states.LineUse.{LineUse}
use Rattle.cast_insert.specs.declared.states.State.{State}
use Rattle.cast_insert.specs.declared.parts.Parts.{Parts}
use Rattle.cast_insert.specs.declared.parts.Used.{Used}
use Rattle.cast_insert.specs.computed.Inserted.{allowed, used_each, no_parts, with_part, all_inserted, inserted}
use Rattle.cast_nodes.specs.computed.LineNodes.{put_line, line_node}
use Rattle.cast_nodes.specs.computed.Placed.{no_slots}

-- ---- uses

-- one more started name
abbrev pub with_thread : Local → List ℕ → Ty → Local
with_thread l x t = record { values = l.values; threads = l.threads ++ record { name = x; ty = t } ∷ []; result = l.result }

abbrev pub line_use : List Ty → Local → LineUse
line_use ts l = record { asks = ts; local = l }

-- a name is started once
abbrev pub start_use : Option Ty → Local → List ℕ → Place → List Part → Option LineUse
start_use (Some t) l x p xs = None
start_use None l x p xs = option_map (λ r. line_use r.asks (with_thread l x r.gives)) (allowed (first_rule p xs))

-- the types at which a statement without blocks uses its parts, and what is known behind it
abbrev pub use_of : Local → Stmt → List Part → Option LineUse
use_of l stmt.pass xs = Some (line_use [] l)
use_of l (stmt.give p e) xs = option_map (λ t. line_use (t ∷ []) l) l.result
use_of l (stmt.print p es) xs = Some (line_use (all_dyn xs) l)
use_of l (stmt.assign w a e) xs = option_map (λ t. line_use (t ∷ []) l) (type_of_name l.values w.text)
use_of l (stmt.write o w e) xs = option_map (λ t. line_use (dyn ∷ t ∷ []) l) (member_of (types_of xs) w.text)
use_of l (stmt.start w p f es) xs = start_use (type_of_name l.threads w.text) l w.text p xs
use_of l (stmt.plain e) xs = Some (line_use (dyn ∷ []) l)
use_of l s xs = None

-- ---- statements without blocks

abbrev pub first_inserted : Known → Local → Expr → List TypedSite → Option Parts
first_inserted ks l e ss = with_part (no_parts ss) e (inserted ks l e ss)

abbrev pub two_inserted : Known → Local → Expr → Expr → List TypedSite → Option Parts
two_inserted ks l a b ss = option_and_then (λ x. with_part x b (inserted ks l b x.sites)) (first_inserted ks l a ss)

abbrev pub row_inserted : Known → Local → Expr → Exprs → List TypedSite → Option Parts
row_inserted ks l f es ss = option_and_then (λ x. all_inserted ks l x es) (first_inserted ks l f ss)

-- the parts of a statement without blocks
abbrev pub line_parts_inserted : Known → Local → Stmt → List TypedSite → Option Parts
line_parts_inserted ks l (stmt.give p e) ss = first_inserted ks l (returned p e) ss
line_parts_inserted ks l (stmt.print p es) ss = all_inserted ks l (no_parts ss) es
line_parts_inserted ks l (stmt.assign w a e) ss = first_inserted ks l e ss
line_parts_inserted ks l (stmt.write o w e) ss = two_inserted ks l o e ss
line_parts_inserted ks l (stmt.start w p f es) ss = row_inserted ks l f es ss
line_parts_inserted ks l (stmt.plain e) ss = first_inserted ks l e ss
line_parts_inserted ks l s ss = Some (no_parts ss)

abbrev pub state : Local → List TypedSite → State
state l ss = record { local = l; sites = ss }

-- a statement whose parts were used so
abbrev pub line_made : Stmt → List Part → LineUse → Used → Option Line
line_made s xs r u =
    let q = put_line s xs r.asks (no_slots u.sites) in
    option_map (λ c. record { statement = c; state = state r.local q.sites }) (line_node s r.asks u.exprs q.numbers)

abbrev pub line_used : Local → Stmt → Parts → Option Line
line_used l s x = option_and_then (λ r. line_made s x.parts r (used_each x r.asks)) (use_of l s x.parts)

abbrev pub simple_line : Known → State → Stmt → Option Line
simple_line ks t s = option_and_then (λ x. line_used t.local s x) (line_parts_inserted ks t.local s t.sites)

-- ---- blocks

abbrev pub condition_of : Local → Used → Option Condition
condition_of l u = option_map (λ c. record { expr = c; state = state l u.sites }) (slice_get u.exprs 0)

-- a condition, used at `bool`
abbrev pub condition : Known → State → Expr → Option Condition
condition ks t e = option_and_then (λ x. condition_of t.local (used_each x (bool ∷ []))) (first_inserted ks t.local e t.sites)

abbrev pub begun : State → Body
begun t = record { lines = []; state = t }

abbrev pub with_line : Body → Option Line → Option Body
with_line done o = option_map (λ x. record { lines = done.lines ++ x.statement ∷ []; state = x.state }) o

-- a condition, and then the block behind it
abbrev pub guarded : Option Condition → (State → Option Body) → Option Guarded
guarded o f = option_and_then (λ c. option_map (λ b. record { condition = c.expr; lines = b.lines; state = b.state }) (f c.state)) o

abbrev pub unbranched : State → Branched
unbranched t = record { branches = []; state = t }

abbrev pub branch : Guarded → CastBranch
branch g = record { condition = g.condition; body = g.lines }

abbrev pub with_branch : Branched → Option Guarded → Option Branched
with_branch done o = option_map (λ g. record { branches = done.branches ++ branch g ∷ []; state = g.state }) o

abbrev pub looped : Option Guarded → Option Line
looped o = option_map (λ g. record { statement = cast_stmt.loop g.condition (cast_block g.lines); state = g.state }) o

abbrev pub if_line : List CastBranch → Option Last → Option Line
if_line bs o = option_map (λ x. record { statement = cast_stmt.if_any (cast_branches bs) (cast_else_block x.block); state = x.state }) o

abbrev pub branched : Option Branched → (State → Option Last) → Option Line
branched o f = option_and_then (λ b. if_line b.branches (f b.state)) o

abbrev pub last_block : Option Body → Option Last
last_block o = option_map (λ b. record { block = Some b.lines; state = b.state }) o

abbrev mutual
  pub line_inserted : Known → State → Stmt → Option Line
  line_inserted ks t (stmt.if_any bs last) = branched (branches_inserted ks (unbranched t) bs) (λ u. last_inserted ks u last)
  line_inserted ks t (stmt.loop e body) = looped (guarded (condition ks t e) (λ u. block_inserted ks (begun u) body))
  line_inserted ks t s = simple_line ks t s

  -- the statements of a block behind those that are done
  pub block_inserted : Known → Body → Block → Option Body
  block_inserted ks done no_stmts = Some done
  block_inserted ks done (more_stmts s rest) = option_and_then (λ x. block_inserted ks x rest) (with_line done (line_inserted ks done.state s))

  pub branches_inserted : Known → Branched → Branches → Option Branched
  branches_inserted ks done no_branches = Some done
  branches_inserted ks done (more_branches e body bs) =
      option_and_then (λ x. branches_inserted ks x bs) (with_branch done (guarded (condition ks done.state e) (λ u. block_inserted ks (begun u) body)))

  pub last_inserted : Known → State → Else → Option Last
  last_inserted ks t no_else = Some (record { block = None; state = t })
  last_inserted ks t (otherwise body) = last_block (block_inserted ks (begun t) body)
