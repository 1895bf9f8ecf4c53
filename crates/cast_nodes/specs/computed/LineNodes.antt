-- Computed: the own sites of statements without blocks, and what these become.
use Rattle.std.specs.Prelude.{ℕ, List, [], ◌∷◌, Option, Some, None, option_and_then, slice_get}
use Rattle.std.specs.Option.{option_map}
use Rattle.mono_syntax.specs.declared.leaf.Kind.TheVariants as kind
use Rattle.mono_syntax.specs.declared.leaf.Place.{Place}
use Rattle.mono_syntax.specs.declared.leaf.Word.{Word}
use Rattle.mono_syntax.specs.CastExpr.{CastExpr}
use Rattle.mono_syntax.specs.CastExprView.{cast_exprs, args}
use Rattle.mono_syntax.specs.CastStmt as cast_stmt
use Rattle.mono_syntax.specs.CastStmt.{CastStmt}
use Rattle.mono_syntax.specs.Stmt as stmt
use Rattle.mono_syntax.specs.Stmt.{Stmt}
use Rattle.mono_syntax.specs.Ty.{Ty}
use Rattle.cast_rules.specs.Sites.{site_at_dyn}
use Rattle.rule_choice.specs.declared.parts.Part.{Part}
use Rattle.rule_choice.specs.GivenParts.{types_of}
use Rattle.cast_nodes.specs.declared.slots.Slots.{Slots}
use Rattle.cast_nodes.specs.computed.Noded.{with_arguments, site_at}
use Rattle.cast_nodes.specs.computed.Placed.{with_slot, put_tested, put_call}

-- a write's: at the field, and at the value
abbrev pub put_write : Place → List Part → List Ty → Slots → Slots
put_write p (x ∷ xs) (t ∷ ts) q = put_tested kind.Write (with_slot q (site_at_dyn kind.Member p (types_of (x ∷ xs)))) xs ts
put_write p xs ts q = q

-- those of a statement whose parts are used at the types ts
abbrev pub put_line : Stmt → List Part → List Ty → Slots → Slots
put_line (stmt.give p e) xs ts q = put_tested kind.Return q xs ts
put_line (stmt.write o w e) xs ts q = put_write w.place xs ts q
put_line (stmt.start w p f es) xs ts q = put_call p xs ts q
put_line s xs ts q = q

abbrev pub start_node : Word → List CastExpr → List (Option ℕ) → Option CastStmt
start_node w (c ∷ cs) (k ∷ ks) = Some (cast_stmt.start w.text k c (args (with_arguments [] ks cs)))
start_node w cs ks = None

-- a write knows the type at which its value is used
abbrev pub write_node : Word → Option Ty → Option CastExpr → Option CastExpr → List (Option ℕ) → Option CastStmt
write_node w t c d ks =
    option_and_then (λ u. option_and_then (λ o. option_map (λ v. cast_stmt.write (site_at ks 0) (site_at ks 1) u o w.text v) d) c) t

-- a statement without blocks, whose parts are used at the types ts
abbrev pub line_node : Stmt → List Ty → List CastExpr → List (Option ℕ) → Option CastStmt
line_node stmt.pass ts cs ks = Some cast_stmt.pass
line_node (stmt.give p e) ts cs ks = option_map (λ c. cast_stmt.give (site_at ks 0) c) (slice_get cs 0)
line_node (stmt.print p es) ts cs ks = Some (cast_stmt.print (cast_exprs cs))
line_node (stmt.assign w a e) ts cs ks = option_map (λ c. cast_stmt.assign w.text c) (slice_get cs 0)
line_node (stmt.write o w e) ts cs ks = write_node w (slice_get ts 1) (slice_get cs 0) (slice_get cs 1) ks
line_node (stmt.start w p f es) ts cs ks = start_node w cs ks
line_node (stmt.plain e) ts cs ks = option_map (λ c. cast_stmt.plain c) (slice_get cs 0)
line_node s ts cs ks = None
