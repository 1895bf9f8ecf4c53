-- Computed: the types of a script as the code finds them.
use Rattle.std.specs.Prelude.{List, [], ◌∷◌, Option, Some, None, Result, Ok, Err, if◌then◌else◌}
use Rattle.mono_syntax.specs.declared.refusal.Reason.TheVariants.{Inconsistent}
use Rattle.mono_syntax.specs.declared.refusal.Refusal.{Refusal}
use Rattle.mono_syntax.specs.declared.script.Scoped.{Scoped}
use Rattle.mono_syntax.specs.declared.script.Typed.{Typed}
use Rattle.mono_syntax.specs.declared.tree.FuncDef.{FuncDef}
use Rattle.mono_syntax.specs.declared.tree.Item.{Item}
use Rattle.mono_syntax.specs.declared.tree.Item.TheVariants as item
use Rattle.mono_syntax.specs.StmtView.{block}
use Rattle.mono_syntax.specs.Ty.{Ty, nil}
use Rattle.static_types.specs.BodyEnds.{may_end}
use Rattle.static_types.specs.Rules.{at}
use Rattle.known_names.specs.declared.known.Known.{Known}
use Rattle.known_names.specs.declared.known.KnownScript.{KnownScript}
use Rattle.known_names.specs.declared.known.Local.{Local}
use Rattle.known_names.specs.computed.TypeTests.{consistent}
use Rattle.consistency.specs.declared.lines.State.{State}
use Rattle.consistency.specs.declared.script.Done.{Done}
use Rattle.consistency.specs.declared.trace.Trace.{Trace}
use Rattle.consistency.specs.computed.Lined.{line_typed, block_typed}
use Rattle.rule_choice.specs.computed.Steps.{and_then}

-- a function's end gives `None`, if its body may end
abbrev pub end_at : Ty → FuncDef → Trace → Result Trace Refusal
end_at t d b = if consistent nil t then Ok b else Err (at d.name.place Inconsistent)

abbrev pub function_end : Option Ty → FuncDef → Trace → Result Trace Refusal
function_end None d b = Ok b
function_end (Some t) d b = if may_end (block d.body) then end_at t d b else Ok b

abbrev pub body_typed : Known → Local → FuncDef → Trace → Result Trace Refusal
body_typed ks l d b = and_then (block_typed ks (record { local = l; trace = b }) (block d.body)) (λ x. function_end l.result d x.trace)

-- one more function, where these are what the bodies to come may name; there is one for each function
abbrev pub function_typed : Known → State → List Local → FuncDef → Result Done Refusal
function_typed ks t [] f = Ok (record { state = t; bodies = [] })
function_typed ks t (l ∷ ls) f =
    and_then (body_typed ks l f t.trace) (λ b. Ok (record { state = record { local = t.local; trace = b }; bodies = ls }))

-- one more item; a class has no expressions
abbrev pub item_typed : Known → Done → Item → Result Done Refusal
item_typed ks n (item.Class c) = Ok n
item_typed ks n (item.Def f) = function_typed ks n.state n.bodies f
item_typed ks n (item.Stmt s) = and_then (line_typed ks n.state s) (λ t. Ok (record { state = t; bodies = n.bodies }))

abbrev pub items_typed : Known → Done → List Item → Result Done Refusal
items_typed ks n [] = Ok n
items_typed ks n (i ∷ is) = and_then (item_typed ks n i) (λ m. items_typed ks m is)

abbrev pub no_exprs_yet : Trace
no_exprs_yet = record { types = []; exprs = [] }

abbrev pub begun : Local → List Local → Done
begun main bodies = record { state = record { local = main; trace = no_exprs_yet }; bodies = bodies }

abbrev pub typed_script : Scoped → Done → Typed
typed_script d n = record { scoped = d; types = n.state.trace.types; exprs = n.state.trace.exprs }

-- the script whose names are known so
abbrev pub checked : Scoped → KnownScript → Result Typed Refusal
checked d ks = and_then (items_typed ks.names (begun ks.main ks.bodies) d.script.items) (λ n. Ok (typed_script d n))
