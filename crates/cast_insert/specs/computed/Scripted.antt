-- Computed: a script with its casts as the code finds it.
use Rattle.std.specs.Prelude.{ℕ, List, [], ◌∷◌, ◌++◌, length, map, Option, Some, None, option_and_then, slice_get}
use Rattle.std.specs.Option.{option_map}
use Rattle.mono_syntax.specs.declared.cast.CastBlock.{CastBlock}
use Rattle.mono_syntax.specs.declared.cast.CastClass.{CastClass}
use Rattle.mono_syntax.specs.declared.cast.CastFunction.{CastFunction}
use Rattle.mono_syntax.specs.declared.cast.CastScript.{CastScript}
use Rattle.mono_syntax.specs.declared.script.Scoped.{Scoped}
use Rattle.mono_syntax.specs.declared.tree.FuncDef.{FuncDef}
use Rattle.mono_syntax.specs.declared.tree.Item.{Item}
use Rattle.mono_syntax.specs.declared.tree.Item.TheVariants as item
use Rattle.mono_syntax.specs.CastStmt.{CastStmt}
use Rattle.mono_syntax.specs.StmtView.{block}
use Rattle.mono_syntax.specs.Ty.{Ty}
use Rattle.cast_rules.specs.declared.site.TypedSite.{TypedSite}
use Rattle.cast_rules.specs.OwnSites.{end_site}
use Rattle.known_names.specs.declared.known.Known.{Known}
use Rattle.known_names.specs.declared.known.KnownClass.{KnownClass}
use Rattle.known_names.specs.declared.known.KnownScript.{KnownScript}
use Rattle.known_names.specs.declared.known.Local.{Local}
use Rattle.type_list.specs.computed.TypeList.{with_type}
use Rattle.cast_insert.specs.declared.numbering.Table.{Table}
use Rattle.cast_nodes.specs.declared.slots.Slots.{Slots}
use Rattle.cast_insert.specs.declared.states.Body.{Body}
use Rattle.cast_insert.specs.declared.states.Function.{Function}
use Rattle.cast_insert.specs.declared.states.Made.{Made}
use Rattle.cast_insert.specs.computed.Lined.{state, begun, line_inserted, block_inserted}
use Rattle.cast_nodes.specs.computed.Noded.{site_at}
use Rattle.cast_nodes.specs.computed.Placed.{no_slots, with_slot}

-- ---- functions

-- the site of a function's end, where one stands
abbrev pub end_slot : Option Ty → FuncDef → Option TypedSite
end_slot None d = None
end_slot (Some t) d = end_site d t

-- a block with its names
abbrev pub block_of : Local → List CastStmt → CastBlock
block_of l ss = record { names = l.values; threads = l.threads; body = ss }

abbrev pub cast_function : FuncDef → Ty → CastBlock → Option ℕ → CastFunction
cast_function d t b k = record { params = map (λ q. q.name.text) d.params; ty = t; block = b; falls = k }

-- a function of this type, whose body is done and whose end has this slot
abbrev pub function_of : FuncDef → Ty → Body → Slots → Function
function_of d t b q = record { function = cast_function d t (block_of b.state.local b.lines) (site_at q.numbers 0); sites = q.sites }

-- a function of this type whose body may name l
abbrev pub function_made : Known → Local → FuncDef → Ty → List TypedSite → Option Function
function_made ks l d t ss = option_map (λ b. function_of d t b (with_slot (no_slots b.state.sites) (end_slot l.result d))) (block_inserted ks (begun (state l ss)) (block d.body))

-- ---- items

-- one more function, where these are what the bodies to come may name
abbrev pub with_function : Known → Made → List Local → FuncDef → Option Made
with_function ks m [] d = None
with_function ks m (l ∷ ls) d =
    option_and_then (λ n. option_map (λ f. record { functions = m.functions ++ f.function ∷ []; lines = m.lines; state = state m.state.local f.sites; bodies = ls }) (function_made ks l d n.ty m.state.sites))
    (slice_get ks.functions (length m.functions))

-- one more item; a class has no expressions
abbrev pub with_item : Known → Made → Item → Option Made
with_item ks m (item.Class c) = Some m
with_item ks m (item.Def d) = with_function ks m m.bodies d
with_item ks m (item.Stmt s) =
    option_map (λ x. record { functions = m.functions; lines = m.lines ++ x.statement ∷ []; state = x.state; bodies = m.bodies }) (line_inserted ks m.state s)

abbrev pub items_made : Known → Made → List Item → Option Made
items_made ks m [] = Some m
items_made ks m (i ∷ is) = option_and_then (λ x. items_made ks x is) (with_item ks m i)

abbrev pub nothing_made : Local → List Local → Made
nothing_made l ls = record { functions = []; lines = []; state = state l []; bodies = ls }

-- ---- types by position

-- one more site
abbrev pub with_site : Table → TypedSite → Table
with_site b f =
    let x = with_type b.types f.source in
    let y = with_type x.types f.target in
    record { types = y.types; sites = b.sites ++ record { place = f.place; kind = f.kind; source = x.at; target = y.at } ∷ [] }

abbrev pub with_sites : Table → List TypedSite → Table
with_sites b [] = b
with_sites b (f ∷ fs) = with_sites (with_site b f) fs

abbrev pub no_sites : Table
no_sites = record { types = []; sites = [] }

-- ---- the script

abbrev pub class_of : KnownClass → CastClass
class_of k = record { params = map (λ f. f.name) k.fields; ty = k.ty }

abbrev pub script_of : Scoped → Known → Made → Table → CastScript
script_of d ks m b = record {
  scoped = d;
  types = b.types;
  classes = map class_of ks.classes;
  functions = m.functions;
  main = block_of m.state.local m.lines;
  sites = b.sites;
}

-- the script whose names are known so
abbrev pub script_made : Scoped → KnownScript → Option CastScript
script_made d ks = option_map (λ m. script_of d ks.names m (with_sites no_sites m.state.sites)) (items_made ks.names (nothing_made ks.main ks.bodies) d.script.items)
