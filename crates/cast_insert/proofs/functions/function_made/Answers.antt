use Rattle.std.proofs.Common.{◌≡◌, List, Result, Some, sym, ◌∙◌, ap, subst}
use Rattle.std.specs.Prelude.{Option, IfOk}
use Rattle.std.specs.Option.{option_map}
use Rattle.mono_syntax.specs.declared.tree.FuncDef.{FuncDef}
use Rattle.mono_syntax.specs.Stmt.{Stmt}
use Rattle.mono_syntax.specs.StmtView.{block}
use Rattle.mono_syntax.specs.Ty.{Ty}
use Rattle.cast_rules.specs.declared.site.TypedSite.{TypedSite}
use Rattle.known_names.specs.declared.known.Known.{Known}
use Rattle.known_names.specs.declared.known.Local.{Local}
use Rattle.cast_insert.specs.declared.states.Body.{Body}
use Rattle.cast_insert.specs.declared.states.Function.{Function}
use Rattle.cast_insert.specs.computed.Lined.{state, begun, block_inserted}
use Rattle.cast_nodes.specs.computed.Placed.{no_slots, with_slot}
use Rattle.cast_insert.specs.computed.Scripted.{end_slot, function_of, function_made}
use Rattle.cast_insert.proofs.functions.function_made.Goals as goal

abbrev ended : FuncDef → Ty → Option Ty → Body → Function
ended d t o b = function_of d t b (with_slot (no_slots b.state.sites) (end_slot o d))

-- a function whose body is done so
made_so : {E : Type 0} (ks : Known) (l : Local) (d : FuncDef) (t : Ty) (ss : List TypedSite) (o : Option Ty) (body : List Stmt) (x : Option Body) (b : Body) (r : Result (Option Function) E) → o ≡ l.result
    → body ≡ d.body → x ≡ block_inserted ks (begun (state l ss)) (block body) → x ≡ Some b → IfOk r (λ f. f ≡ Some (ended d t o b)) → IfOk r (λ f. f ≡ function_made ks l d t ss)
made_so ks l d t ss o body x b r declared same done some h =
    let found : Some b ≡ block_inserted ks (begun (state l ss)) (block d.body) = sym some ∙ done ∙ ap (λ (z : List Stmt). block_inserted ks (begun (state l ss)) (block z)) same in
    let is : Some (ended d t o b) ≡ function_made ks l d t ss
    = ap (λ (z : Option Ty). Some (ended d t z b)) declared ∙ ap (λ (z : Option Body). option_map (λ y. ended d t l.result y) z) found in
    subst (λ (z : Option Function). IfOk r (λ f. f ≡ z)) is h

-- src/functions.rt:134:1
pub returns : goal.returns
returns c =
    made_so c.args.known.now c.args.local c.args.function.now c.args.ty.now c.args.sites c.in_ok-declared.declared c.as_slice.result.now c.in_ok-body.field-0 c.in-Some.body c.function_ended.result
    c.in_ok-declared.ensures c.as_slice.ensures c.in_ok-body.ensures c.in-Some.is c.function_ended.ensures
