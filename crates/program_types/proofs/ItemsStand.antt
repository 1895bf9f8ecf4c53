-- The types of the names of all blocks are there, of the functions, and of all sites of a script's items.
use Rattle.std.proofs.Common.{inl, inr, List, [], ◌∷◌, ◌++◌, Option, Some, None, refl, sym, ◌∙◌, subst}
use Rattle.mono_list.proofs.Cases.{some_is, none_some}
use Rattle.mono_syntax.specs.declared.cast.CastBlock as rust_block
use Rattle.mono_syntax.specs.declared.cast.CastFunction.{CastFunction}
use Rattle.mono_syntax.specs.declared.cast.NamedType.{NamedType}
use Rattle.mono_syntax.specs.declared.tree.ClassDef.{ClassDef}
use Rattle.mono_syntax.specs.declared.tree.FuncDef.{FuncDef}
use Rattle.mono_syntax.specs.declared.tree.Item.{Item}
use Rattle.mono_syntax.specs.declared.tree.Item.TheVariants as item
use Rattle.mono_syntax.specs.declared.tree.Script.{Script}
use Rattle.mono_syntax.specs.Ann.{Ann}
use Rattle.mono_syntax.specs.CastStmt.{CastBlock}
use Rattle.mono_syntax.specs.CastStmtView.{cast_block}
use Rattle.mono_syntax.specs.StmtView.{block}
use Rattle.mono_syntax.specs.Ty.{Ty}
use Rattle.script_rules.specs.BlockNames.{Target, firsts, all_targets}
use Rattle.script_rules.specs.Definitions.{functions_of}
use Rattle.script_rules.specs.Scoping.{class_list, function_list, main_block}
use Rattle.script_rules.specs.SourceCasts.{AreNames}
use Rattle.script_rules.specs.SourceParts.{Part, annotation, any_ann, parts_of}
use Rattle.script_rules.specs.SourceParts.{stmt_parts, block_parts, param_parts, body_parts, item_parts}
use Rattle.script_rules.specs.Writes.{WritesAny, IsFunctionType}
use Rattle.static_types.specs.BodyEnds.{may_end}
use Rattle.static_types.specs.Names.{Names}
use Rattle.static_types.specs.Scripts.{IsFunctionScope, IsMainScope}
use Rattle.cast_rules.specs.declared.site.TypedSite.{TypedSite}
use Rattle.cast_rules.specs.HasCasts.{ElaboratesFunction, ElaborateItems, no_item, class_item, function_item, line_item}
use Rattle.cast_rules.specs.OwnSites.{end_site}
use Rattle.cast_rules.specs.Sites.{standing}
use Rattle.class_types.proofs.OrderLaws.{In}
use Rattle.cast_rules.proofs.RightTypes.{Stand, stand_left, stand_right}
use Rattle.cast_rules.proofs.PartsStand.{TargetsStand, names_stand, main_parts, block_part_list}
use Rattle.program_types.proofs.HasWritten.{HasWritten}
use Rattle.program_types.proofs.RulesStand.{HasNames, HasScope}
use Rattle.program_types.proofs.SitesStand.{HasSites, sites_append, end_own}
use Rattle.program_types.proofs.LinesStand.{line_leaves, block_leaves}

-- ---- the blocks of a script

pub record HasBlock (Has : Ty → Type 0) (b : rust_block.CastBlock) : Type 0 where
  pub names : HasNames Has b.names
  pub threads : HasNames Has b.threads

pub record HasFunction (Has : Ty → Type 0) (f : CastFunction) : Type 0 where
  pub type : Has f.ty
  pub block : HasBlock Has f.block

abbrev pub HasFunctions : (Ty → Type 0) → List CastFunction → Type 0
HasFunctions Has [] = Unit {0}
HasFunctions Has (f ∷ fs) = HasFunction Has f × HasFunctions Has fs

-- what the items of a script leave behind them
pub record ItemsLeave (s : Script) (Has : Ty → Type 0) (ms : Names) (us : List TypedSite) (fs : List CastFunction) : Type 0 where
  pub names : HasScope s Has ms
  pub sites : HasSites Has us
  pub functions : HasFunctions Has fs

-- these are functions of the script
abbrev AreOfScript : Script → List FuncDef → Type 0
AreOfScript s ds = (d : FuncDef) → In d ds → In d (function_list s)

module _ (s : Script) (Has : Ty → Type 0) (has : HasWritten s Has) where
  -- ---- what may be named at the start of a block

  any_has : (o : Option Ann) (t : Ty) → Stand s (any_ann o) → WritesAny (class_list s) o t → Has t
  any_has None t h w = subst Has (sym w) has.of_dyn
  any_has (Some a) t h w = has.annotation a t (h (annotation a) (inl refl)) w

  names_have : (ts : List Target) (ns : List NamedType) → TargetsStand s ts → AreNames (class_list s) ts ns → HasNames Has ns
  names_have [] [] st h = tt
  names_have (t ∷ ts) (n ∷ ns) st h = (any_has t.ann n.ty st.0 h.1, names_have ts ns st.1 h.2)
  names_have [] (n ∷ ns) st h = absurd h
  names_have (t ∷ ts) [] st h = absurd h

  pub main_has : (ns : Names) → IsMainScope s ns → HasScope s Has ns
  main_has ns h =
      let stand = names_stand s [] (main_block s) (λ x i. absurd i) (λ x i. main_parts s.items x i) in
      record {
        classes = h.classes;
        functions = h.functions;
        values = names_have (firsts (all_targets [] (main_block s))) ns.values stand h.values;
        threads = subst (HasNames Has) (sym h.threads) tt;
        result = λ t e. none_some (Has t) (sym h.result ∙ e);
      }

  function_starts : (ns ms : Names) (d : FuncDef) (t : Ty) → HasScope s Has ns → Stand s (item_parts (item.Def d))
      → IsFunctionScope ns.classes ns.functions d t ms → HasScope s Has ms × Has t
  function_starts ns ms d t names st h =
      let front = param_parts d.params ++ any_ann d.result in
      let head = stand_left s front (body_parts d.body) st in
      let body = stand_right s front (body_parts d.body) st in
      let stand = names_stand s d.params d.body (stand_left s (param_parts d.params) (any_ann d.result) head) body in
      let targets = firsts (all_targets d.params d.body) in
      let values = subst (λ (cs : List ClassDef). AreNames cs targets ms.values) names.classes h.values in
      let result = subst (λ (cs : List ClassDef). WritesAny cs d.result t) names.classes h.declared in
      let type : Has t = any_has d.result t (stand_right s (param_parts d.params) (any_ann d.result) head) result in (
        record {
          classes = h.classes ∙ names.classes;
          functions = h.functions ∙ names.functions;
          values = names_have targets ms.values stand values;
          threads = subst (HasNames Has) (sym h.threads) tt;
          result = λ u e. subst Has (some_is (sym h.result ∙ e)) type;
        },
        type,
      )

  -- ---- items

  function_leaves : (ns : Names) (ss us : List TypedSite) (d : FuncDef) (f : CastFunction)
      → ElaboratesFunction ns.classes ns.functions ss d f us → In d (function_list s) → HasScope s Has ns
      → Stand s (item_parts (item.Def d)) → HasSites Has ss → HasFunction Has f × HasSites Has us
  function_leaves ns ss us d f h there names st sites =
      let start = function_starts ns h.names d h.result names st h.scope in
      let front = param_parts d.params ++ any_ann d.result in
      let body : Stand s (block_parts (block d.body)) =
      subst (λ (l : List Part). Stand s l) (sym (block_part_list d.body)) (stand_right s front (body_parts d.body) st) in
      let rest = block_leaves s Has has h.names h.behind ss h.inside (block d.body) (cast_block f.block.body) h.body start.0 body sites in
      let end = end_own s Has has (may_end (block d.body)) d.name.place h.result start.1 in
      let type = subst (λ (cs : List ClassDef). IsFunctionType cs d f.ty) names.classes h.type in (
        record {
          type = has.function d f.ty there type;
          block = record {
            names = subst (HasNames Has) (sym h.values) (start.0).values;
            threads = subst (HasNames Has) (sym h.threads) (rest.0).threads;
          };
        },
        subst (HasSites Has) (sym h.sites) (sites_append Has h.inside (standing (end_site d h.result ∷ [])) rest.1 end),
      )

  pub items_leave : (ns ms : Names) (ss us : List TypedSite) (is : List Item) (fs : List CastFunction) (b : CastBlock)
      → ElaborateItems ns ss is fs b ms us → AreOfScript s (functions_of is) → HasScope s Has ns → Stand s (parts_of is) → HasSites Has ss
      → ItemsLeave s Has ms us fs
  items_leave ns ms ss us is fs b no_item there names st sites = record { names = names; sites = sites; functions = tt }
  items_leave ns ms ss us is fs b (class_item {d = d} {is = rest} g) there names st sites =
      items_leave ns ms ss us rest fs b g there names (stand_right s (item_parts (item.Class d)) (parts_of rest) st) sites
  items_leave ns ms ss us is fs b (function_item {us = vs} {d = d} {is = rest} {f = f} {fs = gs} g h) there names st sites =
      let own = stand_left s (item_parts (item.Def d)) (parts_of rest) st in
      let first = function_leaves ns ss vs d f g (there d (inl refl)) names own sites in
      let behind = stand_right s (item_parts (item.Def d)) (parts_of rest) st in
      let others = items_leave ns ms vs us rest gs b h (λ k i. there k (inr i)) names behind first.1 in
      record { names = others.names; sites = others.sites; functions = (first.0, others.functions) }
  items_leave ns ms ss us is fs b (line_item {ks = ks} {us = vs} {s = l} {is = rest} {c = c} {b = b1} g h) there names st sites =
      let first = line_leaves s Has has ns ks ss vs l c g names (stand_left s (stmt_parts l) (parts_of rest) st) sites in
      items_leave ks ms vs us rest fs b1 h there first.0 (stand_right s (stmt_parts l) (parts_of rest) st) first.1
