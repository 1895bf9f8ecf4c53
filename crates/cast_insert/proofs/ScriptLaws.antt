-- Where a script has its types, the code finds it with its casts.
use Rattle.std.proofs.Common.{◌≡◌, ℕ, ◌+◌, true, List, [], ◌∷◌, ◌++◌, length, refl, sym, ◌∙◌, ap, subst, append_assoc}
use Rattle.std.specs.Prelude.{Option, Some, None, map, option_and_then, slice_get}
use Rattle.std.specs.Option.{option_map}
use Rattle.std.proofs.lemmas.List.{append-nil, length-append}
use Rattle.mono_list.proofs.Cases.{some_is}
use Rattle.mono_syntax.specs.declared.cast.CastFunction.{CastFunction}
use Rattle.mono_syntax.specs.declared.cast.CastScript.{CastScript}
use Rattle.mono_syntax.specs.declared.cast.NamedType.{NamedType}
use Rattle.mono_syntax.specs.declared.script.Scoped.{Scoped}
use Rattle.mono_syntax.specs.declared.tree.ClassDef.{ClassDef}
use Rattle.mono_syntax.specs.declared.tree.FuncDef.{FuncDef}
use Rattle.mono_syntax.specs.declared.tree.Item.{Item}
use Rattle.mono_syntax.specs.declared.tree.Item.TheVariants as item
use Rattle.mono_syntax.specs.declared.tree.Script.{Script}
use Rattle.mono_syntax.specs.CastStmt.{CastStmt}
use Rattle.mono_syntax.specs.CastStmtView.{cast_block}
use Rattle.mono_syntax.specs.Stmt.{Stmt}
use Rattle.mono_syntax.specs.StmtView.{block}
use Rattle.mono_syntax.specs.Ty.{Ty, nil}
use Rattle.mono_syntax.specs.TyView.{fields}
use Rattle.mono_tree.specs.Meet.{Consistent}
use Rattle.script_rules.specs.Definitions.{functions_of}
use Rattle.script_rules.specs.Scoping.{class_list, function_list}
use Rattle.script_rules.specs.SourceCasts.{BecomeClasses}
use Rattle.script_rules.specs.Writes.{IsFunctionType}
use Rattle.static_types.specs.BodyEnds.{may_end}
use Rattle.static_types.specs.Lines.{TypedLine, TypedBlock}
use Rattle.static_types.specs.Names.{Names}
use Rattle.static_types.specs.Scripts.{IsFunctionScope, TypedFunction, TypedItems, no_item, class_item, function_item, line_item, HasTypes}
use Rattle.static_types.proofs.ScriptLaws.{function_scope_once, main_scope_once}
use Rattle.cast_rules.specs.declared.site.TypedSite.{TypedSite}
use Rattle.cast_rules.specs.ElaboratesLines.{ElaboratesLine, ElaboratesBlock}
use Rattle.cast_rules.specs.HasCasts as casts
use Rattle.cast_rules.specs.HasCasts.{ElaboratesFunction, ElaborateItems, HasCasts}
use Rattle.cast_rules.specs.OwnSites.{end_site}
use Rattle.cast_rules.specs.Sites.{numbered}
use Rattle.known_names.specs.declared.known.Known.{Known}
use Rattle.known_names.specs.declared.known.KnownClass.{KnownClass}
use Rattle.known_names.specs.declared.known.KnownScript.{KnownScript}
use Rattle.known_names.specs.declared.known.Local.{Local}
use Rattle.known_names.specs.IsKnown.{ClassesKnown, FunctionsKnown, IsKnown, names_in, IsFunctionLocal, BodiesKnown, IsKnownScript}
use Rattle.cast_nodes.specs.declared.slots.Slots.{Slots}
use Rattle.cast_insert.specs.declared.states.Body.{Body}
use Rattle.cast_insert.specs.declared.states.Function.{Function}
use Rattle.cast_insert.specs.declared.states.Line.{Line}
use Rattle.cast_insert.specs.declared.states.Made.{Made}
use Rattle.cast_insert.specs.computed.Lined.{state, begun, line_inserted, block_inserted}
use Rattle.cast_nodes.specs.computed.Noded.{site_at}
use Rattle.cast_nodes.specs.computed.Placed.{no_slots, with_slot}
use Rattle.cast_insert.specs.computed.Scripted.{end_slot, function_of, function_made, with_function, items_made, nothing_made, with_sites, no_sites, class_of, script_of, script_made}
use Rattle.cast_insert.proofs.KeepLaws.{block_keeps, items_keep}
use Rattle.cast_insert.proofs.LineLaws.{IsLined, BodyIs, line_so, block_so}
use Rattle.cast_nodes.proofs.SlotLaws.{behind, behind_one}
use Rattle.cast_insert.proofs.TableLaws.{is_table}

-- the number of a single slot
single : (n : ℕ) (x : Option TypedSite) → site_at (numbered n (x ∷ [])) 0 ∷ [] ≡ numbered n (x ∷ [])
single n None = refl
single n (Some x) = refl

-- ---- what is known

become : (s : Script) (ds : List ClassDef) (ks : List KnownClass) → ClassesKnown (class_list s) ds ks → BecomeClasses s ds (map class_of ks)
become s [] [] h = tt
become s (d ∷ ds) (k ∷ ks) h =
    (record { fields = h.0.names; type = record { declared = fields k.fields; fields = h.0.declared; type = h.0.type } }, become s ds ks h.1)
become s [] (k ∷ ks) h = absurd h
become s (d ∷ ds) [] h = absurd h

record TypeAt (cs : List ClassDef) (f : FuncDef) (o : Option NamedType) : Type 0 where
  pub named : NamedType
  pub found : o ≡ Some named
  pub type : IsFunctionType cs f named.ty

type_at : (cs : List ClassDef) (before : List FuncDef) (f : FuncDef) (rest : List FuncDef) (ns : List NamedType) → FunctionsKnown cs (before ++ f ∷ rest) ns → TypeAt cs f (slice_get ns (length before))
type_at cs [] f rest (n ∷ ns) h = record { named = n; found = refl; type = h.1 }
type_at cs (b ∷ bs) f rest (n ∷ ns) h = type_at cs bs f rest ns h.2
type_at cs [] f rest [] h = absurd h
type_at cs (b ∷ bs) f rest [] h = absurd h

-- ---- rows of typed items

record FunctionRow (ns : Names) (f : FuncDef) (is : List Item) (ms : Names) : Type 0 where
  pub us : List Ty
  pub vs : List Ty
  pub typed : TypedFunction ns.classes ns.functions f us
  pub rest : TypedItems ns is ms vs

function_row : (ns : Names) (f : FuncDef) (is : List Item) (ms : Names) (all : List Ty) → TypedItems ns (item.Def f ∷ is) ms all → FunctionRow ns f is ms
function_row ns f is ms all (function_item h k q) = record { us = _; vs = _; typed = h; rest = k }

record LineRow (ns : Names) (s : Stmt) (is : List Item) (ms : Names) : Type 0 where
  pub mid : Names
  pub us : List Ty
  pub vs : List Ty
  pub typed : TypedLine ns s mid us
  pub rest : TypedItems mid is ms vs

line_row : (ns : Names) (s : Stmt) (is : List Item) (ms : Names) (all : List Ty) → TypedItems ns (item.Stmt s ∷ is) ms all → LineRow ns s is ms
line_row ns s is ms all (line_item h k q) = record { mid = _; us = _; vs = _; typed = h; rest = k }

class_row : (ns : Names) (c : ClassDef) (is : List Item) (ms : Names) (all : List Ty) → TypedItems ns (item.Class c ∷ is) ms all → TypedItems ns is ms all
class_row ns c is ms all (class_item h) = h

no_row : (ns ms : Names) (all : List Ty) → TypedItems ns [] ms all → ms ≡ ns
no_row ns ms all no_item = refl

module _ (d : Scoped) (all_known : KnownScript) (is_known : IsKnownScript d.script all_known) where
  abbrev Cs : List ClassDef
  Cs = class_list d.script

  abbrev Fs : List FuncDef
  Fs = function_list d.script

  abbrev Ks : Known
  Ks = all_known.names

  known : IsKnown Cs Fs Ks
  known = is_known.names

  abbrev Ns : Local → Names
  Ns l = names_in Cs Fs l

  -- ---- functions

  abbrev FunctionIs : FuncDef → List TypedSite → Option Function → Type 0
  FunctionIs f ss None = ⊥
  FunctionIs f ss (Some x) = ElaboratesFunction Cs Fs ss f x.function x.sites

  -- a function whose body is done
  record BodyDone (f : FuncDef) (l : Local) (u : Ty) (ss : List TypedSite) (b : Body) : Type 0 where
    pub scope : IsFunctionScope Cs Fs f u (Ns l)
    pub body : ElaboratesBlock (Ns l) ss (block f.body) (cast_block b.lines) (Ns b.state.local) b.state.sites
    pub end : may_end (block f.body) ≡ true → Consistent nil u
    pub values : b.state.local.values ≡ l.values

  function_done : (f : FuncDef) (l : Local) (u t : Ty) (ss : List TypedSite) (b : Body) → BodyDone f l u ss b → IsFunctionType Cs f t
      → FunctionIs f ss (Some (function_of f t b (with_slot (no_slots b.state.sites) (end_slot l.result f))))
  function_done f l u t ss b h type =
      let end = end_site f u in
      let q : Slots = behind (no_slots b.state.sites) (end ∷ []) in
      let found : FunctionIs f ss (Some (function_of f t b q)) = record {
        names = Ns l;
        behind = Ns b.state.local;
        result = u;
        inside = b.state.sites;
        scope = h.scope;
        body = h.body;
        end = h.end;
        falls = single (length b.state.sites) end;
        sites = refl;
        params = refl;
        type = type;
        values = h.values;
        threads = refl;
      } in
      subst (λ (z : Option Ty). FunctionIs f ss (Some (function_of f t b (with_slot (no_slots b.state.sites) (end_slot z f))))) (sym h.scope.result)
      (subst (λ (z : Slots). FunctionIs f ss (Some (function_of f t b z))) (sym (behind_one (no_slots b.state.sites) end)) found)

  function_then : (f : FuncDef) (l : Local) (u t : Ty) (ms : Names) (all : List Ty) (ss : List TypedSite) → IsFunctionScope Cs Fs f u (Ns l) → IsFunctionType Cs f t → TypedBlock (Ns l) (block f.body) ms all
      → (may_end (block f.body) ≡ true → Consistent nil u) → (o : Option Body) → BodyIs Cs Fs Ks known (block f.body) ms (begun (state l ss)) o
      → FunctionIs f ss (option_map (λ b. function_of f t b (with_slot (no_slots b.state.sites) (end_slot l.result f))) o)
  function_then f l u t ms all ss scope type typed end None h = absurd h
  function_then f l u t ms all ss scope type typed end (Some b) h =
      function_done f l u t ss b
      (record {
        scope = scope;
        body = subst (λ (z : List CastStmt). ElaboratesBlock (Ns l) ss (block f.body) (cast_block z) (Ns b.state.local) b.state.sites) (sym h.lines) h.elaborated;
        end = end;
        values = ap (λ (z : Names). z.values) h.names ∙ block_keeps (Ns l) ms (block f.body) all typed;
      })
      type

  function_so : (f : FuncDef) (l : Local) (t : Ty) (all : List Ty) (ss : List TypedSite) → IsFunctionLocal d.script f l → IsFunctionType Cs f t → TypedFunction Cs Fs f all
      → FunctionIs f ss (function_made Ks l f t ss)
  function_so f l t all ss s type h =
      let same : h.names ≡ Ns l = function_scope_once Cs Fs f h.result s.0 h.names (Ns l) h.scope s.1 in
      let result : h.result ≡ s.0 = some_is (sym h.scope.result ∙ ap (λ (z : Names). z.result) same ∙ s.1.result) in
      let typed = subst (λ (z : Names). TypedBlock z (block f.body) h.behind all) same h.body in
      function_then f l s.0 t h.behind all ss s.1 type typed (λ e. subst (λ (z : Ty). Consistent nil z) result (h.end e)) (block_inserted Ks (begun (state l ss)) (block f.body))
      (block_so Cs Fs Ks known (block f.body) h.behind all (begun (state l ss)) typed)

  -- ---- items

  record AreItems (is : List Item) (ms : Names) (n x : Made) : Type 0 where
    pub fs : List CastFunction
    pub functions : x.functions ≡ n.functions ++ fs
    pub more : List CastStmt
    pub lines : x.lines ≡ n.lines ++ more
    pub names : Ns x.state.local ≡ ms
    pub elaborated : ElaborateItems (Ns n.state.local) n.state.sites is fs (cast_block more) (Ns x.state.local) x.state.sites

  abbrev ItemsAre : List Item → Names → Made → Option Made → Type 0
  ItemsAre is ms n None = ⊥
  ItemsAre is ms n (Some x) = AreItems is ms n x

  -- what the bodies of the functions of these items may name is ahead, and so are their types
  record Ahead (is : List Item) (fs : List CastFunction) (ls : List Local) : Type 0 where
    pub bodies : BodiesKnown d.script (functions_of is) ls
    pub before : List FuncDef
    pub all : Fs ≡ before ++ functions_of is
    pub count : length before ≡ length fs

  function_end : (f : FuncDef) (is : List Item) (ms : Names) (n : Made) (x : Function) (ls : List Local) (o : Option Made) → ElaboratesFunction Cs Fs n.state.sites f x.function x.sites
      → ItemsAre is ms (record { functions = n.functions ++ x.function ∷ []; lines = n.lines; state = state n.state.local x.sites; bodies = ls }) o → ItemsAre (item.Def f ∷ is) ms n o
  function_end f is ms n x ls None h k = absurd k
  function_end f is ms n x ls (Some y) h k =
      record {
        fs = x.function ∷ k.fs;
        functions = k.functions ∙ append_assoc n.functions (x.function ∷ []) k.fs;
        more = k.more;
        lines = k.lines;
        names = k.names;
        elaborated = casts.function_item h k.elaborated;
      }

  abbrev next_function : Made → List Local → Function → Made
  next_function n ls x = record { functions = n.functions ++ x.function ∷ []; lines = n.lines; state = state n.state.local x.sites; bodies = ls }

  function_behind : (f : FuncDef) (is : List Item) (ms : Names) (n : Made) (ls : List Local) (o : Option Function) → FunctionIs f n.state.sites o
      → ((x : Function) → ItemsAre is ms (next_function n ls x) (items_made Ks (next_function n ls x) is))
      → ItemsAre (item.Def f ∷ is) ms n (option_and_then (λ x. items_made Ks x is) (option_map (λ x. next_function n ls x) o))
  function_behind f is ms n ls None h k = absurd h
  function_behind f is ms n ls (Some x) h k = function_end f is ms n x ls (items_made Ks (next_function n ls x) is) h (k x)

  one_ahead : (f : FuncDef) (is : List Item) (n : Made) (l : Local) (ls : List Local) (x : Function) → Ahead (item.Def f ∷ is) n.functions (l ∷ ls) → Ahead is (n.functions ++ x.function ∷ []) ls
  one_ahead f is n l ls x h =
      record {
        bodies = h.bodies.1;
        before = h.before ++ f ∷ [];
        all = h.all ∙ sym (append_assoc h.before (f ∷ []) (functions_of is));
        count = length-append h.before (f ∷ []) ∙ ap (λ (k : ℕ). k + 1) h.count ∙ sym (length-append n.functions (x.function ∷ []));
      }

  with_function_so : (f : FuncDef) (is : List Item) (ms : Names) (us : List Ty) (n : Made) (ls : List Local) → Ahead (item.Def f ∷ is) n.functions ls → TypedFunction Cs Fs f us
      → ((x : Made) → Ahead is x.functions x.bodies → Ns x.state.local ≡ Ns n.state.local → ItemsAre is ms x (items_made Ks x is))
      → ItemsAre (item.Def f ∷ is) ms n (option_and_then (λ x. items_made Ks x is) (with_function Ks n ls f))
  with_function_so f is ms us n [] h typed k = absurd h.bodies
  with_function_so f is ms us n (l ∷ ls) h typed k =
      let t = type_at Cs h.before f (functions_of is) Ks.functions (subst (λ (z : List FuncDef). FunctionsKnown Cs z Ks.functions) h.all known.functions) in
      let found : slice_get Ks.functions (length n.functions) ≡ Some t.named = ap (λ (z : ℕ). slice_get Ks.functions z) (sym h.count) ∙ t.found in
      subst (λ (z : Option NamedType). ItemsAre (item.Def f ∷ is) ms n (option_and_then (λ x. items_made Ks x is) (option_and_then (λ m. option_map (λ x. next_function n ls x) (function_made Ks l f m.ty n.state.sites)) z)))
      (sym found)
      (function_behind f is ms n ls (function_made Ks l f t.named.ty n.state.sites) (function_so f l t.named.ty us n.state.sites h.bodies.0 t.type typed)
      (λ x. k (next_function n ls x) (one_ahead f is n l ls x h) refl))

  abbrev next_line : Made → Line → Made
  next_line n x = record { functions = n.functions; lines = n.lines ++ x.statement ∷ []; state = x.state; bodies = n.bodies }

  line_end : (s : Stmt) (is : List Item) (ms : Names) (n : Made) (x : Line) (o : Option Made) → ElaboratesLine (Ns n.state.local) n.state.sites s x.statement (Ns x.state.local) x.state.sites
      → ItemsAre is ms (next_line n x) o → ItemsAre (item.Stmt s ∷ is) ms n o
  line_end s is ms n x None h k = absurd k
  line_end s is ms n x (Some y) h k =
      record {
        fs = k.fs;
        functions = k.functions;
        more = x.statement ∷ k.more;
        lines = k.lines ∙ append_assoc n.lines (x.statement ∷ []) k.more;
        names = k.names;
        elaborated = casts.line_item h k.elaborated;
      }

  line_then : (s : Stmt) (is : List Item) (mid ms : Names) (vs : List Ty) (n : Made) (o : Option Line) → IsLined Cs Fs Ks known s mid n.state o → TypedItems mid is ms vs
      → ((x : Line) → TypedItems (Ns x.state.local) is ms vs → ItemsAre is ms (next_line n x) (items_made Ks (next_line n x) is))
      → ItemsAre (item.Stmt s ∷ is) ms n (option_and_then (λ x. items_made Ks x is) (option_map (λ x. next_line n x) o))
  line_then s is mid ms vs n None h typed k = absurd h
  line_then s is mid ms vs n (Some x) h typed k =
      line_end s is ms n x (items_made Ks (next_line n x) is) h.elaborated (k x (subst (λ (z : Names). TypedItems z is ms vs) (sym h.names) typed))

  class_behind : (c : ClassDef) (is : List Item) (ms : Names) (n : Made) (o : Option Made) → ItemsAre is ms n o → ItemsAre (item.Class c ∷ is) ms n o
  class_behind c is ms n None h = absurd h
  class_behind c is ms n (Some x) h = record { fs = h.fs; functions = h.functions; more = h.more; lines = h.lines; names = h.names; elaborated = casts.class_item h.elaborated }

  items_so : (is : List Item) (ms : Names) (all : List Ty) (n : Made) → Ahead is n.functions n.bodies → TypedItems (Ns n.state.local) is ms all → ItemsAre is ms n (items_made Ks n is)
  items_so [] ms all n h typed =
      record {
        fs = [];
        functions = sym (append-nil n.functions);
        more = [];
        lines = sym (append-nil n.lines);
        names = sym (no_row (Ns n.state.local) ms all typed);
        elaborated = casts.no_item;
      }
  items_so (item.Class c ∷ is) ms all n h typed =
      class_behind c is ms n (items_made Ks n is)
      (items_so is ms all n (record { bodies = h.bodies; before = h.before; all = h.all; count = h.count }) (class_row (Ns n.state.local) c is ms all typed))
  items_so (item.Def f ∷ is) ms all n h typed =
      let r = function_row (Ns n.state.local) f is ms all typed in
      with_function_so f is ms r.us n n.bodies h r.typed (λ x k e. items_so is ms r.vs x k (subst (λ (z : Names). TypedItems z is ms r.vs) (sym e) r.rest))
  items_so (item.Stmt s ∷ is) ms all n h typed =
      let r = line_row (Ns n.state.local) s is ms all typed in
      line_then s is r.mid ms r.vs n (line_inserted Ks n.state s) (line_so Cs Fs Ks known s r.mid r.us n.state r.typed) r.rest
      (λ x k. items_so is ms r.vs (next_line n x) (record { bodies = h.bodies; before = h.before; all = h.all; count = h.count }) k)

  -- ---- the script

  abbrev ScriptIs : Option CastScript → Type 0
  ScriptIs None = ⊥
  ScriptIs (Some p) = HasCasts d p

  whole_so : (ms : Names) (all : List Ty) → TypedItems (Ns all_known.main) d.script.items ms all → (o : Option Made) → ItemsAre d.script.items ms (nothing_made all_known.main all_known.bodies) o
      → ScriptIs (option_map (λ m. script_of d Ks m (with_sites no_sites m.state.sites)) o)
  whole_so ms all typed None h = absurd h
  whole_so ms all typed (Some m) h =
      let t = is_table m.state.sites in
      record {
        names = Ns all_known.main;
        behind = Ns m.state.local;
        all = m.state.sites;
        scoped = refl;
        scope = is_known.main;
        classes = become d.script Cs Ks.classes known.classes;
        items = subst (λ (z : List CastFunction). ElaborateItems (Ns all_known.main) [] d.script.items z (cast_block m.lines) (Ns m.state.local) m.state.sites) (sym h.functions)
            (subst (λ (z : List CastStmt). ElaborateItems (Ns all_known.main) [] d.script.items h.fs (cast_block z) (Ns m.state.local) m.state.sites) (sym h.lines) h.elaborated);
        values = ap (λ (z : Names). z.values) h.names ∙ items_keep (Ns all_known.main) ms d.script.items all typed;
        threads = refl;
        sites = t.sites;
        distinct = t.distinct;
        used = t.used;
      }

  pub script_so : (all : List Ty) → HasTypes d.script all → ScriptIs (script_made d all_known)
  script_so all h =
      let same : h.names ≡ Ns all_known.main = main_scope_once d.script h.names (Ns all_known.main) h.scope is_known.main in
      let typed = subst (λ (z : Names). TypedItems z d.script.items h.behind all) same h.items in
      whole_so h.behind all typed (items_made Ks (nothing_made all_known.main all_known.bodies) d.script.items)
      (items_so d.script.items h.behind all (nothing_made all_known.main all_known.bodies) (record { bodies = is_known.bodies; before = []; all = refl; count = refl }) typed)

  -- ---- what the call answers

  pub found_casts : (all : List Ty) (p : CastScript) → HasTypes d.script all → Some p ≡ script_made d all_known → HasCasts d p
  found_casts all p h e = subst (λ (z : Option CastScript). ScriptIs z) (sym e) (script_so all h)

  pub found_some : (all : List Ty) → HasTypes d.script all → None ≡ script_made d all_known → ⊥
  found_some all h e = subst (λ (z : Option CastScript). ScriptIs z) (sym e) (script_so all h)
