-- A script has its types in one way, or it has one first fault.
use Rattle.std.proofs.Common.{◌≡◌, List, [], ◌∷◌, ◌++◌, ◌⊎◌, inl, inr, Some, refl, sym, ◌∙◌, ap, subst}
use Rattle.mono_syntax.specs.declared.cast.NamedType.{NamedType}
use Rattle.mono_syntax.specs.declared.refusal.Refusal.{Refusal}
use Rattle.mono_syntax.specs.declared.tree.ClassDef.{ClassDef}
use Rattle.mono_syntax.specs.declared.tree.FuncDef.{FuncDef}
use Rattle.mono_syntax.specs.declared.tree.Item.{Item}
use Rattle.mono_syntax.specs.declared.tree.Item.TheVariants as item
use Rattle.mono_syntax.specs.declared.tree.Script.{Script}
use Rattle.mono_syntax.specs.Stmt.{Stmt}
use Rattle.mono_syntax.specs.StmtView.{block}
use Rattle.mono_syntax.specs.Ty.{Ty, nil}
use Rattle.mono_tree.specs.Meet.{AreApart}
use Rattle.script_rules.specs.BlockNames.{Target, firsts, all_targets}
use Rattle.script_rules.specs.Scoping.{class_list, main_block}
use Rattle.static_types.specs.Lines.{TypedLine, TypedBlock}
use Rattle.static_types.specs.LineFaults.{LineFault, BlockFault}
use Rattle.static_types.specs.Names.{Names}
use Rattle.static_types.specs.Scripts.{IsFunctionScope, IsMainScope, TypedFunction, FunctionFault, in_body, at_end, TypedItems, no_item, class_item, function_item, line_item, ItemFault, in_function, in_line, behind_class, behind_function, behind_line, HasTypes, IsTypeFault}
use Rattle.script_rules.specs.SourceCasts.{AreNames}
use Rattle.static_types.proofs.LineLaws.{SameNames, line_once, block_once, line_or_fault, block_or_fault}
use Rattle.static_types.proofs.LineFaultLaws.{line_fault_once, block_fault_once}
use Rattle.static_types.proofs.UseLaws.{apart_or_consistent}
use Rattle.static_types.proofs.Writing.{one_any}

-- ---- what may be named

names_once : (cs : List ClassDef) (ts : List Target) (ns ks : List NamedType) → AreNames cs ts ns → AreNames cs ts ks → ns ≡ ks
names_once cs [] [] [] h k = refl
names_once cs (t ∷ ts) (n ∷ ns) (m ∷ ks) h k =
    let name : n.name ≡ m.name = h.0 ∙ sym k.0 in
    let type : n.ty ≡ m.ty = one_any cs t.ann n.ty m.ty h.1 k.1 in
    let others = names_once cs ts ns ks h.2 k.2 in
    λ j. record { name = name j; ty = type j } ∷ others j
names_once cs [] (n ∷ ns) ks h k = absurd h
names_once cs [] [] (m ∷ ks) h k = absurd k
names_once cs (t ∷ ts) [] ks h k = absurd h
names_once cs (t ∷ ts) (n ∷ ns) [] h k = absurd k

pub result_once : (cs : List ClassDef) (fs : List FuncDef) (d : FuncDef) (t u : Ty) (ns ks : Names) → IsFunctionScope cs fs d t ns → IsFunctionScope cs fs d u ks → t ≡ u
result_once cs fs d t u ns ks h k = one_any cs d.result t u h.declared k.declared

pub function_scope_once : (cs : List ClassDef) (fs : List FuncDef) (d : FuncDef) (t u : Ty) (ns ks : Names) → IsFunctionScope cs fs d t ns → IsFunctionScope cs fs d u ks → ns ≡ ks
function_scope_once cs fs d t u ns ks h k =
    let classes : ns.classes ≡ ks.classes = h.classes ∙ sym k.classes in
    let functions : ns.functions ≡ ks.functions = h.functions ∙ sym k.functions in
    let values : ns.values ≡ ks.values = names_once cs (firsts (all_targets d.params d.body)) ns.values ks.values h.values k.values in
    let threads : ns.threads ≡ ks.threads = h.threads ∙ sym k.threads in
    let result : ns.result ≡ ks.result = h.result ∙ ap Some (result_once cs fs d t u ns ks h k) ∙ sym k.result in
    λ j. record { classes = classes j; functions = functions j; values = values j; threads = threads j; result = result j }

pub main_scope_once : (s : Script) (ns ks : Names) → IsMainScope s ns → IsMainScope s ks → ns ≡ ks
main_scope_once s ns ks h k =
    let classes : ns.classes ≡ ks.classes = h.classes ∙ sym k.classes in
    let functions : ns.functions ≡ ks.functions = h.functions ∙ sym k.functions in
    let values : ns.values ≡ ks.values = names_once (class_list s) (firsts (all_targets [] (main_block s))) ns.values ks.values h.values k.values in
    let threads : ns.threads ≡ ks.threads = h.threads ∙ sym k.threads in
    let result : ns.result ≡ ks.result = h.result ∙ sym k.result in
    λ j. record { classes = classes j; functions = functions j; values = values j; threads = threads j; result = result j }

-- ---- functions

module _ (cs : List ClassDef) (fs : List FuncDef) (d : FuncDef) where
  body_once : (us vs : List Ty) (h : TypedFunction cs fs d us) (ns ms : Names) (t : Ty) → IsFunctionScope cs fs d t ns → TypedBlock ns (block d.body) ms vs → us ≡ vs
  body_once us vs h ns ms t s b =
      let same = function_scope_once cs fs d h.result t h.names ns h.scope s in
      (block_once h.names (block d.body) h.behind ms us vs h.body (subst (λ (z : Names). TypedBlock z (block d.body) ms vs) (sym same) b)).all

  function_once : (us vs : List Ty) → TypedFunction cs fs d us → TypedFunction cs fs d vs → us ≡ vs
  function_once us vs h k = body_once us vs h k.names k.behind k.result k.scope k.body

  function_or_fault : (us : List Ty) (f : Refusal) → TypedFunction cs fs d us → FunctionFault cs fs d f → ⊥
  function_or_fault us f h (in_body {ns = ns} {t = t} s b) =
      let same = function_scope_once cs fs d h.result t h.names ns h.scope s in
      block_or_fault h.names (block d.body) h.behind us f h.body (subst (λ (z : Names). BlockFault z (block d.body) f) (sym same) b)
  function_or_fault us f h (at_end {ns = ns} {t = t} s b e a q) =
      let same = result_once cs fs d h.result t h.names ns h.scope s in
      apart_or_consistent nil h.result (h.end e) (subst (λ (z : Ty). AreApart nil z) (sym same) a)

  function_fault_once : (f g : Refusal) → FunctionFault cs fs d f → FunctionFault cs fs d g → f ≡ g
  function_fault_once f g (in_body {ns = ns} {t = t} s b) (in_body {ns = ks} {t = u} s2 b2) =
      let same = function_scope_once cs fs d t u ns ks s s2 in
      block_fault_once ns (block d.body) f g b (subst (λ (z : Names). BlockFault z (block d.body) g) (sym same) b2)
  function_fault_once f g (in_body {ns = ns} {t = t} s b) (at_end {ns = ks} {ms = ms} {t = u} {us = us} s2 b2 e a q) =
      let same = function_scope_once cs fs d u t ks ns s2 s in
      absurd (block_or_fault ks (block d.body) ms us f b2 (subst (λ (z : Names). BlockFault z (block d.body) f) (sym same) b))
  function_fault_once f g (at_end {ns = ns} {ms = ms} {t = t} {us = us} s b e a q) (in_body {ns = ks} {t = u} s2 b2) =
      let same = function_scope_once cs fs d t u ns ks s s2 in
      absurd (block_or_fault ns (block d.body) ms us g b (subst (λ (z : Names). BlockFault z (block d.body) g) (sym same) b2))
  function_fault_once f g (at_end s b e a q) (at_end s2 b2 e2 a2 q2) = q ∙ sym q2

-- ---- items

record FunctionRow (ns : Names) (d : FuncDef) (is : List Item) (ms : Names) (all : List Ty) : Type 0 where
  pub us : List Ty
  pub vs : List Ty
  pub typed : TypedFunction ns.classes ns.functions d us
  pub rest : TypedItems ns is ms vs
  pub together : all ≡ us ++ vs

record LineRow (ns : Names) (s : Stmt) (is : List Item) (ms : Names) (all : List Ty) : Type 0 where
  pub ks : Names
  pub us : List Ty
  pub vs : List Ty
  pub typed : TypedLine ns s ks us
  pub rest : TypedItems ks is ms vs
  pub together : all ≡ us ++ vs

abbrev ItemsRow : Names → List Item → Names → List Ty → Type 0
ItemsRow ns [] ms all = (ms ≡ ns) × (all ≡ [])
ItemsRow ns (item.Class d ∷ is) ms all = TypedItems ns is ms all
ItemsRow ns (item.Def d ∷ is) ms all = FunctionRow ns d is ms all
ItemsRow ns (item.Stmt s ∷ is) ms all = LineRow ns s is ms all

items_row : (ns : Names) (is : List Item) (ms : Names) (all : List Ty) → TypedItems ns is ms all → ItemsRow ns is ms all
items_row ns is ms all no_item = (refl, refl)
items_row ns is ms all (class_item h) = h
items_row ns is ms all (function_item h k q) = record { us = _; vs = _; typed = h; rest = k; together = q }
items_row ns is ms all (line_item h k q) = record { ks = _; us = _; vs = _; typed = h; rest = k; together = q }

items_once : (ns : Names) (is : List Item) (ms ks : Names) (us vs : List Ty) → TypedItems ns is ms us → TypedItems ns is ks vs → SameNames ms ks us vs
items_once ns is ms ks us vs no_item k = let r = items_row ns [] ks vs k in record { names = sym r.0; all = sym r.1 }
items_once ns is ms ks us vs (class_item {d = d} {is = is2} h) k = items_once ns is2 ms ks us vs h (items_row ns (item.Class d ∷ is2) ks vs k)
items_once ns is ms ks us vs (function_item {d = d} {is = is2} {us = xs} {vs = ys} h h2 q) k =
    let r = items_row ns (item.Def d ∷ is2) ks vs k in
    let first = function_once ns.classes ns.functions d xs r.us h r.typed in
    let rest = items_once ns is2 ms ks ys r.vs h2 r.rest in
    record { names = rest.names; all = q ∙ (λ j. first j ++ rest.all j) ∙ sym r.together }
items_once ns is ms ks us vs (line_item {ks = ns2} {s = s} {is = is2} {us = xs} {vs = ys} h h2 q) k =
    let r = items_row ns (item.Stmt s ∷ is2) ks vs k in
    let first = line_once ns s ns2 r.ks xs r.us h r.typed in
    let moved = subst (λ (z : Names). TypedItems z is2 ks r.vs) (sym first.names) r.rest in
    let rest = items_once ns2 is2 ms ks ys r.vs h2 moved in
    record { names = rest.names; all = q ∙ (λ j. first.all j ++ rest.all j) ∙ sym r.together }

record BehindFunction (ns : Names) (d : FuncDef) (is : List Item) (f : Refusal) : Type 0 where
  pub us : List Ty
  pub typed : TypedFunction ns.classes ns.functions d us
  pub fault : ItemFault ns is f

record BehindLine (ns : Names) (s : Stmt) (is : List Item) (f : Refusal) : Type 0 where
  pub ks : Names
  pub us : List Ty
  pub typed : TypedLine ns s ks us
  pub fault : ItemFault ks is f

abbrev FaultRow : Names → List Item → Refusal → Type 0
FaultRow ns [] f = ⊥
FaultRow ns (item.Class d ∷ is) f = ItemFault ns is f
FaultRow ns (item.Def d ∷ is) f = FunctionFault ns.classes ns.functions d f ⊎ BehindFunction ns d is f
FaultRow ns (item.Stmt s ∷ is) f = LineFault ns s f ⊎ BehindLine ns s is f

fault_row : (ns : Names) (is : List Item) (f : Refusal) → ItemFault ns is f → FaultRow ns is f
fault_row ns is f (in_function h) = inl h
fault_row ns is f (in_line h) = inl h
fault_row ns is f (behind_class h) = h
fault_row ns is f (behind_function h k) = inr (record { us = _; typed = h; fault = k })
fault_row ns is f (behind_line h k) = inr (record { ks = _; us = _; typed = h; fault = k })

items_or_fault : (ns : Names) (is : List Item) (ms : Names) (us : List Ty) (f : Refusal) → TypedItems ns is ms us → ItemFault ns is f → ⊥
items_or_fault ns is ms us f no_item k = fault_row ns [] f k
items_or_fault ns is ms us f (class_item {d = d} {is = is2} h) k = items_or_fault ns is2 ms us f h (fault_row ns (item.Class d ∷ is2) f k)
items_or_fault ns is ms us f (function_item {d = d} {is = is2} {us = xs} {vs = ys} h h2 q) k =
    elim (fault_row ns (item.Def d ∷ is2) f k) [ inl x ↦ function_or_fault ns.classes ns.functions d xs f h x | inr x ↦ items_or_fault ns is2 ms ys f h2 x.fault ]
items_or_fault ns is ms us f (line_item {ks = ks} {s = s} {is = is2} {us = xs} {vs = ys} h h2 q) k =
    elim (fault_row ns (item.Stmt s ∷ is2) f k) [
      | inl x ↦ line_or_fault ns s ks xs f h x
      | inr x ↦ (let same = line_once ns s ks x.ks xs x.us h x.typed in items_or_fault ks is2 ms ys f h2 (subst (λ (z : Names). ItemFault z is2 f) (sym same.names) x.fault))
    ]

item_fault_once : (ns : Names) (is : List Item) (f g : Refusal) → ItemFault ns is f → ItemFault ns is g → f ≡ g
item_fault_once ns is f g (in_function {d = d} {is = is2} h) k =
    elim (fault_row ns (item.Def d ∷ is2) g k) [
      | inl x ↦ function_fault_once ns.classes ns.functions d f g h x
      | inr x ↦ absurd (function_or_fault ns.classes ns.functions d x.us f x.typed h)
    ]
item_fault_once ns is f g (in_line {s = s} {is = is2} h) k =
    elim (fault_row ns (item.Stmt s ∷ is2) g k) [ inl x ↦ line_fault_once ns s f g h x | inr x ↦ absurd (line_or_fault ns s x.ks x.us f x.typed h) ]
item_fault_once ns is f g (behind_class {d = d} {is = is2} h) k = item_fault_once ns is2 f g h (fault_row ns (item.Class d ∷ is2) g k)
item_fault_once ns is f g (behind_function {d = d} {is = is2} {us = us} h j) k =
    elim (fault_row ns (item.Def d ∷ is2) g k) [ inl x ↦ absurd (function_or_fault ns.classes ns.functions d us g h x) | inr x ↦ item_fault_once ns is2 f g j x.fault ]
item_fault_once ns is f g (behind_line {ks = ks} {s = s} {is = is2} {us = us} h j) k =
    elim (fault_row ns (item.Stmt s ∷ is2) g k) [
      | inl x ↦ absurd (line_or_fault ns s ks us g h x)
      | inr x ↦ (let same = line_once ns s ks x.ks us x.us h x.typed in item_fault_once ks is2 f g j (subst (λ (z : Names). ItemFault z is2 g) (sym same.names) x.fault))
    ]

-- ---- scripts

pub typing_once : (s : Script) (ts us : List Ty) → HasTypes s ts → HasTypes s us → ts ≡ us
typing_once s ts us h k =
    let same = main_scope_once s k.names h.names k.scope h.scope in
    (items_once h.names s.items h.behind k.behind ts us h.items (subst (λ (z : Names). TypedItems z s.items k.behind us) same k.items)).all

pub script_or_fault : (s : Script) (ts : List Ty) (f : Refusal) → HasTypes s ts → IsTypeFault s f → ⊥
script_or_fault s ts f h k =
    let same = main_scope_once s k.names h.names k.scope h.scope in
    items_or_fault h.names s.items h.behind ts f h.items (subst (λ (z : Names). ItemFault z s.items f) same k.fault)

pub script_fault_once : (s : Script) (f g : Refusal) → IsTypeFault s f → IsTypeFault s g → f ≡ g
script_fault_once s f g h k =
    let same = main_scope_once s k.names h.names k.scope h.scope in
    item_fault_once h.names s.items f g h.fault (subst (λ (z : Names). ItemFault z s.items g) same k.fault)
