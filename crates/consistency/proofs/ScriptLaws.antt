-- What `check` answers is the typing of the script, or its first fault.
use Rattle.std.proofs.Common.{◌≡◌, Bool, true, false, cond, List, [], ◌∷◌, ◌++◌, inl, inr, Result, Ok, Err, refl, sym, ap, subst}
use Rattle.std.specs.Prelude.{Option, Some, IfOk, IfErr, IsOkUnless}
use Rattle.mono_list.proofs.Cases.{split}
use Rattle.mono_syntax.specs.declared.leaf.TyAt.{TyAt}
use Rattle.mono_syntax.specs.declared.refusal.LoadFault.{LoadFault}
use Rattle.mono_syntax.specs.declared.refusal.LoadFault.TheVariants.{Refused, Memory}
use Rattle.mono_syntax.specs.declared.refusal.Reason.TheVariants.{Inconsistent}
use Rattle.mono_syntax.specs.declared.refusal.Refusal.{Refusal}
use Rattle.mono_syntax.specs.declared.script.Scoped.{Scoped}
use Rattle.mono_syntax.specs.declared.script.Typed.{Typed}
use Rattle.mono_syntax.specs.declared.tree.ClassDef.{ClassDef}
use Rattle.mono_syntax.specs.declared.tree.FuncDef.{FuncDef}
use Rattle.mono_syntax.specs.declared.tree.Item.{Item}
use Rattle.mono_syntax.specs.declared.tree.Item.TheVariants as item
use Rattle.mono_syntax.specs.Stmt.{Stmt}
use Rattle.mono_syntax.specs.StmtView.{block}
use Rattle.mono_syntax.specs.Ty.{Ty, nil}
use Rattle.script_rules.specs.Definitions.{functions_of}
use Rattle.script_rules.specs.Scoping.{class_list, function_list}
use Rattle.static_types.specs.BodyEnds.{may_end}
use Rattle.static_types.specs.Lines.{TypedLine, TypedBlock}
use Rattle.static_types.specs.Names.{Names}
use Rattle.static_types.specs.Rules.{at}
use Rattle.static_types.specs.Scripts.{IsFunctionScope, TypedFunction, FunctionFault, in_body, at_end, TypedItems, no_item, class_item, function_item, line_item, ItemFault, in_function, in_line, behind_class, behind_function, behind_line, IsTypeFault}
use Rattle.mono_tree.specs.Meet.{Consistent}
use Rattle.script_rules.specs.LoadFaults.{IsFault, Refuses}
use Rattle.static_types.specs.Typing.{AllStand, IsTyping}
use Rattle.static_types.proofs.ScriptLaws.{script_or_fault, script_fault_once}
use Rattle.known_names.specs.declared.known.Known.{Known}
use Rattle.known_names.specs.declared.known.KnownScript.{KnownScript}
use Rattle.known_names.specs.declared.known.Local.{Local}
use Rattle.known_names.specs.computed.Gives.{Gives}
use Rattle.known_names.specs.IsKnown.{IsKnown, names_in, IsFunctionLocal, BodiesKnown, IsKnownScript}
use Rattle.known_names.specs.computed.TypeTests.{consistent}
use Rattle.consistency.specs.declared.lines.State.{State}
use Rattle.consistency.specs.declared.script.Done.{Done}
use Rattle.consistency.specs.declared.trace.Trace.{Trace}
use Rattle.consistency.specs.computed.Lined.{line_typed, block_typed}
use Rattle.consistency.specs.computed.Scripted.{end_at, function_end, body_typed, function_typed, items_typed, begun, typed_script, checked}
use Rattle.rule_choice.specs.computed.Steps.{and_then}
use Rattle.consistency.proofs.LinedLaws.{Reached, IsLined, BlockOutcome, line_so, block_so}
use Rattle.consistency.proofs.TraceLaws.{Traced, traced_none, traced_on}
use Rattle.rule_choice.proofs.UseLaws.{consistent_is, apart_is}

module _ (d : Scoped) (all_known : KnownScript) (is_known : IsKnownScript d.script all_known) where
  abbrev Cs : List ClassDef
  Cs = class_list d.script

  abbrev Fs : List FuncDef
  Fs = function_list d.script

  abbrev Ks : Known
  Ks = all_known.names

  known : IsKnown Cs Fs Ks
  known = is_known.names

  abbrev Ns : Local → Names
  Ns l = names_in Cs Fs l

  -- ---- functions

  record BodyReached (f : FuncDef) (b c : Trace) : Type 0 where
    pub all : List Ty
    pub typed : TypedFunction Cs Fs f all
    pub traced : Traced b c all

  abbrev FunctionOutcome : FuncDef → Trace → Result Trace Refusal → Type 0
  FunctionOutcome f b (Ok c) = BodyReached f b c
  FunctionOutcome f b (Err r) = FunctionFault Cs Fs f r

  -- the body of a function has its types
  record BodyTyped (f : FuncDef) (l : Local) (t : Ty) (b c : Trace) : Type 0 where
    pub scoped : IsFunctionScope Cs Fs f t (Ns l)
    pub behind : Names
    pub all : List Ty
    pub typed : TypedBlock (Ns l) (block f.body) behind all
    pub traced : Traced b c all

  no_end : (f : FuncDef) (l : Local) (t : Ty) (b c : Trace) → BodyTyped f l t b c → (may_end (block f.body) ≡ true → Consistent nil t) → BodyReached f b c
  no_end f l t b c h k = record { all = h.all; typed = record { names = Ns l; behind = h.behind; result = t; scope = h.scoped; body = h.typed; end = k }; traced = h.traced }

  end_so : (f : FuncDef) (l : Local) (t : Ty) (b c : Trace) → BodyTyped f l t b c → may_end (block f.body) ≡ true → FunctionOutcome f b (end_at t f c)
  end_so f l t b c h m =
      split (consistent nil t) (λ z. FunctionOutcome f b (cond z (Ok c) (Err (at f.name.place Inconsistent))))
      (λ y. no_end f l t b c h (λ e. consistent_is nil t y))
      (λ n. at_end h.scoped h.typed m (apart_is nil t n) refl)

  true_false : {z : Bool} → z ≡ true → z ≡ false → ⊥
  true_false e f = cc

  function_end_so : (f : FuncDef) (l : Local) (t : Ty) (b c : Trace) → BodyTyped f l t b c → FunctionOutcome f b (function_end (Some t) f c)
  function_end_so f l t b c h =
      split (may_end (block f.body)) (λ z. FunctionOutcome f b (cond z (end_at t f c) (Ok c)))
      (λ y. end_so f l t b c h y)
      (λ n. no_end f l t b c h (λ e. absurd (true_false e n)))

  ended_so : (f : FuncDef) (l : Local) (t : Ty) (b c : Trace) → BodyTyped f l t b c → FunctionOutcome f b (function_end l.result f c)
  ended_so f l t b c h = subst (λ (z : Option Ty). FunctionOutcome f b (function_end z f c)) (sym h.scoped.result) (function_end_so f l t b c h)

  body_then : (f : FuncDef) (l : Local) (t : Ty) (b : Trace) → IsFunctionScope Cs Fs f t (Ns l) → (r : Result State Refusal) → BlockOutcome Cs Fs Ks known (block f.body) (record { local = l; trace = b }) r
      → FunctionOutcome f b (and_then r (λ x. function_end l.result f x.trace))
  body_then f l t b s (Ok x) h = ended_so f l t b x.trace (record { scoped = s; behind = Ns x.local; all = h.all; typed = h.typed; traced = h.traced })
  body_then f l t b s (Err g) h = in_body s h

  body_so : (f : FuncDef) (l : Local) (b : Trace) → IsFunctionLocal d.script f l → FunctionOutcome f b (body_typed Ks l f b)
  body_so f l b s =
      let start : State = record { local = l; trace = b } in
      body_then f l s.0 b s.1 (block_typed Ks start (block f.body)) (block_so Cs Fs Ks known (block f.body) start)

  -- ---- items

  record ItemsReached (is : List Item) (n m : Done) : Type 0 where
    pub all : List Ty
    pub typed : TypedItems (Ns n.state.local) is (Ns m.state.local) all
    pub traced : Traced n.state.trace m.state.trace all

  abbrev ItemsOutcome : List Item → Done → Result Done Refusal → Type 0
  ItemsOutcome is n (Ok m) = ItemsReached is n m
  ItemsOutcome is n (Err f) = ItemFault (Ns n.state.local) is f

  -- what the bodies of the functions of these items may name is behind
  abbrev AreAhead : List Item → List Local → Type 0
  AreAhead is ls = BodiesKnown d.script (functions_of is) ls

  function_behind : (f : FuncDef) (is : List Item) (n : Done) (b : Trace) (ls : List Local) → BodyReached f n.state.trace b
      → (r : Result Done Refusal) → ItemsOutcome is (record { state = record { local = n.state.local; trace = b }; bodies = ls }) r → ItemsOutcome (item.Def f ∷ is) n r
  function_behind f is n b ls h (Ok m) k =
      record { all = h.all ++ k.all; typed = function_item h.typed k.typed refl; traced = traced_on n.state.trace b m.state.trace h.all k.all h.traced k.traced }
  function_behind f is n b ls h (Err g) k = behind_function h.typed k

  function_then : (f : FuncDef) (is : List Item) (n : Done) (ls : List Local) (r : Result Trace Refusal) → FunctionOutcome f n.state.trace r
      → ((b : Trace) → ItemsOutcome is (record { state = record { local = n.state.local; trace = b }; bodies = ls }) (items_typed Ks (record { state = record { local = n.state.local; trace = b }; bodies = ls }) is))
      → ItemsOutcome (item.Def f ∷ is) n (and_then (and_then r (λ b. Ok (record { state = record { local = n.state.local; trace = b }; bodies = ls }))) (λ m. items_typed Ks m is))
  function_then f is n ls (Ok b) h k = function_behind f is n b ls h (items_typed Ks (record { state = record { local = n.state.local; trace = b }; bodies = ls }) is) (k b)
  function_then f is n ls (Err g) h k = in_function h

  line_behind : (s : Stmt) (is : List Item) (n : Done) (t : State) → Reached Cs Fs Ks known (λ ms all. TypedLine (Ns n.state.local) s ms all) n.state t
      → (r : Result Done Refusal) → ItemsOutcome is (record { state = t; bodies = n.bodies }) r → ItemsOutcome (item.Stmt s ∷ is) n r
  line_behind s is n t h (Ok m) k =
      record { all = h.all ++ k.all; typed = line_item h.typed k.typed refl; traced = traced_on n.state.trace t.trace m.state.trace h.all k.all h.traced k.traced }
  line_behind s is n t h (Err g) k = behind_line h.typed k

  line_then : (s : Stmt) (is : List Item) (n : Done) (r : Result State Refusal) → IsLined Cs Fs Ks known s n.state r
      → ((t : State) → ItemsOutcome is (record { state = t; bodies = n.bodies }) (items_typed Ks (record { state = t; bodies = n.bodies }) is))
      → ItemsOutcome (item.Stmt s ∷ is) n (and_then (and_then r (λ t. Ok (record { state = t; bodies = n.bodies }))) (λ m. items_typed Ks m is))
  line_then s is n (Ok t) h k = line_behind s is n t h (items_typed Ks (record { state = t; bodies = n.bodies }) is) (k t)
  line_then s is n (Err g) h k = in_line h

  class_behind : (c : ClassDef) (is : List Item) (n : Done) (r : Result Done Refusal) → ItemsOutcome is n r → ItemsOutcome (item.Class c ∷ is) n r
  class_behind c is n (Ok m) h = record { all = h.all; typed = class_item h.typed; traced = h.traced }
  class_behind c is n (Err g) h = behind_class h

  function_so : (f : FuncDef) (is : List Item) (n : Done) (ls : List Local) → AreAhead (item.Def f ∷ is) ls → ((m : Done) → AreAhead is m.bodies → ItemsOutcome is m (items_typed Ks m is))
      → ItemsOutcome (item.Def f ∷ is) n (and_then (function_typed Ks n.state ls f) (λ m. items_typed Ks m is))
  function_so f is n [] h rest = absurd h
  function_so f is n (l ∷ ls) h rest =
      function_then f is n ls (body_typed Ks l f n.state.trace) (body_so f l n.state.trace h.0) (λ b. rest (record { state = record { local = n.state.local; trace = b }; bodies = ls }) h.1)

  items_so : (is : List Item) (n : Done) → AreAhead is n.bodies → ItemsOutcome is n (items_typed Ks n is)
  items_so [] n h = record { all = []; typed = no_item; traced = traced_none n.state.trace }
  items_so (item.Class c ∷ is) n h = class_behind c is n (items_typed Ks n is) (items_so is n h)
  items_so (item.Def f ∷ is) n h = function_so f is n n.bodies h (λ m k. items_so is m k)
  items_so (item.Stmt s ∷ is) n h =
      line_then s is n (line_typed Ks n.state s) (line_so Cs Fs Ks known s n.state) (λ t. items_so is (record { state = t; bodies = n.bodies }) h)

  -- ---- the script

  abbrev pub IsChecked : Result Typed Refusal → Type 0
  IsChecked (Ok p) = IsTyping d p
  IsChecked (Err f) = IsTypeFault d.script f

  whole_so : (r : Result Done Refusal) → ItemsOutcome d.script.items (begun all_known.main all_known.bodies) r → IsChecked (and_then r (λ n. Ok (typed_script d n)))
  whole_so (Ok n) h =
      record {
        scoped = refl;
        distinct = h.traced.grows.distinct tt;
        all = h.all;
        stand = subst (λ (z : List TyAt). AllStand n.state.trace.types z h.all) (sym h.traced.exprs) h.traced.stand;
        types = record { names = Ns all_known.main; behind = Ns n.state.local; scope = is_known.main; items = h.typed };
      }
  whole_so (Err f) h = record { names = Ns all_known.main; scope = is_known.main; fault = h }

  pub checked_so : IsChecked (checked d all_known)
  checked_so = whole_so (items_typed Ks (begun all_known.main all_known.bodies) d.script.items) (items_so d.script.items (begun all_known.main all_known.bodies) is_known.bodies)

  -- ---- what the call answers

  pub answer_accepted : (r : Result Typed LoadFault) → Gives r (checked d all_known) → IfOk r (IsTyping d)
  answer_accepted (Ok p) h = subst (λ (z : Result Typed Refusal). IsChecked z) h checked_so
  answer_accepted (Err f) h = tt

  pub answer_refused : (r : Result Typed LoadFault) → Gives r (checked d all_known) → IfErr r (IsFault (IsTypeFault d.script))
  answer_refused (Ok p) h = tt
  answer_refused (Err (Refused f)) h = subst (λ (z : Result Typed Refusal). IsChecked z) h checked_so
  answer_refused (Err Memory) h = tt

  pub answer_accepts : (r : Result Typed LoadFault) → Gives r (checked d all_known) → (p : Typed) → IsTyping d p → IsOkUnless r Memory
  answer_accepts (Ok q) h p t = tt
  answer_accepts (Err (Refused f)) h p t = absurd (script_or_fault d.script t.all f t.types (subst (λ (z : Result Typed Refusal). IsChecked z) h checked_so))
  answer_accepts (Err Memory) h p t = refl

  pub answer_refuses : (r : Result Typed LoadFault) → Gives r (checked d all_known) → (f : Refusal) → IsTypeFault d.script f → Refuses r f
  answer_refuses (Ok q) h f k = let t = subst (λ (z : Result Typed Refusal). IsChecked z) h checked_so in absurd (script_or_fault d.script t.all f t.types k)
  answer_refuses (Err (Refused g)) h f k = inl (ap (λ (z : Refusal). Refused z) (script_fault_once d.script g f (subst (λ (z : Result Typed Refusal). IsChecked z) h checked_so) k))
  answer_refuses (Err Memory) h f k = inr refl
