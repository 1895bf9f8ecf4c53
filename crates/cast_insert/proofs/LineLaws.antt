-- Where a statement has its types, the code finds what it becomes with its casts.
use Rattle.std.proofs.Common.{◌≡◌, suc, Bool, append_assoc, List, [], ◌∷◌, ◌++◌, length, Result, Ok, Err, refl, sym, ◌∙◌, ap, subst}
use Rattle.std.specs.Prelude.{Option, Some, None, option_and_then}
use Rattle.std.specs.Option.{option_map}
use Rattle.std.proofs.lemmas.List.{append-nil}
use Rattle.mono_list.proofs.Cases.{split}
use Rattle.mono_syntax.specs.declared.cast.CastBranch.{CastBranch}
use Rattle.mono_syntax.specs.declared.leaf.Kind.TheVariants as kind
use Rattle.mono_syntax.specs.declared.leaf.Place.{Place}
use Rattle.mono_syntax.specs.declared.leaf.Word.{Word}
use Rattle.mono_syntax.specs.declared.refusal.Refusal.{Refusal}
use Rattle.mono_syntax.specs.declared.tree.ClassDef.{ClassDef}
use Rattle.mono_syntax.specs.declared.tree.FuncDef.{FuncDef}
use Rattle.mono_syntax.specs.CastExpr as cast
use Rattle.mono_syntax.specs.CastExpr.{CastExpr}
use Rattle.mono_syntax.specs.CastStmt.{CastStmt}
use Rattle.mono_syntax.specs.CastStmtView.{cast_block, cast_branches, cast_else_block}
use Rattle.mono_syntax.specs.Expr.{Expr, Exprs}
use Rattle.mono_syntax.specs.ExprView.{exprs_list}
use Rattle.mono_syntax.specs.Stmt as stmt
use Rattle.mono_syntax.specs.Stmt.{Stmt, Block, no_stmts, more_stmts, Branches, no_branches, more_branches, Else, no_else, otherwise}
use Rattle.mono_syntax.specs.Ty.{Ty, dyn, bool}
use Rattle.mono_tree.specs.Meet.{Consistent}
use Rattle.mono_tree.specs.Precision.{precise}
use Rattle.mono_tree.proofs.PreciseTest.{precise-read}
use Rattle.mono_tree.specs.TypedPrograms.{type_of_name}
use Rattle.script_rules.specs.SourcePlaces.{place_of}
use Rattle.static_types.specs.declared.rule.Rule.{Rule}
use Rattle.static_types.specs.Lines.{line_parts, AssignRule, WriteRule, ReturnRule, StartRule, LineRule, TypedLine, TypedGuarded, TypedBranches, TypedElse, TypedBlock}
use Rattle.script_rules.specs.SourceCasts.{returned}
use Rattle.static_types.specs.Lines as typed
use Rattle.static_types.specs.Members.{all_dyn}
use Rattle.static_types.specs.Names.{Names}
use Rattle.static_types.specs.Rules.{member_of}
use Rattle.static_types.specs.Types.{AllConsistent, Types, TypeAll}
use Rattle.static_types.proofs.LineRows.{PlainRow, if_row, loop_row, guarded_row, branches_row, else_row, block_row}
use Rattle.static_types.proofs.RuleLaws.{callee_once, callee_or_fault}
use Rattle.static_types.proofs.TypeLaws.{all_row}
use Rattle.cast_rules.specs.declared.site.TypedSite.{TypedSite}
use Rattle.cast_rules.specs.Elaborates.{Uses, as_it_is, with_cast, UsesEach, Elaborates, ElaborateAll, of_none, of_more}
use Rattle.cast_rules.specs.ElaboratesLines.{ElaboratesLine, line, branches, loops, ElaboratesGuarded, guards, ElaborateBranches, no_branch, next_branch, ElaboratesElse, no_last, at_last, ElaboratesBlock, ends, goes_on}
use Rattle.cast_rules.specs.OwnSites.{line_sites}
use Rattle.cast_rules.specs.Sites.{site_from, site_unless}
use Rattle.known_names.specs.declared.known.Known.{Known}
use Rattle.known_names.specs.declared.known.Local.{Local}
use Rattle.known_names.specs.IsKnown.{IsKnown, names_in}
use Rattle.rule_choice.specs.declared.parts.Part.{Part}
use Rattle.rule_choice.specs.GivenParts.{types_of, AreAt}
use Rattle.rule_choice.specs.computed.Ruled.{first_rule}
use Rattle.rule_choice.proofs.CountLaws.{types_count, types_count_of}
use Rattle.rule_choice.proofs.RuleLaws.{IsFirstCalled, first_so}
use Rattle.cast_insert.specs.declared.parts.Parts.{Parts}
use Rattle.cast_insert.specs.declared.parts.Used.{Used}
use Rattle.cast_insert.specs.declared.parts.Whole.{Whole}
use Rattle.cast_nodes.specs.declared.slots.Slots.{Slots}
use Rattle.cast_insert.specs.declared.states.Body.{Body}
use Rattle.cast_insert.specs.declared.states.Branched.{Branched}
use Rattle.cast_insert.specs.declared.states.Condition.{Condition}
use Rattle.cast_insert.specs.declared.states.Guarded.{Guarded}
use Rattle.cast_insert.specs.declared.states.Last.{Last}
use Rattle.cast_insert.specs.declared.states.Line.{Line}
use Rattle.cast_insert.specs.declared.states.LineUse.{LineUse}
use Rattle.cast_insert.specs.declared.states.State.{State}
use Rattle.cast_insert.specs.computed.Inserted.{allowed, used_each, no_parts, with_part, all_inserted, inserted}
use Rattle.cast_nodes.specs.computed.LineNodes.{put_line, line_node}
use Rattle.cast_insert.specs.computed.Lined.{with_thread, line_use, start_use, use_of, line_parts_inserted, state, line_made, line_used, simple_line, condition_of, condition, first_inserted, begun, with_line, guarded, unbranched, branch, with_branch, looped, if_line, branched, last_block, line_inserted, block_inserted, branches_inserted, last_inserted}
use Rattle.cast_nodes.specs.computed.Noded.{fit_all}
use Rattle.cast_nodes.specs.computed.Placed.{no_slots, with_slot}
use Rattle.cast_insert.proofs.InsertLaws.{IsWhole, ArePartsOf, AreInserted, IsInserted, exprs_count, uses_count, no_more, typed_one, typed_row, all_so, expr_so}
use Rattle.cast_nodes.proofs.LineSlotLaws.{line_are, line_node_so}
use Rattle.cast_nodes.proofs.SlotLaws.{behind}
use Rattle.cast_insert.proofs.UsedLaws.{not_precise, used_each_so}

consistent_count : (ss ts : List Ty) → AllConsistent ss ts → length ss ≡ length ts
consistent_count [] [] h = refl
consistent_count (s ∷ ss) (t ∷ ts) h = ap suc (consistent_count ss ts h.1)
consistent_count [] (t ∷ ts) h = absurd h
consistent_count (s ∷ ss) [] h = absurd h

dyn_types : (xs : List Part) → all_dyn xs ≡ all_dyn (types_of xs)
dyn_types [] = refl
dyn_types (x ∷ xs) = ap (λ (z : List Ty). dyn ∷ z) (dyn_types xs)

-- a statement without blocks
abbrev IsPlain : Stmt → Type 0
IsPlain (stmt.if_any bs last) = ⊥
IsPlain (stmt.loop e body) = ⊥
IsPlain s = Unit {0}

row_of : (ns : Names) (s : Stmt) (ms : Names) (all : List Ty) → IsPlain s → TypedLine ns s ms all → PlainRow ns s ms all
row_of ns s ms all p (typed.line {ts = ts} asks t r c) = record { ts = ts; asks = asks; typed = t; rule = r; used = c }
row_of ns s ms all p (typed.branches h k q) = absurd p
row_of ns s ms all p (typed.loops h) = absurd p

module _ (cs : List ClassDef) (fs : List FuncDef) (ks : Known) (known : IsKnown cs fs ks) where
  abbrev Ns : Local → Names
  Ns l = names_in cs fs l

  -- behind t, the statement has become x, and behind it ms may be named
  pub record IsLine (s : Stmt) (ms : Names) (t : State) (x : Line) : Type 0 where
    pub names : Ns x.state.local ≡ ms
    pub elaborated : ElaboratesLine (Ns t.local) t.sites s x.statement (Ns x.state.local) x.state.sites

  abbrev pub IsLined : Stmt → Names → State → Option Line → Type 0
  IsLined s ms t None = ⊥
  IsLined s ms t (Some x) = IsLine s ms t x

  -- ---- uses

  -- the code finds the types at which a statement uses its parts, and what may be named behind it
  record HasUse (l : Local) (s : Stmt) (xs : List Part) (asks : List Ty) (ms : Names) : Type 0 where
    pub behind : Local
    pub found : use_of l s xs ≡ Some (line_use asks behind)
    pub names : Ns behind ≡ ms

  -- at a type that is found, nothing is started
  asked_at : (l : Local) (s : Stmt) (xs : List Part) (ms : Names) (f : Ty → List Ty) (o : Option Ty) (t : Ty) (asks : List Ty) → o ≡ Some t → asks ≡ f t
      → use_of l s xs ≡ option_map (λ u. line_use (f u) l) o → ms ≡ Ns l → HasUse l s xs asks ms
  asked_at l s xs ms f o t asks e a u n =
      record { behind = l; found = u ∙ ap (λ (z : Option Ty). option_map (λ v. line_use (f v) l) z) e ∙ ap (λ (z : List Ty). Some (line_use z l)) (sym a); names = sym n }

  return_use : (l : Local) (p : Place) (e : Option Expr) (xs : List Part) (asks : List Ty) (ms : Names) (o : Option Ty) → l.result ≡ o → ReturnRule o asks → ms ≡ Ns l → HasUse l (stmt.give p e) xs asks ms
  return_use l p e xs asks ms None i h n = absurd h
  return_use l p e xs asks ms (Some t) i h n = asked_at l (stmt.give p e) xs ms (λ u. u ∷ []) l.result t asks i h refl n

  assign_use : (l : Local) (w : Word) (a : _) (e : Expr) (xs : List Part) (asks : List Ty) (ms : Names) (o : Option Ty) → type_of_name l.values w.text ≡ o → AssignRule o asks → ms ≡ Ns l
      → HasUse l (stmt.assign w a e) xs asks ms
  assign_use l w a e xs asks ms None i h n = absurd h
  assign_use l w a e xs asks ms (Some t) i h n = asked_at l (stmt.assign w a e) xs ms (λ u. u ∷ []) (type_of_name l.values w.text) t asks i h refl n

  write_use : (l : Local) (o : Expr) (w : Word) (e : Expr) (xs : List Part) (asks : List Ty) (ms : Names) (m : Option Ty) → member_of (types_of xs) w.text ≡ m → WriteRule m asks → ms ≡ Ns l
      → HasUse l (stmt.write o w e) xs asks ms
  write_use l o w e xs asks ms None i h n = absurd h
  write_use l o w e xs asks ms (Some t) i h n = asked_at l (stmt.write o w e) xs ms (λ u. dyn ∷ u ∷ []) (member_of (types_of xs) w.text) t asks i h refl n

  started : (l : Local) (w : Word) (p : Place) (f : Expr) (es : Exprs) (xs : List Part) (asks : List Ty) (ms : Names) (h : StartRule (Ns l) w.text (types_of xs) asks ms) (r : Result Rule Refusal)
      → first_rule p xs ≡ r → IsFirstCalled p xs r → HasUse l (stmt.start w p f es) xs asks ms
  started l w p f es xs asks ms h (Ok q) e c =
      let same : q ≡ h.rule = callee_once (types_of xs) q h.rule c h.called in
      record {
        behind = with_thread l w.text h.rule.gives;
        found = ap (λ (z : Option Ty). start_use z l w.text p xs) h.fresh ∙ ap (λ (z : Result Rule Refusal). option_map (λ r. line_use r.asks (with_thread l w.text r.gives)) (allowed z)) e
            ∙ ap (λ (z : Rule). Some (line_use z.asks (with_thread l w.text z.gives))) same ∙ ap (λ (z : List Ty). Some (line_use z (with_thread l w.text h.rule.gives))) (sym h.asked);
        names = sym h.named;
      }
  started l w p f es xs asks ms h (Err g) e c = absurd (callee_or_fault p (types_of xs) h.rule g h.called c)

  use_so : (l : Local) (s : Stmt) (xs : List Part) (asks : List Ty) (ms : Names) → LineRule (Ns l) s (types_of xs) asks ms → HasUse l s xs asks ms
  use_so l stmt.pass xs asks ms h = record { behind = l; found = ap (λ (z : List Ty). Some (line_use z l)) (sym h.0); names = sym h.1 }
  use_so l (stmt.give p e) xs asks ms h = return_use l p e xs asks ms l.result refl h.0 h.1
  use_so l (stmt.print p es) xs asks ms h = record { behind = l; found = ap (λ (z : List Ty). Some (line_use z l)) (dyn_types xs ∙ sym h.0); names = sym h.1 }
  use_so l (stmt.assign w a e) xs asks ms h = assign_use l w a e xs asks ms (type_of_name l.values w.text) refl h.0 h.1
  use_so l (stmt.write o w e) xs asks ms h = write_use l o w e xs asks ms (member_of (types_of xs) w.text) refl h.0 h.1
  use_so l (stmt.start w p f es) xs asks ms h = started l w p f es xs asks ms h (first_rule p xs) refl (first_so p xs)
  use_so l (stmt.plain e) xs asks ms h = record { behind = l; found = ap (λ (z : List Ty). Some (line_use z l)) (sym h.0); names = sym h.1 }
  use_so l (stmt.if_any bs last) xs asks ms h = absurd h
  use_so l (stmt.loop e body) xs asks ms h = absurd h

  -- ---- statements without blocks

  -- all parts of a construct, with what they became
  record Done (l : Local) (es : List Expr) (ss : List TypedSite) (ts : List Ty) (x : Parts) : Type 0 where
    pub types : types_of x.parts ≡ ts
    pub places : AreAt es x.parts
    pub elaborated : ElaborateAll (Ns l) ss es ts x.exprs x.sites

  done_so : (l : Local) (es : List Expr) (ss : List TypedSite) (ts : List Ty) (x : Parts) → ArePartsOf cs fs ks l known es ts (no_parts ss) x → Done l es ss ts x
  done_so l es ss ts x h =
      record {
        types = ap types_of h.parts ∙ h.types;
        places = subst (λ (z : List Part). AreAt es z) (sym h.parts) h.places;
        elaborated = subst (λ (z : List CastExpr). ElaborateAll (Ns l) ss es ts z x.sites) (sym h.exprs) h.elaborated;
      }

  -- parts that are each used at a type
  used_done : (l : Local) (es : List Expr) (ss : List TypedSite) (ts : List Ty) (x : Parts) (asks : List Ty) → Done l es ss ts x → AllConsistent ts asks
      → UsesEach x.sites es ts x.exprs asks (used_each x asks).exprs (used_each x asks).sites
  used_done l es ss ts x asks h c =
      let count : length x.parts ≡ length ts = sym (types_count x.parts) ∙ ap (λ (z : List Ty). length z) h.types in
      subst (λ (z : List Ty). UsesEach x.sites es z x.exprs asks (used_each x asks).exprs (used_each x asks).sites) h.types
      (used_each_so es x asks h.places
      (exprs_count (Ns l) ss es ts x.exprs x.sites h.elaborated ∙ sym (elaborated_count ss es ts x.exprs x.sites h.elaborated) ∙ sym count)
      (sym (consistent_count ts asks c) ∙ sym count))
    where
      elaborated_count : (ss : List TypedSite) (es : List Expr) (ts : List Ty) (cs2 : List CastExpr) (us : List TypedSite) → ElaborateAll (Ns l) ss es ts cs2 us → length ts ≡ length es
      elaborated_count ss es ts cs2 us of_none = refl
      elaborated_count ss es ts cs2 us (of_more {us = mid} {es = es2} {ts = ts2} {cs = cs3} h k) = ap suc (elaborated_count mid es2 ts2 cs3 us k)

  made_so : (t : State) (s : Stmt) (ts all asks : List Ty) (ms : Names) (x : Parts) → Done t.local (line_parts s) t.sites ts x → TypeAll (Ns t.local) (line_parts s) ts all
      → LineRule (Ns t.local) s ts asks ms → AllConsistent ts asks → (b : Local) → Ns b ≡ ms → IsLined s ms t (line_made s x.parts (line_use asks b) (used_each x asks))
  made_so t s ts all asks ms x h typed rule c b n =
      let u : Used = used_each x asks in
      let uses = used_done t.local (line_parts s) t.sites ts x asks h c in
      let own = line_sites s ts asks in
      let q : Slots = behind (no_slots u.sites) own in
      let is : q ≡ put_line s x.parts asks (no_slots u.sites)
      = ap (λ (z : List Ty). behind (no_slots u.sites) (line_sites s z asks)) (sym h.types) ∙ sym (line_are s x.parts asks (no_slots u.sites) h.places) in
      let k = line_node_so (length u.sites) (Ns t.local) ms s ts asks u.exprs rule c (types_count_of (Ns t.local) (line_parts s) ts all typed) (consistent_count ts asks c)
      (uses_count x.sites (line_parts s) ts x.exprs asks u.exprs u.sites uses) in
      let found : IsLined s ms t (Some (record { statement = k.line; state = state b q.sites }))
      = record { names = n; elaborated = line asks h.elaborated (subst (λ (z : Names). LineRule (Ns t.local) s ts asks z) (sym n) rule) c uses refl k.is refl } in
      subst (λ (z : Slots). IsLined s ms t (option_map (λ c. record { statement = c; state = state b z.sites }) (line_node s asks u.exprs z.numbers))) is
      (subst (λ (z : Option CastStmt). IsLined s ms t (option_map (λ c. record { statement = c; state = state b q.sites }) z)) (sym k.made) found)

  line_from : (t : State) (s : Stmt) (ts all asks : List Ty) (ms : Names) → TypeAll (Ns t.local) (line_parts s) ts all → LineRule (Ns t.local) s ts asks ms → AllConsistent ts asks
      → (o : Option Parts) → AreInserted cs fs ks t.local known (line_parts s) ts (no_parts t.sites) o → IsLined s ms t (option_and_then (λ x. line_used t.local s x) o)
  line_from t s ts all asks ms typed rule c None h = absurd h
  line_from t s ts all asks ms typed rule c (Some x) h =
      let done = done_so t.local (line_parts s) t.sites ts x h in
      let u = use_so t.local s x.parts asks ms (subst (λ (z : List Ty). LineRule (Ns t.local) s z asks ms) (sym done.types) rule) in
      subst (λ (z : Option LineUse). IsLined s ms t (option_and_then (λ r. line_made s x.parts r (used_each x r.asks)) z)) (sym u.found) (made_so t s ts all asks ms x done typed rule c u.behind u.names)

  -- ---- parts

  no_line_parts : (l : Local) (ss : List TypedSite) (ts all : List Ty) → TypeAll (Ns l) [] ts all → AreInserted cs fs ks l known [] ts (no_parts ss) (Some (no_parts ss))
  no_line_parts l ss ts all h =
      let r = all_row (Ns l) [] ts all h in subst (λ (z : List Ty). AreInserted cs fs ks l known [] z (no_parts ss) (Some (no_parts ss))) (sym r.0) (no_more cs fs ks l known (no_parts ss))

  first_so_far : (l : Local) (e : Expr) (ss : List TypedSite) (ts all : List Ty) → TypeAll (Ns l) (e ∷ []) ts all → AreInserted cs fs ks l known (e ∷ []) ts (no_parts ss) (first_inserted ks l e ss)
  first_so_far l e ss ts all h = typed_one cs fs ks l known e ts all (no_parts ss) (inserted ks l e ss) h (λ t us k. expr_so cs fs ks l known e t us ss k)

  line_parts_so : (l : Local) (s : Stmt) (ss : List TypedSite) (ts all : List Ty) → TypeAll (Ns l) (line_parts s) ts all
      → AreInserted cs fs ks l known (line_parts s) ts (no_parts ss) (line_parts_inserted ks l s ss)
  line_parts_so l stmt.pass ss ts all h = no_line_parts l ss ts all h
  line_parts_so l (stmt.give p e) ss ts all h = first_so_far l (returned p e) ss ts all h
  line_parts_so l (stmt.print p es) ss ts all h = all_so cs fs ks l known es (no_parts ss) ts all h
  line_parts_so l (stmt.assign w a e) ss ts all h = first_so_far l e ss ts all h
  line_parts_so l (stmt.write o w e) ss ts all h =
      typed_row cs fs ks l known o (e ∷ []) ts all (no_parts ss) (inserted ks l o ss) (λ x. with_part x e (inserted ks l e x.sites)) h (λ t us k. expr_so cs fs ks l known o t us ss k)
      (λ x us vs k. typed_one cs fs ks l known e us vs x (inserted ks l e x.sites) k (λ t us k. expr_so cs fs ks l known e t us x.sites k))
  line_parts_so l (stmt.start w p f es) ss ts all h =
      typed_row cs fs ks l known f (exprs_list es) ts all (no_parts ss) (inserted ks l f ss) (λ x. all_inserted ks l x es) h (λ t us k. expr_so cs fs ks l known f t us ss k)
      (λ x us vs k. all_so cs fs ks l known es x us vs k)
  line_parts_so l (stmt.plain e) ss ts all h = first_so_far l e ss ts all h
  line_parts_so l (stmt.if_any bs last) ss ts all h = no_line_parts l ss ts all h
  line_parts_so l (stmt.loop e body) ss ts all h = no_line_parts l ss ts all h

  simple_so : (t : State) (s : Stmt) (ms : Names) (all : List Ty) → PlainRow (Ns t.local) s ms all → IsLined s ms t (simple_line ks t s)
  simple_so t s ms all h =
      line_from t s h.ts all h.asks ms h.typed h.rule h.used (line_parts_inserted ks t.local s t.sites) (line_parts_so t.local s t.sites h.ts all h.typed)

  -- ---- conditions

  -- a condition of this type has become x
  record IsCondition (e : Expr) (t : State) (x : Condition) : Type 0 where
    pub type : Ty
    pub part : CastExpr
    pub inside : List TypedSite
    pub elaborated : Elaborates (Ns t.local) t.sites e type part inside
    pub consistent : Consistent type bool
    pub used : Uses inside (place_of e) type part bool x.expr x.state.sites
    pub same : x.state.local ≡ t.local

  abbrev ConditionIs : Expr → State → Option Condition → Type 0
  ConditionIs e t None = ⊥
  ConditionIs e t (Some x) = IsCondition e t x

  -- what a part of type s becomes where it is used at `bool`, and the sites behind it
  abbrev truth : Bool → Expr → State → Whole → Option Condition
  truth z e t w =
      let q : Slots = with_slot (no_slots w.sites) (site_unless z (site_from (place_of e) kind.Cast w.ty bool)) in
      condition_of t.local (record { exprs = fit_all [] q.numbers (w.expr ∷ []); sites = q.sites })

  truth_so : (e : Expr) (ty : Ty) (t : State) (w : Whole) → IsWhole cs fs ks t.local known e ty t.sites w → Consistent ty bool → ConditionIs e t (truth (precise w.ty bool) e t w)
  truth_so e ty t w h c =
      split (precise w.ty bool) (λ z. ConditionIs e t (truth z e t w))
      (λ y. record {
        type = ty;
        part = w.expr;
        inside = w.sites;
        elaborated = h.elaborated;
        consistent = c;
        used = subst (λ (z : Ty). Uses w.sites (place_of e) z w.expr bool w.expr w.sites) h.type (as_it_is (precise-read w.ty bool y));
        same = refl;
      })
      (λ n. record {
        type = ty;
        part = w.expr;
        inside = w.sites;
        elaborated = h.elaborated;
        consistent = c;
        used = subst (λ (z : Ty). Uses w.sites (place_of e) z w.expr bool (cast.fit (length w.sites) w.expr) (w.sites ++ site_from (place_of e) kind.Cast w.ty bool ∷ [])) h.type
            (with_cast (not_precise w.ty bool n) refl refl);
        same = refl;
      })

  condition_then : (e : Expr) (ty : Ty) (t : State) (o : Option Whole) → IsInserted cs fs ks t.local known e ty t.sites o → Consistent ty bool
      → ConditionIs e t (option_and_then (λ x. condition_of t.local (used_each x (bool ∷ []))) (with_part (no_parts t.sites) e o))
  condition_then e ty t None h c = absurd h
  condition_then e ty t (Some w) h c = truth_so e ty t w h c

  condition_so : (e : Expr) (ty : Ty) (us : List Ty) (t : State) → Types (Ns t.local) e ty us → Consistent ty bool → ConditionIs e t (condition ks t e)
  condition_so e ty us t h c = condition_then e ty t (inserted ks t.local e t.sites) (expr_so cs fs ks t.local known e ty us t.sites h) c

  -- ---- blocks

  -- the statements of a block have become lines behind those that are done
  pub record IsBody (b : Block) (ms : Names) (done : Body) (x : Body) : Type 0 where
    pub more : List CastStmt
    pub lines : x.lines ≡ done.lines ++ more
    pub names : Ns x.state.local ≡ ms
    pub elaborated : ElaboratesBlock (Ns done.state.local) done.state.sites b (cast_block more) (Ns x.state.local) x.state.sites

  abbrev pub BodyIs : Block → Names → Body → Option Body → Type 0
  BodyIs b ms done None = ⊥
  BodyIs b ms done (Some x) = IsBody b ms done x

  record IsGuarded (e : Expr) (b : Block) (ms : Names) (t : State) (x : Guarded) : Type 0 where
    pub names : Ns x.state.local ≡ ms
    pub elaborated : ElaboratesGuarded (Ns t.local) t.sites e b x.condition (cast_block x.lines) (Ns x.state.local) x.state.sites

  abbrev GuardedIs : Expr → Block → Names → State → Option Guarded → Type 0
  GuardedIs e b ms t None = ⊥
  GuardedIs e b ms t (Some x) = IsGuarded e b ms t x

  record AreBranches (bs : Branches) (ms : Names) (done : Branched) (x : Branched) : Type 0 where
    pub more : List CastBranch
    pub branches : x.branches ≡ done.branches ++ more
    pub names : Ns x.state.local ≡ ms
    pub elaborated : ElaborateBranches (Ns done.state.local) done.state.sites bs (cast_branches more) (Ns x.state.local) x.state.sites

  abbrev BranchesAre : Branches → Names → Branched → Option Branched → Type 0
  BranchesAre bs ms done None = ⊥
  BranchesAre bs ms done (Some x) = AreBranches bs ms done x

  record IsLast (last : Else) (ms : Names) (t : State) (x : Last) : Type 0 where
    pub names : Ns x.state.local ≡ ms
    pub elaborated : ElaboratesElse (Ns t.local) t.sites last (cast_else_block x.block) (Ns x.state.local) x.state.sites

  abbrev LastIs : Else → Names → State → Option Last → Type 0
  LastIs last ms t None = ⊥
  LastIs last ms t (Some x) = IsLast last ms t x

  guarded_end : (e : Expr) (b : Block) (ms : Names) (t : State) (c : Condition) (o : Option Body) → IsCondition e t c → BodyIs b ms (begun c.state) o
      → GuardedIs e b ms t (option_map (λ x. record { condition = c.expr; lines = x.lines; state = x.state }) o)
  guarded_end e b ms t c None h k = absurd k
  guarded_end e b ms t c (Some x) h k =
      let same : Ns c.state.local ≡ Ns t.local = ap Ns h.same in
      let moved = subst (λ (z : Names). ElaboratesBlock z c.state.sites b (cast_block k.more) (Ns x.state.local) x.state.sites) same k.elaborated in
      record {
        names = k.names;
        elaborated = guards h.elaborated h.consistent h.used (subst (λ (z : List CastStmt). ElaboratesBlock (Ns t.local) c.state.sites b (cast_block z) (Ns x.state.local) x.state.sites) (sym k.lines) moved);
      }

  guarded_behind : (e : Expr) (b : Block) (ms : Names) (vs : List Ty) (t : State) (o : Option Condition) (f : State → Option Body) → ConditionIs e t o → TypedBlock (Ns t.local) b ms vs
      → ((u : State) (us : List Ty) → TypedBlock (Ns u.local) b ms us → BodyIs b ms (begun u) (f u)) → GuardedIs e b ms t (guarded o f)
  guarded_behind e b ms vs t None f h typed k = absurd h
  guarded_behind e b ms vs t (Some c) f h typed k =
      guarded_end e b ms t c (f c.state) h (k c.state vs (subst (λ (z : Names). TypedBlock z b ms vs) (sym (ap Ns h.same)) typed))

  guarded_so : (e : Expr) (b : Block) (ms : Names) (all : List Ty) (t : State) (f : State → Option Body) → TypedGuarded (Ns t.local) e b ms all
      → ((u : State) (us : List Ty) → TypedBlock (Ns u.local) b ms us → BodyIs b ms (begun u) (f u)) → GuardedIs e b ms t (guarded (condition ks t e) f)
  guarded_so e b ms all t f h k =
      let r = guarded_row (Ns t.local) e b ms all h in guarded_behind e b ms r.vs t (condition ks t e) f (condition_so e r.type r.us t r.condition r.used) r.rest k

  no_lines : (done : Body) (ms : Names) → ms ≡ Ns done.state.local → BodyIs no_stmts ms done (Some done)
  no_lines done ms e = record { more = []; lines = sym (append-nil done.lines); names = sym e; elaborated = ends }

  lines_end : (s : Stmt) (rest : Block) (ms : Names) (done : Body) (x : Line) (o : Option Body) → ElaboratesLine (Ns done.state.local) done.state.sites s x.statement (Ns x.state.local) x.state.sites
      → BodyIs rest ms (record { lines = done.lines ++ x.statement ∷ []; state = x.state }) o → BodyIs (more_stmts s rest) ms done o
  lines_end s rest ms done x None h k = absurd k
  lines_end s rest ms done x (Some y) h k =
      record { more = x.statement ∷ k.more; lines = k.lines ∙ append_assoc done.lines (x.statement ∷ []) k.more; names = k.names; elaborated = goes_on h k.elaborated }

  lines_then : (s : Stmt) (rest : Block) (mid ms : Names) (vs : List Ty) (done : Body) (o : Option Line) → IsLined s mid done.state o → TypedBlock mid rest ms vs
      → ((x : Body) → TypedBlock (Ns x.state.local) rest ms vs → BodyIs rest ms x (block_inserted ks x rest)) → BodyIs (more_stmts s rest) ms done (option_and_then (λ x. block_inserted ks x rest) (with_line done o))
  lines_then s rest mid ms vs done None h typed k = absurd h
  lines_then s rest mid ms vs done (Some x) h typed k =
      let next : Body = record { lines = done.lines ++ x.statement ∷ []; state = x.state } in
      lines_end s rest ms done x (block_inserted ks next rest) h.elaborated (k next (subst (λ (z : Names). TypedBlock z rest ms vs) (sym h.names) typed))

  branches_end : (e : Expr) (b : Block) (bs : Branches) (ms : Names) (done : Branched) (x : Guarded) (o : Option Branched)
      → ElaboratesGuarded (Ns done.state.local) done.state.sites e b x.condition (cast_block x.lines) (Ns x.state.local) x.state.sites
      → BranchesAre bs ms (record { branches = done.branches ++ branch x ∷ []; state = x.state }) o → BranchesAre (more_branches e b bs) ms done o
  branches_end e b bs ms done x None h k = absurd k
  branches_end e b bs ms done x (Some y) h k =
      record { more = branch x ∷ k.more; branches = k.branches ∙ append_assoc done.branches (branch x ∷ []) k.more; names = k.names; elaborated = next_branch h k.elaborated }

  branches_then : (e : Expr) (b : Block) (bs : Branches) (mid ms : Names) (vs : List Ty) (done : Branched) (o : Option Guarded) → GuardedIs e b mid done.state o → TypedBranches mid bs ms vs
      → ((x : Branched) → TypedBranches (Ns x.state.local) bs ms vs → BranchesAre bs ms x (branches_inserted ks x bs))
      → BranchesAre (more_branches e b bs) ms done (option_and_then (λ x. branches_inserted ks x bs) (with_branch done o))
  branches_then e b bs mid ms vs done None h typed k = absurd h
  branches_then e b bs mid ms vs done (Some x) h typed k =
      let next : Branched = record { branches = done.branches ++ branch x ∷ []; state = x.state } in
      branches_end e b bs ms done x (branches_inserted ks next bs) h.elaborated (k next (subst (λ (z : Names). TypedBranches z bs ms vs) (sym h.names) typed))

  if_end : (bs : Branches) (last : Else) (ms : Names) (t : State) (x : Branched) (o : Option Last) → ElaborateBranches (Ns t.local) t.sites bs (cast_branches x.branches) (Ns x.state.local) x.state.sites
      → LastIs last ms x.state o → IsLined (stmt.if_any bs last) ms t (if_line x.branches o)
  if_end bs last ms t x None h k = absurd k
  if_end bs last ms t x (Some y) h k = record { names = k.names; elaborated = branches h k.elaborated }

  if_then : (bs : Branches) (last : Else) (mid ms : Names) (vs : List Ty) (t : State) (o : Option Branched) → BranchesAre bs mid (unbranched t) o → TypedElse mid last ms vs
      → ((u : State) → TypedElse (Ns u.local) last ms vs → LastIs last ms u (last_inserted ks u last)) → IsLined (stmt.if_any bs last) ms t (branched o (λ u. last_inserted ks u last))
  if_then bs last mid ms vs t None h typed k = absurd h
  if_then bs last mid ms vs t (Some x) h typed k =
      if_end bs last ms t x (last_inserted ks x.state last)
      (subst (λ (z : List CastBranch). ElaborateBranches (Ns t.local) t.sites bs (cast_branches z) (Ns x.state.local) x.state.sites) (sym h.branches) h.elaborated)
      (k x.state (subst (λ (z : Names). TypedElse z last ms vs) (sym h.names) typed))

  loop_of : (e : Expr) (b : Block) (ms : Names) (t : State) (o : Option Guarded) → GuardedIs e b ms t o → IsLined (stmt.loop e b) ms t (looped o)
  loop_of e b ms t None h = absurd h
  loop_of e b ms t (Some x) h = record { names = h.names; elaborated = loops h.elaborated }

  last_of : (b : Block) (ms : Names) (t : State) (o : Option Body) → BodyIs b ms (begun t) o → LastIs (otherwise b) ms t (last_block o)
  last_of b ms t None h = absurd h
  last_of b ms t (Some x) h =
      record {
        names = h.names;
        elaborated = at_last (subst (λ (z : List CastStmt). ElaboratesBlock (Ns t.local) t.sites b (cast_block z) (Ns x.state.local) x.state.sites) (sym h.lines) h.elaborated);
      }

  mutual
    pub line_so : (s : Stmt) (ms : Names) (all : List Ty) (t : State) → TypedLine (Ns t.local) s ms all → IsLined s ms t (line_inserted ks t s)
    line_so stmt.pass ms all t h = simple_so t stmt.pass ms all (row_of (Ns t.local) stmt.pass ms all tt h)
    line_so (stmt.give p e) ms all t h = simple_so t (stmt.give p e) ms all (row_of (Ns t.local) (stmt.give p e) ms all tt h)
    line_so (stmt.print p es) ms all t h = simple_so t (stmt.print p es) ms all (row_of (Ns t.local) (stmt.print p es) ms all tt h)
    line_so (stmt.assign w a e) ms all t h = simple_so t (stmt.assign w a e) ms all (row_of (Ns t.local) (stmt.assign w a e) ms all tt h)
    line_so (stmt.write o w e) ms all t h = simple_so t (stmt.write o w e) ms all (row_of (Ns t.local) (stmt.write o w e) ms all tt h)
    line_so (stmt.start w p f es) ms all t h = simple_so t (stmt.start w p f es) ms all (row_of (Ns t.local) (stmt.start w p f es) ms all tt h)
    line_so (stmt.plain e) ms all t h = simple_so t (stmt.plain e) ms all (row_of (Ns t.local) (stmt.plain e) ms all tt h)
    line_so (stmt.if_any bs last) ms all t h =
        let r = if_row (Ns t.local) bs last ms all h in
        if_then bs last r.ks ms r.vs t (branches_inserted ks (unbranched t) bs) (branches_so bs r.ks r.us (unbranched t) r.first) r.second (λ u k. else_so last ms r.vs u k)
    line_so (stmt.loop e b) ms all t h =
        loop_of e b ms t (guarded (condition ks t e) (λ u. block_inserted ks (begun u) b))
        (guarded_so e b ms all t (λ u. block_inserted ks (begun u) b) (loop_row (Ns t.local) e b ms all h) (λ u us k. block_so b ms us (begun u) k))

    pub block_so : (b : Block) (ms : Names) (all : List Ty) (done : Body) → TypedBlock (Ns done.state.local) b ms all → BodyIs b ms done (block_inserted ks done b)
    block_so no_stmts ms all done h = let r = block_row (Ns done.state.local) no_stmts ms all h in no_lines done ms r.0
    block_so (more_stmts s rest) ms all done h =
        let r = block_row (Ns done.state.local) (more_stmts s rest) ms all h in
        lines_then s rest r.ks ms r.vs done (line_inserted ks done.state s) (line_so s r.ks r.us done.state r.first) r.others (λ x k. block_so rest ms r.vs x k)

    branches_so : (bs : Branches) (ms : Names) (all : List Ty) (done : Branched) → TypedBranches (Ns done.state.local) bs ms all → BranchesAre bs ms done (branches_inserted ks done bs)
    branches_so no_branches ms all done h =
        let r = branches_row (Ns done.state.local) no_branches ms all h in record { more = []; branches = sym (append-nil done.branches); names = sym r.0; elaborated = no_branch }
    branches_so (more_branches e b bs) ms all done h =
        let r = branches_row (Ns done.state.local) (more_branches e b bs) ms all h in
        branches_then e b bs r.ks ms r.vs done (guarded (condition ks done.state e) (λ u. block_inserted ks (begun u) b))
        (guarded_so e b r.ks r.us done.state (λ u. block_inserted ks (begun u) b) r.first (λ u us k. block_so b r.ks us (begun u) k)) r.rest (λ x k. branches_so bs ms r.vs x k)

    else_so : (last : Else) (ms : Names) (all : List Ty) (t : State) → TypedElse (Ns t.local) last ms all → LastIs last ms t (last_inserted ks t last)
    else_so no_else ms all t h = let r = else_row (Ns t.local) no_else ms all h in record { names = sym r.0; elaborated = no_last }
    else_so (otherwise b) ms all t h = last_of b ms t (block_inserted ks (begun t) b) (block_so b ms all (begun t) (else_row (Ns t.local) (otherwise b) ms all h))
