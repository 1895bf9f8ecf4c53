-- What the code finds for a statement is its typing, and what it refuses is the first fault.
use Rattle.std.proofs.Common.{◌≡◌, List, [], ◌∷◌, ◌++◌, length, inl, inr, Result, Ok, Err, refl, sym, ◌∙◌, ap, subst}
use Rattle.std.proofs.lemmas.List.{append-nil}
use Rattle.std.specs.Prelude.{Option, Some, None}
use Rattle.mono_syntax.specs.declared.leaf.Place.{Place}
use Rattle.mono_syntax.specs.declared.leaf.Word.{Word}
use Rattle.mono_syntax.specs.declared.refusal.Reason.TheVariants.{Inconsistent, Twice}
use Rattle.mono_syntax.specs.declared.refusal.Refusal.{Refusal}
use Rattle.mono_syntax.specs.declared.tree.ClassDef.{ClassDef}
use Rattle.mono_syntax.specs.declared.tree.FuncDef.{FuncDef}
use Rattle.mono_syntax.specs.Expr.{Expr, Exprs}
use Rattle.mono_syntax.specs.ExprView.{exprs_list}
use Rattle.mono_syntax.specs.Stmt as stmt
use Rattle.mono_syntax.specs.Stmt.{Stmt, Block, no_stmts, more_stmts, Branches, no_branches, more_branches, Else, no_else, otherwise}
use Rattle.mono_syntax.specs.Ty.{Ty, dyn, bool}
use Rattle.mono_tree.specs.Precise.{below_dyn}
use Rattle.mono_tree.proofs.Order.{reflexive}
use Rattle.mono_tree.specs.TypedPrograms.{type_of_name}
use Rattle.static_types.specs.declared.rule.Rule.{Rule}
use Rattle.static_types.specs.Faults.{UseFault}
use Rattle.static_types.specs.Lines.{line_parts, AssignRule, WriteRule, ReturnRule, LineRule, TypedLine, line, branches, loops, TypedGuarded, guards, TypedBranches, no_branch, next_branch, TypedElse, no_last, at_last, TypedBlock, ends, goes_on}
use Rattle.script_rules.specs.SourceCasts.{returned}
use Rattle.static_types.specs.LineFaults.{StartFault, LineFault, in_part, no_rule, at_use, in_branches, in_else, in_loop, GuardedFault, in_condition, at_condition, in_guarded, BranchFault, in_branch, in_later_branch, BlockFault, in_this, in_rest}
use Rattle.static_types.specs.Members.{all_dyn}
use Rattle.static_types.specs.Names.{Names}
use Rattle.static_types.specs.Rules.{member_of, at}
use Rattle.static_types.specs.Types.{AllConsistent, Types, TypeAll, of_none}
use Rattle.mono_tree.specs.Meet.{Consistent}
use Rattle.known_names.specs.declared.known.Known.{Known}
use Rattle.known_names.specs.declared.known.Local.{Local}
use Rattle.known_names.specs.IsKnown.{IsKnown, names_in}
use Rattle.consistency.specs.declared.lines.State.{State}
use Rattle.rule_choice.specs.declared.parts.Part.{Part}
use Rattle.consistency.specs.declared.parts.Parts.{Parts}
use Rattle.consistency.specs.computed.Checked.{no_parts, with_part, all_typed, typed}
use Rattle.consistency.specs.computed.Lined.{with_thread, lined, used_line, any_line, first_typed, two_typed, row_typed, return_used, assign_used, write_used, start_used, condition, line_typed, block_typed, branches_typed, else_typed}
use Rattle.rule_choice.specs.GivenParts.{types_of}
use Rattle.rule_choice.specs.computed.Ruled.{first_rule}
use Rattle.rule_choice.specs.computed.Apart.{first_apart}
use Rattle.rule_choice.specs.computed.Steps.{and_then}
use Rattle.static_types.proofs.TypeLaws.{all_row, part_row}
use Rattle.static_types.proofs.UseLaws.{use_row}
use Rattle.rule_choice.proofs.CountLaws.{types_count_of, callee_count}
use Rattle.rule_choice.proofs.RuleLaws.{IsFirstCalled, first_so}
use Rattle.consistency.proofs.TraceLaws.{Traced, traced_none, traced_on}
use Rattle.consistency.proofs.TypingLaws.{ArePartsOf, AreTyped, one_part, and_row, expr_so, all_so}
use Rattle.rule_choice.specs.GivenParts.{AreAt, IsUsed}
use Rattle.rule_choice.proofs.UseLaws.{uses_so}

any_consistent : (t : Ty) → Consistent t dyn
any_consistent t = record { meet = t; is_meet = record { left = reflexive t; right = below_dyn; greatest = λ x f g. f } }

all_any : (ts : List Ty) → AllConsistent ts (all_dyn ts)
all_any [] = tt
all_any (t ∷ ts) = (any_consistent t, all_any ts)

module _ (cs : List ClassDef) (fs : List FuncDef) (ks : Known) (known : IsKnown cs fs ks) where
  abbrev Ns : Local → Names
  Ns l = names_in cs fs l

  -- x is reached from s, behind types that are so
  pub record Reached (T : Names → List Ty → Type 0) (s x : State) : Type 0 where
    pub all : List Ty
    pub typed : T (Ns x.local) all
    pub traced : Traced s.trace x.trace all

  abbrev pub Outcome : (Names → List Ty → Type 0) → (Refusal → Type 0) → State → Result State Refusal → Type 0
  Outcome T F s (Ok x) = Reached T s x
  Outcome T F s (Err f) = F f

  abbrev pub IsLined : Stmt → State → Result State Refusal → Type 0
  IsLined a s r = Outcome (λ ms all. TypedLine (Ns s.local) a ms all) (λ f. LineFault (Ns s.local) a f) s r

  abbrev Parted : List Expr → State → Result Parts Refusal → Type 0
  Parted es s r = AreTyped cs fs ks s.local known es (no_parts s.trace) r

  abbrev PartsOf : List Expr → State → Parts → Type 0
  PartsOf es s x = ArePartsOf cs fs ks s.local known es (no_parts s.trace) x

  -- the parts' types, and their places
  parts_types : (es : List Expr) (s : State) (x : Parts) (h : PartsOf es s x) → TypeAll (Ns s.local) es (types_of x.parts) h.all
  parts_types es s x h = subst (λ (z : List Part). TypeAll (Ns s.local) es (types_of z) h.all) (sym h.parts) h.types

  parts_places : (es : List Expr) (s : State) (x : Parts) → PartsOf es s x → AreAt es x.parts
  parts_places es s x h = subst (λ (z : List Part). AreAt es z) (sym h.parts) h.places

  parts_count : (es : List Expr) (s : State) (x : Parts) → PartsOf es s x → length (types_of x.parts) ≡ length es
  parts_count es s x h = types_count_of (Ns s.local) es (types_of x.parts) h.all (parts_types es s x h)

  -- ---- rows

  first_row : (e : Expr) (s : State) → Parted (e ∷ []) s (first_typed ks s e)
  first_row e s = one_part cs fs ks s.local known (no_parts s.trace) e (typed ks s.local e s.trace) (expr_so cs fs ks s.local known e s.trace)

  two_row : (a b : Expr) (s : State) → Parted (a ∷ b ∷ []) s (two_typed ks s a b)
  two_row a b s =
      and_row cs fs ks s.local known (a ∷ []) (b ∷ []) (no_parts s.trace) (first_typed ks s a) (λ x. with_part x b (typed ks s.local b x.trace)) (first_row a s)
      (λ x. one_part cs fs ks s.local known x b (typed ks s.local b x.trace) (expr_so cs fs ks s.local known b x.trace))

  start_row : (f : Expr) (es : Exprs) (s : State) → Parted (f ∷ exprs_list es) s (row_typed ks s f es)
  start_row f es s =
      and_row cs fs ks s.local known (f ∷ []) (exprs_list es) (no_parts s.trace) (first_typed ks s f) (λ x. all_typed ks s.local x es) (first_row f s) (λ x. all_so cs fs ks s.local known es x)

  -- ---- statements without blocks

  -- a statement whose parts come first
  line_then : (a : Stmt) (s : State) (r : Result Parts Refusal) (next : Parts → Result State Refusal) → Parted (line_parts a) s r
      → ((x : Parts) → PartsOf (line_parts a) s x → IsLined a s (next x)) → IsLined a s (and_then r next)
  line_then a s (Ok x) next h k = k x h
  line_then a s (Err f) next h k = in_part h

  line_used : (a : Stmt) (s : State) (x : Parts) (asks : List Ty) (l : Local) (h : PartsOf (line_parts a) s x) → LineRule (Ns s.local) a (types_of x.parts) asks (Ns l)
      → (o : Option Place) → IsUsed (line_parts a) x.parts asks o → IsLined a s (lined o l x.trace)
  line_used a s x asks l h rule None used = record { all = h.all; typed = line asks (parts_types (line_parts a) s x h) rule used; traced = h.traced }
  line_used a s x asks l h rule (Some p) used = at_use asks (Ns l) (parts_types (line_parts a) s x h) rule used

  used_so : (a : Stmt) (s : State) (x : Parts) (asks : List Ty) (l : Local) → PartsOf (line_parts a) s x → LineRule (Ns s.local) a (types_of x.parts) asks (Ns l)
      → length (types_of x.parts) ≡ length asks → IsLined a s (used_line asks l x)
  used_so a s x asks l h rule c = line_used a s x asks l h rule (first_apart x.parts asks) (uses_so (line_parts a) x.parts asks (parts_places (line_parts a) s x h) c)

  -- parts of which any types will do
  any_so : (a : Stmt) (s : State) (r : Result Parts Refusal) → Parted (line_parts a) s r → ((ts : List Ty) → length ts ≡ length (line_parts a) → LineRule (Ns s.local) a ts (all_dyn ts) (Ns s.local))
      → IsLined a s (any_line s.local r)
  any_so a s r h rule =
      line_then a s r (λ x. Ok (record { local = s.local; trace = x.trace })) h
      (λ x i. record {
        all = i.all;
        typed = line (all_dyn (types_of x.parts)) (parts_types (line_parts a) s x i) (rule (types_of x.parts) (parts_count (line_parts a) s x i)) (all_any (types_of x.parts));
        traced = i.traced;
      })

  one_dyn : (ts : List Ty) → length ts ≡ 1 → all_dyn ts ≡ dyn ∷ []
  one_dyn (t ∷ []) c = refl
  one_dyn [] c = absurd cc
  one_dyn (t ∷ u ∷ ts) c = absurd cc

  return_so : (p : Place) (e : Option Expr) (s : State) (o : Option Ty) → s.local.result ≡ o → (x : Parts) → PartsOf (returned p e ∷ []) s x → IsLined (stmt.give p e) s (return_used o p s.local x)
  return_so p e s (Some t) i x h =
      used_so (stmt.give p e) s x (t ∷ []) s.local h (subst (λ (z : Option Ty). ReturnRule z (t ∷ [])) (sym i) refl, refl) (parts_count (returned p e ∷ []) s x h)
  return_so p e s None i x h = no_rule (parts_types (returned p e ∷ []) s x h) (i, refl)

  assign_so : (w : Word) (a : _) (e : Expr) (s : State) (o : Option Ty) → type_of_name s.local.values w.text ≡ o → (x : Parts) → PartsOf (e ∷ []) s x
      → IsLined (stmt.assign w a e) s (assign_used o w s.local x)
  assign_so w a e s (Some t) i x h =
      used_so (stmt.assign w a e) s x (t ∷ []) s.local h (subst (λ (z : Option Ty). AssignRule z (t ∷ [])) (sym i) refl, refl) (parts_count (e ∷ []) s x h)
  assign_so w a e s None i x h = no_rule (parts_types (e ∷ []) s x h) (i, refl)

  write_so : (a : Expr) (w : Word) (e : Expr) (s : State) (x : Parts) (o : Option Ty) → member_of (types_of x.parts) w.text ≡ o → PartsOf (a ∷ e ∷ []) s x
      → IsLined (stmt.write a w e) s (write_used o w s.local x)
  write_so a w e s x (Some t) i h =
      used_so (stmt.write a w e) s x (dyn ∷ t ∷ []) s.local h (subst (λ (z : Option Ty). WriteRule z (dyn ∷ t ∷ [])) (sym i) refl, refl) (parts_count (a ∷ e ∷ []) s x h)
  write_so a w e s x None i h = no_rule (parts_types (a ∷ e ∷ []) s x h) (i, refl)

  started : (w : Word) (p : Place) (f : Expr) (es : Exprs) (s : State) (x : Parts) → type_of_name s.local.threads w.text ≡ None → PartsOf (f ∷ exprs_list es) s x
      → (r : Result Rule Refusal) → IsFirstCalled p x.parts r → IsLined (stmt.start w p f es) s (and_then r (λ z. used_line z.asks (with_thread s.local w.text z.gives) x))
  started w p f es s x i h (Ok r) c =
      used_so (stmt.start w p f es) s x r.asks (with_thread s.local w.text r.gives) h (record { fresh = i; rule = r; called = c; asked = refl; named = refl })
      (callee_count (types_of x.parts) r c)
  started w p f es s x i h (Err g) c =
      no_rule (parts_types (f ∷ exprs_list es) s x h) (subst (λ (z : Option Ty). StartFault z (stmt.start w p f es) (types_of x.parts) g) (sym i) c)

  start_so : (w : Word) (p : Place) (f : Expr) (es : Exprs) (s : State) (x : Parts) (o : Option Ty) → type_of_name s.local.threads w.text ≡ o → PartsOf (f ∷ exprs_list es) s x
      → IsLined (stmt.start w p f es) s (start_used o w p s.local x)
  start_so w p f es s x (Some t) i h =
      no_rule (parts_types (f ∷ exprs_list es) s x h) (subst (λ (z : Option Ty). StartFault z (stmt.start w p f es) (types_of x.parts) (at w.place Twice)) (sym i) refl)
  start_so w p f es s x None i h = started w p f es s x i h (first_rule p x.parts) (first_so p x.parts)

  -- ---- conditions

  pub record IsCondition (e : Expr) (s x : State) : Type 0 where
    pub type : Ty
    pub all : List Ty
    pub types : Types (Ns s.local) e type all
    pub used : Consistent type bool
    pub same : x.local ≡ s.local
    pub traced : Traced s.trace x.trace all

  abbrev pub ConditionOutcome : Expr → State → Result State Refusal → Type 0
  ConditionOutcome e s (Ok x) = IsCondition e s x
  ConditionOutcome e s (Err f) = (body : Block) → GuardedFault (Ns s.local) e body f

  record OneType (e : Expr) (s : State) (ts all : List Ty) : Type 0 where
    pub type : Ty
    pub types : Types (Ns s.local) e type all
    pub is : ts ≡ type ∷ []

  one_type : (e : Expr) (s : State) (ts all : List Ty) → TypeAll (Ns s.local) (e ∷ []) ts all → OneType e s ts all
  one_type e s ts all h =
      let r = all_row (Ns s.local) (e ∷ []) ts all h in
      let n = all_row (Ns s.local) [] r.others r.vs r.rest in
      let is : r.us ≡ all = sym (append-nil r.us) ∙ ap (λ (z : List Ty). r.us ++ z) (sym n.1) ∙ sym r.together in
      record { type = r.first; types = subst (λ (z : List Ty). Types (Ns s.local) e r.first z) is r.typed; is = r.types ∙ ap (λ (z : List Ty). r.first ∷ z) n.0 }

  condition_used : (e : Expr) (s : State) (x : Parts) (h : PartsOf (e ∷ []) s x) (t : OneType e s (types_of x.parts) h.all) (o : Option Place) → IsUsed (e ∷ []) x.parts (bool ∷ []) o
      → ConditionOutcome e s (lined o s.local x.trace)
  condition_used e s x h t None used =
      let all = subst (λ (z : List Ty). AllConsistent z (bool ∷ [])) t.is used in
      record { type = t.type; all = h.all; types = t.types; used = all.0; same = refl; traced = h.traced }
  condition_used e s x h t (Some p) used =
      let moved = subst (λ (z : List Ty). UseFault (e ∷ []) z (bool ∷ []) (at p Inconsistent)) t.is used in
      λ body. elim (use_row (e ∷ []) (t.type ∷ []) (bool ∷ []) (at p Inconsistent) moved) [
        | inl a ↦ at_condition t.types a.0 a.1
        | inr a ↦ absurd (use_row [] [] [] (at p Inconsistent) a.1)
      ]

  condition_then : (e : Expr) (s : State) (r : Result Parts Refusal) → Parted (e ∷ []) s r → ConditionOutcome e s (and_then r (λ x. used_line (bool ∷ []) s.local x))
  condition_then e s (Ok x) h =
      condition_used e s x h (one_type e s (types_of x.parts) h.all (parts_types (e ∷ []) s x h)) (first_apart x.parts (bool ∷ []))
      (uses_so (e ∷ []) x.parts (bool ∷ []) (parts_places (e ∷ []) s x h) (parts_count (e ∷ []) s x h))
  condition_then e s (Err f) h =
      λ body. elim (part_row (Ns s.local) (e ∷ []) f h) [ inl a ↦ in_condition a | inr a ↦ absurd (part_row (Ns s.local) [] f a.rest) ]

  condition_so : (e : Expr) (s : State) → ConditionOutcome e s (condition ks s e)
  condition_so e s = condition_then e s (first_typed ks s e) (first_row e s)

  -- ---- blocks

  abbrev pub BlockOutcome : Block → State → Result State Refusal → Type 0
  BlockOutcome b s r = Outcome (λ ms all. TypedBlock (Ns s.local) b ms all) (λ f. BlockFault (Ns s.local) b f) s r

  abbrev GuardedOutcome : Expr → Block → State → Result State Refusal → Type 0
  GuardedOutcome e b s r = Outcome (λ ms all. TypedGuarded (Ns s.local) e b ms all) (λ f. GuardedFault (Ns s.local) e b f) s r

  abbrev BranchesOutcome : Branches → State → Result State Refusal → Type 0
  BranchesOutcome bs s r = Outcome (λ ms all. TypedBranches (Ns s.local) bs ms all) (λ f. BranchFault (Ns s.local) bs f) s r

  abbrev ElseOutcome : Else → State → Result State Refusal → Type 0
  ElseOutcome last s r = Outcome (λ ms all. TypedElse (Ns s.local) last ms all) (λ f. (bs : Branches) (ns : Names) (us : List Ty) → TypedBranches ns bs (Ns s.local) us → LineFault ns (stmt.if_any bs last) f) s r

  guarded_behind : (e : Expr) (b : Block) (s t : State) (r : Result State Refusal) → IsCondition e s t → BlockOutcome b t r → GuardedOutcome e b s r
  guarded_behind e b s t (Ok x) h k =
      let moved = subst (λ (z : Local). TypedBlock (Ns z) b (Ns x.local) k.all) h.same k.typed in
      record { all = h.all ++ k.all; typed = guards h.types h.used moved refl; traced = traced_on s.trace t.trace x.trace h.all k.all h.traced k.traced }
  guarded_behind e b s t (Err f) h k = in_guarded h.types h.used (subst (λ (z : Local). BlockFault (Ns z) b f) h.same k)

  guarded_then : (e : Expr) (b : Block) (s : State) (r : Result State Refusal) → ConditionOutcome e s r → ((t : State) → BlockOutcome b t (block_typed ks t b))
      → GuardedOutcome e b s (and_then r (λ t. block_typed ks t b))
  guarded_then e b s (Ok t) h k = guarded_behind e b s t (block_typed ks t b) h (k t)
  guarded_then e b s (Err f) h k = h b

  block_behind : (a : Stmt) (rest : Block) (s t : State) (r : Result State Refusal) → Reached (λ ms all. TypedLine (Ns s.local) a ms all) s t → BlockOutcome rest t r → BlockOutcome (more_stmts a rest) s r
  block_behind a rest s t (Ok x) h k =
      record { all = h.all ++ k.all; typed = goes_on h.typed k.typed refl; traced = traced_on s.trace t.trace x.trace h.all k.all h.traced k.traced }
  block_behind a rest s t (Err f) h k = in_rest h.typed k

  block_then : (a : Stmt) (rest : Block) (s : State) (r : Result State Refusal) → IsLined a s r → ((t : State) → BlockOutcome rest t (block_typed ks t rest))
      → BlockOutcome (more_stmts a rest) s (and_then r (λ t. block_typed ks t rest))
  block_then a rest s (Ok t) h k = block_behind a rest s t (block_typed ks t rest) h (k t)
  block_then a rest s (Err f) h k = in_this h

  branches_behind : (e : Expr) (b : Block) (bs : Branches) (s t : State) (r : Result State Refusal) → Reached (λ ms all. TypedGuarded (Ns s.local) e b ms all) s t → BranchesOutcome bs t r
      → BranchesOutcome (more_branches e b bs) s r
  branches_behind e b bs s t (Ok x) h k =
      record { all = h.all ++ k.all; typed = next_branch h.typed k.typed refl; traced = traced_on s.trace t.trace x.trace h.all k.all h.traced k.traced }
  branches_behind e b bs s t (Err f) h k = in_later_branch h.typed k

  branches_then : (e : Expr) (b : Block) (bs : Branches) (s : State) (r : Result State Refusal) → GuardedOutcome e b s r → ((t : State) → BranchesOutcome bs t (branches_typed ks t bs))
      → BranchesOutcome (more_branches e b bs) s (and_then r (λ t. branches_typed ks t bs))
  branches_then e b bs s (Ok t) h k = branches_behind e b bs s t (branches_typed ks t bs) h (k t)
  branches_then e b bs s (Err f) h k = in_branch h

  if_behind : (bs : Branches) (last : Else) (s t : State) (r : Result State Refusal) → Reached (λ ms all. TypedBranches (Ns s.local) bs ms all) s t → ElseOutcome last t r → IsLined (stmt.if_any bs last) s r
  if_behind bs last s t (Ok x) h k =
      record { all = h.all ++ k.all; typed = branches h.typed k.typed refl; traced = traced_on s.trace t.trace x.trace h.all k.all h.traced k.traced }
  if_behind bs last s t (Err f) h k = k bs (Ns s.local) h.all h.typed

  if_then : (bs : Branches) (last : Else) (s : State) (r : Result State Refusal) → BranchesOutcome bs s r → ((t : State) → ElseOutcome last t (else_typed ks t last))
      → IsLined (stmt.if_any bs last) s (and_then r (λ t. else_typed ks t last))
  if_then bs last s (Ok t) h k = if_behind bs last s t (else_typed ks t last) h (k t)
  if_then bs last s (Err f) h k = in_branches h

  loop_of : (e : Expr) (b : Block) (s : State) (r : Result State Refusal) → GuardedOutcome e b s r → IsLined (stmt.loop e b) s r
  loop_of e b s (Ok x) h = record { all = h.all; typed = loops h.typed; traced = h.traced }
  loop_of e b s (Err f) h = in_loop h

  last_of : (b : Block) (s : State) (r : Result State Refusal) → BlockOutcome b s r → ElseOutcome (otherwise b) s r
  last_of b s (Ok x) h = record { all = h.all; typed = at_last h.typed; traced = h.traced }
  last_of b s (Err f) h = λ bs ns us k. in_else k h

  mutual
    pub line_so : (a : Stmt) (s : State) → IsLined a s (line_typed ks s a)
    line_so stmt.pass s = record { all = []; typed = line [] of_none (refl, refl) tt; traced = traced_none s.trace }
    line_so (stmt.give p e) s =
        line_then (stmt.give p e) s (first_typed ks s (returned p e)) (λ x. return_used s.local.result p s.local x) (first_row (returned p e) s) (λ x h. return_so p e s s.local.result refl x h)
    line_so (stmt.print p es) s = any_so (stmt.print p es) s (all_typed ks s.local (no_parts s.trace) es) (all_so cs fs ks s.local known es (no_parts s.trace)) (λ ts c. (refl, refl))
    line_so (stmt.assign w a e) s =
        line_then (stmt.assign w a e) s (first_typed ks s e) (λ x. assign_used (type_of_name s.local.values w.text) w s.local x) (first_row e s)
        (λ x h. assign_so w a e s (type_of_name s.local.values w.text) refl x h)
    line_so (stmt.write o w e) s =
        line_then (stmt.write o w e) s (two_typed ks s o e) (λ x. write_used (member_of (types_of x.parts) w.text) w s.local x) (two_row o e s)
        (λ x h. write_so o w e s x (member_of (types_of x.parts) w.text) refl h)
    line_so (stmt.start w p f es) s =
        line_then (stmt.start w p f es) s (row_typed ks s f es) (λ x. start_used (type_of_name s.local.threads w.text) w p s.local x) (start_row f es s)
        (λ x h. start_so w p f es s x (type_of_name s.local.threads w.text) refl h)
    line_so (stmt.plain e) s = any_so (stmt.plain e) s (first_typed ks s e) (first_row e s) (λ ts c. (one_dyn ts c, refl))
    line_so (stmt.if_any bs last) s = if_then bs last s (branches_typed ks s bs) (branches_so bs s) (λ t. else_so last t)
    line_so (stmt.loop e b) s = loop_of e b s (and_then (condition ks s e) (λ t. block_typed ks t b)) (guarded_then e b s (condition ks s e) (condition_so e s) (λ t. block_so b t))

    pub block_so : (b : Block) (s : State) → BlockOutcome b s (block_typed ks s b)
    block_so no_stmts s = record { all = []; typed = ends; traced = traced_none s.trace }
    block_so (more_stmts a rest) s = block_then a rest s (line_typed ks s a) (line_so a s) (λ t. block_so rest t)

    branches_so : (bs : Branches) (s : State) → BranchesOutcome bs s (branches_typed ks s bs)
    branches_so no_branches s = record { all = []; typed = no_branch; traced = traced_none s.trace }
    branches_so (more_branches e b bs) s =
        branches_then e b bs s (and_then (condition ks s e) (λ t. block_typed ks t b)) (guarded_then e b s (condition ks s e) (condition_so e s) (λ t. block_so b t)) (λ t. branches_so bs t)

    else_so : (last : Else) (s : State) → ElseOutcome last s (else_typed ks s last)
    else_so no_else s = record { all = []; typed = no_last; traced = traced_none s.trace }
    else_so (otherwise b) s = last_of b s (block_typed ks s b) (block_so b s)
