-- What a right script of the grammar can be refused for by its types.
use Rattle.std.proofs.Common.{◌≡◌, inl, inr, ℕ, List, [], ◌∷◌, ◌++◌, Bool, true, false, flat_map, Option, Some, None, refl, sym, ◌∙◌, ap, subst, bytes_eq, if◌then◌else◌}
use Rattle.std.proofs.lemmas.List.{append-nil}
use Rattle.mono_list.proofs.Cases.{split, none_some}
use Rattle.mono_syntax.specs.declared.cast.NamedType.{NamedType}
use Rattle.mono_syntax.specs.declared.leaf.Word.{Word}
use Rattle.mono_syntax.specs.declared.refusal.Reason.TheVariants.{Twice}
use Rattle.mono_syntax.specs.declared.refusal.Refusal.{Refusal}
use Rattle.mono_syntax.specs.declared.tree.ClassDef.{ClassDef}
use Rattle.mono_syntax.specs.declared.tree.FuncDef.{FuncDef}
use Rattle.mono_syntax.specs.declared.tree.Item.{Item}
use Rattle.mono_syntax.specs.declared.tree.Script.{Script}
use Rattle.mono_syntax.specs.Ann.{Ann}
use Rattle.mono_syntax.specs.Expr as expr
use Rattle.mono_syntax.specs.Expr.{Expr, Exprs}
use Rattle.mono_syntax.specs.Stmt as stmt
use Rattle.mono_syntax.specs.Stmt.{Stmt, Block, Branches, Else}
use Rattle.mono_syntax.specs.StmtView.{block}
use Rattle.mono_syntax.specs.Ty.{Ty}
use Rattle.mono_tree.specs.TypedPrograms.{type_of_name}
use Rattle.mono_tree.proofs.MeetMade.{name_read}
use Rattle.script_rules.specs.BlockNames.{Target, firsts, all_targets, starts, block_starts, branch_starts}
use Rattle.script_rules.specs.Definitions.{functions_of, statements_of}
use Rattle.script_rules.specs.NameFaults.{given_again}
use Rattle.script_rules.specs.NameRules.{is_start, is_start_end}
use Rattle.script_rules.specs.Occurrences.{at, in_any_ann, in_expr, in_exprs, in_target, in_stmt, in_block, in_branches, in_else as in_last, in_param, in_function, in_main, bodies}
use Rattle.script_rules.specs.ScopeFaults.{IsRight}
use Rattle.script_rules.specs.Scoping.{class_list, function_list, main_block}
use Rattle.script_rules.specs.declared.occurrence.Occurrence.{Occurrence}
use Rattle.script_rules.specs.declared.occurrence.Role.TheVariants as role
use Rattle.script_shape.specs.Shapes.{IsShapedStmt, IsShapedBlock, AreShapedBranches, AreShapedItems, IsShaped}
use Rattle.static_types.specs.LineFaults.{StartFault, LineRuleFault, LineFault, in_part, no_rule, at_use, in_branches as in_branches_fault, in_else, in_loop, GuardedFault, in_condition, at_condition, in_guarded, BranchFault, in_branch, in_later_branch, BlockFault, in_this, in_rest}
use Rattle.static_types.specs.Lines.{line_parts}
use Rattle.static_types.specs.Names.{Names}
use Rattle.static_types.specs.Scripts.{FunctionFault, in_body, at_end, ItemFault, in_function as in_function_fault, in_line, behind_class, behind_function, behind_line, IsTypeFault}
use Rattle.script_rules.specs.SourceCasts.{AreNames}
use Rattle.class_types.proofs.OrderLaws.{In, in-left, in-contains}
use Rattle.cast_rules.specs.TypingReasons.{IsTypingReason, inconsistent, no_field}
use Rattle.cast_rules.proofs.ApartNames.{start_gives, faultless, function_part, main_part, first_target}
use Rattle.cast_rules.proofs.BecomeLines.{same_names}
use Rattle.cast_rules.proofs.BlockTypes.{named_texts}
use Rattle.cast_rules.proofs.ExprReasons.{callee_reason, use_reason, named_there, StandAt, at_first, at_second, stand_within, first_behind, ends_still, IsNamesOf, ExprAt, PartsAt, read_at, two_at, exprs_at, expr_reason, parts_reason}
use Rattle.cast_rules.proofs.Occurring.{is_value, pick, pick_append, picked_found, found_picked, both_none, joined, expr_none, any_none, no_start, no_end, target_texts, end_texts_target, stmt_start_texts, stmt_end_texts, block_start_texts, block_end_texts, branches_start_texts, branches_end_texts, params_start, params_end, function_values, body_value_texts}
use Rattle.cast_rules.proofs.Starts.{texts, names, Started, none_started, line_starts, guarded_starts, branches_start}

there_named : (ns : List NamedType) (x : List ℕ) (t : Ty) → type_of_name ns x ≡ Some t → In x (names ns)
there_named [] x t e = none_some (In x []) e
there_named (n ∷ ns) x t e =
    split (bytes_eq n.name x) (λ b. bytes_eq n.name x ≡ b → (if b then Some n.ty else type_of_name ns x) ≡ Some t → In x (names (n ∷ ns)))
    (λ _ q _. inl (name_read n.name x q)) (λ _ _ f. inr (there_named ns x t f)) refl e

module _ (s : Script) (right : IsRight s) (body : List Occurrence) (part : In body (bodies s)) (inside : Bool) where
  -- what may be named where a statement stands, and a declared result in a function
  record IsScopeOf (ns : Names) : Type 0 where
    pub known : IsNamesOf s right body part ns
    pub result : inside ≡ true → ns.result ≡ None → ⊥

  -- statements that stand in the body behind what has started the threads and ended their starts
  record LinesAt (ns : Names) (before os : List Occurrence) : Type 0 where
    pub stands : StandAt body before os
    pub started : pick is_start before ≡ names ns.threads
    pub ended : pick is_start_end before ≡ names ns.threads

  first_lines : (ns : Names) (before xs ys : List Occurrence) → LinesAt ns before (xs ++ ys) → LinesAt ns before xs
  first_lines ns before xs ys h = record { stands = at_first body before xs ys h.stands; started = h.started; ended = h.ended }

  -- behind statements that start these
  lines_behind : (ns ms : Names) (before xs ys : List Occurrence) (ws : List Word) → Started ns ms ws → pick is_start xs ≡ texts ws → pick is_start_end xs ≡ texts ws
      → LinesAt ns before (xs ++ ys) → LinesAt ms (before ++ xs) ys
  lines_behind ns ms before xs ys ws st p q h =
      let one = h.started in
      let two = h.ended in
      record {
        stands = at_second body before xs ys h.stands;
        started = pick_append is_start before xs ∙ (λ j. one j ++ p j) ∙ sym st.threads;
        ended = pick_append is_start_end before xs ∙ (λ j. two j ++ q j) ∙ sym st.threads;
      }

  scope_behind : (ns ms : Names) (ws : List Word) → Started ns ms ws → IsScopeOf ns → IsScopeOf ms
  scope_behind ns ms ws st h =
      let k = h.known in
      record {
        known = record {
          classes = st.classes ∙ k.classes;
          functions = st.functions ∙ k.functions;
          values = λ x i e. k.values x i (ap (λ (l : List NamedType). type_of_name l x) (sym st.values) ∙ e);
        };
        result = λ i e. h.result i (sym st.result ∙ e);
      }

  -- ---- statements without blocks

  start_parts : (ns : Names) (before : List Occurrence) (w : Word) (f : Expr) (es : Exprs)
      → StandAt body before (at role.Started w ∷ (in_expr role.Read f ++ in_exprs es ++ at role.Ended w ∷ [])) → pick is_start_end before ≡ names ns.threads
      → PartsAt s right body part ns (line_parts (stmt.start w w.place f es))
  start_parts ns before w f es h k =
      let xs = at role.Started w ∷ [] in
      let fs = in_expr role.Read f in
      let gs = in_exprs es in
      let end = at role.Ended w ∷ [] in
      let parts = at_first body (before ++ xs) (fs ++ gs) end (at_second body before xs (fs ++ gs ++ end) h) in
      let now = ends_still before xs (names ns.threads) k refl in
      let behind = ends_still (before ++ xs) fs (names ns.threads) now (expr_none is_start_end no_end role.Read refl f) in (
        read_at s right body part ns (before ++ xs) f (at_first body (before ++ xs) fs gs parts) now,
        exprs_at s right body part ns ((before ++ xs) ++ fs) es (at_second body (before ++ xs) fs gs parts) behind,
      )

  line_parts_at : (ns : Names) (before : List Occurrence) (l : Stmt) → LinesAt ns before (in_stmt l) → PartsAt s right body part ns (line_parts l)
  line_parts_at ns before stmt.pass h = tt
  line_parts_at ns before (stmt.give p None) h = (read_at s right body part ns before (expr.nil p) h.stands h.ended, tt)
  line_parts_at ns before (stmt.give p (Some e)) h = (read_at s right body part ns before e h.stands h.ended, tt)
  line_parts_at ns before (stmt.print p es) h = exprs_at s right body part ns before es h.stands h.ended
  line_parts_at ns before (stmt.assign w a e) h =
      let behind = ends_still before (in_target w a) (names ns.threads) h.ended (end_texts_target w a) in
      (read_at s right body part ns (before ++ in_target w a) e (at_second body before (in_target w a) (in_expr role.Read e) h.stands) behind, tt)
  line_parts_at ns before (stmt.write o w e) h = two_at s right body part ns before o e h.stands h.ended
  line_parts_at ns before (stmt.start w p f es) h = start_parts ns before w f es h.stands h.ended
  line_parts_at ns before (stmt.plain e) h = (read_at s right body part ns before e h.stands h.ended, tt)
  line_parts_at ns before (stmt.if_any bs last) h = tt
  line_parts_at ns before (stmt.loop e b) h = tt

  target_is_value : (w : Word) (a : Option Ann) → ((o : Occurrence) → In o (in_target w a) → In o body) → In w.text (pick is_value body)
  target_is_value w None h = found_picked is_value body (at role.Assigned w) (h (at role.Assigned w) (inl refl)) refl
  target_is_value w (Some a) h = found_picked is_value body (at role.Annotated w) (h (at role.Annotated w) (inl refl)) refl

  not_started : (ns : Names) (before rest : List Occurrence) (w : Word) (t : Ty) → LinesAt ns before (at role.Started w ∷ rest) → type_of_name ns.threads w.text ≡ Some t → ⊥
  not_started ns before rest w t h e =
      let i = subst (λ (l : List (List ℕ)). In w.text l) (sym h.started) (there_named ns.threads w.text t e) in
      let f = picked_found is_start before w.text i in
      faultless s right body part w.place Twice (given_again before (at role.Started w) (first_behind body before (at role.Started w) rest h.stands) refl
      (record { occurrence = f.occurrence; member = in-contains f.occurrence before f.among; role = start_gives (f.occurrence).role f.role; text = f.text }) refl)

  start_reason : (ns : Names) (before rest : List Occurrence) (w : Word) (p : _) (g : Expr) (es : Exprs) (ts : List Ty) (f : Refusal) → LinesAt ns before (at role.Started w ∷ rest)
      → (o : Option Ty) → type_of_name ns.threads w.text ≡ o → StartFault o (stmt.start w p g es) ts f → IsTypingReason f.reason
  start_reason ns before rest w p g es ts f h (Some t) e k = absurd (not_started ns before rest w t h e)
  start_reason ns before rest w p g es ts f h None e k = callee_reason p ts f k

  line_rule_reason : (ns : Names) (before : List Occurrence) (l : Stmt) (ts : List Ty) (f : Refusal) → IsScopeOf ns → LinesAt ns before (in_stmt l) → IsShapedStmt inside l
      → LineRuleFault ns l ts f → IsTypingReason f.reason
  line_rule_reason ns before (stmt.give p None) ts f names h shape k = absurd (names.result shape k.0)
  line_rule_reason ns before (stmt.give p (Some e)) ts f names h shape k = absurd (names.result shape.0 k.0)
  line_rule_reason ns before (stmt.assign w a e) ts f names h shape k =
      let within = λ (o : Occurrence) (i : In o (in_target w a)). stand_within body before (in_target w a ++ in_expr role.Read e) h.stands o (in-left o (in_target w a) (in_expr role.Read e) i) in
      absurd ((names.known).values w.text (target_is_value w a within) k.0)
  line_rule_reason ns before (stmt.write o w e) ts f names h shape k = subst (λ (z : Refusal). IsTypingReason z.reason) (sym k.1) no_field
  line_rule_reason ns before (stmt.start w p g es) ts f names h shape k =
      start_reason ns before (in_expr role.Read g ++ in_exprs es ++ at role.Ended w ∷ []) w p g es ts f h (type_of_name ns.threads w.text) refl k
  line_rule_reason ns before _ ts f names h shape k = absurd k

  -- ---- statements

  mutual
    line_reason : (ns : Names) (before : List Occurrence) (l : Stmt) (f : Refusal) → LineFault ns l f → IsScopeOf ns → LinesAt ns before (in_stmt l) → IsShapedStmt inside l
        → IsTypingReason f.reason
    line_reason ns before l f (in_part k) names h shape = parts_reason s right body part ns (line_parts l) f k names.known (line_parts_at ns before l h)
    line_reason ns before l f (no_rule {ts = ts} t k) names h shape = line_rule_reason ns before l ts f names h shape k
    line_reason ns before l f (at_use {ts = ts} asks ms t k u) names h shape = use_reason (line_parts l) ts asks f u
    line_reason ns before l f (in_branches_fault {bs = bs} {last = last} k) names h shape =
        branch_reason ns before bs f k names (first_lines ns before (in_branches bs) (in_last last) h) shape.1
    line_reason ns before l f (in_else {ks = ks} {bs = bs} {body = inner} {us = us} t k) names h shape =
        let st = branches_start ns ks bs us t in
        let there = lines_behind ns ks before (in_branches bs) (in_block inner) (branch_starts bs) st (branches_start_texts bs) (branches_end_texts bs) h in
        block_reason ks (before ++ in_branches bs) inner f k (scope_behind ns ks (branch_starts bs) st names) there shape.2
    line_reason ns before l f (in_loop {e = e} {body = inner} k) names h shape = guarded_reason ns before e inner f k names h shape.1

    guarded_reason : (ns : Names) (before : List Occurrence) (e : Expr) (inner : Block) (f : Refusal) → GuardedFault ns e inner f → IsScopeOf ns
        → LinesAt ns before (in_expr role.Read e ++ in_block inner) → IsShapedBlock inside inner → IsTypingReason f.reason
    guarded_reason ns before e inner f (in_condition k) names h shape =
        let at_e : ExprAt s right body part ns before role.Read e = record { stands = at_first body before (in_expr role.Read e) (in_block inner) h.stands; ends = h.ended; plain = inl refl } in
        expr_reason s right body part ns before role.Read e f k names.known at_e
    guarded_reason ns before e inner f (at_condition t a q) names h shape = subst (λ (z : Refusal). IsTypingReason z.reason) (sym q) inconsistent
    guarded_reason ns before e inner f (in_guarded t c k) names h shape =
        let xs = in_expr role.Read e in
        let there = lines_behind ns ns before xs (in_block inner) [] (none_started ns ns refl) (expr_none is_start no_start role.Read refl e) (expr_none is_start_end no_end role.Read refl e) h in
        block_reason ns (before ++ xs) inner f k names there shape

    branch_reason : (ns : Names) (before : List Occurrence) (bs : Branches) (f : Refusal) → BranchFault ns bs f → IsScopeOf ns → LinesAt ns before (in_branches bs)
        → AreShapedBranches inside bs → IsTypingReason f.reason
    branch_reason ns before bs f (in_branch {e = e} {body = inner} {bs = bs1} k) names h shape =
        guarded_reason ns before e inner f k names (first_lines ns before (in_expr role.Read e ++ in_block inner) (in_branches bs1) h) shape.1
    branch_reason ns before bs f (in_later_branch {ks = ks} {e = e} {body = inner} {bs = bs1} {us = us} t k) names h shape =
        let xs = in_expr role.Read e ++ in_block inner in
        let ws = block_starts inner in
        let st = guarded_starts ns ks e inner us t in
        let begun = joined is_start (in_expr role.Read e) (in_block inner) [] (texts ws) (expr_none is_start no_start role.Read refl e) (block_start_texts inner) in
        let over = joined is_start_end (in_expr role.Read e) (in_block inner) [] (texts ws) (expr_none is_start_end no_end role.Read refl e) (block_end_texts inner) in
        branch_reason ks (before ++ xs) bs1 f k (scope_behind ns ks ws st names) (lines_behind ns ks before xs (in_branches bs1) ws st begun over h) shape.2

    block_reason : (ns : Names) (before : List Occurrence) (inner : Block) (f : Refusal) → BlockFault ns inner f → IsScopeOf ns → LinesAt ns before (in_block inner)
        → IsShapedBlock inside inner → IsTypingReason f.reason
    block_reason ns before inner f (in_this {s = l} {rest = rest} k) names h shape = line_reason ns before l f k names (first_lines ns before (in_stmt l) (in_block rest) h) shape.0
    block_reason ns before inner f (in_rest {ks = ks} {s = l} {rest = rest} {us = us} t k) names h shape =
        let st = line_starts ns ks l us t in
        let there = lines_behind ns ks before (in_stmt l) (in_block rest) (starts l) st (stmt_start_texts l) (stmt_end_texts l) h in
        block_reason ks (before ++ in_stmt l) rest f k (scope_behind ns ks (starts l) st names) there shape.1

-- ---- a script

-- each value of a block has a type
values_known : (cs : List ClassDef) (ts : List Target) (ns : List NamedType) (os : List Occurrence) → pick is_value os ≡ target_texts ts → AreNames cs (firsts ts) ns → (x : List ℕ)
    → In x (pick is_value os) → type_of_name ns x ≡ None → ⊥
values_known cs ts ns os e h x i n =
    let first = first_target ts x (subst (λ (l : List (List ℕ)). In x l) e i) in
    let texts_are = named_texts cs (firsts ts) ns (same_names cs (firsts ts) ns h) in
    named_there ns x (subst (λ (l : List (List ℕ)). In x l) (sym texts_are) first) n

true_is_false : false ≡ true → ⊥
true_is_false e = cc

some_none_apart : (o : Option Ty) (t : Ty) → o ≡ Some t → o ≡ None → ⊥
some_none_apart o t e f = cc

module _ (s : Script) (right : IsRight s) where
  function_reason : (ns : Names) (d : FuncDef) (f : Refusal) → In d (function_list s) → ns.classes ≡ class_list s → ns.functions ≡ function_list s
      → FunctionFault ns.classes ns.functions d f → IsShapedBlock true (block d.body) → IsTypingReason f.reason
  function_reason ns d f h cs fs (in_body {ns = ms} {t = t} scope k) shape =
      let part = function_part s d h in
      let params = flat_map in_param d.params in
      let result = in_any_ann d.result in
      let front = params ++ result in
      let inner = in_block (block d.body) in
      let none : [] ≡ names ms.threads = sym (ap names scope.threads) in
      let stands : StandAt (in_function d) front inner = record { after = []; whole = ap (λ (l : List Occurrence). front ++ l) (sym (append-nil inner)) } in
      block_reason s right (in_function d) part true ms front (block d.body) f k
      (record {
        known = record {
          classes = scope.classes ∙ cs;
          functions = scope.functions ∙ fs;
          values = values_known ns.classes (all_targets d.params d.body) ms.values (in_function d) (function_values d) scope.values;
        };
        result = λ _ e. some_none_apart ms.result t scope.result e;
      })
      (record {
        stands = stands;
        started = both_none is_start params result (params_start d.params) (any_none is_start no_start d.result) ∙ none;
        ended = both_none is_start_end params result (params_end d.params) (any_none is_start_end no_end d.result) ∙ none;
      })
      shape
  function_reason ns d f h cs fs (at_end scope b e a q) shape = subst (λ (z : Refusal). IsTypingReason z.reason) (sym q) inconsistent

  items_reason : (ns : Names) (before : List Occurrence) (is : List Item) (f : Refusal) → ItemFault ns is f → IsScopeOf s right (in_main s) (main_part s) false ns
      → LinesAt s right (in_main s) (main_part s) false ns before (in_block (block (statements_of is))) → AreShapedItems is → ((d : FuncDef) → In d (functions_of is) → In d (function_list s))
      → IsTypingReason f.reason
  items_reason ns before is f (in_function_fault {d = d} {is = rest} k) names h shape among =
      function_reason ns d f (among d (inl refl)) (names.known).classes (names.known).functions k shape.0
  items_reason ns before is f (in_line {s = l} {is = rest} k) names h shape among =
      line_reason s right (in_main s) (main_part s) false ns before l f k names (first_lines s right (in_main s) (main_part s) false ns before (in_stmt l) (in_block (block (statements_of rest))) h) shape.0
  items_reason ns before is f (behind_class {is = rest} k) names h shape among = items_reason ns before rest f k names h shape among
  items_reason ns before is f (behind_function {is = rest} t k) names h shape among = items_reason ns before rest f k names h shape.1 (λ d i. among d (inr i))
  items_reason ns before is f (behind_line {ks = ks} {s = l} {is = rest} {us = us} t k) names h shape among =
      let st = line_starts ns ks l us t in
      let there = lines_behind s right (in_main s) (main_part s) false ns ks before (in_stmt l) (in_block (block (statements_of rest))) (starts l) st (stmt_start_texts l) (stmt_end_texts l) h in
      items_reason ks (before ++ in_stmt l) rest f k (scope_behind s right (in_main s) (main_part s) false ns ks (starts l) st names) there shape.1 among

pub type_fault_reason : (s : Script) (f : Refusal) → IsShaped s → IsRight s → IsTypeFault s f → IsTypingReason f.reason
type_fault_reason s f shaped right h =
    let scope = h.scope in
    let ns = h.names in
    let none : [] ≡ names ns.threads = sym (ap names scope.threads) in
    items_reason s right ns [] s.items f h.fault
    (record {
      known = record {
        classes = scope.classes;
        functions = scope.functions;
        values = values_known (class_list s) (all_targets [] (main_block s)) ns.values (in_main s) (body_value_texts (main_block s)) scope.values;
      };
      result = λ e _. true_is_false e;
    })
    (record { stands = record { after = []; whole = sym (append-nil (in_main s)) }; started = none; ended = none })
    shaped (λ d i. i)
