-- In a script whose names are right and whose classes don't lead back to themselves, every class, function and name has
-- a type.
use Rattle.std.proofs.Common.{◌≡◌, ℕ, ◌⊎◌, inl, inr, Bool, true, false, cond, not, List, [], ◌∷◌, ◌++◌, Option, Some, None, refl, sym, ◌∙◌, ap, subst, append_assoc, append-nil}
use Rattle.std.specs.Prelude.{is_some, bytes_eq, map, flat_map}
use Rattle.std.specs.Option.{option_or}
use Rattle.mono_list.proofs.Cases.{split, split_option}
use Rattle.mono_tree.proofs.MeetMade.{named}
use Rattle.mono_syntax.specs.declared.leaf.Place.{Place}
use Rattle.mono_syntax.specs.declared.leaf.Word.{Word}
use Rattle.mono_syntax.specs.declared.refusal.Reason.TheVariants.{UnknownName, Twice}
use Rattle.mono_syntax.specs.declared.tree.ClassDef.{ClassDef}
use Rattle.mono_syntax.specs.declared.tree.FieldDef.{FieldDef}
use Rattle.mono_syntax.specs.declared.tree.FuncDef.{FuncDef}
use Rattle.mono_syntax.specs.declared.tree.Param.{Param}
use Rattle.mono_syntax.specs.declared.tree.Item.{Item}
use Rattle.mono_syntax.specs.declared.tree.Item.TheVariants as item
use Rattle.mono_syntax.specs.declared.tree.Script.{Script}
use Rattle.mono_syntax.specs.Ann.{Ann, ann, Form, Anns, no_anns, more_anns}
use Rattle.mono_syntax.specs.Ann as form
use Rattle.mono_syntax.specs.Ty.{Ty, dyn, fun, Tys, no_tys, more_tys}
use Rattle.mono_syntax.specs.Stmt.{Stmt, pass, give, print, assign, write, start, plain, if_any, loop, Block, no_stmts, more_stmts, Branches, no_branches, more_branches, Else, no_else, otherwise}
use Rattle.mono_syntax.specs.StmtView.{block}
use Rattle.script_rules.specs.BlockNames.{Target, of_param, targets, block_targets, branch_targets, else_targets, all_targets}
use Rattle.script_rules.specs.Definitions.{classes_of, functions_of, class_named}
use Rattle.script_rules.specs.Scoping.{class_list, function_list, main_block}
use Rattle.script_rules.specs.Writes.{WritesAny, ParamTypes}
use Rattle.script_rules.specs.FirstFault.{IsFaultless}
use Rattle.class_types.specs.Known.{HaveTypes}
use Rattle.script_rules.specs.Recursion.{names_in, names_in_all, field_names, RecursionFault}
use Rattle.script_rules.specs.declared.occurrence.Occurrence.{Occurrence}
use Rattle.script_rules.specs.declared.occurrence.Role.TheVariants as role
use Rattle.name_scope.specs.declared.roles.Roles.{Roles}
use Rattle.script_rules.specs.Occurrences.{at, in_ann, in_anns, in_any_ann, in_expr, in_target, in_stmt, in_block, in_branches, in_else, in_param, in_function, in_field, in_class, defined_by, definitions, in_main, body_of, bodies}
use Rattle.name_scope.specs.computed.NameRoles.{alone, together, roles_of, is_twice}
use Rattle.script_rules.specs.NameFaults.{NameFault}
use Rattle.script_rules.specs.NameRules.{StandsBehind}
use Rattle.name_scope.specs.computed.Typing.{EachWrites, IsTypable, AreTypable, HasTypes}
use Rattle.name_scope.proofs.BoundTurns.{targets_of_block}
use Rattle.name_scope.proofs.ClassesHaveTypes.{HasFields, ann_writes, AreKnown, class_has_fields, all_have_types}
use Rattle.name_scope.proofs.FaultOrder.{In, in_append, in_left, in_right, in_Contains}
use Rattle.name_scope.proofs.NameFaultLaws.{unknown_is, twice_is}
use Rattle.name_scope.proofs.Tables.{roles_of-push}

-- ---- where occurrences stand

-- the names of an annotation are used there as types
mutual
  typed_in_ann : (a : Ann) (w : Word) → In (names_in a) w → In (in_ann a) (at role.Typed w)
  typed_in_ann (ann p form.dyn) w h = absurd h
  typed_in_ann (ann p form.int) w h = absurd h
  typed_in_ann (ann p form.bool) w h = absurd h
  typed_in_ann (ann p form.str) w h = absurd h
  typed_in_ann (ann p form.nil) w h = absurd h
  typed_in_ann (ann p (form.class v)) w (inl e) = inl (ap (at role.Typed) e)
  typed_in_ann (ann p (form.class v)) w (inr h) = absurd h
  typed_in_ann (ann p (form.fun as_ a)) w h =
      elim (in_append (names_in_all as_) (names_in a) w h) [
        | inl i ↦ in_left (in_anns as_) (in_ann a) (at role.Typed w) (typed_in_anns as_ w i)
        | inr i ↦ in_right (in_anns as_) (in_ann a) (at role.Typed w) (typed_in_ann a w i)
      ]

  typed_in_anns : (as_ : Anns) (w : Word) → In (names_in_all as_) w → In (in_anns as_) (at role.Typed w)
  typed_in_anns no_anns w h = absurd h
  typed_in_anns (more_anns a as_) w h =
      elim (in_append (names_in a) (names_in_all as_) w h) [
        | inl i ↦ in_left (in_ann a) (in_anns as_) (at role.Typed w) (typed_in_ann a w i)
        | inr i ↦ in_right (in_ann a) (in_anns as_) (at role.Typed w) (typed_in_anns as_ w i)
      ]

typed_in_fields : (fs : List FieldDef) (w : Word) → In (field_names fs) w → In (flat_map in_field fs) (at role.Typed w)
typed_in_fields [] w h = absurd h
typed_in_fields (f ∷ fs) w h =
    elim (in_append (names_in f.ann) (field_names fs) w h) [
      | inl i ↦ in_left (in_field f) (flat_map in_field fs) (at role.Typed w) (inr (typed_in_ann f.ann w i))
      | inr i ↦ in_right (in_field f) (flat_map in_field fs) (at role.Typed w) (typed_in_fields fs w i)
    ]

-- the annotation of a target stands in this list
abbrev Within : Target → List Occurrence → Type 0
Within t os = (o : Occurrence) → In (in_any_ann t.ann) o → In os o

target_within : (w : Word) (a : Option Ann) → Within (record { word = w; ann = a }) (in_target w a)
target_within w None o h = absurd h
target_within w (Some a) o h = inr h

mutual
  stmt_within : (s : Stmt) (t : Target) → In (targets s) t → Within t (in_stmt s)
  stmt_within pass t h = absurd h
  stmt_within (give p e) t h = absurd h
  stmt_within (print p es) t h = absurd h
  stmt_within (assign w a e) t (inl q) = λ o i. in_left (in_target w a) (in_expr role.Read e) o (subst (λ (k : Target). Within k (in_target w a)) q (target_within w a) o i)
  stmt_within (assign w a e) t (inr h) = absurd h
  stmt_within (write b w e) t h = absurd h
  stmt_within (start w p f es) t h = absurd h
  stmt_within (plain e) t h = absurd h
  stmt_within (if_any bs last) t h =
      elim (in_append (branch_targets bs) (else_targets last) t h) [
        | inl i ↦ λ o k. in_left (in_branches bs) (in_else last) o (branches_within bs t i o k)
        | inr i ↦ λ o k. in_right (in_branches bs) (in_else last) o (else_within last t i o k)
      ]
  stmt_within (loop e b) t h = λ o k. in_right (in_expr role.Read e) (in_block b) o (block_within b t h o k)

  block_within : (b : Block) (t : Target) → In (block_targets b) t → Within t (in_block b)
  block_within no_stmts t h = absurd h
  block_within (more_stmts s b) t h =
      elim (in_append (targets s) (block_targets b) t h) [
        | inl i ↦ λ o k. in_left (in_stmt s) (in_block b) o (stmt_within s t i o k)
        | inr i ↦ λ o k. in_right (in_stmt s) (in_block b) o (block_within b t i o k)
      ]

  branches_within : (bs : Branches) (t : Target) → In (branch_targets bs) t → Within t (in_branches bs)
  branches_within no_branches t h = absurd h
  branches_within (more_branches e b bs) t h =
      elim (in_append (block_targets b) (branch_targets bs) t h) [
        | inl i ↦ λ o k. in_left (in_expr role.Read e ++ in_block b) (in_branches bs) o (in_right (in_expr role.Read e) (in_block b) o (block_within b t i o k))
        | inr i ↦ λ o k. in_right (in_expr role.Read e ++ in_block b) (in_branches bs) o (branches_within bs t i o k)
      ]

  else_within : (l : Else) (t : Target) → In (else_targets l) t → Within t (in_else l)
  else_within no_else t h = absurd h
  else_within (otherwise b) t h = block_within b t h

params_within : (ps : List Param) (t : Target) → In (map of_param ps) t → Within t (flat_map in_param ps)
params_within [] t h = absurd h
params_within (p ∷ ps) t (inl q) = λ o i. in_left (in_param p) (flat_map in_param ps) o (inr (subst (λ (k : Target). In (in_any_ann k.ann) o) (sym q) i))
params_within (p ∷ ps) t (inr h) = λ o i. in_right (in_param p) (flat_map in_param ps) o (params_within ps t h o i)

function_within : (d : FuncDef) (t : Target) → In (all_targets d.params d.body) t → Within t (in_function d)
function_within d t h =
    let params = flat_map in_param d.params in
    let result = in_any_ann d.result in
    let body = in_block (block d.body) in
    elim (in_append (map of_param d.params) (flat_map targets d.body) t h) [
      | inl i ↦ λ o k. in_left (params ++ result) body o (in_left params result o (params_within d.params t i o k))
      | inr i ↦ λ o k. in_right (params ++ result) body o (block_within (block d.body) t (subst (λ (l : List Target). In l t) (sym (targets_of_block d.body)) i) o k)
    ]

-- ---- parts of a script

class_part : (is : List Item) (d : ClassDef) → In (classes_of is) d → In (flat_map body_of is) (in_class d)
class_part [] d h = absurd h
class_part (item.Class c ∷ is) d (inl e) = inl (ap in_class e)
class_part (item.Class c ∷ is) d (inr h) = inr (class_part is d h)
class_part (item.Def f ∷ is) d h = inr (class_part is d h)
class_part (item.Stmt s ∷ is) d h = class_part is d h

function_part : (is : List Item) (d : FuncDef) → In (functions_of is) d → In (flat_map body_of is) (in_function d)
function_part [] d h = absurd h
function_part (item.Class c ∷ is) d h = inr (function_part is d h)
function_part (item.Def f ∷ is) d (inl e) = inl (ap in_function e)
function_part (item.Def f ∷ is) d (inr h) = inr (function_part is d h)
function_part (item.Stmt s ∷ is) d h = function_part is d h

class_counts : (cs : List ClassDef) (x : List ℕ) (d : ClassDef) → class_named cs x ≡ Some d → In cs d
class_counts [] x d = λ e. absurd cc
class_counts (c ∷ cs) x d =
    split (bytes_eq c.name.text x) (λ b. cond b (Some c) (class_named cs x) ≡ Some d → (c ≡ d) ⊎ In cs d)
    (λ t e. inl (cc)) (λ f e. inr (class_counts cs x d e))

-- a name is a class by the definitions where it has a class
class_role : (is : List Item) (x : List ℕ) → (roles_of (flat_map defined_by is) x).class ≡ is_some (class_named (classes_of is) x)
class_role [] x = refl
class_role (item.Class d ∷ is) x =
    let r = roles_of (flat_map defined_by is) x in
    split (bytes_eq d.name.text x) (λ b. (cond b (together (alone role.Class d.name.place) r) r).class ≡ is_some (cond b (Some d) (class_named (classes_of is) x)))
    (λ t. refl) (λ f. class_role is x)
class_role (item.Def d ∷ is) x =
    let r = roles_of (flat_map defined_by is) x in
    split (bytes_eq d.name.text x) (λ b. (cond b (together (alone role.Function d.name.place) r) r).class ≡ is_some (class_named (classes_of is) x))
    (λ t. class_role is x) (λ f. class_role is x)
class_role (item.Stmt s ∷ is) x = class_role is x

stands_in : (os : List Occurrence) (o : Occurrence) → In os o → (before : List Occurrence) × StandsBehind os before o
stands_in [] o h = absurd h
stands_in (p ∷ os) o (inl e) = ([], record { after = os; whole = ap (λ q. q ∷ os) e })
stands_in (p ∷ os) o (inr h) =
    let s = stands_in os o h in
    (p ∷ s.0, record { after = s.1.after; whole = ap (λ l. p ∷ l) s.1.whole })

-- ---- each class counts

-- one more definition, of a name that has none afterwards
push_none : (b : Bool) (r q : Roles) (p : Place) → q.definition ≡ Some p → (cond b (together r q) r).definition ≡ None → (b ≡ false) × (r.definition ≡ None)
push_none false r q p e = λ h. (refl, h)
push_none true r q p e =
    subst (λ (o : Option Place). option_or r.definition o ≡ None → (true ≡ false) × (r.definition ≡ None)) (sym e)
    (split_option r.definition (λ o. option_or o (Some p) ≡ None → (true ≡ false) × (o ≡ None)) (λ n h. absurd cc) (λ z n h. absurd cc))

not_some : (o : Option Place) → is_some o ≡ false → o ≡ None
not_some None h = refl
not_some (Some p) h = absurd cc

-- no definition has the name of one before it, where these stand before all
abbrev AreFirst : List Occurrence → List Occurrence → Type 0
AreFirst pre os = (before : List Occurrence) (o : Occurrence) → StandsBehind os before o → is_twice o.role (roles_of (pre ++ before) o.text) ≡ false

first_here : (pre : List Occurrence) (o : Occurrence) (os : List Occurrence) → AreFirst pre (o ∷ os) → is_twice o.role (roles_of pre o.text) ≡ false
first_here pre o os h =
    subst (λ (l : List Occurrence). is_twice o.role (roles_of l o.text) ≡ false) (append-nil pre) (h [] o (record { after = os; whole = refl }))

first_rest : (pre : List Occurrence) (o : Occurrence) (os : List Occurrence) → AreFirst pre (o ∷ os) → AreFirst (pre ++ o ∷ []) os
first_rest pre o os h = λ before p st.
    subst (λ (l : List Occurrence). is_twice p.role (roles_of l p.text) ≡ false) (sym (append_assoc pre (o ∷ []) before))
    (h (o ∷ before) p (record { after = st.after; whole = ap (λ l. o ∷ l) st.whole }))

-- each class is the class of its name, and no definition has it before all
each_counts : (is : List Item) (pre : List Occurrence) → AreFirst pre (flat_map defined_by is) → (d : ClassDef) → In (classes_of is) d
    → (class_named (classes_of is) d.name.text ≡ Some d) × ((roles_of pre d.name.text).definition ≡ None)
each_counts [] pre h d i = absurd i
each_counts (item.Class c ∷ is) pre h d (inl e) =
    let own : class_named (c ∷ classes_of is) c.name.text ≡ Some c = ap (λ b. cond b (Some c) (class_named (classes_of is) c.name.text)) (named c.name.text c.name.text refl) in
    subst (λ (k : ClassDef). (class_named (c ∷ classes_of is) k.name.text ≡ Some k) × ((roles_of pre k.name.text).definition ≡ None)) e
    (own, not_some _ (first_here pre (at role.Class c.name) (flat_map defined_by is) h))
each_counts (item.Class c ∷ is) pre h d (inr i) =
    let o = at role.Class c.name in
    let r = each_counts is (pre ++ o ∷ []) (first_rest pre o (flat_map defined_by is) h) d i in
    let n = push_none (bytes_eq c.name.text d.name.text) (roles_of pre d.name.text) (alone role.Class c.name.place) c.name.place refl
    (sym (ap (λ (q : Roles). q.definition) (roles_of-push pre o d.name.text)) ∙ r.1) in
    (ap (λ b. cond b (Some c) (class_named (classes_of is) d.name.text)) n.0 ∙ r.0, n.1)
each_counts (item.Def f ∷ is) pre h d i =
    let o = at role.Function f.name in
    let r = each_counts is (pre ++ o ∷ []) (first_rest pre o (flat_map defined_by is) h) d i in
    let n = push_none (bytes_eq f.name.text d.name.text) (roles_of pre d.name.text) (alone role.Function f.name.place) f.name.place refl
    (sym (ap (λ (q : Roles). q.definition) (roles_of-push pre o d.name.text)) ∙ r.1) in
    (r.0, n.1)
each_counts (item.Stmt t ∷ is) pre h d i = each_counts is pre h d i

-- ---- every annotation writes a type

module _ (s : Script) (right : IsFaultless (NameFault s)) (none : (p : Place) → RecursionFault (class_list s) p → ⊥) where
  known_typed : (body : List Occurrence) → In (bodies s) body → (w : Word) → In body (at role.Typed w) → (k : ClassDef) × class_named (class_list s) w.text ≡ Some k
  known_typed body part w i =
      let P : Option ClassDef → Type 0 = λ o. class_named (class_list s) w.text ≡ o → (k : ClassDef) × class_named (class_list s) w.text ≡ Some k in
      split_option (class_named (class_list s) w.text) P
      (λ _ e. let st = stands_in body (at role.Typed w) i in
      absurd (right w.place UnknownName (record {
        body = body;
        part = in_Contains (bodies s) body part;
        fault = unknown_is (definitions s) body st.0 (at role.Typed w) st.1 (ap not (class_role s.items w.text ∙ ap is_some e));
      })))
      (λ k _ e. (k, e))
      refl

  all_first : AreFirst [] (definitions s)
  all_first before o st =
      split (is_twice o.role (roles_of before o.text)) (λ b. b ≡ false)
      (λ t. absurd (right o.place Twice (record { body = definitions s; part = in_Contains (bodies s) (definitions s) (inl refl); fault = twice_is (definitions s) (definitions s) before o st t })))
      (λ f. refl)

  class_body : (d : ClassDef) → In (class_list s) d → In (bodies s) (in_class d)
  class_body d i = inr (in_left (flat_map body_of s.items) (in_main s ∷ []) (in_class d) (class_part s.items d i))

  function_body : (d : FuncDef) → In (function_list s) d → In (bodies s) (in_function d)
  function_body d i = inr (in_left (flat_map body_of s.items) (in_main s ∷ []) (in_function d) (function_part s.items d i))

  main_body : In (bodies s) (in_main s)
  main_body = inr (in_right (flat_map body_of s.items) (in_main s ∷ []) (in_main s) (inl refl))

  all_known : AreKnown (class_list s)
  all_known x d c w i = known_typed (in_class d) (class_body d (class_counts (class_list s) x d c)) w (typed_in_fields d.fields w i)

  pub classes_have_types : HaveTypes (class_list s) (class_list s)
  classes_have_types = all_have_types (class_list s) (λ d i. (each_counts s.items [] all_first d i).0) all_known none

  fields_of : (body : List Occurrence) → In (bodies s) body → (w : Word) → In body (at role.Typed w) → HasFields (class_list s) w.text
  fields_of body part w i = let k = known_typed body part w i in class_has_fields (class_list s) all_known none w.text k.0 k.1

  any_writes : (body : List Occurrence) → In (bodies s) body → (a : Option Ann) → ((o : Occurrence) → In (in_any_ann a) o → In body o) → (t : Ty) × WritesAny (class_list s) a t
  any_writes body part None h = (dyn, refl)
  any_writes body part (Some a) h = ann_writes (class_list s) a (λ w i. fields_of body part w (h (at role.Typed w) (typed_in_ann a w i)))

  each_writes : (body : List Occurrence) → In (bodies s) body → (ts : List Target) → ((t : Target) → In ts t → Within t body) → EachWrites (class_list s) ts
  each_writes body part [] h = tt
  each_writes body part (t ∷ ts) h = (any_writes body part t.ann (h t (inl refl)), each_writes body part ts (λ u i. h u (inr i)))

  params_write : (body : List Occurrence) → In (bodies s) body → (ps : List Param) → ((t : Target) → In (map of_param ps) t → Within t body) → (ts : Tys) × ParamTypes (class_list s) ps ts
  params_write body part [] h = (no_tys, tt)
  params_write body part (p ∷ ps) h =
      let t = any_writes body part p.ann (h (of_param p) (inl refl)) in
      let ts = params_write body part ps (λ u i. h u (inr i)) in
      (more_tys t.0 ts.0, (t.1, ts.1))

  is_typable : (d : FuncDef) → In (function_list s) d → IsTypable (class_list s) d
  is_typable d i =
      let part = function_body d i in
      let body = in_function d in
      let within = function_within d in
      let params = flat_map in_param d.params in
      let ts = params_write body part d.params (λ t j. within t (in_left (map of_param d.params) (flat_map targets d.body) t j)) in
      let r = any_writes body part d.result (λ o k. in_left (params ++ in_any_ann d.result) (in_block (block d.body)) o (in_right params (in_any_ann d.result) o k)) in
      record {
        type = (fun ts.0 r.0, record { parameters = ts.0; result = r.0; takes = ts.1; gives = r.1; type = refl });
        names = each_writes body part (all_targets d.params d.body) within;
      }

  are_typable : (ds : List FuncDef) → ((d : FuncDef) → In ds d → In (function_list s) d) → AreTypable (class_list s) ds
  are_typable [] h = tt
  are_typable (d ∷ ds) h = (is_typable d (h d (inl refl)), are_typable ds (λ k i. h k (inr i)))

  pub script_has_types : HasTypes s
  script_has_types = record {
    functions = are_typable (function_list s) (λ d i. i);
    main = each_writes (in_main s) main_body (all_targets [] (main_block s))
        (λ t i. block_within (block (main_block s)) t (subst (λ (l : List Target). In l t) (sym (targets_of_block (main_block s))) i));
  }
