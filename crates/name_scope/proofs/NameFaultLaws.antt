-- The faults that the code meets are exactly the faults of names.
use Rattle.std.proofs.Common.{◌≡◌, ℕ, inl, inr, Bool, true, false, ◌||◌, not, List, [], ◌∷◌, ◌++◌, Option, Some, None, refl, sym, ◌∙◌, ap, subst, append_assoc, append-nil}
use Rattle.std.specs.Prelude.{flat_map, is_some, MatchOption}
use Rattle.mono_syntax.specs.declared.leaf.Place.{Place}
use Rattle.mono_syntax.specs.declared.refusal.Reason.{Reason}
use Rattle.mono_syntax.specs.declared.refusal.Reason.TheVariants.{UnknownName, Twice, Misused}
use Rattle.mono_syntax.specs.declared.refusal.Refusal.{Refusal}
use Rattle.mono_syntax.specs.declared.tree.Item.{Item}
use Rattle.mono_syntax.specs.declared.tree.Script.{Script}
use Rattle.mono_syntax.specs.StmtView.{block}
use Rattle.script_rules.specs.Definitions.{statements_of}
use Rattle.script_rules.specs.FirstFault.{IsFirst, IsFaultless}
use Rattle.script_rules.specs.declared.occurrence.Occurrence.{Occurrence}
use Rattle.script_rules.specs.declared.occurrence.Role.{Role}
use Rattle.script_rules.specs.declared.occurrence.Role.TheVariants as role
use Rattle.name_scope.specs.declared.roles.Roles.{Roles}
use Rattle.script_rules.specs.Occurrences.{in_block, in_main, defined_by, body_of, definitions, bodies}
use Rattle.script_rules.specs.NameRules.{is_use, is_value_use, gives_name, is_first_name, is_field, is_definition, StandsBehind, later}
use Rattle.name_scope.specs.computed.NameRoles.{roles_of, is_unknown, is_twice, is_misused, defined_at}
use Rattle.script_rules.specs.NameFaults.{BodyFault, unknown_name, unknown_type, defined_twice, field_twice, given_again, assigned_thread, defined_too, thread_read, joined_early, class_read, NameFault}
use Rattle.name_scope.specs.computed.FoundFaults.{fault_if, fault_of_both, faults_at, faults_behind, body_faults, name_faults, first_of_all}
use Rattle.std.proofs.lemmas.Bool.{or_cases, or_right}
use Rattle.name_scope.proofs.RoleLaws.{stands_field, field_stands, stands_name, name_stands, name_none, none_name, stands_thread, thread_stands, ended_none, none_ended, stands_class, class_stands, class_none, none_class, stands_defined, defined_stands, defined_none, none_defined, first_defined, defined_first}
use Rattle.name_scope.proofs.FaultOrder.{In, in_append, in_left, in_right, in_flat_map, flat_map_in, in_Contains, Contains_in, first_is}

if_holds : (b : Bool) (p : Place) (q : Reason) (r : Refusal) → In (fault_if b p q) r → (b ≡ true) × (record { place = p; reason = q } ≡ r)
if_holds true p q r (inl e) = (refl, e)
if_holds true p q r (inr h) = absurd h
if_holds false p q r h = absurd h

holds_if : (b : Bool) (p : Place) (q : Reason) → b ≡ true → In (fault_if b p q) (record { place = p; reason = q })
holds_if true p q e = inl refl
holds_if false p q e = absurd cc

both_hold : (p : Place) (o : Option Place) (r : Refusal) → In (fault_of_both p o) r → (q : Place) × (o ≡ Some q) × (record { place = later p q; reason = Twice } ≡ r)
both_hold p None r h = absurd h
both_hold p (Some q) r (inl e) = (q, refl, e)
both_hold p (Some q) r (inr h) = absurd h

hold_both : (p q : Place) (o : Option Place) → o ≡ Some q → In (fault_of_both p o) (record { place = later p q; reason = Twice })
hold_both p q o e = subst (λ (w : Option Place). In (fault_of_both p w) (record { place = later p q; reason = Twice })) (sym e) (inl refl)

-- ---- tests of what the code keeps

not_true : (a : Bool) → not a ≡ true → a ≡ false
not_true true e = absurd cc
not_true false e = refl

neither : (a b : Bool) → not (a || b) ≡ true → (a ≡ false) × (b ≡ false)
neither true b e = absurd cc
neither false b e = (refl, not_true b e)

use_unknown : (r : Role) (b s : Roles) → is_use r ≡ true → b.name ≡ false → is_some s.definition ≡ false → is_unknown r b s ≡ true
use_unknown role.Read b s u f g = λ i. not (f i || g i)
use_unknown role.Called b s u f g = λ i. not (f i || g i)
use_unknown role.Joined b s u f g = λ i. not (f i || g i)
use_unknown _ b s u f g = absurd cc

definition_twice : (r : Role) (b : Roles) → is_definition r ≡ true → is_some b.definition ≡ true → is_twice r b ≡ true
definition_twice role.Class b u h = h
definition_twice role.Function b u h = h
definition_twice _ b u h = absurd cc

field_again : (r : Role) (b : Roles) → is_field r ≡ true → b.field ≡ true → is_twice r b ≡ true
field_again role.Field b u h = h
field_again _ b u h = absurd cc

name_again : (r : Role) (b : Roles) → is_first_name r ≡ true → b.name ≡ true → is_twice r b ≡ true
name_again role.Parameter b u h = h
name_again role.Annotated b u h = h
name_again role.Started b u h = h
name_again _ b u h = absurd cc

name_defined : (r : Role) (s : Roles) (q : Place) → gives_name r ≡ true → s.definition ≡ Some q → defined_at r s ≡ Some q
name_defined role.Parameter s q u h = h
name_defined role.Assigned s q u h = h
name_defined role.Annotated s q u h = h
name_defined role.Started s q u h = h
name_defined _ s q u h = absurd cc

defined_name : (r : Role) (s : Roles) (q : Place) → defined_at r s ≡ Some q → (gives_name r ≡ true) × (s.definition ≡ Some q)
defined_name role.Parameter s q h = (refl, h)
defined_name role.Assigned s q h = (refl, h)
defined_name role.Annotated s q h = (refl, h)
defined_name role.Started s q h = (refl, h)
defined_name _ s q h = absurd cc

value_misused : (r : Role) (b u s : Roles) → is_value_use r ≡ true → b.thread ≡ true → is_misused r b u s ≡ true
value_misused role.Read b u s v h = ap (λ t. t || s.class) h
value_misused role.Called b u s v h = h
value_misused _ b u s v h = absurd cc

module _ (script body : List Occurrence) where
  -- the faults at an occurrence behind these
  abbrev here : List Occurrence → Occurrence → List Refusal
  here before o = faults_at o.role o.place (roles_of body o.text) (roles_of before o.text) (roles_of script o.text)

  abbrev IsFault : Refusal → Type 0
  IsFault r = BodyFault script body r.place r.reason

  -- a use of a name that nothing gives
  used : (before : List Occurrence) (o : Occurrence) → StandsBehind body before o → is_use o.role ≡ true
      → not ((roles_of body o.text).name || is_some (roles_of script o.text).definition) ≡ true → BodyFault script body o.place UnknownName
  used before o st u t =
      let n = neither _ _ t in
      unknown_name before o st u (name_none body o.text n.0) (defined_none script o.text n.1) refl

  unknown_by : (before : List Occurrence) (o : Occurrence) → StandsBehind body before o → (r : Role) → o.role ≡ r
      → is_unknown r (roles_of body o.text) (roles_of script o.text) ≡ true → BodyFault script body o.place UnknownName
  unknown_by before o st role.Read e t = used before o st (ap is_use e) t
  unknown_by before o st role.Called e t = used before o st (ap is_use e) t
  unknown_by before o st role.Joined e t = used before o st (ap is_use e) t
  unknown_by before o st role.Typed e t = unknown_type before o st e (class_none script o.text (not_true _ t)) refl
  unknown_by before o st _ e t = absurd cc

  twice_by : (before : List Occurrence) (o : Occurrence) → StandsBehind body before o → (r : Role) → o.role ≡ r
      → is_twice r (roles_of before o.text) ≡ true → BodyFault script body o.place Twice
  twice_by before o st role.Class e t = defined_twice before o st (ap is_definition e) (defined_stands before o.text t) refl
  twice_by before o st role.Function e t = defined_twice before o st (ap is_definition e) (defined_stands before o.text t) refl
  twice_by before o st role.Field e t = field_twice before o st (ap is_field e) (field_stands before o.text t) refl
  twice_by before o st role.Parameter e t = given_again before o st (ap is_first_name e) (name_stands before o.text t) refl
  twice_by before o st role.Assigned e t = assigned_thread before o st e (thread_stands before o.text t) refl
  twice_by before o st role.Annotated e t = given_again before o st (ap is_first_name e) (name_stands before o.text t) refl
  twice_by before o st role.Started e t = given_again before o st (ap is_first_name e) (name_stands before o.text t) refl
  twice_by before o st _ e t = absurd cc

  misused_by : (before : List Occurrence) (o : Occurrence) → StandsBehind body before o → (r : Role) → o.role ≡ r
      → is_misused r (roles_of body o.text) (roles_of before o.text) (roles_of script o.text) ≡ true → BodyFault script body o.place Misused
  misused_by before o st role.Read e t =
      elim (or_cases (roles_of body o.text).thread (roles_of script o.text).class t) [
        | inl h ↦ thread_read before o st (ap is_value_use e) (thread_stands body o.text h) refl
        | inr h ↦ class_read before o st e (class_stands script o.text h) refl
      ]
  misused_by before o st role.Called e t = thread_read before o st (ap is_value_use e) (thread_stands body o.text t) refl
  misused_by before o st role.Joined e t = joined_early before o st e (ended_none before o.text (not_true _ t)) refl
  misused_by before o st _ e t = absurd cc

  pub unknown_is : (before : List Occurrence) (o : Occurrence) → StandsBehind body before o → is_unknown o.role (roles_of body o.text) (roles_of script o.text) ≡ true → BodyFault script body o.place UnknownName
  unknown_is before o st t = unknown_by before o st o.role refl t

  pub twice_is : (before : List Occurrence) (o : Occurrence) → StandsBehind body before o → is_twice o.role (roles_of before o.text) ≡ true → BodyFault script body o.place Twice
  twice_is before o st t = twice_by before o st o.role refl t

  misused_is : (before : List Occurrence) (o : Occurrence) → StandsBehind body before o → is_misused o.role (roles_of body o.text) (roles_of before o.text) (roles_of script o.text) ≡ true → BodyFault script body o.place Misused
  misused_is before o st t = misused_by before o st o.role refl t

  both_is : (before : List Occurrence) (o : Occurrence) (q : Place) → StandsBehind body before o → defined_at o.role (roles_of script o.text) ≡ Some q → BodyFault script body (later o.place q) Twice
  both_is before o q st t =
      let d = defined_name o.role (roles_of script o.text) q t in
      defined_too before o st d.0 (defined_first script o.text q d.1) refl

  here_sound : (before : List Occurrence) (o : Occurrence) (r : Refusal) → StandsBehind body before o → In (here before o) r → IsFault r
  here_sound before o r st h =
      let b = roles_of body o.text in
      let u = roles_of before o.text in
      let s = roles_of script o.text in
      let one = fault_if (is_unknown o.role b s) o.place UnknownName in
      let two = fault_if (is_twice o.role u) o.place Twice in
      let three = fault_of_both o.place (defined_at o.role s) in
      let four = fault_if (is_misused o.role b u s) o.place Misused in
      elim (in_append (one ++ two ++ three) four r h) [
        | inl a ↦ elim (in_append (one ++ two) three r a) [
          | inl d ↦ elim (in_append one two r d) [
            | inl e ↦ (let f = if_holds (is_unknown o.role b s) o.place UnknownName r e in subst IsFault f.1 (unknown_is before o st f.0))
            | inr e ↦ (let f = if_holds (is_twice o.role u) o.place Twice r e in subst IsFault f.1 (twice_is before o st f.0))
          ]
          | inr d ↦ (let f = both_hold o.place (defined_at o.role s) r d in subst IsFault f.2 (both_is before o f.0 st f.1))
        ]
        | inr a ↦ (let f = if_holds (is_misused o.role b u s) o.place Misused r a in subst IsFault f.1 (misused_is before o st f.0))
      ]

  behind_sound : (before rest : List Occurrence) (r : Refusal) → body ≡ before ++ rest → In (faults_behind (roles_of script) (roles_of body) before rest) r → IsFault r
  behind_sound before [] r w h = absurd h
  behind_sound before (o ∷ rest) r w h =
      elim (in_append (here before o) (faults_behind (roles_of script) (roles_of body) (before ++ o ∷ []) rest) r h) [
        | inl a ↦ here_sound before o r (record { after = rest; whole = w }) a
        | inr b ↦ behind_sound (before ++ o ∷ []) rest r (w ∙ sym (append_assoc before (o ∷ []) rest)) b
      ]

  behind_whole : (start before : List Occurrence) (o : Occurrence) (after : List Occurrence) (r : Refusal) → In (here (start ++ before) o) r
      → In (faults_behind (roles_of script) (roles_of body) start (before ++ o ∷ after)) r
  behind_whole start [] o after r h =
      in_left (here start o) _ r (subst (λ (l : List Occurrence). In (here l o) r) (append-nil start) h)
  behind_whole start (p ∷ before) o after r h =
      in_right (here start p) _ r (behind_whole (start ++ p ∷ []) before o after r (subst (λ (l : List Occurrence). In (here l o) r) (sym (append_assoc start (p ∷ []) before)) h))

  stands_whole : (before : List Occurrence) (o : Occurrence) (r : Refusal) → StandsBehind body before o → In (here before o) r → In (body_faults (roles_of script) body) r
  stands_whole before o r st h =
      let whole = behind_whole [] before o st.after r h in
      subst (λ (l : List Occurrence). In (faults_behind (roles_of script) (roles_of body) [] l) r) (sym st.whole) whole

  pub body_sound : (r : Refusal) → In (body_faults (roles_of script) body) r → BodyFault script body r.place r.reason
  body_sound r h = behind_sound [] body r refl h

  at_place : (p z : Place) (q : Reason) → p ≡ z → In (body_faults (roles_of script) body) (record { place = z; reason = q }) → In (body_faults (roles_of script) body) (record { place = p; reason = q })
  at_place p z q e h = subst (λ (w : Place). In (body_faults (roles_of script) body) (record { place = w; reason = q })) (sym e) h

  put_unknown : (p : Place) (before : List Occurrence) (o : Occurrence) → StandsBehind body before o → is_unknown o.role (roles_of body o.text) (roles_of script o.text) ≡ true → p ≡ o.place
      → In (body_faults (roles_of script) body) (record { place = p; reason = UnknownName })
  put_unknown p before o st t e =
      at_place p o.place UnknownName e (stands_whole before o _ st (in_left _ _ _ (in_left _ _ _ (in_left _ _ _ (holds_if _ o.place UnknownName t)))))

  put_twice : (p : Place) (before : List Occurrence) (o : Occurrence) → StandsBehind body before o → is_twice o.role (roles_of before o.text) ≡ true → p ≡ o.place
      → In (body_faults (roles_of script) body) (record { place = p; reason = Twice })
  put_twice p before o st t e =
      let one = fault_if (is_unknown o.role (roles_of body o.text) (roles_of script o.text)) o.place UnknownName in
      at_place p o.place Twice e (stands_whole before o _ st (in_left _ _ _ (in_left _ _ _ (in_right one _ _ (holds_if _ o.place Twice t)))))

  put_both : (p q : Place) (before : List Occurrence) (o : Occurrence) → StandsBehind body before o → defined_at o.role (roles_of script o.text) ≡ Some q → p ≡ later o.place q
      → In (body_faults (roles_of script) body) (record { place = p; reason = Twice })
  put_both p q before o st t e =
      let one = fault_if (is_unknown o.role (roles_of body o.text) (roles_of script o.text)) o.place UnknownName in
      let two = fault_if (is_twice o.role (roles_of before o.text)) o.place Twice in
      at_place p (later o.place q) Twice e (stands_whole before o _ st (in_left _ _ _ (in_right (one ++ two) _ _ (hold_both o.place q _ t))))

  put_misused : (p : Place) (before : List Occurrence) (o : Occurrence) → StandsBehind body before o → is_misused o.role (roles_of body o.text) (roles_of before o.text) (roles_of script o.text) ≡ true → p ≡ o.place
      → In (body_faults (roles_of script) body) (record { place = p; reason = Misused })
  put_misused p before o st t e =
      let one = fault_if (is_unknown o.role (roles_of body o.text) (roles_of script o.text)) o.place UnknownName in
      let two = fault_if (is_twice o.role (roles_of before o.text)) o.place Twice in
      let three = fault_of_both o.place (defined_at o.role (roles_of script o.text)) in
      at_place p o.place Misused e (stands_whole before o _ st (in_right (one ++ two ++ three) _ _ (holds_if _ o.place Misused t)))

  pub body_whole : (p : Place) (q : Reason) → BodyFault script body p q → In (body_faults (roles_of script) body) (record { place = p; reason = q })
  body_whole p q (unknown_name before o st u n d e) =
      put_unknown p before o st (use_unknown o.role (roles_of body o.text) (roles_of script o.text) u (none_name body o.text n) (none_defined script o.text d)) e
  body_whole p q (unknown_type before o st t n e) =
      put_unknown p before o st (ap (λ r. is_unknown r (roles_of body o.text) (roles_of script o.text)) t ∙ ap not (none_class script o.text n)) e
  body_whole p q (defined_twice before o st u h e) = put_twice p before o st (definition_twice o.role (roles_of before o.text) u (stands_defined before o.text h)) e
  body_whole p q (field_twice before o st u h e) = put_twice p before o st (field_again o.role (roles_of before o.text) u (stands_field before o.text h)) e
  body_whole p q (given_again before o st u h e) = put_twice p before o st (name_again o.role (roles_of before o.text) u (stands_name before o.text h)) e
  body_whole p q (assigned_thread before o st t h e) = put_twice p before o st (ap (λ r. is_twice r (roles_of before o.text)) t ∙ stands_thread before o.text h) e
  body_whole p q (defined_too {q = d} before o st u f e) =
      put_both p d before o st (name_defined o.role (roles_of script o.text) d u (first_defined script o.text d f)) e
  body_whole p q (thread_read before o st u h e) =
      put_misused p before o st (value_misused o.role (roles_of body o.text) (roles_of before o.text) (roles_of script o.text) u (stands_thread body o.text h)) e
  body_whole p q (joined_early before o st t n e) =
      put_misused p before o st (ap (λ r. is_misused r (roles_of body o.text) (roles_of before o.text) (roles_of script o.text)) t ∙ ap not (none_ended before o.text n)) e
  body_whole p q (class_read before o st t h e) =
      put_misused p before o st (ap (λ r. is_misused r (roles_of body o.text) (roles_of before o.text) (roles_of script o.text)) t ∙ or_right _ _ (stands_class script o.text h)) e

pub name_sound : (s : Script) (r : Refusal) → In (name_faults s) r → NameFault s r.place r.reason
name_sound s r h =
    let c = in_flat_map (body_faults (roles_of (definitions s))) (bodies s) r h in
    record { body = c.0; part = in_Contains (bodies s) c.0 c.1; fault = body_sound (definitions s) c.0 r c.2 }

pub name_whole : (s : Script) (r : Refusal) → NameFault s r.place r.reason → In (name_faults s) r
name_whole s r f =
    flat_map_in (body_faults (roles_of (definitions s))) (bodies s) f.body r (Contains_in (bodies s) f.body f.part) (body_whole (definitions s) f.body r.place r.reason f.fault)

-- what the code finds, from what it looks at
pub name_answer : (s : Script) (found : Option Refusal) (known : List ℕ → Roles) (defined : List Occurrence) (items : List Item)
    → items ≡ s.items → defined ≡ flat_map defined_by items → ((x : List ℕ) → known x ≡ roles_of defined x)
    → found ≡ first_of_all None (flat_map (body_faults known) (defined ∷ flat_map body_of items ++ in_block (block (statements_of items)) ∷ []))
    → MatchOption found (IsFaultless (NameFault s)) (IsFirst (NameFault s))
name_answer s found known defined items ei ed ek e =
    let d : defined ≡ definitions s = ed ∙ ap (flat_map defined_by) ei in
    let same : found ≡ first_of_all None (name_faults s) =
    e ∙ (λ j. first_of_all None (flat_map (body_faults (λ x. ek x j)) (defined ∷ flat_map body_of (ei j) ++ in_block (block (statements_of (ei j))) ∷ [])))
    ∙ ap (λ l. first_of_all None (flat_map (body_faults (roles_of l)) (l ∷ flat_map body_of s.items ++ in_main s ∷ []))) d
    in first_is (NameFault s) (name_faults s) (name_sound s) (name_whole s) found same
