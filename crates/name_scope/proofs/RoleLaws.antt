-- What the code keeps of a name says where it stands and what it does there.
use Rattle.std.proofs.Common.{◌≡◌, ℕ, ◌⊎◌, inl, inr, Bool, true, false, cond, ◌||◌, List, [], ◌∷◌, ◌++◌, Option, Some, None, refl, sym, ◌∙◌, ap}
use Rattle.std.specs.Prelude.{bytes_eq, is_some}
use Rattle.std.specs.Option.{option_or}
use Rattle.std.proofs.lemmas.Bool.{or_cases}
use Rattle.mono_list.proofs.Cases.{split, split_option, some_is}
use Rattle.mono_tree.proofs.MeetMade.{named, name_read}
use Rattle.mono_syntax.specs.declared.leaf.Place.{Place}
use Rattle.script_rules.specs.declared.occurrence.Occurrence.{Occurrence}
use Rattle.script_rules.specs.declared.occurrence.Role.{Role}
use Rattle.script_rules.specs.declared.occurrence.Role.TheVariants as role
use Rattle.name_scope.specs.declared.roles.Roles.{Roles}
use Rattle.name_scope.specs.computed.NameRoles.{no_roles, alone, together, roles_of}
use Rattle.script_rules.specs.NameRules.{gives_name, is_field, is_start, is_start_end, is_class, is_definition, Stands, FirstDefined}
use Rattle.name_scope.proofs.FaultOrder.{In, in_Contains, Contains_in}

or_true : (a : Bool) → (a || true) ≡ true
or_true true = refl
or_true false = refl

-- a flag that tells of a name whether it does this
module _ (flag : Roles → Bool) (does : Role → Bool) (none : flag no_roles ≡ false) (both : (a b : Roles) → flag (together a b) ≡ (flag a || flag b))
    (one : (r : Role) (p : Place) → flag (alone r p) ≡ does r) where
  in_flag : (os : List Occurrence) (x : List ℕ) (o : Occurrence) → In os o → does o.role ≡ true → o.text ≡ x → flag (roles_of os x) ≡ true
  in_flag [] x o h d t = absurd h
  in_flag (p ∷ os) x o (inl e) d t =
      let r = roles_of os x in
      let a = alone p.role p.place in
      let same : bytes_eq p.text x ≡ true = named p.text x (ap (λ (q : Occurrence). q.text) e ∙ t) in
      ap (λ b. flag (cond b (together a r) r)) same ∙ both a r ∙ ap (λ b. b || flag r) (one p.role p.place ∙ ap (λ (q : Occurrence). does q.role) e ∙ d)
  in_flag (p ∷ os) x o (inr h) d t =
      let r = roles_of os x in
      let a = alone p.role p.place in
      let rest = in_flag os x o h d t in
      split (bytes_eq p.text x) (λ b. flag (cond b (together a r) r) ≡ true)
      (λ y. both a r ∙ ap (λ b. flag a || b) rest ∙ or_true (flag a)) (λ n. rest)

  Found : List Occurrence → List ℕ → Type 0
  Found os x = (o : Occurrence) × In os o × (does o.role ≡ true) × (o.text ≡ x)

  flag_in : (os : List Occurrence) (x : List ℕ) → flag (roles_of os x) ≡ true → (o : Occurrence) × In os o × (does o.role ≡ true) × (o.text ≡ x)
  flag_in [] x e = absurd (let f = sym none ∙ e in cc)
  flag_in (p ∷ os) x e =
      let r = roles_of os x in
      let a = alone p.role p.place in
      let Goal : Type 0 = (o : Occurrence) × ((p ≡ o) ⊎ In os o) × (does o.role ≡ true) × (o.text ≡ x) in
      let lift : flag r ≡ true → Goal = λ h. let f = flag_in os x h in (f.0, inr f.1, f.2, f.3) in
      split (bytes_eq p.text x) (λ b. flag (cond b (together a r) r) ≡ true → Goal)
      (λ y h. elim (or_cases (flag a) (flag r) (sym (both a r) ∙ h)) [
        | inl i ↦ (p, inl refl, sym (one p.role p.place) ∙ i, name_read p.text x y)
        | inr j ↦ lift j
      ])
      (λ n h. lift h)
      e

  pub stands_flag : (os : List Occurrence) (x : List ℕ) → Stands os does x → flag (roles_of os x) ≡ true
  stands_flag os x s = in_flag os x s.occurrence (Contains_in os s.occurrence s.member) s.role s.text

  pub flag_stands : (os : List Occurrence) (x : List ℕ) → flag (roles_of os x) ≡ true → Stands os does x
  flag_stands os x e = let f = flag_in os x e in record { occurrence = f.0; member = in_Contains os f.0 f.1; role = f.2; text = f.3 }

  pub flag_none : (os : List Occurrence) (x : List ℕ) → flag (roles_of os x) ≡ false → Stands os does x → ⊥
  flag_none os x e s = let t = stands_flag os x s in absurd (let f : true ≡ false = sym t ∙ e in cc)

  pub none_flag : (os : List Occurrence) (x : List ℕ) → (Stands os does x → ⊥) → flag (roles_of os x) ≡ false
  none_flag os x h = split (flag (roles_of os x)) (λ b. flag (roles_of os x) ≡ b → b ≡ false) (λ t e. absurd (h (flag_stands os x e))) (λ f e. refl) refl

-- ---- the flags

field_one : (r : Role) (p : Place) → (alone r p).field ≡ is_field r
field_one role.Field p = refl
field_one _ p = refl

name_one : (r : Role) (p : Place) → (alone r p).name ≡ gives_name r
name_one role.Field p = refl
name_one _ p = refl

thread_one : (r : Role) (p : Place) → (alone r p).thread ≡ is_start r
thread_one role.Field p = refl
thread_one _ p = refl

ended_one : (r : Role) (p : Place) → (alone r p).ended ≡ is_start_end r
ended_one role.Field p = refl
ended_one _ p = refl

class_one : (r : Role) (p : Place) → (alone r p).class ≡ is_class r
class_one role.Field p = refl
class_one _ p = refl

defined_one : (r : Role) (p : Place) → is_some (alone r p).definition ≡ is_definition r
defined_one role.Field p = refl
defined_one _ p = refl

defined_both : (a b : Option Place) → is_some (option_or a b) ≡ (is_some a || is_some b)
defined_both None b = refl
defined_both (Some p) b = refl

abbrev defined : Roles → Bool
defined r = is_some r.definition

pub stands_field : (os : List Occurrence) (x : List ℕ) → Stands os is_field x → (roles_of os x).field ≡ true
stands_field = stands_flag (λ r. r.field) is_field refl (λ a b. refl) field_one

pub field_stands : (os : List Occurrence) (x : List ℕ) → (roles_of os x).field ≡ true → Stands os is_field x
field_stands = flag_stands (λ r. r.field) is_field refl (λ a b. refl) field_one

pub stands_name : (os : List Occurrence) (x : List ℕ) → Stands os gives_name x → (roles_of os x).name ≡ true
stands_name = stands_flag (λ r. r.name) gives_name refl (λ a b. refl) name_one

pub name_stands : (os : List Occurrence) (x : List ℕ) → (roles_of os x).name ≡ true → Stands os gives_name x
name_stands = flag_stands (λ r. r.name) gives_name refl (λ a b. refl) name_one

pub name_none : (os : List Occurrence) (x : List ℕ) → (roles_of os x).name ≡ false → Stands os gives_name x → ⊥
name_none = flag_none (λ r. r.name) gives_name refl (λ a b. refl) name_one

pub none_name : (os : List Occurrence) (x : List ℕ) → (Stands os gives_name x → ⊥) → (roles_of os x).name ≡ false
none_name = none_flag (λ r. r.name) gives_name refl (λ a b. refl) name_one

pub stands_thread : (os : List Occurrence) (x : List ℕ) → Stands os is_start x → (roles_of os x).thread ≡ true
stands_thread = stands_flag (λ r. r.thread) is_start refl (λ a b. refl) thread_one

pub thread_stands : (os : List Occurrence) (x : List ℕ) → (roles_of os x).thread ≡ true → Stands os is_start x
thread_stands = flag_stands (λ r. r.thread) is_start refl (λ a b. refl) thread_one

pub ended_none : (os : List Occurrence) (x : List ℕ) → (roles_of os x).ended ≡ false → Stands os is_start_end x → ⊥
ended_none = flag_none (λ r. r.ended) is_start_end refl (λ a b. refl) ended_one

pub none_ended : (os : List Occurrence) (x : List ℕ) → (Stands os is_start_end x → ⊥) → (roles_of os x).ended ≡ false
none_ended = none_flag (λ r. r.ended) is_start_end refl (λ a b. refl) ended_one

pub stands_class : (os : List Occurrence) (x : List ℕ) → Stands os is_class x → (roles_of os x).class ≡ true
stands_class = stands_flag (λ r. r.class) is_class refl (λ a b. refl) class_one

pub class_stands : (os : List Occurrence) (x : List ℕ) → (roles_of os x).class ≡ true → Stands os is_class x
class_stands = flag_stands (λ r. r.class) is_class refl (λ a b. refl) class_one

pub class_none : (os : List Occurrence) (x : List ℕ) → (roles_of os x).class ≡ false → Stands os is_class x → ⊥
class_none = flag_none (λ r. r.class) is_class refl (λ a b. refl) class_one

pub none_class : (os : List Occurrence) (x : List ℕ) → (Stands os is_class x → ⊥) → (roles_of os x).class ≡ false
none_class = none_flag (λ r. r.class) is_class refl (λ a b. refl) class_one

pub stands_defined : (os : List Occurrence) (x : List ℕ) → Stands os is_definition x → is_some (roles_of os x).definition ≡ true
stands_defined = stands_flag defined is_definition refl (λ a b. defined_both a.definition b.definition) defined_one

pub defined_stands : (os : List Occurrence) (x : List ℕ) → is_some (roles_of os x).definition ≡ true → Stands os is_definition x
defined_stands = flag_stands defined is_definition refl (λ a b. defined_both a.definition b.definition) defined_one

pub defined_none : (os : List Occurrence) (x : List ℕ) → is_some (roles_of os x).definition ≡ false → Stands os is_definition x → ⊥
defined_none = flag_none defined is_definition refl (λ a b. defined_both a.definition b.definition) defined_one

pub none_defined : (os : List Occurrence) (x : List ℕ) → (Stands os is_definition x → ⊥) → is_some (roles_of os x).definition ≡ false
none_defined = none_flag defined is_definition refl (λ a b. defined_both a.definition b.definition) defined_one

-- ---- the first definition

defines : (r : Role) (p : Place) → is_definition r ≡ true → (alone r p).definition ≡ Some p
defines role.Class p e = refl
defines role.Function p e = refl
defines _ p e = absurd cc

defines_back : (r : Role) (p z : Place) → (alone r p).definition ≡ Some z → (is_definition r ≡ true) × (z ≡ p)
defines_back role.Class p z e = (refl, sym (some_is e))
defines_back role.Function p z e = (refl, sym (some_is e))
defines_back _ p z e = absurd cc

not_some : (o : Option Place) → is_some o ≡ false → o ≡ None
not_some None h = refl
not_some (Some p) h = absurd cc

passed_over : (before rest : List Occurrence) (x : List ℕ) → (roles_of before x).definition ≡ None → (roles_of (before ++ rest) x).definition ≡ (roles_of rest x).definition
passed_over [] rest x = λ e. refl
passed_over (q ∷ before) rest x =
    let a = alone q.role q.place in
    let r = roles_of before x in
    let s = roles_of (before ++ rest) x in
    let Goal : Bool → Type 0 = λ b. (cond b (together a r) r).definition ≡ None → (cond b (together a s) s).definition ≡ (roles_of rest x).definition in
    split (bytes_eq q.text x) Goal
    (λ y. split_option a.definition (λ o. option_or o r.definition ≡ None → option_or o s.definition ≡ (roles_of rest x).definition)
    (λ n h. passed_over before rest x h) (λ p n h. absurd cc))
    (λ n h. passed_over before rest x h)

pub first_defined : (os : List Occurrence) (x : List ℕ) (p : Place) → FirstDefined os x p → (roles_of os x).definition ≡ Some p
first_defined os x p f =
    let d = f.definition in
    let none : (roles_of f.before x).definition ≡ None = not_some _ (none_defined f.before x f.first) in
    let r = roles_of f.stands.after x in
    let a = alone d.role d.place in
    ap (λ l. (roles_of l x).definition) f.stands.whole ∙ passed_over f.before (d ∷ f.stands.after) x none
    ∙ ap (λ b. (cond b (together a r) r).definition) (named d.text x f.text) ∙ ap (λ o. option_or o r.definition) (defines d.role d.place f.role) ∙ ap (λ z. Some z) (sym f.place)

behind_one : (q : Occurrence) (os : List Occurrence) (x : List ℕ) (p : Place) → (is_definition q.role ≡ true → q.text ≡ x → ⊥) → FirstDefined os x p → FirstDefined (q ∷ os) x p
behind_one q os x p apart f = record {
  definition = f.definition;
  before = q ∷ f.before;
  stands = record { after = f.stands.after; whole = ap (λ l. q ∷ l) f.stands.whole };
  role = f.role;
  text = f.text;
  first = λ s. elim (Contains_in (q ∷ f.before) s.occurrence s.member) [
    | inl e ↦ apart (ap (λ (o : Occurrence). is_definition o.role) e ∙ s.role) (ap (λ (o : Occurrence). o.text) e ∙ s.text)
    | inr i ↦ f.first (record { occurrence = s.occurrence; member = in_Contains f.before s.occurrence i; role = s.role; text = s.text })
  ];
  place = f.place;
}

pub defined_first : (os : List Occurrence) (x : List ℕ) (p : Place) → (roles_of os x).definition ≡ Some p → FirstDefined os x p
defined_first [] x p = λ e. absurd cc
defined_first (q ∷ os) x p =
    let a = alone q.role q.place in
    let r = roles_of os x in
    split (bytes_eq q.text x) (λ b. bytes_eq q.text x ≡ b → (cond b (together a r) r).definition ≡ Some p → FirstDefined (q ∷ os) x p)
    (λ y _. split_option a.definition (λ o. a.definition ≡ o → option_or o r.definition ≡ Some p → FirstDefined (q ∷ os) x p)
    (λ n d h. behind_one q os x p (λ i t. absurd (let s = sym (defines q.role q.place i) ∙ d in cc)) (defined_first os x p h))
    (λ z n d h. let b = defines_back q.role q.place z d in
    record {
      definition = q;
      before = [];
      stands = record { after = os; whole = refl };
      role = b.0;
      text = name_read q.text x y;
      first = λ s. Contains_in [] s.occurrence s.member;
      place = sym (some_is h) ∙ b.1;
    })
    refl)
    (λ n same h. behind_one q os x p (λ i t. absurd (let s = sym (named q.text x t) ∙ same in cc)) (defined_first os x p h))
    refl
