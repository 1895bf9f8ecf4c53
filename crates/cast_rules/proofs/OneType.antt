-- In a well-typed script each expression has one type.
use Rattle.std.proofs.Common.{◌≡◌, inl, inr, ℕ, List, [], ◌∷◌, Option, Some, None, slice_get, sym, ◌∙◌, ap, subst, bytes_eq, if◌then◌else◌}
use Rattle.std.specs.Prelude.{Contains}
use Rattle.std.specs.Ordering.{nat_cmp, ordering_reverse}
use Rattle.std.specs.Cmp.Lexicographic.{slice_cmp}
use Rattle.std.specs.declared.cmp.Ordering.TheVariants.{Less}
use Rattle.std.proofs.lemmas.Cmp.{nat_list_cmp_total}
use Rattle.mono_list.proofs.Cases.{split, some_is, none_some}
use Rattle.mono_syntax.specs.declared.cast.CastClass.{CastClass}
use Rattle.mono_syntax.specs.declared.cast.CastFunction.{CastFunction}
use Rattle.mono_syntax.specs.declared.cast.CastScript.{CastScript}
use Rattle.mono_syntax.specs.declared.cast.NamedType.{NamedType}
use Rattle.mono_syntax.specs.declared.leaf.Kind.TheVariants as kind
use Rattle.mono_syntax.specs.declared.leaf.Op.{Op}
use Rattle.mono_syntax.specs.declared.leaf.Op.TheVariants as op
use Rattle.mono_syntax.specs.CastExpr as cast
use Rattle.mono_syntax.specs.CastExpr.{CastExpr}
use Rattle.mono_syntax.specs.Ty.{Ty, dyn, int, bool, str, nil, fun, obj, Fields, no_fields, more_fields}
use Rattle.mono_tree.specs.FieldNames.{names_of}
use Rattle.mono_tree.specs.IsType.{IsType, HaveTypes, IsBefore, AreInOrder}
use Rattle.mono_tree.specs.Sites.{HasSite}
use Rattle.mono_tree.specs.TypedPrograms.{type_of_name, Scope, HasField, FieldUse, CallUse, NewUse, CastUse, OperatorUse, HasStaticType}
use Rattle.script_rules.specs.WellTyped.{IsWellTypedProgram}
use Rattle.cast_rules.proofs.Distinct.{get_Contains}
use Rattle.cast_rules.proofs.Standing.{head_stands, tail_stands}

-- ---- fields

not_itself : (n : List ℕ) → slice_cmp nat_cmp n n ≡ Less → ⊥
not_itself n e =
    let turned : slice_cmp nat_cmp n n ≡ ordering_reverse (slice_cmp nat_cmp n n) = nat_list_cmp_total.antisymm n n in
    let both : Less ≡ ordering_reverse Less = sym e ∙ turned ∙ ap ordering_reverse e in
    cc

not_behind : (n x : List ℕ) (fs : Fields) (u : Ty) → n ≡ x → IsBefore n (names_of fs) → HasField fs x u → ⊥
not_behind n x no_fields u e h f = f
not_behind n x (more_fields k v fs) u e h (inl f) = not_itself n (subst (λ (z : List ℕ). slice_cmp nat_cmp n z ≡ Less) (f.0 ∙ sym e) h.0)
not_behind n x (more_fields k v fs) u e h (inr f) = not_behind n x fs u e h.1 f

field_once : (fs : Fields) (x : List ℕ) (t u : Ty) → AreInOrder (names_of fs) → HasField fs x t → HasField fs x u → t ≡ u
field_once no_fields x t u h f g = absurd f
field_once (more_fields n v fs) x t u h (inl f) (inl g) = sym f.1 ∙ g.1
field_once (more_fields n v fs) x t u h (inl f) (inr g) = absurd (not_behind n x fs u f.0 h.0 g)
field_once (more_fields n v fs) x t u h (inr f) (inl g) = absurd (not_behind n x fs t g.0 h.0 f)
field_once (more_fields n v fs) x t u h (inr f) (inr g) = field_once fs x t u h.1 f g

field_type : (fs : Fields) (x : List ℕ) (t : Ty) → HaveTypes fs → HasField fs x t → IsType t
field_type no_fields x t h f = absurd f
field_type (more_fields n v fs) x t h (inl f) = subst (λ (z : Ty). IsType z) f.1 h.0
field_type (more_fields n v fs) x t h (inr f) = field_type fs x t h.1 f

-- ---- names

named_type : (ns : List NamedType) (x : List ℕ) (t : Ty) → ((n : NamedType) → Contains ns n → IsType n.ty) → type_of_name ns x ≡ Some t → IsType t
named_type [] x t h e = none_some (IsType t) e
named_type (n ∷ ns) x t h e =
    split (bytes_eq n.name x) (λ b. (if b then Some n.ty else type_of_name ns x) ≡ Some t → IsType t)
    (λ _ f. subst (λ (z : Ty). IsType z) (some_is f) (h n (head_stands n ns))) (λ _ f. named_type ns x t (λ m c. h m (tail_stands n ns m c)) f) e

is_dyn : (t : Ty) → t ≡ dyn → IsType t
is_dyn t e = subst (λ (z : Ty). IsType z) (sym e) tt

is_int : (t : Ty) → t ≡ int → IsType t
is_int t e = subst (λ (z : Ty). IsType z) (sym e) tt

is_bool : (t : Ty) → t ≡ bool → IsType t
is_bool t e = subst (λ (z : Ty). IsType z) (sym e) tt

module _ (p : CastScript) where
  -- ---- operators

  operator_type : (o : Op) (k a : Option ℕ) (s u t : Ty) → OperatorUse p o k a s u t → IsType t
  operator_type op.Add k a s u t (inl h) = is_dyn t h.type
  operator_type op.Add k a s u t (inr h) = is_int t h.2
  operator_type op.Sub k a s u t h = is_int t h.2
  operator_type op.Mul k a s u t h = is_int t h.2
  operator_type op.Div k a s u t h = is_int t h.2
  operator_type op.Mod k a s u t h = is_int t h.2
  operator_type op.Lt k a s u t h = is_bool t h.2
  operator_type op.Le k a s u t h = is_bool t h.2
  operator_type op.Gt k a s u t h = is_bool t h.2
  operator_type op.Ge k a s u t h = is_bool t h.2
  operator_type op.Eq k a s u t h = is_bool t h.2
  operator_type op.Ne k a s u t h = is_bool t h.2

  no_site : (k : Option ℕ) → HasSite p k kind.Operator → k ≡ None → ⊥
  no_site k h e = subst (λ (z : Option ℕ). HasSite p z kind.Operator) e h

  operator_once : (o : Op) (k a : Option ℕ) (s u v w t z : Ty) → OperatorUse p o k a s u t → OperatorUse p o k a v w z → t ≡ z
  operator_once op.Add k a s u v w t z (inl h) (inl i) = h.type ∙ sym i.type
  operator_once op.Add k a s u v w t z (inl h) (inr i) = absurd (no_site k h.operator i.0.operator)
  operator_once op.Add k a s u v w t z (inr h) (inl i) = absurd (no_site k i.operator h.0.operator)
  operator_once op.Add k a s u v w t z (inr h) (inr i) = h.2 ∙ sym i.2
  operator_once op.Sub k a s u v w t z h i = h.2 ∙ sym i.2
  operator_once op.Mul k a s u v w t z h i = h.2 ∙ sym i.2
  operator_once op.Div k a s u v w t z h i = h.2 ∙ sym i.2
  operator_once op.Mod k a s u v w t z h i = h.2 ∙ sym i.2
  operator_once op.Lt k a s u v w t z h i = h.2 ∙ sym i.2
  operator_once op.Le k a s u v w t z h i = h.2 ∙ sym i.2
  operator_once op.Gt k a s u v w t z h i = h.2 ∙ sym i.2
  operator_once op.Ge k a s u v w t z h i = h.2 ∙ sym i.2
  operator_once op.Eq k a s u v w t z h i = h.2 ∙ sym i.2
  operator_once op.Ne k a s u v w t z h i = h.2 ∙ sym i.2

  -- ---- reads and calls

  read_type : (m : Option ℕ) (s : Ty) (x : List ℕ) (t : Ty) → IsType s → FieldUse p m s x t → IsType t
  read_type m (obj fs) x t h f = field_type fs x t h.1 f.0
  read_type m dyn x t h f = is_dyn t f.0
  read_type m int x t h f = absurd f
  read_type m bool x t h f = absurd f
  read_type m str x t h f = absurd f
  read_type m nil x t h f = absurd f
  read_type m (fun ps r) x t h f = absurd f

  read_once : (m : Option ℕ) (s : Ty) (x : List ℕ) (t u : Ty) → IsType s → FieldUse p m s x t → FieldUse p m s x u → t ≡ u
  read_once m (obj fs) x t u h f g = field_once fs x t u h.0 f.0 g.0
  read_once m dyn x t u h f g = f.0 ∙ sym g.0
  read_once m int x t u h f g = absurd f
  read_once m bool x t u h f g = absurd f
  read_once m str x t u h f g = absurd f
  read_once m nil x t u h f g = absurd f
  read_once m (fun ps r) x t u h f g = absurd f

  call_type : (k : Option ℕ) (ks : List (Option ℕ)) (s : Ty) (us : List Ty) (t : Ty) → IsType s → CallUse p k ks s us t → IsType t
  call_type k ks (fun ps r) us t h f = subst (λ (z : Ty). IsType z) (sym f.2) h.2
  call_type k ks dyn us t h f = is_dyn t f.2
  call_type k ks int us t h f = absurd f
  call_type k ks bool us t h f = absurd f
  call_type k ks str us t h f = absurd f
  call_type k ks nil us t h f = absurd f
  call_type k ks (obj fs) us t h f = absurd f

  call_once : (k : Option ℕ) (ks : List (Option ℕ)) (s : Ty) (us vs : List Ty) (t u : Ty) → CallUse p k ks s us t → CallUse p k ks s vs u → t ≡ u
  call_once k ks (fun ps r) us vs t u f g = f.2 ∙ sym g.2
  call_once k ks dyn us vs t u f g = f.2 ∙ sym g.2
  call_once k ks int us vs t u f g = absurd f
  call_once k ks bool us vs t u f g = absurd f
  call_once k ks str us vs t u f g = absurd f
  call_once k ks nil us vs t u f g = absurd f
  call_once k ks (obj fs) us vs t u f g = absurd f

  -- ---- expressions

  new_once : (c : ℕ) (us vs : List Ty) (t u : Ty) → NewUse p c us t → NewUse p c vs u → t ≡ u
  new_once c us vs t u h i = h.type ∙ ap (λ (k : CastClass). k.ty) (some_is (sym h.at ∙ i.at)) ∙ sym i.type

  cast_once : (k : ℕ) (s v t u : Ty) → CastUse p k s t → CastUse p k v u → t ≡ u
  cast_once k s v t u h i =
      let same = some_is (sym h.at ∙ i.at) in
      some_is (sym h.target_at ∙ ap (λ z. slice_get p.types z.target.0) same ∙ i.target_at)

  module _ (well : IsWellTypedProgram p) (s : Scope) (names : (n : NamedType) → Contains s.names n → IsType n.ty) (threads : (n : NamedType) → Contains s.threads n → IsType n.ty) where
    -- the type of an expression is a type of the language
    static_type : (e : CastExpr) (t : Ty) → HasStaticType p s e t → IsType t
    static_type (cast.number n) t h = is_int t h.1
    static_type (cast.text x) t h = subst (λ (z : Ty). IsType z) (sym h) tt
    static_type (cast.truth b) t h = is_bool t h
    static_type cast.nil t h = subst (λ (z : Ty). IsType z) (sym h) tt
    static_type (cast.local k x) t h = named_type s.names x t names h.1
    static_type (cast.function g) t h = subst (λ (z : Ty). IsType z) (sym h.2) (well.typed.functions g h.0 h.1).is_type
    static_type (cast.neg a e) t h = is_int t h.2
    static_type (cast.negation e) t h = is_bool t h.1
    static_type (cast.binary o k a x y) t h = operator_type o k a h.0 h.1 t h.4
    static_type (cast.both x y) t h = is_bool t h.2
    static_type (cast.either x y) t h = is_bool t h.2
    static_type (cast.read m e x) t h = read_type m h.0 x t (static_type e h.0 h.1) h.2
    static_type (cast.make c es) t h = subst (λ (z : Ty). IsType z) (sym h.2.type) (well.typed.classes c h.2.class h.2.at).is_type
    static_type (cast.call k e args) t h = call_type k _ h.0 h.1 t (static_type e h.0 h.2) h.4
    static_type (cast.fit k e) t h = well.types t (get_Contains p.types h.2.site.target.0 t h.2.target_at)
    static_type (cast.join k x) t h = named_type s.threads x t threads h.1

    pub type_once : (e : CastExpr) (t u : Ty) → HasStaticType p s e t → HasStaticType p s e u → t ≡ u
    type_once (cast.number n) t u h i = h.1 ∙ sym i.1
    type_once (cast.text x) t u h i = h ∙ sym i
    type_once (cast.truth b) t u h i = h ∙ sym i
    type_once cast.nil t u h i = h ∙ sym i
    type_once (cast.local k x) t u h i = some_is (sym h.1 ∙ i.1)
    type_once (cast.function g) t u h i = h.2 ∙ ap (λ (d : CastFunction). d.ty) (some_is (sym h.1 ∙ i.1)) ∙ sym i.2
    type_once (cast.neg a e) t u h i = h.2 ∙ sym i.2
    type_once (cast.negation e) t u h i = h.1 ∙ sym i.1
    type_once (cast.binary o k a x y) t u h i = operator_once o k a h.0 h.1 i.0 i.1 t u h.4 i.4
    type_once (cast.both x y) t u h i = h.2 ∙ sym i.2
    type_once (cast.either x y) t u h i = h.2 ∙ sym i.2
    type_once (cast.read m e x) t u h i =
        let same = type_once e h.0 i.0 h.1 i.1 in
        read_once m h.0 x t u (static_type e h.0 h.1) h.2 (subst (λ (z : Ty). FieldUse p m z x u) (sym same) i.2)
    type_once (cast.make c es) t u h i = new_once c h.0 i.0 t u h.2 i.2
    type_once (cast.call k e args) t u h i =
        let same = type_once e h.0 i.0 h.2 i.2 in
        call_once k _ h.0 h.1 i.1 t u h.4 (subst (λ (z : Ty). CallUse p k _ z i.1 u) (sym same) i.4)
    type_once (cast.fit k e) t u h i = cast_once k h.0 i.0 t u h.2 i.2
    type_once (cast.join k x) t u h i = some_is (sym h.1 ∙ i.1)

pub one_static_type : (p : CastScript) (s : Scope) (e : CastExpr) (t u : Ty) → IsWellTypedProgram p → ((n : NamedType) → Contains s.names n → IsType n.ty)
    → ((n : NamedType) → Contains s.threads n → IsType n.ty) → HasStaticType p s e t → HasStaticType p s e u → t ≡ u
one_static_type p s e t u well names threads h i = type_once p well s names threads e t u h i
