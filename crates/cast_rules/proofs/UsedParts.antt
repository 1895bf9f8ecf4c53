-- Parts that are used at their types, and what a construct makes of them.
use Rattle.std.proofs.Common.{◌≡◌, inl, inr, ℕ, List, [], ◌∷◌, Bool, true, false, Option, Some, slice_get, refl, sym, ◌∙◌, subst, bytes_eq, if◌then◌else◌}
use Rattle.mono_list.proofs.Cases.{split, some_is, none_some}
use Rattle.mono_syntax.specs.declared.cast.CastScript.{CastScript}
use Rattle.mono_syntax.specs.declared.leaf.Kind.{Kind}
use Rattle.mono_syntax.specs.declared.leaf.Kind.TheVariants as kind
use Rattle.mono_syntax.specs.declared.leaf.Op.{Op}
use Rattle.mono_syntax.specs.declared.leaf.Op.TheVariants as op
use Rattle.mono_syntax.specs.declared.leaf.Place.{Place}
use Rattle.mono_syntax.specs.CastExpr as cast
use Rattle.mono_syntax.specs.CastExpr.{CastExpr, CastExprs, Args}
use Rattle.mono_syntax.specs.CastExprView.{cast_exprs}
use Rattle.mono_syntax.specs.Expr.{Expr}
use Rattle.mono_syntax.specs.Ty.{Ty, dyn, int, bool, str, nil, fun, obj, Tys, no_tys, more_tys, Fields, no_fields, more_fields}
use Rattle.mono_syntax.specs.TyView.{tys_list}
use Rattle.mono_tree.specs.CastScripts.{sites_of}
use Rattle.mono_tree.specs.FieldNames.{names_of}
use Rattle.mono_tree.specs.Precise.{Precise, below_dyn}
use Rattle.mono_tree.specs.Static.{is_static}
use Rattle.mono_tree.specs.TypedPrograms.{Scope, HasStaticType, HaveStaticTypes, HaveArgumentTypes, IsUsedAt, IsOfType, CastUse, HasField, FieldUse, FieldArguments, ArgumentUses, DynArguments, CallUse, SiteWhere, StandsUnlessStatic, OnIntegers, Arithmetic, Comparison, Equality, DynSum, OperatorUse}
use Rattle.mono_tree.proofs.MeetMade.{name_read}
use Rattle.mono_tree.proofs.PreciseTest.{precise-Decides}
use Rattle.mono_tree.proofs.TypeLaws.{precise_refl}
use Rattle.script_rules.specs.SourcePlaces.{place_of}
use Rattle.static_types.specs.declared.rule.Rule.{Rule}
use Rattle.static_types.specs.Members.{field_type, member_type, field_types, all_dyn}
use Rattle.static_types.specs.Operators.{Sort, arithmetic, comparison, equality, sort_of, is_dyn_sum, operand_types, operator_type}
use Rattle.static_types.specs.Rules.{CalleeRule}
use Rattle.cast_rules.specs.declared.site.TypedSite.{TypedSite}
use Rattle.cast_rules.specs.Elaborates.{Uses, as_it_is, with_cast, UsesEach, uses_none, uses_more}
use Rattle.cast_rules.specs.Nodes.{arguments}
use Rattle.cast_rules.specs.OwnSites.{operator_sites, call_sites}
use Rattle.cast_rules.specs.Sites.{site_from, plain_site, site_unless, tested_site, tested_sites, site_at_dyn, AreSites}
use Rattle.cast_rules.proofs.Extending.{Extends, further, uses_extend}
use Rattle.cast_rules.proofs.Standing.{cons_head, cons_tail}
use Rattle.cast_rules.proofs.SiteNumbers.{stands, IsNumber, AreNumbers, found_site, has_site, has_site_to}

-- ---- fields

-- the type that a field is found to have is its type
pub found_field : (fs : Fields) (x : List ℕ) (t : Ty) → field_type fs x ≡ Some t → HasField fs x t
found_field no_fields x t e = none_some (HasField no_fields x t) e
found_field (more_fields n u fs) x t e =
    split (bytes_eq n x) (λ b. (if b then Some u else field_type fs x) ≡ Some t → HasField (more_fields n u fs) x t)
    (λ is f. inl (name_read n x is, some_is f)) (λ _ f. inr (found_field fs x t f)) e

-- ---- operators of each sort

arithmetic_use : (p : CastScript) (o : Op) (k a : Option ℕ) (s u t : Ty) → sort_of o ≡ arithmetic → Arithmetic p k a s u t → OperatorUse p o k a s u t
arithmetic_use p op.Add k a s u t e h = inr h
arithmetic_use p op.Sub k a s u t e h = h
arithmetic_use p op.Mul k a s u t e h = h
arithmetic_use p op.Div k a s u t e h = h
arithmetic_use p op.Mod k a s u t e h = h
arithmetic_use p _ k a s u t e h = absurd cc

comparison_use : (p : CastScript) (o : Op) (k a : Option ℕ) (s u t : Ty) → sort_of o ≡ comparison → Comparison k a s u t → OperatorUse p o k a s u t
comparison_use p op.Lt k a s u t e h = h
comparison_use p op.Le k a s u t e h = h
comparison_use p op.Gt k a s u t e h = h
comparison_use p op.Ge k a s u t e h = h
comparison_use p _ k a s u t e h = absurd cc

equality_use : (p : CastScript) (o : Op) (k a : Option ℕ) (s u t : Ty) → sort_of o ≡ equality → Equality k a t → OperatorUse p o k a s u t
equality_use p op.Eq k a s u t e h = h
equality_use p op.Ne k a s u t e h = h
equality_use p _ k a s u t e h = absurd cc

is_sum : (o : Op) (ts : List Ty) → is_dyn_sum o ts ≡ true → o ≡ op.Add
is_sum op.Add ts e = refl
is_sum _ ts e = absurd cc

of_dyns : (o : Op) (ts : List Ty) → is_dyn_sum o ts ≡ true → ts ≡ dyn ∷ dyn ∷ []
of_dyns op.Add (dyn ∷ dyn ∷ []) e = refl
of_dyns _ _ e = absurd cc

module _ (p : CastScript) (scope : Scope) (all : List TypedSite) (sites : AreSites p.types all p.sites) where
  -- a part of type s that has become d, for a use at t: it has type s still where no cast had to stand
  pub record IsUsed (s t : Ty) (d : CastExpr) : Type 0 where
    pub type : Ty
    pub typed : HasStaticType p scope d type
    pub fits : IsUsedAt type t
    pub same : Precise s t → type ≡ s

  abbrev pub AreUsed : List Expr → List Ty → List Ty → List CastExpr → Type 0
  AreUsed [] [] [] [] = Unit {0}
  AreUsed (e ∷ es) (s ∷ ss) (t ∷ ts) (d ∷ ds) = IsUsed s t d × AreUsed es ss ts ds
  AreUsed _ _ _ _ = ⊥

  pub of_type : (s t : Ty) (d : CastExpr) → IsUsed s t d → IsOfType p scope d t
  of_type s t d u = (u.type, u.typed, u.fits)

  abbrev pub AreTyped : List Ty → List CastExpr → Type 0
  AreTyped [] [] = Unit {0}
  AreTyped (t ∷ ts) (c ∷ cs) = HasStaticType p scope c t × AreTyped ts cs
  AreTyped ts cs = ⊥

  -- ---- casts

  pub cast_use : (n : ℕ) (q : Place) (s t : Ty) → slice_get all n ≡ Some (site_from q kind.Cast s t) → CastUse p n s t
  cast_use n q s t e =
      let r = found_site p.types all p.sites n (site_from q kind.Cast s t) sites e in
      record { site = r.site; at = r.at; of_kind = r.is.kind; source = s; source_at = r.is.source; value = precise_refl s; target_at = r.is.target }

  pub use_typed : (ss us : List TypedSite) (q : Place) (s t : Ty) (c d : CastExpr) → Uses ss q s c t d us → Extends us all → HasStaticType p scope c s → IsUsed s t d
  use_typed ss us q s t c d (as_it_is h) f i = record { type = s; typed = i; fits = (precise-Decides s t).1 h; same = λ _. refl }
  use_typed ss us q s t c d (with_cast {n = n} h e g) f i =
      let at = stands ss (site_from q kind.Cast s t) [] all (subst (λ (l : List TypedSite). Extends l all) g f) in
      let cast_at : CastUse p n s t = cast_use n q s t (subst (λ (m : ℕ). slice_get all m ≡ Some (site_from q kind.Cast s t)) (sym e) at) in
      record { type = t; typed = (s, i, cast_at); fits = precise_refl t; same = λ k. absurd (h k) }

  pub uses_typed : (ss us : List TypedSite) (es : List Expr) (ts asks : List Ty) (cs ds : List CastExpr) → UsesEach ss es ts cs asks ds us → Extends us all
      → AreTyped ts cs → AreUsed es ts asks ds
  uses_typed ss us es ts asks cs ds uses_none f h = tt
  uses_typed ss us es ts asks cs ds (uses_more {us = vs} {e = e} {es = es1} {s = s} {t = t} {ts = ts1} {asks = asks1} {c = c} {d = d} {cs = cs1} {ds = ds1} g k) f h =
      let first = use_typed ss vs (place_of e) s t c d g (further (uses_extend vs us es1 ts1 asks1 cs1 ds1 k) f) h.0 in
      (first, uses_typed vs us es1 ts1 asks1 cs1 ds1 k f h.1)

  -- ---- one part, and two

  pub record OnePart (ts : List Ty) (t : Ty) (d : CastExpr) : Type 0 where
    pub type : Ty
    pub is : ts ≡ type ∷ []
    pub used : IsUsed type t d

  pub one_part : (e : Expr) (ts : List Ty) (t : Ty) (d : CastExpr) → AreUsed (e ∷ []) ts (t ∷ []) (d ∷ []) → OnePart ts t d
  one_part e [] t d u = absurd u
  one_part e (s ∷ []) t d u = record { type = s; is = refl; used = u.0 }
  one_part e (s ∷ s2 ∷ ts) t d u = absurd u.1

  pub record TwoParts (ts : List Ty) (t u : Ty) (c d : CastExpr) : Type 0 where
    pub first : Ty
    pub second : Ty
    pub is : ts ≡ first ∷ second ∷ []
    pub left : IsUsed first t c
    pub right : IsUsed second u d

  pub two_parts : (e f : Expr) (ts : List Ty) (t u : Ty) (c d : CastExpr) → AreUsed (e ∷ f ∷ []) ts (t ∷ u ∷ []) (c ∷ d ∷ []) → TwoParts ts t u c d
  two_parts e f [] t u c d h = absurd h
  two_parts e f (s ∷ []) t u c d h = absurd h.1
  two_parts e f (s ∷ s2 ∷ []) t u c d h = record { first = s; second = s2; is = refl; left = h.0; right = h.1.0 }
  two_parts e f (s ∷ s2 ∷ s3 ∷ ts) t u c d h = absurd h.1.1

  -- ---- sites that stand unless a type is fully static

  pub stands_unless : (k : Option ℕ) (of_kind : Kind) (q : Place) (s t : Ty) → IsNumber all k (tested_site of_kind q s t) → StandsUnlessStatic p k of_kind t
  stands_unless k of_kind q s t n =
      split (is_static t) (λ b. IsNumber all k (site_unless b (site_from q of_kind s t)) → SiteWhere p k of_kind t b)
      (λ _ m. m) (λ _ m. has_site_to p all sites k (site_from q of_kind s t) of_kind t refl refl m) n

  -- ---- operators

  pub operator_use : (o : Op) (q : Place) (x y : Expr) (ts : List Ty) (c d : CastExpr) (k a : Option ℕ) (t : Ty) (z : Sort) (b : Bool) → sort_of o ≡ z → is_dyn_sum o ts ≡ b
      → t ≡ operator_type z b → AreUsed (x ∷ y ∷ []) ts (operand_types z b) (c ∷ d ∷ []) → AreNumbers all (k ∷ a ∷ []) (operator_sites z b q)
      → HasStaticType p scope (cast.binary o k a c d) t
  operator_use o q x y ts c d k a t equality b e f g u n =
      let h = two_parts x y ts dyn dyn c d u in
      (h.left.type, h.right.type, h.left.typed, h.right.typed, equality_use p o k a h.left.type h.right.type t e (n.0, n.1.0, g))
  operator_use o q x y ts c d k a t comparison b e f g u n =
      let h = two_parts x y ts int int c d u in
      let on : OnIntegers k h.left.type h.right.type = record { operator = n.0; left = h.left.fits; right = h.right.fits } in
      (h.left.type, h.right.type, h.left.typed, h.right.typed, comparison_use p o k a h.left.type h.right.type t e (on, n.1.0, g))
  operator_use o q x y ts c d k a t arithmetic false e f g u n =
      let h = two_parts x y ts int int c d u in
      let on : OnIntegers k h.left.type h.right.type = record { operator = n.0; left = h.left.fits; right = h.right.fits } in
      let site = has_site p all sites a (plain_site q kind.Arithmetic) kind.Arithmetic refl n.1.0 in
      (h.left.type, h.right.type, h.left.typed, h.right.typed, arithmetic_use p o k a h.left.type h.right.type t e (on, site, g))
  operator_use o q x y ts c d k a t arithmetic true e f g u n =
      let h = two_parts x y ts dyn dyn c d u in
      let both = sym h.is ∙ of_dyns o ts f in
      let left : h.left.type ≡ dyn = h.left.same below_dyn ∙ cons_head both in
      let right : h.right.type ≡ dyn = h.right.same below_dyn ∙ cons_head (cons_tail both) in
      let sum : DynSum p k a h.left.type h.right.type t =
      record {
        operator = has_site p all sites k (plain_site q kind.Operator) kind.Operator refl n.0;
        arithmetic = has_site p all sites a (plain_site q kind.Arithmetic) kind.Arithmetic refl n.1.0;
        left = left;
        right = right;
        type = g;
      }
      in
      (h.left.type, h.right.type, h.left.typed, h.right.typed, subst (λ (z : Op). OperatorUse p z k a h.left.type h.right.type t) (sym (is_sum o ts f)) (inl sum))

  -- ---- reads and writes

  pub field_use : (s : Ty) (ts : List Ty) (q : Place) (m : Option ℕ) (x : List ℕ) (t : Ty) → member_type s x ≡ Some t → IsNumber all m (site_at_dyn kind.Member q (s ∷ ts))
      → FieldUse p m s x t
  field_use dyn ts q m x t e n = (sym (some_is e), has_site p all sites m (plain_site q kind.Member) kind.Member refl n)
  field_use (obj fs) ts q m x t e n = (found_field fs x t e, n)
  field_use int ts q m x t e n = none_some ⊥ e
  field_use bool ts q m x t e n = none_some ⊥ e
  field_use str ts q m x t e n = none_some ⊥ e
  field_use nil ts q m x t e n = none_some ⊥ e
  field_use (fun ps r) ts q m x t e n = none_some ⊥ e

  -- ---- arguments

  pub record Given (cs : CastExprs) : Type 0 where
    pub types : List Ty
    pub typed : HaveStaticTypes p scope cs types

  pub given : (es : List Expr) (ss ts : List Ty) (ds : List CastExpr) → AreUsed es ss ts ds → Given (cast_exprs ds)
  given [] [] [] [] u = record { types = []; typed = refl }
  given (e ∷ es) (s ∷ ss) (t ∷ ts) (d ∷ ds) u =
      let more = given es ss ts ds u.1 in
      record { types = u.0.type ∷ more.types; typed = (u.0.type, more.types, u.0.typed, more.typed, refl) }
  given _ _ _ _ u = absurd u

  -- arguments at the types of fields
  pub record GivenFields (gs fs : Fields) (cs : CastExprs) : Type 0 where
    pub types : List Ty
    pub typed : HaveStaticTypes p scope cs types
    pub arguments : FieldArguments gs (names_of fs) types

  pub given_fields : (gs : Fields) (es : List Expr) (ss : List Ty) (fs : Fields) (ds : List CastExpr) → AreUsed es ss (field_types fs) ds
      → ((x : List ℕ) (v : Ty) → HasField fs x v → HasField gs x v) → GivenFields gs fs (cast_exprs ds)
  given_fields gs [] [] no_fields [] u k = record { types = []; typed = refl; arguments = tt }
  given_fields gs (e ∷ es) (s ∷ ss) (more_fields n t fs) (d ∷ ds) u k =
      let more = given_fields gs es ss fs ds u.1 (λ x z i. k x z (inr i)) in
      record {
        types = u.0.type ∷ more.types;
        typed = (u.0.type, more.types, u.0.typed, more.typed, refl);
        arguments = ((t, k n t (inl (refl, refl)), u.0.fits), more.arguments);
      }
  given_fields gs _ _ _ _ u k = absurd u

  -- arguments at the types of parameters
  pub record GivenParams (ps : Tys) (args : Args) : Type 0 where
    pub types : List Ty
    pub typed : HaveArgumentTypes p scope args types
    pub uses : ArgumentUses p (sites_of args) types ps

  pub given_params : (es : List Expr) (ss : List Ty) (ps : Tys) (ds : List CastExpr) (ks : List (Option ℕ)) → AreUsed es ss (tys_list ps) ds
      → AreNumbers all ks (tested_sites kind.Argument es ss (tys_list ps)) → GivenParams ps (arguments ks ds)
  given_params [] [] no_tys [] [] u n = record { types = []; typed = refl; uses = tt }
  given_params [] [] no_tys [] (k ∷ ks) u n = absurd n
  given_params (e ∷ es) (s ∷ ss) (more_tys t ps) (d ∷ ds) [] u n = absurd n
  given_params (e ∷ es) (s ∷ ss) (more_tys t ps) (d ∷ ds) (k ∷ ks) u n =
      let more = given_params es ss ps ds ks u.1 n.1 in
      record {
        types = u.0.type ∷ more.types;
        typed = (u.0.type, more.types, u.0.typed, more.typed, refl);
        uses = (u.0.fits, stands_unless k kind.Argument (place_of e) s t n.0, more.uses);
      }
  given_params _ _ _ _ _ u n = absurd u

  -- arguments of a callee of type `Dyn`
  pub record GivenDyns (args : Args) : Type 0 where
    pub types : List Ty
    pub typed : HaveArgumentTypes p scope args types
    pub uses : DynArguments p (sites_of args) types

  pub given_dyns : (es : List Expr) (ss : List Ty) (ds : List CastExpr) (ks : List (Option ℕ)) → AreUsed es ss (all_dyn ss) ds
      → AreNumbers all ks (tested_sites kind.Argument es ss (all_dyn ss)) → GivenDyns (arguments ks ds)
  given_dyns [] [] [] [] u n = record { types = []; typed = refl; uses = tt }
  given_dyns [] [] [] (k ∷ ks) u n = absurd n
  given_dyns (e ∷ es) (s ∷ ss) (d ∷ ds) [] u n = absurd n
  given_dyns (e ∷ es) (s ∷ ss) (d ∷ ds) (k ∷ ks) u n =
      let more = given_dyns es ss ds ks u.1 n.1 in
      let site = has_site_to p all sites k (site_from (place_of e) kind.Argument s dyn) kind.Argument dyn refl refl n.0 in
      record {
        types = u.0.type ∷ more.types;
        typed = (u.0.type, more.types, u.0.typed, more.typed, refl);
        uses = (site, more.uses);
      }
  given_dyns _ _ _ _ u n = absurd u

  -- ---- calls

  pub record IsCalled (k : Option ℕ) (c : CastExpr) (args : Args) (t : Ty) : Type 0 where
    pub callee : Ty
    pub types : List Ty
    pub called : HasStaticType p scope c callee
    pub given : HaveArgumentTypes p scope args types
    pub made : CallUse p k (sites_of args) callee types t

  dyn_call : (q : Place) (f : Expr) (es : List Expr) (ss : List Ty) (c : CastExpr) (cs : List CastExpr) (k : Option ℕ) (ks : List (Option ℕ))
      → AreUsed (f ∷ es) (dyn ∷ ss) (dyn ∷ all_dyn ss) (c ∷ cs) → AreNumbers all (k ∷ ks) (call_sites q es (dyn ∷ ss) (dyn ∷ all_dyn ss))
      → IsCalled k c (arguments ks cs) dyn
  dyn_call q f es ss c cs k ks u n =
      let args = given_dyns es ss cs ks u.1 n.1 in
      let called : HasStaticType p scope c dyn = subst (λ (z : Ty). HasStaticType p scope c z) (u.0.same below_dyn) u.0.typed in
      record { callee = dyn; types = args.types; called = called; given = args.typed; made = (has_site p all sites k (plain_site q kind.Call) kind.Call refl n.0, args.uses, refl) }

  static_call : (q : Place) (f : Expr) (es : List Expr) (ps : Tys) (r : Ty) (ss : List Ty) (c : CastExpr) (cs : List CastExpr) (k : Option ℕ) (ks : List (Option ℕ))
      → AreUsed (f ∷ es) (fun ps r ∷ ss) (dyn ∷ tys_list ps) (c ∷ cs) → AreNumbers all (k ∷ ks) (call_sites q es (fun ps r ∷ ss) (dyn ∷ tys_list ps))
      → IsCalled k c (arguments ks cs) r
  static_call q f es ps r ss c cs k ks u n =
      let args = given_params es ss ps cs ks u.1 n.1 in
      let called : HasStaticType p scope c (fun ps r) = subst (λ (z : Ty). HasStaticType p scope c z) (u.0.same below_dyn) u.0.typed in
      record { callee = fun ps r; types = args.types; called = called; given = args.typed; made = (n.0, args.uses, refl) }

  pub call_use : (q : Place) (f : Expr) (es : List Expr) (ts : List Ty) (c : CastExpr) (cs : List CastExpr) (k : Option ℕ) (ks : List (Option ℕ)) (r : Rule)
      → CalleeRule ts r → AreUsed (f ∷ es) ts r.asks (c ∷ cs) → AreNumbers all (k ∷ ks) (call_sites q es ts r.asks) → IsCalled k c (arguments ks cs) r.gives
  call_use q f es (dyn ∷ ss) c cs k ks r h u n =
      let used = subst (λ (z : Rule). AreUsed (f ∷ es) (dyn ∷ ss) z.asks (c ∷ cs)) h u in
      let at = subst (λ (z : Rule). AreNumbers all (k ∷ ks) (call_sites q es (dyn ∷ ss) z.asks)) h n in
      subst (λ (z : Rule). IsCalled k c (arguments ks cs) z.gives) (sym h) (dyn_call q f es ss c cs k ks used at)
  call_use q f es (fun ps t ∷ ss) c cs k ks r h u n =
      let used = subst (λ (z : Rule). AreUsed (f ∷ es) (fun ps t ∷ ss) z.asks (c ∷ cs)) h.1 u in
      let at = subst (λ (z : Rule). AreNumbers all (k ∷ ks) (call_sites q es (fun ps t ∷ ss) z.asks)) h.1 n in
      subst (λ (z : Rule). IsCalled k c (arguments ks cs) z.gives) (sym h.1) (static_call q f es ps t ss c cs k ks used at)
  call_use q f es [] c cs k ks r h u n = absurd h
  call_use q f es (int ∷ ss) c cs k ks r h u n = absurd h
  call_use q f es (bool ∷ ss) c cs k ks r h u n = absurd h
  call_use q f es (str ∷ ss) c cs k ks r h u n = absurd h
  call_use q f es (nil ∷ ss) c cs k ks r h u n = absurd h
  call_use q f es (obj fs ∷ ss) c cs k ks r h u n = absurd h
