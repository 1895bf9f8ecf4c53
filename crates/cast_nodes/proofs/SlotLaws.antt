-- Slots in a row get the numbers of the sites that stand in them, and the sites stand behind those before.
use Rattle.std.proofs.Common.{◌≡◌, ℕ, ◌+◌, Bool, true, false, List, [], ◌∷◌, ◌++◌, length, refl, sym, ◌∙◌, ap, append_assoc}
use Rattle.std.specs.Prelude.{Option, Some, None}
use Rattle.std.proofs.lemmas.List.{append-nil, length-append}
use Rattle.mono_syntax.specs.declared.leaf.Kind.{Kind}
use Rattle.mono_syntax.specs.declared.leaf.Kind.TheVariants as kind
use Rattle.mono_syntax.specs.declared.leaf.Place.{Place}
use Rattle.mono_syntax.specs.declared.tree.ClassDef.{ClassDef}
use Rattle.mono_syntax.specs.declared.tree.FuncDef.{FuncDef}
use Rattle.mono_syntax.specs.Expr as expr
use Rattle.mono_syntax.specs.Expr.{Expr, Exprs}
use Rattle.mono_syntax.specs.ExprView.{exprs_list}
use Rattle.mono_syntax.specs.Ty.{Ty}
use Rattle.script_rules.specs.SourcePlaces.{place_of}
use Rattle.static_types.specs.Names.{Names}
use Rattle.static_types.specs.Operators.{Sort, arithmetic, comparison, equality, sort_of, is_dyn_sum}
use Rattle.static_types.specs.Parts.{class_called, call_parts, parts}
use Rattle.cast_rules.specs.declared.site.TypedSite.{TypedSite}
use Rattle.cast_rules.specs.OwnSites.{operator_sites, written_site, call_sites, called_sites, own_sites}
use Rattle.cast_rules.specs.Sites.{site_from, plain_site, site_at_dyn, tested_sites, tested_site, standing, numbered}
use Rattle.known_names.specs.declared.known.Known.{Known}
use Rattle.known_names.specs.declared.known.KnownClass.{KnownClass}
use Rattle.known_names.specs.declared.known.Local.{Local}
use Rattle.known_names.specs.IsKnown.{IsKnown, IsSameClass, names_in}
use Rattle.rule_choice.specs.declared.parts.Part.{Part}
use Rattle.rule_choice.specs.GivenParts.{types_of, AreAt}
use Rattle.rule_choice.specs.computed.Ruled.{called_class}
use Rattle.rule_choice.proofs.RuleLaws.{same_called}
use Rattle.cast_nodes.specs.declared.slots.Slots.{Slots}
use Rattle.cast_nodes.specs.computed.Placed.{with_slot, cast_site, put_casts, put_tested, put_operator, put_written, put_call, put_called, put_own}

-- slots in a row behind those of q
abbrev pub behind : Slots → List (Option TypedSite) → Slots
behind q xs = record { numbers = q.numbers ++ numbered (length q.sites) xs; sites = q.sites ++ standing xs }

same_slots : {ks js : List (Option ℕ)} {ss us : List TypedSite} → ks ≡ js → ss ≡ us → ◌≡◌ {A = Slots} (record { numbers = ks; sites = ss }) (record { numbers = js; sites = us })
same_slots e f = λ i. record { numbers = e i; sites = f i }

pub behind_none : (q : Slots) → q ≡ behind q []
behind_none q = same_slots (sym (append-nil q.numbers)) (sym (append-nil q.sites))

length_one : {A : Type 0} (xs : List A) (x : A) → length (xs ++ x ∷ []) ≡ length xs + 1
length_one xs x = length-append xs (x ∷ [])

-- one slot, and then the others
pub behind_more : (q : Slots) (x : Option TypedSite) (xs : List (Option TypedSite)) → behind (with_slot q x) xs ≡ behind q (x ∷ xs)
behind_more q None xs = same_slots (append_assoc q.numbers (None ∷ []) (numbered (length q.sites) xs)) refl
behind_more q (Some x) xs =
    same_slots (append_assoc q.numbers (Some (length q.sites) ∷ []) (numbered (length (q.sites ++ x ∷ [])) xs) ∙ ap (λ (n : ℕ). q.numbers ++ (Some (length q.sites) ∷ numbered n xs)) (length_one q.sites x))
    (append_assoc q.sites (x ∷ []) (standing xs))

pub behind_one : (q : Slots) (x : Option TypedSite) → with_slot q x ≡ behind q (x ∷ [])
behind_one q x = behind_none (with_slot q x) ∙ behind_more q x []

pub behind_two : (q : Slots) (x y : Option TypedSite) → with_slot (with_slot q x) y ≡ behind q (x ∷ y ∷ [])
behind_two q x y = behind_one (with_slot q x) y ∙ behind_more q x (y ∷ [])

-- ---- rows

-- the casts of parts that are each used at a type
abbrev pub cast_sites : List Part → List Ty → List (Option TypedSite)
cast_sites (x ∷ xs) (t ∷ ts) = cast_site x t ∷ cast_sites xs ts
cast_sites xs ts = []

pub casts_are : (q : Slots) (xs : List Part) (ts : List Ty) → put_casts q xs ts ≡ behind q (cast_sites xs ts)
casts_are q [] ts = behind_none q
casts_are q (x ∷ xs) [] = behind_none q
casts_are q (x ∷ xs) (t ∷ ts) = casts_are (with_slot q (cast_site x t)) xs ts ∙ behind_more q (cast_site x t) (cast_sites xs ts)

pub tests_are : (k : Kind) (q : Slots) (es : List Expr) (xs : List Part) (ts : List Ty) → AreAt es xs → put_tested k q xs ts ≡ behind q (tested_sites k es (types_of xs) ts)
tests_are k q [] [] ts h = behind_none q
tests_are k q (e ∷ es) (x ∷ xs) [] h = behind_none q
tests_are k q (e ∷ es) (x ∷ xs) (t ∷ ts) h =
    tests_are k (with_slot q (tested_site k x.place x.ty t)) es xs ts h.1 ∙ behind_more q (tested_site k x.place x.ty t) (tested_sites k es (types_of xs) ts)
    ∙ ap (λ (p : Place). behind q (tested_site k p x.ty t ∷ tested_sites k es (types_of xs) ts)) h.0
tests_are k q [] (x ∷ xs) ts h = absurd h
tests_are k q (e ∷ es) [] ts h = absurd h

-- ---- the own sites of an expression

operator_are : (s : Sort) (z : Bool) (p : Place) (q : Slots) → put_operator s z p q ≡ behind q (operator_sites s z p)
operator_are equality z p q = behind_two q None None
operator_are comparison z p q = behind_two q None None
operator_are arithmetic true p q = behind_two q (Some (plain_site p kind.Operator)) (Some (plain_site p kind.Arithmetic))
operator_are arithmetic false p q = behind_two q None (Some (plain_site p kind.Arithmetic))

written_are : (e : Expr) (xs : List Part) (t : Ty) (q : Slots) → AreAt (e ∷ []) xs → put_written xs t q ≡ behind q (written_site (place_of e) (types_of xs) t)
written_are e [] t q h = absurd h
written_are e (x ∷ xs) t q h =
    behind_one q (Some (site_from x.place kind.Cast x.ty t)) ∙ ap (λ (p : Place). behind q (Some (site_from p kind.Cast x.ty t) ∷ [])) h.0

pub call_are : (p : Place) (f : Expr) (es : List Expr) (xs : List Part) (ts : List Ty) (q : Slots) → AreAt (f ∷ es) xs → put_call p xs ts q ≡ behind q (call_sites p es (types_of xs) ts)
call_are p f es [] ts q h = absurd h
call_are p f es (x ∷ xs) [] q h = behind_none q
call_are p f es (x ∷ xs) (t ∷ ts) q h =
    tests_are kind.Argument (with_slot q (site_at_dyn kind.Call p (types_of (x ∷ xs)))) es xs ts h.1
    ∙ behind_more q (site_at_dyn kind.Call p (types_of (x ∷ xs))) (tested_sites kind.Argument es (types_of xs) ts)

module _ (cs : List ClassDef) (fs : List FuncDef) (ks : Known) (l : Local) (known : IsKnown cs fs ks) where
  abbrev Ns : Names
  Ns = names_in cs fs l

  called_are : (o : Option ClassDef) (k : Option KnownClass) (p : Place) (f : Expr) (es : List Expr) (xs : List Part) (ts : List Ty) (q : Slots) → IsSameClass cs o k
      → AreAt (call_parts o f es) xs → put_called k p xs ts q ≡ behind q (called_sites o p es (types_of xs) ts)
  called_are (Some d) (Some k) p f es xs ts q s h = behind_none q
  called_are None None p f es xs ts q s h = call_are p f es xs ts q h
  called_are (Some d) None p f es xs ts q s h = absurd s
  called_are None (Some k) p f es xs ts q s h = absurd s

  pub own_are : (e : Expr) (xs : List Part) (ts : List Ty) (t : Ty) (q : Slots) → AreAt (parts cs e) xs → put_own ks l e xs ts t q ≡ behind q (own_sites Ns e (types_of xs) ts t)
  own_are (expr.local w) xs ts t q h = behind_one q _
  own_are (expr.number p n) xs ts t q h = behind_none q
  own_are (expr.text p x) xs ts t q h = behind_none q
  own_are (expr.truth p b) xs ts t q h = behind_none q
  own_are (expr.nil p) xs ts t q h = behind_none q
  own_are (expr.neg p a) xs ts t q h = behind_one q (Some (plain_site p kind.Arithmetic))
  own_are (expr.negation p a) xs ts t q h = behind_none q
  own_are (expr.binary o p a b) xs ts t q h = operator_are (sort_of o) (is_dyn_sum o (types_of xs)) p q
  own_are (expr.both a b) xs ts t q h = behind_none q
  own_are (expr.either a b) xs ts t q h = behind_none q
  own_are (expr.read a w) xs ts t q h = behind_one q (site_at_dyn kind.Member w.place (types_of xs))
  own_are (expr.call p f es) xs ts t q h = called_are (class_called cs f) (called_class ks.classes f) p f (exprs_list es) xs ts q (same_called cs fs ks known f) h
  own_are (expr.cast p a e) xs ts t q h = written_are e xs t q h
  own_are (expr.join p w) xs ts t q h = behind_one q (Some (plain_site w.place kind.Name))
