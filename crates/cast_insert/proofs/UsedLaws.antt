-- Parts are used with a cast where one must stand.
use Rattle.std.proofs.Common.{◌≡◌, ℕ, ◌+◌, true, false, List, [], ◌∷◌, ◌++◌, length, refl, sym, ◌∙◌, ap, subst, append_assoc, arith}
use Rattle.std.specs.Prelude.{Option, Some, None}
use Rattle.std.proofs.lemmas.List.{append-nil, length-append}
use Rattle.mono_list.proofs.Cases.{split}
use Rattle.mono_syntax.specs.declared.leaf.Kind.TheVariants as kind
use Rattle.mono_syntax.specs.declared.leaf.Place.{Place}
use Rattle.mono_syntax.specs.CastExpr.{CastExpr}
use Rattle.mono_syntax.specs.Expr.{Expr}
use Rattle.mono_syntax.specs.Ty.{Ty}
use Rattle.mono_tree.specs.Precise.{Precise}
use Rattle.mono_tree.specs.Precision.{precise}
use Rattle.mono_tree.proofs.Order.{reflexive}
use Rattle.mono_tree.proofs.PreciseTest.{precise-read, precise-holds}
use Rattle.script_rules.specs.SourcePlaces.{place_of}
use Rattle.cast_rules.specs.declared.site.TypedSite.{TypedSite}
use Rattle.cast_rules.specs.Elaborates.{as_it_is, with_cast, UsesEach, uses_none, uses_more}
use Rattle.cast_rules.specs.Sites.{site_from, site_unless, standing, numbered}
use Rattle.rule_choice.specs.declared.parts.Part.{Part}
use Rattle.rule_choice.specs.GivenParts.{types_of, AreAt}
use Rattle.cast_insert.specs.declared.parts.Parts.{Parts}
use Rattle.cast_nodes.specs.declared.slots.Slots.{Slots}
use Rattle.cast_insert.specs.computed.Inserted.{used_each}
use Rattle.cast_nodes.specs.computed.Noded.{fitted, fit_all}
use Rattle.cast_nodes.specs.computed.Placed.{no_slots, put_casts}
use Rattle.cast_nodes.proofs.SlotLaws.{behind, cast_sites, casts_are}

-- parts, each with its cast
abbrev fit_each : List (Option ℕ) → List CastExpr → List CastExpr
fit_each (k ∷ ks) (c ∷ cs) = fitted k c ∷ fit_each ks cs
fit_each ks cs = []

fit_all_is : (done : List CastExpr) (ks : List (Option ℕ)) (cs : List CastExpr) → fit_all done ks cs ≡ done ++ fit_each ks cs
fit_all_is done [] cs = sym (append-nil done)
fit_all_is done (k ∷ ks) [] = sym (append-nil done)
fit_all_is done (k ∷ ks) (c ∷ cs) = fit_all_is (done ++ fitted k c ∷ []) ks cs ∙ append_assoc done (fitted k c ∷ []) (fit_each ks cs)

-- the parts of a written cast are used as they are
pub used_so_far : (ss : List TypedSite) (es : List Expr) (ts : List Ty) (cs : List CastExpr) → length ts ≡ length es → length cs ≡ length es → UsesEach ss es ts cs ts cs ss
used_so_far ss [] [] [] h k = uses_none
used_so_far ss (e ∷ es) (t ∷ ts) (c ∷ cs) h k = uses_more (as_it_is (reflexive t)) (used_so_far ss es ts cs (omega (arith, h)) (omega (arith, k)))
used_so_far ss [] (t ∷ ts) cs h k = absurd (omega (arith, h))
used_so_far ss [] [] (c ∷ cs) h k = absurd (omega (arith, k))
used_so_far ss (e ∷ es) [] cs h k = absurd (omega (arith, h))
used_so_far ss (e ∷ es) (t ∷ ts) [] h k = absurd (omega (arith, k))

-- the slots of casts with their sites, behind these sites
abbrev Row : List TypedSite → List Expr → List Ty → List CastExpr → List Ty → List (Option TypedSite) → Type 0
Row ss es ss2 cs ts slots = UsesEach ss es ss2 cs ts (fit_each (numbered (length ss) slots) cs) (ss ++ standing slots)

pub not_precise : (s t : Ty) → precise s t ≡ false → Precise s t → ⊥
not_precise s t n h = let y : precise s t ≡ true = precise-holds h in absurd cc

first_as_is : (ss : List TypedSite) (e : Expr) (es : List Expr) (x : Part) (xs : List Part) (c : CastExpr) (cs : List CastExpr) (t : Ty) (ts : List Ty) → precise x.ty t ≡ true
    → Row ss es (types_of xs) cs ts (cast_sites xs ts) → Row ss (e ∷ es) (types_of (x ∷ xs)) (c ∷ cs) (t ∷ ts) (None ∷ cast_sites xs ts)
first_as_is ss e es x xs c cs t ts y h = uses_more (as_it_is (precise-read x.ty t y)) h

first_cast : (ss : List TypedSite) (e : Expr) (es : List Expr) (x : Part) (xs : List Part) (c : CastExpr) (cs : List CastExpr) (t : Ty) (ts : List Ty) → precise x.ty t ≡ false → x.place ≡ place_of e
    → Row (ss ++ site_from x.place kind.Cast x.ty t ∷ []) es (types_of xs) cs ts (cast_sites xs ts)
    → Row ss (e ∷ es) (types_of (x ∷ xs)) (c ∷ cs) (t ∷ ts) (Some (site_from x.place kind.Cast x.ty t) ∷ cast_sites xs ts)
first_cast ss e es x xs c cs t ts n at h =
    let site : TypedSite = site_from x.place kind.Cast x.ty t in
    let counted = subst (λ (m : ℕ). UsesEach (ss ++ site ∷ []) es (types_of xs) cs ts (fit_each (numbered m (cast_sites xs ts)) cs) ((ss ++ site ∷ []) ++ standing (cast_sites xs ts))) (length-append ss (site ∷ [])) h in
    let moved = subst (λ (z : List TypedSite). UsesEach (ss ++ site ∷ []) es (types_of xs) cs ts (fit_each (numbered (length ss + 1) (cast_sites xs ts)) cs) z) (append_assoc ss (site ∷ []) (standing (cast_sites xs ts))) counted in
    uses_more (with_cast (not_precise x.ty t n) refl (ap (λ (p : Place). ss ++ site_from p kind.Cast x.ty t ∷ []) at)) moved

row_so : (ss : List TypedSite) (es : List Expr) (xs : List Part) (cs : List CastExpr) (ts : List Ty) → AreAt es xs → length cs ≡ length xs → length ts ≡ length xs → Row ss es (types_of xs) cs ts (cast_sites xs ts)
row_so ss [] [] [] [] h c t = subst (λ (z : List TypedSite). UsesEach ss [] [] [] [] [] z) (sym (append-nil ss)) uses_none
row_so ss (e ∷ es) (x ∷ xs) (c ∷ cs) (t ∷ ts) h m n =
    split (precise x.ty t) (λ z. Row ss (e ∷ es) (types_of (x ∷ xs)) (c ∷ cs) (t ∷ ts) (site_unless z (site_from x.place kind.Cast x.ty t) ∷ cast_sites xs ts))
    (λ y. first_as_is ss e es x xs c cs t ts y (row_so ss es xs cs ts h.1 (omega (arith, m)) (omega (arith, n))))
    (λ y. first_cast ss e es x xs c cs t ts y h.0 (row_so (ss ++ site_from x.place kind.Cast x.ty t ∷ []) es xs cs ts h.1 (omega (arith, m)) (omega (arith, n))))
row_so ss [] (x ∷ xs) cs ts h m n = absurd h
row_so ss (e ∷ es) [] cs ts h m n = absurd h
row_so ss [] [] (c ∷ cs) ts h m n = absurd (omega (arith, m))
row_so ss [] [] [] (t ∷ ts) h m n = absurd (omega (arith, n))
row_so ss (e ∷ es) (x ∷ xs) [] ts h m n = absurd (omega (arith, m))
row_so ss (e ∷ es) (x ∷ xs) (c ∷ cs) [] h m n = absurd (omega (arith, n))

-- parts that are each used at a type
pub used_each_so : (es : List Expr) (x : Parts) (ts : List Ty) → AreAt es x.parts → length x.exprs ≡ length x.parts → length ts ≡ length x.parts
    → UsesEach x.sites es (types_of x.parts) x.exprs ts (used_each x ts).exprs (used_each x ts).sites
used_each_so es x ts h m n =
    let q : Slots = put_casts (no_slots x.sites) x.parts ts in
    let is : behind (no_slots x.sites) (cast_sites x.parts ts) ≡ q = sym (casts_are (no_slots x.sites) x.parts ts) in
    subst (λ (z : Slots). UsesEach x.sites es (types_of x.parts) x.exprs ts (fit_all [] z.numbers x.exprs) z.sites) is
    (subst (λ (z : List CastExpr). UsesEach x.sites es (types_of x.parts) x.exprs ts z (x.sites ++ standing (cast_sites x.parts ts)))
    (sym (fit_all_is [] (numbered (length x.sites) (cast_sites x.parts ts)) x.exprs)) (row_so x.sites es x.parts x.exprs ts h m n))
