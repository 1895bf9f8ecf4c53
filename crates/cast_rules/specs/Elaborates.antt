-- The type of an expression, what it becomes with its casts, and its sites: those of its parts first, in source order, then the casts of
-- its parts where it uses them, and then its own.
use Rattle.std.specs.Prelude.{◌≡◌, ℕ, List, [], ◌∷◌, ◌++◌, length, Option}
use Rattle.mono_syntax.specs.declared.leaf.Kind.TheVariants as kind
use Rattle.mono_syntax.specs.declared.leaf.Place.{Place}
use Rattle.mono_syntax.specs.CastExpr as cast
use Rattle.mono_syntax.specs.CastExpr.{CastExpr}
use Rattle.mono_syntax.specs.Expr as expr
use Rattle.mono_syntax.specs.Expr.{Expr}
use Rattle.mono_syntax.specs.Ty.{Ty}
use Rattle.mono_tree.specs.Precise.{Precise}
use Rattle.script_rules.specs.SourcePlaces.{place_of}
use Rattle.static_types.specs.declared.rule.Rule.{Rule}
use Rattle.static_types.specs.Names.{Names}
use Rattle.static_types.specs.Parts.{parts}
use Rattle.static_types.specs.Rules.{RuleOf}
use Rattle.static_types.specs.Types.{AllConsistent}
use Rattle.cast_rules.specs.declared.site.TypedSite.{TypedSite}
use Rattle.cast_rules.specs.Nodes.{IsNode}
use Rattle.cast_rules.specs.OwnSites.{own_sites}
use Rattle.cast_rules.specs.Sites.{site_from, standing, numbered}

-- Behind the sites ss, an expression at place p that has type s and has become c is used at t: it becomes d, and the sites are us.
-- A cast stands where s isn't at least as precise as t.
pub data Uses : List TypedSite → Place → Ty → CastExpr → Ty → CastExpr → List TypedSite → Type 0 where
  as_it_is : {ss : List TypedSite} {p : Place} {s t : Ty} {c : CastExpr} → Precise s t → Uses ss p s c t c ss
  with_cast : {ss us : List TypedSite} {p : Place} {s t : Ty} {c : CastExpr} {n : ℕ} → (Precise s t → ⊥) → n ≡ length ss
      → us ≡ ss ++ site_from p kind.Cast s t ∷ [] → Uses ss p s c t (cast.fit n c) us

-- expressions of these types, each used at its own
pub data UsesEach : List TypedSite → List Expr → List Ty → List CastExpr → List Ty → List CastExpr → List TypedSite → Type 0 where
  uses_none : {ss : List TypedSite} → UsesEach ss [] [] [] [] [] ss
  uses_more : {ss us vs : List TypedSite} {e : Expr} {es : List Expr} {s t : Ty} {ts asks : List Ty} {c d : CastExpr} {cs ds : List CastExpr}
      → Uses ss (place_of e) s c t d us → UsesEach us es ts cs asks ds vs
      → UsesEach ss (e ∷ es) (s ∷ ts) (c ∷ cs) (t ∷ asks) (d ∷ ds) vs

-- The types at which an expression uses its parts by a cast where one must stand. A written cast has a site of its own in its
-- place, and takes its part as it is.
abbrev pub uses_of : Expr → List Ty → List Ty → List Ty
uses_of (expr.cast p a e) ts asks = ts
uses_of e ts asks = asks

mutual
  -- Behind the sites ss, e has type t and becomes c, and the sites are all.
  pub data Elaborates (ns : Names) : List TypedSite → Expr → Ty → CastExpr → List TypedSite → Type 0 where
    elaborates : {ss us vs all : List TypedSite} {e : Expr} {ts : List Ty} {t : Ty} {cs ds : List CastExpr} {c : CastExpr} {ks : List (Option ℕ)} (r : Rule)
        → ElaborateAll ns ss (parts ns.classes e) ts cs us
        → RuleOf ns e ts r → AllConsistent ts r.asks → t ≡ r.gives
        → UsesEach us (parts ns.classes e) ts cs (uses_of e ts r.asks) ds vs
        → ks ≡ numbered (length vs) (own_sites ns e ts r.asks t) → IsNode ns e ds ks c
        → all ≡ vs ++ standing (own_sites ns e ts r.asks t)
        → Elaborates ns ss e t c all

  -- the same of expressions in a row
  pub data ElaborateAll (ns : Names) : List TypedSite → List Expr → List Ty → List CastExpr → List TypedSite → Type 0 where
    of_none : {ss : List TypedSite} → ElaborateAll ns ss [] [] [] ss
    of_more : {ss us vs : List TypedSite} {e : Expr} {es : List Expr} {t : Ty} {ts : List Ty} {c : CastExpr} {cs : List CastExpr}
        → Elaborates ns ss e t c us → ElaborateAll ns us es ts cs vs
        → ElaborateAll ns ss (e ∷ es) (t ∷ ts) (c ∷ cs) vs
