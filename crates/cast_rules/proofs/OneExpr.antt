-- An expression has its casts and sites in one way.
use Rattle.std.proofs.Common.{◌≡◌, ℕ, ◌⊎◌, inl, inr, List, [], ◌∷◌, ◌++◌, length, Option, refl, sym, ◌∙◌, ap, subst}
use Rattle.mono_list.proofs.Cases.{some_is}
use Rattle.mono_syntax.specs.declared.leaf.Kind.TheVariants as kind
use Rattle.mono_syntax.specs.declared.leaf.Place.{Place}
use Rattle.mono_syntax.specs.CastExpr as cast
use Rattle.mono_syntax.specs.CastExpr.{CastExpr}
use Rattle.mono_syntax.specs.Expr.{Expr}
use Rattle.mono_syntax.specs.Ty.{Ty}
use Rattle.mono_tree.specs.Precise.{Precise}
use Rattle.script_rules.specs.SourcePlaces.{place_of}
use Rattle.static_types.specs.declared.rule.Rule.{Rule}
use Rattle.static_types.specs.Names.{Names}
use Rattle.static_types.specs.Parts.{parts}
use Rattle.static_types.specs.Rules.{RuleOf}
use Rattle.static_types.proofs.RuleLaws.{rule_once}
use Rattle.cast_rules.specs.declared.site.TypedSite.{TypedSite}
use Rattle.cast_rules.specs.Elaborates.{Uses, as_it_is, with_cast, UsesEach, uses_none, uses_more, uses_of, Elaborates, elaborates, ElaborateAll, of_none, of_more}
use Rattle.cast_rules.specs.Nodes.{IsNode}
use Rattle.cast_rules.specs.OwnSites.{own_sites}
use Rattle.cast_rules.specs.Sites.{site_from, standing, numbered}
use Rattle.cast_rules.proofs.OneNode.{node_of, node_is}

-- ---- uses

-- what stands behind a use
abbrev UseRow : List TypedSite → Place → Ty → CastExpr → Ty → CastExpr → List TypedSite → Type 0
UseRow ss q s c t d us =
    (Precise s t × (d ≡ c) × (us ≡ ss)) ⊎ ((Precise s t → ⊥) × (d ≡ cast.fit (length ss) c) × (us ≡ ss ++ site_from q kind.Cast s t ∷ []))

use_row : (ss us : List TypedSite) (q : Place) (s t : Ty) (c d : CastExpr) → Uses ss q s c t d us → UseRow ss q s c t d us
use_row ss us q s t c d (as_it_is h) = inl (h, refl, refl)
use_row ss us q s t c d (with_cast {n = n} h e g) = inr (h, ap (λ (m : ℕ). cast.fit m c) e, g)

pub record SameUse (c d : CastExpr) (us vs : List TypedSite) : Type 0 where
  pub expr : c ≡ d
  pub sites : us ≡ vs

pub use_once : (ss us vs : List TypedSite) (q : Place) (s t : Ty) (c d f : CastExpr) → Uses ss q s c t d us → Uses ss q s c t f vs → SameUse d f us vs
use_once ss us vs q s t c d f h k =
    elim (use_row ss us q s t c d h) [
      | inl x ↦ elim (use_row ss vs q s t c f k) [
        | inl y ↦ record { expr = x.1 ∙ sym y.1; sites = x.2 ∙ sym y.2 }
        | inr y ↦ absurd (y.0 x.0)
      ]
      | inr x ↦ elim (use_row ss vs q s t c f k) [
        | inl y ↦ absurd (x.0 y.0)
        | inr y ↦ record { expr = x.1 ∙ sym y.1; sites = x.2 ∙ sym y.2 }
      ]
    ]

record MoreUses (ss : List TypedSite) (e : Expr) (es : List Expr) (s : Ty) (ts : List Ty) (c : CastExpr) (cs : List CastExpr) (t : Ty) (asks : List Ty) (ds : List CastExpr) (vs : List TypedSite)
    : Type 0 where
  pub us : List TypedSite
  pub used : CastExpr
  pub others : List CastExpr
  pub first : Uses ss (place_of e) s c t used us
  pub rest : UsesEach us es ts cs asks others vs
  pub all : ds ≡ used ∷ others

abbrev UsesRow : List TypedSite → List Expr → List Ty → List CastExpr → List Ty → List CastExpr → List TypedSite → Type 0
UsesRow ss [] ts cs asks ds vs = (ds ≡ []) × (vs ≡ ss)
UsesRow ss (e ∷ es) (s ∷ ts) (c ∷ cs) (t ∷ asks) ds vs = MoreUses ss e es s ts c cs t asks ds vs
UsesRow ss es ts cs asks ds vs = ⊥

uses_row : (ss vs : List TypedSite) (es : List Expr) (ts asks : List Ty) (cs ds : List CastExpr) → UsesEach ss es ts cs asks ds vs → UsesRow ss es ts cs asks ds vs
uses_row ss vs es ts asks cs ds uses_none = (refl, refl)
uses_row ss vs es ts asks cs ds (uses_more f g) = record { us = _; used = _; others = _; first = f; rest = g; all = refl }

pub record SameUses (cs ds : List CastExpr) (us vs : List TypedSite) : Type 0 where
  pub exprs : cs ≡ ds
  pub sites : us ≡ vs

pub uses_once : (ss us vs : List TypedSite) (es : List Expr) (ts asks : List Ty) (cs ds fs : List CastExpr) → UsesEach ss es ts cs asks ds us → UsesEach ss es ts cs asks fs vs
    → SameUses ds fs us vs
uses_once ss us vs es ts asks cs ds fs uses_none k = let r = uses_row ss vs [] [] [] [] fs k in record { exprs = sym r.0; sites = sym r.1 }
uses_once ss us vs es ts asks cs ds fs (uses_more {us = us1} {e = e} {es = es1} {s = s} {t = t} {ts = ts1} {asks = asks1} {c = c} {d = d} {cs = cs1} {ds = ds1} f g) k =
    let r = uses_row ss vs (e ∷ es1) (s ∷ ts1) (t ∷ asks1) (c ∷ cs1) fs k in
    let first = use_once ss us1 r.us (place_of e) s t c d r.used f r.first in
    let moved = subst (λ (l : List TypedSite). UsesEach l es1 ts1 cs1 asks1 r.others vs) (sym first.sites) r.rest in
    let others = uses_once us1 us vs es1 ts1 asks1 cs1 ds1 r.others g moved in
    record { exprs = (λ j. first.expr j ∷ others.exprs j) ∙ sym r.all; sites = others.sites }

-- ---- expressions

-- what an expression has become, and what parts have
pub record Became : Type 0 where
  pub type : Ty
  pub expr : CastExpr
  pub sites : List TypedSite

pub record Made : Type 0 where
  pub types : List Ty
  pub exprs : List CastExpr
  pub sites : List TypedSite

abbrev pub became : Ty → CastExpr → List TypedSite → Became
became t c us = record { type = t; expr = c; sites = us }

abbrev pub made : List Ty → List CastExpr → List TypedSite → Made
made ts cs us = record { types = ts; exprs = cs; sites = us }

module _ (ns : Names) where
  -- what an expression adds to its parts
  record Ending (e : Expr) (z : Made) (b : Became) : Type 0 where
    pub rule : Rule
    pub used : List CastExpr
    pub behind : List TypedSite
    pub numbers : List (Option ℕ)
    pub ruled : RuleOf ns e z.types rule
    pub typed : b.type ≡ rule.gives
    pub uses : UsesEach z.sites (parts ns.classes e) z.types z.exprs (uses_of e z.types rule.asks) used behind
    pub counted : numbers ≡ numbered (length behind) (own_sites ns e z.types rule.asks b.type)
    pub node : IsNode ns e used numbers b.expr
    pub ended : b.sites ≡ behind ++ standing (own_sites ns e z.types rule.asks b.type)

  ending_once : (e : Expr) (z : Made) (b d : Became) → Ending e z b → Ending e z d → b ≡ d
  ending_once e z b d h k =
      let rules = rule_once ns e z.types h.rule k.rule h.ruled k.ruled in
      let type : b.type ≡ d.type = h.typed ∙ ap (λ (r : Rule). r.gives) rules ∙ sym k.typed in
      let moved = subst (λ (r : Rule). UsesEach z.sites (parts ns.classes e) z.types z.exprs (uses_of e z.types r.asks) k.used k.behind) (sym rules) k.uses in
      let uses = uses_once z.sites h.behind k.behind (parts ns.classes e) z.types (uses_of e z.types h.rule.asks) z.exprs h.used k.used h.uses moved in
      let counts : numbered (length h.behind) (own_sites ns e z.types h.rule.asks b.type) ≡ numbered (length k.behind) (own_sites ns e z.types k.rule.asks d.type) =
      λ j. numbered (length (uses.sites j)) (own_sites ns e z.types (rules j).asks (type j))
      in
      let numbers : h.numbers ≡ k.numbers = h.counted ∙ counts ∙ sym k.counted in
      let nodes : node_of ns e h.used h.numbers ≡ node_of ns e k.used k.numbers = λ j. node_of ns e (uses.exprs j) (numbers j) in
      let expr : b.expr ≡ d.expr = some_is (sym (node_is ns e h.used h.numbers b.expr h.node) ∙ nodes ∙ node_is ns e k.used k.numbers d.expr k.node) in
      let ends : h.behind ++ standing (own_sites ns e z.types h.rule.asks b.type) ≡ k.behind ++ standing (own_sites ns e z.types k.rule.asks d.type) =
      λ j. uses.sites j ++ standing (own_sites ns e z.types (rules j).asks (type j))
      in
      let sites : b.sites ≡ d.sites = h.ended ∙ ends ∙ sym k.ended in
      λ j. record { type = type j; expr = expr j; sites = sites j }

  record MoreRow (ss : List TypedSite) (e : Expr) (es : List Expr) (ts : List Ty) (cs : List CastExpr) (vs : List TypedSite) : Type 0 where
    pub type : Ty
    pub types : List Ty
    pub expr : CastExpr
    pub exprs : List CastExpr
    pub us : List TypedSite
    pub first : Elaborates ns ss e type expr us
    pub rest : ElaborateAll ns us es types exprs vs
    pub all_types : ts ≡ type ∷ types
    pub all_exprs : cs ≡ expr ∷ exprs

  -- what stands behind expressions in a row
  abbrev AllRow : List TypedSite → List Expr → List Ty → List CastExpr → List TypedSite → Type 0
  AllRow ss [] ts cs vs = (ts ≡ []) × (cs ≡ []) × (vs ≡ ss)
  AllRow ss (e ∷ es) ts cs vs = MoreRow ss e es ts cs vs

  all_row : (ss vs : List TypedSite) (es : List Expr) (ts : List Ty) (cs : List CastExpr) → ElaborateAll ns ss es ts cs vs → AllRow ss es ts cs vs
  all_row ss vs es ts cs of_none = (refl, refl, refl)
  all_row ss vs es ts cs (of_more f g) = record { type = _; types = _; expr = _; exprs = _; us = _; first = f; rest = g; all_types = refl; all_exprs = refl }

  mutual
    pub expr_once : (ss us vs : List TypedSite) (e : Expr) (t u : Ty) (c d : CastExpr) → Elaborates ns ss e t c us → Elaborates ns ss e u d vs → became t c us ≡ became u d vs
    expr_once ss us vs e t u c d (elaborates {us = us1} {vs = vs1} {ts = ts} {cs = cs} {ds = ds} {ks = ks} r g rule h q w n m a)
        (elaborates {us = us2} {vs = vs2} {ts = ts2} {cs = cs2} {ds = ds2} {ks = ks2} r2 g2 rule2 h2 q2 w2 n2 m2 a2) =
        let same = all_once ss us1 us2 (parts ns.classes e) ts ts2 cs cs2 g g2 in
        let first : Ending e (made ts cs us1) (became t c us) =
        record { rule = r; used = ds; behind = vs1; numbers = ks; ruled = rule; typed = q; uses = w; counted = n; node = m; ended = a }
        in
        let second : Ending e (made ts2 cs2 us2) (became u d vs) =
        record { rule = r2; used = ds2; behind = vs2; numbers = ks2; ruled = rule2; typed = q2; uses = w2; counted = n2; node = m2; ended = a2 }
        in
        ending_once e (made ts cs us1) (became t c us) (became u d vs) first (subst (λ (z : Made). Ending e z (became u d vs)) (sym same) second)

    pub all_once : (ss us vs : List TypedSite) (es : List Expr) (ts ws : List Ty) (cs ds : List CastExpr) → ElaborateAll ns ss es ts cs us → ElaborateAll ns ss es ws ds vs
        → made ts cs us ≡ made ws ds vs
    all_once ss us vs es ts ws cs ds of_none k =
        let r = all_row ss vs [] ws ds k in
        let types = sym r.0 in
        let exprs = sym r.1 in
        let sites = sym r.2 in
        λ j. record { types = types j; exprs = exprs j; sites = sites j }
    all_once ss us vs es ts ws cs ds (of_more {us = us1} {e = e} {es = es1} {t = t} {ts = ts1} {c = c} {cs = cs1} g h) k =
        let r = all_row ss vs (e ∷ es1) ws ds k in
        let first = expr_once ss us1 r.us e t r.type c r.expr g r.first in
        let moved = subst (λ (b : Became). ElaborateAll ns b.sites es1 r.types r.exprs vs) (sym first) r.rest in
        let others = all_once us1 us vs es1 ts1 r.types cs1 r.exprs h moved in
        let types : t ∷ ts1 ≡ ws = (λ j. (first j).type ∷ (others j).types) ∙ sym r.all_types in
        let exprs : c ∷ cs1 ≡ ds = (λ j. (first j).expr ∷ (others j).exprs) ∙ sym r.all_exprs in
        λ j. record { types = types j; exprs = exprs j; sites = (others j).sites }
