-- Where an expression has its types, the code finds what it becomes with its casts.
use Rattle.std.proofs.Common.{◌≡◌, suc, cond, List, [], ◌∷◌, ◌++◌, length, Result, Ok, Err, refl, sym, ◌∙◌, ap, subst, append_assoc}
use Rattle.std.specs.Prelude.{Option, Some, None, is_some, option_and_then}
use Rattle.std.specs.Option.{option_map}
use Rattle.std.proofs.lemmas.List.{append-nil}
use Rattle.mono_syntax.specs.declared.refusal.Refusal.{Refusal}
use Rattle.mono_syntax.specs.declared.tree.ClassDef.{ClassDef}
use Rattle.mono_syntax.specs.declared.tree.FuncDef.{FuncDef}
use Rattle.mono_syntax.specs.CastExpr.{CastExpr}
use Rattle.mono_syntax.specs.Expr as expr
use Rattle.mono_syntax.specs.Expr.{Expr, Exprs, no_exprs, more_exprs}
use Rattle.mono_syntax.specs.ExprView.{exprs_list}
use Rattle.mono_syntax.specs.Ty.{Ty}
use Rattle.script_rules.specs.SourcePlaces.{place_of}
use Rattle.static_types.specs.declared.rule.Rule.{Rule}
use Rattle.static_types.specs.Names.{Names}
use Rattle.static_types.specs.Parts.{class_called, call_parts, parts}
use Rattle.static_types.specs.Rules.{RuleOf}
use Rattle.static_types.specs.Types.{AllConsistent, Types, has_type, TypeAll}
use Rattle.static_types.proofs.RuleLaws.{rule_once, rule_or_fault}
use Rattle.static_types.proofs.TypeLaws.{all_row}
use Rattle.cast_rules.specs.declared.site.TypedSite.{TypedSite}
use Rattle.cast_rules.specs.Elaborates.{UsesEach, uses_none, uses_more, uses_of, Elaborates, elaborates, ElaborateAll, of_none, of_more}
use Rattle.cast_rules.specs.OwnSites.{own_sites}
use Rattle.known_names.specs.declared.known.Known.{Known}
use Rattle.known_names.specs.declared.known.KnownClass.{KnownClass}
use Rattle.known_names.specs.declared.known.Local.{Local}
use Rattle.known_names.specs.IsKnown.{IsKnown, IsSameClass, names_in}
use Rattle.rule_choice.specs.declared.parts.Part.{Part}
use Rattle.rule_choice.specs.GivenParts.{types_of, AreAt}
use Rattle.rule_choice.specs.computed.Ruled.{called_class, ruled}
use Rattle.rule_choice.proofs.CountLaws.{types_count, types_count_of, asks_count}
use Rattle.rule_choice.proofs.RuleLaws.{IsRuled, same_called, ruled_so}
use Rattle.cast_insert.specs.declared.parts.Parts.{Parts}
use Rattle.cast_insert.specs.declared.parts.Used.{Used}
use Rattle.cast_insert.specs.declared.parts.Whole.{Whole}
use Rattle.cast_nodes.specs.declared.slots.Slots.{Slots}
use Rattle.cast_insert.specs.computed.Inserted.{used, allowed, made, no_parts, with_part, ended, parts_inserted, all_inserted, inserted}
use Rattle.cast_nodes.specs.computed.Noded.{node}
use Rattle.cast_nodes.specs.computed.Placed.{no_slots, put_own}
use Rattle.cast_nodes.proofs.NodeLaws.{node_so}
use Rattle.cast_nodes.proofs.SlotLaws.{behind, own_are}
use Rattle.cast_insert.proofs.UsedLaws.{used_so_far, used_each_so}

pub exprs_count : (ns : Names) (ss : List TypedSite) (es : List Expr) (ts : List Ty) (cs : List CastExpr) (us : List TypedSite) → ElaborateAll ns ss es ts cs us → length cs ≡ length es
exprs_count ns ss es ts cs us of_none = refl
exprs_count ns ss es ts cs us (of_more {us = mid} {es = es2} {ts = ts2} {cs = cs2} h k) = ap suc (exprs_count ns mid es2 ts2 cs2 us k)

pub uses_count : (ss : List TypedSite) (es : List Expr) (ts : List Ty) (cs : List CastExpr) (asks : List Ty) (ds : List CastExpr) (us : List TypedSite) → UsesEach ss es ts cs asks ds us
    → length ds ≡ length es
uses_count ss es ts cs asks ds us uses_none = refl
uses_count ss es ts cs asks ds us (uses_more {us = mid} {es = es2} {ts = ts2} {asks = asks2} {cs = cs2} {ds = ds2} h k) = ap suc (uses_count mid es2 ts2 cs2 asks2 ds2 us k)

-- one row, and then another
pub elaborate_more : (ns : Names) (ss us vs : List TypedSite) (es gs : List Expr) (ts us2 : List Ty) (cs ds : List CastExpr) → ElaborateAll ns ss es ts cs us → ElaborateAll ns us gs us2 ds vs
    → ElaborateAll ns ss (es ++ gs) (ts ++ us2) (cs ++ ds) vs
elaborate_more ns ss us vs es gs ts us2 cs ds of_none k = k
elaborate_more ns ss us vs es gs ts us2 cs ds (of_more {us = mid} {es = es2} {ts = ts2} {cs = cs2} h rest) k = of_more h (elaborate_more ns mid us vs es2 gs ts2 us2 cs2 ds rest k)

types_of_more : (xs ys : List Part) → types_of (xs ++ ys) ≡ types_of xs ++ types_of ys
types_of_more [] ys = refl
types_of_more (x ∷ xs) ys = ap (λ (z : List Ty). x.ty ∷ z) (types_of_more xs ys)

at_more : (es gs : List Expr) (xs ys : List Part) → AreAt es xs → AreAt gs ys → AreAt (es ++ gs) (xs ++ ys)
at_more [] gs [] ys h k = k
at_more (e ∷ es) gs (x ∷ xs) ys h k = (h.0, at_more es gs xs ys h.1 k)
at_more [] gs (x ∷ xs) ys h k = absurd h
at_more (e ∷ es) gs [] ys h k = absurd h

-- the parts of an expression are used as its rule asks, and that of a written cast as it is
used_so : (e : Expr) (es : List Expr) (x : Parts) (ts : List Ty) → AreAt es x.parts → length x.exprs ≡ length es → length (types_of x.parts) ≡ length es → length (types_of x.parts) ≡ length ts
    → UsesEach x.sites es (types_of x.parts) x.exprs (uses_of e (types_of x.parts) ts) (used e x ts).exprs (used e x ts).sites
used_so (expr.cast p a e) es x ts h m n k = used_so_far x.sites es (types_of x.parts) x.exprs n m
used_so (expr.local w) es x ts h m n k = used_each_so es x ts h (m ∙ sym n ∙ types_count x.parts) (sym k ∙ types_count x.parts)
used_so (expr.number p i) es x ts h m n k = used_each_so es x ts h (m ∙ sym n ∙ types_count x.parts) (sym k ∙ types_count x.parts)
used_so (expr.text p y) es x ts h m n k = used_each_so es x ts h (m ∙ sym n ∙ types_count x.parts) (sym k ∙ types_count x.parts)
used_so (expr.truth p b) es x ts h m n k = used_each_so es x ts h (m ∙ sym n ∙ types_count x.parts) (sym k ∙ types_count x.parts)
used_so (expr.nil p) es x ts h m n k = used_each_so es x ts h (m ∙ sym n ∙ types_count x.parts) (sym k ∙ types_count x.parts)
used_so (expr.neg p a) es x ts h m n k = used_each_so es x ts h (m ∙ sym n ∙ types_count x.parts) (sym k ∙ types_count x.parts)
used_so (expr.negation p a) es x ts h m n k = used_each_so es x ts h (m ∙ sym n ∙ types_count x.parts) (sym k ∙ types_count x.parts)
used_so (expr.binary o p a b) es x ts h m n k = used_each_so es x ts h (m ∙ sym n ∙ types_count x.parts) (sym k ∙ types_count x.parts)
used_so (expr.both a b) es x ts h m n k = used_each_so es x ts h (m ∙ sym n ∙ types_count x.parts) (sym k ∙ types_count x.parts)
used_so (expr.either a b) es x ts h m n k = used_each_so es x ts h (m ∙ sym n ∙ types_count x.parts) (sym k ∙ types_count x.parts)
used_so (expr.read a w) es x ts h m n k = used_each_so es x ts h (m ∙ sym n ∙ types_count x.parts) (sym k ∙ types_count x.parts)
used_so (expr.call p f gs) es x ts h m n k = used_each_so es x ts h (m ∙ sym n ∙ types_count x.parts) (sym k ∙ types_count x.parts)
used_so (expr.join p w) es x ts h m n k = used_each_so es x ts h (m ∙ sym n ∙ types_count x.parts) (sym k ∙ types_count x.parts)

module _ (cs : List ClassDef) (fs : List FuncDef) (ks : Known) (l : Local) (known : IsKnown cs fs ks) where
  abbrev Ns : Names
  Ns = names_in cs fs l

  -- behind the sites ss, the expression of type t has become x
  pub record IsWhole (e : Expr) (t : Ty) (ss : List TypedSite) (x : Whole) : Type 0 where
    pub type : x.ty ≡ t
    pub elaborated : Elaborates Ns ss e t x.expr x.sites

  abbrev pub IsInserted : Expr → Ty → List TypedSite → Option Whole → Type 0
  IsInserted e t ss None = ⊥
  IsInserted e t ss (Some x) = IsWhole e t ss x

  -- the expressions of these types are parts behind those that are done
  pub record ArePartsOf (es : List Expr) (ts : List Ty) (done : Parts) (x : Parts) : Type 0 where
    pub more : List Part
    pub parts : x.parts ≡ done.parts ++ more
    pub places : AreAt es more
    pub types : types_of more ≡ ts
    pub become : List CastExpr
    pub exprs : x.exprs ≡ done.exprs ++ become
    pub elaborated : ElaborateAll Ns done.sites es ts become x.sites

  abbrev pub AreInserted : List Expr → List Ty → Parts → Option Parts → Type 0
  AreInserted es ts done None = ⊥
  AreInserted es ts done (Some x) = ArePartsOf es ts done x

  -- ---- rows

  pub no_more : (done : Parts) → AreInserted [] [] done (Some done)
  no_more done =
      record { more = []; parts = sym (append-nil done.parts); places = tt; types = refl; become = []; exprs = sym (append-nil done.exprs); elaborated = of_none }

  pub one_part : (done : Parts) (e : Expr) (t : Ty) (o : Option Whole) → IsInserted e t done.sites o → AreInserted (e ∷ []) (t ∷ []) done (with_part done e o)
  one_part done e t None h = absurd h
  one_part done e t (Some w) h =
      record {
        more = record { place = place_of e; ty = w.ty } ∷ [];
        parts = refl;
        places = (refl, tt);
        types = ap (λ (z : Ty). z ∷ []) h.type;
        become = w.expr ∷ [];
        exprs = refl;
        elaborated = of_more h.elaborated of_none;
      }

  two_rows : (es gs : List Expr) (ts us : List Ty) (done x : Parts) (o : Option Parts) → ArePartsOf es ts done x → AreInserted gs us x o → AreInserted (es ++ gs) (ts ++ us) done o
  two_rows es gs ts us done x None h k = absurd k
  two_rows es gs ts us done x (Some y) h k =
      record {
        more = h.more ++ k.more;
        parts = k.parts ∙ ap (λ (z : List Part). z ++ k.more) h.parts ∙ append_assoc done.parts h.more k.more;
        places = at_more es gs h.more k.more h.places k.places;
        types = types_of_more h.more k.more ∙ (λ i. h.types i ++ k.types i);
        become = h.become ++ k.become;
        exprs = k.exprs ∙ ap (λ (z : List CastExpr). z ++ k.become) h.exprs ∙ append_assoc done.exprs h.become k.become;
        elaborated = elaborate_more Ns done.sites x.sites y.sites es gs ts us h.become k.become h.elaborated k.elaborated;
      }

  and_row : (es gs : List Expr) (ts us : List Ty) (done : Parts) (o : Option Parts) (g : Parts → Option Parts) → AreInserted es ts done o → ((x : Parts) → AreInserted gs us x (g x))
      → AreInserted (es ++ gs) (ts ++ us) done (option_and_then g o)
  and_row es gs ts us done None g h k = absurd h
  and_row es gs ts us done (Some x) g h k = two_rows es gs ts us done x (g x) h (k x)

  -- a typed row: its first expression, and the others
  pub typed_one : (e : Expr) (ts all : List Ty) (done : Parts) (o : Option Whole) → TypeAll Ns (e ∷ []) ts all → ((t : Ty) (us : List Ty) → Types Ns e t us → IsInserted e t done.sites o)
      → AreInserted (e ∷ []) ts done (with_part done e o)
  typed_one e ts all done o h k =
      let r = all_row Ns (e ∷ []) ts all h in
      let n = all_row Ns [] r.others r.vs r.rest in
      subst (λ (z : List Ty). AreInserted (e ∷ []) z done (with_part done e o)) (sym (r.types ∙ ap (λ (z : List Ty). r.first ∷ z) n.0)) (one_part done e r.first o (k r.first r.us r.typed))

  pub typed_row : (e : Expr) (es : List Expr) (ts all : List Ty) (done : Parts) (o : Option Whole) (g : Parts → Option Parts) → TypeAll Ns (e ∷ es) ts all
      → ((t : Ty) (us : List Ty) → Types Ns e t us → IsInserted e t done.sites o) → ((x : Parts) (us vs : List Ty) → TypeAll Ns es us vs → AreInserted es us x (g x))
      → AreInserted (e ∷ es) ts done (option_and_then g (with_part done e o))
  typed_row e es ts all done o g h k m =
      let r = all_row Ns (e ∷ es) ts all h in
      subst (λ (z : List Ty). AreInserted (e ∷ es) z done (option_and_then g (with_part done e o))) (sym r.types)
      (and_row (e ∷ []) es (r.first ∷ []) r.others done (with_part done e o) g (one_part done e r.first o (k r.first r.us r.typed)) (λ x. m x r.others r.vs r.rest))

  -- ---- an expression from its parts

  -- all parts of an expression, with what they became
  record Done (e : Expr) (ss : List TypedSite) (x : Parts) (r : Rule) : Type 0 where
    pub places : AreAt (parts cs e) x.parts
    pub rule : RuleOf Ns e (types_of x.parts) r
    pub consistent : AllConsistent (types_of x.parts) r.asks
    pub elaborated : ElaborateAll Ns ss (parts cs e) (types_of x.parts) x.exprs x.sites
    pub count : length (types_of x.parts) ≡ length (parts cs e)

  node_done : (e : Expr) (ss : List TypedSite) (x : Parts) (r : Rule) (u : Used) → Done e ss x r
      → UsesEach x.sites (parts cs e) (types_of x.parts) x.exprs (uses_of e (types_of x.parts) r.asks) u.exprs u.sites
      → IsInserted e r.gives ss (made ks l e x.parts r u)
  node_done e ss x r u h uses =
      let own = own_sites Ns e (types_of x.parts) r.asks r.gives in
      let q : Slots = behind (no_slots u.sites) own in
      let is : q ≡ put_own ks l e x.parts r.asks r.gives (no_slots u.sites) = sym (own_are cs fs ks l known e x.parts r.asks r.gives (no_slots u.sites) h.places) in
      let n = node_so cs fs ks l known (length u.sites) e (types_of x.parts) r u.exprs h.rule h.count
      (uses_count x.sites (parts cs e) (types_of x.parts) x.exprs (uses_of e (types_of x.parts) r.asks) u.exprs u.sites uses) in
      let found : IsInserted e r.gives ss (Some (record { ty = r.gives; expr = n.expr; sites = q.sites }))
      = record { type = refl; elaborated = elaborates r h.elaborated h.rule h.consistent refl uses refl n.is refl } in
      subst (λ (z : Slots). IsInserted e r.gives ss (option_map (λ c. record { ty = r.gives; expr = c; sites = z.sites }) (node ks e u.exprs z.numbers))) is
      (subst (λ (z : Option CastExpr). IsInserted e r.gives ss (option_map (λ c. record { ty = r.gives; expr = c; sites = q.sites }) z)) (sym n.made) found)

  ruled_then : (e : Expr) (ss : List TypedSite) (x : Parts) (r : Rule) → Done e ss x r → (m : Result Rule Refusal) → IsRuled Ns e x.parts m
      → IsInserted e r.gives ss (option_and_then (λ q. made ks l e x.parts q (used e x q.asks)) (allowed m))
  ruled_then e ss x r h (Ok q) k =
      let uses = used_so e (parts cs e) x r.asks h.places (exprs_count Ns ss (parts cs e) (types_of x.parts) x.exprs x.sites h.elaborated) h.count (asks_count Ns e (types_of x.parts) r h.count h.rule) in
      subst (λ (z : Rule). IsInserted e r.gives ss (made ks l e x.parts z (used e x z.asks))) (rule_once Ns e (types_of x.parts) r q h.rule k) (node_done e ss x r (used e x r.asks) h uses)
  ruled_then e ss x r h (Err f) k = absurd (rule_or_fault Ns e (types_of x.parts) r f h.rule k)

  whole_parts : (e : Expr) (ss : List TypedSite) (ts us : List Ty) (r : Rule) → TypeAll Ns (parts cs e) ts us → RuleOf Ns e ts r → AllConsistent ts r.asks → (o : Option Parts)
      → AreInserted (parts cs e) ts (no_parts ss) o → IsInserted e r.gives ss (ended ks l e o)
  whole_parts e ss ts us r typed rule c None h = absurd h
  whole_parts e ss ts us r typed rule c (Some x) h =
      let types : ts ≡ types_of x.parts = sym (ap types_of h.parts ∙ h.types) in
      let done : Done e ss x r = record {
        places = subst (λ (z : List Part). AreAt (parts cs e) z) (sym h.parts) h.places;
        rule = subst (λ (z : List Ty). RuleOf Ns e z r) types rule;
        consistent = subst (λ (z : List Ty). AllConsistent z r.asks) types c;
        elaborated = subst (λ (z : List Ty). ElaborateAll Ns ss (parts cs e) z x.exprs x.sites) types (subst (λ (z : List CastExpr). ElaborateAll Ns ss (parts cs e) ts z x.sites) (sym h.exprs) h.elaborated);
        count = subst (λ (z : List Ty). length z ≡ length (parts cs e)) types (types_count_of Ns (parts cs e) ts us typed);
      } in
      ruled_then e ss x r done (ruled ks l e x.parts) (ruled_so cs fs ks l known e x.parts)

  whole_so : (e : Expr) (t : Ty) (us : List Ty) (ss : List TypedSite) (o : Option Parts) → Types Ns e t us → ((ts all : List Ty) → TypeAll Ns (parts cs e) ts all → AreInserted (parts cs e) ts (no_parts ss) o)
      → IsInserted e t ss (ended ks l e o)
  whole_so e t us ss o (has_type {ts = ts} {us = xs} r typed rule c p q) h =
      subst (λ (z : Ty). IsInserted e z ss (ended ks l e o)) (sym p) (whole_parts e ss ts xs r typed rule c o (h ts xs typed))

  -- ---- expressions

  alone : (e : Expr) (ss : List TypedSite) → parts cs e ≡ [] → (ts all : List Ty) → TypeAll Ns (parts cs e) ts all → AreInserted (parts cs e) ts (no_parts ss) (Some (no_parts ss))
  alone e ss none ts all h =
      let r = all_row Ns [] ts all (subst (λ (z : List Expr). TypeAll Ns z ts all) none h) in
      subst (λ (z : List Ty). AreInserted (parts cs e) z (no_parts ss) (Some (no_parts ss))) (sym r.0) (subst (λ (z : List Expr). AreInserted z [] (no_parts ss) (Some (no_parts ss))) (sym none) (no_more (no_parts ss)))

  -- the callee is a part unless it is the name of a class
  abbrev CallRow : Option ClassDef → Option KnownClass → Expr → Exprs → List Ty → List TypedSite → Type 0
  CallRow o k f es ts ss =
      AreInserted (call_parts o f (exprs_list es)) ts (no_parts ss)
      (option_and_then (λ x. all_inserted ks l x es) (cond (is_some k) (Some (no_parts ss)) (with_part (no_parts ss) f (inserted ks l f ss))))

  call_row : (f : Expr) (es : Exprs) (ss : List TypedSite) (o : Option ClassDef) (k : Option KnownClass) (ts all : List Ty) → IsSameClass cs o k → TypeAll Ns (call_parts o f (exprs_list es)) ts all
      → ((t : Ty) (us : List Ty) → Types Ns f t us → IsInserted f t ss (inserted ks l f ss))
      → ((x : Parts) (us vs : List Ty) → TypeAll Ns (exprs_list es) us vs → AreInserted (exprs_list es) us x (all_inserted ks l x es)) → CallRow o k f es ts ss
  call_row f es ss (Some d) (Some k) ts all s h m g = g (no_parts ss) ts all h
  call_row f es ss None None ts all s h m g = typed_row f (exprs_list es) ts all (no_parts ss) (inserted ks l f ss) (λ x. all_inserted ks l x es) h m g
  call_row f es ss (Some d) None ts all s h m g = absurd s
  call_row f es ss None (Some k) ts all s h m g = absurd s

  mutual
    pub parts_so : (e : Expr) (ss : List TypedSite) (ts all : List Ty) → TypeAll Ns (parts cs e) ts all → AreInserted (parts cs e) ts (no_parts ss) (parts_inserted ks l e ss)
    parts_so (expr.local w) ss ts all h = alone (expr.local w) ss refl ts all h
    parts_so (expr.number p n) ss ts all h = alone (expr.number p n) ss refl ts all h
    parts_so (expr.text p x) ss ts all h = alone (expr.text p x) ss refl ts all h
    parts_so (expr.truth p b) ss ts all h = alone (expr.truth p b) ss refl ts all h
    parts_so (expr.nil p) ss ts all h = alone (expr.nil p) ss refl ts all h
    parts_so (expr.join p w) ss ts all h = alone (expr.join p w) ss refl ts all h
    parts_so (expr.neg p a) ss ts all h = typed_one a ts all (no_parts ss) (inserted ks l a ss) h (λ t us k. whole_so a t us ss (parts_inserted ks l a ss) k (λ ts all m. parts_so a ss ts all m))
    parts_so (expr.negation p a) ss ts all h = typed_one a ts all (no_parts ss) (inserted ks l a ss) h (λ t us k. whole_so a t us ss (parts_inserted ks l a ss) k (λ ts all m. parts_so a ss ts all m))
    parts_so (expr.read a w) ss ts all h = typed_one a ts all (no_parts ss) (inserted ks l a ss) h (λ t us k. whole_so a t us ss (parts_inserted ks l a ss) k (λ ts all m. parts_so a ss ts all m))
    parts_so (expr.cast p u a) ss ts all h = typed_one a ts all (no_parts ss) (inserted ks l a ss) h (λ t us k. whole_so a t us ss (parts_inserted ks l a ss) k (λ ts all m. parts_so a ss ts all m))
    parts_so (expr.binary o p a c) ss ts all h =
        typed_row a (c ∷ []) ts all (no_parts ss) (inserted ks l a ss) (λ x. with_part x c (inserted ks l c x.sites)) h
        (λ t us k. whole_so a t us ss (parts_inserted ks l a ss) k (λ ts all m. parts_so a ss ts all m))
        (λ x us vs k. typed_one c us vs x (inserted ks l c x.sites) k (λ t us k. whole_so c t us x.sites (parts_inserted ks l c x.sites) k (λ ts all m. parts_so c x.sites ts all m)))
    parts_so (expr.both a c) ss ts all h =
        typed_row a (c ∷ []) ts all (no_parts ss) (inserted ks l a ss) (λ x. with_part x c (inserted ks l c x.sites)) h
        (λ t us k. whole_so a t us ss (parts_inserted ks l a ss) k (λ ts all m. parts_so a ss ts all m))
        (λ x us vs k. typed_one c us vs x (inserted ks l c x.sites) k (λ t us k. whole_so c t us x.sites (parts_inserted ks l c x.sites) k (λ ts all m. parts_so c x.sites ts all m)))
    parts_so (expr.either a c) ss ts all h =
        typed_row a (c ∷ []) ts all (no_parts ss) (inserted ks l a ss) (λ x. with_part x c (inserted ks l c x.sites)) h
        (λ t us k. whole_so a t us ss (parts_inserted ks l a ss) k (λ ts all m. parts_so a ss ts all m))
        (λ x us vs k. typed_one c us vs x (inserted ks l c x.sites) k (λ t us k. whole_so c t us x.sites (parts_inserted ks l c x.sites) k (λ ts all m. parts_so c x.sites ts all m)))
    parts_so (expr.call p f es) ss ts all h =
        call_row f es ss (class_called cs f) (called_class ks.classes f) ts all (same_called cs fs ks known f) h
        (λ t us k. whole_so f t us ss (parts_inserted ks l f ss) k (λ ts all m. parts_so f ss ts all m)) (λ x us vs k. all_so es x us vs k)

    pub all_so : (es : Exprs) (x : Parts) (ts all : List Ty) → TypeAll Ns (exprs_list es) ts all → AreInserted (exprs_list es) ts x (all_inserted ks l x es)
    all_so no_exprs x ts all h = let r = all_row Ns [] ts all h in subst (λ (z : List Ty). AreInserted [] z x (Some x)) (sym r.0) (no_more x)
    all_so (more_exprs e es) x ts all h =
        typed_row e (exprs_list es) ts all x (inserted ks l e x.sites) (λ y. all_inserted ks l y es) h
        (λ t us k. whole_so e t us x.sites (parts_inserted ks l e x.sites) k (λ ts all m. parts_so e x.sites ts all m)) (λ y us vs k. all_so es y us vs k)

  pub expr_so : (e : Expr) (t : Ty) (us : List Ty) (ss : List TypedSite) → Types Ns e t us → IsInserted e t ss (inserted ks l e ss)
  expr_so e t us ss h = whole_so e t us ss (parts_inserted ks l e ss) h (λ ts all m. parts_so e ss ts all m)
