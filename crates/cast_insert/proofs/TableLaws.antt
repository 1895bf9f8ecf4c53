-- Sites have their types by position in a list that has each of them once.
use Rattle.std.proofs.Common.{◌≡◌, suc, List, [], ◌∷◌, ◌++◌, ◌⊎◌, inl, inr, refl, sym, ◌∙◌, subst, append_assoc, arith}
use Rattle.std.specs.Prelude.{Contains}
use Rattle.std.proofs.lemmas.List.{append-nil}
use Rattle.std.proofs.lemmas.List.Elements.{Contains-push_cases}
use Rattle.mono_syntax.specs.declared.leaf.Site.{Site}
use Rattle.mono_syntax.specs.Ty.{Ty}
use Rattle.mono_tree.specs.ClosedList.{AreDistinct}
use Rattle.cast_rules.specs.declared.site.TypedSite.{TypedSite}
use Rattle.cast_rules.specs.HasCasts.{IsOfSite}
use Rattle.cast_rules.specs.Sites.{IsSiteOf, AreSites}
use Rattle.type_list.specs.declared.list.Placed.{Placed}
use Rattle.type_list.specs.computed.TypeList.{with_type}
use Rattle.type_list.proofs.TypeListLaws.{Grows, stays, grows_on, is_placed, grown}
use Rattle.cast_insert.specs.declared.numbering.Table.{Table}
use Rattle.cast_insert.specs.computed.Scripted.{with_site, with_sites, no_sites}

-- a type that has got its position was there before, or is that type
was_there : (ts : List Ty) (t u : Ty) → Contains (with_type ts t).types u → Contains ts u ⊎ (u ≡ t)
was_there ts t u c = elim (is_placed ts t).list [
  | inl e ↦ inl (subst (λ (z : List Ty). Contains z u) e c)
  | inr e ↦ elim (Contains-push_cases ts t u (subst (λ (z : List Ty). Contains z u) e.1 c)) [ inl h ↦ inl h | inr h ↦ inr (sym h) ]
]

-- the sites of the table are behind those of b, and each type was there before or is of one of them
record AreTabled (b : Table) (fs : List TypedSite) (x : Table) : Type 0 where
  pub grows : Grows b.types x.types
  pub more : List Site
  pub sites : x.sites ≡ b.sites ++ more
  pub stand : AreSites x.types fs more
  pub of : (t : Ty) → Contains x.types t → Contains b.types t ⊎ IsOfSite fs t

first_of : (f : TypedSite) (fs : List TypedSite) → Contains (f ∷ fs) f
first_of f fs = (0, omega arith, refl)

more_of : (f : TypedSite) (fs : List TypedSite) (t : Ty) → IsOfSite fs t → IsOfSite (f ∷ fs) t
more_of f fs t h = let (k, l, e) = h.among in record { site = h.site; among = (suc k, omega arith, e); is = h.is }

tabled : (b : Table) (fs : List TypedSite) → AreTabled b fs (with_sites b fs)
tabled b [] = record { grows = stays b.types; more = []; sites = sym (append-nil b.sites); stand = tt; of = λ t c. inl c }
tabled b (f ∷ fs) =
    let x : Placed = with_type b.types f.source in
    let y : Placed = with_type x.types f.target in
    let site : Site = record { place = f.place; kind = f.kind; source = x.at; target = y.at } in
    let c : Table = with_site b f in
    let h = tabled c fs in
    let source = grown b.types f.source in
    let target = grown x.types f.target in
    let is : IsSiteOf (with_sites c fs).types f site = record {
      place = refl;
      kind = refl;
      source = h.grows.keeps x.at.0 f.source (target.keeps x.at.0 f.source (is_placed b.types f.source).at);
      target = h.grows.keeps y.at.0 f.target (is_placed x.types f.target).at;
    } in
    record {
      grows = grows_on b.types x.types (with_sites c fs).types source (grows_on x.types y.types (with_sites c fs).types target h.grows);
      more = site ∷ h.more;
      sites = h.sites ∙ append_assoc b.sites (site ∷ []) h.more;
      stand = (is, h.stand);
      of = λ t k. elim (h.of t k) [
        | inl i ↦ elim (was_there x.types f.target t i) [
          | inl j ↦ elim (was_there b.types f.source t j) [ inl m ↦ inl m | inr m ↦ inr (record { site = f; among = first_of f fs; is = inl m }) ]
          | inr j ↦ inr (record { site = f; among = first_of f fs; is = inr j })
        ]
        | inr i ↦ inr (more_of f fs t i)
      ];
    }

none_in : (t : Ty) → Contains [] t → ⊥
none_in t (k, l, e) = omega arith

-- the whole table
pub record IsTable (fs : List TypedSite) (x : Table) : Type 0 where
  pub sites : AreSites x.types fs x.sites
  pub distinct : AreDistinct x.types
  pub used : (t : Ty) → Contains x.types t → IsOfSite fs t

pub is_table : (fs : List TypedSite) → IsTable fs (with_sites no_sites fs)
is_table fs =
    let h = tabled no_sites fs in
    record {
      sites = subst (λ (z : List Site). AreSites (with_sites no_sites fs).types fs z) (sym h.sites) h.stand;
      distinct = h.grows.distinct tt;
      used = λ t c. elim (h.of t c) [ inl i ↦ absurd (none_in t i) | inr i ↦ i ];
    }
