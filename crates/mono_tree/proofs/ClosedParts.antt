-- The list of a type's parts: it has the type and every part of a member, and no more than any set that is closed under parts.
use Rattle.std.proofs.Common.{◌≡◌, List, [], ◌∷◌, ◌++◌, inl, inr, refl, sym, subst, append_assoc}
use Rattle.std.specs.Prelude.{Contains, ◌⊎◌}
use Rattle.std.proofs.lemmas.List.Elements.{Contains-append_left, Contains-append_right, Contains-append_cases}
use Rattle.mono_syntax.specs.Ty.{Ty, dyn, int, bool, str, nil, fun, obj, Tys, no_tys, more_tys, Fields, no_fields, more_fields}
use Rattle.mono_tree.specs.ClosedList.{IsPartClosed, IsAmong, IsOfField, IsPart, parts_first, all_parts_first, field_parts_first, each_parts_first}
use Rattle.mono_tree.proofs.ClosedPuts.{none_in, only_in, first_in, in_rest, at_head}

pub closed_nil : IsPartClosed []
closed_nil = record { part = λ t p c i. absurd (none_in t c) }

pub closed-append : (ts us : List Ty) → IsPartClosed ts → IsPartClosed us → IsPartClosed (ts ++ us)
closed-append ts us a b = record {
  part = λ t p c i. elim (Contains-append_cases ts us t c) [
    | inl h ↦ Contains-append_left ts us p (a.part t p h i)
    | inr h ↦ Contains-append_right ts us p (b.part t p h i)
  ];
}

-- one more type, whose parts are there
pub closed-push : (ts : List Ty) (t : Ty) → IsPartClosed ts → ((p : Ty) → IsPart p t → Contains ts p) → IsPartClosed (ts ++ t ∷ [])
closed-push ts t a h = record {
  part = λ u p c i. elim (Contains-append_cases ts (t ∷ []) u c) [
    | inl k ↦ Contains-append_left ts (t ∷ []) p (a.part u p k i)
    | inr k ↦ Contains-append_left ts (t ∷ []) p (h p (subst (λ (x : Ty). IsPart p x) (only_in t u k) i))
  ];
}

pub has_itself : (t : Ty) → Contains (parts_first t) t
has_itself dyn = first_in dyn []
has_itself int = first_in int []
has_itself bool = first_in bool []
has_itself str = first_in str []
has_itself nil = first_in nil []
has_itself (fun ps r) = Contains-append_right (all_parts_first ps) (parts_first r ++ fun ps r ∷ []) (fun ps r) (Contains-append_right (parts_first r) (fun ps r ∷ []) (fun ps r) (first_in (fun ps r) []))
has_itself (obj fs) = Contains-append_right (field_parts_first fs) (obj fs ∷ []) (obj fs) (first_in (obj fs) [])

pub has_among : (ps : Tys) (p : Ty) → IsAmong p ps → Contains (all_parts_first ps) p
has_among no_tys p i = absurd i
has_among (more_tys t ts) p (inl e) = Contains-append_left (parts_first t) (all_parts_first ts) p (subst (λ (x : Ty). Contains (parts_first t) x) (sym e) (has_itself t))
has_among (more_tys t ts) p (inr i) = Contains-append_right (parts_first t) (all_parts_first ts) p (has_among ts p i)

pub has_field : (fs : Fields) (p : Ty) → IsOfField p fs → Contains (field_parts_first fs) p
has_field no_fields p i = absurd i
has_field (more_fields n t fs) p (inl e) = Contains-append_left (parts_first t) (field_parts_first fs) p (subst (λ (x : Ty). Contains (parts_first t) x) (sym e) (has_itself t))
has_field (more_fields n t fs) p (inr i) = Contains-append_right (parts_first t) (field_parts_first fs) p (has_field fs p i)

leaf_closed : (t : Ty) → ((p : Ty) → IsPart p t → ⊥) → IsPartClosed (t ∷ [])
leaf_closed t h = record { part = λ u p c i. absurd (h p (subst (λ (x : Ty). IsPart p x) (only_in t u c) i)) }

pub has_part : (ps : Tys) (r p : Ty) → IsAmong p ps ⊎ (p ≡ r) → Contains (all_parts_first ps ++ parts_first r) p
has_part ps r p (inl i) = Contains-append_left (all_parts_first ps) (parts_first r) p (has_among ps p i)
has_part ps r p (inr e) = Contains-append_right (all_parts_first ps) (parts_first r) p (subst (λ (x : Ty). Contains (parts_first r) x) (sym e) (has_itself r))

mutual
  pub parts_closed : (t : Ty) → IsPartClosed (parts_first t)
  parts_closed dyn = leaf_closed dyn (λ p i. i)
  parts_closed int = leaf_closed int (λ p i. i)
  parts_closed bool = leaf_closed bool (λ p i. i)
  parts_closed str = leaf_closed str (λ p i. i)
  parts_closed nil = leaf_closed nil (λ p i. i)
  parts_closed (fun ps r) =
      rw (← append_assoc)
      (closed-push (all_parts_first ps ++ parts_first r) (fun ps r) (closed-append (all_parts_first ps) (parts_first r) (all_parts_closed ps) (parts_closed r)) (has_part ps r))
  parts_closed (obj fs) = closed-push (field_parts_first fs) (obj fs) (field_parts_closed fs) (has_field fs)

  pub all_parts_closed : (ps : Tys) → IsPartClosed (all_parts_first ps)
  all_parts_closed no_tys = closed_nil
  all_parts_closed (more_tys t ts) = closed-append (parts_first t) (all_parts_first ts) (parts_closed t) (all_parts_closed ts)

  pub field_parts_closed : (fs : Fields) → IsPartClosed (field_parts_first fs)
  field_parts_closed no_fields = closed_nil
  field_parts_closed (more_fields n t fs) = closed-append (parts_first t) (field_parts_first fs) (parts_closed t) (field_parts_closed fs)

pub each_closed : (ts : List Ty) → IsPartClosed (each_parts_first ts)
each_closed [] = closed_nil
each_closed (t ∷ ts) = closed-append (parts_first t) (each_parts_first ts) (parts_closed t) (each_closed ts)

pub each_has : (ts : List Ty) (t : Ty) → Contains ts t → Contains (each_parts_first ts) t
each_has [] t c = absurd (none_in t c)
each_has (u ∷ ts) t c =
    elim (at_head u t ts c) [
      | inl e ↦ Contains-append_left (parts_first u) (each_parts_first ts) t (subst (λ (x : Ty). Contains (parts_first u) x) (sym e) (has_itself u))
      | inr i ↦ Contains-append_right (parts_first u) (each_parts_first ts) t (each_has ts t i)
    ]

-- ---- no more than a set that is closed under parts

module _ (S : Ty → Type 0) (parts : (t p : Ty) → S t → IsPart p t → S p) where
  mutual
    pub only_parts : (t u : Ty) → S t → Contains (parts_first t) u → S u
    only_parts dyn u s c = subst S (sym (only_in dyn u c)) s
    only_parts int u s c = subst S (sym (only_in int u c)) s
    only_parts bool u s c = subst S (sym (only_in bool u c)) s
    only_parts str u s c = subst S (sym (only_in str u c)) s
    only_parts nil u s c = subst S (sym (only_in nil u c)) s
    only_parts (fun ps r) u s c =
        elim (Contains-append_cases (all_parts_first ps) (parts_first r ++ fun ps r ∷ []) u c) [
          | inl i ↦ only_all_parts ps u (λ p h. parts (fun ps r) p s (inl h)) i
          | inr i ↦ elim (Contains-append_cases (parts_first r) (fun ps r ∷ []) u i) [
            | inl j ↦ only_parts r u (parts (fun ps r) r s (inr refl)) j
            | inr j ↦ subst S (sym (only_in (fun ps r) u j)) s
          ]
        ]
    only_parts (obj fs) u s c =
        elim (Contains-append_cases (field_parts_first fs) (obj fs ∷ []) u c) [
          | inl i ↦ only_field_parts fs u (λ p h. parts (obj fs) p s h) i
          | inr j ↦ subst S (sym (only_in (obj fs) u j)) s
        ]

    pub only_all_parts : (ps : Tys) (u : Ty) → ((p : Ty) → IsAmong p ps → S p) → Contains (all_parts_first ps) u → S u
    only_all_parts no_tys u s c = absurd (none_in u c)
    only_all_parts (more_tys t ts) u s c =
        elim (Contains-append_cases (parts_first t) (all_parts_first ts) u c) [
          | inl i ↦ only_parts t u (s t (inl refl)) i
          | inr i ↦ only_all_parts ts u (λ p h. s p (inr h)) i
        ]

    pub only_field_parts : (fs : Fields) (u : Ty) → ((p : Ty) → IsOfField p fs → S p) → Contains (field_parts_first fs) u → S u
    only_field_parts no_fields u s c = absurd (none_in u c)
    only_field_parts (more_fields n t fs) u s c =
        elim (Contains-append_cases (parts_first t) (field_parts_first fs) u c) [
          | inl i ↦ only_parts t u (s t (inl refl)) i
          | inr i ↦ only_field_parts fs u (λ p h. s p (inr h)) i
        ]

  pub only_each : (ts : List Ty) (u : Ty) → ((t : Ty) → Contains ts t → S t) → Contains (each_parts_first ts) u → S u
  only_each [] u s c = absurd (none_in u c)
  only_each (t ∷ ts) u s c =
      elim (Contains-append_cases (parts_first t) (each_parts_first ts) u c) [
        | inl i ↦ only_parts t u (s t (first_in t ts)) i
        | inr i ↦ only_each ts u (λ v h. s v (in_rest t v ts h)) i
      ]
