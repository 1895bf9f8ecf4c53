-- Fields in order, and types that annotations write.
use Rattle.std.proofs.Common.{◌≡◌, ◌∙◌, sym, ap, subst, refl, ℕ, ◌+◌, ◌≤◌, Bool, true, false, List, [], ◌∷◌, map, arith, inl, inr}
use Rattle.std.specs.Prelude.{Some, Contains, bytes_eq, if◌then◌else◌}
use Rattle.std.specs.List.Sorted.{IsPermutation}
use Rattle.std.specs.Ordering.{nat_cmp, is_gt, is_eq, ordering_reverse}
use Rattle.std.specs.Cmp.Lexicographic.{slice_cmp}
use Rattle.std.specs.declared.cmp.Ordering.{Ordering}
use Rattle.std.specs.declared.cmp.Ordering.TheVariants.{Less, Equal, Greater}
use Rattle.std.proofs.lemmas.Cmp.{nat_list_cmp_total}
use Rattle.std.proofs.lemmas.List.Sorted.{IsPermutation-refl, IsPermutation-cons, IsPermutation-swap, IsPermutation-trans, IsPermutation-sym, Contains-permutation}
use Rattle.std.proofs.lemmas.Map.Text.{is_eq-slice_cmp}
use Rattle.std.proofs.lemmas.Slice.Eq.{bytes_eq-Decides}
use Rattle.mono_syntax.specs.Limits.{most_parameters}
use Rattle.mono_syntax.specs.declared.tree.ClassDef.{ClassDef}
use Rattle.mono_syntax.specs.declared.tree.FieldDef.{FieldDef}
use Rattle.mono_syntax.specs.Ann.{Ann, Anns}
use Rattle.mono_syntax.specs.Ty.{Ty, Tys, Fields, no_fields, more_fields}
use Rattle.mono_tree.specs.FieldNames.{names_of}
use Rattle.mono_tree.specs.IsType.{IsBefore, AreInOrder, IsType, AreTypes, HaveTypes, tys_count}
use Rattle.script_rules.specs.Definitions.{class_named}
use Rattle.script_rules.specs.Writes.{put_field, in_order, Writes, writes_dyn, writes_int, writes_bool, writes_str, writes_nil, writes_class, writes_fun, WriteAll, write_none, write_more, Declares, declares_none, declares_more}
use Rattle.script_rules.specs.SourceParts.{Counted, callables, callables_all, count_of}
use Rattle.script_rules.specs.WellFormed.{AreApart, IsNarrow, AreWellFormed}
use Rattle.class_types.proofs.Gets.{some_is, none_some}
use Rattle.class_types.proofs.OrderLaws.{In, in-left, in-right, in-contains, contains-in}

-- ---- the names are kept

put-names : (n : List ℕ) (t : Ty) (fs : Fields) → IsPermutation (n ∷ names_of fs) (names_of (put_field n t fs))
put-names n t no_fields = IsPermutation-refl (n ∷ [])
put-names n t (more_fields k u fs) = go (is_gt (slice_cmp nat_cmp n k)) (put-names n t fs)
  where
    go : (b : Bool) → IsPermutation (n ∷ names_of fs) (names_of (put_field n t fs))
        → IsPermutation (n ∷ k ∷ names_of fs) (names_of (if b then more_fields k u (put_field n t fs) else more_fields n t (more_fields k u fs)))
    go true h = IsPermutation-trans (n ∷ k ∷ names_of fs) (k ∷ n ∷ names_of fs) (k ∷ names_of (put_field n t fs))
        (IsPermutation-swap (n ∷ k ∷ names_of fs) (k ∷ n ∷ names_of fs) 0 1 (omega arith) (omega arith) refl)
        (IsPermutation-cons k (n ∷ names_of fs) (names_of (put_field n t fs)) h)
    go false h = IsPermutation-refl (n ∷ k ∷ names_of fs)

pub order-names : (fs : Fields) → IsPermutation (names_of fs) (names_of (in_order fs))
order-names no_fields = IsPermutation-refl []
order-names (more_fields n t fs) = IsPermutation-trans (n ∷ names_of fs) (n ∷ names_of (in_order fs)) (names_of (put_field n t (in_order fs)))
    (IsPermutation-cons n (names_of fs) (names_of (in_order fs)) (order-names fs)) (put-names n t (in_order fs))

-- ---- distinct names come in order

before-put : (k n : List ℕ) (t : Ty) (fs : Fields) → slice_cmp nat_cmp k n ≡ Less → IsBefore k (names_of fs) → IsBefore k (names_of (put_field n t fs))
before-put k n t no_fields h b = (h, tt)
before-put k n t (more_fields m u fs) h b = go (is_gt (slice_cmp nat_cmp n m)) (before-put k n t fs h b.1)
  where
    go : (c : Bool) → IsBefore k (names_of (put_field n t fs)) → IsBefore k (names_of (if c then more_fields m u (put_field n t fs) else more_fields n t (more_fields m u fs)))
    go true rest = (b.0, rest)
    go false rest = (h, b)

before-trans : (n k : List ℕ) (ns : List (List ℕ)) → slice_cmp nat_cmp n k ≡ Less → IsBefore k ns → IsBefore n ns
before-trans n k [] h b = tt
before-trans n k (m ∷ ns) h b = (nat_list_cmp_total.trans n k m h b.0, before-trans n k ns h b.1)

same-name : (n k : List ℕ) → slice_cmp nat_cmp n k ≡ Equal → n ≡ k
same-name n k e = (bytes_eq-Decides n k).0 (sym (is_eq-slice_cmp n k) ∙ ap is_eq e)

put-order : (n : List ℕ) (t : Ty) (fs : Fields) → AreInOrder (names_of fs) → (Contains (names_of fs) n → ⊥) → AreInOrder (names_of (put_field n t fs))
put-order n t no_fields h new = (tt, tt)
put-order n t (more_fields k u fs) h new = go (slice_cmp nat_cmp n k) refl (put-order n t fs h.1 (λ c. new (in-contains n (k ∷ names_of fs) (inr (contains-in n (names_of fs) c)))))
  where
    go : (o : Ordering) → slice_cmp nat_cmp n k ≡ o → AreInOrder (names_of (put_field n t fs))
        → AreInOrder (names_of (if is_gt o then more_fields k u (put_field n t fs) else more_fields n t (more_fields k u fs)))
    go Less e rest = ((e, before-trans n k (names_of fs) e h.0), h)
    go Equal e rest = absurd (new (in-contains n (k ∷ names_of fs) (inl (sym (same-name n k e)))))
    go Greater e rest = (before-put k n t fs (nat_list_cmp_total.antisymm k n ∙ ap ordering_reverse e) h.0, rest)

pub order-order : (fs : Fields) → AreApart (names_of fs) → AreInOrder (names_of (in_order fs))
order-order no_fields h = tt
order-order (more_fields n t fs) h = put-order n t (in_order fs) (order-order fs h.1)
    (λ c. h.0 (Contains-permutation (names_of (in_order fs)) (names_of fs) n (IsPermutation-sym (names_of fs) (names_of (in_order fs)) (order-names fs)) c))

-- ---- types

put-types : (n : List ℕ) (t : Ty) (fs : Fields) → IsType t → HaveTypes fs → HaveTypes (put_field n t fs)
put-types n t no_fields h g = (h, tt)
put-types n t (more_fields k u fs) h g = go (is_gt (slice_cmp nat_cmp n k)) (put-types n t fs h g.1)
  where
    go : (b : Bool) → HaveTypes (put_field n t fs) → HaveTypes (if b then more_fields k u (put_field n t fs) else more_fields n t (more_fields k u fs))
    go true rest = (g.0, rest)
    go false rest = (h, g)

pub order-types : (fs : Fields) → HaveTypes fs → HaveTypes (in_order fs)
order-types no_fields h = tt
order-types (more_fields n t fs) h = put-types n t (in_order fs) h.0 (order-types fs h.1)

named-contains : (cs : List ClassDef) (x : List ℕ) (d : ClassDef) → class_named cs x ≡ Some d → In d cs
named-contains [] x d e = none_some e
named-contains (c ∷ cs) x d e = go (bytes_eq c.name.text x) e (named-contains cs x d)
  where
    go : (b : Bool) → (if b then Some c else class_named cs x) ≡ Some d → (class_named cs x ≡ Some d → In d cs) → In d (c ∷ cs)
    go true h later = inl (some_is h)
    go false h later = inr (later h)

declared-names : {cs : List ClassDef} {ds : List FieldDef} {fs : Fields} → Declares cs ds fs → names_of fs ≡ map (λ f. f.name.text) ds
declared-names declares_none = refl
declared-names (declares_more {d = d} a ds) = ap (λ l. d.name.text ∷ l) (declared-names ds)

as-many : {cs : List ClassDef} {as_ : Anns} {ts : Tys} → WriteAll cs as_ ts → tys_count ts ≡ count_of as_
as-many write_none = refl
as-many (write_more a as_) = ap (λ n. n + 1) (as-many as_)

-- every Callable here is narrow
abbrev Narrow : List Counted → Type 0
Narrow l = (c : Counted) → In c l → c.count ≤ most_parameters

module _ (cs : List ClassDef) (well : AreWellFormed cs) where
  mutual
    writes-type : {a : Ann} {t : Ty} → Writes cs a t → Narrow (callables a) → IsType t
    writes-type writes_dyn h = tt
    writes-type writes_int h = tt
    writes-type writes_bool h = tt
    writes-type writes_str h = tt
    writes-type writes_nil h = tt
    writes-type (writes_class {w = w} {d = d} {fs = fs} is ds e) h =
        let stands = in-contains d cs (named-contains cs w.text d is) in
        let apart : AreApart (names_of fs) = subst AreApart (sym (declared-names ds)) (well.apart d stands) in
        subst IsType (sym e) (order-order fs apart, order-types fs (declares-types ds (λ f i c ci. well.narrow d f stands (in-contains f d.fields i) c (in-contains c (callables f.ann) ci))))
    writes-type (writes_fun {p = p} {as_ = as_} {a = a} ws w) h =
        let count : tys_count _ ≡ count_of as_ = as-many ws in
        let most : count_of as_ ≤ most_parameters = h (record { place = p; count = count_of as_ }) (inl refl) in (
          subst (λ n. n ≤ most_parameters) (sym count) most,
          all-types ws (λ c i. h c (inr (in-left c (callables_all as_) (callables a) i))),
          writes-type w (λ c i. h c (inr (in-right c (callables_all as_) (callables a) i))),
        )

    all-types : {as_ : Anns} {ts : Tys} → WriteAll cs as_ ts → Narrow (callables_all as_) → AreTypes ts
    all-types write_none h = tt
    all-types (write_more {a = a} {as_ = as_} w ws) h =
        (writes-type w (λ c i. h c (in-left c (callables a) (callables_all as_) i)), all-types ws (λ c i. h c (in-right c (callables a) (callables_all as_) i)))

    declares-types : {ds : List FieldDef} {fs : Fields} → Declares cs ds fs → ((f : FieldDef) → In f ds → Narrow (callables f.ann)) → HaveTypes fs
    declares-types declares_none h = tt
    declares-types (declares_more {d = d} w ds) h = (writes-type w (h d (inl refl)), declares-types ds (λ f i. h f (inr i)))

  pub written-type : (a : Ann) (t : Ty) → IsNarrow a → Writes cs a t → IsType t
  written-type a t h w = writes-type w (λ c i. h c (in-contains c (callables a) i))
