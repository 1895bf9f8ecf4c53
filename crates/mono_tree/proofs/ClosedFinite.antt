-- The list cannot grow for ever: each member is told by which of the first types stand above it.
use Rattle.std.proofs.Common.{◌≡◌, ℕ, ◌+◌, ◌*◌, ◌^◌, ◌<◌, ◌≤◌, true, false, Bool, List, [], ◌∷◌, length, inl, inr, refl, sym, ◌∙◌, subst, arith}
use Rattle.std.specs.Prelude.{Contains}
use Rattle.std.proofs.Math.Nat.{pow-succ'}
use Rattle.mono_syntax.specs.Ty.{Ty, dyn, int, bool, str, nil, fun, obj, Tys, no_tys, more_tys, Fields, no_fields, more_fields}
use Rattle.mono_tree.specs.Meet.{IsMeet}
use Rattle.mono_tree.specs.Precise.{Precise, below_dyn, both_fun, both_obj, ArePrecise, both_more, HavePrecise, both_field}
use Rattle.mono_tree.specs.Precision.{precise}
use Rattle.mono_tree.proofs.Order.{reflexive, antisymmetric, transitive}
use Rattle.mono_tree.proofs.Layers.{to_layer, to_layer_all, to_layer_fields}
use Rattle.mono_tree.proofs.PreciseTest.{precise-read, precise-holds}
use Rattle.mono_tree.specs.ClosedList.{IsPartClosed, IsAmong, IsOfField, IsPart}
use Rattle.mono_tree.proofs.ClosedPuts.{none_in, at_head}

-- ---- one part is replaced

replaced : (p : Ty) (ps : Tys) → IsAmong p ps → Ty → Tys
replaced p no_tys i y = no_tys
replaced p (more_tys t ts) (inl e) y = more_tys y ts
replaced p (more_tys t ts) (inr i) y = more_tys t (replaced p ts i y)

replaced_field : (p : Ty) (fs : Fields) → IsOfField p fs → Ty → Fields
replaced_field p no_fields i y = no_fields
replaced_field p (more_fields n t fs) (inl e) y = more_fields n y fs
replaced_field p (more_fields n t fs) (inr i) y = more_fields n t (replaced_field p fs i y)

still_precise : (p y : Ty) (ps qs : Tys) (i : IsAmong p ps) → ((q : Ty) → IsAmong q qs → Precise p q → Precise y q) → ArePrecise ps qs → ArePrecise (replaced p ps i y) qs
unfolding replaced
still_precise p y no_tys qs i k h = absurd i
still_precise p y (more_tys t ts) no_tys i k h = absurd (to_layer_all h)
still_precise p y (more_tys t ts) (more_tys u us) (inl e) k h =
    let l = to_layer_all h in
    both_more (k u (inl refl) (subst (λ (x : Ty). Precise x u) (sym e) l.0)) l.1
still_precise p y (more_tys t ts) (more_tys u us) (inr i) k h =
    let l = to_layer_all h in
    both_more l.0 (still_precise p y ts us i (λ q j. k q (inr j)) l.1)

still_field : (p y : Ty) (ps qs : Fields) (i : IsOfField p ps) → ((q : Ty) → IsOfField q qs → Precise p q → Precise y q) → HavePrecise ps qs → HavePrecise (replaced_field p ps i y) qs
unfolding replaced_field
still_field p y no_fields qs i k h = absurd i
still_field p y (more_fields n t ts) no_fields i k h = absurd (to_layer_fields h)
still_field p y (more_fields n t ts) (more_fields m u us) (inl e) k h =
    let l = to_layer_fields h in
    both_field l.0 (k u (inl refl) (subst (λ (x : Ty). Precise x u) (sym e) l.1)) l.2
still_field p y (more_fields n t ts) (more_fields m u us) (inr i) k h =
    let l = to_layer_fields h in
    both_field l.0 l.1 (still_field p y ts us i (λ q j. k q (inr j)) l.2)

replaced_read : (p y : Ty) (ps : Tys) (i : IsAmong p ps) → ArePrecise (replaced p ps i y) ps → Precise y p
unfolding replaced
replaced_read p y no_tys i h = absurd i
replaced_read p y (more_tys t ts) (inl e) h = subst (λ (x : Ty). Precise y x) (sym e) (to_layer_all h).0
replaced_read p y (more_tys t ts) (inr i) h = replaced_read p y ts i (to_layer_all h).1

field_read : (p y : Ty) (ps : Fields) (i : IsOfField p ps) → HavePrecise (replaced_field p ps i y) ps → Precise y p
unfolding replaced_field
field_read p y no_fields i h = absurd i
field_read p y (more_fields n t ts) (inl e) h = subst (λ (x : Ty). Precise y x) (sym e) (to_layer_fields h).1
field_read p y (more_fields n t ts) (inr i) h = field_read p y ts i (to_layer_fields h).2

-- ---- a type that is the greatest below those of the list that stand above it

module _ (gs : List Ty) (closed : IsPartClosed gs) where
  -- y stands below all that x stands below
  abbrev pub IsAsLow : Ty → Ty → Type 0
  IsAsLow x y = (g : Ty) → Contains gs g → Precise x g → Precise y g

  pub record IsTold (x : Ty) : Type 0 where
    pub greatest : (y : Ty) → IsAsLow x y → Precise y x

  pub told_member : (g : Ty) → Contains gs g → IsTold g
  told_member g c = record { greatest = λ y low. low g c (reflexive g) }

  pub told_meet : (a b m : Ty) → IsTold a → IsTold b → IsMeet m a b → IsTold m
  told_meet a b m p q is = record {
    greatest = λ y low. is.greatest y
        (p.greatest y (λ g c l. low g c (transitive is.left l)))
        (q.greatest y (λ g c l. low g c (transitive is.right l)));
  }

  low_fun : (ps : Tys) (r : Ty) (qs : Tys) (s : Ty) → ((g : Ty) → Contains gs g → Precise (fun ps r) g → Precise (fun qs s) g) → IsAsLow (fun ps r) (fun qs s)
  low_fun ps r qs s h = h

  param_low : (ps : Tys) (r p y : Ty) (i : IsAmong p ps) → IsAsLow p y → (g : Ty) → Contains gs g → Precise (fun ps r) g → Precise (fun (replaced p ps i y) r) g
  param_low ps r p y i low dyn c h = below_dyn
  param_low ps r p y i low (fun qs s) c h =
      let l = to_layer h in
      both_fun (still_precise p y ps qs i (λ q j. low q (closed.part (fun qs s) q c (inl j))) l.0) l.1
  param_low ps r p y i low int c h = absurd (to_layer h)
  param_low ps r p y i low bool c h = absurd (to_layer h)
  param_low ps r p y i low str c h = absurd (to_layer h)
  param_low ps r p y i low nil c h = absurd (to_layer h)
  param_low ps r p y i low (obj fs) c h = absurd (to_layer h)

  result_low : (ps : Tys) (r y : Ty) → IsAsLow r y → (g : Ty) → Contains gs g → Precise (fun ps r) g → Precise (fun ps y) g
  result_low ps r y low dyn c h = below_dyn
  result_low ps r y low (fun qs s) c h = let l = to_layer h in both_fun l.0 (low s (closed.part (fun qs s) s c (inr refl)) l.1)
  result_low ps r y low int c h = absurd (to_layer h)
  result_low ps r y low bool c h = absurd (to_layer h)
  result_low ps r y low str c h = absurd (to_layer h)
  result_low ps r y low nil c h = absurd (to_layer h)
  result_low ps r y low (obj fs) c h = absurd (to_layer h)

  field_low : (fs : Fields) (p y : Ty) (i : IsOfField p fs) → IsAsLow p y → (g : Ty) → Contains gs g → Precise (obj fs) g → Precise (obj (replaced_field p fs i y)) g
  field_low fs p y i low dyn c h = below_dyn
  field_low fs p y i low (obj ks) c h = both_obj (still_field p y fs ks i (λ q j. low q (closed.part (obj ks) q c j)) (to_layer h))
  field_low fs p y i low int c h = absurd (to_layer h)
  field_low fs p y i low bool c h = absurd (to_layer h)
  field_low fs p y i low str c h = absurd (to_layer h)
  field_low fs p y i low nil c h = absurd (to_layer h)
  field_low fs p y i low (fun qs s) c h = absurd (to_layer h)

  pub told_part : (t p : Ty) → IsTold t → IsPart p t → IsTold p
  told_part (fun ps r) p told (inl i) = record {
    greatest = λ y low. replaced_read p y ps i (to_layer (told.greatest (fun (replaced p ps i y) r) (param_low ps r p y i low))).0;
  }
  told_part (fun ps r) p told (inr e) = record {
    greatest = λ y low. let l : IsAsLow r y = subst (λ (x : Ty). IsAsLow x y) e low in
        subst (λ (x : Ty). Precise y x) (sym e) (to_layer (told.greatest (fun ps y) (result_low ps r y l))).1;
  }
  told_part (obj fs) p told i = record {
    greatest = λ y low. field_read p y fs i (to_layer (told.greatest (obj (replaced_field p fs i y)) (field_low fs p y i low)));
  }
  told_part dyn p told i = absurd i
  told_part int p told i = absurd i
  told_part bool p told i = absurd i
  told_part str p told i = absurd i
  told_part nil p told i = absurd i

-- ---- which types stand above, as a number

abbrev bit : Bool → ℕ
bit true = 1
bit false = 0

abbrev pub above : List Ty → Ty → ℕ
above [] x = 0
above (g ∷ gs) x = bit (precise x g) + 2 * above gs x

bit_small : (b : Bool) → bit b ≤ 1
bit_small true = omega arith
bit_small false = omega arith

pub above-below : (gs : List Ty) (x : Ty) → above gs x < 2 ^ length gs
above-below [] x = lit
  where
    lit : 0 < 2 ^ 0
    lit = omega arith
above-below (g ∷ gs) x =
    let h : above gs x < 2 ^ length gs = above-below gs x in
    let b : bit (precise x g) ≤ 1 = bit_small (precise x g) in
    rw pow-succ' (omega (arith, h, b))

bits_same : (a b : Bool) (m n : ℕ) → bit a + 2 * m ≡ bit b + 2 * n → (a ≡ b) × (m ≡ n)
bits_same true true m n e = (refl, omega arith)
bits_same false false m n e = (refl, omega arith)
bits_same true false m n e = absurd (omega arith)
bits_same false true m n e = absurd (omega arith)

same_above : (gs : List Ty) (x y : Ty) → above gs x ≡ above gs y → (g : Ty) → Contains gs g → precise x g ≡ precise y g
same_above [] x y e g c = absurd (none_in g c)
same_above (k ∷ gs) x y e g c =
    let s = bits_same (precise x k) (precise y k) (above gs x) (above gs y) e in
    elim (at_head k g gs c) [
      | inl h ↦ subst (λ (z : Ty). precise x z ≡ precise y z) (sym h) s.0
      | inr i ↦ same_above gs x y s.1 g i
    ]

pub above_tells : (gs : List Ty) (closed : IsPartClosed gs) (x y : Ty) → IsTold gs closed x → IsTold gs closed y → above gs x ≡ above gs y → x ≡ y
above_tells gs closed x y p q e =
    antisymmetric
    (q.greatest x (λ g c h. precise-read x g (same_above gs x y e g c ∙ precise-holds h)))
    (p.greatest y (λ g c h. precise-read y g (sym (same_above gs x y e g c) ∙ precise-holds h)))
