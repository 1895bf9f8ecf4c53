-- The sizes of classes in rounds.
use Rattle.std.proofs.Common.{◌≡◌, ◌∙◌, ap, subst, refl, ℕ, zero, suc, ◌≤◌, List, [], ◌∷◌, length, map, replicate, arith}
use Rattle.std.proofs.lemmas.List.{length-replicate}
use Rattle.std.specs.Prelude.{Option, Some, None, slice_get}
use Rattle.std.specs.Option.{option_map}
use Rattle.mono_syntax.specs.declared.tree.ClassDef.{ClassDef}
use Rattle.mono_syntax.specs.Ty.{Ty}
use Rattle.mono_tree.specs.declared.size.Size.{Size}
use Rattle.class_types.specs.computed.Made.{look, class_by, names_of_classes}
use Rattle.mono_tree.specs.computed.CountedSizes.{measured}
use Rattle.class_types.specs.computed.Measured.{class_size_by, stray_type, AreMeasured}
use Rattle.class_types.specs.computed.Rounds.{round, unknown, visit_class, visited}
use Rattle.class_types.proofs.MadeLaws.{class-grows}
use Rattle.class_types.proofs.MeasureLaws.{round-map, unknown-map, filled-map}
use Rattle.class_types.proofs.RoundLaws.{IsPartial, start-partial, whole-partial, round-done, round-fewer, round-length, unknown-length, visited-partial, visited-length}

-- these are sizes of types that classes have, as far as they are known
pub record ArePartlyMeasured (ns : List (List ℕ)) (cs : List ClassDef) (stray : Option Size) (sizes : List (Option Size)) : Type 0 where
  pub own : List (Option Ty)
  pub measured : sizes ≡ map (option_map measured) own
  pub each : IsPartial class_by ns (stray_type stray) cs own
  pub even : length own ≡ length cs

module _ (ns : List (List ℕ)) (cs : List ClassDef) (stray : Option Size) (plain : stray ≡ option_map measured (stray_type stray)) where
  map-none : (n : ℕ) → replicate n None ≡ map (option_map measured) (replicate n None)
  map-none zero = refl
  map-none (suc n) = ap (λ l. None ∷ l) (map-none n)

  visited-map : (order : List ℕ) (own : List (Option Ty))
      → visited class_size_by ns (option_map measured (stray_type stray)) cs order (map (option_map measured) own) ≡ map (option_map measured) (visited class_by ns (stray_type stray) cs order own)
  visited-map [] own = refl
  visited-map (at ∷ order) own = ap (visited class_size_by ns (option_map measured (stray_type stray)) cs order) (go (slice_get cs at)) ∙ visited-map order _
    where
      go : (o : Option ClassDef) → visit_class class_size_by ns (option_map measured (stray_type stray)) o (map (option_map measured) own) at ≡ map (option_map measured) (visit_class class_by ns (stray_type stray) o own at)
      go None = refl
      go (Some d) = filled-map ns (stray_type stray) d own at

  pub sized-start : (none sizes : List (Option Size)) (order : List ℕ) → none ≡ replicate (length cs) None
      → sizes ≡ visited class_size_by ns stray cs order none → ArePartlyMeasured ns cs stray sizes
  sized-start none sizes order n e = record {
    own = visited class_by ns (stray_type stray) cs order (replicate (length cs) None);
    measured = e ∙ ((λ i. visited class_size_by ns (plain i) cs order (n i)) ∙ (ap (visited class_size_by ns (option_map measured (stray_type stray)) cs order) (map-none (length cs)) ∙ visited-map order (replicate (length cs) None)));
    each = visited-partial class_by class-grows ns (stray_type stray) cs order _ (start-partial class_by class-grows ns (stray_type stray) cs (length cs));
    even = visited-length class_by class-grows ns (stray_type stray) cs order _ ∙ length-replicate (length cs) None;
  }

  round-sizes : (sizes next : List (Option Size)) (h : ArePartlyMeasured ns cs stray sizes) → next ≡ round class_size_by ns stray cs sizes 0
      → next ≡ map (option_map measured) (round class_by ns (stray_type stray) cs h.own 0)
  round-sizes sizes next h e = e ∙ ((λ i. round class_size_by ns (plain i) cs (h.measured i) 0) ∙ round-map ns (stray_type stray) cs h.own 0)

  pub sized-next : (sizes next : List (Option Size)) → ArePartlyMeasured ns cs stray sizes → next ≡ round class_size_by ns stray cs sizes 0 → ArePartlyMeasured ns cs stray next
  sized-next sizes next h e = record {
    own = round class_by ns (stray_type stray) cs h.own 0;
    measured = round-sizes sizes next h e;
    each = whole-partial class_by class-grows ns (stray_type stray) cs h.own _ h.each refl;
    even = round-length class_by class-grows ns (stray_type stray) cs h.own 0 ∙ h.even;
  }

  pub sized-fewer : (sizes next : List (Option Size)) → ArePartlyMeasured ns cs stray sizes → next ≡ round class_size_by ns stray cs sizes 0 → unknown next ≤ unknown sizes
  sized-fewer sizes next h e =
      let after : unknown next ≡ unknown (round class_by ns (stray_type stray) cs h.own 0) = ap unknown (round-sizes sizes next h e) ∙ unknown-map (round class_by ns (stray_type stray) cs h.own 0) in
      let before : unknown sizes ≡ unknown h.own = ap unknown h.measured ∙ unknown-map h.own in
      let fewer : unknown (round class_by ns (stray_type stray) cs h.own 0) ≤ unknown h.own = round-fewer class_by class-grows ns (stray_type stray) cs h.own 0 in
      omega arith

  pub sized-done : (sizes next : List (Option Size)) (left : ℕ) → ns ≡ names_of_classes cs → ArePartlyMeasured ns cs stray sizes → unknown sizes ≤ left
      → next ≡ round class_size_by ns stray cs sizes 0 → unknown next ≡ left → AreMeasured cs stray next
  sized-done sizes next left names h most e same =
      let own = round class_by ns (stray_type stray) cs h.own 0 in
      let after : unknown next ≡ unknown own = ap unknown (round-sizes sizes next h e) ∙ unknown-map (round class_by ns (stray_type stray) cs h.own 0) in
      let before : unknown sizes ≡ unknown h.own = ap unknown h.measured ∙ unknown-map h.own in
      record {
        own = own;
        measured = round-sizes sizes next h e;
        settled = subst (λ l. own ≡ map (class_by (look l own (stray_type stray))) cs) names
            (round-done class_by class-grows ns (stray_type stray) cs h.own own left h.even h.each (omega arith) refl (omega arith));
      }

  pub sized-left : (sizes : List (Option Size)) → ArePartlyMeasured ns cs stray sizes → unknown sizes ≤ length cs
  sized-left sizes h =
      let before : unknown sizes ≡ unknown h.own = ap unknown h.measured ∙ unknown-map h.own in
      let most : unknown h.own ≤ length h.own = unknown-length h.own in
      let even : length h.own ≡ length cs = h.even in
      omega arith
