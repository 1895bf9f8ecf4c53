-- A given type goes to the end with its shape, and the lists of names may grow.
use Rattle.std.proofs.Common.{◌≡◌, ℕ, Bool, false, List, [], ◌∷◌, ◌++◌, refl, sym, ◌∙◌, ap, subst, cond}
use Rattle.std.specs.Prelude.{Some, Contains}
use Rattle.std.specs.List.{list_any}
use Rattle.std.proofs.lemmas.Option.{slice_get-get_or}
use Rattle.indexmap.proofs.CallerLemmas.{Contains-list_any}
use Rattle.mono_list.proofs.Cases.{split}
use Rattle.mono_syntax.specs.Ty.{Ty, dyn, int, bool, str, nil, fun, obj}
use Rattle.mono_syntax.specs.computed.TyEq.{ty_eq}
use Rattle.mono_tree.specs.FieldNames.{names_of}
use Rattle.type_shapes.specs.declared.shape.Head.{Head}
use Rattle.type_shapes.specs.declared.shape.Shape.{Shape}
use Rattle.type_shapes.specs.computed.ShapeEq.{shape_eq}
use Rattle.type_shapes.specs.ShapeEqLaws.{shape_eq-is}
use Rattle.type_shapes.specs.Shows.{HasHead, Shows, IsOnce}
use Rattle.mono_tree.specs.ClosedList.{put}
use Rattle.type_shapes.specs.Numbered.{HasShape, IsNumbered, IsKept}
use Rattle.mono_tree.proofs.ClosedPuts.{isnt_there}
use Rattle.mono_tree.proofs.ClosedMembers.{get_in}
use Rattle.type_shapes.proofs.Going.{number_shows}
use Rattle.type_shapes.proofs.Pushes.{numbered_put}

head_kept : (names more : List (List (List ℕ))) → IsKept names more → (h : Head) (t : Ty) → HasHead names h t → HasHead more h t
head_kept names more k h dyn p = p
head_kept names more k h int p = p
head_kept names more k h bool p = p
head_kept names more k h str p = p
head_kept names more k h nil p = p
head_kept names more k h (fun ps r) p = p
head_kept names more k h (obj fs) p = (p.0, p.1, k p.0 (names_of fs) p.2)

shows_kept : (names more : List (List (List ℕ))) → IsKept names more → (ts : List Ty) (s : Shape) (t : Ty) → Shows names ts s t → Shows more ts s t
shows_kept names more k ts s t p = record { head = head_kept names more k s.head t p.head; parts = p.parts }

numbered_names : (names more : List (List (List ℕ))) (ts : List Ty) (ss : List Shape) → IsKept names more → IsOnce more → IsNumbered names ts ss → IsNumbered more ts ss
numbered_names names more ts ss k o is = record {
  names_once = o;
  even = is.even;
  distinct = is.distinct;
  part_closed = is.part_closed;
  shaped = λ i t e. let h : HasShape names ts ss i t = is.shaped i t e in record { shape = h.shape; at = h.at; shows = shows_kept names more k ts h.shape t h.shows; below = h.below };
  typed = is.typed;
}

shape_absent : (names : List (List (List ℕ))) (ts : List Ty) (ss : List Shape) → IsNumbered names ts ss → (s : Shape) (m : Ty) → Shows names ts s m → (Contains ts m → ⊥) → list_any (shape_eq s) ss ≡ false
shape_absent names ts ss is s m p n = split (list_any (shape_eq s) ss) (λ b. list_any (shape_eq s) ss ≡ b → b ≡ false)
    (λ y e. let (k, l, f) = Contains-list_any shape_eq shape_eq-is ss s e in
    absurd (n (get_in ts k m (number_shows names ts ss is k s m (slice_get-get_or ss k s l ∙ ap (λ (x : Shape). Some x) f) p))))
    (λ f e. refl) refl

pub numbered_given : (names more : List (List (List ℕ))) (ts us : List Ty) (ss zs : List Shape) (s : Shape) (m : Ty) → IsKept names more → IsOnce more → IsNumbered names ts ss → Shows more ts s m
    → list_any (ty_eq m) ts ≡ false → us ≡ put ts m → zs ≡ cond (list_any (shape_eq s) ss) ss (ss ++ s ∷ []) → IsNumbered more us zs
numbered_given names more ts us ss zs s m k o is p n e f =
    let js : IsNumbered more ts ss = numbered_names names more ts ss k o is in
    let a : list_any (shape_eq s) ss ≡ false = shape_absent more ts ss js s m p (isnt_there ts m n) in
    subst (λ (x : List Ty). IsNumbered more x zs) (sym e)
    (subst (λ (x : List Shape). IsNumbered more (put ts m) x) (sym (f ∙ ap (λ (b : Bool). cond b ss (ss ++ s ∷ [])) a))
    (numbered_put more ts ss js s m p a))
