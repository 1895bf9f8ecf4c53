-- In a script whose names are right every annotation writes a type, and what is collected are the types that the script writes.
use Rattle.std.proofs.Common.{◌≡◌, ◌∙◌, sym, ap, subst, refl, ℕ, ◌+◌, List, [], ◌∷◌, ◌++◌, length, append_assoc}
use Rattle.std.specs.Prelude.{Option, Some, None, flat_map, slice_get}
use Rattle.std.proofs.lemmas.List.{length-append, append-nil}
use Rattle.mono_list.proofs.Cases.{none_some}
use Rattle.mono_syntax.specs.declared.cast.NamedType.{NamedType}
use Rattle.mono_syntax.specs.declared.tree.ClassDef.{ClassDef}
use Rattle.mono_syntax.specs.declared.tree.FuncDef.{FuncDef}
use Rattle.mono_syntax.specs.declared.tree.Item.{Item}
use Rattle.mono_syntax.specs.declared.tree.Item.TheVariants as item
use Rattle.mono_syntax.specs.declared.tree.Script.{Script}
use Rattle.mono_syntax.specs.Ann.{Ann, ann, Anns, no_anns, more_anns}
use Rattle.mono_syntax.specs.Ann as form
use Rattle.mono_syntax.specs.StmtView.{block}
use Rattle.mono_syntax.specs.Ty.{Ty, dyn, int, bool, str, nil, fun}
use Rattle.mono_syntax.specs.TyView.{tys, fields}
use Rattle.mono_tree.specs.TypedPrograms.{type_of_name}
use Rattle.script_rules.specs.Definitions.{classes_of, functions_of, statements_of, class_named}
use Rattle.script_rules.specs.Occurrences.{in_ann, in_anns, in_any_ann, in_param, in_block, in_stmt, body_of, in_main}
use Rattle.script_rules.specs.Scoping.{class_list, function_list}
use Rattle.script_rules.specs.FirstFault.{IsFaultless}
use Rattle.script_rules.specs.ScopeFaults.{ScopeFault}
use Rattle.script_rules.specs.SourceParts.{Part, annotation, arguments, body_parts, stmt_parts}
use Rattle.script_rules.specs.Writes.{Writes}
use Rattle.known_names.specs.declared.known.Known.{Known}
use Rattle.known_names.specs.declared.known.KnownClass.{KnownClass}
use Rattle.known_names.specs.computed.Annotations.{written, written_all}
use Rattle.known_names.specs.computed.TypeTests.{type_or_dyn}
use Rattle.known_names.specs.IsKnown.{ClassesKnown, FunctionsKnown, IsKnown}
use Rattle.known_names.proofs.AnnotationLaws.{found_writes}
use Rattle.known_names.proofs.Classes.{SameType, same_type}
use Rattle.written_types.specs.declared.items.Collected.{Collected}
use Rattle.written_types.specs.computed.TypesOnto.{type_of, types_onto}
use Rattle.written_types.specs.computed.WrittenItems.{class_onto, function_onto, body_onto, line_onto, items_onto, nothing}
use Rattle.written_types.specs.ScriptTypes.{annotations_in, WriteEach, WriteItems, no_item, class_item, function_item, line_item, AreScriptTypes}
use Rattle.written_types.proofs.NamedParts.{AllHold, stmt_holds, body_holds}
use Rattle.written_types.proofs.NamesRight.{IsClassNamed, AllNamed, named_left, named_right, EachNamed, each_named, each_left, each_right}

-- the element behind those before
next_at : {A : Type 0} (xs : List A) (x : A) (ys : List A) → slice_get (xs ++ x ∷ ys) (length xs) ≡ Some x
next_at [] x ys = refl
next_at (z ∷ xs) x ys = next_at xs x ys

-- behind n elements of the list these are left
record AreLeft {A : Type 0} (all : List A) (n : ℕ) (rest : List A) : Type 0 where
  before : List A
  whole : all ≡ before ++ rest
  count : length before ≡ n

read_next : {A : Type 0} (all : List A) (n : ℕ) (x : A) (rest : List A) → AreLeft all n (x ∷ rest) → slice_get all n ≡ Some x
read_next all n x rest h = rw (h.whole, sym h.count) (next_at h.before x rest)

one_on : {A : Type 0} (all : List A) (n : ℕ) (x : A) (rest : List A) → AreLeft all n (x ∷ rest) → AreLeft all (n + 1) rest
one_on all n x rest h = record {
  before = h.before ++ x ∷ [];
  whole = h.whole ∙ sym (append_assoc h.before (x ∷ []) rest);
  count = length-append h.before (x ∷ []) ∙ ap (λ (k : ℕ). k + 1) h.count;
}

all_left : {A : Type 0} (all : List A) → AreLeft all 0 all
all_left all = record { before = []; whole = refl; count = refl }

module _ (cs : List ClassDef) (fs : List FuncDef) (ks : Known) (known : IsKnown cs fs ks) where
  -- ---- annotations

  -- a type is found for the annotation
  abbrev IsFound : Ann → Type 0
  IsFound a = (t : Ty) × (written ks.annotations a ≡ Some t)

  class_there : (d : ClassDef) (o : Option ClassDef) (u : Option Ty) → o ≡ Some d → SameType cs o u → (t : Ty) × (u ≡ Some t)
  class_there d (Some k) (Some t) e h = (t, refl)
  class_there d (Some k) None e h = absurd h
  class_there d None u e h = none_some ((t : Ty) × (u ≡ Some t)) e

  mutual
    ann_found : (a : Ann) → AllNamed (IsClassNamed cs) (in_ann a) → IsFound a
    ann_found (ann p form.dyn) h = (dyn, refl)
    ann_found (ann p form.int) h = (int, refl)
    ann_found (ann p form.bool) h = (bool, refl)
    ann_found (ann p form.str) h = (str, refl)
    ann_found (ann p form.nil) h = (nil, refl)
    ann_found (ann p (form.class w)) h =
        let d = h.0 refl in
        let same = same_type cs cs ks.annotations w.text known.annotations in
        class_there d.0 (class_named cs w.text) (type_of_name ks.annotations w.text) d.1 same
    ann_found (ann p (form.fun as_ a)) h =
        let ts = anns_found [] as_ (named_left (IsClassNamed cs) (in_anns as_) (in_ann a) h) in
        let t = ann_found a (named_right (IsClassNamed cs) (in_anns as_) (in_ann a) h) in
        (fun (tys ts.0) t.0, rw (ts.1, t.1) refl)

    anns_found : (done : List Ty) (as_ : Anns) → AllNamed (IsClassNamed cs) (in_anns as_)
        → (ts : List Ty) × (written_all ks.annotations done as_ ≡ Some ts)
    anns_found done no_anns h = (done, refl)
    anns_found done (more_anns a as_) h =
        let t = ann_found a (named_left (IsClassNamed cs) (in_ann a) (in_anns as_) h) in
        let ts = anns_found (done ++ t.0 ∷ []) as_ (named_right (IsClassNamed cs) (in_ann a) (in_anns as_) h) in
        (ts.0, rw t.1 ts.1)

  -- ---- parts

  -- the types of the annotations among these parts
  abbrev types_in : List Part → List Ty
  types_in [] = []
  types_in (annotation a ∷ ps) = type_of ks.annotations a ∷ types_in ps
  types_in (arguments c ∷ ps) = types_in ps

  onto-is : (done : List Ty) (ps : List Part) → types_onto ks.annotations done ps ≡ done ++ types_in ps
  onto-is done [] = sym (append-nil done)
  onto-is done (annotation a ∷ ps) =
      let t = type_of ks.annotations a in
      onto-is (done ++ t ∷ []) ps ∙ append_assoc done (t ∷ []) (types_in ps)
  onto-is done (arguments c ∷ ps) = onto-is done ps

  each_written : (ps : List Part) → AllHold IsFound ps → WriteEach cs (annotations_in ps) (types_in ps)
  each_written [] h = tt
  each_written (annotation a ∷ ps) h =
      let t = h.0.0 in
      (subst (λ (o : Option Ty). Writes cs a (type_or_dyn o)) (sym h.0.1) (found_writes cs fs ks known a t h.0.1), each_written ps h.1)
  each_written (arguments c ∷ ps) h = each_written ps h

  -- ---- items

  abbrev AreCollected : Collected → List Item → Type 0
  AreCollected done is = (ts : List Ty) × ((items_onto ks done is).types ≡ done.types ++ ts) × WriteItems cs is ts

  items_collected : (is : List Item) (done : Collected) (ds : List KnownClass) (ns : List NamedType)
      → AreLeft ks.classes done.classes ds → ClassesKnown cs (classes_of is) ds
      → AreLeft ks.functions done.functions ns → FunctionsKnown cs (functions_of is) ns
      → EachNamed (IsClassNamed cs) (flat_map body_of is) → AllNamed (IsClassNamed cs) (in_block (block (statements_of is)))
      → AreCollected done is
  items_collected [] done ds ns dl dk nl nk each main = ([], sym (append-nil done.types), no_item)
  items_collected (item.Class d ∷ is) done [] ns dl dk nl nk each main = absurd dk
  items_collected (item.Class d ∷ is) done (k ∷ ds) ns dl dk nl nk each main =
      let next = class_onto done (Some k) in
      let (ts, e, w) = items_collected is next ds ns (one_on ks.classes done.classes k ds dl) dk.1 nl nk each.1 main in (
        k.ty ∷ ts,
        ap (λ (o : Option KnownClass). (items_onto ks (class_onto done o) is).types) (read_next ks.classes done.classes k ds dl)
            ∙ (e ∙ append_assoc done.types (k.ty ∷ []) ts),
        class_item (record { declared = fields k.fields; fields = dk.0.declared; type = dk.0.type }) w,
      )
  items_collected (item.Def d ∷ is) done ds [] dl dk nl nk each main = absurd nk
  items_collected (item.Def d ∷ is) done ds (n ∷ ns) dl dk nl nk each main =
      let own = function_onto done (Some n) in
      let next = body_onto ks.annotations own d.body in
      let us = types_in (body_parts d.body) in
      let (ts, e, w) = items_collected is next ds ns dl dk (one_on ks.functions done.functions n ns nl) nk.2 each.1 main in
      let head = flat_map in_param d.params ++ in_any_ann d.result in
      let body = named_right (IsClassNamed cs) head (in_block (block d.body)) each.0 in
      let inside = each_written (body_parts d.body) (body_holds cs IsFound ann_found d.body body) in
      let own_type = read_next ks.functions done.functions n ns nl in (
        n.ty ∷ us ++ ts,
        ap (λ (o : Option NamedType). (items_onto ks (body_onto ks.annotations (function_onto done o) d.body) is).types) own_type
            ∙ (e
            ∙ (ap (λ (l : List Ty). l ++ ts) (onto-is own.types (body_parts d.body))
            ∙ (append_assoc own.types us ts ∙ append_assoc done.types (n.ty ∷ []) (us ++ ts)))),
        function_item us nk.1 inside w refl,
      )
  items_collected (item.Stmt s ∷ is) done ds ns dl dk nl nk each main =
      let next = line_onto ks.annotations done s in
      let us = types_in (stmt_parts s) in
      let rest = in_block (block (statements_of is)) in
      let (ts, e, w) = items_collected is next ds ns dl dk nl nk each (named_right (IsClassNamed cs) (in_stmt s) rest main) in
      let own = named_left (IsClassNamed cs) (in_stmt s) rest main in
      let inside = each_written (stmt_parts s) (stmt_holds cs IsFound ann_found s own) in (
        us ++ ts,
        e ∙ (ap (λ (l : List Ty). l ++ ts) (onto-is done.types (stmt_parts s)) ∙ append_assoc done.types us ts),
        line_item us inside w refl,
      )

-- ---- the script

pub script_collected : (s : Script) (ks : Known) → IsKnown (class_list s) (function_list s) ks → IsFaultless (ScopeFault s)
    → AreScriptTypes s (items_onto ks nothing s.items).types
script_collected s ks known right =
    let Is = IsClassNamed (class_list s) in
    let parts = (each_named s right).1 in
    let items = each_left Is (flat_map body_of s.items) (in_main s ∷ []) parts in
    let main = each_right Is (flat_map body_of s.items) (in_main s ∷ []) parts in
    let (ts, e, w) = items_collected (class_list s) (function_list s) ks known s.items nothing ks.classes ks.functions
    (all_left ks.classes) known.classes (all_left ks.functions) known.functions items main.0 in
    subst (λ (l : List Ty). WriteItems (class_list s) s.items l) (sym e) w
