-- In a script whose names are right each name in a type is a class's.
use Rattle.std.proofs.Common.{◌≡◌, ◌∙◌, sym, ap, subst, refl, ℕ, zero, suc, cond, ◌⊎◌, inl, inr, List, [], ◌∷◌, ◌++◌, append_assoc, arith}
use Rattle.std.specs.Prelude.{Option, Some, None, Contains, IsTrue, flat_map, bytes_eq}
use Rattle.mono_list.proofs.Cases.{split, split_option, none_some}
use Rattle.mono_tree.proofs.MeetMade.{named}
use Rattle.mono_syntax.specs.declared.refusal.Reason.TheVariants.{UnknownName}
use Rattle.mono_syntax.specs.declared.tree.ClassDef.{ClassDef}
use Rattle.mono_syntax.specs.declared.tree.Item.{Item}
use Rattle.mono_syntax.specs.declared.tree.Item.TheVariants as item
use Rattle.mono_syntax.specs.declared.tree.Script.{Script}
use Rattle.script_rules.specs.declared.occurrence.Occurrence.{Occurrence}
use Rattle.script_rules.specs.declared.occurrence.Role.TheVariants as role
use Rattle.script_rules.specs.Definitions.{classes_of, class_named}
use Rattle.script_rules.specs.FirstFault.{IsFaultless}
use Rattle.script_rules.specs.NameFaults.{unknown_type}
use Rattle.script_rules.specs.NameRules.{Stands, is_class}
use Rattle.script_rules.specs.Occurrences.{defined_by, definitions, bodies}
use Rattle.script_rules.specs.ScopeFaults.{ScopeFault}
use Rattle.script_rules.specs.Scoping.{class_list}

-- where the name stands in a type, it is a class's
abbrev pub IsClassNamed : List ClassDef → Occurrence → Type 0
IsClassNamed cs o = o.role ≡ role.Typed → (d : ClassDef) × (class_named cs o.text ≡ Some d)

-- this holds of all these occurrences
abbrev pub AllNamed : (Occurrence → Type 0) → List Occurrence → Type 0
AllNamed Is [] = Unit {0}
AllNamed Is (o ∷ os) = Is o × AllNamed Is os

pub named_left : (Is : Occurrence → Type 0) (os ps : List Occurrence) → AllNamed Is (os ++ ps) → AllNamed Is os
named_left Is [] ps h = tt
named_left Is (o ∷ os) ps h = (h.0, named_left Is os ps h.1)

pub named_right : (Is : Occurrence → Type 0) (os ps : List Occurrence) → AllNamed Is (os ++ ps) → AllNamed Is ps
named_right Is [] ps h = h
named_right Is (o ∷ os) ps h = named_right Is os ps h.1

-- this holds of all occurrences in these parts of a script
abbrev pub EachNamed : (Occurrence → Type 0) → List (List Occurrence) → Type 0
EachNamed Is [] = Unit {0}
EachNamed Is (b ∷ bs) = AllNamed Is b × EachNamed Is bs

pub each_left : (Is : Occurrence → Type 0) (bs ds : List (List Occurrence)) → EachNamed Is (bs ++ ds) → EachNamed Is bs
each_left Is [] ds h = tt
each_left Is (b ∷ bs) ds h = (h.0, each_left Is bs ds h.1)

pub each_right : (Is : Occurrence → Type 0) (bs ds : List (List Occurrence)) → EachNamed Is (bs ++ ds) → EachNamed Is ds
each_right Is [] ds h = h
each_right Is (b ∷ bs) ds h = each_right Is bs ds h.1

-- ---- a class that is defined is found

-- a definition of this name as a class stands among these
abbrev DefinedIn : List Occurrence → List ℕ → Type 0
DefinedIn [] x = ⊥
DefinedIn (o ∷ os) x = (IsTrue (is_class o.role) × (o.text ≡ x)) ⊎ DefinedIn os x

contained : (os : List Occurrence) (o : Occurrence) (x : List ℕ) → Contains os o → IsTrue (is_class o.role) → o.text ≡ x → DefinedIn os x
contained [] o x (k, h, e) r t = absurd (omega arith)
contained (p ∷ os) o x (zero, h, e) r t = inl (subst (λ (q : Occurrence). IsTrue (is_class q.role) × (q.text ≡ x)) (sym e) (r, t))
contained (p ∷ os) o x (suc k, h, e) r t = inr (contained os o x (k, omega arith, e) r t)

first_found : (d : ClassDef) (ds : List ClassDef) (x : List ℕ) → ((k : ClassDef) × (class_named ds x ≡ Some k))
    → (k : ClassDef) × (class_named (d ∷ ds) x ≡ Some k)
first_found d ds x h =
    split (bytes_eq d.name.text x) (λ b. (k : ClassDef) × (cond b (Some d) (class_named ds x) ≡ Some k)) (λ t. (d, refl)) (λ f. h)

class_found : (is : List Item) (x : List ℕ) → DefinedIn (flat_map defined_by is) x
    → (k : ClassDef) × (class_named (classes_of is) x ≡ Some k)
class_found [] x h = absurd h
class_found (item.Class d ∷ is) x (inl h) = (d, ap (λ b. cond b (Some d) (class_named (classes_of is) x)) (named d.name.text x h.1))
class_found (item.Class d ∷ is) x (inr h) = first_found d (classes_of is) x (class_found is x h)
class_found (item.Def d ∷ is) x (inl h) = absurd (let e = h.0 in cc)
class_found (item.Def d ∷ is) x (inr h) = class_found is x h
class_found (item.Stmt s ∷ is) x h = class_found is x h

-- ---- no name in a type is unknown

module _ (s : Script) (right : IsFaultless (ScopeFault s)) where
  typed_named : (body before : List Occurrence) (o : Occurrence) (after : List Occurrence)
      → Contains (bodies s) body → body ≡ before ++ o ∷ after → IsClassNamed (class_list s) o
  typed_named body before o after part whole typed =
      let found = class_named (class_list s) o.text in
      let P : Option ClassDef → Type 0 = λ z. found ≡ z → (d : ClassDef) × (found ≡ Some d) in
      let undefined : class_named (class_list s) o.text ≡ None → Stands (definitions s) is_class o.text → ⊥ = λ e st.
      let k = class_found s.items o.text (contained (definitions s) st.occurrence o.text st.member st.role st.text) in
      none_some ⊥ (sym e ∙ k.1) in
      split_option (class_named (class_list s) o.text) P
      (λ _ e. absurd (right o.place UnknownName (inl (record {
        body = body;
        part = part;
        fault = unknown_type before o (record { after = after; whole = whole }) typed (undefined e) refl;
      }))))
      (λ d _ e. (d, e))
      refl

  rest_named : (body before rest : List Occurrence) → Contains (bodies s) body → body ≡ before ++ rest
      → AllNamed (IsClassNamed (class_list s)) rest
  rest_named body before [] part whole = tt
  rest_named body before (o ∷ rest) part whole =
      let further = whole ∙ sym (append_assoc before (o ∷ []) rest) in
      (typed_named body before o rest part whole, rest_named body (before ++ o ∷ []) rest part further)

  parts_named : (bs : List (List Occurrence)) → ((b : List Occurrence) → Contains bs b → Contains (bodies s) b)
      → EachNamed (IsClassNamed (class_list s)) bs
  parts_named [] h = tt
  parts_named (b ∷ bs) h =
      (rest_named b [] b (h b (0, omega arith, refl)) refl, parts_named bs (λ d i. h d (suc i.0, omega (arith, i.1), i.2)))

  pub each_named : EachNamed (IsClassNamed (class_list s)) (bodies s)
  each_named = parts_named (bodies s) (λ b i. i)
