-- What a table of types keeps, and what its positions say.
use Rattle.std.proofs.Common.{◌≡◌, ◌∙◌, sym, ap, subst, refl, ℕ, zero, suc, List, [], ◌∷◌, map}
use Rattle.std.specs.Prelude.{Option, Some, None, IfSome, IfNone, slice_get}
use Rattle.std.proofs.lemmas.Option.{slice_get-map}
use Rattle.std.specs.Option.{option_map}
use Rattle.mono_syntax.specs.declared.leaf.TyAt.{TyAt}
use Rattle.mono_syntax.specs.declared.tree.ClassDef.{ClassDef}
use Rattle.mono_syntax.specs.declared.tree.FuncDef.{FuncDef}
use Rattle.mono_syntax.specs.declared.tree.Script.{Script}
use Rattle.mono_syntax.specs.Ann.{Ann}
use Rattle.mono_syntax.specs.Ty.{Ty}
use Rattle.script_rules.specs.Scoping.{StandsAt, ClassesStand, class_list}
use Rattle.mono_tree.specs.ClosedList.{AreDistinct, base_types}
use Rattle.script_rules.specs.Writes.{Writes, WritesAny, IsClassType, IsFunctionType}
use Rattle.class_types.specs.declared.table.ClassTypes.{ClassTypes}
use Rattle.class_types.specs.Holds.{Holds}
use Rattle.class_types.specs.Known.{HaveTypes, Begins, StandTypes}
use Rattle.class_types.specs.computed.Made.{look, type_by, any_by, function_by, class_by, names_of_classes, AreOwnTypes}
use Rattle.class_types.specs.Placed.{StandAt}
use Rattle.class_types.proofs.Gets.{some_is, none_some}
use Rattle.class_types.proofs.PlaceLaws.{begins-get, begins-trans}
use Rattle.class_types.proofs.FunctionLaws.{any-is, is-any, function-is, is-function}
use Rattle.class_types.proofs.WritesLaws.{made-writes, writes-made, made-class, class-made}

-- ---- types that are added change nothing

stands-more : (types more : List Ty) (a : TyAt) (Is : Ty → Type 0) → Begins types more → StandsAt types a Is → StandsAt more a Is
stands-more types more a Is b s = record { type = s.type; at = begins-get types more a.0 s.type b s.at; is = s.is }

classes-more : (cs : List ClassDef) (types more : List Ty) → Begins types more → (ds : List ClassDef) (at : List TyAt) → ClassesStand cs types ds at → ClassesStand cs more ds at
classes-more cs types more b [] [] h = tt
classes-more cs types more b [] (a ∷ at) h = absurd h
classes-more cs types more b (d ∷ ds) [] h = absurd h
classes-more cs types more b (d ∷ ds) (a ∷ at) h = (stands-more types more a (IsClassType cs d) b h.0, classes-more cs types more b ds at h.1)

pub stand-types : (cs : List ClassDef) (types more : List Ty) (at : List TyAt) → StandTypes cs types at → Begins types more → AreDistinct more → StandTypes cs more at
stand-types cs types more at h b d = record { distinct = d; bases = begins-trans base_types types more h.bases b; stand = classes-more cs types more b cs at h.stand }

-- ---- the classes' types by position

pub own-stand : (cs : List ClassDef) (own : List (Option Ty)) (types : List Ty) → AreOwnTypes cs own → (ds : List ClassDef) (at : List TyAt)
    → StandAt types (map (class_by (look (names_of_classes cs) own None)) ds) at → ClassesStand cs types ds at × HaveTypes cs ds
own-stand cs own types settled [] [] h = (tt, tt)
own-stand cs own types settled [] (a ∷ at) h = absurd h
own-stand cs own types settled (d ∷ ds) at h = go (class_by (look (names_of_classes cs) own None) d) refl at h (λ rest. own-stand cs own types settled ds rest)
  where
    go : (o : Option Ty) → class_by (look (names_of_classes cs) own None) d ≡ o → (l : List TyAt) → StandAt types (o ∷ map (class_by (look (names_of_classes cs) own None)) ds) l
        → ((rest : List TyAt) → StandAt types (map (class_by (look (names_of_classes cs) own None)) ds) rest → ClassesStand cs types ds rest × HaveTypes cs ds)
        → ClassesStand cs types (d ∷ ds) l × HaveTypes cs (d ∷ ds)
    go None e [] s later = absurd s
    go None e (a ∷ rest) s later = absurd s
    go (Some t) e [] s later = absurd s
    go (Some t) e (a ∷ rest) s later =
        let is = made-class cs own settled d t e in let tail = later rest s.1 in
        ((record { type = t; at = s.0; is = is }, tail.0), ((t, is), tail.1))

pub all-stand : (cs : List ClassDef) (own : List (Option Ty)) (types : List Ty) (at : List TyAt) → AreOwnTypes cs own → StandAt types own at → ClassesStand cs types cs at × HaveTypes cs cs
all-stand cs own types at settled h = own-stand cs own types settled cs at (subst (λ l. StandAt types l at) settled h)

have-at : (cs ds : List ClassDef) (i : ℕ) (d : ClassDef) → HaveTypes cs ds → slice_get ds i ≡ Some d → (t : Ty) × IsClassType cs d t
have-at cs [] i d h e = none_some e
have-at cs (c ∷ ds) zero d h e = subst (λ x. (t : Ty) × IsClassType cs x t) (some_is e) h.0
have-at cs (c ∷ ds) (suc i) d h e = have-at cs ds i d h.1 e

-- a class whose fields give no type has none
pub none-stands : (cs : List ClassDef) (own : List (Option Ty)) → AreOwnTypes cs own → (i : ℕ) → slice_get own i ≡ Some None → HaveTypes cs cs → ⊥
none-stands cs own settled i e h = go (slice_get cs i) refl
  where
    f : ClassDef → Option Ty
    f = class_by (look (names_of_classes cs) own None)

    at : slice_get own i ≡ option_map (class_by (look (names_of_classes cs) own None)) (slice_get cs i)
    at = ap (λ l. slice_get l i) settled ∙ slice_get-map (class_by (look (names_of_classes cs) own None)) cs i

    go : (o : Option ClassDef) → slice_get cs i ≡ o → ⊥
    go None q = none_some (sym (ap (option_map (class_by (look (names_of_classes cs) own None))) q) ∙ (sym at ∙ e))
    go (Some d) q =
        let has = have-at cs cs i d h q in
        let made : class_by (look (names_of_classes cs) own None) d ≡ Some has.0 = class-made cs own settled d has.0 has.1 in
        let none : class_by (look (names_of_classes cs) own None) d ≡ None = some_is (sym (ap (option_map (class_by (look (names_of_classes cs) own None))) q) ∙ (sym at ∙ e)) in
        none_some (sym none ∙ made)

-- ---- annotations by position

module _ (k : ClassTypes) (h : Holds k) where
  -- what is found by the table's names is found by the classes' names
  by-names : {A : Type 0} (f : (List ℕ → Option Ty) → A) → f (look k.names k.own None) ≡ f (look (names_of_classes (class_list k.script)) k.own None)
  by-names f = ap (λ ns. f (look ns k.own None)) h.names

  pub ann-made : (a : Ann) (t : Ty) → type_by (look k.names k.own None) a ≡ Some t → Writes (class_list k.script) a t
  ann-made a t e = made-writes (class_list k.script) k.own h.own a t (sym (by-names (λ n. type_by n a)) ∙ e)

  pub ann-writes : (a : Ann) (t : Ty) → Writes (class_list k.script) a t → type_by (look k.names k.own None) a ≡ Some t
  ann-writes a t w = by-names (λ n. type_by n a) ∙ writes-made (class_list k.script) k.own h.own w

  pub any-made : (a : Option Ann) (t : Ty) → any_by (look k.names k.own None) a ≡ Some t → WritesAny (class_list k.script) a t
  any-made a t e = any-is (class_list k.script) k.own h.own a t (sym (by-names (λ n. any_by n a)) ∙ e)

  pub any-writes : (a : Option Ann) (t : Ty) → WritesAny (class_list k.script) a t → any_by (look k.names k.own None) a ≡ Some t
  any-writes a t w = by-names (λ n. any_by n a) ∙ is-any (class_list k.script) k.own h.own a t w

  pub function-made : (d : FuncDef) (t : Ty) → function_by (look k.names k.own None) d ≡ Some t → IsFunctionType (class_list k.script) d t
  function-made d t e = function-is (class_list k.script) k.own h.own d t (sym (by-names (λ n. function_by n d)) ∙ e)

  pub function-writes : (d : FuncDef) (t : Ty) → IsFunctionType (class_list k.script) d t → function_by (look k.names k.own None) d ≡ Some t
  function-writes d t w = by-names (λ n. function_by n d) ∙ is-function (class_list k.script) k.own h.own d t w

pub no-type : {A : Type 0} {o : Option A} (t : A) → o ≡ None → o ≡ Some t → ⊥
no-type t e f = none_some (sym e ∙ f)

pub take-some : {A : Type 0} (o : Option A) (x : A) (P : A → Type 0) → o ≡ Some x → IfSome o P → P x
take-some o x P e h = let h' = subst (λ p. IfSome p P) e h in h'

pub take-none : {A : Type 0} (o : Option A) (P : Type 0) → o ≡ None → IfNone o P → P
take-none o P e h = let h' = subst (λ p. IfNone p P) e h in h'

pub holds-table : (k : ClassTypes) (s : Script) (types : List Ty) (at : List TyAt) (names : List (List ℕ)) (own : List (Option Ty))
    → k.script ≡ s → k.types ≡ types → k.classes ≡ at → k.names ≡ names → k.own ≡ own
    → names ≡ names_of_classes (class_list s) → AreOwnTypes (class_list s) own → StandAt types own at → Begins base_types types → AreDistinct types → Holds k
holds-table k s types at names own es et ea en eo hn ho hs hb hd =
    let cs = class_list s in
    let plain : StandTypes cs types at = record { distinct = hd; bases = hb; stand = (all-stand cs own types at ho hs).0 } in
    let by_at : StandTypes cs types k.classes = subst (λ c. StandTypes cs types c) (sym ea) plain in
    let by_types : StandTypes cs k.types k.classes = subst (λ l. StandTypes cs l k.classes) (sym et) by_at in
    record {
      stand = subst (λ x. StandTypes (class_list x) k.types k.classes) (sym es) by_types;
      names = en ∙ (hn ∙ ap (λ x. names_of_classes (class_list x)) (sym es));
      own = subst (λ x. AreOwnTypes (class_list x) k.own) (sym es) (subst (AreOwnTypes cs) (sym eo) ho);
    }
