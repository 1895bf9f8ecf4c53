-- What is known of a script's names is one thing.
use Rattle.std.proofs.Common.{◌≡◌, ℕ, List, [], ◌∷◌, refl, sym, ◌∙◌, ap}
use Rattle.mono_syntax.specs.declared.cast.NamedType.{NamedType}
use Rattle.mono_syntax.specs.declared.tree.ClassDef.{ClassDef}
use Rattle.mono_syntax.specs.declared.tree.Field.{Field}
use Rattle.mono_syntax.specs.declared.tree.FuncDef.{FuncDef}
use Rattle.mono_syntax.specs.declared.tree.Script.{Script}
use Rattle.mono_syntax.specs.Ty.{Ty, obj, Fields, more_fields}
use Rattle.mono_syntax.specs.TyView.{fields}
use Rattle.script_rules.specs.Scoping.{class_list, function_list}
use Rattle.script_rules.specs.Writes.{in_order, IsClassType}
use Rattle.static_types.specs.Names.{Names}
use Rattle.static_types.proofs.ScriptLaws.{function_scope_once, main_scope_once}
use Rattle.static_types.proofs.Writing.{one_declared, function_type_once}
use Rattle.known_names.specs.declared.known.Known.{Known}
use Rattle.known_names.specs.declared.known.KnownClass.{KnownClass}
use Rattle.known_names.specs.declared.known.KnownScript.{KnownScript}
use Rattle.known_names.specs.declared.known.Local.{Local}
use Rattle.known_names.specs.IsKnown.{TypesKnown, IsKnownClass, ClassesKnown, FunctionsKnown, IsKnown, names_in, IsFunctionLocal, IsMainLocal, BodiesKnown, IsKnownScript}

-- ---- fields

field_name : {n m : List ℕ} {t u : Ty} {fs gs : Fields} → more_fields n t fs ≡ more_fields m u gs → n ≡ m
field_name e = cc

field_type : {n m : List ℕ} {t u : Ty} {fs gs : Fields} → more_fields n t fs ≡ more_fields m u gs → t ≡ u
field_type e = cc

other_fields : {n m : List ℕ} {t u : Ty} {fs gs : Fields} → more_fields n t fs ≡ more_fields m u gs → fs ≡ gs
other_fields e = cc

fields_once : (fs gs : List Field) → fields fs ≡ fields gs → fs ≡ gs
fields_once [] [] e = refl
fields_once (f ∷ fs) (g ∷ gs) e =
    let name : f.name ≡ g.name = field_name e in
    let type : f.ty ≡ g.ty = field_type e in
    let others = fields_once fs gs (other_fields e) in
    λ j. record { name = name j; ty = type j } ∷ others j
fields_once [] (g ∷ gs) e = absurd cc
fields_once (f ∷ fs) [] e = absurd cc

-- ---- classes and functions

module _ (cs : List ClassDef) where
  class_type_once : (d : ClassDef) (t u : Ty) → IsClassType cs d t → IsClassType cs d u → t ≡ u
  class_type_once d t u h k = h.type ∙ ap (λ (z : Fields). obj (in_order z)) (one_declared cs d.fields h.declared k.declared h.fields k.fields) ∙ sym k.type

  types_once : (ds : List ClassDef) (ns ms : List NamedType) → TypesKnown cs ds ns → TypesKnown cs ds ms → ns ≡ ms
  types_once [] [] [] h k = refl
  types_once (d ∷ ds) (n ∷ ns) (m ∷ ms) h k =
      let name : n.name ≡ m.name = h.0 ∙ sym k.0 in
      let type : n.ty ≡ m.ty = class_type_once d n.ty m.ty h.1 k.1 in
      let others = types_once ds ns ms h.2 k.2 in
      λ j. record { name = name j; ty = type j } ∷ others j
  types_once [] (n ∷ ns) ms h k = absurd h
  types_once [] [] (m ∷ ms) h k = absurd k
  types_once (d ∷ ds) [] ms h k = absurd h
  types_once (d ∷ ds) (n ∷ ns) [] h k = absurd k

  class_once : (d : ClassDef) (a b : KnownClass) → IsKnownClass cs d a → IsKnownClass cs d b → a ≡ b
  class_once d a b h k =
      let name : a.name ≡ b.name = h.name ∙ sym k.name in
      let declared : fields a.fields ≡ fields b.fields = one_declared cs d.fields (fields a.fields) (fields b.fields) h.declared k.declared in
      let same = fields_once a.fields b.fields declared in
      let type : a.ty ≡ b.ty = h.type ∙ ap (λ (z : Fields). obj (in_order z)) declared ∙ sym k.type in
      λ j. record { name = name j; fields = same j; ty = type j }

  classes_once : (ds : List ClassDef) (as_ bs : List KnownClass) → ClassesKnown cs ds as_ → ClassesKnown cs ds bs → as_ ≡ bs
  classes_once [] [] [] h k = refl
  classes_once (d ∷ ds) (a ∷ as_) (b ∷ bs) h k =
      let class = class_once d a b h.0 k.0 in
      let others = classes_once ds as_ bs h.1 k.1 in
      λ j. class j ∷ others j
  classes_once [] (a ∷ as_) bs h k = absurd h
  classes_once [] [] (b ∷ bs) h k = absurd k
  classes_once (d ∷ ds) [] bs h k = absurd h
  classes_once (d ∷ ds) (a ∷ as_) [] h k = absurd k

  functions_once : (ds : List FuncDef) (ns ms : List NamedType) → FunctionsKnown cs ds ns → FunctionsKnown cs ds ms → ns ≡ ms
  functions_once [] [] [] h k = refl
  functions_once (d ∷ ds) (n ∷ ns) (m ∷ ms) h k =
      let name : n.name ≡ m.name = h.0 ∙ sym k.0 in
      let type : n.ty ≡ m.ty = function_type_once cs d n.ty m.ty h.1 k.1 in
      let others = functions_once ds ns ms h.2 k.2 in
      λ j. record { name = name j; ty = type j } ∷ others j
  functions_once [] (n ∷ ns) ms h k = absurd h
  functions_once [] [] (m ∷ ms) h k = absurd k
  functions_once (d ∷ ds) [] ms h k = absurd h
  functions_once (d ∷ ds) (n ∷ ns) [] h k = absurd k

  names_once : (fs : List FuncDef) (a b : Known) → IsKnown cs fs a → IsKnown cs fs b → a ≡ b
  names_once fs a b h k =
      let annotations = types_once cs a.annotations b.annotations h.annotations k.annotations in
      let classes = classes_once cs a.classes b.classes h.classes k.classes in
      let functions = functions_once fs a.functions b.functions h.functions k.functions in
      λ j. record { annotations = annotations j; classes = classes j; functions = functions j }

-- ---- blocks

module _ (s : Script) where
  abbrev Ns : Local → Names
  Ns l = names_in (class_list s) (function_list s) l

  same_local : (l m : Local) → Ns l ≡ Ns m → l ≡ m
  same_local l m e = λ j. record { values = (e j).values; threads = (e j).threads; result = (e j).result }

  body_once : (d : FuncDef) (l m : Local) → IsFunctionLocal s d l → IsFunctionLocal s d m → l ≡ m
  body_once d l m h k = same_local l m (function_scope_once (class_list s) (function_list s) d h.0 k.0 (Ns l) (Ns m) h.1 k.1)

  bodies_once : (ds : List FuncDef) (ls ms : List Local) → BodiesKnown s ds ls → BodiesKnown s ds ms → ls ≡ ms
  bodies_once [] [] [] h k = refl
  bodies_once (d ∷ ds) (l ∷ ls) (m ∷ ms) h k =
      let body = body_once d l m h.0 k.0 in
      let others = bodies_once ds ls ms h.1 k.1 in
      λ j. body j ∷ others j
  bodies_once [] (l ∷ ls) ms h k = absurd h
  bodies_once [] [] (m ∷ ms) h k = absurd k
  bodies_once (d ∷ ds) [] ms h k = absurd h
  bodies_once (d ∷ ds) (l ∷ ls) [] h k = absurd k

  main_once : (l m : Local) → IsMainLocal s l → IsMainLocal s m → l ≡ m
  main_once l m h k = same_local l m (main_scope_once s (Ns l) (Ns m) h k)

  pub known_once : (a b : KnownScript) → IsKnownScript s a → IsKnownScript s b → a ≡ b
  known_once a b h k =
      let names = names_once (class_list s) (function_list s) a.names b.names h.names k.names in
      let bodies = bodies_once (function_list s) a.bodies b.bodies h.bodies k.bodies in
      let main = main_once a.main b.main h.main k.main in
      λ j. record { names = names j; bodies = bodies j; main = main j }
