-- What is gathered from a scope is what the rules say.
use Rattle.std.proofs.Common.{◌≡◌, ℕ, zero, suc, ◌+◌, List, [], ◌∷◌, ◌++◌, length, refl, sym, ◌∙◌, ap, subst, append_assoc}
use Rattle.std.specs.Prelude.{Option, Some, None, slice_get}
use Rattle.std.proofs.lemmas.List.{length-append, append-nil}
use Rattle.mono_list.proofs.Cases.{some_is, none_some}
use Rattle.mono_syntax.specs.declared.cast.NamedType.{NamedType}
use Rattle.mono_syntax.specs.declared.leaf.TyAt.{TyAt}
use Rattle.mono_syntax.specs.declared.script.BlockNames.{BlockNames}
use Rattle.mono_syntax.specs.declared.script.Scoped.{Scoped}
use Rattle.mono_syntax.specs.declared.script.TypedName.{TypedName}
use Rattle.mono_syntax.specs.declared.tree.ClassDef.{ClassDef}
use Rattle.mono_syntax.specs.declared.tree.FuncDef.{FuncDef}
use Rattle.mono_syntax.specs.declared.tree.Item.{Item}
use Rattle.mono_syntax.specs.declared.tree.Item.TheVariants as item
use Rattle.mono_syntax.specs.Stmt.{Stmt}
use Rattle.mono_syntax.specs.Ty.{Ty, obj, Fields}
use Rattle.mono_syntax.specs.TyView.{fields}
use Rattle.script_rules.specs.BlockNames.{Target, firsts, all_targets}
use Rattle.script_rules.specs.Definitions.{classes_of, functions_of}
use Rattle.script_rules.specs.Scoping.{StandsAt, ClassesStand, FunctionsStand, NamesStand, IsBlockScope, BlocksStand, IsScope, class_list, function_list, main_block}
use Rattle.script_rules.specs.Writes.{in_order, Declares, WritesAny, IsClassType, IsFunctionType}
use Rattle.script_rules.specs.SourceCasts.{AreNames}
use Rattle.known_names.specs.declared.known.KnownClass.{KnownClass}
use Rattle.known_names.specs.declared.known.Local.{Local}
use Rattle.known_names.specs.computed.Annotations.{known_fields}
use Rattle.known_names.specs.computed.Gathered.{next_type, class_types, function_types, classes_from, script_names, function_names, bodies_from, gathered, values_of, block_values, result_type, declared_result, local_at}
use Rattle.known_names.specs.IsKnown.{TypesKnown, IsKnownClass, ClassesKnown, FunctionsKnown, IsKnown, IsFunctionLocal, IsMainLocal, BodiesKnown, IsKnownScript}
use Rattle.known_names.specs.computed.TypeTests.{type_or_dyn, type_at}
use Rattle.known_names.proofs.AnnotationLaws.{declared_fields, field_names}

-- ---- positions

next_at : {A : Type 0} (xs : List A) (x : A) (ys : List A) → slice_get (xs ++ x ∷ ys) (length xs) ≡ Some x
next_at [] x ys = refl
next_at (z ∷ xs) x ys = next_at xs x ys

-- the element behind those that are done
abbrev AreBefore : {A B : Type 0} → List A → List B → List A → List A → Type 0
AreBefore all done before rest = (all ≡ before ++ rest) × (length before ≡ length done)

read_next : {A B : Type 0} (all : List A) (done : List B) (before : List A) (x : A) (rest : List A) → AreBefore all done before (x ∷ rest) → slice_get all (length done) ≡ Some x
read_next all done before x rest h = rw (h.0, sym h.1) (next_at before x rest)

one_on : {A B : Type 0} (all : List A) (done : List B) (y : B) (before : List A) (x : A) (rest : List A) → AreBefore all done before (x ∷ rest) → AreBefore all (done ++ y ∷ []) (before ++ x ∷ []) rest
one_on all done y before x rest h = (h.0 ∙ sym (append_assoc before (x ∷ []) rest), length-append before (x ∷ []) ∙ ap (λ (n : ℕ). n + 1) h.1 ∙ sym (length-append done (y ∷ [])))

-- a type of this kind is found where one stands
found_at : (types : List Ty) (Is : Ty → Type 0) (o : Option TyAt) (a : TyAt) → o ≡ Some a → StandsAt types a Is → Is (type_at types o)
found_at types Is o a e h = subst Is (sym (ap (type_at types) e ∙ ap type_or_dyn h.at)) h.is

next_is : {B : Type 0} (types : List Ty) (Is : Ty → Type 0) (places : List TyAt) (done : List B) (before : List TyAt) (a : TyAt) (rest : List TyAt)
    → AreBefore places done before (a ∷ rest) → StandsAt types a Is → Is (next_type types places done)
next_is types Is places done before a rest b h = found_at types Is (slice_get places (length done)) a (read_next places done before a rest b) h

-- ---- the types of the classes and functions

module _ (cs : List ClassDef) (types : List Ty) (places : List TyAt) where
  abbrev TypesFound : List NamedType → List Item → Type 0
  TypesFound done is = (ns : List NamedType) × (class_types types places done is ≡ done ++ ns) × TypesKnown cs (classes_of is) ns

  types_found : (is : List Item) (done : List NamedType) (before rest : List TyAt) → AreBefore places done before rest → ClassesStand cs types (classes_of is) rest → TypesFound done is
  types_found [] done before [] b h = ([], sym (append-nil done), tt)
  types_found [] done before (a ∷ rest) b h = absurd h
  types_found (item.Class d ∷ is) done before [] b h = absurd h
  types_found (item.Class d ∷ is) done before (a ∷ rest) b h =
      let name : NamedType = record { name = d.name.text; ty = next_type types places done } in
      let (ns, e, k) = types_found is (done ++ name ∷ []) (before ++ a ∷ []) rest (one_on places done name before a rest b) h.1 in
      (name ∷ ns, e ∙ append_assoc done (name ∷ []) ns, (refl, next_is types (IsClassType cs d) places done before a rest b h.0, k))
  types_found (item.Def d ∷ is) done before rest b h = types_found is done before rest b h
  types_found (item.Stmt s ∷ is) done before rest b h = types_found is done before rest b h

  abbrev FunctionsFound : List NamedType → List Item → Type 0
  FunctionsFound done is = (ns : List NamedType) × (function_types types places done is ≡ done ++ ns) × FunctionsKnown cs (functions_of is) ns

  functions_found : (is : List Item) (done : List NamedType) (before rest : List TyAt) → AreBefore places done before rest → FunctionsStand cs types (functions_of is) rest → FunctionsFound done is
  functions_found [] done before [] b h = ([], sym (append-nil done), tt)
  functions_found [] done before (a ∷ rest) b h = absurd h
  functions_found (item.Def d ∷ is) done before [] b h = absurd h
  functions_found (item.Def d ∷ is) done before (a ∷ rest) b h =
      let name : NamedType = record { name = d.name.text; ty = next_type types places done } in
      let (ns, e, k) = functions_found is (done ++ name ∷ []) (before ++ a ∷ []) rest (one_on places done name before a rest b) h.1 in
      (name ∷ ns, e ∙ append_assoc done (name ∷ []) ns, (refl, next_is types (IsFunctionType cs d) places done before a rest b h.0, k))
  functions_found (item.Class d ∷ is) done before rest b h = functions_found is done before rest b h
  functions_found (item.Stmt s ∷ is) done before rest b h = functions_found is done before rest b h

-- ---- the classes

module _ (cs : List ClassDef) (ns : List NamedType) (known : TypesKnown cs cs ns) (types : List Ty) (places : List TyAt) where
  class_found : (d : ClassDef) (t : Ty) → IsClassType cs d t → IsKnownClass cs d (record { name = d.name.text; fields = known_fields ns d.fields; ty = t })
  class_found d t h =
      let e : fields (known_fields ns d.fields) ≡ h.declared = declared_fields cs ns known h.fields in
      record {
        name = refl;
        declared = subst (λ (z : Fields). Declares cs d.fields z) (sym e) h.fields;
        type = h.type ∙ ap (λ (z : Fields). obj (in_order z)) (sym e);
        names = field_names cs ns known d.fields;
      }

  abbrev ClassesFound : List KnownClass → List Item → Type 0
  ClassesFound done is = (ks : List KnownClass) × (classes_from ns types places done is ≡ done ++ ks) × ClassesKnown cs (classes_of is) ks

  classes_found : (is : List Item) (done : List KnownClass) (before rest : List TyAt) → AreBefore places done before rest → ClassesStand cs types (classes_of is) rest → ClassesFound done is
  classes_found [] done before [] b h = ([], sym (append-nil done), tt)
  classes_found [] done before (a ∷ rest) b h = absurd h
  classes_found (item.Class d ∷ is) done before [] b h = absurd h
  classes_found (item.Class d ∷ is) done before (a ∷ rest) b h =
      let k : KnownClass = record { name = d.name.text; fields = known_fields ns d.fields; ty = next_type types places done } in
      let (ks, e, j) = classes_found is (done ++ k ∷ []) (before ++ a ∷ []) rest (one_on places done k before a rest b) h.1 in
      (k ∷ ks, e ∙ append_assoc done (k ∷ []) ks, (class_found d k.ty (next_is types (IsClassType cs d) places done before a rest b h.0), j))
  classes_found (item.Def d ∷ is) done before rest b h = classes_found is done before rest b h
  classes_found (item.Stmt s ∷ is) done before rest b h = classes_found is done before rest b h

known_found : (d : Scoped) → IsScope d.script d → IsKnown (class_list d.script) (function_list d.script) (script_names d)
known_found d s =
    let cs = class_list d.script in
    let items = d.script.items in
    let (ns, e, h) = types_found cs d.types d.classes items [] [] d.classes (refl, refl) s.classes in
    let known : TypesKnown cs cs (class_types d.types d.classes [] items) = subst (λ (z : List NamedType). TypesKnown cs cs z) (sym e) h in
    let (ks, f, i) = classes_found cs (class_types d.types d.classes [] items) known d.types d.classes items [] [] d.classes (refl, refl) s.classes in
    let (fs, g, j) = functions_found cs d.types d.functions items [] [] d.functions (refl, refl) s.functions in
    record {
      annotations = known;
      classes = subst (λ (z : List KnownClass). ClassesKnown cs cs z) (sym f) i;
      functions = subst (λ (z : List NamedType). FunctionsKnown cs (function_list d.script) z) (sym g) j;
    }

-- ---- the names of blocks

module _ (cs : List ClassDef) (types : List Ty) where
  values_found : (ts : List Target) (ks : List TypedName) → NamesStand cs types ts ks → AreNames cs ts (values_of types ks)
  values_found [] [] h = tt
  values_found (t ∷ ts) (k ∷ ks) h = (h.0, found_at types (WritesAny cs t.ann) (Some k.ty) k.ty refl h.1, values_found ts ks h.2)
  values_found [] (k ∷ ks) h = absurd h
  values_found (t ∷ ts) [] h = absurd h

  -- a block that stands at this place
  abbrev BlockFound : Option BlockNames → (BlockNames → Type 0) → Type 0
  BlockFound o Is = (b : BlockNames) × (o ≡ Some b) × Is b

  block_found : (fs : List FuncDef) (main : List Stmt) (bs : List BlockNames) (n : ℕ) (d : FuncDef) → BlocksStand cs types fs main bs → slice_get fs n ≡ Some d
      → BlockFound (slice_get bs n) (IsBlockScope cs types d.params d.body)
  block_found [] main bs n d h e = none_some (BlockFound (slice_get bs n) (IsBlockScope cs types d.params d.body)) e
  block_found (f ∷ fs) main (b ∷ bs) zero d h e = (b, refl, subst (λ (z : FuncDef). IsBlockScope cs types z.params z.body b) (some_is e) h.0)
  block_found (f ∷ fs) main (b ∷ bs) (suc n) d h e = block_found fs main bs n d h.1 e
  block_found (f ∷ fs) main [] n d h e = absurd h

  main_found : (fs : List FuncDef) (main : List Stmt) (bs : List BlockNames) → BlocksStand cs types fs main bs → BlockFound (slice_get bs (length fs)) (IsBlockScope cs types [] main)
  main_found [] main (b ∷ []) h = (b, refl, h)
  main_found [] main (b ∷ (c ∷ bs)) h = absurd h
  main_found [] main [] h = absurd h
  main_found (f ∷ fs) main (b ∷ bs) h = main_found fs main bs h.1
  main_found (f ∷ fs) main [] h = absurd h

  function_found : (fs : List FuncDef) (places : List TyAt) (n : ℕ) (d : FuncDef) → FunctionsStand cs types fs places → slice_get fs n ≡ Some d
      → IsFunctionType cs d (type_at types (slice_get places n))
  function_found [] places n d h e = none_some (IsFunctionType cs d (type_at types (slice_get places n))) e
  function_found (f ∷ fs) (a ∷ places) zero d h e =
      subst (λ (z : FuncDef). IsFunctionType cs z (type_at types (Some a))) (some_is e) (found_at types (IsFunctionType cs f) (Some a) a refl h.0)
  function_found (f ∷ fs) (a ∷ places) (suc n) d h e = function_found fs places n d h.1 e
  function_found (f ∷ fs) [] n d h e = absurd h

  as_many : (fs : List FuncDef) (places : List TyAt) → FunctionsStand cs types fs places → length fs ≡ length places
  as_many [] [] h = refl
  as_many (f ∷ fs) (a ∷ places) h = ap (λ (n : ℕ). suc n) (as_many fs places h.1)
  as_many [] (a ∷ places) h = absurd h
  as_many (f ∷ fs) [] h = absurd h

  result_found : (d : FuncDef) (t : Ty) → IsFunctionType cs d t → WritesAny cs d.result (result_type t)
  result_found d t h = subst (λ (z : Ty). WritesAny cs d.result (result_type z)) (sym h.type) h.gives

  block_names : (o : Option BlockNames) (b : BlockNames) (ts : List Target) → o ≡ Some b → NamesStand cs types ts b.values → AreNames cs ts (block_values types o)
  block_names o b ts e h = subst (λ (z : Option BlockNames). AreNames cs ts (block_values types z)) (sym e) (values_found ts b.values h)

function_local : (d : Scoped) (n : ℕ) (f : FuncDef) → IsScope d.script d → slice_get (function_list d.script) n ≡ Some f
    → IsFunctionLocal d.script f (local_at d n (Some (declared_result d n)))
function_local d n f s e =
    let cs = class_list d.script in
    let (b, g, h) = block_found cs d.types (function_list d.script) (main_block d.script) d.blocks n f s.blocks e in
    let t = type_at d.types (slice_get d.functions n) in (
      result_type t,
      record {
        classes = refl;
        functions = refl;
        values = block_names cs d.types (slice_get d.blocks n) b (firsts (all_targets f.params f.body)) g h.values;
        threads = refl;
        result = refl;
        declared = result_found cs d.types f t (function_found cs d.types (function_list d.script) d.functions n f s.functions e);
      },
    )

main_local : (d : Scoped) → IsScope d.script d → IsMainLocal d.script (local_at d (length d.functions) None)
main_local d s =
    let cs = class_list d.script in
    let (b, g, h) = main_found cs d.types (function_list d.script) (main_block d.script) d.blocks s.blocks in
    let count = as_many cs d.types (function_list d.script) d.functions s.functions in
    let there : slice_get d.blocks (length d.functions) ≡ Some b = subst (λ (n : ℕ). slice_get d.blocks n ≡ Some b) count g in
    record {
      classes = refl;
      functions = refl;
      values = block_names cs d.types (slice_get d.blocks (length d.functions)) b (firsts (all_targets [] (main_block d.script))) there h.values;
      threads = refl;
      result = refl;
    }

-- ---- all of them

module _ (d : Scoped) (s : IsScope d.script d) where
  abbrev Functions : List FuncDef
  Functions = function_list d.script

  abbrev BodiesFound : List Local → List FuncDef → List TyAt → Type 0
  BodiesFound done fs places = (ls : List Local) × (bodies_from d done places ≡ done ++ ls) × BodiesKnown d.script fs ls

  bodies_found : (fs : List FuncDef) (places : List TyAt) (done : List Local) (before : List FuncDef) → AreBefore Functions done before fs → FunctionsStand (class_list d.script) d.types fs places → BodiesFound done fs places
  bodies_found [] [] done before b h = ([], sym (append-nil done), tt)
  bodies_found [] (a ∷ places) done before b h = absurd h
  bodies_found (f ∷ fs) [] done before b h = absurd h
  bodies_found (f ∷ fs) (a ∷ places) done before b h =
      let l : Local = function_names d (length done) in
      let (ls, e, k) = bodies_found fs places (done ++ l ∷ []) (before ++ f ∷ []) (one_on Functions done l before f fs b) h.1 in
      (l ∷ ls, e ∙ append_assoc done (l ∷ []) ls, (function_local d (length done) f s (read_next Functions done before f fs b), k))

pub script_found : (d : Scoped) → IsScope d.script d → IsKnownScript d.script (gathered d)
script_found d s =
    let (ls, e, k) = bodies_found d s (function_list d.script) d.functions [] [] (refl, refl) s.functions in
    record {
      names = known_found d s;
      bodies = subst (λ (z : List Local). BodiesKnown d.script (function_list d.script) z) (sym e) k;
      main = main_local d s;
    }
