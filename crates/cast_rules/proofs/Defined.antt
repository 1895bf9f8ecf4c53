-- Classes and functions by their numbers.
use Rattle.std.proofs.Common.{◌≡◌, ℕ, zero, suc, ◌+◌, List, [], ◌∷◌, Option, Some, None, slice_get, refl, ap, subst, arith, bytes_eq, map, if◌then◌else◌}
use Rattle.std.specs.Option.{option_map}
use Rattle.std.specs.Prelude.{Contains}
use Rattle.mono_list.proofs.Cases.{split, some_is, none_some}
use Rattle.mono_syntax.specs.declared.cast.CastClass.{CastClass}
use Rattle.mono_syntax.specs.declared.cast.CastFunction.{CastFunction}
use Rattle.mono_syntax.specs.declared.tree.ClassDef.{ClassDef}
use Rattle.mono_syntax.specs.declared.tree.FieldDef.{FieldDef}
use Rattle.mono_syntax.specs.declared.tree.FuncDef.{FuncDef}
use Rattle.mono_syntax.specs.declared.tree.Script.{Script}
use Rattle.mono_syntax.specs.Ty.{Fields}
use Rattle.mono_tree.specs.FieldNames.{names_of}
use Rattle.script_rules.specs.Definitions.{class_named, function_named}
use Rattle.script_rules.specs.SourceCasts.{BecomesClass, BecomeClasses}
use Rattle.script_rules.specs.Writes.{Declares, declares_none, declares_more, IsFunctionType}
use Rattle.cast_rules.specs.Nodes.{named_at}

pub declared_names : (cs : List ClassDef) (ds : List FieldDef) (fs : Fields) → Declares cs ds fs → map (λ f. f.name.text) ds ≡ names_of fs
declared_names cs ds fs declares_none = refl
declared_names cs ds fs (declares_more {d = d} {ds = rest} {fs = gs} f g) = ap (λ l. d.name.text ∷ l) (declared_names cs rest gs g)

-- ---- by name

after_first : {A : Type 0} (k : A) (ds : List A) (o : Option ℕ) (n : ℕ) (d : A) → option_map (λ k. k + 1) o ≡ Some n → ((m : ℕ) → o ≡ Some m → slice_get ds m ≡ Some d)
    → slice_get (k ∷ ds) n ≡ Some d
after_first k ds None n d e h = none_some (slice_get (k ∷ ds) n ≡ Some d) e
after_first k ds (Some m) n d e h =
    let is : suc m ≡ n = omega (arith, some_is e) in
    subst (λ (z : ℕ). slice_get (k ∷ ds) z ≡ Some d) is (h m refl)

pub class_at : (ds : List ClassDef) (x : List ℕ) (n : ℕ) (d : ClassDef) → class_named ds x ≡ Some d → named_at (map (λ d. d.name.text) ds) x ≡ Some n → slice_get ds n ≡ Some d
class_at [] x n d e f = none_some (slice_get [] n ≡ Some d) e
class_at (k ∷ ds) x n d e f =
    split (bytes_eq k.name.text x)
    (λ b. (if b then Some k else class_named ds x) ≡ Some d → (if b then Some 0 else option_map (λ k. k + 1) (named_at (map (λ d. d.name.text) ds) x)) ≡ Some n → slice_get (k ∷ ds) n ≡ Some d)
    (λ _ g h. subst (λ (z : ℕ). slice_get (k ∷ ds) z ≡ Some d) (some_is h) g)
    (λ _ g h. after_first k ds (named_at (map (λ d. d.name.text) ds) x) n d h (λ m i. class_at ds x m d g i)) e f

pub function_at : (ds : List FuncDef) (x : List ℕ) (n : ℕ) (d : FuncDef) → function_named ds x ≡ Some d → named_at (map (λ d. d.name.text) ds) x ≡ Some n
    → slice_get ds n ≡ Some d
function_at [] x n d e f = none_some (slice_get [] n ≡ Some d) e
function_at (k ∷ ds) x n d e f =
    split (bytes_eq k.name.text x)
    (λ b. (if b then Some k else function_named ds x) ≡ Some d → (if b then Some 0 else option_map (λ k. k + 1) (named_at (map (λ d. d.name.text) ds) x)) ≡ Some n
    → slice_get (k ∷ ds) n ≡ Some d)
    (λ _ g h. subst (λ (z : ℕ). slice_get (k ∷ ds) z ≡ Some d) (some_is h) g)
    (λ _ g h. after_first k ds (named_at (map (λ d. d.name.text) ds) x) n d h (λ m i. function_at ds x m d g i)) e f

-- ---- classes with their types

module _ (s : Script) where
  pub record FoundClass (cs : List CastClass) (i : ℕ) (d : ClassDef) : Type 0 where
    pub class : CastClass
    pub at : slice_get cs i ≡ Some class
    pub is : BecomesClass s d class

  pub class_found : (ds : List ClassDef) (cs : List CastClass) (i : ℕ) (d : ClassDef) → BecomeClasses s ds cs → slice_get ds i ≡ Some d → FoundClass cs i d
  class_found [] cs i d h e = none_some (FoundClass cs i d) e
  class_found (x ∷ ds) [] i d h e = absurd h
  class_found (x ∷ ds) (k ∷ cs) zero d h e = record { class = k; at = refl; is = subst (λ (y : ClassDef). BecomesClass s y k) (some_is e) h.0 }
  class_found (x ∷ ds) (k ∷ cs) (suc i) d h e =
      let r = class_found ds cs i d h.1 e in
      record { class = r.class; at = r.at; is = r.is }

  pub record FoundClassDef (ds : List ClassDef) (k : CastClass) : Type 0 where
    pub def : ClassDef
    pub stands : Contains ds def
    pub is : BecomesClass s def k

  pub class_def_found : (ds : List ClassDef) (cs : List CastClass) (i : ℕ) (k : CastClass) → BecomeClasses s ds cs → slice_get cs i ≡ Some k → FoundClassDef ds k
  class_def_found [] [] i k h e = none_some (FoundClassDef [] k) e
  class_def_found [] (c ∷ cs) i k h e = absurd h
  class_def_found (x ∷ ds) [] i k h e = absurd h
  class_def_found (x ∷ ds) (c ∷ cs) zero k h e =
      record { def = x; stands = (0, omega arith, refl); is = subst (λ (y : CastClass). BecomesClass s x y) (some_is e) h.0 }
  class_def_found (x ∷ ds) (c ∷ cs) (suc i) k h e =
      let r = class_def_found ds cs i k h.1 e in
      let c = r.stands in
      record { def = r.def; stands = (suc c.0, omega (arith, c.1), c.2); is = r.is }

-- ---- functions with their types

abbrev pub AreFunctions : List ClassDef → List FuncDef → List CastFunction → Type 0
AreFunctions cs [] [] = Unit {0}
AreFunctions cs (d ∷ ds) (f ∷ fs) = IsFunctionType cs d f.ty × AreFunctions cs ds fs
AreFunctions cs ds fs = ⊥

pub record FoundFunction (cs : List ClassDef) (fs : List CastFunction) (i : ℕ) (d : FuncDef) : Type 0 where
  pub function : CastFunction
  pub at : slice_get fs i ≡ Some function
  pub type : IsFunctionType cs d function.ty

pub function_found : (cs : List ClassDef) (ds : List FuncDef) (fs : List CastFunction) (i : ℕ) (d : FuncDef) → AreFunctions cs ds fs → slice_get ds i ≡ Some d
    → FoundFunction cs fs i d
function_found cs [] fs i d h e = none_some (FoundFunction cs fs i d) e
function_found cs (x ∷ ds) [] i d h e = absurd h
function_found cs (x ∷ ds) (f ∷ fs) zero d h e = record { function = f; at = refl; type = subst (λ (y : FuncDef). IsFunctionType cs y f.ty) (some_is e) h.0 }
function_found cs (x ∷ ds) (f ∷ fs) (suc i) d h e =
    let r = function_found cs ds fs i d h.1 e in
    record { function = r.function; at = r.at; type = r.type }
