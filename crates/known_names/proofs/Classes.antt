-- What the code knows of the classes and functions is what the rules say of them.
use Rattle.std.proofs.Common.{ℕ, cond, List, [], ◌∷◌, sym, subst}
use Rattle.std.specs.Prelude.{Option, Some, None, bytes_eq}
use Rattle.mono_list.proofs.Cases.{split}
use Rattle.mono_syntax.specs.declared.cast.NamedType.{NamedType}
use Rattle.mono_syntax.specs.declared.tree.ClassDef.{ClassDef}
use Rattle.mono_syntax.specs.declared.tree.FuncDef.{FuncDef}
use Rattle.mono_syntax.specs.Ty.{Ty}
use Rattle.mono_tree.specs.TypedPrograms.{type_of_name}
use Rattle.script_rules.specs.Definitions.{class_named, function_named}
use Rattle.script_rules.specs.Writes.{IsClassType, IsFunctionType}
use Rattle.known_names.specs.declared.known.Known.{Known}
use Rattle.known_names.specs.declared.known.KnownClass.{KnownClass}
use Rattle.known_names.specs.IsKnown.{TypesKnown, IsSameClass, ClassesKnown, FunctionsKnown, IsKnown}
use Rattle.known_names.specs.computed.KnownNames.{known_class}

-- both are there and tell the same, or neither is
abbrev pub SameType : List ClassDef → Option ClassDef → Option Ty → Type 0
SameType cs None None = Unit {0}
SameType cs (Some d) (Some t) = IsClassType cs d t
SameType cs _ _ = ⊥

abbrev pub SameFunction : List ClassDef → Option FuncDef → Option Ty → Type 0
SameFunction cs None None = Unit {0}
SameFunction cs (Some d) (Some t) = IsFunctionType cs d t
SameFunction cs _ _ = ⊥

pub same_type : (cs ds : List ClassDef) (ns : List NamedType) (x : List ℕ) → TypesKnown cs ds ns → SameType cs (class_named ds x) (type_of_name ns x)
same_type cs [] [] x h = tt
same_type cs (d ∷ ds) (n ∷ ns) x h =
    subst (λ (z : List ℕ). SameType cs (class_named (d ∷ ds) x) (cond (bytes_eq z x) (Some n.ty) (type_of_name ns x))) (sym h.0)
    (split (bytes_eq d.name.text x) (λ b. SameType cs (cond b (Some d) (class_named ds x)) (cond b (Some n.ty) (type_of_name ns x))) (λ t. h.1) (λ f. same_type cs ds ns x h.2))
same_type cs [] (n ∷ ns) x h = absurd h
same_type cs (d ∷ ds) [] x h = absurd h

class_of_name : (cs ds : List ClassDef) (ks : List KnownClass) (x : List ℕ) → ClassesKnown cs ds ks → IsSameClass cs (class_named ds x) (known_class ks x)
class_of_name cs [] [] x h = tt
class_of_name cs (d ∷ ds) (k ∷ ks) x h =
    subst (λ (z : List ℕ). IsSameClass cs (class_named (d ∷ ds) x) (cond (bytes_eq z x) (Some k) (known_class ks x))) (sym h.0.name)
    (split (bytes_eq d.name.text x) (λ b. IsSameClass cs (cond b (Some d) (class_named ds x)) (cond b (Some k) (known_class ks x))) (λ t. h.0) (λ f. class_of_name cs ds ks x h.1))
class_of_name cs [] (k ∷ ks) x h = absurd h
class_of_name cs (d ∷ ds) [] x h = absurd h

function_of_name : (cs : List ClassDef) (ds : List FuncDef) (ns : List NamedType) (x : List ℕ) → FunctionsKnown cs ds ns → SameFunction cs (function_named ds x) (type_of_name ns x)
function_of_name cs [] [] x h = tt
function_of_name cs (d ∷ ds) (n ∷ ns) x h =
    subst (λ (z : List ℕ). SameFunction cs (function_named (d ∷ ds) x) (cond (bytes_eq z x) (Some n.ty) (type_of_name ns x))) (sym h.0)
    (split (bytes_eq d.name.text x) (λ b. SameFunction cs (cond b (Some d) (function_named ds x)) (cond b (Some n.ty) (type_of_name ns x))) (λ t. h.1) (λ f. function_of_name cs ds ns x h.2))
function_of_name cs [] (n ∷ ns) x h = absurd h
function_of_name cs (d ∷ ds) [] x h = absurd h

-- ---- look-ups in what is known

pub same_class : (cs : List ClassDef) (fs : List FuncDef) (ks : Known) (x : List ℕ) → IsKnown cs fs ks → IsSameClass cs (class_named cs x) (known_class ks.classes x)
same_class cs fs ks x h = class_of_name cs cs ks.classes x h.classes

pub same_function : (cs : List ClassDef) (fs : List FuncDef) (ks : Known) (x : List ℕ) → IsKnown cs fs ks → SameFunction cs (function_named fs x) (type_of_name ks.functions x)
same_function cs fs ks x h = function_of_name cs fs ks.functions x h.functions
