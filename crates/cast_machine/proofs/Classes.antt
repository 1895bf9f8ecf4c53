-- A class's type has a field for each declared name, and one for no other.
use Rattle.std.specs.List.{All}
use Rattle.std.specs.Ordering.{is_eq, nat_cmp}
use Rattle.std.specs.Cmp.Lexicographic.{slice_cmp}
use Rattle.std.specs.declared.cmp.Ordering.TheVariants.{Less}
use Rattle.std.proofs.lemmas.List.Elements.{All-nil, All-cons, All-head, All-tail}
use Rattle.std.proofs.lemmas.List.Sorted.{All-permutation}
use Rattle.std.proofs.lemmas.Map.Text.{is_eq-slice_cmp}
use Rattle.std.proofs.Common.{All, Less, List, [], ap, inl, inr, is_eq, nat_cmp, refl, subst, sym, ℕ, ⊎_elim, ◌∙◌, ◌∷◌, ◌≡◌, ◌⊎◌}
use Rattle.std.proofs.lemmas.Bool.{false≢true}
use Rattle.mono_syntax.specs.Ty.{Fields, Ty, more_fields, no_fields, obj}
use Rattle.mono_syntax.specs.declared.cast.CastClass.{CastClass}
use Rattle.mono_tree.proofs.TypeLaws.{bytes_eq-refl}
use Rattle.mono_tree.specs.CastScripts.{fields_of}
use Rattle.mono_tree.specs.FieldNames.{names_of}
use Rattle.mono_tree.specs.IsType.{AreInOrder, IsBefore, IsType}
use Rattle.mono_tree.specs.TypedPrograms.{HasField, IsWellTypedClass}

-- x is one of the names
abbrev pub Has : List (List ℕ) → List ℕ → Type 0
Has [] x = ⊥
Has (n ∷ ns) x = (n ≡ x) ⊎ Has ns x

has_all : (ns ms : List (List ℕ)) → ((x : List ℕ) → Has ns x → Has ms x) → All (Has ms) ns
has_all [] ms each = All-nil (Has ms)
has_all (n ∷ ns) ms each = All-cons (Has ms) n ns (each n (inl refl)) (has_all ns ms (λ x i. each x (inr i)))

field_has : (P : List ℕ → Type 0) (fs : Fields) (x : List ℕ) (U : Ty) → All P (names_of fs) → HasField fs x U → P x
field_has P no_fields x U all i = absurd i
field_has P (more_fields n T fs) x U all i =
    ⊎_elim
    (λ here. subst P here.0 (All-head P n (names_of fs) all))
    (λ later. field_has P fs x U (All-tail P n (names_of fs) all) later)
    i

-- no name stands before itself
before_itself : (n : List ℕ) → slice_cmp nat_cmp n n ≡ Less → ⊥
before_itself n e = false≢true (ap is_eq (sym e) ∙ is_eq-slice_cmp n n ∙ bytes_eq-refl n)

not_before : (n x : List ℕ) (U : Ty) (fs : Fields) → IsBefore n (names_of fs) → HasField fs x U → n ≡ x → ⊥
not_before n x U no_fields b i e = i
not_before n x U (more_fields m T fs) b i e =
    ⊎_elim
    (λ here. before_itself n (subst (λ k. slice_cmp nat_cmp n k ≡ Less) (here.0 ∙ sym e) b.0))
    (λ later. not_before n x U fs b.1 later e)
    i

field_unique : (fs : Fields) (x : List ℕ) (T U : Ty) → AreInOrder (names_of fs) → HasField fs x T → HasField fs x U → T ≡ U
field_unique no_fields x T U o i j = absurd i
field_unique (more_fields n V fs) x T U o i j =
    ⊎_elim
    (λ here. ⊎_elim
    (λ same. sym here.1 ∙ same.1)
    (λ later. absurd (not_before n x U fs o.0 later here.0))
    j)
    (λ later. ⊎_elim
    (λ here. absurd (not_before n x T fs o.0 later here.0))
    (λ rest. field_unique fs x T U o.1 later rest)
    j)
    i

-- what a new object needs of its class
pub record ClassOk (d : CastClass) : Type 0 where
  pub type : d.ty ≡ obj (fields_of d.ty)
  pub named : (x : List ℕ) (U : Ty) → HasField (fields_of d.ty) x U → Has d.params x
  pub unique : (x : List ℕ) (T U : Ty) → HasField (fields_of d.ty) x T → HasField (fields_of d.ty) x U → T ≡ U

pub class_ok : (d : CastClass) → IsWellTypedClass d → ClassOk d
class_ok d w =
    let same : w.fields ≡ fields_of d.ty = ap fields_of (sym w.type) in
    let ordered : AreInOrder (names_of w.fields) = (subst IsType w.type w.is_type).0 in
    let all : All (Has d.params) (names_of w.fields) = All-permutation (Has d.params) d.params (names_of w.fields) w.declared (has_all d.params d.params (λ x i. i)) in
    record {
      type = w.type ∙ ap obj same;
      named = λ x U i. field_has (Has d.params) w.fields x U all (subst (λ fs. HasField fs x U) (sym same) i);
      unique = λ x T U i j. field_unique w.fields x T U ordered (subst (λ fs. HasField fs x T) (sym same) i) (subst (λ fs. HasField fs x U) (sym same) j);
    }
