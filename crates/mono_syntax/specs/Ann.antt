-- Ann, Form, Anns: trees, as contracts see them.
use Rattle.std.specs.Prelude.{◌≡◌, ℕ, ◌+◌, refl, Option, Some, None}
use Rattle.std.proofs.Common.{zero, suc}
use Rattle.std.specs.Coded.{Coded, code_by}
use base.Stored.{Gv, gnil, gnum, gcons}
use Rattle.mono_syntax.specs.declared.leaf.Place.{Place}
use Rattle.mono_syntax.specs.declared.leaf.Word.{Word}
use Rattle.mono_syntax.specs.Leaf.{gv_code, place_from, place_to, word_back, word_from, word_to}

mutual
  pub data Ann : Type 0 where
    ann : Place → Form → Ann

  pub data Form : Type 0 where
    dyn : Form
    int : Form
    bool : Form
    str : Form
    nil : Form
    class : Word → Form
    fun : Anns → Ann → Form

  pub data Anns : Type 0 where
    no_anns : Anns
    more_anns : Ann → Anns → Anns

-- how many nodes there are
abbrev mutual
  pub ann_size : Ann → ℕ
  ann_size (ann a b) = form_size b + 1

  pub form_size : Form → ℕ
  form_size dyn = 1
  form_size int = 1
  form_size bool = 1
  form_size str = 1
  form_size nil = 1
  form_size (class a) = 1
  form_size (fun a b) = anns_size a + ann_size b + 1

  pub anns_size : Anns → ℕ
  anns_size no_anns = 0
  anns_size (more_anns a b) = ann_size a + anns_size b

-- ---- how the logic stores them
abbrev mutual
  pub ann_to : Ann → Gv
  ann_to (ann a b) = gcons (gnum 0) (gcons (place_to a) (form_to b))

  pub form_to : Form → Gv
  form_to dyn = gcons (gnum 0) gnil
  form_to int = gcons (gnum 1) gnil
  form_to bool = gcons (gnum 2) gnil
  form_to str = gcons (gnum 3) gnil
  form_to nil = gcons (gnum 4) gnil
  form_to (class a) = gcons (gnum 5) (word_to a)
  form_to (fun a b) = gcons (gnum 6) (gcons (anns_to a) (ann_to b))

  pub anns_to : Anns → Gv
  anns_to no_anns = gcons (gnum 0) gnil
  anns_to (more_anns a b) = gcons (gnum 1) (gcons (ann_to a) (anns_to b))

abbrev mutual
  pub ann_from : Gv → Ann
  ann_from (gcons (gnum zero) (gcons a b)) = ann (place_from a) (form_from b)
  ann_from _ = ann (place_from gnil) dyn

  pub form_from : Gv → Form
  form_from (gcons (gnum zero) g) = dyn
  form_from (gcons (gnum (suc zero)) g) = int
  form_from (gcons (gnum (suc (suc zero))) g) = bool
  form_from (gcons (gnum (suc (suc (suc zero)))) g) = str
  form_from (gcons (gnum (suc (suc (suc (suc zero))))) g) = nil
  form_from (gcons (gnum (suc (suc (suc (suc (suc zero)))))) a) = class (word_from a)
  form_from (gcons (gnum (suc (suc (suc (suc (suc (suc zero))))))) (gcons a b)) = fun (anns_from a) (ann_from b)
  form_from _ = dyn

  pub anns_from : Gv → Anns
  anns_from (gcons (gnum zero) g) = no_anns
  anns_from (gcons (gnum (suc zero)) (gcons a b)) = more_anns (ann_from a) (anns_from b)
  anns_from _ = no_anns

mutual
  pub ann_back : (x : Ann) → ann_from (ann_to x) ≡ x
  ann_back (ann a b) = λ i. ann a (form_back b i)

  pub form_back : (x : Form) → form_from (form_to x) ≡ x
  form_back dyn = refl
  form_back int = refl
  form_back bool = refl
  form_back str = refl
  form_back nil = refl
  form_back (class a) = λ i. class (word_back a i)
  form_back (fun a b) = λ i. fun (anns_back a i) (ann_back b i)

  pub anns_back : (x : Anns) → anns_from (anns_to x) ≡ x
  anns_back no_anns = refl
  anns_back (more_anns a b) = λ i. more_anns (ann_back a i) (anns_back b i)

abbrev pub ann_code : Coded Ann
ann_code = code_by Gv gv_code ann_to ann_from ann_back

abbrev pub ann_option_to : Option Ann → Gv
ann_option_to None = gnil
ann_option_to (Some a) = gcons gnil (ann_to a)

abbrev pub ann_option_from : Gv → Option Ann
ann_option_from (gcons gnil a) = Some (ann_from a)
ann_option_from _ = None

pub ann_option_back : (x : Option Ann) → ann_option_from (ann_option_to x) ≡ x
ann_option_back None = refl
ann_option_back (Some a) = λ i. Some (ann_back a i)
