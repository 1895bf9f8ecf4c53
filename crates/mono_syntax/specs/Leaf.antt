-- How the logic stores what trees are made of: the dull part of "trees as data".
use Rattle.std.specs.Prelude.{◌≡◌, ℕ, List, [], ◌∷◌, Bool, true, false, Option, Some, None, refl}
use Rattle.std.proofs.Common.{zero, suc}
use Rattle.std.specs.Coded.{Coded}
use base.Stored.{Gv, gnil, gnum, gcons}
use Rattle.mono_syntax.specs.declared.leaf.Place.{Place}
use Rattle.mono_syntax.specs.declared.leaf.Word.{Word}
use Rattle.mono_syntax.specs.declared.leaf.Op.{Op}
use Rattle.mono_syntax.specs.declared.leaf.Op.TheVariants as operator

abbrev pub gv_code : Coded Gv
gv_code = record { code = λ g. g; inj = λ x y e. e }

abbrev pub nat_to : ℕ → Gv
nat_to n = gnum n

abbrev pub nat_from : Gv → ℕ
nat_from (gnum n) = n
nat_from _ = 0

abbrev pub text_to : List ℕ → Gv
text_to [] = gnil
text_to (b ∷ bs) = gcons (gnum b) (text_to bs)

abbrev pub text_from : Gv → List ℕ
text_from (gcons b bs) = nat_from b ∷ text_from bs
text_from _ = []

pub text_back : (t : List ℕ) → text_from (text_to t) ≡ t
text_back [] = refl
text_back (b ∷ bs) = λ i. b ∷ text_back bs i

abbrev pub place_to : Place → Gv
place_to p = gcons (gnum p.line) (gnum p.column)

abbrev pub place_from : Gv → Place
place_from (gcons a b) = record { line = nat_from a; column = nat_from b }
place_from _ = record { line = 0; column = 0 }

abbrev pub word_to : Word → Gv
word_to w = gcons (text_to w.text) (place_to w.place)

abbrev pub word_from : Gv → Word
word_from (gcons a b) = record { text = text_from a; place = place_from b }
word_from _ = record { text = []; place = place_from gnil }

pub word_back : (w : Word) → word_from (word_to w) ≡ w
word_back w = λ i. record { text = text_back w.text i; place = w.place }

abbrev pub bool_to : Bool → Gv
bool_to false = gnum 0
bool_to true = gnum 1

abbrev pub bool_from : Gv → Bool
bool_from (gnum zero) = false
bool_from _ = true

pub bool_back : (b : Bool) → bool_from (bool_to b) ≡ b
bool_back false = refl
bool_back true = refl

abbrev pub site_to : Option ℕ → Gv
site_to None = gnil
site_to (Some n) = gnum n

abbrev pub site_from : Gv → Option ℕ
site_from (gnum n) = Some n
site_from _ = None

pub site_back : (s : Option ℕ) → site_from (site_to s) ≡ s
site_back None = refl
site_back (Some n) = refl

abbrev pub op_to : Op → Gv
op_to operator.Add = gnum 0
op_to operator.Sub = gnum 1
op_to operator.Mul = gnum 2
op_to operator.Div = gnum 3
op_to operator.Mod = gnum 4
op_to operator.Eq = gnum 5
op_to operator.Ne = gnum 6
op_to operator.Lt = gnum 7
op_to operator.Le = gnum 8
op_to operator.Gt = gnum 9
op_to operator.Ge = gnum 10

abbrev pub op_from : Gv → Op
op_from (gnum zero) = operator.Add
op_from (gnum (suc zero)) = operator.Sub
op_from (gnum (suc (suc zero))) = operator.Mul
op_from (gnum (suc (suc (suc zero)))) = operator.Div
op_from (gnum (suc (suc (suc (suc zero))))) = operator.Mod
op_from (gnum (suc (suc (suc (suc (suc zero)))))) = operator.Eq
op_from (gnum (suc (suc (suc (suc (suc (suc zero))))))) = operator.Ne
op_from (gnum (suc (suc (suc (suc (suc (suc (suc zero)))))))) = operator.Lt
op_from (gnum (suc (suc (suc (suc (suc (suc (suc (suc zero))))))))) = operator.Le
op_from (gnum (suc (suc (suc (suc (suc (suc (suc (suc (suc zero)))))))))) = operator.Gt
op_from (gnum (suc (suc (suc (suc (suc (suc (suc (suc (suc (suc zero))))))))))) = operator.Ge
op_from _ = operator.Add

pub op_back : (o : Op) → op_from (op_to o) ≡ o
op_back operator.Add = refl
op_back operator.Sub = refl
op_back operator.Mul = refl
op_back operator.Div = refl
op_back operator.Mod = refl
op_back operator.Eq = refl
op_back operator.Ne = refl
op_back operator.Lt = refl
op_back operator.Le = refl
op_back operator.Gt = refl
op_back operator.Ge = refl
