-- A word unpacks to a pair exactly where it is that pair's word, and to nothing exactly where it is no pair's.
use Rattle.std.proofs.Common.{ℕ, ◌<◌, ◌^◌, ◌≡◌, ◌∙◌, ◌↔◌, refl, Option, Some, None, sym, ap, subst, arith}
use Rattle.mono_list.proofs.Cases.{none_some, some_is}
use Rattle.mono_syntax.specs.declared.value.Value.{Value}
use Rattle.mono_syntax.specs.declared.value.TypeNo.{TypeNo}
use Rattle.field_word.specs.Words.{tag, payload, word_of, Fits, IsWordOf, IsNoWord}
use Rattle.field_word.specs.computed.Unpacked.{unpacked}
use Rattle.field_word.proofs.WordParts.{payload_small, tag_small}
use Rattle.field_word.proofs.Unpacks.{unpacked-word_of}
use Rattle.field_word.proofs.Packs.{word_of-unpacked}

pub word_small : (t : TypeNo) (v : Value) → Fits t v → word_of t v < 2 ^ 64
word_small t v h = let k : payload v < 2 ^ 48 = payload_small v h.1 in let g : tag v < 16 = tag_small v in omega (arith, h.0)

unpacks_to : (w : ℕ) (t : TypeNo) (v : Value) → IsWordOf t v w → unpacked w ≡ Some (t, v)
unpacks_to w t v h = subst (λ n. unpacked n ≡ Some (t, v)) h.1 (unpacked-word_of t v h.0)

pub pairs : (w : ℕ) (o : Option (TypeNo × Value)) → o ≡ unpacked w → (t : TypeNo) (v : Value) → (o ≡ Some (t, v)) ↔ IsWordOf t v w
pairs w o e t v = (λ i. word_of-unpacked w t v (sym e ∙ i), λ h. e ∙ unpacks_to w t v h)

pub nothing : (w : ℕ) (o : Option (TypeNo × Value)) → o ≡ unpacked w → (o ≡ None) ↔ IsNoWord w
nothing w o e = (λ i t v h. none_some _ (sym i ∙ e ∙ unpacks_to w t v h), none_of o e)
  where
    none_of : (o : Option (TypeNo × Value)) → o ≡ unpacked w → IsNoWord w → o ≡ None
    none_of None e h = refl
    none_of (Some (t, v)) e h = absurd (h t v (word_of-unpacked w t v (sym e)))

-- no two pairs have one word
pub one_pair : (w : ℕ) (t u : TypeNo) (v x : Value) → IsWordOf t v w → IsWordOf u x w → (t ≡ u) × (v ≡ x)
one_pair w t u v x h k =
    let p : TypeNo × Value = (t, v) in
    let q : TypeNo × Value = (u, x) in
    let e : p ≡ q = some_is (sym (unpacks_to w t v h) ∙ unpacks_to w u x k) in
    (ap (λ (r : TypeNo × Value). r.0) e, ap (λ (r : TypeNo × Value). r.1) e)
