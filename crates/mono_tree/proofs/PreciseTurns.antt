-- Loops over two lists at once: what is left decides.
use Rattle.std.proofs.Common.{◌≡◌, suc, List, [], ◌∷◌, length, refl, ap, arith}
use Rattle.mono_syntax.specs.declared.tree.Field as rust_field
use Rattle.mono_syntax.specs.Ty.{Ty}
use Rattle.mono_tree.specs.Precise.{Precise, ArePrecise, both_end, both_more, HavePrecise, both_empty, both_field}
use Rattle.mono_syntax.specs.TyView.{tys, fields}
use Rattle.mono_tree.proofs.Layers.{to_layer_all, to_layer_fields}

pub ArePrecise-lengths : (ts us : List Ty) → ArePrecise (tys ts) (tys us) → length ts ≡ length us
ArePrecise-lengths [] [] p = refl
ArePrecise-lengths [] (u ∷ us) p = absurd (to_layer_all p)
ArePrecise-lengths (t ∷ ts) [] p = absurd (to_layer_all p)
ArePrecise-lengths (t ∷ ts) (u ∷ us) p = ap suc (ArePrecise-lengths ts us (to_layer_all p).1)

pub HavePrecise-lengths : (fs gs : List rust_field.Field) → HavePrecise (fields fs) (fields gs) → length fs ≡ length gs
HavePrecise-lengths [] [] p = refl
HavePrecise-lengths [] (g ∷ gs) p = absurd (to_layer_fields p)
HavePrecise-lengths (f ∷ fs) [] p = absurd (to_layer_fields p)
HavePrecise-lengths (f ∷ fs) (g ∷ gs) p = ap suc (HavePrecise-lengths fs gs (to_layer_fields p).2)

pub ArePrecise-none : (ts us : List Ty) → length ts ≡ 0 → length us ≡ 0 → ArePrecise (tys ts) (tys us)
ArePrecise-none [] [] h k = both_end
ArePrecise-none [] (u ∷ us) h k = absurd (omega arith)
ArePrecise-none (t ∷ ts) us h k = absurd (omega arith)

pub HavePrecise-none : (fs gs : List rust_field.Field) → length fs ≡ 0 → length gs ≡ 0 → HavePrecise (fields fs) (fields gs)
HavePrecise-none [] [] h k = both_empty
HavePrecise-none [] (g ∷ gs) h k = absurd (omega arith)
HavePrecise-none (f ∷ fs) gs h k = absurd (omega arith)

pub ruleset all_turns = (both_more, to_layer_all, ArePrecise-lengths, ArePrecise-none)

pub ruleset fields_turns = (both_field, to_layer_fields, HavePrecise-lengths, HavePrecise-none)
