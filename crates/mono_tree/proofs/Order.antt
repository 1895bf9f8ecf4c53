-- Precision is a partial order.
use Rattle.std.proofs.Common.{◌≡◌, refl, ◌∙◌}
use Rattle.mono_syntax.specs.Ty.{Ty, dyn, int, bool, str, nil, fun, obj, Tys, no_tys, more_tys, Fields, no_fields, more_fields}
use Rattle.mono_tree.specs.Precise.{Precise, below_dyn, both_int, both_bool, both_str, both_nil, both_fun, both_obj, ArePrecise, both_end, both_more, HavePrecise, both_empty, both_field}

mutual
  pub reflexive : (a : Ty) → Precise a a
  reflexive dyn = below_dyn
  reflexive int = both_int
  reflexive bool = both_bool
  reflexive str = both_str
  reflexive nil = both_nil
  reflexive (fun ps r) = both_fun (all_reflexive ps) (reflexive r)
  reflexive (obj fs) = both_obj (fields_reflexive fs)

  pub all_reflexive : (ts : Tys) → ArePrecise ts ts
  all_reflexive no_tys = both_end
  all_reflexive (more_tys t ts) = both_more (reflexive t) (all_reflexive ts)

  pub fields_reflexive : (fs : Fields) → HavePrecise fs fs
  fields_reflexive no_fields = both_empty
  fields_reflexive (more_fields n t fs) = both_field refl (reflexive t) (fields_reflexive fs)

mutual
  pub transitive : {a b c : Ty} → Precise a b → Precise b c → Precise a c
  transitive below_dyn below_dyn = below_dyn
  transitive both_int q = q
  transitive both_bool q = q
  transitive both_str q = q
  transitive both_nil q = q
  transitive (both_fun ps r) below_dyn = below_dyn
  transitive (both_fun ps r) (both_fun qs s) = both_fun (all_transitive ps qs) (transitive r s)
  transitive (both_obj fs) below_dyn = below_dyn
  transitive (both_obj fs) (both_obj gs) = both_obj (fields_transitive fs gs)

  pub all_transitive : {ts us vs : Tys} → ArePrecise ts us → ArePrecise us vs → ArePrecise ts vs
  all_transitive both_end both_end = both_end
  all_transitive (both_more p ps) (both_more q qs) = both_more (transitive p q) (all_transitive ps qs)

  pub fields_transitive : {fs gs hs : Fields} → HavePrecise fs gs → HavePrecise gs hs → HavePrecise fs hs
  fields_transitive both_empty both_empty = both_empty
  fields_transitive (both_field d p ps) (both_field e q qs) = both_field (d ∙ e) (transitive p q) (fields_transitive ps qs)

mutual
  pub antisymmetric : {a b : Ty} → Precise a b → Precise b a → a ≡ b
  antisymmetric below_dyn below_dyn = refl
  antisymmetric both_int q = refl
  antisymmetric both_bool q = refl
  antisymmetric both_str q = refl
  antisymmetric both_nil q = refl
  antisymmetric (both_fun ps r) (both_fun qs s) = λ i. fun (all_antisymmetric ps qs i) (antisymmetric r s i)
  antisymmetric (both_obj fs) (both_obj gs) = λ i. obj (fields_antisymmetric fs gs i)

  pub all_antisymmetric : {ts us : Tys} → ArePrecise ts us → ArePrecise us ts → ts ≡ us
  all_antisymmetric both_end both_end = refl
  all_antisymmetric (both_more p ps) (both_more q qs) = λ i. more_tys (antisymmetric p q i) (all_antisymmetric ps qs i)

  pub fields_antisymmetric : {fs gs : Fields} → HavePrecise fs gs → HavePrecise gs fs → fs ≡ gs
  fields_antisymmetric both_empty both_empty = refl
  fields_antisymmetric (both_field d p ps) (both_field e q qs) = λ i. more_fields (d i) (antisymmetric p q i) (fields_antisymmetric ps qs i)

pub ruleset order = (reflexive, antisymmetric)
