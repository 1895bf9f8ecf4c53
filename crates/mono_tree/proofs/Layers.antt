-- Precision at one level: what it says of the parts.
use Rattle.std.proofs.Common.{◌≡◌}
use Rattle.mono_syntax.specs.Ty.{Ty, dyn, int, bool, str, nil, fun, obj, Tys, no_tys, more_tys, Fields, no_fields, more_fields}
use Rattle.mono_tree.specs.Precise.{Precise, below_dyn, both_int, both_bool, both_str, both_nil, both_fun, both_obj, ArePrecise, both_end, both_more, HavePrecise, both_empty, both_field}

abbrev pub Layer : Ty → Ty → Type 0
Layer _ dyn = Unit {0}
Layer int int = Unit {0}
Layer bool bool = Unit {0}
Layer str str = Unit {0}
Layer nil nil = Unit {0}
Layer (fun ps r) (fun qs s) = ArePrecise ps qs × Precise r s
Layer (obj fs) (obj gs) = HavePrecise fs gs
Layer _ _ = ⊥

abbrev pub LayerAll : Tys → Tys → Type 0
LayerAll no_tys no_tys = Unit {0}
LayerAll (more_tys t ts) (more_tys u us) = Precise t u × ArePrecise ts us
LayerAll _ _ = ⊥

abbrev pub LayerFields : Fields → Fields → Type 0
LayerFields no_fields no_fields = Unit {0}
LayerFields (more_fields n t fs) (more_fields k u gs) = (n ≡ k) × Precise t u × HavePrecise fs gs
LayerFields _ _ = ⊥

pub to_layer : {a b : Ty} → Precise a b → Layer a b
to_layer below_dyn = tt
to_layer both_int = tt
to_layer both_bool = tt
to_layer both_str = tt
to_layer both_nil = tt
to_layer (both_fun ps r) = (ps, r)
to_layer (both_obj fs) = fs

pub to_layer_all : {ts us : Tys} → ArePrecise ts us → LayerAll ts us
to_layer_all both_end = tt
to_layer_all (both_more p ps) = (p, ps)

pub to_layer_fields : {fs gs : Fields} → HavePrecise fs gs → LayerFields fs gs
to_layer_fields both_empty = tt
to_layer_fields (both_field e p ps) = (e, p, ps)

-- precision at each pair of variants, both ways
pub ruleset levels = (below_dyn, both_int, both_bool, both_str, both_nil, both_fun, both_obj, to_layer)
