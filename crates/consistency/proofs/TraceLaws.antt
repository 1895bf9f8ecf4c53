-- The list of the types of all expressions grows.
use Rattle.std.proofs.Common.{◌≡◌, List, [], ◌∷◌, ◌++◌, refl, sym, ◌∙◌, ap, append_assoc}
use Rattle.std.proofs.lemmas.List.{append-nil}
use Rattle.mono_syntax.specs.declared.leaf.TyAt.{TyAt}
use Rattle.mono_syntax.specs.Ty.{Ty}
use Rattle.type_list.specs.computed.TypeList.{with_type}
use Rattle.type_list.proofs.TypeListLaws.{Keeps, Grows, stays, grows_on, is_placed, grown}
use Rattle.consistency.specs.declared.trace.Trace.{Trace}
use Rattle.static_types.specs.Typing.{AllStand}
use Rattle.consistency.specs.computed.Traces.{with_expr}

stand_kept : (ts us : List Ty) (as_ : List TyAt) (vs : List Ty) → Keeps ts us → AllStand ts as_ vs → AllStand us as_ vs
stand_kept ts us [] [] k h = tt
stand_kept ts us (a ∷ as_) (v ∷ vs) k h = (k a.0 v h.0, stand_kept ts us as_ vs k h.1)
stand_kept ts us [] (v ∷ vs) k h = absurd h
stand_kept ts us (a ∷ as_) [] k h = absurd h

stand_more : (ts : List Ty) (as_ bs : List TyAt) (us vs : List Ty) → AllStand ts as_ us → AllStand ts bs vs → AllStand ts (as_ ++ bs) (us ++ vs)
stand_more ts [] bs [] vs h k = k
stand_more ts (a ∷ as_) bs (u ∷ us) vs h k = (h.0, stand_more ts as_ bs us vs h.1 k)
stand_more ts [] bs (u ∷ us) vs h k = absurd h
stand_more ts (a ∷ as_) bs [] vs h k = absurd h

-- behind b, the types of these expressions stand in x
pub record Traced (b x : Trace) (us : List Ty) : Type 0 where
  pub grows : Grows b.types x.types
  pub more : List TyAt
  pub exprs : x.exprs ≡ b.exprs ++ more
  pub stand : AllStand x.types more us

pub traced_none : (b : Trace) → Traced b b []
traced_none b = record { grows = stays b.types; more = []; exprs = sym (append-nil b.exprs); stand = tt }

pub traced_on : (b x y : Trace) (us vs : List Ty) → Traced b x us → Traced x y vs → Traced b y (us ++ vs)
traced_on b x y us vs h k =
    record {
      grows = grows_on b.types x.types y.types h.grows k.grows;
      more = h.more ++ k.more;
      exprs = k.exprs ∙ ap (λ (z : List TyAt). z ++ k.more) h.exprs ∙ append_assoc b.exprs h.more k.more;
      stand = stand_more y.types h.more k.more us vs (stand_kept x.types y.types h.more us k.grows.keeps h.stand) k.stand;
    }

pub traced_push : (b : Trace) (t : Ty) → Traced b (with_expr b t) (t ∷ [])
traced_push b t =
    let p = is_placed b.types t in
    record { grows = grown b.types t; more = (with_type b.types t).at ∷ []; exprs = refl; stand = (p.at, tt) }
