-- Fits and writes keep everything well typed.
use Rattle.cast_machine.specs.BlamedSites.{IsFitSite}
use Rattle.std.proofs.Common.{Bool, List, None, Option, Some, [], ap, false, if◌then◌else◌, refl, slice_get, slice_set, subst, sym, true, ℕ, ◌++◌, ◌∙◌, ◌∷◌, ◌≡◌, inr, inl}
use Rattle.std.proofs.lemmas.Bool.{and_parts, false≢true}
use Rattle.mono_list.proofs.Cases.{none_some, some_is}
use Rattle.mono_syntax.specs.Ty.{Fields, Ty, dyn, obj}
use Rattle.mono_syntax.specs.declared.cast.CastScript.{CastScript}
use Rattle.mono_syntax.specs.declared.leaf.Kind.TheVariants as kinds
use Rattle.mono_syntax.specs.declared.value.Val.{Val}
use Rattle.mono_syntax.specs.declared.value.Val.TheVariants as val
use Rattle.mono_tree.proofs.TypeLaws.{precise_refl, precise_trans, static_same}
use Rattle.mono_tree.specs.CastScripts.{fields_of, target_in, target_of}
use Rattle.mono_tree.specs.Precision.{precise}
use Rattle.mono_tree.specs.Sites.{IsSite, is_cast, loses_precision, site_loses, types_lose}
use Rattle.mono_tree.specs.Static.{is_static}
use Rattle.mono_tree.specs.TypedPrograms.{CastUse, FieldUse, Scope, SiteWhere, WriteUse}
use Rattle.cast_machine.proofs.Blames.{free_site, has_free, has_free_to, fit_blamed}
use Rattle.cast_machine.proofs.Fitting.{FitOk, extends_set, fit_ok, has_lower, heap_set}
use Rattle.cast_machine.proofs.Heap.{on_test}
use Rattle.cast_machine.proofs.Obligations.{HasFree, HereOk, MoveOk, blames_ok, blaming_ok, goes_ok, group, owns-all, same_type-eq, sets_on, work_ok, work_top}
use Rattle.cast_machine.proofs.ValueLists.{value_at, values_retype, values_set}
use Rattle.cast_machine.specs.Cells.{blaming, holds, is_dyn, is_fitted, is_object, on_cell, settle, write_cell, write_fit, write_open, write_step}
use Rattle.cast_machine.specs.Fits.{fit_obj, fit_of}
use Rattle.cast_machine.specs.Heap.{Heap, cell_at}
use Rattle.cast_machine.specs.HeapTyping.{AreTyped, IsAsPrecise, IsTyped}
use Rattle.cast_machine.specs.Obligations.{obligations}
use Rattle.cast_machine.specs.Rows.{fit_at, fit_top, fit_value, goes, has}
use Rattle.cast_machine.specs.Typing.{around}
use Rattle.cast_machine.specs.WorkTyping.{IsWellTypedFitted, IsWellTypedTop, IsWellTypedWork, MayBeBlamed, OnTop, OnTwo, Owns}
use Rattle.cast_machine.specs.declared.data.Cell.{Cell}
use Rattle.cast_machine.specs.declared.data.Fit.{Fit}
use Rattle.cast_machine.specs.declared.data.Fit.TheVariants as fits
use Rattle.cast_machine.specs.declared.data.Frame.{Frame}
use Rattle.cast_machine.specs.declared.data.Outcome.{Outcome}
use Rattle.cast_machine.specs.declared.data.Thread.{Thread}
use Rattle.cast_machine.specs.declared.data.Verdict.{Verdict}
use Rattle.cast_machine.specs.declared.data.Verdict.TheVariants as verdict
use Rattle.cast_machine.specs.declared.data.Work.TheVariants as work

free_blame : (p : CastScript) (h : Heap) (k : Option ℕ) (a : ℕ) (x : List ℕ) (T : Ty) → HasFree p k → MayBeBlamed p h k a x T
free_blame p h None a x T i = i
free_blame p h (Some k) a x T i = (i.1, λ e. absurd (false≢true (sym i.0 ∙ e)))

-- only an object opens, and not at Dyn
opens_object : (v : Val) (c b : ℕ) → v ≡ val.Obj c b → is_object v ≡ false → ⊥
opens_object v c b e i = false≢true (sym i ∙ ap is_object e)

opens_no_dyn : (T : Ty) (fs : Fields) → T ≡ obj fs → is_dyn T ≡ true → ⊥
opens_no_dyn T fs e i = false≢true (ap is_dyn (sym e) ∙ i)

object_opens : (t : Bool) (c a : ℕ) (u : Val) → fit_obj t c a ≡ fits.Holds u → ⊥
object_opens true c a u e = cc
object_opens false c a u e = cc

object_holds : (p : CastScript) (v : Val) (T : Ty) (u : Val) → is_object v ≡ true → is_dyn T ≡ false → fit_of p v T ≡ fits.Holds u → ⊥
object_holds p v dyn u i j e = false≢true (sym j)
object_holds p (val.Obj c a) (obj fs) u i j e = object_opens _ c a u e
object_holds p (val.Obj c a) T u i j e = cc
object_holds p v T u i j e = false≢true i

module _ (p : CastScript) (h : Heap) (threads : List Thread) (s : Scope) (rs : List Ty) (me : ℕ) (R : Ty) (f : Frame) (below : List Frame) (ok : HereOk p h threads s rs me R f below) where
  abbrev Ok : Outcome → Type 0
  Ok o = MoveOk p rs me h R o

  abbrev At : ℕ → List ℕ → Verdict → Type 0
  At a x v = Ok (settle a x v below)

  abbrev Rest : List Ty → Type 0
  Rest ts = IsWellTypedWork p s f.asked f.work ts

  -- ---- fits

  module _ (ts : List Ty) (vok : AreTyped p h f.values ts) where
    -- a fit of the value at j to T, at a site that is blamed only where the value may not have the type
    fit_value_ok : (k j : ℕ) (T : Ty) (v : Val) → IsFitSite p k T → slice_get f.values j ≡ Some v → (loses_precision p k ≡ true → IsTyped p h v T) → Rest (slice_set ts j T) → (o : Fit) → FitOk p h v T o → Ok (fit_value k T j o f below)
    fit_value_ok k j T v site at lose w fits.Unfit i = go (loses_precision p k) refl
      where
        go : (b : Bool) → loses_precision p k ≡ b → Ok (fit_value k T j fits.Unfit f below)
        go true e = absurd (i (lose e))
        go false e = blames_ok p h threads s rs me R f below ok (Some k) (e, fit_blamed p k T site)
    fit_value_ok k j T v site at lose w (fits.Holds u) i = work_ok p h threads s rs me R f below ok f.work (slice_set f.values j u) (slice_set ts j T) (values_set p h f.values ts j u T vok i) w
    fit_value_ok k j T v site at lose w (fits.Opens c b) i =
        goes_ok p h threads s rs me R f below ok (obligations c b (fields_of T) (work.Fitted k T j ∷ []) ++ f.work) f.values ts vok
        (group p (around s f.asked rs me) h c b (fields_of T) (work.Fitted k T j) f.work f.values ts v T i.0 i.1 i.2
        (λ x U m. (
          fit_blamed p k T site,
          λ e.
              let typed : IsTyped p h (val.Obj c b) (obj (fields_of T)) = subst (λ u. IsTyped p h u (obj (fields_of T))) i.0 (subst (λ V. IsTyped p h v V) i.1 (lose e)) in
              typed.1.1 x U m,
        ))
        (λ left o. record { site = site; value = v; at = at; owns = o; later = w }))

    pub fit_at_ok : (k j : ℕ) (A T : Ty) → IsFitSite p k T → slice_get ts j ≡ Some A → ((v : Val) → IsTyped p h v A → loses_precision p k ≡ true → IsTyped p h v T) → IsWellTypedWork p s f.asked f.work (slice_set ts j T) → MoveOk p rs me h R (fit_at p k T j (slice_get f.values j) f below)
    fit_at_ok k j A T site at lose w =
        let x = value_at p h f.values ts j A vok at in
        subst (λ o. Ok (fit_at p k T j o f below)) (sym x.1)
        (fit_value_ok k j T x.0 site x.1 (lose x.0 x.2) w (fit_of p x.0 T) (fit_ok p h ok.heap x.0 T x.2.0))

    pub fitted_ok : (k : ℕ) (T : Ty) (j : ℕ) → IsWellTypedFitted p (around s f.asked rs me) h [] f.work k T j f.values ts → MoveOk p rs me h R (goes f below)
    fitted_ok k T j i = work_ok p h threads s rs me R f below ok f.work f.values (slice_set ts j T) (values_retype p h f.values ts j i.value T vok i.at (owns-all p h i.value T i.owns)) i.later

    pub arg_ok : (k : ℕ) (T : Ty) (j : ℕ) → IsSite p k kinds.Argument → (A : Ty) → slice_get ts j ≡ Some A → IsWellTypedWork p s f.asked f.work (slice_set ts j T) → MoveOk p rs me h R (fit_at p k T j (slice_get f.values j) f below)
    arg_ok k T j site A at w = fit_at_ok k j A T (inr (inl site)) at (λ u has e. absurd (false≢true (sym (free_site p k kinds.Argument site refl refl).0 ∙ e))) w

    -- of the top value
    cast_loses : (k : ℕ) (S T : Ty) → CastUse p k S T → (v : Val) → IsTyped p h v S → loses_precision p k ≡ true → IsTyped p h v T
    cast_loses k S T x v has e =
        let lost : site_loses p (Some x.site) ≡ true = subst (λ o. site_loses p o ≡ true) x.at e in
        let y = and_parts (is_cast (x.site).kind) (types_lose (slice_get p.types (x.site).source.0) (slice_get p.types (x.site).target.0)) lost in
        let low : precise x.source T ≡ true = subst (λ o. types_lose (Some x.source) o ≡ true) x.target_at (subst (λ o. types_lose o (slice_get p.types (x.site).target.0) ≡ true) x.source_at y.1) in
        has_lower p h v S T has (precise_trans S x.source T x.value low)

    cast_site : (k : ℕ) (S T : Ty) → CastUse p k S T → IsFitSite p k T
    cast_site k S T x = inl (record { site = x.site; at = x.at; of_kind = x.of_kind; target = x.target_at })

    cast_target : (k : ℕ) (S T : Ty) → CastUse p k S T → target_of p k ≡ Some T
    cast_target k S T x = ap (target_in p) x.at ∙ x.target_at

  pub cast_ok : (ts : List Ty) (k : ℕ) → AreTyped p h f.values ts → OnTop ts (λ S us. (T : Ty) × CastUse p k S T × IsWellTypedWork p s f.asked f.work (T ∷ us)) → MoveOk p rs me h R (fit_top p k (target_of p k) f below)
  cast_ok [] k vok i = absurd i
  cast_ok (S ∷ ts) k vok i =
      subst (λ o. Ok (fit_top p k o f below)) (sym (cast_target (S ∷ ts) vok k S i.0 i.1))
      (fit_at_ok (S ∷ ts) vok k 0 S i.0 (cast_site (S ∷ ts) vok k S i.0 i.1) refl (λ v has e. cast_loses (S ∷ ts) vok k S i.0 i.1 v has e) i.2)

  pub result_ok : (ts : List Ty) (k : ℕ) → AreTyped p h f.values ts → OnTop ts (λ S us. (T : Ty) × (f.asked ≡ Some T) × IsSite p k kinds.Return × IsWellTypedWork p s f.asked f.work (T ∷ us)) → MoveOk p rs me h R (fit_top p k f.asked f below)
  result_ok [] k vok i = absurd i
  result_ok (S ∷ ts) k vok i =
      subst (λ o. Ok (fit_top p k o f below)) (sym i.1)
      (fit_at_ok (S ∷ ts) vok k 0 S i.0 (inr (inr i.2)) refl (λ u has e. absurd (false≢true (sym (free_site p k kinds.Return i.2 refl refl).0 ∙ e))) i.3)

  -- ---- writes

  -- the frame g has the receiver and the value on top; vs are the values below them
  module _ (m k : Option ℕ) (F : Ty) (x : List ℕ) (fitted : Option Ty) (r v : Val) (vs : List Val) (S A : Ty) (ts : List Ty) (vok : AreTyped p h vs ts) (ri : IsTyped p h r S) (vi : IsTyped p h v A) (wr : WriteUse p m k S x F A) (ow : (U : Ty) → fitted ≡ Some U → Owns h [] v U) (w : IsWellTypedWork p s f.asked f.work ts) where
    set_ok : (a : ℕ) (d : Cell) → cell_at h a x ≡ Some d → (U : Ty) → IsAsPrecise U d.ty → (u : Val) → IsTyped p h u U → At a x (verdict.Sets (holds U u) (has vs f))
    set_ok a d at U low u typed =
        sets_on p h threads s rs me R f below ok a x (holds U u) (extends_set h a x d U u at low) (heap_set p h a x d U u at low typed ok.heap) f.work vs ts vok (work_top p (around s f.asked rs me) h f.work vs ts w)

    free_write : is_static F ≡ false → HasFree p k
    free_write e = has_free_to p k kinds.Write F (subst (λ b. SiteWhere p k kinds.Write F b) e wr.site) refl refl

    fit_write : (a : ℕ) (d : Cell) → cell_at h a x ≡ Some d → is_static F ≡ false → ((c b : ℕ) → v ≡ val.Obj c b → d.ty ≡ obj (fields_of d.ty) → ⊥) → (o : Fit) → FitOk p h v d.ty o → At a x (write_fit k (has vs f) d.ty o)
    fit_write a d at e none (fits.Holds u) i = set_ok a d at d.ty (precise_refl d.ty) u i
    fit_write a d at e none fits.Unfit i = blaming_ok p h threads s rs me R f below ok a x k (free_write e)
    fit_write a d at e none (fits.Opens c b) i = absurd (none c b i.0 i.1)

    open_write : (a : ℕ) (d : Cell) → cell_at h a x ≡ Some d → is_static F ≡ false → is_object v ≡ true → is_dyn d.ty ≡ false → (o : Fit) → fit_of p v d.ty ≡ o → FitOk p h v d.ty o → At a x (write_open m k F x (has (r ∷ v ∷ vs) f) d.ty o)
    open_write a d at z t n (fits.Holds u) e i = absurd (object_holds p v d.ty u t n e)
    open_write a d at z t n fits.Unfit e i = blaming_ok p h threads s rs me R f below ok a x k (free_write z)
    open_write a d at z t n (fits.Opens c b) e i =
        goes_ok p h threads s rs me R f below ok (obligations c b (fields_of d.ty) (work.Write m k F x (Some d.ty) ∷ []) ++ f.work) (r ∷ v ∷ vs) (S ∷ A ∷ ts) (ri, (vi, vok))
        (group p (around s f.asked rs me) h c b (fields_of d.ty) (work.Write m k F x (Some d.ty)) f.work (r ∷ v ∷ vs) (S ∷ A ∷ ts) v d.ty i.0 i.1 i.2
        (λ y U _. free_blame p h k b y U (free_write z))
        (λ left o. record { owns = o; write = wr; dynamic = z; later = w }))

    fitted_has : (o : Option Ty) (U : Ty) → fitted ≡ o → is_fitted o U ≡ true → IsTyped p h v U
    fitted_has None U e t = absurd (false≢true t)
    fitted_has (Some V) U e t = subst (λ X. IsTyped p h v X) (same_type-eq V U t) (owns-all p h v V (ow V e))

    use_low : (a c : ℕ) → r ≡ val.Obj c a → (d : Cell) → cell_at h a x ≡ Some d → IsAsPrecise d.ty F
    use_low a c e d at = go S (subst (λ y. IsTyped p h y S) e ri) wr.field
      where
        go : (S' : Ty) → IsTyped p h (val.Obj c a) S' → FieldUse p m S' x F → IsAsPrecise d.ty F
        go (obj fs) typed u = let b = typed.1.1 x F u.0 in let one : b.cell ≡ d = some_is (sym b.at ∙ at) in subst (λ (y : Cell). IsAsPrecise y.ty F) one b.low
        go dyn typed u = subst (λ U. IsAsPrecise d.ty U) (sym u.0) refl
        go S' typed u = absurd u

    -- no cell: the receiver is Dyn
    none_free : (a c : ℕ) → r ≡ val.Obj c a → cell_at h a x ≡ None → HasFree p m
    none_free a c e at = go S (subst (λ y. IsTyped p h y S) e ri) wr.field
      where
        go : (S' : Ty) → IsTyped p h (val.Obj c a) S' → FieldUse p m S' x F → HasFree p m
        go (obj fs) typed u = let b = typed.1.1 x F u.0 in let z : None ≡ Some b.cell = sym at ∙ b.at in absurd cc
        go dyn typed u = has_free p m kinds.Member u.1 refl refl
        go S' typed u = absurd u

    -- the field isn't fully static, and its recorded type isn't Dyn
    object_write : (a : ℕ) (d : Cell) → cell_at h a x ≡ Some d → is_static F ≡ false → is_dyn d.ty ≡ false → At a x (if is_object v then (if is_fitted fitted d.ty then verdict.Sets (holds d.ty v) (has vs f) else write_open m k F x (has (r ∷ v ∷ vs) f) d.ty (fit_of p v d.ty)) else write_fit k (has vs f) d.ty (fit_of p v d.ty))
    object_write a d at z n =
        on_test (is_object v) _ _ (At a x)
        (λ t. on_test (is_fitted fitted d.ty) _ _ (At a x)
        (λ is. set_ok a d at d.ty (precise_refl d.ty) v (fitted_has fitted d.ty refl is))
        (λ not_yet. open_write a d at z t n (fit_of p v d.ty) refl (fit_ok p h ok.heap v d.ty vi.0)))
        (λ t. fit_write a d at z (λ c b e g. opens_object v c b e t) (fit_of p v d.ty) (fit_ok p h ok.heap v d.ty vi.0))

    write_cell_ok : (a c : ℕ) → r ≡ val.Obj c a → (o : Option Cell) → cell_at h a x ≡ o → At a x (on_cell (blaming m) (write_cell p m k F x fitted v (has vs f) (has (r ∷ v ∷ vs) f)) o)
    write_cell_ok a c e None at = blaming_ok p h threads s rs me R f below ok a x m (none_free a c e at)
    write_cell_ok a c e (Some d) at =
        on_test (is_static F) _ _ (At a x)
        (λ static.
        let same : d.ty ≡ F = static_same d.ty F (use_low a c e d at) static in
        set_ok a d at F (subst (λ U. IsAsPrecise F U) (sym same) (precise_refl F)) v (has_lower p h v A F vi wr.value))
        (λ dynamic. on_test (is_dyn d.ty) _ _ (At a x)
        (λ t. fit_write a d at dynamic (λ c b e g. opens_no_dyn d.ty (fields_of d.ty) g t) (fit_of p v d.ty) (fit_ok p h ok.heap v d.ty vi.0))
        (λ t. object_write a d at dynamic t))

  -- a receiver that is no object is Dyn
  other_free : (m : Option ℕ) (r : Val) (S : Ty) (x : List ℕ) (F : Ty) → is_object r ≡ false → IsTyped p h r S → FieldUse p m S x F → HasFree p m
  other_free m r dyn x F e i u = has_free p m kinds.Member u.1 refl refl
  other_free m (val.Obj d a) (obj fs) x F e i u = absurd (false≢true (sym e))
  other_free m r (obj fs) x F e i u = absurd i.1
  other_free m r S x F e i u = absurd u

  write_ok : (m k : Option ℕ) (F : Ty) (x : List ℕ) (fitted : Option Ty) (r v : Val) (vs : List Val) (S A : Ty) (ts : List Ty) → AreTyped p h vs ts → IsTyped p h r S → IsTyped p h v A → WriteUse p m k S x F A → ((U : Ty) → fitted ≡ Some U → Owns h [] v U) → Rest ts → f.values ≡ r ∷ v ∷ vs → Ok (write_step p h m k F x fitted (r ∷ v ∷ vs) f below)
  write_ok m k F x fitted (val.Obj d a) v vs S A ts vok ri vi wr ow w same =
      subst (λ us. Ok (settle a x (on_cell (blaming m) (write_cell p m k F x fitted v (has vs f) (has us f)) (cell_at h a x)) below)) (sym same)
      (write_cell_ok m k F x fitted (val.Obj d a) v vs S A ts vok ri vi wr ow w a d refl (cell_at h a x) refl)
  write_ok m k F x fitted r v vs S A ts vok ri vi wr ow w same = blames_ok p h threads s rs me R f below ok m (other_free m r S x F refl ri wr.field)

  pub write_row : (vs : List Val) (ts : List Ty) (m k : Option ℕ) (F : Ty) (x : List ℕ) → AreTyped p h vs ts → OnTwo ts (λ S A us. WriteUse p m k S x F A × IsWellTypedWork p s f.asked f.work us) → f.values ≡ vs → MoveOk p rs me h R (write_step p h m k F x None vs f below)
  write_row (r ∷ v ∷ vs) (S ∷ A ∷ ts) m k F x vok i same = write_ok m k F x None r v vs S A ts vok.1.1 vok.0 vok.1.0 i.0 (λ U e. none_some _ e) i.1 same
  write_row [] [] m k F x vok i same = absurd i
  write_row (u ∷ []) (B ∷ []) m k F x vok i same = absurd i
  write_row vs (B ∷ []) m k F x vok i same = absurd i
  write_row [] ts m k F x vok i same = absurd vok
  write_row (u ∷ []) (B ∷ A ∷ ts) m k F x vok i same = absurd vok.1
  write_row vs [] m k F x vok i same = absurd vok

  pub write_again : (vs : List Val) (ts : List Ty) (m k : Option ℕ) (F : Ty) (x : List ℕ) (U : Ty) → AreTyped p h vs ts → IsWellTypedTop p (around s f.asked rs me) h [] (work.Write m k F x (Some U) ∷ f.work) vs ts → f.values ≡ vs → MoveOk p rs me h R (write_step p h m k F x (Some U) vs f below)
  write_again (r ∷ v ∷ vs) (S ∷ A ∷ ts) m k F x U vok i same =
      write_ok m k F x (Some U) r v vs S A ts vok.1.1 vok.0 vok.1.0 i.write (λ V e. let one : U ≡ V = some_is e in subst (λ X. Owns h [] v X) one i.owns) i.later same
  write_again vs ts m k F x U vok i same = absurd i
