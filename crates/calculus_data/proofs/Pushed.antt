-- What stands on top after several pushes.
use Rattle.std.proofs.Common.{◌≡◌, ◌↔◌, ℕ, zero, suc, ◌+◌, Bool, true, false, IsTrue, List, [], ◌∷◌, ◌++◌, drop, Option, Some, None, slice_get, refl, ap, sym, ◌∙◌, ◌⊎◌, ◌-◌, inl, inr, length, arith, append-nil, append_assoc}
use Rattle.mono_list.proofs.Cases.{some_is, none_some, some_none}
use Rattle.mono_syntax.specs.Ty.{Ty, Fields, no_fields, more_fields}
use Rattle.mono_syntax.specs.TyView.{fields}
use Rattle.mono_syntax.specs.declared.tree.Field.{Field}
use Rattle.mono_syntax.specs.declared.value.Val.{Val}
use Rattle.mono_tree.specs.FieldNames.{names_of}
use Rattle.cast_machine.specs.declared.data.Work.{Work}
use Rattle.cast_machine.specs.Fits.{names_same}
use Rattle.cast_machine.specs.Obligations.{obligations}
use Rattle.cast_machine.specs.declared.data.Work.TheVariants as work
use Rattle.cast_machine.specs.declared.data.Frame.{Frame}
use Rattle.std.specs.Prelude.{unwrap_or}
use Rattle.mono_syntax.specs.declared.value.Val.TheVariants as val
use Rattle.cast_machine.specs.declared.data.Cell.{Cell}
use Rattle.cast_machine.specs.declared.data.Verdict.{Verdict}
use Rattle.cast_machine.specs.Cells.{blamed, blaming, on_cell, settle, write_cell, write_step}
use Rattle.cast_machine.specs.Heap.{Heap, cell_at}
use Rattle.mono_syntax.specs.declared.cast.CastScript.{CastScript}
use Rattle.cast_machine.specs.Step.{frame_items, frames_items}
use Rattle.calculus_data.specs.computed.Owners.{owner_site}
use Rattle.calculus_data.specs.computed.Entries.{arg_item}
use Rattle.cast_machine.specs.Calls.{named, bind, arg_items}
use Rattle.mono_syntax.specs.TyView.{tys}
use Rattle.calculus_data.proofs.Taken.{count_of-tys}

pub obligations-append : (c a : ℕ) (fs : Fields) (xs ys : List Work) → obligations c a fs xs ++ ys ≡ obligations c a fs (xs ++ ys)
obligations-append c a no_fields xs ys = refl
obligations-append c a (more_fields n t fs) xs ys = ap (λ (l : List Work). work.Obligation c a n t None ∷ l) (obligations-append c a fs xs ys)

drop_some : {A : Type 0} (xs : List A) (i : ℕ) (x : A) → Some x ≡ slice_get xs i → drop i xs ≡ x ∷ drop (suc i) xs
drop_some [] i x e = some_none _ e
drop_some (y ∷ xs) zero x e = ap (λ z. z ∷ xs) (sym (some_is e))
drop_some (y ∷ xs) (suc i) x e = drop_some xs i x e

pub drop-some : {A : Type 0} (xs : List A) (i : ℕ) (x : A) → Some x ≡ slice_get xs i → drop i xs ≡ x ∷ drop (i + 1) xs
drop-some xs i x e = let n : suc i ≡ i + 1 = omega arith in drop_some xs i x e ∙ ap (λ (k : ℕ). x ∷ drop k xs) n

drop_nil : {A : Type 0} (j : ℕ) → drop {A = A} j [] ≡ []
drop_nil zero = refl
drop_nil (suc j) = refl

pub drop-none : {A : Type 0} (xs : List A) (i : ℕ) → None ≡ slice_get xs i → drop i xs ≡ []
drop-none [] i e = drop_nil i
drop-none (y ∷ xs) zero e = none_some _ e
drop-none (y ∷ xs) (suc i) e = drop-none xs i e

pub named-nil : (ns : List (List ℕ)) → named ns [] ≡ []
named-nil [] = refl
named-nil (n ∷ ns) = refl

pub bind-nil : (xs : List (List ℕ)) (m : List (List ℕ × Option Val)) → bind xs [] m ≡ m
bind-nil [] m = refl
bind-nil (x ∷ xs) m = refl

pub names_same-nil : (b : Bool) (ms : List Field) → IsTrue b ↔ (ms ≡ []) → b ≡ names_same [] (names_of (fields ms))
names_same-nil b [] h = h.1 refl
names_same-nil true (m ∷ ms) h = nil_more (h.0 refl)
  where
    nil_more : (m ∷ ms) ≡ [] → true ≡ false
    nil_more e = cc
names_same-nil false (m ∷ ms) h = refl

-- one of the two lists is used up
pub named_over : (given : List (List ℕ × Val)) (ns : List (List ℕ)) (vs : List Val) (all : List (List ℕ)) (values : List Val) → (ns ≡ []) ⊎ (vs ≡ []) → given ++ named ns vs ≡ named all values → given ≡ named all values
named_over given ns vs all values (inl e) h = sym (append-nil given) ∙ ap (λ (l : List (List ℕ)). given ++ named l vs) (sym e) ∙ h
named_over given ns vs all values (inr e) h = sym (append-nil given) ∙ ap (λ (l : List (List ℕ × Val)). given ++ l) (sym (ap (named ns) e ∙ named-nil ns)) ∙ h

pub bind_over : (names : List (List ℕ × Option Val)) (xs : List (List ℕ)) (vs : List Val) (before : List (List ℕ × Option Val)) (all : List (List ℕ)) (values : List Val) →
    (xs ≡ []) ⊎ (vs ≡ []) → bind xs vs names ≡ bind all values before → names ≡ bind all values before
bind_over names xs vs before all values (inl e) h = ap (λ (l : List (List ℕ)). bind l vs names) (sym e) ∙ h
bind_over names xs vs before all values (inr e) h = sym (ap (λ (l : List Val). bind xs l names) e ∙ bind-nil xs names) ∙ h

-- an Arg, or none, for one argument more
arg_more : (k : Option ℕ) (ks : List (Option ℕ)) (t : Ty) (ts : List Ty) → arg_item k t (length ts) ++ arg_items ks (tys ts) ≡ arg_items (k ∷ ks) (tys (t ∷ ts))
arg_more None ks t ts = refl
arg_more (Some k) ks t ts = ap (λ (n : ℕ). work.Arg k t n ∷ arg_items ks (tys ts)) (sym (count_of-tys ts))

pub args_step : (all : List (Option ℕ)) (types : List Ty) (k : Option ℕ) (ks : List (Option ℕ)) (t : Ty) (ts : List Ty) (under : List Work) →
    all ≡ k ∷ ks → types ≡ t ∷ ts → arg_item k t (length ts) ++ (arg_items ks (tys ts) ++ under) ≡ arg_items all (tys types) ++ under
args_step all types k ks t ts under e d =
    sym (append_assoc (arg_item k t (length ts)) (arg_items ks (tys ts)) under)
    ∙ ap (λ (l : List Work). l ++ under) (arg_more k ks t ts ∙ sym (ap (λ (l : List (Option ℕ)). arg_items l (tys types)) e ∙ ap (λ (l : List Ty). arg_items (k ∷ ks) (tys l)) d))

pub args_none : (types : List Ty) (all : List (Option ℕ)) → all ≡ [] → arg_items all (tys types) ≡ []
args_none types all e = ap (λ (l : List (Option ℕ)). arg_items l (tys types)) e

pub args_short : (all : List (Option ℕ)) (types : List Ty) → types ≡ [] → arg_items all (tys types) ≡ []
args_short all types e = ap (λ (l : List Ty). arg_items all (tys l)) e ∙ none all
  where
    none : (ks : List (Option ℕ)) → arg_items ks (tys []) ≡ []
    none [] = refl
    none (Some k ∷ ks) = refl
    none (None ∷ ks) = refl

-- a write whose two values were taken off is the write
pub write_whole : (p : CastScript) (h : Heap) (m k : Option ℕ) (t : Ty) (x : List ℕ) (r : Option Ty) (o v : Val) (us vs : List Val) (f : Frame) (below : List Frame) →
    f.values ≡ o ∷ us → us ≡ v ∷ vs → write_step p h m k t x r (o ∷ v ∷ vs) (record f { values = o ∷ v ∷ vs }) below ≡ write_step p h m k t x r f.values f below
write_whole p h m k t x r o v us vs f below e d =
    let all : o ∷ v ∷ vs ≡ f.values = ap (λ (l : List Val). o ∷ l) (sym d) ∙ sym e in
    ap (λ (l : List Val). write_step p h m k t x r l (record f { values = l }) below) all

-- a write on the cell that is there
pub write_at : (p : CastScript) (h : Heap) (m k : Option ℕ) (t : Ty) (x : List ℕ) (r : Option Ty) (d a : ℕ) (v : Val) (f : Frame) (below : List Frame) (c : Cell) (w : Verdict) →
    Some c ≡ cell_at h a x → w ≡ write_cell p m k t x r v f (record f { values = val.Obj d a ∷ v ∷ f.values }) c →
    settle a x w below ≡ write_step p h m k t x r (val.Obj d a ∷ v ∷ f.values) (record f { values = val.Obj d a ∷ v ∷ f.values }) below
write_at p h m k t x r d a v f below c w e q =
    ap (λ (y : Verdict). settle a x y below) q
    ∙ ap (λ (o : Option Cell). settle a x (on_cell (blaming m) (write_cell p m k t x r v f (record f { values = val.Obj d a ∷ v ∷ f.values })) o) below) e

pub ruleset written = (write_at)

-- the owner of an obligation, item by item
blamed-owner : (i : Work) (rest : List Work) (o : Option (Option ℕ)) → owner_site i ≡ o → blamed (i ∷ rest) ≡ unwrap_or o (blamed rest)
blamed-owner i rest None e = none i rest e
  where
    none : (j : Work) (under : List Work) → owner_site j ≡ None → blamed (j ∷ under) ≡ blamed under
    none (work.Fitted k t j) under q = some_none _ q
    none (work.Write m k t x r) under q = some_none _ q
    none j under q = refl
blamed-owner i rest (Some k) e = some i rest k e
  where
    some : (j : Work) (under : List Work) (s : Option ℕ) → owner_site j ≡ Some s → blamed (j ∷ under) ≡ s
    some (work.Fitted k t j) under s q = some_is q
    some (work.Write m k t x r) under s q = some_is q
    some j under s q = none_some _ q

pub blamed-some : (xs : List Work) (i : ℕ) (x : Work) (s : Option ℕ) → Some x ≡ slice_get xs i → Some s ≡ owner_site x → blamed (drop i xs) ≡ s
blamed-some xs i x s e o = ap blamed (drop-some xs i x e) ∙ blamed-owner x (drop (i + 1) xs) (Some s) (sym o)

pub blamed-none : (xs : List Work) (i : ℕ) (x : Work) → Some x ≡ slice_get xs i → None ≡ owner_site x → blamed (drop i xs) ≡ blamed (drop (i + 1) xs)
blamed-none xs i x e o = ap blamed (drop-some xs i x e) ∙ blamed-owner x (drop (i + 1) xs) None (sym o)

-- the items of frames, up to a limit
pub frames-some : (fs : List Frame) (i : ℕ) (f : Frame) → Some f ≡ slice_get fs i → frames_items (drop i fs) ≡ frame_items f + frames_items (drop (i + 1) fs)
frames-some fs i f e = ap frames_items (drop-some fs i f e)

pub frames-none : (fs : List Frame) (i : ℕ) → None ≡ slice_get fs i → frames_items (drop i fs) ≡ 0
frames-none fs i e = ap frames_items (drop-none fs i e)

pub ruleset owned = (blamed-some, blamed-none, drop-none)

pub ruleset counting = (frames-some, frames-none)

pub ruleset dropped = (drop-some, drop-none)

pub ruleset arguments = (args_step, args_none, args_short)

pub ruleset called = (count_of-tys, append_assoc)

pub ruleset valued = (write_whole)

pub ruleset pushed = (obligations-append, append_assoc)

pub ruleset unnamed = (names_same-nil)
