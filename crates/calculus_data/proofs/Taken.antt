-- What the arguments of a call and of a new object are.
use Rattle.std.proofs.Common.{◌≡◌, ℕ, zero, suc, ◌<◌, ◌≤◌, List, [], ◌∷◌, ◌++◌, length, reverse, take, drop, Option, Some, None, slice_get, refl, ap, sym, ◌∙◌, append_assoc, arith}
use Rattle.std.specs.Option.{option_map}
use Rattle.std.proofs.lemmas.List.{reverse-append}
use Rattle.mono_syntax.specs.Ty.{Ty, fun}
use Rattle.mono_syntax.specs.declared.value.Val.TheVariants as val
use Rattle.std.specs.Prelude.{Result, Ok, Err, IfOk, if◌then◌else◌, nat_eq}
use Rattle.cast_machine.specs.Rows.{goes, does, blames}
use Rattle.calculus_data.specs.computed.Entries.{call_of, function_call}
use Rattle.mono_syntax.specs.TyView.{tys}
use Rattle.mono_syntax.specs.declared.value.Val.{Val}
use Rattle.cast_machine.specs.declared.data.Cell.{Cell}
use Rattle.cast_machine.specs.Cells.{holds}
use Rattle.mono_list.proofs.Cases.{some_is, none_some}
use Rattle.cast_machine.specs.declared.data.Work.{Work}
use Rattle.cast_machine.specs.declared.data.Frame.{Frame}
use Rattle.cast_machine.specs.declared.data.Outcome.TheVariants as outcome
use Rattle.cast_machine.specs.Calls.{take_args, cell_of, count_of, arg_items, call_test, call_row}

take_args-enough_onto : (n : ℕ) (vs acc : List Val) → n ≤ length vs → take_args n vs acc ≡ Some (reverse (take n vs) ++ acc, drop n vs)
take_args-enough_onto zero vs acc h = refl
take_args-enough_onto (suc n) [] acc h = absurd (omega arith)
take_args-enough_onto (suc n) (v ∷ vs) acc h =
    take_args-enough_onto n vs (v ∷ acc) (omega arith) ∙
    ap (λ (l : List Val). Some (l, drop n vs)) (sym (append_assoc (reverse (take n vs)) (v ∷ []) acc) ∙ ap (λ (l : List Val). l ++ acc) (sym (reverse-append (v ∷ []) (take n vs))))

append_nil : (l : List Val) → l ++ [] ≡ l
append_nil [] = refl
append_nil (x ∷ l) = ap (λ (m : List Val). x ∷ m) (append_nil l)

pub take_args-enough : (n : ℕ) (vs : List Val) → n ≤ length vs → take_args n vs [] ≡ Some (reverse (take n vs), drop n vs)
take_args-enough n vs h = take_args-enough_onto n vs [] h ∙ ap (λ (l : List Val). Some (l, drop n vs)) (append_nil (reverse (take n vs)))

pub take_args-short : (n : ℕ) (vs acc : List Val) → length vs < n → take_args n vs acc ≡ None
take_args-short zero vs acc h = absurd (omega arith)
take_args-short (suc n) [] acc h = refl
take_args-short (suc n) (v ∷ vs) acc h = take_args-short n vs (v ∷ acc) (omega arith)

pub ruleset taken = (take_args-enough, take_args-short)

-- where a value stands below the arguments, they are taken
pub take_args-above : (n : ℕ) (vs : List Val) (v : Val) → slice_get vs n ≡ Some v → take_args n vs [] ≡ Some (reverse (take n vs), v ∷ drop (suc n) vs)
take_args-above n vs v h = take_args-enough n vs (within n vs v h) ∙ ap (λ (l : List Val). Some (reverse (take n vs), l)) (front n vs v h)
  where
    within : (m : ℕ) (us : List Val) (u : Val) → slice_get us m ≡ Some u → m ≤ length us
    within zero us u e = omega arith
    within (suc m) [] u e = absurd cc
    within (suc m) (w ∷ us) u e = omega (arith, within m us u e)

    front : (m : ℕ) (us : List Val) (u : Val) → slice_get us m ≡ Some u → drop m us ≡ u ∷ drop (suc m) us
    front zero [] u e = absurd cc
    front zero (w ∷ us) u e = let q : w ≡ u = cc in ap (λ (x : Val). x ∷ us) q
    front (suc m) [] u e = absurd cc
    front (suc m) (w ∷ us) u e = front m us u e

nil_more : (v : Val) (rest : List Val) → [] ≡ v ∷ rest → ⊥
nil_more v rest e = cc

no_more : (n : ℕ) (vs acc args : List Val) (v : Val) (rest : List Val) → None ≡ slice_get vs n → take_args n vs acc ≡ Some (args, v ∷ rest) → ⊥
no_more zero [] acc args v rest e t = nil_more v rest (ap (λ (q : List Val × List Val). q.1) (some_is t))
no_more zero (w ∷ vs) acc args v rest e t = none_some ⊥ e
no_more (suc n) [] acc args v rest e t = none_some ⊥ t
no_more (suc n) (w ∷ vs) acc args v rest e t = no_more n vs (w ∷ acc) args v rest e t

-- the cell of one field more
pub cells_step : (n : List ℕ) (t : Ty) (v : Val) (o : Option (List (List ℕ × Cell))) (cells : List (List ℕ × Cell)) →
    option_map (λ rest. cells ++ rest) (cell_of n t (Some v) o) ≡ option_map (λ rest. (cells ++ (n, holds t v) ∷ []) ++ rest) o
cells_step n t v None cells = refl
cells_step n t v (Some rest) cells = ap (λ (l : List (List ℕ × Cell)). Some l) (sym (append_assoc cells ((n, holds t v) ∷ []) rest))

pub count_of-tys : (ts : List Ty) → count_of (tys ts) ≡ length ts
count_of-tys [] = refl
count_of-tys (t ∷ ts) = ap suc (count_of-tys ts)

pub ruleset counted = (count_of-tys)

-- what stands below the arguments of a call
pub call_none : (k : Option ℕ) (ks : List (Option ℕ)) (enter : ℕ → Ty → Work) (f : Frame) (below : List Frame) → None ≡ slice_get f.values (length ks) → outcome.NoRow ≡ call_row k ks enter f below
call_none k ks enter f below e = go (take_args (length ks) f.values []) refl
  where
    go : (o : Option (List Val × List Val)) → take_args (length ks) f.values [] ≡ o → outcome.NoRow ≡ call_test k ks enter o f below
    go None t = refl
    go (Some (args, [])) t = refl
    go (Some (args, v ∷ rest)) t = absurd (no_more (length ks) f.values [] args v rest e t)

same_call : (k : Option ℕ) (ks : List (Option ℕ)) (enter : ℕ → Ty → Work) (f : Frame) (below : List Frame) (v : Val) (args rest : List Val) → call_of k ks enter v f below ≡ call_test k ks enter (Some (args, v ∷ rest)) f below
same_call k ks enter f below (val.Fun g (fun ms r)) args rest = refl
same_call k ks enter f below v args rest = refl

pub call_some : (k : Option ℕ) (ks : List (Option ℕ)) (enter : ℕ → Ty → Work) (f : Frame) (below : List Frame) (v : Val) → Some v ≡ slice_get f.values (length ks) →
    call_of k ks enter v f below ≡ call_row k ks enter f below
call_some k ks enter f below v e =
    same_call k ks enter f below v (reverse (take (length ks) f.values)) (drop (suc (length ks)) f.values)
    ∙ ap (λ (o : Option (List Val × List Val)). call_test k ks enter o f below) (sym (take_args-above (length ks) f.values v (sym e)))

pub ruleset looked = (call_none, call_some)

pub function_called : (k : Option ℕ) (ks : List (Option ℕ)) (enter : ℕ → Ty → Work) (g : ℕ) (m r : Ty) (ts : List Ty) (f : Frame) (below : List Frame) → m ≡ fun (tys ts) r →
    function_call k ks (enter g m) ts f below ≡ call_of k ks enter (val.Fun g m) f below
function_called k ks enter g m r ts f below e =
    ap (λ (n : ℕ). if nat_eq n (length ks) then goes (does (arg_items ks (tys ts) ++ enter g m ∷ []) f) below else blames k) (sym (count_of-tys ts))
    ∙ ap (λ (u : Ty). if nat_eq (count_of (tys ts)) (length ks) then goes (does (arg_items ks (tys ts) ++ enter g u ∷ []) f) below else blames k) e
    ∙ sym (ap (λ (u : Ty). call_of k ks enter (val.Fun g u) f below) e)

pub ok_same : {A E : Type 0} (r : Result A E) (x y : A) → IfOk r (λ o. o ≡ x) → x ≡ y → IfOk r (λ o. o ≡ y)
ok_same (Ok o) x y h e = h ∙ e
ok_same (Err z) x y h e = tt

pub ruleset called = (function_called)
