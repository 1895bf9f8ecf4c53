-- Every configuration of a run is safe.
use Rattle.cast_machine.specs.LanguageTypes.{HasLanguageTypes, HasTypesOfLanguage}
use Rattle.cast_machine.proofs.RunTypes.{run_is, start_is}
use Rattle.cast_machine.specs.RunLimits.{IsWithinLimits}
use Rattle.cast_machine.proofs.WithinLimits.{run_within, start_within}
use Rattle.std.proofs.Common.{List, None, Some, [], refl, slice_get, subst, suc, sym, zero, ℕ, ◌∙◌, ◌∷◌, ◌≡◌, ◌≤◌}
use Rattle.std.proofs.lemmas.Bool.{false≢true}
use Rattle.mono_list.proofs.Cases.{none_some, some_is}
use Rattle.mono_syntax.specs.Ty.{dyn}
use Rattle.mono_syntax.specs.declared.cast.CastScript.{CastScript}
use Rattle.mono_tree.specs.TypedPrograms.{IsTypedProgram, scope_of}
use Rattle.cast_machine.proofs.CallRows.{unbound_handles}
use Rattle.cast_machine.proofs.CastsGo.{casts_hold}
use Rattle.cast_machine.proofs.Progress.{not_stuck}
use Rattle.cast_machine.proofs.Threads.{pick_ok}
use Rattle.cast_machine.proofs.ValueLists.{unbound_env}
use Rattle.cast_machine.specs.Safety.{HoldsLosingBlame, IsSafe, failing, recorded}
use Rattle.cast_machine.specs.Step.{Configuration, main_frame, picked, run_from, run_of, start_of}
use Rattle.cast_machine.specs.Typing.{AreRightEnds, IsRightEnd, IsWellTyped, IsWellTypedState, Lives, result_type, results_of}
use Rattle.cast_machine.specs.declared.data.End.TheVariants as ends
use Rattle.cast_machine.specs.declared.data.Settings.{Settings}
use Rattle.cast_machine.specs.declared.data.State.TheVariants as state
use Rattle.cast_machine.specs.declared.data.Thread.{Thread}

pub run_ok : (p : CastScript) (pok : IsTypedProgram p) (c : Configuration) → IsWellTyped p c → (order : List ℕ) → IsWellTyped p (run_from p c order)
run_ok p pok c ok [] = ok
run_ok p pok c ok (t ∷ order) = run_ok p pok (picked p c t) (pick_ok p pok c ok t).0 order

-- ---- the start

main_ok : (p : CastScript) → IsTypedProgram p → IsWellTypedState p (dyn ∷ []) 0 [] dyn (state.Running (main_frame p) [])
main_ok p ok = (
  record {
    scope = scope_of p.main None;
    named = record { names_typed = unbound_env p [] p.main.names; handles_typed = unbound_handles (dyn ∷ []) 0 p.main.threads; started_later = tt; asked = tt };
    types = [];
    values = tt;
    work = (refl, (ok.main, λ e. tt));
  },
  tt,
)

pub start_ok : (p : CastScript) → IsTypedProgram p → (s : Settings) → IsWellTyped p (start_of p s)
start_ok p ok s = record {
  heap = record { typed = λ a x c e. none_some _ e };
  own = record { values = λ a x c e. none_some _ e; named = λ a k ns e. none_some _ e; classes = λ a k ns e. none_some _ e };
  lines = tt;
  threads = λ t th e. at t th e;
  end = tt;
  lives = λ e t th i. lives t th i;
  main = (record { asked = None; state = state.Running (main_frame p) []; steps = 0 }, refl);
}
  where
    at : (t : ℕ) (th : Thread) → slice_get (start_of p s).threads t ≡ Some th → IsWellTypedState p (dyn ∷ []) t [] (result_type th) th.state
    at zero th e = subst (λ (k : Thread). IsWellTypedState p (dyn ∷ []) 0 [] (result_type k) k.state) (some_is e) (main_ok p ok)
    at (suc t) th e = none_some _ e

    lives : (t : ℕ) (th : Thread) → slice_get (start_of p s).threads t ≡ Some th → Lives t th.state
    lives zero th e = subst (λ (k : Thread). Lives 0 k.state) (some_is e) tt
    lives (suc t) th e = none_some _ e

-- ---- blame

no_losing : (p : CastScript) (c : Configuration) → IsWellTyped p c → HoldsLosingBlame p c → ⊥
no_losing p c ok (failing t k th at st lost) =
    let typed : IsRightEnd p (ends.Blame k) = subst (λ x. IsWellTypedState p (results_of c.threads) t c.heap (result_type th) x) st (ok.threads t th at) in
    false≢true (sym typed.0 ∙ lost)
no_losing p c ok (recorded k e lost) =
    let typed : IsRightEnd p (ends.Blame k) = subst (λ x. AreRightEnds p x) e ok.end in
    false≢true (sym typed.0 ∙ lost)

-- ---- the law

pub safe_at : (p : CastScript) → IsTypedProgram p → (c : Configuration) → IsWellTyped p c → IsWithinLimits p c → (HasLanguageTypes p → HasTypesOfLanguage c) → IsSafe p c
safe_at p pok c ok within types = record {
  typed = ok;
  runs = not_stuck p pok c ok;
  blames = no_losing p c ok;
  gains = λ t. (pick_ok p pok c ok t).1;
  casts = casts_hold p c ok;
  limits = within;
  types = types;
}

pub safe_run : (p : CastScript) → IsTypedProgram p → (s : Settings) → 1 ≤ s.fuel → (order : List ℕ) → IsSafe p (run_of p s order)
safe_run p pok s fuel order =
    safe_at p pok (run_of p s order) (run_ok p pok (start_of p s) (start_ok p pok s) order) (run_within p (start_of p s) (start_within p s fuel) fuel order)
    (λ types. run_is p pok types (start_of p s) (start_ok p pok s) (start_is p s) order)
