-- One of two rows is over.
use Rattle.std.proofs.Common.{◌≡◌, ℕ, List, [], ◌∷◌, length, refl, arith}
use Rattle.std.specs.Prelude.{Option}
use Rattle.mono_syntax.specs.declared.cast.Arg.{Arg}
use Rattle.mono_syntax.specs.CastExpr.{CastExpr}
use Rattle.cast_nodes.specs.computed.Noded.{fit_all, with_arguments}

pub sites_over : (done : List CastExpr) (ks : List (Option ℕ)) (cs : List CastExpr) → length ks ≡ 0 → fit_all done ks cs ≡ done
sites_over done [] cs h = refl
sites_over done (k ∷ ks) cs h = absurd (omega arith)

pub parts_over : (done : List CastExpr) (ks : List (Option ℕ)) (cs : List CastExpr) → length cs ≡ 0 → fit_all done ks cs ≡ done
parts_over done [] cs h = refl
parts_over done (k ∷ ks) [] h = refl
parts_over done (k ∷ ks) (c ∷ cs) h = absurd (omega arith)

pub tests_over : (done : List Arg) (ks : List (Option ℕ)) (cs : List CastExpr) → length ks ≡ 0 → with_arguments done ks cs ≡ done
tests_over done [] cs h = refl
tests_over done (k ∷ ks) cs h = absurd (omega arith)

pub values_over : (done : List Arg) (ks : List (Option ℕ)) (cs : List CastExpr) → length cs ≡ 0 → with_arguments done ks cs ≡ done
values_over done [] cs h = refl
values_over done (k ∷ ks) [] h = refl
values_over done (k ∷ ks) (c ∷ cs) h = absurd (omega arith)

pub ruleset over = (sites_over, parts_over, tests_over, values_over)
