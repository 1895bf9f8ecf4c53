-- CastExpr, CastExprs, Args: trees, as contracts see them.
use Rattle.std.specs.Prelude.{◌≡◌, ℕ, ◌+◌, List, Bool, refl, Option, Some, None}
use Rattle.std.proofs.Common.{zero, suc}
use Rattle.std.specs.Coded.{Coded, code_by}
use base.Stored.{Gv, gnil, gnum, gcons}
use Rattle.mono_syntax.specs.declared.leaf.Op.{Op}
use Rattle.mono_syntax.specs.Leaf.{bool_back, bool_from, bool_to, gv_code, nat_from, nat_to, op_back, op_from, op_to, site_back, site_from, site_to, text_back, text_from, text_to}

mutual
  pub data CastExpr : Type 0 where
    number : ℕ → CastExpr
    text : List ℕ → CastExpr
    truth : Bool → CastExpr
    nil : CastExpr
    local : ℕ → List ℕ → CastExpr
    function : ℕ → CastExpr
    neg : ℕ → CastExpr → CastExpr
    negation : CastExpr → CastExpr
    binary : Op → Option ℕ → Option ℕ → CastExpr → CastExpr → CastExpr
    both : CastExpr → CastExpr → CastExpr
    either : CastExpr → CastExpr → CastExpr
    read : Option ℕ → CastExpr → List ℕ → CastExpr
    make : ℕ → CastExprs → CastExpr
    call : Option ℕ → CastExpr → Args → CastExpr
    fit : ℕ → CastExpr → CastExpr
    join : ℕ → List ℕ → CastExpr

  pub data CastExprs : Type 0 where
    no_exprs : CastExprs
    more_exprs : CastExpr → CastExprs → CastExprs

  pub data Args : Type 0 where
    no_args : Args
    more_args : Option ℕ → CastExpr → Args → Args

-- how many nodes there are
abbrev mutual
  pub cast_expr_size : CastExpr → ℕ
  cast_expr_size (number a) = 1
  cast_expr_size (text a) = 1
  cast_expr_size (truth a) = 1
  cast_expr_size nil = 1
  cast_expr_size (local a b) = 1
  cast_expr_size (function a) = 1
  cast_expr_size (neg a b) = cast_expr_size b + 1
  cast_expr_size (negation a) = cast_expr_size a + 1
  cast_expr_size (binary a b c d e) = cast_expr_size d + cast_expr_size e + 1
  cast_expr_size (both a b) = cast_expr_size a + cast_expr_size b + 1
  cast_expr_size (either a b) = cast_expr_size a + cast_expr_size b + 1
  cast_expr_size (read a b c) = cast_expr_size b + 1
  cast_expr_size (make a b) = cast_exprs_size b + 1
  cast_expr_size (call a b c) = cast_expr_size b + args_size c + 1
  cast_expr_size (fit a b) = cast_expr_size b + 1
  cast_expr_size (join a b) = 1

  pub cast_exprs_size : CastExprs → ℕ
  cast_exprs_size no_exprs = 0
  cast_exprs_size (more_exprs a b) = cast_expr_size a + cast_exprs_size b

  pub args_size : Args → ℕ
  args_size no_args = 0
  args_size (more_args a b c) = cast_expr_size b + args_size c + 1

-- ---- how the logic stores them
abbrev mutual
  pub cast_expr_to : CastExpr → Gv
  cast_expr_to (number a) = gcons (gnum 0) (nat_to a)
  cast_expr_to (text a) = gcons (gnum 1) (text_to a)
  cast_expr_to (truth a) = gcons (gnum 2) (bool_to a)
  cast_expr_to nil = gcons (gnum 3) gnil
  cast_expr_to (local a b) = gcons (gnum 4) (gcons (nat_to a) (text_to b))
  cast_expr_to (function a) = gcons (gnum 5) (nat_to a)
  cast_expr_to (neg a b) = gcons (gnum 6) (gcons (nat_to a) (cast_expr_to b))
  cast_expr_to (negation a) = gcons (gnum 7) (cast_expr_to a)
  cast_expr_to (binary a b c d e) = gcons (gnum 8) (gcons (op_to a) (gcons (site_to b) (gcons (site_to c) (gcons (cast_expr_to d) (cast_expr_to e)))))
  cast_expr_to (both a b) = gcons (gnum 9) (gcons (cast_expr_to a) (cast_expr_to b))
  cast_expr_to (either a b) = gcons (gnum 10) (gcons (cast_expr_to a) (cast_expr_to b))
  cast_expr_to (read a b c) = gcons (gnum 11) (gcons (site_to a) (gcons (cast_expr_to b) (text_to c)))
  cast_expr_to (make a b) = gcons (gnum 12) (gcons (nat_to a) (cast_exprs_to b))
  cast_expr_to (call a b c) = gcons (gnum 13) (gcons (site_to a) (gcons (cast_expr_to b) (args_to c)))
  cast_expr_to (fit a b) = gcons (gnum 14) (gcons (nat_to a) (cast_expr_to b))
  cast_expr_to (join a b) = gcons (gnum 15) (gcons (nat_to a) (text_to b))

  pub cast_exprs_to : CastExprs → Gv
  cast_exprs_to no_exprs = gcons (gnum 0) gnil
  cast_exprs_to (more_exprs a b) = gcons (gnum 1) (gcons (cast_expr_to a) (cast_exprs_to b))

  pub args_to : Args → Gv
  args_to no_args = gcons (gnum 0) gnil
  args_to (more_args a b c) = gcons (gnum 1) (gcons (site_to a) (gcons (cast_expr_to b) (args_to c)))

abbrev mutual
  pub cast_expr_from : Gv → CastExpr
  cast_expr_from (gcons (gnum zero) a) = number (nat_from a)
  cast_expr_from (gcons (gnum (suc zero)) a) = text (text_from a)
  cast_expr_from (gcons (gnum (suc (suc zero))) a) = truth (bool_from a)
  cast_expr_from (gcons (gnum (suc (suc (suc zero)))) g) = nil
  cast_expr_from (gcons (gnum (suc (suc (suc (suc zero))))) (gcons a b)) = local (nat_from a) (text_from b)
  cast_expr_from (gcons (gnum (suc (suc (suc (suc (suc zero)))))) a) = function (nat_from a)
  cast_expr_from (gcons (gnum (suc (suc (suc (suc (suc (suc zero))))))) (gcons a b)) = neg (nat_from a) (cast_expr_from b)
  cast_expr_from (gcons (gnum (suc (suc (suc (suc (suc (suc (suc zero)))))))) a) = negation (cast_expr_from a)
  cast_expr_from (gcons (gnum (suc (suc (suc (suc (suc (suc (suc (suc zero))))))))) (gcons a (gcons b (gcons c (gcons d e))))) = binary (op_from a) (site_from b) (site_from c) (cast_expr_from d) (cast_expr_from e)
  cast_expr_from (gcons (gnum (suc (suc (suc (suc (suc (suc (suc (suc (suc zero)))))))))) (gcons a b)) = both (cast_expr_from a) (cast_expr_from b)
  cast_expr_from (gcons (gnum (suc (suc (suc (suc (suc (suc (suc (suc (suc (suc zero))))))))))) (gcons a b)) = either (cast_expr_from a) (cast_expr_from b)
  cast_expr_from (gcons (gnum (suc (suc (suc (suc (suc (suc (suc (suc (suc (suc (suc zero)))))))))))) (gcons a (gcons b c))) = read (site_from a) (cast_expr_from b) (text_from c)
  cast_expr_from (gcons (gnum (suc (suc (suc (suc (suc (suc (suc (suc (suc (suc (suc (suc zero))))))))))))) (gcons a b)) = make (nat_from a) (cast_exprs_from b)
  cast_expr_from (gcons (gnum (suc (suc (suc (suc (suc (suc (suc (suc (suc (suc (suc (suc (suc zero)))))))))))))) (gcons a (gcons b c))) = call (site_from a) (cast_expr_from b) (args_from c)
  cast_expr_from (gcons (gnum (suc (suc (suc (suc (suc (suc (suc (suc (suc (suc (suc (suc (suc (suc zero))))))))))))))) (gcons a b)) = fit (nat_from a) (cast_expr_from b)
  cast_expr_from (gcons (gnum (suc (suc (suc (suc (suc (suc (suc (suc (suc (suc (suc (suc (suc (suc (suc zero)))))))))))))))) (gcons a b)) = join (nat_from a) (text_from b)
  cast_expr_from _ = nil

  pub cast_exprs_from : Gv → CastExprs
  cast_exprs_from (gcons (gnum zero) g) = no_exprs
  cast_exprs_from (gcons (gnum (suc zero)) (gcons a b)) = more_exprs (cast_expr_from a) (cast_exprs_from b)
  cast_exprs_from _ = no_exprs

  pub args_from : Gv → Args
  args_from (gcons (gnum zero) g) = no_args
  args_from (gcons (gnum (suc zero)) (gcons a (gcons b c))) = more_args (site_from a) (cast_expr_from b) (args_from c)
  args_from _ = no_args

mutual
  pub cast_expr_back : (x : CastExpr) → cast_expr_from (cast_expr_to x) ≡ x
  cast_expr_back (number a) = refl
  cast_expr_back (text a) = λ i. text (text_back a i)
  cast_expr_back (truth a) = λ i. truth (bool_back a i)
  cast_expr_back nil = refl
  cast_expr_back (local a b) = λ i. local a (text_back b i)
  cast_expr_back (function a) = refl
  cast_expr_back (neg a b) = λ i. neg a (cast_expr_back b i)
  cast_expr_back (negation a) = λ i. negation (cast_expr_back a i)
  cast_expr_back (binary a b c d e) = λ i. binary (op_back a i) (site_back b i) (site_back c i) (cast_expr_back d i) (cast_expr_back e i)
  cast_expr_back (both a b) = λ i. both (cast_expr_back a i) (cast_expr_back b i)
  cast_expr_back (either a b) = λ i. either (cast_expr_back a i) (cast_expr_back b i)
  cast_expr_back (read a b c) = λ i. read (site_back a i) (cast_expr_back b i) (text_back c i)
  cast_expr_back (make a b) = λ i. make a (cast_exprs_back b i)
  cast_expr_back (call a b c) = λ i. call (site_back a i) (cast_expr_back b i) (args_back c i)
  cast_expr_back (fit a b) = λ i. fit a (cast_expr_back b i)
  cast_expr_back (join a b) = λ i. join a (text_back b i)

  pub cast_exprs_back : (x : CastExprs) → cast_exprs_from (cast_exprs_to x) ≡ x
  cast_exprs_back no_exprs = refl
  cast_exprs_back (more_exprs a b) = λ i. more_exprs (cast_expr_back a i) (cast_exprs_back b i)

  pub args_back : (x : Args) → args_from (args_to x) ≡ x
  args_back no_args = refl
  args_back (more_args a b c) = λ i. more_args (site_back a i) (cast_expr_back b i) (args_back c i)

abbrev pub cast_expr_code : Coded CastExpr
cast_expr_code = code_by Gv gv_code cast_expr_to cast_expr_from cast_expr_back

abbrev pub cast_expr_option_to : Option CastExpr → Gv
cast_expr_option_to None = gnil
cast_expr_option_to (Some a) = gcons gnil (cast_expr_to a)

abbrev pub cast_expr_option_from : Gv → Option CastExpr
cast_expr_option_from (gcons gnil a) = Some (cast_expr_from a)
cast_expr_option_from _ = None

pub cast_expr_option_back : (x : Option CastExpr) → cast_expr_option_from (cast_expr_option_to x) ≡ x
cast_expr_option_back None = refl
cast_expr_option_back (Some a) = λ i. Some (cast_expr_back a i)
