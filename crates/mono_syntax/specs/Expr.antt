-- Expr, Exprs: trees, as contracts see them.
use Rattle.std.specs.Prelude.{◌≡◌, ℕ, ◌+◌, List, Bool, refl, Option, Some, None}
use Rattle.std.proofs.Common.{zero, suc}
use Rattle.std.specs.Coded.{Coded, code_by}
use base.Stored.{Gv, gnil, gnum, gcons}
use Rattle.mono_syntax.specs.declared.leaf.Op.{Op}
use Rattle.mono_syntax.specs.declared.leaf.Place.{Place}
use Rattle.mono_syntax.specs.declared.leaf.Word.{Word}
use Rattle.mono_syntax.specs.Leaf.{bool_back, bool_from, bool_to, gv_code, nat_from, nat_to, op_back, op_from, op_to, place_from, place_to, text_back, text_from, text_to, word_back, word_from, word_to}
use Rattle.mono_syntax.specs.Ann.{Ann, ann_back, ann_from, ann_to}

mutual
  pub data Expr : Type 0 where
    local : Word → Expr
    number : Place → ℕ → Expr
    text : Place → List ℕ → Expr
    truth : Place → Bool → Expr
    nil : Place → Expr
    neg : Place → Expr → Expr
    negation : Place → Expr → Expr
    binary : Op → Place → Expr → Expr → Expr
    both : Expr → Expr → Expr
    either : Expr → Expr → Expr
    read : Expr → Word → Expr
    call : Place → Expr → Exprs → Expr
    cast : Place → Ann → Expr → Expr
    join : Place → Word → Expr

  pub data Exprs : Type 0 where
    no_exprs : Exprs
    more_exprs : Expr → Exprs → Exprs

-- how many nodes there are
abbrev mutual
  pub expr_size : Expr → ℕ
  expr_size (local a) = 1
  expr_size (number a b) = 1
  expr_size (text a b) = 1
  expr_size (truth a b) = 1
  expr_size (nil a) = 1
  expr_size (neg a b) = expr_size b + 1
  expr_size (negation a b) = expr_size b + 1
  expr_size (binary a b c d) = expr_size c + expr_size d + 1
  expr_size (both a b) = expr_size a + expr_size b + 1
  expr_size (either a b) = expr_size a + expr_size b + 1
  expr_size (read a b) = expr_size a + 1
  expr_size (call a b c) = expr_size b + exprs_size c + 1
  expr_size (cast a b c) = expr_size c + 1
  expr_size (join a b) = 1

  pub exprs_size : Exprs → ℕ
  exprs_size no_exprs = 0
  exprs_size (more_exprs a b) = expr_size a + exprs_size b

-- ---- how the logic stores them
abbrev mutual
  pub expr_to : Expr → Gv
  expr_to (local a) = gcons (gnum 0) (word_to a)
  expr_to (number a b) = gcons (gnum 1) (gcons (place_to a) (nat_to b))
  expr_to (text a b) = gcons (gnum 2) (gcons (place_to a) (text_to b))
  expr_to (truth a b) = gcons (gnum 3) (gcons (place_to a) (bool_to b))
  expr_to (nil a) = gcons (gnum 4) (place_to a)
  expr_to (neg a b) = gcons (gnum 5) (gcons (place_to a) (expr_to b))
  expr_to (negation a b) = gcons (gnum 6) (gcons (place_to a) (expr_to b))
  expr_to (binary a b c d) = gcons (gnum 7) (gcons (op_to a) (gcons (place_to b) (gcons (expr_to c) (expr_to d))))
  expr_to (both a b) = gcons (gnum 8) (gcons (expr_to a) (expr_to b))
  expr_to (either a b) = gcons (gnum 9) (gcons (expr_to a) (expr_to b))
  expr_to (read a b) = gcons (gnum 10) (gcons (expr_to a) (word_to b))
  expr_to (call a b c) = gcons (gnum 11) (gcons (place_to a) (gcons (expr_to b) (exprs_to c)))
  expr_to (cast a b c) = gcons (gnum 12) (gcons (place_to a) (gcons (ann_to b) (expr_to c)))
  expr_to (join a b) = gcons (gnum 13) (gcons (place_to a) (word_to b))

  pub exprs_to : Exprs → Gv
  exprs_to no_exprs = gcons (gnum 0) gnil
  exprs_to (more_exprs a b) = gcons (gnum 1) (gcons (expr_to a) (exprs_to b))

abbrev mutual
  pub expr_from : Gv → Expr
  expr_from (gcons (gnum zero) a) = local (word_from a)
  expr_from (gcons (gnum (suc zero)) (gcons a b)) = number (place_from a) (nat_from b)
  expr_from (gcons (gnum (suc (suc zero))) (gcons a b)) = text (place_from a) (text_from b)
  expr_from (gcons (gnum (suc (suc (suc zero)))) (gcons a b)) = truth (place_from a) (bool_from b)
  expr_from (gcons (gnum (suc (suc (suc (suc zero))))) a) = nil (place_from a)
  expr_from (gcons (gnum (suc (suc (suc (suc (suc zero)))))) (gcons a b)) = neg (place_from a) (expr_from b)
  expr_from (gcons (gnum (suc (suc (suc (suc (suc (suc zero))))))) (gcons a b)) = negation (place_from a) (expr_from b)
  expr_from (gcons (gnum (suc (suc (suc (suc (suc (suc (suc zero)))))))) (gcons a (gcons b (gcons c d)))) = binary (op_from a) (place_from b) (expr_from c) (expr_from d)
  expr_from (gcons (gnum (suc (suc (suc (suc (suc (suc (suc (suc zero))))))))) (gcons a b)) = both (expr_from a) (expr_from b)
  expr_from (gcons (gnum (suc (suc (suc (suc (suc (suc (suc (suc (suc zero)))))))))) (gcons a b)) = either (expr_from a) (expr_from b)
  expr_from (gcons (gnum (suc (suc (suc (suc (suc (suc (suc (suc (suc (suc zero))))))))))) (gcons a b)) = read (expr_from a) (word_from b)
  expr_from (gcons (gnum (suc (suc (suc (suc (suc (suc (suc (suc (suc (suc (suc zero)))))))))))) (gcons a (gcons b c))) = call (place_from a) (expr_from b) (exprs_from c)
  expr_from (gcons (gnum (suc (suc (suc (suc (suc (suc (suc (suc (suc (suc (suc (suc zero))))))))))))) (gcons a (gcons b c))) = cast (place_from a) (ann_from b) (expr_from c)
  expr_from (gcons (gnum (suc (suc (suc (suc (suc (suc (suc (suc (suc (suc (suc (suc (suc zero)))))))))))))) (gcons a b)) = join (place_from a) (word_from b)
  expr_from _ = nil (place_from gnil)

  pub exprs_from : Gv → Exprs
  exprs_from (gcons (gnum zero) g) = no_exprs
  exprs_from (gcons (gnum (suc zero)) (gcons a b)) = more_exprs (expr_from a) (exprs_from b)
  exprs_from _ = no_exprs

mutual
  pub expr_back : (x : Expr) → expr_from (expr_to x) ≡ x
  expr_back (local a) = λ i. local (word_back a i)
  expr_back (number a b) = refl
  expr_back (text a b) = λ i. text a (text_back b i)
  expr_back (truth a b) = λ i. truth a (bool_back b i)
  expr_back (nil a) = refl
  expr_back (neg a b) = λ i. neg a (expr_back b i)
  expr_back (negation a b) = λ i. negation a (expr_back b i)
  expr_back (binary a b c d) = λ i. binary (op_back a i) b (expr_back c i) (expr_back d i)
  expr_back (both a b) = λ i. both (expr_back a i) (expr_back b i)
  expr_back (either a b) = λ i. either (expr_back a i) (expr_back b i)
  expr_back (read a b) = λ i. read (expr_back a i) (word_back b i)
  expr_back (call a b c) = λ i. call a (expr_back b i) (exprs_back c i)
  expr_back (cast a b c) = λ i. cast a (ann_back b i) (expr_back c i)
  expr_back (join a b) = λ i. join a (word_back b i)

  pub exprs_back : (x : Exprs) → exprs_from (exprs_to x) ≡ x
  exprs_back no_exprs = refl
  exprs_back (more_exprs a b) = λ i. more_exprs (expr_back a i) (exprs_back b i)

abbrev pub expr_code : Coded Expr
expr_code = code_by Gv gv_code expr_to expr_from expr_back

abbrev pub expr_option_to : Option Expr → Gv
expr_option_to None = gnil
expr_option_to (Some a) = gcons gnil (expr_to a)

abbrev pub expr_option_from : Gv → Option Expr
expr_option_from (gcons gnil a) = Some (expr_from a)
expr_option_from _ = None

pub expr_option_back : (x : Option Expr) → expr_option_from (expr_option_to x) ≡ x
expr_option_back None = refl
expr_option_back (Some a) = λ i. Some (expr_back a i)
