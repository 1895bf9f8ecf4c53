-- The tokens of a type are read as that type, but for places.
use Rattle.std.proofs.Common.{ℕ, suc, ◌≤◌, ◌≡◌, max, List, [], ◌∷◌, ◌++◌, map, refl, sym, ◌∙◌, subst}
use Rattle.std.proofs.Math.Nat.{max-zero}
use Rattle.std.proofs.lemmas.List.{append-nil}
use Rattle.mono_syntax.specs.declared.leaf.Place.{Place}
use Rattle.mono_syntax.specs.Ann as tree
use Rattle.mono_syntax.specs.Ann.{Ann, ann, Form, Anns, no_anns, more_anns}
use Rattle.mono_syntax.specs.AnnView.{anns}
use Rattle.spelled_tokens.specs.declared.token.Spelled.{Spelled}
use Rattle.spelled_tokens.specs.declared.token.What.TheVariants as what
use Rattle.spelled_tokens.specs.declared.token.Mark.TheVariants as mark
use Rattle.spelled_tokens.specs.SpelledTokens.{tok, sign}
use Rattle.parse_expr.specs.Types as g
use Rattle.parse_expr.specs.Types.{DerivesType, DerivesTypes, DerivesTypeRow, IsType, word}
use Rattle.token_lines.specs.declared.printed.Printed.TheVariants.{Plain}
use Rattle.token_lines.specs.Tokens.{what_of}
use Rattle.token_lines.specs.Back.{whats}
use Rattle.tree_print.specs.Brackets as b
use Rattle.tree_print.specs.Brackets.{ann_tokens, form_tokens, anns_tokens, more_anns_tokens}
use Rattle.tree_print.specs.Placeless.{nowhere, bare_ann, bare_anns}
use Rattle.tree_print.proofs.Splits.{Reads, stop, next, reads, Cut, parts, cut, Mid, sides, mid}

-- ---- weights

abbrev mutual
  pub type_weight : Ann → ℕ
  type_weight (ann p f) = form_weight f

  pub form_weight : Form → ℕ
  form_weight (tree.fun xs a) = suc (max (anns_weight xs) (type_weight a))
  form_weight _ = 1

  -- the greatest weight among them
  pub anns_weight : Anns → ℕ
  anns_weight no_anns = 0
  anns_weight (more_anns a xs) = max (type_weight a) (anns_weight xs)

-- a type's weight is that of its tree
mutual
  pub type_weighs : {ts : List Spelled} {w : ℕ} {a : Ann} → DerivesType ts w a → w ≡ type_weight a
  type_weighs (g.dyn_type p) = refl
  type_weighs (g.int_type p) = refl
  type_weighs (g.bool_type p) = refl
  type_weighs (g.str_type p) = refl
  type_weighs (g.nil_type p) = refl
  type_weighs (g.class_type p x) = refl
  type_weighs (g.callable p q r s t u ts us v w xs a d e) = let h = types_weigh d in let k = type_weighs e in λ i. suc (max (h i) (k i))

  types_weigh : {ts : List Spelled} {w : ℕ} {xs : List Ann} → DerivesTypes ts w xs → w ≡ anns_weight (anns xs)
  types_weigh g.no_types = refl
  types_weigh (g.some_types ts w xs d) = row_weighs d

  row_weighs : {ts : List Spelled} {w : ℕ} {xs : List Ann} → DerivesTypeRow ts w xs → w ≡ anns_weight (anns xs)
  row_weighs (g.one_type ts w a d) = type_weighs d ∙ sym (max-zero _)
  row_weighs (g.more_types p ts us v w a xs d e) = let h = type_weighs d in let k = row_weighs e in λ i. max (h i) (k i)

-- ---- trees read back

-- a type with these tokens, the same but for places
pub record TypeFound (us : List Spelled) (w : ℕ) (a : Ann) : Type 0 where
  pub tree : Ann
  pub derives : DerivesType us w tree
  pub same : bare_ann tree ≡ bare_ann a

record TypesFound (us : List Spelled) (w : ℕ) (xs : Anns) : Type 0 where
  pub trees : List Ann
  pub derives : DerivesTypes us w trees
  pub same : bare_anns (anns trees) ≡ bare_anns xs

record RowFound (us : List Spelled) (w : ℕ) (xs : Anns) : Type 0 where
  pub trees : List Ann
  pub derives : DerivesTypeRow us w trees
  pub same : bare_anns (anns trees) ≡ bare_anns xs

-- nothing, or a comma and types
data Tail : List Spelled → ℕ → List Ann → Type 0 where
  end : Tail [] 0 []
  behind : (p : Place) (us : List Spelled) (w : ℕ) (xs : List Ann) → DerivesTypeRow us w xs → Tail (tok what.Comma p ∷ us) w xs

record TailFound (us : List Spelled) (w : ℕ) (xs : Anns) : Type 0 where
  pub trees : List Ann
  pub tail : Tail us w trees
  pub same : bare_anns (anns trees) ≡ bare_anns xs

row_with : {ts us : List Spelled} {v w : ℕ} {a : Ann} {xs : List Ann} → DerivesType ts v a → Tail us w xs → DerivesTypeRow (ts ++ us) (max v w) (a ∷ xs)
row_with {ts = ts} {v = v} {a = a} d end =
    subst (λ z. DerivesTypeRow z (max v 0) (a ∷ [])) (sym (append-nil ts)) (subst (λ n. DerivesTypeRow ts n (a ∷ [])) (sym (max-zero v)) (g.one_type ts v a d))
row_with d (behind p us w xs e) = g.more_types p _ us _ w _ xs d e

row_back : (a : Ann) (xs : Anns) (us : List Spelled) → ((vs : List Spelled) → Reads (ann_tokens a) vs → TypeFound vs (type_weight a) a)
    → ((vs : List Spelled) → Reads (more_anns_tokens xs) vs → TailFound vs (anns_weight xs) xs) → Cut (ann_tokens a) (more_anns_tokens xs) us
    → RowFound us (anns_weight (more_anns a xs)) (more_anns a xs)
row_back a xs us f h (parts ls rs x y) =
    let c = f ls x in
    let d = h rs y in
    record { trees = c.tree ∷ d.trees; derives = row_with c.derives d.tail; same = λ i. more_anns (c.same i) (d.same i) }

types_found : {us : List Spelled} {w : ℕ} {xs : Anns} → RowFound us w xs → TypesFound us w xs
types_found c = record { trees = c.trees; derives = g.some_types _ _ _ c.derives; same = c.same }

tail_found : (p : Place) {us : List Spelled} {w : ℕ} {xs : Anns} → RowFound us w xs → TailFound (tok what.Comma p ∷ us) w xs
tail_found p c = record { trees = c.trees; tail = behind p _ _ _ c.derives; same = c.same }

-- the result of a function type and its bracket
result_back : (o p q r s t : Place) (xs : Anns) (a : Ann) (ls us : List Spelled) → TypesFound ls (anns_weight xs) xs
    → ((vs : List Spelled) → Reads (ann_tokens a) vs → TypeFound vs (type_weight a) a) → Mid (ann_tokens a) (b.sign mark.CloseSquare) [] us
    → TypeFound (sign mark.Callable p ∷ sign mark.OpenSquare q ∷ sign mark.OpenSquare r ∷ (ls ++ (sign mark.CloseSquare s ∷ tok what.Comma t ∷ us)))
    (suc (max (anns_weight xs) (type_weight a))) (ann o (tree.fun xs a))
result_back o p q r s t xs a ls us c f (sides u rs vs y stop) =
    let d = f rs y in
    record {
      tree = ann p (tree.fun (anns c.trees) d.tree);
      derives = g.callable p q r s t u ls rs _ _ c.trees d.tree c.derives d.derives;
      same = λ i. ann nowhere (tree.fun (c.same i) (d.same i));
    }

fun_back : (o p q r : Place) (xs : Anns) (a : Ann) (us : List Spelled) → ((vs : List Spelled) → Reads (anns_tokens xs) vs → TypesFound vs (anns_weight xs) xs)
    → ((vs : List Spelled) → Reads (ann_tokens a) vs → TypeFound vs (type_weight a) a)
    → Mid (anns_tokens xs) (b.sign mark.CloseSquare) (Plain what.Comma ∷ (ann_tokens a ++ b.sign mark.CloseSquare ∷ [])) us
    → TypeFound (sign mark.Callable p ∷ sign mark.OpenSquare q ∷ sign mark.OpenSquare r ∷ us) (suc (max (anns_weight xs) (type_weight a))) (ann o (tree.fun xs a))
fun_back o p q r xs a us f h (sides s ls rs x (next n t ts vs y)) = result_back o p q r s t xs a ls vs (f ls x) h (mid (ann_tokens a) (b.sign mark.CloseSquare) [] vs y)

mutual
  pub ann_back : (a : Ann) (us : List Spelled) → Reads (ann_tokens a) us → TypeFound us (type_weight a) a
  ann_back (ann o f) us r = form_back o f us r

  form_back : (o : Place) (f : Form) (us : List Spelled) → Reads (form_tokens f) us → TypeFound us (form_weight f) (ann o f)
  form_back o tree.dyn us (next n p ts vs stop) = record { tree = ann p tree.dyn; derives = g.dyn_type p; same = refl }
  form_back o tree.int us (next n p ts vs stop) = record { tree = ann p tree.int; derives = g.int_type p; same = refl }
  form_back o tree.bool us (next n p ts vs stop) = record { tree = ann p tree.bool; derives = g.bool_type p; same = refl }
  form_back o tree.str us (next n p ts vs stop) = record { tree = ann p tree.str; derives = g.str_type p; same = refl }
  form_back o tree.nil us (next n p ts vs stop) = record { tree = ann p tree.nil; derives = g.nil_type p; same = refl }
  form_back o (tree.class w) us (next n p ts vs stop) = record { tree = ann p (tree.class (word w.text p)); derives = g.class_type p w.text; same = refl }
  form_back o (tree.fun xs a) us (next n p ns vs (next m q ms ws (next l r ls ys z))) =
      fun_back o p q r xs a ys (anns_back xs) (ann_back a)
      (mid (anns_tokens xs) (b.sign mark.CloseSquare) (Plain what.Comma ∷ (ann_tokens a ++ b.sign mark.CloseSquare ∷ [])) ys z)

  anns_back : (xs : Anns) (us : List Spelled) → Reads (anns_tokens xs) us → TypesFound us (anns_weight xs) xs
  anns_back no_anns us stop = record { trees = []; derives = g.no_types; same = refl }
  anns_back (more_anns a xs) us r = types_found (row_back a xs us (ann_back a) (more_back xs) (cut (ann_tokens a) (more_anns_tokens xs) us r))

  more_back : (xs : Anns) (us : List Spelled) → Reads (more_anns_tokens xs) us → TailFound us (anns_weight xs) xs
  more_back no_anns us stop = record { trees = []; tail = end; same = refl }
  more_back (more_anns a xs) us (next n p ts vs r) = tail_found p (row_back a xs vs (ann_back a) (more_back xs) (cut (ann_tokens a) (more_anns_tokens xs) vs r))

-- each list of spelled tokens with the printed whats is the same type but for places
pub type_back : (room : ℕ) (ts : List Spelled) (a : Ann) → IsType room ts a → (us : List Spelled) → whats us ≡ map what_of (ann_tokens a)
    → (b : Ann) × IsType room us b × (bare_ann b ≡ bare_ann a)
type_back room ts a (w, d, h) us e =
    let c = ann_back a us (reads (ann_tokens a) us e) in
    let k : type_weight a ≤ room = rw (← type_weighs d) h in
    (c.tree, (type_weight a, c.derives, k), c.same)
