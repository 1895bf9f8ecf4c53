-- The casts in an expression have numbers below the length of the list of sites behind it.
use Rattle.std.proofs.Common.{◌≡◌, inl, inr, ℕ, suc, ◌+◌, ◌<◌, ◌≤◌, List, [], ◌∷◌, ◌++◌, length, Option, Some, None, sym, ap, subst, arith}
use Rattle.std.specs.Prelude.{Contains}
use Rattle.std.proofs.lemmas.List.{length-append}
use Rattle.mono_syntax.specs.CastExpr.{CastExpr, CastExprs, Args}
use Rattle.mono_syntax.specs.CastExprView.{cast_exprs}
use Rattle.mono_syntax.specs.Expr.{Expr}
use Rattle.script_rules.specs.SourceCasts.{casts_in, casts_in_all, casts_in_arguments}
use Rattle.static_types.specs.Names.{Names}
use Rattle.class_types.proofs.OrderLaws.{In, contains-in}
use Rattle.cast_rules.specs.declared.site.TypedSite.{TypedSite}
use Rattle.cast_rules.specs.Nodes.{arguments, IsNode, number, text, truth, nil, name, function, neg, negation, binary, both, either, read, make, call, written, join}
use Rattle.cast_rules.specs.Sites.{standing, numbered}
use Rattle.cast_rules.proofs.Extending.{Extends}

abbrev pub AllBelow : ℕ → List ℕ → Type 0
AllBelow n [] = Unit {0}
AllBelow n (j ∷ js) = (j < n) × AllBelow n js

below_append : (n : ℕ) (xs ys : List ℕ) → AllBelow n xs → AllBelow n ys → AllBelow n (xs ++ ys)
below_append n [] ys h k = k
below_append n (x ∷ xs) ys h k = (h.0, below_append n xs ys h.1 k)

pub below_more : (m n : ℕ) (js : List ℕ) → m ≤ n → AllBelow m js → AllBelow n js
below_more m n [] l h = tt
below_more m n (j ∷ js) l h = let here : j < m = h.0 in (omega arith, below_more m n js l h.1)

below_in : (n : ℕ) (js : List ℕ) → AllBelow n js → (j : ℕ) → In j js → j < n
below_in n [] h j i = absurd i
below_in n (k ∷ js) h j (inl e) = subst (λ (x : ℕ). x < n) e h.0
below_in n (k ∷ js) h j (inr i) = below_in n js h.1 j i

pub below_contains : (n : ℕ) (js : List ℕ) → AllBelow n js → (j : ℕ) → Contains js j → j < n
below_contains n js h j c = below_in n js h j (contains-in j js c)

-- the casts of expressions in a row
abbrev pub EachBelow : ℕ → List CastExpr → Type 0
EachBelow n [] = Unit {0}
EachBelow n (d ∷ ds) = AllBelow n (casts_in d) × EachBelow n ds

pub each_more : (m n : ℕ) (ds : List CastExpr) → m ≤ n → EachBelow m ds → EachBelow n ds
each_more m n [] l h = tt
each_more m n (d ∷ ds) l h = (below_more m n (casts_in d) l h.0, each_more m n ds l h.1)

exprs_below : (n : ℕ) (ds : List CastExpr) → EachBelow n ds → AllBelow n (casts_in_all (cast_exprs ds))
exprs_below n [] h = tt
exprs_below n (d ∷ ds) h = below_append n (casts_in d) (casts_in_all (cast_exprs ds)) h.0 (exprs_below n ds h.1)

arguments_below : (n : ℕ) (ks : List (Option ℕ)) (ds : List CastExpr) → EachBelow n ds → AllBelow n (casts_in_arguments (arguments ks ds))
arguments_below n [] ds h = tt
arguments_below n (k ∷ ks) [] h = tt
arguments_below n (k ∷ ks) (d ∷ ds) h = below_append n (casts_in d) (casts_in_arguments (arguments ks ds)) h.0 (arguments_below n ks ds h.1)

-- ---- numbers

abbrev pub NumbersBelow : ℕ → List (Option ℕ) → Type 0
NumbersBelow n [] = Unit {0}
NumbersBelow n (None ∷ ks) = NumbersBelow n ks
NumbersBelow n (Some k ∷ ks) = (k < n) × NumbersBelow n ks

pub numbers_below : (m : ℕ) (os : List (Option TypedSite)) → NumbersBelow (m + length (standing os)) (numbered m os)
numbers_below m [] = tt
numbers_below m (None ∷ os) = numbers_below m os
numbers_below m (Some x ∷ os) =
    let same : m + 1 + length (standing os) ≡ m + suc (length (standing os)) = omega arith in
    (omega arith, subst (λ (n : ℕ). NumbersBelow n (numbered (m + 1) os)) same (numbers_below (m + 1) os))

-- ---- lengths

pub extends_length : (ss us : List TypedSite) → Extends ss us → length ss ≤ length us
extends_length ss us f = let e = ap (λ (l : List TypedSite). length l) f.is in let k = length-append ss f.more in omega (arith, e, k)

-- ---- a construct over its parts

pub node_below : (n : ℕ) (ns : Names) (e : Expr) (ds : List CastExpr) (ks : List (Option ℕ)) (c : CastExpr) → IsNode ns e ds ks c → EachBelow n ds → NumbersBelow n ks
    → AllBelow n (casts_in c)
node_below n ns e ds ks c number h k = tt
node_below n ns e ds ks c text h k = tt
node_below n ns e ds ks c truth h k = tt
node_below n ns e ds ks c nil h k = tt
node_below n ns e ds ks c name h k = tt
node_below n ns e ds ks c (function g) h k = tt
node_below n ns e ds ks c neg h k = h.0
node_below n ns e ds ks c negation h k = h.0
node_below n ns e ds ks c (binary {c = x} {d = y}) h k = below_append n (casts_in x) (casts_in y) h.0 (h.1).0
node_below n ns e ds ks c (both {c = x} {d = y}) h k = below_append n (casts_in x) (casts_in y) h.0 (h.1).0
node_below n ns e ds ks c (either {c = x} {d = y}) h k = below_append n (casts_in x) (casts_in y) h.0 (h.1).0
node_below n ns e ds ks c read h k = h.0
node_below n ns e ds ks c (make {cs = cs} f g q) h k = subst (λ (l : CastExprs). AllBelow n (casts_in_all l)) (sym q) (exprs_below n cs h)
node_below n ns e ds ks c (call {c = x} {cs = cs} {ks = ks1} {all = all} f q) h k =
    below_append n (casts_in x) (casts_in_arguments all) h.0 (subst (λ (l : Args). AllBelow n (casts_in_arguments l)) (sym q) (arguments_below n ks1 cs h.1))
node_below n ns e ds ks c written h k = (k.0, h.0)
node_below n ns e ds ks c join h k = tt
