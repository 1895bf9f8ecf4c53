-- What the code makes of an expression's parts is its node.
use Rattle.std.proofs.Common.{◌≡◌, ℕ, suc, ◌+◌, Bool, true, false, cond, List, [], ◌∷◌, ◌++◌, length, refl, sym, ◌∙◌, ap, subst, append_assoc, arith}
use Rattle.std.specs.Prelude.{Option, Some, None, map, bytes_eq}
use Rattle.std.specs.Option.{option_map}
use Rattle.std.proofs.lemmas.List.{append-nil}
use Rattle.mono_list.proofs.Cases.{split, split_option}
use Rattle.mono_syntax.specs.declared.cast.Arg.{Arg}
use Rattle.mono_syntax.specs.declared.cast.NamedType.{NamedType}
use Rattle.mono_syntax.specs.declared.leaf.Kind.TheVariants as kind
use Rattle.mono_syntax.specs.declared.leaf.Op.{Op}
use Rattle.mono_syntax.specs.declared.leaf.Place.{Place}
use Rattle.mono_syntax.specs.declared.leaf.Word.{Word}
use Rattle.mono_syntax.specs.declared.tree.ClassDef.{ClassDef}
use Rattle.mono_syntax.specs.declared.tree.FuncDef.{FuncDef}
use Rattle.mono_syntax.specs.Ann.{Ann}
use Rattle.mono_syntax.specs.CastExpr as cast
use Rattle.mono_syntax.specs.CastExpr.{CastExpr, Args}
use Rattle.mono_syntax.specs.CastExprView.{cast_exprs, args}
use Rattle.mono_syntax.specs.Expr as expr
use Rattle.mono_syntax.specs.Expr.{Expr, Exprs}
use Rattle.mono_syntax.specs.ExprView.{exprs_list}
use Rattle.mono_syntax.specs.Ty.{Ty, dyn, int, bool, str, nil, fun, obj}
use Rattle.mono_syntax.specs.TyView.{tys_list}
use Rattle.mono_tree.specs.TypedPrograms.{type_of_name}
use Rattle.script_rules.specs.Definitions.{class_named, function_named}
use Rattle.script_rules.specs.SourcePlaces.{place_of}
use Rattle.static_types.specs.declared.rule.Rule.{Rule}
use Rattle.static_types.specs.Members.{all_dyn}
use Rattle.static_types.specs.Names.{Names, IsNamed, IsFunctionNamed}
use Rattle.static_types.specs.Operators.{Sort, arithmetic, comparison, equality, sort_of, is_dyn_sum}
use Rattle.static_types.specs.Parts.{class_called, call_parts, parts}
use Rattle.static_types.specs.Rules.{CalleeRule, CallRule, RuleOf}
use Rattle.cast_rules.specs.declared.site.TypedSite.{TypedSite}
use Rattle.cast_rules.specs.Nodes as nodes
use Rattle.cast_rules.specs.Nodes.{named_at, arguments, IsNode}
use Rattle.cast_rules.specs.OwnSites.{name_site, operator_sites, written_site, call_sites, called_sites, own_sites}
use Rattle.cast_rules.specs.Sites.{site_at_dyn, tested_sites, numbered}
use Rattle.name_places.specs.Places.{place_from, place_in}
use Rattle.known_names.specs.declared.known.Known.{Known}
use Rattle.known_names.specs.declared.known.KnownClass.{KnownClass}
use Rattle.known_names.specs.declared.known.Local.{Local}
use Rattle.known_names.specs.IsKnown.{ClassesKnown, FunctionsKnown, IsKnown, names_in}
use Rattle.cast_nodes.specs.computed.Noded.{with_arguments, function_number, class_number, called_number, called_node, node}

-- ---- arguments

abbrev argument_list : List (Option ℕ) → List CastExpr → List Arg
argument_list (k ∷ ks) (c ∷ cs) = record { site = k; value = c } ∷ argument_list ks cs
argument_list ks cs = []

listed : (done : List Arg) (ks : List (Option ℕ)) (cs : List CastExpr) → with_arguments done ks cs ≡ done ++ argument_list ks cs
listed done [] cs = sym (append-nil done)
listed done (k ∷ ks) [] = sym (append-nil done)
listed done (k ∷ ks) (c ∷ cs) = listed (done ++ record { site = k; value = c } ∷ []) ks cs ∙ append_assoc done (record { site = k; value = c } ∷ []) (argument_list ks cs)

args_are : (ks : List (Option ℕ)) (cs : List CastExpr) → args (argument_list ks cs) ≡ arguments ks cs
args_are [] cs = refl
args_are (k ∷ ks) [] = refl
args_are (k ∷ ks) (c ∷ cs) = ap (λ (z : Args). cast.more_args k c z) (args_are ks cs)

pub arguments_are : (ks : List (Option ℕ)) (cs : List CastExpr) → args (with_arguments [] ks cs) ≡ arguments ks cs
arguments_are ks cs = ap args (listed [] ks cs) ∙ args_are ks cs

-- ---- slots and their numbers

pub record Row (ks : List (Option ℕ)) : Type 0 where
  pub first : Option ℕ
  pub others : List (Option ℕ)
  pub is : ks ≡ first ∷ others

pub first_slot : (n : ℕ) (x : Option TypedSite) (xs : List (Option TypedSite)) → Row (numbered n (x ∷ xs))
first_slot n None xs = record { first = None; others = numbered n xs; is = refl }
first_slot n (Some x) xs = record { first = Some n; others = numbered (n + 1) xs; is = refl }

pub record Single (ks : List (Option ℕ)) : Type 0 where
  pub first : Option ℕ
  pub is : ks ≡ first ∷ []

pub one_slot : (n : ℕ) (x : Option TypedSite) → Single (numbered n (x ∷ []))
one_slot n None = record { first = None; is = refl }
one_slot n (Some x) = record { first = Some n; is = refl }

pub record Pair (ks : List (Option ℕ)) : Type 0 where
  pub first : Option ℕ
  pub second : Option ℕ
  pub is : ks ≡ first ∷ second ∷ []

operator_slots : (n : ℕ) (s : Sort) (z : Bool) (p : Place) → Pair (numbered n (operator_sites s z p))
operator_slots n equality z p = record { first = None; second = None; is = refl }
operator_slots n comparison z p = record { first = None; second = None; is = refl }
operator_slots n arithmetic true p = record { first = Some n; second = Some (n + 1); is = refl }
operator_slots n arithmetic false p = record { first = None; second = Some n; is = refl }

pub two_slots : (n : ℕ) (x y : Option TypedSite) → Pair (numbered n (x ∷ y ∷ []))
two_slots n None None = record { first = None; second = None; is = refl }
two_slots n None (Some y) = record { first = None; second = Some n; is = refl }
two_slots n (Some x) None = record { first = Some n; second = None; is = refl }
two_slots n (Some x) (Some y) = record { first = Some n; second = Some (n + 1); is = refl }

-- a callee has its slot
pub call_slots : (n : ℕ) (p : Place) (es : List Expr) (ts : List Ty) (r : Rule) → CalleeRule ts r → Row (numbered n (call_sites p es ts r.asks))
call_slots n p es [] r h = absurd h
call_slots n p es (dyn ∷ ts) r h = subst (λ (z : Rule). Row (numbered n (call_sites p es (dyn ∷ ts) z.asks))) (sym h) (first_slot n (site_at_dyn kind.Call p (dyn ∷ ts)) (tested_sites kind.Argument es ts (all_dyn ts)))
call_slots n p es (fun ps t ∷ ts) r h = subst (λ (z : Rule). Row (numbered n (call_sites p es (fun ps t ∷ ts) z.asks))) (sym h.1) (first_slot n (site_at_dyn kind.Call p (fun ps t ∷ ts)) (tested_sites kind.Argument es ts (tys_list ps)))
call_slots n p es (int ∷ ts) r h = absurd h
call_slots n p es (bool ∷ ts) r h = absurd h
call_slots n p es (str ∷ ts) r h = absurd h
call_slots n p es (nil ∷ ts) r h = absurd h
call_slots n p es (obj gs ∷ ts) r h = absurd h

-- ---- numbers of functions and classes

function_names : (cs : List ClassDef) (ds : List FuncDef) (ns : List NamedType) → FunctionsKnown cs ds ns → map (λ f. f.name) ns ≡ map (λ d. d.name.text) ds
function_names cs [] [] h = refl
function_names cs (d ∷ ds) (n ∷ ns) h = λ i. h.0 i ∷ function_names cs ds ns h.2 i
function_names cs [] (n ∷ ns) h = absurd h
function_names cs (d ∷ ds) [] h = absurd h

class_names : (cs ds : List ClassDef) (ks : List KnownClass) → ClassesKnown cs ds ks → map (λ k. k.name) ks ≡ map (λ d. d.name.text) ds
class_names cs [] [] h = refl
class_names cs (d ∷ ds) (k ∷ ks) h = λ i. h.0.name i ∷ class_names cs ds ks h.1 i
class_names cs [] (k ∷ ks) h = absurd h
class_names cs (d ∷ ds) [] h = absurd h

-- a place that is counted from another number
place_later : (i : ℕ) (ns : List (List ℕ)) (x : List ℕ) → place_from i ns x ≡ option_map (λ k. k + i) (named_at ns x)
place_later i [] x = refl
place_later i (n ∷ ns) x =
    split (bytes_eq n x) (λ b. cond b (Some i) (place_from (i + 1) ns x) ≡ option_map (λ k. k + i) (cond b (Some 0) (option_map (λ k. k + 1) (named_at ns x))))
    (λ y. ap Some (omega arith))
    (λ m. place_later (i + 1) ns x ∙ split_option (named_at ns x) (λ o. option_map (λ k. k + (i + 1)) o ≡ option_map (λ k. k + i) (option_map (λ k. k + 1) o)) (λ e. refl) (λ k e. ap Some (omega arith)))

place_is : (ns : List (List ℕ)) (x : List ℕ) → place_in ns x ≡ named_at ns x
place_is ns x = place_later 0 ns x ∙ split_option (named_at ns x) (λ o. option_map (λ k. k + 0) o ≡ o) (λ e. refl) (λ k e. ap Some (omega arith))

record IsAt (o : Option ℕ) : Type 0 where
  pub at : ℕ
  pub is : o ≡ Some at

later : (o : Option ℕ) → IsAt o → IsAt (option_map (λ k. k + 1) o)
later o h = record { at = h.at + 1; is = ap (λ (z : Option ℕ). option_map (λ k. k + 1) z) h.is }

-- a function of this name stands at a place
abbrev FunctionAt : Option FuncDef → Option ℕ → Type 0
FunctionAt None o = Unit {0}
FunctionAt (Some d) o = IsAt o

later_function : (o : Option FuncDef) (n : Option ℕ) → FunctionAt o n → FunctionAt o (option_map (λ k. k + 1) n)
later_function None n h = tt
later_function (Some d) n h = later n h

function_at : (ds : List FuncDef) (x : List ℕ) → FunctionAt (function_named ds x) (named_at (map (λ d. d.name.text) ds) x)
function_at [] x = tt
function_at (d ∷ ds) x =
    split (bytes_eq d.name.text x) (λ b. FunctionAt (cond b (Some d) (function_named ds x)) (cond b (Some 0) (option_map (λ k. k + 1) (named_at (map (λ d. d.name.text) ds) x))))
    (λ y. record { at = 0; is = refl })
    (λ n. later_function (function_named ds x) (named_at (map (λ d. d.name.text) ds) x) (function_at ds x))

-- a class of this name stands at a place, or at none
abbrev ClassAt : Option ClassDef → Option ℕ → Type 0
ClassAt None o = o ≡ None
ClassAt (Some d) o = IsAt o

later_class : (o : Option ClassDef) (n : Option ℕ) → ClassAt o n → ClassAt o (option_map (λ k. k + 1) n)
later_class None n h = ap (λ (z : Option ℕ). option_map (λ k. k + 1) z) h
later_class (Some d) n h = later n h

class_at : (ds : List ClassDef) (x : List ℕ) → ClassAt (class_named ds x) (named_at (map (λ d. d.name.text) ds) x)
class_at [] x = refl
class_at (d ∷ ds) x =
    split (bytes_eq d.name.text x) (λ b. ClassAt (cond b (Some d) (class_named ds x)) (cond b (Some 0) (option_map (λ k. k + 1) (named_at (map (λ d. d.name.text) ds) x))))
    (λ y. record { at = 0; is = refl })
    (λ n. later_class (class_named ds x) (named_at (map (λ d. d.name.text) ds) x) (class_at ds x))

-- ---- nodes

module _ (cs : List ClassDef) (fs : List FuncDef) (ks : Known) (l : Local) (known : IsKnown cs fs ks) where
  abbrev Ns : Names
  Ns = names_in cs fs l

  -- the code makes this of an expression, and it is its node
  pub record HasNode (e : Expr) (ds : List CastExpr) (ms : List (Option ℕ)) : Type 0 where
    pub expr : CastExpr
    pub made : node ks e ds ms ≡ Some expr
    pub is : IsNode Ns e ds ms expr

  function_number_is : (x : List ℕ) → function_number ks x ≡ named_at (map (λ d. d.name.text) fs) x
  function_number_is x = place_is (map (λ f. f.name) ks.functions) x ∙ ap (λ (z : List (List ℕ)). named_at z x) (function_names cs fs ks.functions known.functions)

  class_number_is : (x : List ℕ) → class_number ks x ≡ named_at (map (λ d. d.name.text) cs) x
  class_number_is x = place_is (map (λ k. k.name) ks.classes) x ∙ ap (λ (z : List (List ℕ)). named_at z x) (class_names cs cs ks.classes known.classes)

  function_node : (w : Word) (t : Ty) (o : Option FuncDef) → IsFunctionNamed cs o t → FunctionAt o (named_at (map (λ d. d.name.text) fs) w.text) → HasNode (expr.local w) [] (None ∷ [])
  function_node w t None h k = absurd h
  function_node w t (Some d) h k =
      record { expr = cast.function k.at; made = ap (λ (z : Option ℕ). option_map (λ g. cast.function g) z) (function_number_is w.text ∙ k.is); is = nodes.function k.is }

  name_has : (n : ℕ) (w : Word) (o : Option Ty) (t : Ty) → IsNamed Ns o w.text t → HasNode (expr.local w) [] (numbered n (name_site o w.place ∷ []))
  name_has n w (Some s) t h = record { expr = cast.local n w.text; made = refl; is = nodes.name }
  name_has n w None t h = function_node w t (function_named fs w.text) h (function_at fs w.text)

  -- a callee and arguments
  call_has : (p : Place) (f : Expr) (es : Exprs) (c : CastExpr) (ds : List CastExpr) (ms : List (Option ℕ)) → class_called cs f ≡ None → called_number ks f ≡ None → Row ms → HasNode (expr.call p f es) (c ∷ ds) ms
  call_has p f es c ds ms e n r =
      subst (λ (z : List (Option ℕ)). HasNode (expr.call p f es) (c ∷ ds) z) (sym r.is)
      (record {
        expr = cast.call r.first c (args (with_arguments [] r.others ds));
        made = ap (λ (z : Option ℕ). called_node z (c ∷ ds) (r.first ∷ r.others)) n;
        is = nodes.call e (arguments_are r.others ds);
      })

  make_has : (p : Place) (w : Word) (es : Exprs) (d : ClassDef) (ds : List CastExpr) → class_called cs (expr.local w) ≡ Some d → IsAt (named_at (map (λ d. d.name.text) cs) w.text)
      → HasNode (expr.call p (expr.local w) es) ds []
  make_has p w es d ds e k =
      record {
        expr = cast.make k.at (cast_exprs ds);
        made = ap (λ (z : Option ℕ). called_node z ds []) (class_number_is w.text ∙ k.is);
        is = nodes.make e k.is refl;
      }

  callee_has : (n : ℕ) (p : Place) (f : Expr) (es : Exprs) (ts : List Ty) (r : Rule) (ds : List CastExpr) → class_called cs f ≡ None → called_number ks f ≡ None → CalleeRule ts r
      → length ds ≡ suc (length (exprs_list es)) → HasNode (expr.call p f es) ds (numbered n (call_sites p (exprs_list es) ts r.asks))
  callee_has n p f es ts r [] e m h c = absurd (omega (arith, c))
  callee_has n p f es ts r (d ∷ ds) e m h c = call_has p f es d ds (numbered n (call_sites p (exprs_list es) ts r.asks)) e m (call_slots n p (exprs_list es) ts r h)

  -- a name is called, which may be a class's
  named_has : (n : ℕ) (p : Place) (w : Word) (es : Exprs) (ts : List Ty) (r : Rule) (ds : List CastExpr) (o : Option ClassDef) → class_named cs w.text ≡ o
      → ClassAt o (named_at (map (λ d. d.name.text) cs) w.text) → CallRule cs o ts r → length ds ≡ length (call_parts o (expr.local w) (exprs_list es))
      → HasNode (expr.call p (expr.local w) es) ds (numbered n (called_sites o p (exprs_list es) ts r.asks))
  named_has n p w es ts r ds (Some d) e k h c = make_has p w es d ds e k
  named_has n p w es ts r ds None e k h c = callee_has n p (expr.local w) es ts r ds e (class_number_is w.text ∙ k) h c

  called_has : (n : ℕ) (p : Place) (f : Expr) (es : Exprs) (ts : List Ty) (r : Rule) (ds : List CastExpr) → CallRule cs (class_called cs f) ts r
      → length ds ≡ length (call_parts (class_called cs f) f (exprs_list es)) → HasNode (expr.call p f es) ds (numbered n (called_sites (class_called cs f) p (exprs_list es) ts r.asks))
  called_has n p (expr.local w) es ts r ds h c = named_has n p w es ts r ds (class_named cs w.text) refl (class_at cs w.text) h c
  called_has n p (expr.number q k) es ts r ds h c = callee_has n p (expr.number q k) es ts r ds refl refl h c
  called_has n p (expr.text q x) es ts r ds h c = callee_has n p (expr.text q x) es ts r ds refl refl h c
  called_has n p (expr.truth q b) es ts r ds h c = callee_has n p (expr.truth q b) es ts r ds refl refl h c
  called_has n p (expr.nil q) es ts r ds h c = callee_has n p (expr.nil q) es ts r ds refl refl h c
  called_has n p (expr.neg q a) es ts r ds h c = callee_has n p (expr.neg q a) es ts r ds refl refl h c
  called_has n p (expr.negation q a) es ts r ds h c = callee_has n p (expr.negation q a) es ts r ds refl refl h c
  called_has n p (expr.binary o q a b) es ts r ds h c = callee_has n p (expr.binary o q a b) es ts r ds refl refl h c
  called_has n p (expr.both a b) es ts r ds h c = callee_has n p (expr.both a b) es ts r ds refl refl h c
  called_has n p (expr.either a b) es ts r ds h c = callee_has n p (expr.either a b) es ts r ds refl refl h c
  called_has n p (expr.read a w) es ts r ds h c = callee_has n p (expr.read a w) es ts r ds refl refl h c
  called_has n p (expr.call q g gs) es ts r ds h c = callee_has n p (expr.call q g gs) es ts r ds refl refl h c
  called_has n p (expr.cast q a e) es ts r ds h c = callee_has n p (expr.cast q a e) es ts r ds refl refl h c
  called_has n p (expr.join q w) es ts r ds h c = callee_has n p (expr.join q w) es ts r ds refl refl h c

  -- ---- forms of one part, and of two

  neg_has : (n : ℕ) (p : Place) (a : Expr) (ds : List CastExpr) → length ds ≡ 1 → HasNode (expr.neg p a) ds (Some n ∷ [])
  neg_has n p a (c ∷ []) h = record { expr = cast.neg n c; made = refl; is = nodes.neg }
  neg_has n p a [] h = absurd cc
  neg_has n p a (c ∷ d ∷ ds) h = absurd cc

  negation_has : (p : Place) (a : Expr) (ds : List CastExpr) → length ds ≡ 1 → HasNode (expr.negation p a) ds []
  negation_has p a (c ∷ []) h = record { expr = cast.negation c; made = refl; is = nodes.negation }
  negation_has p a [] h = absurd cc
  negation_has p a (c ∷ d ∷ ds) h = absurd cc

  read_has : (a : Expr) (w : Word) (ds : List CastExpr) (ms : List (Option ℕ)) → Single ms → length ds ≡ 1 → HasNode (expr.read a w) ds ms
  read_has a w (c ∷ []) ms s h =
      subst (λ (z : List (Option ℕ)). HasNode (expr.read a w) (c ∷ []) z) (sym s.is) (record { expr = cast.read s.first c w.text; made = refl; is = nodes.read })
  read_has a w [] ms s h = absurd cc
  read_has a w (c ∷ d ∷ ds) ms s h = absurd cc

  cast_has : (n : ℕ) (p : Place) (a : Ann) (e : Expr) (ts : List Ty) (t : Ty) (ds : List CastExpr) → length ts ≡ 1 → length ds ≡ 1
      → HasNode (expr.cast p a e) ds (numbered n (written_site (place_of e) ts t))
  cast_has n p a e (s ∷ []) t (c ∷ []) g h = record { expr = cast.fit n c; made = refl; is = nodes.written }
  cast_has n p a e [] t ds g h = absurd cc
  cast_has n p a e (s ∷ u ∷ ts) t ds g h = absurd cc
  cast_has n p a e (s ∷ []) t [] g h = absurd cc
  cast_has n p a e (s ∷ []) t (c ∷ d ∷ ds) g h = absurd cc

  binary_has : (o : Op) (p : Place) (a b : Expr) (ds : List CastExpr) (ms : List (Option ℕ)) → Pair ms → length ds ≡ 2 → HasNode (expr.binary o p a b) ds ms
  binary_has o p a b (c ∷ d ∷ []) ms s h =
      subst (λ (z : List (Option ℕ)). HasNode (expr.binary o p a b) (c ∷ d ∷ []) z) (sym s.is) (record { expr = cast.binary o s.first s.second c d; made = refl; is = nodes.binary })
  binary_has o p a b [] ms s h = absurd cc
  binary_has o p a b (c ∷ []) ms s h = absurd cc
  binary_has o p a b (c ∷ d ∷ k ∷ ds) ms s h = absurd cc

  both_has : (a b : Expr) (ds : List CastExpr) → length ds ≡ 2 → HasNode (expr.both a b) ds []
  both_has a b (c ∷ d ∷ []) h = record { expr = cast.both c d; made = refl; is = nodes.both }
  both_has a b [] h = absurd cc
  both_has a b (c ∷ []) h = absurd cc
  both_has a b (c ∷ d ∷ k ∷ ds) h = absurd cc

  either_has : (a b : Expr) (ds : List CastExpr) → length ds ≡ 2 → HasNode (expr.either a b) ds []
  either_has a b (c ∷ d ∷ []) h = record { expr = cast.either c d; made = refl; is = nodes.either }
  either_has a b [] h = absurd cc
  either_has a b (c ∷ []) h = absurd cc
  either_has a b (c ∷ d ∷ k ∷ ds) h = absurd cc

  no_parts_has : (e : Expr) (c : CastExpr) (ds : List CastExpr) (ms : List (Option ℕ)) → node ks e [] ms ≡ Some c → IsNode Ns e [] ms c → length ds ≡ 0 → HasNode e ds ms
  no_parts_has e c [] ms m i h = record { expr = c; made = m; is = i }
  no_parts_has e c (d ∷ ds) ms m i h = absurd cc

  named_alone : (n : ℕ) (w : Word) (r : Rule) (ds : List CastExpr) → IsNamed Ns (type_of_name l.values w.text) w.text r.gives → length ds ≡ 0
      → HasNode (expr.local w) ds (numbered n (name_site (type_of_name l.values w.text) w.place ∷ []))
  named_alone n w r [] h c = name_has n w (type_of_name l.values w.text) r.gives h
  named_alone n w r (d ∷ ds) h c = absurd cc

  pub node_so : (n : ℕ) (e : Expr) (ts : List Ty) (r : Rule) (ds : List CastExpr) → RuleOf Ns e ts r → length ts ≡ length (parts cs e) → length ds ≡ length (parts cs e)
      → HasNode e ds (numbered n (own_sites Ns e ts r.asks r.gives))
  node_so n (expr.local w) ts r ds h g c = named_alone n w r ds h.0 c
  node_so n (expr.number p k) ts r ds h g c = no_parts_has (expr.number p k) (cast.number k) ds [] refl nodes.number c
  node_so n (expr.text p x) ts r ds h g c = no_parts_has (expr.text p x) (cast.text x) ds [] refl nodes.text c
  node_so n (expr.truth p b) ts r ds h g c = no_parts_has (expr.truth p b) (cast.truth b) ds [] refl nodes.truth c
  node_so n (expr.nil p) ts r ds h g c = no_parts_has (expr.nil p) cast.nil ds [] refl nodes.nil c
  node_so n (expr.neg p a) ts r ds h g c = neg_has n p a ds c
  node_so n (expr.negation p a) ts r ds h g c = negation_has p a ds c
  node_so n (expr.binary o p a b) ts r ds h g c = binary_has o p a b ds _ (operator_slots n (sort_of o) (is_dyn_sum o ts) p) c
  node_so n (expr.both a b) ts r ds h g c = both_has a b ds c
  node_so n (expr.either a b) ts r ds h g c = either_has a b ds c
  node_so n (expr.read a w) ts r ds h g c = read_has a w ds _ (one_slot n _) c
  node_so n (expr.call p f es) ts r ds h g c = called_has n p f es ts r ds h c
  node_so n (expr.cast p a e) ts r ds h g c = cast_has n p a e ts r.gives ds g c
  node_so n (expr.join p w) ts r ds h g c = no_parts_has (expr.join p w) (cast.join n w.text) ds (Some n ∷ []) refl nodes.join c
