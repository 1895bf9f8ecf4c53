-- What stands in a list of types stands there when more types are added behind.
use Rattle.std.proofs.Common.{◌≡◌, ℕ, zero, suc, Bool, true, false, cond, ◌||◌, not, List, [], ◌∷◌, ◌++◌, Some, refl, sym, ◌∙◌, ap, append_assoc, append-nil}
use Rattle.std.specs.Prelude.{slice_get, bytes_eq}
use Rattle.std.specs.List.{list_any}
use Rattle.mono_list.proofs.Cases.{split}
use Rattle.mono_syntax.specs.declared.leaf.TyAt.{TyAt}
use Rattle.mono_syntax.specs.declared.script.BlockNames.{BlockNames}
use Rattle.mono_syntax.specs.declared.script.TypedName.{TypedName}
use Rattle.mono_syntax.specs.declared.tree.ClassDef.{ClassDef}
use Rattle.mono_syntax.specs.declared.tree.FuncDef.{FuncDef}
use Rattle.mono_syntax.specs.Ty.{Ty}
use Rattle.mono_syntax.specs.Stmt.{Stmt}
use Rattle.script_rules.specs.BlockNames.{Target, firsts, elsewhere}
use Rattle.script_rules.specs.Scoping.{StandsAt, ClassesStand, FunctionsStand, NamesStand, IsBlockScope, BlocksStand}
use Rattle.script_rules.specs.Writes.{WritesAny}
use Rattle.class_types.specs.declared.table.ClassTypes.{ClassTypes}
use Rattle.class_types.specs.Known.{Begins}
use Rattle.class_types.specs.Holds.{Holds, Extends}
use Rattle.name_scope.specs.computed.Typing.{FunctionBlocksStand}

pub extends_refl : (k : ClassTypes) → Holds k → Extends k k
extends_refl k h = record { holds = h; script = refl; classes = refl; types = ([], sym (append-nil k.types)) }

pub begins_trans : (xs ys zs : List Ty) → Begins xs ys → Begins ys zs → Begins xs zs
begins_trans xs ys zs a b = (a.0 ++ b.0, b.1 ∙ ap (λ l. l ++ b.0) a.1 ∙ append_assoc xs a.0 b.0)

pub extends_trans : (a b d : ClassTypes) → Extends a b → Extends b d → Extends a d
extends_trans a b d e f = record { holds = f.holds; script = f.script ∙ e.script; classes = f.classes ∙ e.classes; types = begins_trans a.types b.types d.types e.types f.types }

get_more : (xs more : List Ty) (i : ℕ) (t : Ty) → slice_get xs i ≡ Some t → slice_get (xs ++ more) i ≡ Some t
get_more [] more i t e = absurd cc
get_more (x ∷ xs) more zero t e = e
get_more (x ∷ xs) more (suc i) t e = get_more xs more i t e

pub stands_grow : (xs ys : List Ty) (a : TyAt) (Is : Ty → Type 0) → Begins xs ys → StandsAt xs a Is → StandsAt ys a Is
stands_grow xs ys a Is b s = record { type = s.type; at = ap (λ l. slice_get l a.0) b.1 ∙ get_more xs b.0 a.0 s.type s.at; is = s.is }

pub names_grow : (cs : List ClassDef) (xs ys : List Ty) (ts : List Target) (ks : List TypedName) → Begins xs ys → NamesStand cs xs ts ks → NamesStand cs ys ts ks
names_grow cs xs ys [] [] b s = tt
names_grow cs xs ys [] (k ∷ ks) b s = absurd s
names_grow cs xs ys (t ∷ ts) [] b s = absurd s
names_grow cs xs ys (t ∷ ts) (k ∷ ks) b s = (s.0, stands_grow xs ys k.ty _ b s.1, names_grow cs xs ys ts ks b s.2)

pub names_push : (cs : List ClassDef) (xs : List Ty) (ts : List Target) (ks : List TypedName) (t : Target) (k : TypedName) → NamesStand cs xs ts ks
    → k.name ≡ t.word.text → StandsAt xs k.ty (WritesAny cs t.ann) → NamesStand cs xs (ts ++ t ∷ []) (ks ++ k ∷ [])
names_push cs xs [] [] t k s n i = (n, i, tt)
names_push cs xs [] (j ∷ ks) t k s n i = absurd s
names_push cs xs (u ∷ ts) [] t k s n i = absurd s
names_push cs xs (u ∷ ts) (j ∷ ks) t k s n i = (s.0, s.1, names_push cs xs ts ks t k s.2 n i)

pub functions_grow : (cs : List ClassDef) (xs ys : List Ty) (ds : List FuncDef) (as_ : List TyAt) → Begins xs ys → FunctionsStand cs xs ds as_ → FunctionsStand cs ys ds as_
functions_grow cs xs ys [] [] b s = tt
functions_grow cs xs ys [] (a ∷ as_) b s = absurd s
functions_grow cs xs ys (d ∷ ds) [] b s = absurd s
functions_grow cs xs ys (d ∷ ds) (a ∷ as_) b s = (stands_grow xs ys a _ b s.0, functions_grow cs xs ys ds as_ b s.1)

pub functions_push : (cs : List ClassDef) (xs : List Ty) (ds : List FuncDef) (as_ : List TyAt) (d : FuncDef) (a : TyAt) → FunctionsStand cs xs ds as_
    → FunctionsStand cs xs (d ∷ []) (a ∷ []) → FunctionsStand cs xs (ds ++ d ∷ []) (as_ ++ a ∷ [])
functions_push cs xs [] [] d a s i = i
functions_push cs xs [] (b ∷ as_) d a s i = absurd s
functions_push cs xs (c ∷ ds) [] d a s i = absurd s
functions_push cs xs (c ∷ ds) (b ∷ as_) d a s i = (s.0, functions_push cs xs ds as_ d a s.1 i)

pub blocks_grow : (cs : List ClassDef) (xs ys : List Ty) (ds : List FuncDef) (bs : List BlockNames) → Begins xs ys → FunctionBlocksStand cs xs ds bs → FunctionBlocksStand cs ys ds bs
blocks_grow cs xs ys [] [] b s = tt
blocks_grow cs xs ys [] (k ∷ bs) b s = absurd s
blocks_grow cs xs ys (d ∷ ds) [] b s = absurd s
blocks_grow cs xs ys (d ∷ ds) (k ∷ bs) b s = (record { values = names_grow cs xs ys _ k.values b s.0.values; threads = s.0.threads }, blocks_grow cs xs ys ds bs b s.1)

pub blocks_push : (cs : List ClassDef) (xs : List Ty) (ds : List FuncDef) (bs : List BlockNames) (d : FuncDef) (b : BlockNames) → FunctionBlocksStand cs xs ds bs
    → IsBlockScope cs xs d.params d.body b → FunctionBlocksStand cs xs (ds ++ d ∷ []) (bs ++ b ∷ [])
blocks_push cs xs [] [] d b s i = (i, tt)
blocks_push cs xs [] (k ∷ bs) d b s i = absurd s
blocks_push cs xs (c ∷ ds) [] d b s i = absurd s
blocks_push cs xs (c ∷ ds) (k ∷ bs) d b s i = (s.0, blocks_push cs xs ds bs d b s.1 i)

pub blocks_main : (cs : List ClassDef) (xs : List Ty) (ds : List FuncDef) (bs : List BlockNames) (main : List Stmt) (b : BlockNames) → FunctionBlocksStand cs xs ds bs
    → IsBlockScope cs xs [] main b → BlocksStand cs xs ds main (bs ++ b ∷ [])
blocks_main cs xs [] [] main b s i = i
blocks_main cs xs [] (k ∷ bs) main b s i = absurd s
blocks_main cs xs (c ∷ ds) [] main b s i = absurd s
blocks_main cs xs (c ∷ ds) (k ∷ bs) main b s i = (s.0, blocks_main cs xs ds bs main b s.1 i)

pub classes_grow : (cs : List ClassDef) (xs ys : List Ty) (ds : List ClassDef) (as_ : List TyAt) → Begins xs ys → ClassesStand cs xs ds as_ → ClassesStand cs ys ds as_
classes_grow cs xs ys [] [] b s = tt
classes_grow cs xs ys [] (a ∷ as_) b s = absurd s
classes_grow cs xs ys (d ∷ ds) [] b s = absurd s
classes_grow cs xs ys (d ∷ ds) (a ∷ as_) b s = (stands_grow xs ys a _ b s.0, classes_grow cs xs ys ds as_ b s.1)

-- ---- first targets

pub any_push : {A : Type 0} (p : A → Bool) (xs : List A) (x : A) → list_any p (xs ++ x ∷ []) ≡ (list_any p xs || p x)
any_push p [] x = or_false (p x)
  where
    or_false : (a : Bool) → (a || false) ≡ a
    or_false true = refl
    or_false false = refl
any_push p (y ∷ xs) x = split (p y) (λ b. (b || list_any p (xs ++ x ∷ [])) ≡ ((b || list_any p xs) || p x)) (λ t. refl) (λ f. any_push p xs x)

elsewhere_push : (x : List ℕ) (ts : List Target) (t : Target) → elsewhere x (ts ++ t ∷ []) ≡ elsewhere x ts ++ elsewhere x (t ∷ [])
elsewhere_push x [] t = refl
elsewhere_push x (u ∷ ts) t =
    split (not (bytes_eq x u.word.text)) (λ b. cond b (u ∷ elsewhere x (ts ++ t ∷ [])) (elsewhere x (ts ++ t ∷ [])) ≡ cond b (u ∷ elsewhere x ts) (elsewhere x ts) ++ elsewhere x (t ∷ []))
    (λ e. ap (λ l. u ∷ l) (elsewhere_push x ts t)) (λ e. elsewhere_push x ts t)

abbrev pub is_among : List Target → List ℕ → Bool
is_among ts x = list_any (λ t. bytes_eq t.word.text x) ts

-- one more target is a first one where none of its name stands before
pub firsts_push : (ts : List Target) (t : Target) → firsts (ts ++ t ∷ []) ≡ firsts ts ++ cond (is_among ts t.word.text) [] (t ∷ [])
firsts_push [] t = refl
firsts_push (u ∷ ts) t =
    ap (λ l. u ∷ elsewhere u.word.text l) (firsts_push ts t)
    ∙ split (is_among ts t.word.text) (λ b. u ∷ elsewhere u.word.text (firsts ts ++ cond b [] (t ∷ [])) ≡ u ∷ elsewhere u.word.text (firsts ts) ++ cond (bytes_eq u.word.text t.word.text || b) [] (t ∷ []))
    (λ e. split (bytes_eq u.word.text t.word.text) (λ b. u ∷ elsewhere u.word.text (firsts ts ++ []) ≡ u ∷ elsewhere u.word.text (firsts ts) ++ cond (b || true) [] (t ∷ []))
    (λ y. nothing_more) (λ n. nothing_more))
    (λ e. ap (λ l. u ∷ l) (elsewhere_push u.word.text (firsts ts) t)
    ∙ split (bytes_eq u.word.text t.word.text) (λ b. u ∷ elsewhere u.word.text (firsts ts) ++ cond (not b) (t ∷ []) [] ≡ u ∷ elsewhere u.word.text (firsts ts) ++ cond (b || false) [] (t ∷ []))
    (λ y. refl) (λ n. refl))
  where
    nothing_more : u ∷ elsewhere u.word.text (firsts ts ++ []) ≡ u ∷ elsewhere u.word.text (firsts ts) ++ []
    nothing_more = ap (λ l. u ∷ elsewhere u.word.text l) (append-nil (firsts ts)) ∙ sym (append-nil (u ∷ elsewhere u.word.text (firsts ts)))
