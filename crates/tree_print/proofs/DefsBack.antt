-- Tokens of a printed class or function have its tree by the grammar, but for places.
use Rattle.std.proofs.Common.{◌≡◌, ℕ, List, [], ◌∷◌, ◌++◌, Option, Some, None, refl, sym, ◌∙◌, ap, subst}
use Rattle.std.specs.Prelude.{map}
use Rattle.std.proofs.lemmas.List.{append-nil, map-append}
use Rattle.mono_syntax.specs.declared.leaf.Place.{Place}
use Rattle.mono_syntax.specs.declared.tree.ClassDef.{ClassDef}
use Rattle.mono_syntax.specs.declared.tree.FieldDef.{FieldDef}
use Rattle.mono_syntax.specs.declared.tree.FuncDef.{FuncDef}
use Rattle.mono_syntax.specs.declared.tree.Param.{Param}
use Rattle.mono_syntax.specs.Ann.{Ann}
use Rattle.mono_syntax.specs.Stmt.{Stmt}
use Rattle.mono_syntax.specs.StmtView.{block}
use Rattle.spelled_tokens.specs.declared.token.Mark.TheVariants as mark
use Rattle.spelled_tokens.specs.declared.token.Spelled.{Spelled}
use Rattle.spelled_tokens.specs.declared.token.What.{What}
use Rattle.spelled_tokens.specs.declared.token.What.TheVariants as what
use Rattle.spelled_tokens.specs.SpelledTokens.{tok, sign}
use Rattle.token_lines.specs.Back.{whats}
use Rattle.token_lines.specs.Tokens.{what_of}
use Rattle.parse_expr.specs.Types.{word}
use Rattle.parse_script.specs.Definitions as ds
use Rattle.parse_script.specs.Definitions.{DerivesField, DerivesFields, DerivesClass, DerivesParam, DerivesParams, DerivesResult, DerivesDef}
use Rattle.mono_syntax.specs.Limits.{greatest_weight}
use Rattle.tree_print.specs.Brackets.{ann_tokens}
use Rattle.tree_print.specs.ScriptLines.{param_tokens, more_params_tokens, params_tokens, result_tokens}
use Rattle.tree_print.specs.Placeless.{nowhere, bare_type, bare_fields, bare_params, bare_class, bare_def}
use Rattle.tree_print.proofs.Splits.{split_whats, first_what, no_whats}
use Rattle.tree_print.proofs.TypesBack.{type_back}
use Rattle.tree_print.proofs.Nested.{newline, inner_whats, block_whats, field_whats, fields_whats, body_whats, class_whats, def_whats}
use Rattle.tree_print.proofs.Pieces.{part, only, behind, further}
use Rattle.tree_print.proofs.StmtsBack.{inner_back, block_back}

-- these tokens are this but for places
abbrev FieldsBack : List Spelled → List FieldDef → Type 0
FieldsBack us fs = (gs : List FieldDef) × DerivesFields us gs × (bare_fields gs ≡ bare_fields fs)

abbrev ParamBack : List Spelled → Param → Type 0
ParamBack us x = (y : Param) × DerivesParam us y × (bare_params (y ∷ []) ≡ bare_params (x ∷ []))

abbrev ParamsBack : List Spelled → List Param → Type 0
ParamsBack us xs = (ys : List Param) × DerivesParams us ys × (bare_params ys ≡ bare_params xs)

abbrev ResultBack : List Spelled → Option Ann → Type 0
ResultBack us a = (b : Option Ann) × DerivesResult us b × (bare_type b ≡ bare_type a)

abbrev pub ClassBack : List Spelled → ClassDef → Type 0
ClassBack us c = (e : ClassDef) × DerivesClass us e × (bare_class e ≡ bare_class c)

abbrev pub DefBack : List Spelled → FuncDef → Type 0
DefBack us f = (g : FuncDef) × DerivesDef us g × (bare_def g ≡ bare_def f)

-- ---- classes

abbrev field_of : List ℕ → Place → Ann → FieldDef
field_of x p a = record { name = word x p; ann = a }

record FieldRead (us : List Spelled) (f : FieldDef) : Type 0 where
  pub field : FieldDef
  pub derives : DerivesField us field
  pub same : (fs gs : List FieldDef) → bare_fields gs ≡ bare_fields fs → bare_fields (field ∷ gs) ≡ bare_fields (f ∷ fs)

field_back : (us : List Spelled) (ts : List Spelled) (f : FieldDef) → DerivesField ts f → whats us ≡ field_whats f → FieldRead us f
field_back us all f (ds.field p q r x ts a k) e =
    let xs : List What = map what_of (ann_tokens a) in
    let h = first_what us (what.Name x) (what.Mark mark.Colon ∷ (xs ++ newline ∷ [])) e in
    let c = first_what h.1 (what.Mark mark.Colon) (xs ++ newline ∷ []) h.3 in
    let n = part c.1 xs newline [] c.3 in
    let t = type_back greatest_weight ts a k n.front n.fronts in
    record {
      field = field_of x h.0 t.0;
      derives =
          subst (λ (l : List Spelled). DerivesField l (field_of x h.0 t.0))
          (sym (behind h.2 (behind c.2 (further n.front (tok newline n.place) n.is (no_whats n.back n.backs)))))
          (ds.field h.0 c.0 n.place x n.front t.0 t.1);
      same = λ fs gs m. λ j. field_of x nowhere (t.2 j) ∷ m j;
    }

fields_back : {ts : List Spelled} {fs : List FieldDef} → DerivesFields ts fs → (us : List Spelled) → whats us ≡ fields_whats fs → FieldsBack us fs
fields_back (ds.one_field ts f d) us e =
    let h = field_back us ts f d (e ∙ append-nil (field_whats f)) in
    (h.field ∷ [], ds.one_field us h.field h.derives, h.same [] [] refl)
fields_back (ds.more_fields ts vs f fs d k) us e =
    let c = split_whats us (field_whats f) (fields_whats fs) e in
    let h = field_back c.0 ts f d c.3 in
    let m = fields_back k c.1 c.4 in
    (h.field ∷ m.0, subst (λ (l : List Spelled). DerivesFields l (h.field ∷ m.0)) (sym c.2) (ds.more_fields c.0 c.1 h.field m.0 h.derives m.1), h.same fs m.0 m.2)

body_is : {ts : List Spelled} {fs : List FieldDef} → DerivesFields ts fs → body_whats fs ≡ fields_whats fs
body_is (ds.one_field ts f d) = refl
body_is (ds.more_fields ts vs f fs d k) = refl

abbrev class_of : List ℕ → Place → List FieldDef → ClassDef
class_of x p fs = record { name = word x p; fields = fs }

-- `class`, a name and a colon
record ClassHead (us : List Spelled) (x : List ℕ) (ws : List What) : Type 0 where
  pub class : Place
  pub name : Place
  pub colon : Place
  pub newline : Place
  pub indent : Place
  pub dedent : Place
  pub tokens : List Spelled
  pub is : us ≡ sign mark.Class class ∷ tok (what.Name x) name ∷ sign mark.Colon colon ∷ sign mark.Newline newline ∷ sign mark.Indent indent ∷ (tokens ++ (sign mark.Dedent dedent ∷ []))
  pub are : whats tokens ≡ ws

class_head : (us : List Spelled) (x : List ℕ) (ws : List What) → whats us ≡ what.Mark mark.Class ∷ what.Name x ∷ what.Mark mark.Colon ∷ inner_whats ws → ClassHead us x ws
class_head us x ws e =
    let a = first_what us (what.Mark mark.Class) (what.Name x ∷ what.Mark mark.Colon ∷ inner_whats ws) e in
    let b = first_what a.1 (what.Name x) (what.Mark mark.Colon ∷ inner_whats ws) a.3 in
    let c = first_what b.1 (what.Mark mark.Colon) (inner_whats ws) b.3 in
    let h = inner_back c.1 ws c.3 in
    record {
      class = a.0;
      name = b.0;
      colon = c.0;
      newline = h.newline;
      indent = h.indent;
      dedent = h.dedent;
      tokens = h.tokens;
      is = behind a.2 (behind b.2 (behind c.2 h.is));
      are = h.are;
    }

-- a class's tokens, read again
pub class_back : {ts : List Spelled} {c : ClassDef} → DerivesClass ts c → (us : List Spelled) → whats us ≡ class_whats c → ClassBack us c
class_back (ds.no_fields p q r s t u v w x) us e =
    let h = class_head us x (what.Mark mark.Pass ∷ newline ∷ []) e in
    let a = first_what h.tokens (what.Mark mark.Pass) (newline ∷ []) h.are in
    let b = only a.1 newline a.3 in
    let body : h.tokens ≡ sign mark.Pass a.0 ∷ sign mark.Newline b.0 ∷ [] = behind a.2 b.1 in (
      class_of x h.name [],
      subst (λ (l : List Spelled). DerivesClass l (class_of x h.name []))
          (sym (h.is ∙ ap (λ (l : List Spelled). sign mark.Class h.class ∷ tok (what.Name x) h.name ∷ sign mark.Colon h.colon ∷ sign mark.Newline h.newline
          ∷ sign mark.Indent h.indent ∷ (l ++ (sign mark.Dedent h.dedent ∷ []))) body))
          (ds.no_fields h.class h.name h.colon h.newline h.indent a.0 b.0 h.dedent x),
      refl,
    )
class_back (ds.fields p q r s t u x vs fs k) us e =
    let h = class_head us x (body_whats fs) e in
    let m = fields_back k h.tokens (h.are ∙ body_is k) in (
      class_of x h.name m.0,
      subst (λ (l : List Spelled). DerivesClass l (class_of x h.name m.0)) (sym h.is) (ds.fields h.class h.name h.colon h.newline h.indent h.dedent x h.tokens m.0 m.1),
      λ j. record { name = word x nowhere; fields = m.2 j },
    )

-- ---- functions

abbrev param_of : List ℕ → Place → Option Ann → Param
param_of x p a = record { name = word x p; ann = a }

record ParamRead (us : List Spelled) (x : Param) : Type 0 where
  pub param : Param
  pub derives : DerivesParam us param
  pub same : (xs ys : List Param) → bare_params ys ≡ bare_params xs → bare_params (param ∷ ys) ≡ bare_params (x ∷ xs)

param_back : {ts : List Spelled} {x : Param} → DerivesParam ts x → (us : List Spelled) → whats us ≡ map what_of (param_tokens x) → ParamRead us x
param_back (ds.bare p x) us e =
    let h = only us (what.Name x) e in
    record {
      param = param_of x h.0 None;
      derives = subst (λ (l : List Spelled). DerivesParam l (param_of x h.0 None)) (sym h.1) (ds.bare h.0 x);
      same = λ xs ys m. λ j. param_of x nowhere None ∷ m j;
    }
param_back (ds.typed p q x ts a k) us e =
    let h = first_what us (what.Name x) (what.Mark mark.Colon ∷ map what_of (ann_tokens a)) e in
    let c = first_what h.1 (what.Mark mark.Colon) (map what_of (ann_tokens a)) h.3 in
    let t = type_back greatest_weight ts a k c.1 c.3 in
    record {
      param = param_of x h.0 (Some t.0);
      derives = subst (λ (l : List Spelled). DerivesParam l (param_of x h.0 (Some t.0))) (sym (behind h.2 c.2)) (ds.typed h.0 c.0 x c.1 t.0 t.1);
      same = λ xs ys m. λ j. param_of x nowhere (Some (t.2 j)) ∷ m j;
    }

last_back : {ts : List Spelled} (x : Param) → DerivesParam ts x → (us : List Spelled) → whats us ≡ map what_of (params_tokens (x ∷ [])) → ParamsBack us (x ∷ [])
last_back x d us e =
    let h = param_back d us (e ∙ ap (map what_of) (append-nil (param_tokens x))) in
    (h.param ∷ [], ds.last_param us h.param h.derives, h.same [] [] refl)

-- a comma behind the last parameter is left out
more_back : {ts : List Spelled} (x : Param) (xs : List Param) → DerivesParam ts x → ((us : List Spelled) → whats us ≡ map what_of (params_tokens xs) → ParamsBack us xs)
    → (us : List Spelled) → whats us ≡ map what_of (params_tokens (x ∷ xs)) → ParamsBack us (x ∷ xs)
more_back x [] d others us e = last_back x d us e
more_back x (y ∷ ys) d others us e =
    let c = part us (map what_of (param_tokens x)) what.Comma (map what_of (params_tokens (y ∷ ys))) (e ∙ map-append what_of (param_tokens x) (more_params_tokens (y ∷ ys))) in
    let h = param_back d c.front c.fronts in
    let m = others c.back c.backs in (
      h.param ∷ m.0,
      subst (λ (l : List Spelled). DerivesParams l (h.param ∷ m.0)) (sym c.is) (ds.more_params c.place c.front c.back h.param m.0 h.derives m.1),
      h.same (y ∷ ys) m.0 m.2,
    )

params_back : {ts : List Spelled} {xs : List Param} → DerivesParams ts xs → (us : List Spelled) → whats us ≡ map what_of (params_tokens xs) → ParamsBack us xs
params_back ds.no_params us e = ([], subst (λ (l : List Spelled). DerivesParams l []) (sym (no_whats us e)) ds.no_params, refl)
params_back (ds.last_param ts x d) us e = last_back x d us e
params_back (ds.more_params p ts vs x xs d k) us e = more_back x xs d (λ ws h. params_back k ws h) us e

result_back : {ts : List Spelled} {a : Option Ann} → DerivesResult ts a → (us : List Spelled) → whats us ≡ map what_of (result_tokens a) → ResultBack us a
result_back ds.no_result us e = (None, subst (λ (l : List Spelled). DerivesResult l None) (sym (no_whats us e)) ds.no_result, refl)
result_back (ds.result p ts a k) us e =
    let h = first_what us (what.Mark mark.Arrow) (map what_of (ann_tokens a)) e in
    let t = type_back greatest_weight ts a k h.1 h.3 in
    (Some t.0, subst (λ (l : List Spelled). DerivesResult l (Some t.0)) (sym h.2) (ds.result h.0 h.1 t.0 t.1), ap (λ (b : Ann). Some b) t.2)

abbrev func_of : List ℕ → Place → List Param → Option Ann → List Stmt → FuncDef
func_of x p xs a ss = record { name = word x p; params = xs; result = a; body = ss }

-- a function's tokens, read again
pub def_back : {ts : List Spelled} {f : FuncDef} → DerivesDef ts f → (us : List Spelled) → whats us ≡ def_whats f → DefBack us f
def_back (ds.def p q r s t x vs xs rs a bs ss k l b) us e =
    let body : List What = inner_whats (block_whats (block ss)) in
    let res : List What = map what_of (result_tokens a) in
    let par : List What = map what_of (params_tokens xs) in
    let h = first_what us (what.Mark mark.Def) (what.Name x ∷ what.Open ∷ (par ++ (what.Close ∷ (res ++ (what.Mark mark.Colon ∷ body))))) e in
    let n = first_what h.1 (what.Name x) (what.Open ∷ (par ++ (what.Close ∷ (res ++ (what.Mark mark.Colon ∷ body))))) h.3 in
    let o = first_what n.1 what.Open (par ++ (what.Close ∷ (res ++ (what.Mark mark.Colon ∷ body)))) n.3 in
    let c = part o.1 par what.Close (res ++ (what.Mark mark.Colon ∷ body)) o.3 in
    let d = part c.back res (what.Mark mark.Colon) body c.backs in
    let ys = params_back k c.front c.fronts in
    let g = result_back l d.front d.fronts in
    let m = block_back b d.back d.backs in (
      func_of x n.0 ys.0 g.0 m.0,
      subst (λ (l : List Spelled). DerivesDef l (func_of x n.0 ys.0 g.0 m.0)) (sym (behind h.2 (behind n.2 (behind o.2 (further c.front (tok what.Close c.place) c.is d.is)))))
          (ds.def h.0 n.0 o.0 c.place d.place x c.front ys.0 d.front g.0 d.back m.0 ys.1 g.1 m.1),
      λ j. record { name = word x nowhere; params = ys.2 j; result = g.2 j; body = m.2 j },
    )
