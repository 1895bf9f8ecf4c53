-- The reading of a function's head goes over exactly the tokens that the grammar has for one.
use Rattle.std.proofs.Common.{◌≡◌, ◌⊎◌, inl, inr, Bool, true, false, ℕ, List, [], ◌∷◌, ◌++◌, Option, Some, None, refl, sym, ◌∙◌, ap, subst, append_assoc}
use Rattle.std.proofs.lemmas.List.{append-nil}
use Rattle.mono_syntax.specs.declared.leaf.Place.{Place}
use Rattle.mono_syntax.specs.declared.leaf.Word.{Word}
use Rattle.mono_syntax.specs.declared.tree.Param.{Param}
use Rattle.mono_syntax.specs.Ann.{Ann}
use Rattle.spelled_tokens.specs.declared.token.Mark.TheVariants as mark
use Rattle.spelled_tokens.specs.declared.token.Spelled.{Spelled}
use Rattle.spelled_tokens.specs.declared.token.What.{What}
use Rattle.spelled_tokens.specs.declared.token.What.TheVariants as what
use Rattle.spelled_tokens.specs.SpelledTokens.{tok, sign}
use Rattle.parse_expr.specs.declared.machine.TypeMode.{TypeMode}
use Rattle.parse_expr.specs.declared.machine.TypeMode.TheVariants as type_mode
use Rattle.parse_expr.specs.declared.machine.Weighed.{Weighed}
use Rattle.parse_expr.specs.computed.Goes.{Goes, stay, go}
use Rattle.parse_expr.specs.computed.TypeReading.{type_step, type_finish}
use Rattle.parse_expr.specs.Types.{word}
use Rattle.parse_expr.proofs.Goes.{then, goes_nil, goes_cons}
use Rattle.parse_script.specs.declared.stage.DefHead.{DefHead}
use Rattle.parse_script.specs.declared.stage.DefStage.{DefStage}
use Rattle.parse_script.specs.declared.stage.DefStage.TheVariants as stage
use Rattle.parse_script.specs.computed.DefReading.{def_head, param, def_word, def_name, def_params, behind_param, def_param, param_end, def_type, def_closed, result_end, def_result, def_colon, def_line, def_step}
use Rattle.parse_script.specs.Definitions.{DerivesParam, bare, typed, DerivesParams, no_params, last_param, more_params, DerivesResult, no_result, result}
use Rattle.parse_script.specs.computed.Endings.{ending_of}
use Rattle.mono_syntax.specs.Limits.{greatest_weight}
use Rattle.parse_script.proofs.Steps.{none_some, some_is, split_option, type_finished, one}
use Rattle.parse_expr.proofs.Readings.{type_goes, type_sound}

-- ---- what the grammar has is read

-- a token that may stand behind a parameter, and the stage behind it
pub record Ends (w : Word) (t : Spelled) (next : List Param → DefStage) : Type 0 where
  pub behind : (ys : List Param) → behind_param w ys (ending_of t.what) ≡ Some (next ys)
  pub bare_behind : (xs : List Param) (x : Word) → def_param w xs x (ending_of t.what) ≡ behind_param w (xs ++ (param x None ∷ [])) (ending_of t.what)

pub comma_ends : (w : Word) (p : Place) → Ends w (tok what.Comma p) (λ ys. stage.Params w ys)
comma_ends w p = record { behind = λ ys. refl; bare_behind = λ xs x. refl }

pub close_ends : (w : Word) (p : Place) → Ends w (tok what.Close p) (λ ys. stage.Closed w ys)
close_ends w p = record { behind = λ ys. refl; bare_behind = λ xs x. refl }

pub type_go : (w : Word) (xs : List Param) (x : Word) (a : Ann) (v : ℕ) (t : Spelled) (next : List Param → DefStage) → Ends w t next → (m : TypeMode) (ts : List Spelled)
    → Goes (type_step greatest_weight) m ts (type_mode.Have [] a v) → type_step greatest_weight (type_mode.Have [] a v) t ≡ None
    → Goes def_step (stage.Type w xs x m) (ts ++ (t ∷ [])) (next (xs ++ (param x (Some a) ∷ [])))
type_go w xs x a v t next e m [] g n =
    let same : m ≡ type_mode.Have [] a v = goes_nil (type_step greatest_weight) g in
    one def_step (stage.Type w xs x m) (next (xs ++ (param x (Some a) ∷ []))) t
    (ap (λ k. def_step (stage.Type w xs x k) t) same ∙ ap (def_type w xs x (type_finish (type_mode.Have [] a v)) (ending_of t.what)) n ∙ e.behind (xs ++ (param x (Some a) ∷ [])))
type_go w xs x a v t next e m (u ∷ ts) g n =
    let c = goes_cons (type_step greatest_weight) g in
    go (stage.Type w xs x m) (stage.Type w xs x c.0) (next (xs ++ (param x (Some a) ∷ []))) u (ts ++ (t ∷ []))
    (ap (def_type w xs x (type_finish m) (ending_of u.what)) c.1) (type_go w xs x a v t next e c.0 ts c.2 n)

param_go : (w : Word) (xs : List Param) (ts : List Spelled) (y : Param) (t : Spelled) (next : List Param → DefStage) → Ends w t next
    → ((a : Ann) (v : ℕ) → type_step greatest_weight (type_mode.Have [] a v) t ≡ None) → DerivesParam ts y
    → Goes def_step (stage.Params w xs) (ts ++ (t ∷ [])) (next (xs ++ (y ∷ [])))
param_go w xs ts y t next e n (bare p x) =
    go (stage.Params w xs) (stage.Param w xs (word x p)) (next (xs ++ (param (word x p) None ∷ []))) (tok (what.Name x) p) (t ∷ []) refl
    (one def_step (stage.Param w xs (word x p)) (next (xs ++ (param (word x p) None ∷ []))) t (e.bare_behind xs (word x p) ∙ e.behind (xs ++ (param (word x p) None ∷ []))))
param_go w xs ts y t next e n (typed p q x us a h) =
    let g = type_goes greatest_weight us a h in
    go (stage.Params w xs) (stage.Param w xs (word x p)) (next (xs ++ (param (word x p) (Some a) ∷ []))) (tok (what.Name x) p) (sign mark.Colon q ∷ (us ++ (t ∷ []))) refl
    (go (stage.Param w xs (word x p)) (stage.Type w xs (word x p) (type_mode.Want [])) (next (xs ++ (param (word x p) (Some a) ∷ []))) (sign mark.Colon q) (us ++ (t ∷ [])) refl
    (type_go w xs (word x p) a g.0 t next e (type_mode.Want []) us g.1 (n a g.0)))

params_go : (w : Word) (xs : List Param) (ts : List Spelled) (ys : List Param) (s : Place) → DerivesParams ts ys
    → Goes def_step (stage.Params w xs) (ts ++ (tok what.Close s ∷ [])) (stage.Closed w (xs ++ ys))
params_go w xs ts ys s no_params =
    one def_step (stage.Params w xs) (stage.Closed w (xs ++ [])) (tok what.Close s) (λ i. Some (stage.Closed w (sym (append-nil xs) i)))
params_go w xs ts ys s (last_param us y d) = param_go w xs us y (tok what.Close s) (λ zs. stage.Closed w zs) (close_ends w s) (λ a v. refl) d
params_go w xs ts ys s (more_params p us vs y zs d e) =
    let first = param_go w xs us y (tok what.Comma p) (λ ks. stage.Params w ks) (comma_ends w p) (λ a v. refl) d in
    let rest = params_go w (xs ++ (y ∷ [])) vs zs s e in
    let whole = then def_step (stage.Params w xs) (stage.Params w (xs ++ (y ∷ []))) (stage.Closed w ((xs ++ (y ∷ [])) ++ zs)) (us ++ (tok what.Comma p ∷ [])) (vs ++ (tok what.Close s ∷ [])) first rest in
    let split : (us ++ (tok what.Comma p ∷ [])) ++ (vs ++ (tok what.Close s ∷ [])) ≡ (us ++ (tok what.Comma p ∷ vs)) ++ (tok what.Close s ∷ []) =
    append_assoc us (tok what.Comma p ∷ []) (vs ++ (tok what.Close s ∷ [])) ∙ sym (append_assoc us (tok what.Comma p ∷ vs) (tok what.Close s ∷ [])) in
    subst (λ (l : List Spelled). Goes def_step (stage.Params w xs) l (stage.Closed w (xs ++ (y ∷ zs)))) split
    (subst (λ (l : List Param). Goes def_step (stage.Params w xs) ((us ++ (tok what.Comma p ∷ [])) ++ (vs ++ (tok what.Close s ∷ []))) (stage.Closed w l)) (append_assoc xs (y ∷ []) zs) whole)

pub result_type_go : (w : Word) (xs : List Param) (a : Ann) (v : ℕ) (p : Place) (m : TypeMode) (ts : List Spelled) → Goes (type_step greatest_weight) m ts (type_mode.Have [] a v)
    → Goes def_step (stage.Result w xs m) (ts ++ (sign mark.Colon p ∷ [])) (stage.Colon (def_head w xs (Some a)))
result_type_go w xs a v p m [] g =
    let same : m ≡ type_mode.Have [] a v = goes_nil (type_step greatest_weight) g in
    one def_step (stage.Result w xs m) (stage.Colon (def_head w xs (Some a))) (sign mark.Colon p) (ap (λ k. def_step (stage.Result w xs k) (sign mark.Colon p)) same)
result_type_go w xs a v p m (u ∷ ts) g =
    let c = goes_cons (type_step greatest_weight) g in
    go (stage.Result w xs m) (stage.Result w xs c.0) (stage.Colon (def_head w xs (Some a))) u (ts ++ (sign mark.Colon p ∷ []))
    (ap (def_result w xs (type_finish m) (ending_of u.what)) c.1) (result_type_go w xs a v p c.0 ts c.2)

result_go : (w : Word) (xs : List Param) (ts : List Spelled) (a : Option Ann) (p : Place) → DerivesResult ts a
    → Goes def_step (stage.Closed w xs) (ts ++ (sign mark.Colon p ∷ [])) (stage.Colon (def_head w xs a))
result_go w xs ts a p no_result = one def_step (stage.Closed w xs) (stage.Colon (def_head w xs None)) (sign mark.Colon p) refl
result_go w xs ts a p (result q us b h) =
    let g = type_goes greatest_weight us b h in
    go (stage.Closed w xs) (stage.Result w xs (type_mode.Want [])) (stage.Colon (def_head w xs (Some b))) (sign mark.Arrow q) (us ++ (sign mark.Colon p ∷ [])) refl
    (result_type_go w xs b g.0 p (type_mode.Want []) us g.1)

pub line_go : (h : DefHead) (u v : Place) → Goes def_step (stage.Colon h) (sign mark.Newline u ∷ sign mark.Indent v ∷ []) (stage.Done h)
line_go h u v = go (stage.Colon h) (stage.Line h) (stage.Done h) (sign mark.Newline u) (sign mark.Indent v ∷ []) refl (one def_step (stage.Line h) (stage.Done h) (sign mark.Indent v) refl)

-- the tokens of a head behind its word, up to INDENT
abbrev pub head_tokens : List ℕ → Place → Place → List Spelled → Place → List Spelled → Place → Place → Place → List Spelled
head_tokens x q r us s rs t u v =
    tok (what.Name x) q ∷ tok what.Open r ∷ (us ++ (tok what.Close s ∷ (rs ++ (sign mark.Colon t ∷ sign mark.Newline u ∷ sign mark.Indent v ∷ []))))

pub def_goes : (x : List ℕ) (q r s t u v : Place) (us rs : List Spelled) (xs : List Param) (a : Option Ann) → DerivesParams us xs → DerivesResult rs a
    → Goes def_step stage.Word (head_tokens x q r us s rs t u v) (stage.Done (def_head (word x q) xs a))
def_goes x q r s t u v us rs xs a d e =
    let w = word x q in
    let h = def_head w xs a in
    let tail = rs ++ (sign mark.Colon t ∷ sign mark.Newline u ∷ sign mark.Indent v ∷ []) in
    let last = then def_step (stage.Closed w xs) (stage.Colon h) (stage.Done h) (rs ++ (sign mark.Colon t ∷ [])) (sign mark.Newline u ∷ sign mark.Indent v ∷ []) (result_go w xs rs a t e) (line_go h u v) in
    let last' = subst (λ (l : List Spelled). Goes def_step (stage.Closed w xs) l (stage.Done h)) (append_assoc rs (sign mark.Colon t ∷ []) (sign mark.Newline u ∷ sign mark.Indent v ∷ [])) last in
    let all = then def_step (stage.Params w []) (stage.Closed w xs) (stage.Done h) (us ++ (tok what.Close s ∷ [])) tail (params_go w [] us xs s d) last' in
    let all' = subst (λ (l : List Spelled). Goes def_step (stage.Params w []) l (stage.Done h)) (append_assoc us (tok what.Close s ∷ []) tail) all in
    go stage.Word (stage.Name w) (stage.Done h) (tok (what.Name x) q) (tok what.Open r ∷ (us ++ (tok what.Close s ∷ tail))) refl
    (go (stage.Name w) (stage.Params w []) (stage.Done h) (tok what.Open r) (us ++ (tok what.Close s ∷ tail)) refl all')

-- ---- one step, by the token

abbrev is_done : DefStage → Bool
is_done (stage.Done h) = true
is_done _ = false

not_done : (s : DefStage) (h : DefHead) (B : Type 0) → is_done s ≡ false → Goes def_step s [] (stage.Done h) → B
not_done s h B n g = absurd (no (sym n ∙ ap is_done (goes_nil def_step g)))
  where
    no : false ≡ true → ⊥
    no e = cc

done_ends : (h k : DefHead) (ts : List Spelled) → Goes def_step (stage.Done h) ts (stage.Done k) → (ts ≡ []) × (k ≡ h)
done_ends h k [] g = (refl, same (goes_nil def_step g))
  where
    same : stage.Done h ≡ stage.Done k → k ≡ h
    same e = cc
done_ends h k (t ∷ ts) g = let s = goes_cons def_step g in none_some _ s.1

record Stepped (s : DefStage) (t : Spelled) (ts : List Spelled) (h : DefHead) : Type 0 where
  next : DefStage
  step_is : def_step s t ≡ Some next
  run : Goes def_step next ts (stage.Done h)

stepped : (s : DefStage) (t : Spelled) (ts : List Spelled) (h : DefHead) → Goes def_step s (t ∷ ts) (stage.Done h) → Stepped s t ts h
stepped s t ts h g = let x = goes_cons def_step g in record { next = x.0; step_is = x.1; run = x.2 }

run_at : (n k : DefStage) (ts : List Spelled) (h : DefHead) → n ≡ k → Goes def_step n ts (stage.Done h) → Goes def_step k ts (stage.Done h)
run_at n k ts h e g = subst (λ (z : DefStage). Goes def_step z ts (stage.Done h)) e g

-- the token is this, and the stage behind it is that
abbrev pub Marked : What → DefStage → What → DefStage → Type 0
Marked v n w s = (w ≡ v) × (s ≡ n)

pub at_word : (p : Place) (t : What) (n : DefStage) → def_word p t ≡ Some n → (x : List ℕ) × (t ≡ what.Name x) × (n ≡ stage.Name (word x p))
at_word p (what.Name x) n e = (x, refl, sym (some_is e))
at_word p t n e = none_some _ e

pub at_name : (w : Word) (t : What) (n : DefStage) → def_name w t ≡ Some n → Marked what.Open (stage.Params w []) t n
at_name w what.Open n e = (refl, sym (some_is e))
at_name w t n e = none_some _ e

pub at_colon : (h : DefHead) (t : What) (n : DefStage) → def_colon h t ≡ Some n → Marked (what.Mark mark.Newline) (stage.Line h) t n
at_colon h (what.Mark mark.Newline) n e = (refl, sym (some_is e))
at_colon h t n e = none_some _ e

pub at_line : (h : DefHead) (t : What) (n : DefStage) → def_line h t ≡ Some n → Marked (what.Mark mark.Indent) (stage.Done h) t n
at_line h (what.Mark mark.Indent) n e = (refl, sym (some_is e))
at_line h t n e = none_some _ e

pub record Named (w : Word) (xs : List Param) (p : Place) (t : What) (n : DefStage) : Type 0 where
  pub name : List ℕ
  pub token : t ≡ what.Name name
  pub next : n ≡ stage.Param w xs (word name p)

pub at_params : (w : Word) (xs : List Param) (p : Place) (t : What) (n : DefStage) → def_params w xs p t ≡ Some n → Named w xs p t n ⊎ Marked what.Close (stage.Closed w xs) t n
at_params w xs p (what.Name x) n e = inl (record { name = x; token = refl; next = sym (some_is e) })
at_params w xs p what.Close n e = inr (refl, sym (some_is e))
at_params w xs p t n e = none_some _ e

pub at_behind : (w : Word) (xs : List Param) (t : What) (n : DefStage) → behind_param w xs (ending_of t) ≡ Some n → Marked what.Comma (stage.Params w xs) t n ⊎ Marked what.Close (stage.Closed w xs) t n
at_behind w xs what.Comma n e = inl (refl, sym (some_is e))
at_behind w xs what.Close n e = inr (refl, sym (some_is e))
at_behind w xs (what.Mark mark.Newline) n e = none_some _ e
at_behind w xs t n e = none_some _ e

pub at_param : (w : Word) (xs : List Param) (x : Word) (t : What) (n : DefStage) → def_param w xs x (ending_of t) ≡ Some n
    → Marked (what.Mark mark.Colon) (stage.Type w xs x (type_mode.Want [])) t n ⊎ (behind_param w (xs ++ (param x None ∷ [])) (ending_of t) ≡ Some n)
at_param w xs x (what.Mark mark.Colon) n e = inl (refl, sym (some_is e))
at_param w xs x t n e = inr e

pub at_param_end : (w : Word) (xs : List Param) (x : Word) (o : Option Weighed) (t : What) (n : DefStage) → param_end w xs x o (ending_of t) ≡ Some n
    → (a : Weighed) × (o ≡ Some a) × (behind_param w (xs ++ (param x (Some a.ann) ∷ [])) (ending_of t) ≡ Some n)
at_param_end w xs x (Some a) t n e = (a, refl, e)
at_param_end w xs x None t n e = none_some _ e

pub at_closed : (w : Word) (xs : List Param) (t : What) (n : DefStage) → def_closed w xs t ≡ Some n
    → Marked (what.Mark mark.Arrow) (stage.Result w xs (type_mode.Want [])) t n ⊎ Marked (what.Mark mark.Colon) (stage.Colon (def_head w xs None)) t n
at_closed w xs (what.Mark mark.Arrow) n e = inl (refl, sym (some_is e))
at_closed w xs (what.Mark mark.Colon) n e = inr (refl, sym (some_is e))
at_closed w xs t n e = none_some _ e

pub at_result_end : (w : Word) (xs : List Param) (o : Option Weighed) (t : What) (n : DefStage) → result_end w xs o (ending_of t) ≡ Some n
    → (a : Weighed) × (o ≡ Some a) × Marked (what.Mark mark.Colon) (stage.Colon (def_head w xs (Some a.ann))) t n
at_result_end w xs (Some a) (what.Mark mark.Colon) n e = (a, refl, (refl, sym (some_is e)))
at_result_end w xs (Some a) t n e = none_some _ e
at_result_end w xs None t n e = none_some _ e

-- ---- what is read, from the end on

-- parameters and `)`, and the run behind it
record ParamsRest (w : Word) (xs : List Param) (ts : List Spelled) (h : DefHead) : Type 0 where
  part : List Spelled
  params : List Param
  place : Place
  more : List Spelled
  derives : DerivesParams part params
  split : ts ≡ part ++ (tok what.Close place ∷ more)
  run : Goes def_step (stage.Closed w (xs ++ params)) more (stage.Done h)

-- a comma and parameters, or `)`
record CommaRest (w : Word) (xs : List Param) (ts : List Spelled) (h : DefHead) : Type 0 where
  place : Place
  more : List Spelled
  split : ts ≡ tok what.Comma place ∷ more
  rest : ParamsRest w xs more h

record CloseRest (w : Word) (xs : List Param) (ts : List Spelled) (h : DefHead) : Type 0 where
  place : Place
  more : List Spelled
  split : ts ≡ tok what.Close place ∷ more
  run : Goes def_step (stage.Closed w xs) more (stage.Done h)

-- the type of a parameter, or none, and what is behind
record ParamRest (w : Word) (xs : List Param) (x : Word) (ts : List Spelled) (h : DefHead) : Type 0 where
  part : List Spelled
  type : Option Ann
  more : List Spelled
  derives : DerivesParam (tok (what.Name x.text) x.place ∷ part) (param x type)
  split : ts ≡ part ++ more
  rest : CommaRest w (xs ++ (param x type ∷ [])) more h ⊎ CloseRest w (xs ++ (param x type ∷ [])) more h

-- in the type of a parameter
record TypeRest (w : Word) (xs : List Param) (x : Word) (m : TypeMode) (ts : List Spelled) (h : DefHead) : Type 0 where
  part : List Spelled
  weight : ℕ
  type : Ann
  more : List Spelled
  goes : Goes (type_step greatest_weight) m part (type_mode.Have [] type weight)
  split : ts ≡ part ++ more
  rest : CommaRest w (xs ++ (param x (Some type) ∷ [])) more h ⊎ CloseRest w (xs ++ (param x (Some type) ∷ [])) more h

-- a parameter, and what is behind it
joined : (w : Word) (xs : List Param) (x : Word) (ts : List Spelled) (h : DefHead) → ParamRest w xs x ts h → ParamsRest w xs (tok (what.Name x.text) x.place ∷ ts) h
joined w xs x ts h r =
    elim r.rest [
      | inl c ↦ (
          let s = c.rest in
          let y = param x r.type in
          record {
            part = (tok (what.Name x.text) x.place ∷ r.part) ++ (tok what.Comma c.place ∷ s.part);
            params = y ∷ s.params;
            place = s.place;
            more = s.more;
            derives = more_params c.place (tok (what.Name x.text) x.place ∷ r.part) s.part y s.params r.derives s.derives;
            split =
                ap (λ l. tok (what.Name x.text) x.place ∷ l) (r.split ∙ ap (λ l. r.part ++ l) (c.split ∙ ap (λ l. tok what.Comma c.place ∷ l) s.split) ∙ sym (append_assoc r.part (tok what.Comma c.place ∷ s.part) (tok what.Close s.place ∷ s.more)));
            run = run_at (stage.Closed w ((xs ++ (y ∷ [])) ++ s.params)) (stage.Closed w (xs ++ (y ∷ s.params))) s.more h (ap (stage.Closed w) (append_assoc xs (y ∷ []) s.params)) s.run;
          })
      | inr c ↦
          record {
            part = tok (what.Name x.text) x.place ∷ r.part;
            params = param x r.type ∷ [];
            place = c.place;
            more = c.more;
            derives = last_param (tok (what.Name x.text) x.place ∷ r.part) (param x r.type) r.derives;
            split = ap (λ l. tok (what.Name x.text) x.place ∷ l) (r.split ∙ ap (λ l. r.part ++ l) c.split);
            run = c.run;
          }
    ]

-- what is behind a parameter, where it is known what parameters come to
behind_left : (w : Word) (xs : List Param) (t : Spelled) (ts : List Spelled) (h : DefHead) (n : DefStage)
    → ((ys : List Param) → Goes def_step (stage.Params w ys) ts (stage.Done h) → ParamsRest w ys ts h)
    → behind_param w xs (ending_of t.what) ≡ Some n → Goes def_step n ts (stage.Done h) → CommaRest w xs (t ∷ ts) h ⊎ CloseRest w xs (t ∷ ts) h
behind_left w xs t ts h n left e g =
    elim (at_behind w xs t.what n e) [
      | inl a ↦ inl (record { place = t.place; more = ts; split = λ i. tok (a.0 i) t.place ∷ ts; rest = left xs (run_at n (stage.Params w xs) ts h a.1 g) })
      | inr a ↦ inr (record { place = t.place; more = ts; split = λ i. tok (a.0 i) t.place ∷ ts; run = run_at n (stage.Closed w xs) ts h a.1 g })
    ]

mutual
  params_left : (w : Word) (xs : List Param) (ts : List Spelled) (h : DefHead) → Goes def_step (stage.Params w xs) ts (stage.Done h) → ParamsRest w xs ts h
  params_left w xs [] h g = not_done (stage.Params w xs) h _ refl g
  params_left w xs (t ∷ ts) h g =
      let s = stepped (stage.Params w xs) t ts h g in
      elim (at_params w xs t.place t.what s.next s.step_is) [
        | inl n ↦
            subst (λ (u : Spelled). ParamsRest w xs (u ∷ ts) h) (λ i. tok (sym n.token i) t.place)
            (joined w xs (word n.name t.place) ts h (param_left w xs (word n.name t.place) ts h (run_at s.next (stage.Param w xs (word n.name t.place)) ts h n.next s.run)))
        | inr n ↦
            record {
              part = [];
              params = [];
              place = t.place;
              more = ts;
              derives = no_params;
              split = λ i. tok (n.0 i) t.place ∷ ts;
              run = run_at s.next (stage.Closed w (xs ++ [])) ts h (n.1 ∙ ap (stage.Closed w) (sym (append-nil xs))) s.run;
            }
      ]

  param_left : (w : Word) (xs : List Param) (x : Word) (ts : List Spelled) (h : DefHead) → Goes def_step (stage.Param w xs x) ts (stage.Done h) → ParamRest w xs x ts h
  param_left w xs x [] h g = not_done (stage.Param w xs x) h _ refl g
  param_left w xs x (t ∷ ts) h g =
      let s = stepped (stage.Param w xs x) t ts h g in
      elim (at_param w xs x t.what s.next s.step_is) [
        | inl a ↦ (
            let r = type_left w xs x (type_mode.Want []) ts h (run_at s.next (stage.Type w xs x (type_mode.Want [])) ts h a.1 s.run) in
            record {
              part = sign mark.Colon t.place ∷ r.part;
              type = Some r.type;
              more = r.more;
              derives = typed x.place t.place x.text r.part r.type (type_sound greatest_weight r.part r.type r.weight r.goes);
              split = (λ i. tok (a.0 i) t.place ∷ ts) ∙ ap (λ (l : List Spelled). sign mark.Colon t.place ∷ l) r.split;
              rest = r.rest;
            })
        | inr e ↦
            record {
              part = [];
              type = None;
              more = t ∷ ts;
              derives = bare x.place x.text;
              split = refl;
              rest = behind_left w (xs ++ (param x None ∷ [])) t ts h s.next (λ ys g'. params_left w ys ts h g') e s.run;
            }
      ]

  type_left : (w : Word) (xs : List Param) (x : Word) (m : TypeMode) (ts : List Spelled) (h : DefHead) → Goes def_step (stage.Type w xs x m) ts (stage.Done h) → TypeRest w xs x m ts h
  type_left w xs x m [] h g = not_done (stage.Type w xs x m) h _ refl g
  type_left w xs x m (t ∷ ts) h g =
      let s = stepped (stage.Type w xs x m) t ts h g in
      split_option (type_step greatest_weight m t) (TypeRest w xs x m (t ∷ ts) h)
      (λ e.
      let n = at_param_end w xs x (type_finish m) t.what s.next (sym (ap (def_type w xs x (type_finish m) (ending_of t.what)) e) ∙ s.step_is) in
      record {
        part = [];
        weight = (n.0).weight;
        type = (n.0).ann;
        more = t ∷ ts;
        goes = subst (λ (z : TypeMode). Goes (type_step greatest_weight) z [] (type_mode.Have [] (n.0).ann (n.0).weight)) (sym (type_finished m n.0 n.1)) (stay (type_mode.Have [] (n.0).ann (n.0).weight));
        split = refl;
        rest = behind_left w (xs ++ (param x (Some (n.0).ann) ∷ [])) t ts h s.next (λ ys g'. params_left w ys ts h g') n.2 s.run;
      })
      (λ k e.
      let same : stage.Type w xs x k ≡ s.next = some_is (sym (ap (def_type w xs x (type_finish m) (ending_of t.what)) e) ∙ s.step_is) in
      let r = type_left w xs x k ts h (run_at s.next (stage.Type w xs x k) ts h (sym same) s.run) in
      record {
        part = t ∷ r.part;
        weight = r.weight;
        type = r.type;
        more = r.more;
        goes = go m k (type_mode.Have [] r.type r.weight) t r.part e r.goes;
        split = ap (λ (l : List Spelled). t ∷ l) r.split;
        rest = r.rest;
      })

-- the type of the result, or none, and `:`
record ResultRest (w : Word) (xs : List Param) (ts : List Spelled) (h : DefHead) : Type 0 where
  part : List Spelled
  type : Option Ann
  place : Place
  more : List Spelled
  derives : DerivesResult part type
  split : ts ≡ part ++ (sign mark.Colon place ∷ more)
  run : Goes def_step (stage.Colon (def_head w xs type)) more (stage.Done h)

record ResultTypeRest (w : Word) (xs : List Param) (m : TypeMode) (ts : List Spelled) (h : DefHead) : Type 0 where
  part : List Spelled
  weight : ℕ
  type : Ann
  place : Place
  more : List Spelled
  goes : Goes (type_step greatest_weight) m part (type_mode.Have [] type weight)
  split : ts ≡ part ++ (sign mark.Colon place ∷ more)
  run : Goes def_step (stage.Colon (def_head w xs (Some type))) more (stage.Done h)

result_left : (w : Word) (xs : List Param) (m : TypeMode) (ts : List Spelled) (h : DefHead) → Goes def_step (stage.Result w xs m) ts (stage.Done h) → ResultTypeRest w xs m ts h
result_left w xs m [] h g = not_done (stage.Result w xs m) h _ refl g
result_left w xs m (t ∷ ts) h g =
    let s = stepped (stage.Result w xs m) t ts h g in
    split_option (type_step greatest_weight m t) (ResultTypeRest w xs m (t ∷ ts) h)
    (λ e.
    let n = at_result_end w xs (type_finish m) t.what s.next (sym (ap (def_result w xs (type_finish m) (ending_of t.what)) e) ∙ s.step_is) in
    record {
      part = [];
      weight = (n.0).weight;
      type = (n.0).ann;
      place = t.place;
      more = ts;
      goes = subst (λ (z : TypeMode). Goes (type_step greatest_weight) z [] (type_mode.Have [] (n.0).ann (n.0).weight)) (sym (type_finished m n.0 n.1)) (stay (type_mode.Have [] (n.0).ann (n.0).weight));
      split = λ i. tok ((n.2).0 i) t.place ∷ ts;
      run = run_at s.next (stage.Colon (def_head w xs (Some (n.0).ann))) ts h (n.2).1 s.run;
    })
    (λ k e.
    let same : stage.Result w xs k ≡ s.next = some_is (sym (ap (def_result w xs (type_finish m) (ending_of t.what)) e) ∙ s.step_is) in
    let r = result_left w xs k ts h (run_at s.next (stage.Result w xs k) ts h (sym same) s.run) in
    record {
      part = t ∷ r.part;
      weight = r.weight;
      type = r.type;
      place = r.place;
      more = r.more;
      goes = go m k (type_mode.Have [] r.type r.weight) t r.part e r.goes;
      split = ap (λ (l : List Spelled). t ∷ l) r.split;
      run = r.run;
    })

closed_left : (w : Word) (xs : List Param) (ts : List Spelled) (h : DefHead) → Goes def_step (stage.Closed w xs) ts (stage.Done h) → ResultRest w xs ts h
closed_left w xs [] h g = not_done (stage.Closed w xs) h _ refl g
closed_left w xs (t ∷ ts) h g =
    let s = stepped (stage.Closed w xs) t ts h g in
    elim (at_closed w xs t.what s.next s.step_is) [
      | inl a ↦ (
          let r = result_left w xs (type_mode.Want []) ts h (run_at s.next (stage.Result w xs (type_mode.Want [])) ts h a.1 s.run) in
          record {
            part = sign mark.Arrow t.place ∷ r.part;
            type = Some r.type;
            place = r.place;
            more = r.more;
            derives = result t.place r.part r.type (type_sound greatest_weight r.part r.type r.weight r.goes);
            split = (λ i. tok (a.0 i) t.place ∷ ts) ∙ ap (λ (l : List Spelled). sign mark.Arrow t.place ∷ l) r.split;
            run = r.run;
          })
      | inr a ↦
          record { part = []; type = None; place = t.place; more = ts; derives = no_result; split = λ i. tok (a.0 i) t.place ∷ ts; run = run_at s.next (stage.Colon (def_head w xs None)) ts h a.1 s.run }
    ]

record Read (v : What) (n : DefStage) (ts : List Spelled) (h : DefHead) : Type 0 where
  place : Place
  more : List Spelled
  split : ts ≡ tok v place ∷ more
  run : Goes def_step n more (stage.Done h)

read_token : (s : DefStage) (v : What) (n : DefStage) (ts : List Spelled) (h : DefHead) → is_done s ≡ false
    → ((t : Spelled) (k : DefStage) → def_step s t ≡ Some k → Marked v n t.what k) → Goes def_step s ts (stage.Done h) → Read v n ts h
read_token s v n [] h f at g = not_done s h (Read v n [] h) f g
read_token s v n (t ∷ ts) h f at g =
    let x = stepped s t ts h g in
    let y = at t x.next x.step_is in
    record { place = t.place; more = ts; split = λ i. tok (y.0 i) t.place ∷ ts; run = run_at x.next n ts h y.1 x.run }

-- the tokens of a head, and what they give
pub record HeadRead (ts : List Spelled) (h : DefHead) : Type 0 where
  pub name : List ℕ
  pub at_name_ : Place
  pub at_open : Place
  pub at_close : Place
  pub at_colon_ : Place
  pub at_newline : Place
  pub at_indent : Place
  pub params_part : List Spelled
  pub params : List Param
  pub result_part : List Spelled
  pub type : Option Ann
  pub derives_params : DerivesParams params_part params
  pub derives_result : DerivesResult result_part type
  pub split : ts ≡ head_tokens name at_name_ at_open params_part at_close result_part at_colon_ at_newline at_indent
  pub head_is_ : h ≡ def_head (word name at_name_) params type

pub def_sound : (ts : List Spelled) (h : DefHead) → Goes def_step stage.Word ts (stage.Done h) → HeadRead ts h
def_sound [] h g = not_done stage.Word h _ refl g
def_sound (t ∷ ts) h g =
    let y = stepped stage.Word t ts h g in
    let n = at_word t.place t.what y.next y.step_is in
    let w = word n.0 t.place in
    let a = read_token (stage.Name w) what.Open (stage.Params w []) ts h refl (λ u k e. at_name w u.what k e) (run_at y.next (stage.Name w) ts h n.2 y.run) in
    let b = params_left w [] a.more h a.run in
    let c = closed_left w b.params b.more h b.run in
    let head = def_head w b.params c.type in
    let d = read_token (stage.Colon head) (what.Mark mark.Newline) (stage.Line head) c.more h refl (λ u k e. at_colon head u.what k e) c.run in
    let e = read_token (stage.Line head) (what.Mark mark.Indent) (stage.Done head) d.more h refl (λ u k i. at_line head u.what k i) d.run in
    let f = done_ends head h e.more e.run in
    let end : d.more ≡ sign mark.Indent e.place ∷ [] = e.split ∙ ap (λ (l : List Spelled). sign mark.Indent e.place ∷ l) f.0 in
    let behind : c.more ≡ sign mark.Newline d.place ∷ sign mark.Indent e.place ∷ [] = d.split ∙ ap (λ (l : List Spelled). sign mark.Newline d.place ∷ l) end in
    let results : b.more ≡ c.part ++ (sign mark.Colon c.place ∷ sign mark.Newline d.place ∷ sign mark.Indent e.place ∷ []) =
    c.split ∙ ap (λ (l : List Spelled). c.part ++ (sign mark.Colon c.place ∷ l)) behind in
    let whole : ts ≡ tok what.Open a.place ∷ (b.part ++ (tok what.Close b.place ∷ (c.part ++ (sign mark.Colon c.place ∷ sign mark.Newline d.place ∷ sign mark.Indent e.place ∷ [])))) =
    a.split ∙ ap (λ (l : List Spelled). tok what.Open a.place ∷ l) (b.split ∙ ap (λ (l : List Spelled). b.part ++ (tok what.Close b.place ∷ l)) results) in
    record {
      name = n.0;
      at_name_ = t.place;
      at_open = a.place;
      at_close = b.place;
      at_colon_ = c.place;
      at_newline = d.place;
      at_indent = e.place;
      params_part = b.part;
      params = b.params;
      result_part = c.part;
      type = c.type;
      derives_params = b.derives;
      derives_result = c.derives;
      split = (λ i. tok (n.1 i) t.place ∷ ts) ∙ ap (λ (l : List Spelled). tok (what.Name n.0) t.place ∷ l) whole;
      head_is_ = f.1;
    }
