-- The reading of a function's head can go on from each stage that is reached.
use Rattle.std.proofs.Common.{◌≡◌, inl, inr, List, [], ◌∷◌, ◌++◌, Some, None, refl, sym, ◌∙◌, ap, subst, arith}
use Rattle.mono_syntax.specs.declared.leaf.Word.{Word}
use Rattle.mono_syntax.specs.declared.tree.Param.{Param}
use Rattle.spelled_tokens.specs.declared.token.Mark.TheVariants as mark
use Rattle.spelled_tokens.specs.declared.token.Spelled.{Spelled}
use Rattle.spelled_tokens.specs.declared.token.What.{What}
use Rattle.spelled_tokens.specs.declared.token.What.TheVariants as what
use Rattle.spelled_tokens.specs.SpelledTokens.{tok, sign}
use Rattle.parse_expr.specs.declared.machine.TypeMode.{TypeMode}
use Rattle.parse_expr.specs.declared.machine.TypeMode.TheVariants as type_mode
use Rattle.parse_expr.specs.computed.Goes.{Goes, go}
use Rattle.parse_expr.specs.computed.TypeReading.{type_step, type_finish}
use Rattle.parse_expr.proofs.Goes.{then}
use Rattle.parse_script.specs.declared.stage.DefHead.{DefHead}
use Rattle.parse_script.specs.declared.stage.DefStage.{DefStage}
use Rattle.parse_script.specs.declared.stage.DefStage.TheVariants as stage
use Rattle.parse_script.specs.computed.DefReading.{def_head, param, behind_param, def_type, def_result, def_step}
use Rattle.parse_script.specs.computed.Endings.{ending_of}
use Rattle.mono_syntax.specs.Limits.{greatest_weight}
use Rattle.parse_script.proofs.Steps.{here, some_is, split_option, one, ReachedType, reached_more, reached_start}
use Rattle.parse_script.proofs.DefExact.{type_go, result_type_go, line_go, close_ends, at_word, at_name, at_colon, at_line, at_params, at_behind, at_param, at_param_end, at_closed, at_result_end}
use Rattle.parse_expr.proofs.Readings.{type_alive}

abbrev pub LiveDef : DefStage → Type 0
LiveDef (stage.Type w xs x m) = ReachedType m
LiveDef (stage.Result w xs m) = ReachedType m
LiveDef (stage.Done h) = ⊥
LiveDef _ = Unit {0}

-- a head that was read, and how it ends
pub record DefEnd (s : DefStage) : Type 0 where
  pub more : List Spelled
  pub tree : DefHead
  pub goes : Goes def_step s more (stage.Done tree)

ended : (s n : DefStage) (t : Spelled) → def_step s t ≡ Some n → DefEnd n → DefEnd s
ended s n t e r = record { more = t ∷ r.more; tree = r.tree; goes = go s n (stage.Done r.tree) t r.more e r.goes }

ended_by : (s n : DefStage) (ts : List Spelled) → Goes def_step s ts n → DefEnd n → DefEnd s
ended_by s n ts g r = record { more = ts ++ r.more; tree = r.tree; goes = then def_step s n (stage.Done r.tree) ts r.more g r.goes }

end_colon : (h : DefHead) → DefEnd (stage.Colon h)
end_colon h = record { more = sign mark.Newline here ∷ sign mark.Indent here ∷ []; tree = h; goes = line_go h here here }

end_closed : (w : Word) (xs : List Param) → DefEnd (stage.Closed w xs)
end_closed w xs = ended (stage.Closed w xs) (stage.Colon (def_head w xs None)) (sign mark.Colon here) refl (end_colon (def_head w xs None))

end_params : (w : Word) (xs : List Param) → DefEnd (stage.Params w xs)
end_params w xs = ended (stage.Params w xs) (stage.Closed w xs) (tok what.Close here) refl (end_closed w xs)

end_name : (w : Word) → DefEnd (stage.Name w)
end_name w = ended (stage.Name w) (stage.Params w []) (tok what.Open here) refl (end_params w [])

end_type : (w : Word) (xs : List Param) (x : Word) (m : TypeMode) → ReachedType m → DefEnd (stage.Type w xs x m)
end_type w xs x m r =
    let a = type_alive greatest_weight (omega arith) r.0 m r.1 in
    ended_by (stage.Type w xs x m) (stage.Closed w (xs ++ (param x (Some a.1) ∷ []))) (a.0 ++ (tok what.Close here ∷ []))
    (type_go w xs x a.1 a.2 (tok what.Close here) (λ ys. stage.Closed w ys) (close_ends w here) m a.0 a.3 refl) (end_closed w (xs ++ (param x (Some a.1) ∷ [])))

end_result : (w : Word) (xs : List Param) (m : TypeMode) → ReachedType m → DefEnd (stage.Result w xs m)
end_result w xs m r =
    let a = type_alive greatest_weight (omega arith) r.0 m r.1 in
    ended_by (stage.Result w xs m) (stage.Colon (def_head w xs (Some a.1))) (a.0 ++ (sign mark.Colon here ∷ [])) (result_type_go w xs a.1 a.2 here m a.0 a.3) (end_colon (def_head w xs (Some a.1)))

pub def_alive : (s : DefStage) → LiveDef s → DefEnd s
def_alive stage.Word l = ended stage.Word (stage.Name (record { text = []; place = here })) (tok (what.Name []) here) refl (end_name (record { text = []; place = here }))
def_alive (stage.Name w) l = end_name w
def_alive (stage.Params w xs) l = end_params w xs
def_alive (stage.Param w xs x) l = ended (stage.Param w xs x) (stage.Closed w (xs ++ (param x None ∷ []))) (tok what.Close here) refl (end_closed w (xs ++ (param x None ∷ [])))
def_alive (stage.Type w xs x m) l = end_type w xs x m l
def_alive (stage.Closed w xs) l = end_closed w xs
def_alive (stage.Result w xs m) l = end_result w xs m l
def_alive (stage.Colon h) l = end_colon h
def_alive (stage.Line h) l = record { more = sign mark.Indent here ∷ []; tree = h; goes = one def_step (stage.Line h) (stage.Done h) (sign mark.Indent here) refl }
def_alive (stage.Done h) l = absurd l

-- a stage that is live, or the end
abbrev pub LiveOrDone : DefStage → Type 0
LiveOrDone (stage.Done h) = Unit {0}
LiveOrDone (stage.Type w xs x m) = ReachedType m
LiveOrDone (stage.Result w xs m) = ReachedType m
LiveOrDone _ = Unit {0}

moved : (n k : DefStage) → n ≡ k → LiveOrDone k → LiveOrDone n
moved n k e l = subst LiveOrDone (sym e) l

behind_live : (w : Word) (xs : List Param) (t : What) (n : DefStage) → behind_param w xs (ending_of t) ≡ Some n → LiveOrDone n
behind_live w xs t n e = elim (at_behind w xs t n e) [ inl a ↦ moved n (stage.Params w xs) a.1 tt | inr a ↦ moved n (stage.Closed w xs) a.1 tt ]

pub def_live : (s : DefStage) (t : Spelled) (n : DefStage) → LiveDef s → def_step s t ≡ Some n → LiveOrDone n
def_live stage.Word t n l e = let a = at_word t.place t.what n e in moved n (stage.Name (record { text = a.0; place = t.place })) a.2 tt
def_live (stage.Name w) t n l e = moved n (stage.Params w []) (at_name w t.what n e).1 tt
def_live (stage.Params w xs) t n l e =
    elim (at_params w xs t.place t.what n e) [
      | inl a ↦ moved n (stage.Param w xs (record { text = a.name; place = t.place })) a.next tt
      | inr a ↦ moved n (stage.Closed w xs) a.1 tt
    ]
def_live (stage.Param w xs x) t n l e =
    elim (at_param w xs x t.what n e) [ inl a ↦ moved n (stage.Type w xs x (type_mode.Want [])) a.1 reached_start | inr i ↦ behind_live w (xs ++ (param x None ∷ [])) t.what n i ]
def_live (stage.Type w xs x m) t n l e =
    split_option (type_step greatest_weight m t) (LiveOrDone n)
    (λ i. let a = at_param_end w xs x (type_finish m) t.what n (sym (ap (def_type w xs x (type_finish m) (ending_of t.what)) i) ∙ e) in behind_live w (xs ++ (param x (Some (a.0).ann) ∷ [])) t.what n a.2)
    (λ k i. moved n (stage.Type w xs x k) (sym (some_is (sym (ap (def_type w xs x (type_finish m) (ending_of t.what)) i) ∙ e))) (reached_more m k t l i))
def_live (stage.Closed w xs) t n l e =
    elim (at_closed w xs t.what n e) [ inl a ↦ moved n (stage.Result w xs (type_mode.Want [])) a.1 reached_start | inr a ↦ moved n (stage.Colon (def_head w xs None)) a.1 tt ]
def_live (stage.Result w xs m) t n l e =
    split_option (type_step greatest_weight m t) (LiveOrDone n)
    (λ i. let a = at_result_end w xs (type_finish m) t.what n (sym (ap (def_result w xs (type_finish m) (ending_of t.what)) i) ∙ e) in moved n (stage.Colon (def_head w xs (Some (a.0).ann))) (a.2).1 tt)
    (λ k i. moved n (stage.Result w xs k) (sym (some_is (sym (ap (def_result w xs (type_finish m) (ending_of t.what)) i) ∙ e))) (reached_more m k t l i))
def_live (stage.Colon h) t n l e = moved n (stage.Line h) (at_colon h t.what n e).1 tt
def_live (stage.Line h) t n l e = moved n (stage.Done h) (at_line h t.what n e).1 tt
def_live (stage.Done h) t n l e = absurd l
