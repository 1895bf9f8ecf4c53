-- The reading of a class can go on from each stage that is reached.
use Rattle.std.proofs.Common.{◌≡◌, inl, inr, List, [], ◌∷◌, ◌++◌, Some, refl, sym, ◌∙◌, ap, subst, arith}
use Rattle.mono_syntax.specs.declared.leaf.Word.{Word}
use Rattle.mono_syntax.specs.declared.tree.ClassDef.{ClassDef}
use Rattle.mono_syntax.specs.declared.tree.FieldDef.{FieldDef}
use Rattle.spelled_tokens.specs.declared.token.Mark.TheVariants as mark
use Rattle.spelled_tokens.specs.declared.token.Spelled.{Spelled}
use Rattle.spelled_tokens.specs.declared.token.What.TheVariants as what
use Rattle.spelled_tokens.specs.SpelledTokens.{tok, sign}
use Rattle.parse_expr.specs.declared.machine.TypeMode.{TypeMode}
use Rattle.parse_expr.specs.declared.machine.TypeMode.TheVariants as type_mode
use Rattle.parse_expr.specs.computed.Goes.{Goes, go}
use Rattle.parse_expr.specs.computed.TypeReading.{type_step, type_finish}
use Rattle.parse_expr.proofs.Goes.{then}
use Rattle.parse_script.specs.declared.stage.ClassStage.{ClassStage}
use Rattle.parse_script.specs.declared.stage.ClassStage.TheVariants as stage
use Rattle.parse_script.specs.computed.ClassReading.{class_def, field_def, class_type, class_step}
use Rattle.parse_script.specs.computed.Endings.{ending_of}
use Rattle.mono_syntax.specs.Limits.{greatest_weight}
use Rattle.parse_script.proofs.Steps.{here, some_is, split_option, one, ReachedType, reached_more, reached_start}
use Rattle.parse_script.proofs.ClassExact.{type_go, pass_go, at_name, at_colon, at_line, at_pass, at_pass_line, at_field, at_word, at_body, at_fields, at_field_end}
use Rattle.parse_expr.proofs.Readings.{type_alive}

abbrev pub LiveClass : ClassStage → Type 0
LiveClass (stage.Type w fs x m) = ReachedType m
LiveClass (stage.Done c) = ⊥
LiveClass _ = Unit {0}

-- a class that was read, and how it ends
pub record ClassEnd (s : ClassStage) : Type 0 where
  pub more : List Spelled
  pub tree : ClassDef
  pub goes : Goes class_step s more (stage.Done tree)

ended : (s n : ClassStage) (t : Spelled) → class_step s t ≡ Some n → ClassEnd n → ClassEnd s
ended s n t e r = record { more = t ∷ r.more; tree = r.tree; goes = go s n (stage.Done r.tree) t r.more e r.goes }

end_fields : (w : Word) (fs : List FieldDef) → ClassEnd (stage.Fields w fs)
end_fields w fs = record { more = sign mark.Dedent here ∷ []; tree = class_def w fs; goes = one class_step (stage.Fields w fs) (stage.Done (class_def w fs)) (sign mark.Dedent here) refl }

end_type : (w : Word) (fs : List FieldDef) (x : Word) (m : TypeMode) → ReachedType m → ClassEnd (stage.Type w fs x m)
end_type w fs x m r =
    let a = type_alive greatest_weight (omega arith) r.0 m r.1 in
    let rest = end_fields w (fs ++ (field_def x a.1 ∷ [])) in
    record {
      more = (a.0 ++ (sign mark.Newline here ∷ [])) ++ rest.more;
      tree = rest.tree;
      goes =
          then class_step (stage.Type w fs x m) (stage.Fields w (fs ++ (field_def x a.1 ∷ []))) (stage.Done rest.tree) (a.0 ++ (sign mark.Newline here ∷ [])) rest.more
          (type_go w fs x a.1 a.2 here m a.0 a.3) rest.goes;
    }

end_body : (w : Word) → ClassEnd (stage.Body w)
end_body w = record { more = sign mark.Pass here ∷ sign mark.Newline here ∷ sign mark.Dedent here ∷ []; tree = class_def w []; goes = pass_go w here here here }

end_line : (w : Word) → ClassEnd (stage.Line w)
end_line w = ended (stage.Line w) (stage.Body w) (sign mark.Indent here) refl (end_body w)

end_colon : (w : Word) → ClassEnd (stage.Colon w)
end_colon w = ended (stage.Colon w) (stage.Line w) (sign mark.Newline here) refl (end_line w)

end_name : (w : Word) → ClassEnd (stage.Name w)
end_name w = ended (stage.Name w) (stage.Colon w) (sign mark.Colon here) refl (end_colon w)

end_pass_line : (w : Word) → ClassEnd (stage.PassLine w)
end_pass_line w =
    record { more = sign mark.Dedent here ∷ []; tree = class_def w []; goes = one class_step (stage.PassLine w) (stage.Done (class_def w [])) (sign mark.Dedent here) refl }

pub class_alive : (s : ClassStage) → LiveClass s → ClassEnd s
class_alive stage.Word l = ended stage.Word (stage.Name (record { text = []; place = here })) (tok (what.Name []) here) refl (end_name (record { text = []; place = here }))
class_alive (stage.Name w) l = end_name w
class_alive (stage.Colon w) l = end_colon w
class_alive (stage.Line w) l = end_line w
class_alive (stage.Body w) l = end_body w
class_alive (stage.Pass w) l = ended (stage.Pass w) (stage.PassLine w) (sign mark.Newline here) refl (end_pass_line w)
class_alive (stage.PassLine w) l = end_pass_line w
class_alive (stage.Field w fs x) l =
    ended (stage.Field w fs x) (stage.Type w fs x (type_mode.Want [])) (sign mark.Colon here) refl (end_type w fs x (type_mode.Want []) reached_start)
class_alive (stage.Type w fs x m) l = end_type w fs x m l
class_alive (stage.Fields w fs) l = end_fields w fs
class_alive (stage.Done c) l = absurd l

-- a stage that is live, or the end
abbrev pub LiveOrDone : ClassStage → Type 0
LiveOrDone (stage.Done c) = Unit {0}
LiveOrDone (stage.Type w fs x m) = ReachedType m
LiveOrDone _ = Unit {0}

moved : (n k : ClassStage) → n ≡ k → LiveOrDone k → LiveOrDone n
moved n k e l = subst LiveOrDone (sym e) l

pub class_live : (s : ClassStage) (t : Spelled) (n : ClassStage) → LiveClass s → class_step s t ≡ Some n → LiveOrDone n
class_live stage.Word t n l e = let a = at_word t.place t.what n e in moved n (stage.Name (record { text = a.0; place = t.place })) a.2 tt
class_live (stage.Name w) t n l e = moved n (stage.Colon w) (at_name w t.what n e).1 tt
class_live (stage.Colon w) t n l e = moved n (stage.Line w) (at_colon w t.what n e).1 tt
class_live (stage.Line w) t n l e = moved n (stage.Body w) (at_line w t.what n e).1 tt
class_live (stage.Body w) t n l e =
    elim (at_body w t.place t.what n e) [
      | inl a ↦ moved n (stage.Field w [] (record { text = a.name; place = t.place })) a.next tt
      | inr a ↦ moved n (stage.Pass w) a.1 tt
    ]
class_live (stage.Pass w) t n l e = moved n (stage.PassLine w) (at_pass w t.what n e).1 tt
class_live (stage.PassLine w) t n l e = moved n (stage.Done (class_def w [])) (at_pass_line w t.what n e).1 tt
class_live (stage.Field w fs x) t n l e = moved n (stage.Type w fs x (type_mode.Want [])) (at_field w fs x t.what n e).1 reached_start
class_live (stage.Type w fs x m) t n l e =
    split_option (type_step greatest_weight m t) (LiveOrDone n)
    (λ i. let a = at_field_end w fs x (type_finish m) t.what n (sym (ap (class_type w fs x (type_finish m) (ending_of t.what)) i) ∙ e) in moved n (stage.Fields w (fs ++ (field_def x (a.0).ann ∷ []))) (a.2).1 tt)
    (λ k i. moved n (stage.Type w fs x k) (sym (some_is (sym (ap (class_type w fs x (type_finish m) (ending_of t.what)) i) ∙ e))) (reached_more m k t l i))
class_live (stage.Fields w fs) t n l e =
    elim (at_fields w fs t.place t.what n e) [
      | inl a ↦ moved n (stage.Field w fs (record { text = a.name; place = t.place })) a.next tt
      | inr a ↦ moved n (stage.Done (class_def w fs)) a.1 tt
    ]
class_live (stage.Done c) t n l e = absurd l
