-- The reading of a class goes over exactly the tokens that the grammar has for one, and can always go on.
use Rattle.std.proofs.Common.{◌≡◌, ◌⊎◌, inl, inr, Bool, true, false, ℕ, List, [], ◌∷◌, ◌++◌, Option, Some, None, refl, sym, ◌∙◌, ap, subst, append_assoc}
use Rattle.std.proofs.lemmas.List.{append-nil}
use Rattle.mono_syntax.specs.declared.leaf.Place.{Place}
use Rattle.mono_syntax.specs.declared.leaf.Word.{Word}
use Rattle.mono_syntax.specs.declared.tree.ClassDef.{ClassDef}
use Rattle.mono_syntax.specs.declared.tree.FieldDef.{FieldDef}
use Rattle.mono_syntax.specs.Ann.{Ann}
use Rattle.spelled_tokens.specs.declared.token.Mark.{Mark}
use Rattle.spelled_tokens.specs.declared.token.Mark.TheVariants as mark
use Rattle.spelled_tokens.specs.declared.token.Spelled.{Spelled}
use Rattle.spelled_tokens.specs.declared.token.What.{What}
use Rattle.spelled_tokens.specs.declared.token.What.TheVariants as what
use Rattle.spelled_tokens.specs.SpelledTokens.{tok, sign}
use Rattle.parse_expr.specs.declared.machine.TypeMode.{TypeMode}
use Rattle.parse_expr.specs.declared.machine.TypeMode.TheVariants as type_mode
use Rattle.parse_expr.specs.declared.machine.Weighed.{Weighed}
use Rattle.parse_expr.specs.computed.Goes.{Goes, stay, go}
use Rattle.parse_expr.specs.computed.TypeReading.{type_step, type_finish}
use Rattle.parse_expr.specs.Types.{IsType, word}
use Rattle.parse_expr.proofs.Goes.{then, goes_nil, goes_cons}
use Rattle.parse_script.specs.declared.stage.ClassStage.{ClassStage}
use Rattle.parse_script.specs.declared.stage.ClassStage.TheVariants as stage
use Rattle.parse_script.specs.computed.ClassReading.{class_def, field_def, class_word, class_name, class_colon, class_line, class_body, class_pass, class_pass_line, class_field, field_end, class_type, class_fields, class_step}
use Rattle.parse_script.specs.Definitions.{DerivesField, field, DerivesFields, one_field, more_fields, DerivesClass, no_fields, fields}
use Rattle.parse_script.specs.computed.Endings.{ending_of}
use Rattle.mono_syntax.specs.Limits.{greatest_weight}
use Rattle.parse_script.proofs.Steps.{none_some, some_is, head_is, split_option, type_finished, one}
use Rattle.parse_expr.proofs.Readings.{type_goes, type_sound}

-- ---- what the grammar has is read

pub type_go : (w : Word) (fs : List FieldDef) (x : Word) (a : Ann) (v : ℕ) (r : Place) (m : TypeMode) (ts : List Spelled) → Goes (type_step greatest_weight) m ts (type_mode.Have [] a v)
    → Goes class_step (stage.Type w fs x m) (ts ++ (sign mark.Newline r ∷ [])) (stage.Fields w (fs ++ (field_def x a ∷ [])))
type_go w fs x a v r m [] g =
    let e : m ≡ type_mode.Have [] a v = goes_nil (type_step greatest_weight) g in
    one class_step (stage.Type w fs x m) (stage.Fields w (fs ++ (field_def x a ∷ []))) (sign mark.Newline r)
    (ap (λ n. class_step (stage.Type w fs x n) (sign mark.Newline r)) e)
type_go w fs x a v r m (t ∷ ts) g =
    let c = goes_cons (type_step greatest_weight) g in
    go (stage.Type w fs x m) (stage.Type w fs x c.0) (stage.Fields w (fs ++ (field_def x a ∷ []))) t (ts ++ (sign mark.Newline r ∷ []))
    (ap (class_type w fs x (type_finish m) (ending_of t.what)) c.1) (type_go w fs x a v r c.0 ts c.2)

field_go : (w : Word) (fs : List FieldDef) (x : Word) (q r : Place) (ts : List Spelled) (a : Ann) → IsType greatest_weight ts a
    → Goes class_step (stage.Field w fs x) (sign mark.Colon q ∷ (ts ++ (sign mark.Newline r ∷ []))) (stage.Fields w (fs ++ (field_def x a ∷ [])))
field_go w fs x q r ts a h =
    let g = type_goes greatest_weight ts a h in
    go (stage.Field w fs x) (stage.Type w fs x (type_mode.Want [])) (stage.Fields w (fs ++ (field_def x a ∷ []))) (sign mark.Colon q) (ts ++ (sign mark.Newline r ∷ [])) refl
    (type_go w fs x a g.0 r (type_mode.Want []) ts g.1)

-- a field is read from a stage at which its name may stand
one_go : (w : Word) (s : ClassStage) (fs : List FieldDef) (ts : List Spelled) (f : FieldDef)
    → ((x : List ℕ) (p : Place) → class_step s (tok (what.Name x) p) ≡ Some (stage.Field w fs (word x p))) → DerivesField ts f
    → Goes class_step s ts (stage.Fields w (fs ++ (f ∷ [])))
one_go w s fs ts f e (field p q r x us a h) =
    go s (stage.Field w fs (word x p)) (stage.Fields w (fs ++ (field_def (word x p) a ∷ []))) (tok (what.Name x) p) (sign mark.Colon q ∷ (us ++ (sign mark.Newline r ∷ []))) (e x p)
    (field_go w fs (word x p) q r us a h)

fields_go : (w : Word) (s : ClassStage) (fs : List FieldDef) (q : Place) (ts : List Spelled) (gs : List FieldDef)
    → ((x : List ℕ) (p : Place) → class_step s (tok (what.Name x) p) ≡ Some (stage.Field w fs (word x p))) → DerivesFields ts gs
    → Goes class_step s (ts ++ (sign mark.Dedent q ∷ [])) (stage.Done (class_def w (fs ++ gs)))
fields_go w s fs q ts gs e (one_field us f d) =
    then class_step s (stage.Fields w (fs ++ (f ∷ []))) (stage.Done (class_def w (fs ++ (f ∷ [])))) us (sign mark.Dedent q ∷ []) (one_go w s fs us f e d)
    (one class_step (stage.Fields w (fs ++ (f ∷ []))) (stage.Done (class_def w (fs ++ (f ∷ [])))) (sign mark.Dedent q) refl)
fields_go w s fs q ts gs e (more_fields us vs f hs d ds) =
    let rest = fields_go w (stage.Fields w (fs ++ (f ∷ []))) (fs ++ (f ∷ [])) q vs hs (λ x p. refl) ds in
    let whole = then class_step s (stage.Fields w (fs ++ (f ∷ []))) (stage.Done (class_def w ((fs ++ (f ∷ [])) ++ hs))) us (vs ++ (sign mark.Dedent q ∷ [])) (one_go w s fs us f e d) rest in
    subst (λ (l : List Spelled). Goes class_step s l (stage.Done (class_def w (fs ++ (f ∷ hs))))) (sym (append_assoc us vs (sign mark.Dedent q ∷ [])))
    (subst (λ (l : List FieldDef). Goes class_step s (us ++ (vs ++ (sign mark.Dedent q ∷ []))) (stage.Done (class_def w l))) (append_assoc fs (f ∷ []) hs) whole)

-- the tokens of a class behind its word
pub record ClassRun (ts : List Spelled) (c : ClassDef) : Type 0 where
  pub place : Place
  pub more : List Spelled
  pub split : ts ≡ sign mark.Class place ∷ more
  pub goes : Goes class_step stage.Word more (stage.Done c)

to_body : (x : List ℕ) (q r s t : Place) (us : List Spelled) (c : ClassDef) → Goes class_step (stage.Body (word x q)) us (stage.Done c)
    → Goes class_step stage.Word (tok (what.Name x) q ∷ sign mark.Colon r ∷ sign mark.Newline s ∷ sign mark.Indent t ∷ us) (stage.Done c)
to_body x q r s t us c g =
    go stage.Word (stage.Name (word x q)) (stage.Done c) (tok (what.Name x) q) (sign mark.Colon r ∷ sign mark.Newline s ∷ sign mark.Indent t ∷ us) refl
    (go (stage.Name (word x q)) (stage.Colon (word x q)) (stage.Done c) (sign mark.Colon r) (sign mark.Newline s ∷ sign mark.Indent t ∷ us) refl
    (go (stage.Colon (word x q)) (stage.Line (word x q)) (stage.Done c) (sign mark.Newline s) (sign mark.Indent t ∷ us) refl
    (go (stage.Line (word x q)) (stage.Body (word x q)) (stage.Done c) (sign mark.Indent t) us refl g)))

pub pass_go : (w : Word) (u v z : Place) → Goes class_step (stage.Body w) (sign mark.Pass u ∷ sign mark.Newline v ∷ sign mark.Dedent z ∷ []) (stage.Done (class_def w []))
pass_go w u v z =
    go (stage.Body w) (stage.Pass w) (stage.Done (class_def w [])) (sign mark.Pass u) (sign mark.Newline v ∷ sign mark.Dedent z ∷ []) refl
    (go (stage.Pass w) (stage.PassLine w) (stage.Done (class_def w [])) (sign mark.Newline v) (sign mark.Dedent z ∷ []) refl
    (one class_step (stage.PassLine w) (stage.Done (class_def w [])) (sign mark.Dedent z) refl))

pub class_goes : (ts : List Spelled) (c : ClassDef) → DerivesClass ts c → ClassRun ts c
class_goes ts c (no_fields p q r s t u v z x) =
    record {
      place = p;
      more = tok (what.Name x) q ∷ sign mark.Colon r ∷ sign mark.Newline s ∷ sign mark.Indent t ∷ sign mark.Pass u ∷ sign mark.Newline v ∷ sign mark.Dedent z ∷ [];
      split = refl;
      goes = to_body x q r s t (sign mark.Pass u ∷ sign mark.Newline v ∷ sign mark.Dedent z ∷ []) (class_def (word x q) []) (pass_go (word x q) u v z);
    }
class_goes ts c (fields p q r s t u x us fs d) =
    record {
      place = p;
      more = tok (what.Name x) q ∷ sign mark.Colon r ∷ sign mark.Newline s ∷ sign mark.Indent t ∷ (us ++ (sign mark.Dedent u ∷ []));
      split = refl;
      goes = to_body x q r s t (us ++ (sign mark.Dedent u ∷ [])) (class_def (word x q) fs) (fields_go (word x q) (stage.Body (word x q)) [] u us fs (λ y k. refl) d);
    }

-- ---- what is read is in the grammar

-- any number of fields
data AnyFields : List Spelled → List FieldDef → Type 0 where
  nothing : AnyFields [] []
  more : (ts us : List Spelled) (f : FieldDef) (fs : List FieldDef) → DerivesField ts f → AnyFields us fs → AnyFields (ts ++ us) (f ∷ fs)

some_fields : (ts us : List Spelled) (f : FieldDef) (fs : List FieldDef) → DerivesField ts f → AnyFields us fs → DerivesFields (ts ++ us) (f ∷ fs)
some_fields ts us f fs d nothing = subst (λ (l : List Spelled). DerivesFields l (f ∷ [])) (sym (append-nil ts)) (one_field ts f d)
some_fields ts us f fs d (more vs ws g gs e a) = more_fields ts (vs ++ ws) f (g ∷ gs) d (some_fields vs ws g gs e a)

-- behind the fields fs: more fields, and DEDENT
record FieldsRest (w : Word) (fs : List FieldDef) (ts : List Spelled) (c : ClassDef) : Type 0 where
  part : List Spelled
  more_of : List FieldDef
  place : Place
  any : AnyFields part more_of
  split : ts ≡ part ++ (sign mark.Dedent place ∷ [])
  tree : c ≡ class_def w (fs ++ more_of)

-- in the type of a field: its end, NEWLINE, more fields, and DEDENT
record TypeRest (w : Word) (fs : List FieldDef) (x : Word) (m : TypeMode) (ts : List Spelled) (c : ClassDef) : Type 0 where
  part : List Spelled
  weight : ℕ
  type : Ann
  place : Place
  more : List Spelled
  goes : Goes (type_step greatest_weight) m part (type_mode.Have [] type weight)
  split : ts ≡ part ++ (sign mark.Newline place ∷ more)
  rest : FieldsRest w (fs ++ (field_def x type ∷ [])) more c

field_rest : (w : Word) (fs : List FieldDef) (p q : Place) (x : List ℕ) (us ts : List Spelled) (c : ClassDef) → ts ≡ sign mark.Colon q ∷ us → TypeRest w fs (word x p) (type_mode.Want []) us c
    → FieldsRest w fs (tok (what.Name x) p ∷ ts) c
field_rest w fs p q x us ts c e r =
    let s = r.rest in
    let f = field p q r.place x r.part r.type (type_sound greatest_weight r.part r.type r.weight r.goes) in
    record {
      part = (tok (what.Name x) p ∷ sign mark.Colon q ∷ (r.part ++ (sign mark.Newline r.place ∷ []))) ++ s.part;
      more_of = field_def (word x p) r.type ∷ s.more_of;
      place = s.place;
      any = more (tok (what.Name x) p ∷ sign mark.Colon q ∷ (r.part ++ (sign mark.Newline r.place ∷ []))) s.part (field_def (word x p) r.type) s.more_of f s.any;
      split =
          ap (λ l. tok (what.Name x) p ∷ l) (e ∙ ap (λ l. sign mark.Colon q ∷ l) (r.split ∙ ap (λ l. r.part ++ (sign mark.Newline r.place ∷ l)) s.split
          ∙ sym (append_assoc r.part (sign mark.Newline r.place ∷ []) (s.part ++ (sign mark.Dedent s.place ∷ []))) ∙ sym (append_assoc (r.part ++ (sign mark.Newline r.place ∷ [])) s.part (sign mark.Dedent s.place ∷ []))));
      tree = s.tree ∙ ap (class_def w) (append_assoc fs (field_def (word x p) r.type ∷ []) s.more_of);
    }

-- ---- one step, by the token

done_ends : (c d : ClassDef) (ts : List Spelled) → Goes class_step (stage.Done c) ts (stage.Done d) → (ts ≡ []) × (d ≡ c)
done_ends c d [] g = (refl, same (goes_nil class_step g))
  where
    same : stage.Done c ≡ stage.Done d → d ≡ c
    same e = cc
done_ends c d (t ∷ ts) g = let s = goes_cons class_step g in none_some _ s.1

abbrev is_done : ClassStage → Bool
is_done (stage.Done c) = true
is_done _ = false

-- a stage before the end has more tokens
not_done : (s : ClassStage) (c : ClassDef) (B : Type 0) → is_done s ≡ false → Goes class_step s [] (stage.Done c) → B
not_done s c B n g = absurd (no (sym n ∙ ap is_done (goes_nil class_step g)))
  where
    no : false ≡ true → ⊥
    no e = cc

-- a step, and the run behind it
record Stepped (s : ClassStage) (t : Spelled) (ts : List Spelled) (c : ClassDef) : Type 0 where
  next : ClassStage
  step_is : class_step s t ≡ Some next
  run : Goes class_step next ts (stage.Done c)

stepped : (s : ClassStage) (t : Spelled) (ts : List Spelled) (c : ClassDef) → Goes class_step s (t ∷ ts) (stage.Done c) → Stepped s t ts c
stepped s t ts c g = let x = goes_cons class_step g in record { next = x.0; step_is = x.1; run = x.2 }

-- the token has this mark, and the stage behind it is this one
abbrev pub Marked : Mark → ClassStage → What → ClassStage → Type 0
Marked m n w s = (w ≡ what.Mark m) × (s ≡ n)

pub at_name : (w : Word) (t : What) (n : ClassStage) → class_name w t ≡ Some n → Marked mark.Colon (stage.Colon w) t n
at_name w (what.Mark mark.Colon) n e = (refl, sym (some_is e))
at_name w t n e = none_some _ e

pub at_colon : (w : Word) (t : What) (n : ClassStage) → class_colon w t ≡ Some n → Marked mark.Newline (stage.Line w) t n
at_colon w (what.Mark mark.Newline) n e = (refl, sym (some_is e))
at_colon w t n e = none_some _ e

pub at_line : (w : Word) (t : What) (n : ClassStage) → class_line w t ≡ Some n → Marked mark.Indent (stage.Body w) t n
at_line w (what.Mark mark.Indent) n e = (refl, sym (some_is e))
at_line w t n e = none_some _ e

pub at_pass : (w : Word) (t : What) (n : ClassStage) → class_pass w t ≡ Some n → Marked mark.Newline (stage.PassLine w) t n
at_pass w (what.Mark mark.Newline) n e = (refl, sym (some_is e))
at_pass w t n e = none_some _ e

pub at_pass_line : (w : Word) (t : What) (n : ClassStage) → class_pass_line w t ≡ Some n → Marked mark.Dedent (stage.Done (class_def w [])) t n
at_pass_line w (what.Mark mark.Dedent) n e = (refl, sym (some_is e))
at_pass_line w t n e = none_some _ e

pub at_field : (w : Word) (fs : List FieldDef) (x : Word) (t : What) (n : ClassStage) → class_field w fs x t ≡ Some n → Marked mark.Colon (stage.Type w fs x (type_mode.Want [])) t n
at_field w fs x (what.Mark mark.Colon) n e = (refl, sym (some_is e))
at_field w fs x t n e = none_some _ e

pub at_word : (p : Place) (t : What) (n : ClassStage) → class_word p t ≡ Some n → (x : List ℕ) × (t ≡ what.Name x) × (n ≡ stage.Name (word x p))
at_word p (what.Name x) n e = (x, refl, sym (some_is e))
at_word p t n e = none_some _ e

-- behind the INDENT and behind a field: a field's name, or the end
pub record Named (w : Word) (fs : List FieldDef) (p : Place) (t : What) (n : ClassStage) : Type 0 where
  pub name : List ℕ
  pub token : t ≡ what.Name name
  pub next : n ≡ stage.Field w fs (word name p)

pub at_body : (w : Word) (p : Place) (t : What) (n : ClassStage) → class_body w p t ≡ Some n → Named w [] p t n ⊎ Marked mark.Pass (stage.Pass w) t n
at_body w p (what.Name x) n e = inl (record { name = x; token = refl; next = sym (some_is e) })
at_body w p (what.Mark mark.Pass) n e = inr (refl, sym (some_is e))
at_body w p t n e = none_some _ e

pub at_fields : (w : Word) (fs : List FieldDef) (p : Place) (t : What) (n : ClassStage) → class_fields w fs p t ≡ Some n
    → Named w fs p t n ⊎ Marked mark.Dedent (stage.Done (class_def w fs)) t n
at_fields w fs p (what.Name x) n e = inl (record { name = x; token = refl; next = sym (some_is e) })
at_fields w fs p (what.Mark mark.Dedent) n e = inr (refl, sym (some_is e))
at_fields w fs p t n e = none_some _ e

pub at_field_end : (w : Word) (fs : List FieldDef) (x : Word) (o : Option Weighed) (t : What) (n : ClassStage) → field_end w fs x o (ending_of t) ≡ Some n
    → (a : Weighed) × (o ≡ Some a) × Marked mark.Newline (stage.Fields w (fs ++ (field_def x a.ann ∷ []))) t n
at_field_end w fs x (Some a) (what.Mark mark.Newline) n e = (a, refl, (refl, sym (some_is e)))
at_field_end w fs x (Some a) t n e = none_some _ e
at_field_end w fs x None t n e = none_some _ e

-- ---- what is read, from the end on

mutual
  fields_left : (w : Word) (fs : List FieldDef) (ts : List Spelled) (c : ClassDef) → Goes class_step (stage.Fields w fs) ts (stage.Done c) → FieldsRest w fs ts c
  fields_left w fs [] c g = not_done (stage.Fields w fs) c _ refl g
  fields_left w fs (t ∷ ts) c g =
      let s = stepped (stage.Fields w fs) t ts c g in
      elim (at_fields w fs t.place t.what s.next s.step_is) [
        | inl n ↦ (
            let r = field_left w fs (word n.name t.place) ts c (subst (λ (z : ClassStage). Goes class_step z ts (stage.Done c)) n.next s.run) in
            subst (λ (u : Spelled). FieldsRest w fs (u ∷ ts) c) (λ i. tok (sym n.token i) t.place)
            (field_rest w fs t.place r.0 n.name r.1 ts c r.2 r.3))
        | inr n ↦ (
            let d = done_ends (class_def w fs) c ts (subst (λ (z : ClassStage). Goes class_step z ts (stage.Done c)) n.1 s.run) in
            record {
              part = [];
              more_of = [];
              place = t.place;
              any = nothing;
              split = ap (λ (l : List Spelled). t ∷ l) d.0 ∙ (λ i. tok (n.0 i) t.place ∷ []);
              tree = d.1 ∙ ap (class_def w) (sym (append-nil fs));
            })
      ]

  field_left : (w : Word) (fs : List FieldDef) (x : Word) (ts : List Spelled) (c : ClassDef) → Goes class_step (stage.Field w fs x) ts (stage.Done c)
      → (q : Place) × (us : List Spelled) × (ts ≡ sign mark.Colon q ∷ us) × TypeRest w fs x (type_mode.Want []) us c
  field_left w fs x [] c g = not_done (stage.Field w fs x) c _ refl g
  field_left w fs x (t ∷ ts) c g =
      let s = stepped (stage.Field w fs x) t ts c g in
      let n = at_field w fs x t.what s.next s.step_is in
      (t.place, ts, (λ i. tok (n.0 i) t.place ∷ ts), type_left w fs x (type_mode.Want []) ts c (subst (λ (z : ClassStage). Goes class_step z ts (stage.Done c)) n.1 s.run))

  type_left : (w : Word) (fs : List FieldDef) (x : Word) (m : TypeMode) (ts : List Spelled) (c : ClassDef) → Goes class_step (stage.Type w fs x m) ts (stage.Done c)
      → TypeRest w fs x m ts c
  type_left w fs x m [] c g = not_done (stage.Type w fs x m) c _ refl g
  type_left w fs x m (t ∷ ts) c g =
      let s = stepped (stage.Type w fs x m) t ts c g in
      split_option (type_step greatest_weight m t) (TypeRest w fs x m (t ∷ ts) c)
      (λ e.
      let n = at_field_end w fs x (type_finish m) t.what s.next (sym (ap (class_type w fs x (type_finish m) (ending_of t.what)) e) ∙ s.step_is) in
      let r = fields_left w (fs ++ (field_def x (n.0).ann ∷ [])) ts c (subst (λ (z : ClassStage). Goes class_step z ts (stage.Done c)) (n.2).1 s.run) in
      record {
        part = [];
        weight = (n.0).weight;
        type = (n.0).ann;
        place = t.place;
        more = ts;
        goes = subst (λ (z : TypeMode). Goes (type_step greatest_weight) z [] (type_mode.Have [] (n.0).ann (n.0).weight)) (sym (type_finished m n.0 n.1)) (stay (type_mode.Have [] (n.0).ann (n.0).weight));
        split = λ i. tok ((n.2).0 i) t.place ∷ ts;
        rest = r;
      })
      (λ k e.
      let same : stage.Type w fs x k ≡ s.next = some_is (sym (ap (class_type w fs x (type_finish m) (ending_of t.what)) e) ∙ s.step_is) in
      let r = type_left w fs x k ts c (subst (λ (z : ClassStage). Goes class_step z ts (stage.Done c)) (sym same) s.run) in
      record {
        part = t ∷ r.part;
        weight = r.weight;
        type = r.type;
        place = r.place;
        more = r.more;
        goes = go m k (type_mode.Have [] r.type r.weight) t r.part e r.goes;
        split = ap (λ (l : List Spelled). t ∷ l) r.split;
        rest = r.rest;
      })

-- a token of this mark comes first, and behind it the reading stands here
record Read (m : Mark) (n : ClassStage) (ts : List Spelled) (c : ClassDef) : Type 0 where
  place : Place
  more_tokens : List Spelled
  split : ts ≡ sign m place ∷ more_tokens
  run : Goes class_step n more_tokens (stage.Done c)

read_mark : (s : ClassStage) (m : Mark) (n : ClassStage) (ts : List Spelled) (c : ClassDef) → is_done s ≡ false
    → ((t : Spelled) (k : ClassStage) → class_step s t ≡ Some k → Marked m n t.what k) → Goes class_step s ts (stage.Done c) → Read m n ts c
read_mark s m n [] c f h g = not_done s c (Read m n [] c) f g
read_mark s m n (t ∷ ts) c f h g =
    let x = stepped s t ts c g in
    let y = h t x.next x.step_is in
    record { place = t.place; more_tokens = ts; split = λ i. tok (y.0 i) t.place ∷ ts; run = subst (λ (z : ClassStage). Goes class_step z ts (stage.Done c)) y.1 x.run }

-- the tokens of a class up to its body
abbrev headed : Place → List ℕ → Place → Place → Place → Place → List Spelled → List Spelled
headed p x q r s t us = sign mark.Class p ∷ tok (what.Name x) q ∷ sign mark.Colon r ∷ sign mark.Newline s ∷ sign mark.Indent t ∷ us

pass_left : (p q r s t u : Place) (x : List ℕ) (ts : List Spelled) (c : ClassDef) → Goes class_step (stage.Pass (word x q)) ts (stage.Done c)
    → DerivesClass (headed p x q r s t (sign mark.Pass u ∷ ts)) c
pass_left p q r s t u x ts c g =
    let a = read_mark (stage.Pass (word x q)) mark.Newline (stage.PassLine (word x q)) ts c refl (λ t k e. at_pass (word x q) t.what k e) g in
    let b = read_mark (stage.PassLine (word x q)) mark.Dedent (stage.Done (class_def (word x q) [])) a.more_tokens c refl (λ t k e. at_pass_line (word x q) t.what k e) a.run in
    let d = done_ends (class_def (word x q) []) c b.more_tokens b.run in
    let split : ts ≡ sign mark.Newline a.place ∷ sign mark.Dedent b.place ∷ [] = a.split ∙ ap (λ l. sign mark.Newline a.place ∷ l) (b.split ∙ ap (λ l. sign mark.Dedent b.place ∷ l) d.0) in
    subst (λ (l : List Spelled). DerivesClass (headed p x q r s t (sign mark.Pass u ∷ l)) c) (sym split)
    (subst (λ (k : ClassDef). DerivesClass (headed p x q r s t (sign mark.Pass u ∷ sign mark.Newline a.place ∷ sign mark.Dedent b.place ∷ [])) k) (sym d.1)
    (no_fields p q r s t u a.place b.place x))

abbrev is_dedent : What → Bool
is_dedent (what.Mark mark.Dedent) = true
is_dedent _ = false

dedent_no : {w : What} {v : What} (B : Type 0) → is_dedent w ≡ false → w ≡ v → is_dedent v ≡ true → B
dedent_no B f e t = absurd (no (sym f ∙ ap is_dedent e ∙ t))
  where
    no : false ≡ true → ⊥
    no e = cc

-- fields that another token than DEDENT begins are some
some_of : (p q r s t u : Place) (x : List ℕ) (k : Spelled) (ts : List Spelled) (c : ClassDef) (part : List Spelled) (fs : List FieldDef) → AnyFields part fs
    → k ∷ ts ≡ part ++ (sign mark.Dedent u ∷ []) → c ≡ class_def (word x q) fs → is_dedent k.what ≡ false → DerivesClass (headed p x q r s t (k ∷ ts)) c
some_of p q r s t u x k ts c part fs nothing e f n = dedent_no _ n (ap (λ (z : Spelled). z.what) (head_is e)) refl
some_of p q r s t u x k ts c part fs (more us vs g gs d a) e f n =
    subst (λ (l : List Spelled). DerivesClass (headed p x q r s t l) c) (sym e)
    (subst (λ (z : ClassDef). DerivesClass (headed p x q r s t ((us ++ vs) ++ (sign mark.Dedent u ∷ []))) z) (sym f)
    (fields p q r s t u x (us ++ vs) (g ∷ gs) (some_fields us vs g gs d a)))

body_left : (p q r s t : Place) (x : List ℕ) (ts : List Spelled) (c : ClassDef) → Goes class_step (stage.Body (word x q)) ts (stage.Done c)
    → DerivesClass (headed p x q r s t ts) c
body_left p q r s t x [] c g = not_done (stage.Body (word x q)) c _ refl g
body_left p q r s t x (u ∷ ts) c g =
    let y = stepped (stage.Body (word x q)) u ts c g in
    elim (at_body (word x q) u.place u.what y.next y.step_is) [
      | inl n ↦ (
          let f = field_left (word x q) [] (word n.name u.place) ts c (subst (λ (z : ClassStage). Goes class_step z ts (stage.Done c)) n.next y.run) in
          let rest = field_rest (word x q) [] u.place f.0 n.name f.1 ts c f.2 f.3 in
          subst (λ (k : Spelled). DerivesClass (headed p x q r s t (k ∷ ts)) c) (λ i. tok (sym n.token i) u.place) (some_of p q r s t rest.place x (tok (what.Name n.name) u.place) ts c rest.part rest.more_of rest.any rest.split rest.tree refl))
      | inr n ↦
          subst (λ (k : Spelled). DerivesClass (headed p x q r s t (k ∷ ts)) c) (λ i. tok (sym n.0 i) u.place)
          (pass_left p q r s t u.place x ts c (subst (λ (z : ClassStage). Goes class_step z ts (stage.Done c)) n.1 y.run))
    ]

pub class_sound : (p : Place) (ts : List Spelled) (c : ClassDef) → Goes class_step stage.Word ts (stage.Done c) → DerivesClass (sign mark.Class p ∷ ts) c
class_sound p [] c g = not_done stage.Word c _ refl g
class_sound p (u ∷ ts) c g =
    let y = stepped stage.Word u ts c g in
    let n = at_word u.place u.what y.next y.step_is in
    let w = word n.0 u.place in
    let a = read_mark (stage.Name w) mark.Colon (stage.Colon w) ts c refl (λ t k e. at_name w t.what k e) (subst (λ (z : ClassStage). Goes class_step z ts (stage.Done c)) n.2 y.run) in
    let b = read_mark (stage.Colon w) mark.Newline (stage.Line w) a.more_tokens c refl (λ t k e. at_colon w t.what k e) a.run in
    let d = read_mark (stage.Line w) mark.Indent (stage.Body w) b.more_tokens c refl (λ t k e. at_line w t.what k e) b.run in
    let body = body_left p u.place a.place b.place d.place n.0 d.more_tokens c d.run in
    let split : ts ≡ sign mark.Colon a.place ∷ sign mark.Newline b.place ∷ sign mark.Indent d.place ∷ d.more_tokens =
    a.split ∙ ap (λ l. sign mark.Colon a.place ∷ l) (b.split ∙ ap (λ l. sign mark.Newline b.place ∷ l) d.split) in
    subst (λ (k : Spelled). DerivesClass (sign mark.Class p ∷ k ∷ ts) c) (λ i. tok (sym n.1 i) u.place)
    (subst (λ (l : List Spelled). DerivesClass (sign mark.Class p ∷ tok (what.Name n.0) u.place ∷ l) c) (sym split) body)
