-- The loop over the tokens of a script.
use Rattle.std.proofs.Common.{◌≡◌, inl, inr, ℕ, zero, suc, ◌+◌, ◌<◌, ◌≤◌, List, [], ◌∷◌, ◌++◌, length, take, map, get_or, Option, Some, None, Result, Ok, Err, IfOk, IfErr, refl, sym, ◌∙◌, ap, subst, arith}
use Rattle.std.specs.Prelude.{MatchResult}
use Rattle.std.proofs.lemmas.Bool.{cases_lt}
use Rattle.std.proofs.lemmas.List.{take-map, map-append, length-map, length-append, take_more, get_or_push}
use Rattle.std.proofs.lemmas.Option.{slice_get-get_or}
use Rattle.mono_syntax.specs.declared.refusal.LoadFault.{LoadFault}
use Rattle.mono_syntax.specs.declared.refusal.LoadFault.TheVariants.{Refused, Memory}
use Rattle.mono_syntax.specs.declared.refusal.Reason.TheVariants.{Syntax}
use Rattle.mono_syntax.specs.declared.refusal.Refusal.{Refusal}
use Rattle.mono_syntax.specs.declared.tree.Item.{Item}
use Rattle.mono_syntax.specs.declared.tree.Script.{Script}
use Rattle.py_lexer.specs.declared.token.Token.{Token}
use Rattle.py_lexer.specs.declared.token.TokenKind.TheVariants.{End}
use Rattle.py_lexer.specs.Lexes.{Lexes}
use Rattle.spelled_tokens.specs.declared.token.Mark.TheVariants as mark
use Rattle.spelled_tokens.specs.declared.token.Spelled.{Spelled}
use Rattle.spelled_tokens.specs.declared.token.What.TheVariants as what
use Rattle.spelled_tokens.specs.Spelling.{spelling, inside}
use Rattle.spelled_tokens.specs.SpelledTokens.{spell, all_spelled, what_when}
use Rattle.spelled_tokens.proofs.LastToken.{last_is_end}
use Rattle.parse_expr.specs.computed.Goes.{Goes, stay, go}
use Rattle.parse_expr.proofs.Goes.{then}
use Rattle.parse_script.specs.declared.stage.Stage.{Stage}
use Rattle.parse_script.specs.declared.stage.Stage.TheVariants as stage
use Rattle.parse_script.specs.declared.stage.Turn.TheVariants as turn
use Rattle.parse_script.specs.computed.Reading.{script_step, stage_turn, turn_of, IsLightStage}
use Rattle.parse_script.specs.Script.{DerivesWhole, DerivesScript, Begins, IsRefusedAt, IsRefused, IsLeft}
use Rattle.parse_expr.proofs.Readings.{expr_light, type_light}
use Rattle.parse_script.specs.declared.stage.ClassStage.{ClassStage}
use Rattle.parse_script.specs.declared.stage.ClassStage.TheVariants as class_stage
use Rattle.parse_script.specs.declared.stage.DefStage.{DefStage}
use Rattle.parse_script.specs.declared.stage.DefStage.TheVariants as def_stage
use Rattle.parse_script.specs.computed.ClassReading.{IsLightClass}
use Rattle.parse_script.specs.computed.DefReading.{IsLightDef}
use Rattle.mono_syntax.specs.Limits.{greatest_weight}
use Rattle.parse_script.proofs.ClassLive.{LiveClass}
use Rattle.parse_script.proofs.DefLive.{LiveDef}
use Rattle.parse_script.proofs.Live.{Live}
use Rattle.parse_script.proofs.StepSound.{goes_live}
use Rattle.parse_script.proofs.EndOnly.{end_only}
use Rattle.parse_script.proofs.Exact.{start, whole, sound, begins_script, no_further, one_tree}

-- ---- what a turn says of the step

go_same : (n s : Stage) → turn.Go n ≡ turn.Go s → n ≡ s
go_same n s e = cc

go_done : (n : Stage) (is : List Item) (B : Type 0) → turn.Go n ≡ turn.Done is → B
go_done n is B e = absurd cc

go_stop : (n : Stage) (B : Type 0) → turn.Go n ≡ turn.Stop → B
go_stop n B e = absurd cc

done_stop : (is : List Item) (B : Type 0) → turn.Done is ≡ turn.Stop → B
done_stop is B e = absurd cc

done_same : (is js : List Item) → turn.Done is ≡ turn.Done js → is ≡ js
done_same is js e = cc

goes_to : (s n : Stage) → turn.Go n ≡ stage_turn s → s ≡ n
goes_to (stage.Ended is) n e = go_done n is _ e
goes_to s n e = sym (go_same n s e)

went : (o : Option Stage) (n : Stage) → turn.Go n ≡ turn_of o → o ≡ Some n
went None n e = go_stop n _ e
went (Some s) n e = ap Some (goes_to s n e)

ends_at : (s : Stage) (is : List Item) → turn.Done is ≡ stage_turn s → s ≡ stage.Ended is
ends_at (stage.Ended js) is e = ap stage.Ended (sym (done_same is js e))
ends_at s is e = go_done s is _ (sym e)

finished : (o : Option Stage) (is : List Item) → turn.Done is ≡ turn_of o → o ≡ Some (stage.Ended is)
finished None is e = done_stop is _ e
finished (Some s) is e = ap Some (ends_at s is e)

no_stop : (s : Stage) (B : Type 0) → turn.Stop ≡ stage_turn s → B
no_stop (stage.Ended is) B e = done_stop is B (sym e)
no_stop s B e = go_stop s B (sym e)

stopped : (o : Option Stage) → turn.Stop ≡ turn_of o → o ≡ None
stopped None e = refl
stopped (Some s) e = no_stop s _ e

-- ---- one token more

-- the tokens read so far
abbrev pub so_far : List ℕ → List Token → ℕ → List Spelled
so_far text ts at = take at (all_spelled text ts)

so_far_more : (text : List ℕ) (ts : List Token) (at : ℕ) (d : Token) → at < length ts → so_far text ts (at + 1) ≡ so_far text ts at ++ (spell text (get_or ts at d) ∷ [])
so_far_more text ts at d h =
    take-map (spell text) (at + 1) ts ∙ ap (map (spell text)) (take_more ts at d h) ∙ map-append (spell text) (take at ts) (get_or ts at d ∷ [])
    ∙ ap (λ z. z ++ (spell text (get_or ts at d) ∷ [])) (sym (take-map (spell text) at ts))

last_ends : (cs : List ℕ) (ts : List Token) (at : ℕ) (d : Token) → Lexes cs ts → at < length ts → length ts ≤ at + 1 → (get_or ts at d).what ≡ End
last_ends cs ts at d x h k =
    let e = last_is_end cs ts x in
    let n : length ts ≡ length e.0 + 1 = ap length e.2 ∙ length-append e.0 (e.1 ∷ []) in
    ap (λ t. t.what) (ap (λ zs. get_or zs at d) e.2 ∙ get_or_push e.0 e.1 d at (omega arith)) ∙ e.3

spelled_end : (text : List ℕ) (t : Token) → t.what ≡ End → (spell text t).what ≡ what.Mark mark.End
spelled_end text t e = ap (λ k. what_when k (spelling text t) (inside text t)) e

pub some_token : (cs : List ℕ) (ts : List Token) → Lexes cs ts → 0 < length ts
some_token cs ts x = let e = last_is_end cs ts x in let n : length ts ≡ length e.0 + 1 = ap length e.2 ∙ length-append e.0 (e.1 ∷ []) in omega (arith, n)

run_on : (text : List ℕ) (ts : List Token) (at : ℕ) (d : Token) (m n : Stage) → at < length ts → Goes script_step start (so_far text ts at) m → script_step m (spell text (get_or ts at d)) ≡ Some n
    → Goes script_step start (so_far text ts (at + 1)) n
run_on text ts at d m n h g e =
    subst (λ xs. Goes script_step start xs n) (sym (so_far_more text ts at d h))
    (then script_step start m n (so_far text ts at) (spell text (get_or ts at d) ∷ []) g (go m n n (spell text (get_or ts at d)) [] e (stay n)))

-- the reading goes on: another token stands behind
pub goes_on : (cs text : List ℕ) (ts : List Token) (at : ℕ) (d : Token) (m n : Stage) (t : Spelled) → Lexes cs ts → at < length ts → Goes script_step start (so_far text ts at) m
    → t ≡ spell text (get_or ts at d) → turn.Go n ≡ turn_of (script_step m t) → (at + 1 < length ts) × Goes script_step start (so_far text ts (at + 1)) n
goes_on cs text ts at d m n t x h g i e =
    let e' : turn.Go n ≡ turn_of (script_step m (spell text (get_or ts at d))) = e ∙ ap (λ u. turn_of (script_step m u)) i in (
      elim (cases_lt (at + 1) (length ts)) [
        | inl l ↦ l
        | inr l ↦
            elim (end_only m (spell text (get_or ts at d)) (spelled_end text (get_or ts at d) (last_ends cs ts at d x h l))) [
              | inl f ↦ go_stop n _ (e' ∙ ap turn_of f)
              | inr f ↦ go_done n f.0 _ (e' ∙ ap turn_of f.1)
            ]
      ],
      run_on text ts at d m n h g (went (script_step m (spell text (get_or ts at d))) n e'),
    )

-- ---- answers

refused_at : (text : List ℕ) (ts : List Token) (at : ℕ) (d : Token) (m : Stage) → at < length ts → Goes script_step start (so_far text ts at) m → script_step m (spell text (get_or ts at d)) ≡ None
    → IsRefusedAt text ts (record { place = (get_or ts at d).place; reason = Syntax })
refused_at text ts at d m h g e =
    record {
      before = at;
      token = get_or ts at d;
      stands = slice_get-get_or ts at d h;
      begins = begins_script (so_far text ts at) m g;
      stops = λ b. no_further (so_far text ts at) m (spell text (get_or ts at d)) g e (subst Begins (so_far_more text ts at d h) b);
      refusal = refl;
    }

pub refuses : (text : List ℕ) (ts : List Token) (at : ℕ) (d : Token) (m : Stage) (t : Spelled) (f : LoadFault) → at < length ts → Goes script_step start (so_far text ts at) m
    → t ≡ spell text (get_or ts at d) → turn.Stop ≡ turn_of (script_step m t) → f ≡ Refused (record { place = (get_or ts at d).place; reason = Syntax }) → IsRefused text ts f
refuses text ts at d m t f h g i e k =
    let e' : turn.Stop ≡ turn_of (script_step m (spell text (get_or ts at d))) = e ∙ ap (λ u. turn_of (script_step m u)) i in
    subst (IsRefused text ts) (sym k) (refused_at text ts at d m h g (stopped (script_step m (spell text (get_or ts at d))) e'))

take_all : (n : ℕ) (xs : List Spelled) → length xs ≤ n → take n xs ≡ xs
take_all zero [] h = refl
take_all (suc n) [] h = refl
take_all zero (x ∷ xs) h = absurd (omega (arith, h))
take_all (suc n) (x ∷ xs) h = ap (λ l. x ∷ l) (take_all n xs (omega (arith, h)))

ended_run : (text : List ℕ) (ts : List Token) (at : ℕ) (d : Token) (m : Stage) (t : Spelled) (is : List Item) → at < length ts → Goes script_step start (so_far text ts at) m
    → t ≡ spell text (get_or ts at d) → turn.Done is ≡ turn_of (script_step m t) → Goes script_step start (so_far text ts (at + 1)) (stage.Ended is)
ended_run text ts at d m t is h g i e =
    let e' : turn.Done is ≡ turn_of (script_step m (spell text (get_or ts at d))) = e ∙ ap (λ u. turn_of (script_step m u)) i in
    run_on text ts at d m (stage.Ended is) h g (finished (script_step m (spell text (get_or ts at d))) is e')

pub accepts : (text : List ℕ) (ts : List Token) (at : ℕ) (d : Token) (m : Stage) (t : Spelled) (is : List Item) (s : Script) → at < length ts → Goes script_step start (so_far text ts at) m
    → t ≡ spell text (get_or ts at d) → turn.Done is ≡ turn_of (script_step m t) → (s ≡ whole is) × (length ts ≤ at + 1) → DerivesScript text ts s
accepts text ts at d m t is s h g i e k =
    let r = ended_run text ts at d m t is h g i e in
    let all : so_far text ts (at + 1) ≡ all_spelled text ts = take_all (at + 1) (all_spelled text ts) (omega (arith, k.1, length-map ts (spell text))) in
    subst (DerivesScript text ts) (sym k.0) (subst (λ (l : List Spelled). DerivesWhole l (whole is)) all (sound (so_far text ts (at + 1)) is r))

left_over : (text : List ℕ) (ts : List Token) (n : ℕ) (is : List Item) (f : LoadFault) → Goes script_step start (so_far text ts n) (stage.Ended is) → IsLeft ts n f → IsRefused text ts f
left_over text ts n is Memory g k = tt
left_over text ts n is (Refused r) g k =
    let d = k.token in
    let h : n < length ts = k.within in
    let same : get_or ts n d ≡ d = some (sym (slice_get-get_or ts n d h) ∙ k.stands) in
    subst (λ (q : Refusal). IsRefusedAt text ts q) (ap (λ (z : Token). record { place = z.place; reason = Syntax }) same ∙ sym k.refusal) (refused_at text ts n d (stage.Ended is) h g refl)
  where
    some : {x y : Token} → Some x ≡ Some y → x ≡ y
    some e = cc

pub leaves : (text : List ℕ) (ts : List Token) (at : ℕ) (d : Token) (m : Stage) (t : Spelled) (is : List Item) (f : LoadFault) → at < length ts → Goes script_step start (so_far text ts at) m
    → t ≡ spell text (get_or ts at d) → turn.Done is ≡ turn_of (script_step m t) → IsLeft ts (at + 1) f → IsRefused text ts f
leaves text ts at d m t is f h g i e k = left_over text ts (at + 1) is f (ended_run text ts at d m t is h g i e) k

-- ---- completeness, from the two other clauses

record Behind (m : ℕ) (ts : List Spelled) : Type 0 where
  more : List Spelled
  whole_is : ts ≡ take m ts ++ more

front : (m : ℕ) (ts : List Spelled) → Behind m ts
front zero ts = record { more = ts; whole_is = refl }
front (suc m) [] = record { more = []; whole_is = refl }
front (suc m) (t ∷ ts) = let r = front m ts in record { more = r.more; whole_is = ap (λ us. t ∷ us) r.whole_is }

not_refused : (text : List ℕ) (ts : List Token) (s : Script) (r : Refusal) → DerivesScript text ts s → IsRefusedAt text ts r → ⊥
not_refused text ts s r d h =
    let b = front (h.before + 1) (all_spelled text ts) in
    h.stops (b.more, s, subst (λ (xs : List Spelled). DerivesWhole xs s) b.whole_is d)

pub complete_answer : (text : List ℕ) (ts : List Token) (r : Result Script LoadFault) → IfOk r (DerivesScript text ts) → IfErr r (IsRefused text ts) → (s : Script) → DerivesScript text ts s
    → MatchResult r (λ x. x ≡ s) (λ f. f ≡ Memory)
complete_answer text ts (Ok x) h k s d = one_tree (all_spelled text ts) x s h d
complete_answer text ts (Err (Refused q)) h k s d = absurd (not_refused text ts s q d k)
complete_answer text ts (Err Memory) h k s d = refl

-- ---- the readers inside a stage that is reached have weights that fit

class_light : (m : ClassStage) → LiveClass m → IsLightClass m
class_light (class_stage.Type w fs x m) l = type_light greatest_weight l.0 m (omega arith) l.1
class_light m l = tt

def_light : (m : DefStage) → LiveDef m → IsLightDef m
def_light (def_stage.Type w xs x m) l = type_light greatest_weight l.0 m (omega arith) l.1
def_light (def_stage.Result w xs m) l = type_light greatest_weight l.0 m (omega arith) l.1
def_light m l = tt

light : (s : Stage) → Live s → IsLightStage s
light (stage.Plain a m) l = expr_light greatest_weight l.0 m (omega arith) l.1
light (stage.Inside a u m) l = expr_light greatest_weight l.0 m (omega arith) l.1
light (stage.Argument a k es m) l = expr_light greatest_weight l.0 m (omega arith) l.1
light (stage.Typed a x m) l = type_light greatest_weight l.0 m (omega arith) l.1
light (stage.Class is m) l = class_light m l
light (stage.Def is m) l = def_light m l
light s l = tt

pub run_light : (ts : List Spelled) (s : Stage) → Goes script_step start ts s → IsLightStage s
run_light ts s g = light s (goes_live start s ts g tt)

pub run_start : (text : List ℕ) (ts : List Token) → Goes script_step start (so_far text ts 0) start
run_start text ts = stay start

pub if_ok : {A E : Type 0} {P Q : A → Type 0} (r : Result A E) → ((a : A) → P a → Q a) → IfOk r P → IfOk r Q
if_ok (Ok a) f h = f a h
if_ok (Err e) f h = tt

pub if_err : {A E : Type 0} {P Q : E → Type 0} (r : Result A E) → ((e : E) → P e → Q e) → IfErr r P → IfErr r Q
if_err (Ok a) f h = tt
if_err (Err e) f h = f e h
