-- Scanning the pieces of a text gives its tokens, or its first fault.
use Rattle.std.proofs.Common.{ℕ, ◌<◌, ◌≤◌, ◌≡◌, ◌⊎◌, inl, inr, Bool, true, false, ◌==◌, List, [], ◌∷◌, ◌++◌, length, get_or, Option, Some, None, Result, Ok, Err, if◌then◌else◌, arith, refl, sym, ap, ◌∙◌, subst}
use Rattle.std.specs.List.{All, Contains}
use Rattle.std.proofs.lemmas.List.Elements.{All-cons, All-append, All-weaker, All-contains, Contains-append_left, Contains-append_right}
use Rattle.std.proofs.lemmas.Bool.{eqb-true, or_cases}
use Rattle.mono_list.proofs.Cases.{some_is, none_some, split_option}
use Rattle.mono_syntax.specs.declared.Refusal.{Refusal}
use Rattle.mono_syntax.specs.declared.Reason.{Reason}
use Rattle.mono_syntax.specs.declared.Reason.TheVariants.{BadChar, Tab, BadDedent, OpenBracket}
use Rattle.py_lexer.specs.declared.spot.Spot.{Spot}
use Rattle.py_lexer.specs.declared.piece.Kind.{Kind}
use Rattle.py_lexer.specs.declared.piece.Kind.TheVariants as kind
use Rattle.py_lexer.specs.declared.state.State.{State}
use Rattle.py_lexer.specs.declared.token.Token.{Token}
use Rattle.py_lexer.specs.Characters.{behind, is_control, is_quote, start_of, unmarked}
use Rattle.py_lexer.specs.Pieces.{Piece, piece, spelled, IsPiece, ArePieces}
use Rattle.py_lexer.specs.Layout.{brackets, Event, spells, ending, beginning, events, levels_at, is_misfit, indent, tokens_of}
use Rattle.py_lexer.specs.Faults.{Fault, fault, fault_if, number_of_reason, own_faults, is_word, piece_faults, begin_faults, line_faults, open_behind, bracket_faults, faults_of, Precedes}
use Rattle.py_lexer.specs.computed.Scanning.{refusal, refuse_if, or_else, own_refusal, tab_refusal, is_stray, spelling_refusal, step_refusal, step_tokens, next_state, with_front, refused_or, end_refusal, last_tokens, scan, start_state}
use Rattle.mono_syntax.specs.declared.LoadFault.{LoadFault}
use Rattle.mono_syntax.specs.declared.LoadFault.TheVariants.{Refused, Memory}
use Rattle.py_lexer.specs.computed.Scans.{Scans, RefusedScan}
use Rattle.py_lexer.specs.Lexes.{Lexes, FirstLexFault, RefusesText}
use Rattle.py_lexer.proofs.Faultless.{faults_from, tokens_from, events_from, behind-append, if_false, begin_none, IsRead, step_read, end_faultless, end_laid}
use Rattle.py_lexer.proofs.Stops.{Strictly, Late, late_strictly, if_late, all_on, more_on, own_late, pieces_late, lines_late, brackets_late, IsBefore, tab_before, one_fault}
use Rattle.py_lexer.proofs.Firsts.{shown, Within, within_own, own_least, StringFirst, is_spelling, dedent_strictly, or_some, if_strictly, itself, here}
use Rattle.py_lexer.proofs.Unique.{some_spelling, cuts_once}

stray_is : (k : Kind) → is_stray k ≡ true → k ≡ kind.Stray
stray_is kind.Blank e = absurd cc
stray_is kind.Comment e = absurd cc
stray_is kind.LineEnd e = absurd cc
stray_is kind.Word e = absurd cc
stray_is kind.Number e = absurd cc
stray_is kind.Text e = absurd cc
stray_is kind.Unclosed e = absurd cc
stray_is kind.Sign e = absurd cc
stray_is kind.Stray e = refl

if_true : (b : Bool) (why : Reason) (s : Spot) (r : Refusal) → refuse_if b why s ≡ Some r → (b ≡ true) × (r ≡ refusal why s)
if_true true why s r e = (refl, sym (some_is e))
if_true false why s r e = none_some ((false ≡ true) × (r ≡ refusal why s)) e

-- a logical line that may not begin
stray_within : (ls : List ℕ) (joined : Bool) (s : Spot) (w u : List ℕ) (r : Refusal) → r ≡ refusal BadChar s → 0 < length w → Within (own_faults kind.Stray joined s w u) (begin_faults ls None s) r (behind s w).offset
stray_within ls joined s w u r e h =
    record {
      at_fault = fault BadChar s;
      is_shown = e;
      stands = inl (here (fault BadChar s) []);
      own_least = one_fault (Strictly (fault BadChar s)) (fault BadChar s) (itself (fault BadChar s));
      line_least = if_strictly (fault BadChar s) (is_misfit ls (indent s)) BadDedent s (inl (inr (refl, omega arith)));
      before = more_on s w h;
    }

dedent_within : (ls : List ℕ) (k : Kind) (joined : Bool) (s : Spot) (w u : List ℕ) (r : Refusal) → is_misfit ls (indent s) ≡ true → r ≡ refusal BadDedent s → is_spelling k ≡ true → is_stray k ≡ false → StringFirst k w → 0 < length w
    → Within (own_faults k joined s w u) (begin_faults ls None s) r (behind s w).offset
dedent_within ls k joined s w u r m e p t n h =
    let P : Bool → Type 0 = λ b. Contains (fault_if b BadDedent s) (fault BadDedent s) in
    record {
      at_fault = fault BadDedent s;
      is_shown = e;
      stands = inr (subst P (sym m) (here (fault BadDedent s) []));
      own_least = dedent_strictly k joined s w u p t n h;
      line_least = if_strictly (fault BadDedent s) (is_misfit ls (indent s)) BadDedent s (itself (fault BadDedent s));
      before = more_on s w h;
    }

begin_within : (tab : Option Spot) (ls : List ℕ) (k : Kind) (joined : Bool) (s : Spot) (w u : List ℕ) (r : Refusal) → is_spelling k ≡ true → StringFirst k w → 0 < length w → IsBefore tab s
    → or_else (tab_refusal tab) (or_else (refuse_if (is_stray k) BadChar s) (refuse_if (is_misfit ls (indent s)) BadDedent s)) ≡ Some r → Within (own_faults k joined s w u) (begin_faults ls tab s) r (behind s w).offset
begin_within (Some t) ls k joined s w u r p n h b e =
    record {
      at_fault = fault Tab t;
      is_shown = sym (some_is e);
      stands = inr (here (fault Tab t) (fault_if (is_misfit ls (indent s)) BadDedent s));
      own_least = late_strictly (fault Tab t) s.offset (own_faults k joined s w u) b (own_late s.offset k joined s w u (omega arith));
      line_least =
          All-cons (Strictly (fault Tab t)) (fault Tab t) (fault_if (is_misfit ls (indent s)) BadDedent s) (itself (fault Tab t))
          (late_strictly (fault Tab t) s.offset (fault_if (is_misfit ls (indent s)) BadDedent s) b (if_late s.offset (is_misfit ls (indent s)) BadDedent s (omega arith)));
      before = omega (arith, more_on s w h);
    }
begin_within None ls k joined s w u r p n h b e =
    elim (or_some (refuse_if (is_stray k) BadChar s) (refuse_if (is_misfit ls (indent s)) BadDedent s) r e) as (λ _. Within (own_faults k joined s w u) (begin_faults ls None s) r (behind s w).offset) [
      | inl q ↦
          let t = if_true (is_stray k) BadChar s r q in
          let P : Kind → Type 0 = λ j. Within (own_faults j joined s w u) (begin_faults ls None s) r (behind s w).offset in
          subst P (sym (stray_is k t.0)) (stray_within ls joined s w u r t.1 h)
      | inr q ↦
          let t = if_true (is_misfit ls (indent s)) BadDedent s r q.1 in
          dedent_within ls k joined s w u r t.0 t.1 p (if_false (is_stray k) BadChar s q.0) n h
    ]

spelled_within : (inside : Bool) (tab : Option Spot) (ls : List ℕ) (k : Kind) (joined : Bool) (s : Spot) (w u : List ℕ) (r : Refusal) → is_spelling k ≡ true → StringFirst k w → 0 < length w → IsBefore tab s
    → or_else (if inside then None else or_else (tab_refusal tab) (or_else (refuse_if (is_stray k) BadChar s) (refuse_if (is_misfit ls (indent s)) BadDedent s))) (own_refusal k joined s w u) ≡ Some r
    → Within (own_faults k joined s w u) (if inside then [] else begin_faults ls tab s) r (behind s w).offset
spelled_within true tab ls k joined s w u r p n h b e = within_own (own_faults k joined s w u) [] r s.offset (behind s w).offset (own_least k joined s w u r n h e) refl
spelled_within false tab ls k joined s w u r p n h b e =
    elim (or_some (or_else (tab_refusal tab) (or_else (refuse_if (is_stray k) BadChar s) (refuse_if (is_misfit ls (indent s)) BadDedent s))) (own_refusal k joined s w u) r e)
    as (λ _. Within (own_faults k joined s w u) (begin_faults ls tab s) r (behind s w).offset) [
      | inl q ↦ begin_within tab ls k joined s w u r p n h b q
      | inr q ↦ within_own (own_faults k joined s w u) (begin_faults ls tab s) r s.offset (behind s w).offset (own_least k joined s w u r n h q.1) (begin_none ls tab s k q.0)
    ]

-- the strictly first of all faults
pub record AtFault (fs : List Fault) (r : Refusal) : Type 0 where
  pub at_fault : Fault
  pub is_shown : r ≡ shown at_fault
  pub stands : Contains fs at_fault
  pub least : All (Strictly at_fault) fs

joined_stop : (own more line lines ends_ : List Fault) (r : Refusal) (high : ℕ) → Within own line r high → Late high more → Late high lines → Late high ends_ → AtFault ((own ++ more) ++ (line ++ lines) ++ ends_) r
joined_stop own more line lines ends_ r high x a b c =
    let f = x.at_fault in
    let P : Fault → Type 0 = Strictly f in
    record {
      at_fault = f;
      is_shown = x.is_shown;
      stands = elim x.stands as (λ _. Contains ((own ++ more) ++ (line ++ lines) ++ ends_) f) [
        | inl h ↦ Contains-append_left ((own ++ more) ++ (line ++ lines)) ends_ f (Contains-append_left (own ++ more) (line ++ lines) f (Contains-append_left own more f h))
        | inr h ↦ Contains-append_left ((own ++ more) ++ (line ++ lines)) ends_ f (Contains-append_right (own ++ more) (line ++ lines) f (Contains-append_left line lines f h))
      ];
      least =
          All-append P ((own ++ more) ++ (line ++ lines)) ends_
          (All-append P (own ++ more) (line ++ lines)
          (All-append P own more x.own_least (late_strictly f high more x.before a))
          (All-append P line lines x.line_least (late_strictly f high lines x.before b)))
          (late_strictly f high ends_ x.before c);
    }

line_split : (inside : Bool) (ls : List ℕ) (tab : Option Spot) (k : Kind) (w : List ℕ) (s : Spot) (es : List Event)
    → line_faults ls (beginning inside tab s ++ (spells k w s ∷ es)) ≡ (if inside then [] else begin_faults ls tab s) ++ line_faults (if inside then ls else levels_at ls (indent s)) es
line_split true ls tab k w s es = refl
line_split false ls tab k w s es = refl

end_on : (s : Spot) (w : List ℕ) (ps : List Piece) → (behind s w).offset ≤ (behind s (w ++ spelled ps)).offset
end_on s w ps = omega (arith, all_on (behind s w) (spelled ps), ap (λ z. z.offset) (behind-append s w (spelled ps)))

spell_stop : (st : State) (s : Spot) (k : Kind) (w : List ℕ) (ps : List Piece) (r : Refusal) → is_spelling k ≡ true → StringFirst k w → 0 < length w → IsBefore st.tab s
    → events_from st s (piece k w ∷ ps) ≡ beginning st.inside st.tab s ++ (spells k w s ∷ events (brackets st.opens (piece k w) s) true None (behind s w) ps)
    → spelling_refusal st s k w (spelled ps) ≡ Some r → AtFault (faults_from st s (piece k w ∷ ps)) r
spell_stop st s k w ps r p n h b v e =
    let opens = brackets st.opens (piece k w) s in
    let es = events opens true None (behind s w) ps in
    let own = own_faults k st.joined s w (spelled ps) in
    let more = piece_faults (is_word k) (behind s w) ps in
    let line : List Fault = if st.inside then [] else begin_faults st.levels st.tab s in
    let ls : List ℕ = if st.inside then st.levels else levels_at st.levels (indent s) in
    let last = bracket_faults (behind s (w ++ spelled ps)) (open_behind opens (behind s w) ps) in
    let high = (behind s w).offset in
    let x = spelled_within st.inside st.tab st.levels k st.joined s w (spelled ps) r p n h b e in
    let all = joined_stop own more line (line_faults ls es) last r high x (pieces_late high (is_word k) (behind s w) ps (omega arith)) (lines_late high ps ls opens true None (behind s w) tt (omega arith))
    (brackets_late high (behind s (w ++ spelled ps)) (open_behind opens (behind s w) ps) (end_on s w ps)) in
    let lines = ap (line_faults st.levels) v ∙ line_split st.inside st.levels st.tab k w s es in
    let P : List Fault → Type 0 = λ l. AtFault ((own ++ more) ++ l ++ last) r in
    subst P (sym lines) all

comment_stop : (st : State) (s : Spot) (w : List ℕ) (ps : List Piece) (r : Refusal) → 0 < length w → own_refusal kind.Comment st.joined s w (spelled ps) ≡ Some r → AtFault (faults_from st s (piece kind.Comment w ∷ ps)) r
comment_stop st s w ps r h e =
    let high = (behind s w).offset in
    let x = within_own (own_faults kind.Comment st.joined s w (spelled ps)) [] r s.offset high (own_least kind.Comment st.joined s w (spelled ps) r tt h e) refl in
    joined_stop (own_faults kind.Comment st.joined s w (spelled ps)) (piece_faults false (behind s w) ps) [] (line_faults st.levels (events st.opens st.inside None (behind s w) ps))
    (bracket_faults (behind s (w ++ spelled ps)) (open_behind st.opens (behind s w) ps)) r high x (pieces_late high false (behind s w) ps (omega arith)) (lines_late high ps st.levels st.opens st.inside None (behind s w) tt (omega arith))
    (brackets_late high (behind s (w ++ spelled ps)) (open_behind st.opens (behind s w) ps) (end_on s w ps))

pub step_stop : (k : Kind) (st : State) (s : Spot) (w : List ℕ) (ps : List Piece) (r : Refusal) → StringFirst k w → 0 < length w → IsBefore st.tab s → step_refusal st s k w (spelled ps) ≡ Some r → AtFault (faults_from st s (piece k w ∷ ps)) r
step_stop kind.Blank st s w ps r n h b e = none_some (AtFault (faults_from st s (piece kind.Blank w ∷ ps)) r) e
step_stop kind.Comment st s w ps r n h b e = comment_stop st s w ps r h e
step_stop kind.LineEnd st s w ps r n h b e = none_some (AtFault (faults_from st s (piece kind.LineEnd w ∷ ps)) r) e
step_stop kind.Word st s w ps r n h b e = spell_stop st s kind.Word w ps r refl n h b refl e
step_stop kind.Number st s w ps r n h b e = spell_stop st s kind.Number w ps r refl n h b refl e
step_stop kind.Text st s w ps r n h b e = spell_stop st s kind.Text w ps r refl n h b refl e
step_stop kind.Unclosed st s w ps r n h b e = spell_stop st s kind.Unclosed w ps r refl n h b refl e
step_stop kind.Sign st s w ps r n h b e = spell_stop st s kind.Sign w ps r refl n h b refl e
step_stop kind.Stray st s w ps r n h b e = spell_stop st s kind.Stray w ps r refl n h b refl e

quote_control : (q : ℕ) → is_quote q ≡ true → is_control q ≡ false
quote_control q t = elim (or_cases (q == 34) (q == 39) t) as (λ _. is_control q ≡ false) [ inl h ↦ ap is_control (eqb-true q 34 h) | inr h ↦ ap is_control (eqb-true q 39 h) ]

string_first : (k : Kind) (w u : List ℕ) → IsPiece (piece k w) u → StringFirst k w
string_first kind.Blank w u i = tt
string_first kind.Comment w u i = tt
string_first kind.LineEnd w u i = tt
string_first kind.Word w u i = tt
string_first kind.Number w u i = tt
string_first kind.Text w u i = ap (λ l. is_control (get_or l 0 0)) i.0.0.4 ∙ quote_control i.0.0.0 i.0.0.2
string_first kind.Unclosed w u i = quote_control (get_or w 0 0) i.0.0
string_first kind.Sign w u i = tt
string_first kind.Stray w u i = tt

-- what scanning gives is right
abbrev pub Outcome : State → Spot → List Piece → Result (List Token) Refusal → Type 0
Outcome st s ps (Ok ts) = (faults_from st s ps ≡ []) × (ts ≡ tokens_from st s ps)
Outcome st s ps (Err r) = AtFault (faults_from st s ps) r

bracket_stop : (inside : Bool) (ls : List ℕ) (s b : Spot) (opens : List Spot) → AtFault (line_faults ls (ending inside s) ++ bracket_faults s (b ∷ opens)) (refusal OpenBracket b)
bracket_stop true ls s b opens =
    let f : Fault = record { met = s.offset; place = b.place; reason = OpenBracket } in
    record { at_fault = f; is_shown = refl; stands = here f []; least = one_fault (Strictly f) f (itself f) }
bracket_stop false ls s b opens =
    let f : Fault = record { met = s.offset; place = b.place; reason = OpenBracket } in
    record { at_fault = f; is_shown = refl; stands = here f []; least = one_fault (Strictly f) f (itself f) }

end_is : (st : State) (s : Spot) (opens : List Spot) → st.opens ≡ opens → Outcome st s [] (refused_or (end_refusal opens) (Ok (last_tokens st s)))
end_is st s [] e = (end_faultless st s e, sym (end_laid st.inside st.levels s))
end_is st s (b ∷ opens) e =
    let P : List Spot → Type 0 = λ l. AtFault (line_faults st.levels (ending st.inside s) ++ bracket_faults s l) (refusal OpenBracket b) in
    subst P (sym e) (bracket_stop st.inside st.levels s b opens)

tab_next : (k : Kind) (st : State) (s : Spot) (w : List ℕ) → IsBefore (next_state st s k w).tab (behind s w)
tab_next kind.Blank st s w = tab_before s w
tab_next kind.Comment st s w = tt
tab_next kind.LineEnd st s w = tt
tab_next kind.Word st s w = tt
tab_next kind.Number st s w = tt
tab_next kind.Text st s w = tt
tab_next kind.Unclosed st s w = tt
tab_next kind.Sign st s w = tt
tab_next kind.Stray st s w = tt

outcome_front : (st : State) (s : Spot) (k : Kind) (w : List ℕ) (ps : List Piece) (r : Result (List Token) Refusal) → IsRead st s k w ps → Outcome (next_state st s k w) (behind s w) ps r
    → Outcome st s (piece k w ∷ ps) (with_front (step_tokens st s k w) r)
outcome_front st s k w ps (Ok ts) i o = (i.faults ∙ o.0, ap (λ l. step_tokens st s k w ++ l) o.1 ∙ sym i.tokens)
outcome_front st s k w ps (Err e) i o = let P : List Fault → Type 0 = λ l. AtFault l e in subst P (sym i.faults) o

pub scan_is : (ps : List Piece) (st : State) (s : Spot) → ArePieces ps → IsBefore st.tab s → Outcome st s ps (scan st s ps)
scan_is [] st s a b = end_is st s st.opens refl
scan_is (piece k w ∷ ps) st s a b =
    split_option (step_refusal st s k w (spelled ps))
    (λ o. step_refusal st s k w (spelled ps) ≡ o → Outcome st s (piece k w ∷ ps) (refused_or o (with_front (step_tokens st s k w) (scan (next_state st s k w) (behind s w) ps))))
    (λ _ e. outcome_front st s k w ps (scan (next_state st s k w) (behind s w) ps) (step_read k st s w ps e) (scan_is ps (next_state st s k w) (behind s w) a.1 (tab_next k st s w)))
    (λ r _ e. step_stop k st s w ps r (string_first k w (spelled ps) a.0) (some_spelling k w (spelled ps) a.0) b e)
    refl

-- of a whole text
outcome_of : (cs : List ℕ) (r : Result (List Token) Refusal) → (x : Scans cs r) → Outcome start_state (start_of cs) x.pieces r
outcome_of cs r x =
    let P : Result (List Token) Refusal → Type 0 = Outcome start_state (start_of cs) x.pieces in
    subst P x.gives (scan_is x.pieces start_state (start_of cs) x.cut.are_pieces tt)

pub scans_lexes : (cs : List ℕ) (ts : List Token) → Scans cs (Ok ts) → Lexes cs ts
scans_lexes cs ts x = let o = outcome_of cs (Ok ts) x in record { pieces = x.pieces; cut = x.cut; faultless = o.0; tokens_are = o.1 }

precedes : (f g : Fault) → Strictly f g → Precedes f g
precedes f g (inl (inl h)) = inl h
precedes f g (inl (inr h)) = inr (h.0, omega (arith, h.1))
precedes f g (inr e) = inr (ap (λ z. z.met) (sym e), omega (arith, ap (λ z. number_of_reason z.reason) e))

pub scans_fault : (cs : List ℕ) (r : Refusal) → Scans cs (Err r) → FirstLexFault cs r
scans_fault cs r x =
    let o = outcome_of cs (Err r) x in
    record {
      pieces = x.pieces;
      cut = x.cut;
      at_fault = o.at_fault;
      first = record { stands = o.stands; first = All-weaker (Strictly o.at_fault) (Precedes o.at_fault) (precedes o.at_fault) (faults_of (start_of cs) x.pieces) o.least };
      refused = o.is_shown;
    }

pub none_stands : (fs : List Fault) (f : Fault) → fs ≡ [] → Contains fs f → ⊥
none_stands fs f e c = omega (arith, c.1, ap length e)

-- a text has one list of tokens, or one first fault
pub tokens_once : (cs : List ℕ) (us ts : List Token) → Scans cs (Ok us) → Lexes cs ts → us ≡ ts
tokens_once cs us ts x l =
    let o = outcome_of cs (Ok us) x in
    o.1 ∙ ap (tokens_of (start_of cs)) (cuts_once (unmarked cs) x.pieces l.pieces x.cut l.cut) ∙ sym l.tokens_are

pub no_tokens : (cs : List ℕ) (r : Refusal) (ts : List Token) → Scans cs (Err r) → Lexes cs ts → ⊥
no_tokens cs r ts x l =
    let o = outcome_of cs (Err r) x in
    none_stands (faults_of (start_of cs) x.pieces) o.at_fault (ap (faults_of (start_of cs)) (cuts_once (unmarked cs) x.pieces l.pieces x.cut l.cut) ∙ l.faultless) o.stands

pub no_fault : (cs : List ℕ) (ts : List Token) (r : Refusal) → Scans cs (Ok ts) → FirstLexFault cs r → ⊥
no_fault cs ts r x l =
    let o = outcome_of cs (Ok ts) x in
    none_stands (faults_of (start_of cs) l.pieces) l.at_fault (ap (faults_of (start_of cs)) (cuts_once (unmarked cs) l.pieces x.pieces l.cut x.cut) ∙ o.0) l.first.stands

one_first : (f g : Fault) → Strictly f g → Precedes g f → g ≡ f
one_first f g (inl (inl h)) (inl k) = absurd (omega arith)
one_first f g (inl (inl h)) (inr k) = absurd (omega (arith, k.0))
one_first f g (inl (inr h)) (inl k) = absurd (omega (arith, h.0))
one_first f g (inl (inr h)) (inr k) = absurd (omega (arith, h.1, k.1))
one_first f g (inr e) k = e

pub fault_once : (cs : List ℕ) (e r : Refusal) → Scans cs (Err e) → FirstLexFault cs r → e ≡ r
fault_once cs e r x l =
    let o = outcome_of cs (Err e) x in
    let same = ap (faults_of (start_of cs)) (cuts_once (unmarked cs) l.pieces x.pieces l.cut x.cut) in
    let P : List Fault → Type 0 = λ fs. Contains fs l.at_fault in
    let Q : List Fault → Type 0 = λ fs. All (Precedes l.at_fault) fs in
    let one = All-contains (Strictly o.at_fault) (faults_of (start_of cs) x.pieces) l.at_fault o.least (subst P same l.first.stands) in
    let two = All-contains (Precedes l.at_fault) (faults_of (start_of cs) x.pieces) o.at_fault (subst Q same l.first.first) o.stands in
    o.is_shown ∙ ap shown (sym (one_first o.at_fault l.at_fault one two)) ∙ sym l.refused

-- what an error of the scan says
pub refuses_text : (cs : List ℕ) (fault : LoadFault) → RefusedScan cs fault → RefusesText cs fault
refuses_text cs Memory h = tt
refuses_text cs (Refused r) h = scans_fault cs r h

pub only_memory : (cs : List ℕ) (fault : LoadFault) → RefusedScan cs fault → (ts : List Token) → Lexes cs ts → fault ≡ Memory
only_memory cs Memory h ts l = refl
only_memory cs (Refused r) h ts l = absurd (no_tokens cs r ts h l)

pub only_first : (cs : List ℕ) (fault : LoadFault) → RefusedScan cs fault → (r : Refusal) → FirstLexFault cs r → (fault ≡ Refused r) ⊎ (fault ≡ Memory)
only_first cs Memory h r l = inr refl
only_first cs (Refused e) h r l = inl (ap Refused (fault_once cs e r h l))
