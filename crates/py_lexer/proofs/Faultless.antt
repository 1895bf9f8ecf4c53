-- A piece that isn't refused adds no fault, and its own tokens.
use Rattle.std.proofs.Common.{ℕ, ◌≡◌, Bool, true, false, ◌&&◌, ◌||◌, not, is_some, List, [], ◌∷◌, ◌++◌, drop, replicate, Option, Some, None, if◌then◌else◌, refl, sym, ap, ◌∙◌, subst}
use Rattle.std.specs.List.{list_any}
use Rattle.std.proofs.lemmas.List.{append_assoc}
use Rattle.mono_list.proofs.Cases.{split, some_none}
use Rattle.mono_syntax.specs.declared.Refusal.{Refusal}
use Rattle.mono_syntax.specs.declared.Reason.{Reason}
use Rattle.mono_syntax.specs.declared.Reason.TheVariants.{BadChar, Tab, BadDedent, BadName, BadNumber, BadString}
use Rattle.py_chars.specs.Spellings.{is_name, number_of, bad_escape}
use Rattle.py_lexer.specs.declared.spot.Spot.{Spot}
use Rattle.py_lexer.specs.declared.piece.Kind.{Kind}
use Rattle.py_lexer.specs.declared.piece.Kind.TheVariants as kind
use Rattle.py_lexer.specs.declared.state.State.{State}
use Rattle.py_lexer.specs.declared.token.Token.{Token}
use Rattle.py_lexer.specs.declared.token.TokenKind.TheVariants.{Newline, Dedent, End}
use Rattle.py_lexer.specs.Characters.{behind, behind_one, is_control}
use Rattle.py_lexer.specs.Pieces.{Piece, piece, spelled}
use Rattle.py_lexer.specs.Layout.{brackets, Event, spells, first_tab, ending, beginning, is_open, events, left, levels_at, is_misfit, indent, mark, token, dents, laid}
use Rattle.py_lexer.specs.Faults.{Fault, fault, fault_if, controls, begins_with, is_doubled, escape_fault, string_faults, own_faults, is_word, piece_faults, tab_fault, begin_faults, line_faults, open_behind, bracket_faults}
use Rattle.py_lexer.specs.computed.Scanning.{refusal, refuse_if, or_else, first_control, escape_refusal, inside_refusal, string_refusal, quote_refusal, own_refusal, tab_refusal, is_stray, line_refusal, spelling_refusal, step_refusal, end_tokens, line_dents, step_tokens, spelled_state, next_state}

-- the faults and the tokens of pieces that are read in a state
abbrev pub events_from : State → Spot → List Piece → List Event
events_from st s ps = events st.opens st.inside st.tab s ps

abbrev pub faults_from : State → Spot → List Piece → List Fault
faults_from st s ps =
    piece_faults st.joined s ps ++ line_faults st.levels (events_from st s ps) ++ bracket_faults (behind s (spelled ps)) (open_behind st.opens s ps)

abbrev pub tokens_from : State → Spot → List Piece → List Token
tokens_from st s ps = laid (behind s (spelled ps)) st.levels (events_from st s ps)

pub behind-append : (s : Spot) (a b : List ℕ) → behind s (a ++ b) ≡ behind (behind s a) b
behind-append s [] b = refl
behind-append s (c ∷ a) b = behind-append (behind_one s c) a b

if_none : (b : Bool) (r : Reason) (s : Spot) → refuse_if b r s ≡ None → fault_if b r s ≡ []
if_none true r s e = some_none (fault_if true r s ≡ []) e
if_none false r s e = refl

pub if_false : (b : Bool) (r : Reason) (s : Spot) → refuse_if b r s ≡ None → b ≡ false
if_false true r s e = some_none (true ≡ false) e
if_false false r s e = refl

pub or_none : (a b : Option Refusal) → or_else a b ≡ None → (a ≡ None) × (b ≡ None)
or_none None b e = (refl, e)
or_none (Some x) b e = some_none ((Some x ≡ None) × (b ≡ None)) e

-- no control character is found: there is none
pub no_controls : (s : Spot) (w : List ℕ) → first_control s w ≡ None → (controls s w ≡ []) × (list_any is_control w ≡ false)
no_controls s [] e = (refl, refl)
no_controls s (c ∷ cs) e =
    split (is_control c) (λ b. (if b then Some (refusal BadChar s) else first_control (behind_one s c) cs) ≡ None
    → (fault_if b BadChar s ++ controls (behind_one s c) cs ≡ []) × ((b || list_any is_control cs) ≡ false))
    (λ _ e. some_none ((fault_if true BadChar s ++ controls (behind_one s c) cs ≡ []) × (true ≡ false)) e)
    (λ _ e. no_controls (behind_one s c) cs e)
    e

escape_none : (o : Option ℕ) (s : Spot) (w : List ℕ) → escape_refusal o s w ≡ None → escape_fault o s w ≡ []
escape_none None s w e = refl
escape_none (Some n) s w e = some_none (escape_fault (Some n) s w ≡ []) e

inside_none : (closed : Bool) (s : Spot) (w : List ℕ) → (if closed then inside_refusal s w else Some (refusal BadString s)) ≡ None
    → (if closed then escape_fault (bad_escape (drop 1 w)) s w else fault BadString s ∷ []) ≡ []
inside_none true s w e = escape_none (bad_escape (drop 1 w)) s w e
inside_none false s w e = some_none (fault BadString s ∷ [] ≡ []) e

string_none : (closed : Bool) (s : Spot) (w u : List ℕ) → string_refusal closed s w u ≡ None → string_faults closed s w u ≡ []
string_none closed s w u e =
    let Rest : Type 0 = (if list_any is_control w then controls s w else (if closed then escape_fault (bad_escape (drop 1 w)) s w else fault BadString s ∷ [])) ≡ [] in
    split (closed && is_doubled w u) (λ b. (if b then Some (refusal BadString s) else or_else (first_control s w) (if closed then inside_refusal s w else Some (refusal BadString s))) ≡ None
    → (if b then fault BadString s ∷ [] else (if list_any is_control w then controls s w else (if closed then escape_fault (bad_escape (drop 1 w)) s w else fault BadString s ∷ []))) ≡ [])
    (λ _ e. some_none (fault BadString s ∷ [] ≡ []) e)
    (λ _ e.
    let both = or_none (first_control s w) (if closed then inside_refusal s w else Some (refusal BadString s)) e in
    let none = (no_controls s w both.0).1 in
    let rest = inside_none closed s w both.1 in
    let P : Bool → Type 0 = λ b. (if b then controls s w else (if closed then escape_fault (bad_escape (drop 1 w)) s w else fault BadString s ∷ [])) ≡ [] in
    subst P (sym none) rest)
    e

quote_none : (closed joined : Bool) (s : Spot) (w u : List ℕ) → quote_refusal closed joined s w u ≡ None → fault_if joined BadString s ++ string_faults closed s w u ≡ []
quote_none closed true s w u e = some_none (fault BadString s ∷ string_faults closed s w u ≡ []) e
quote_none closed false s w u e = string_none closed s w u e

own_none : (k : Kind) (joined : Bool) (s : Spot) (w u : List ℕ) → own_refusal k joined s w u ≡ None → own_faults k joined s w u ≡ []
own_none kind.Blank joined s w u e = refl
own_none kind.Comment joined s w u e = (no_controls s w e).0
own_none kind.LineEnd joined s w u e = refl
own_none kind.Word joined s w u e = if_none (not (is_name w)) BadName s e
own_none kind.Number joined s w u e = if_none (not (is_some (number_of w)) || begins_with 46 u) BadNumber s e
own_none kind.Text joined s w u e = quote_none true joined s w u e
own_none kind.Unclosed joined s w u e = quote_none false joined s w u e
own_none kind.Sign joined s w u e = refl
own_none kind.Stray joined s w u e = some_none (fault BadChar s ∷ [] ≡ []) e

tab_none : (tab : Option Spot) → tab_refusal tab ≡ None → tab_fault tab ≡ []
tab_none None e = refl
tab_none (Some t) e = some_none (fault Tab t ∷ [] ≡ []) e

-- nothing refuses the beginning of a logical line: it has no fault
pub begin_none : (ls : List ℕ) (tab : Option Spot) (s : Spot) (k : Kind) → or_else (tab_refusal tab) (or_else (refuse_if (is_stray k) BadChar s) (refuse_if (is_misfit ls (indent s)) BadDedent s)) ≡ None → begin_faults ls tab s ≡ []
begin_none ls tab s k e =
    let one = or_none (tab_refusal tab) (or_else (refuse_if (is_stray k) BadChar s) (refuse_if (is_misfit ls (indent s)) BadDedent s)) e in
    let two = or_none (refuse_if (is_stray k) BadChar s) (refuse_if (is_misfit ls (indent s)) BadDedent s) one.1 in
    ap (λ l. l ++ fault_if (is_misfit ls (indent s)) BadDedent s) (tab_none tab one.0) ∙ if_none (is_misfit ls (indent s)) BadDedent s two.1

-- the line's faults where a spelling stands, and where a line ends
pub line_begins : (inside : Bool) (ls : List ℕ) (tab : Option Spot) (k : Kind) (w : List ℕ) (s : Spot) (es : List Event) → (inside ≡ false → begin_faults ls tab s ≡ [])
    → line_faults ls (beginning inside tab s ++ (spells k w s ∷ es)) ≡ line_faults (if inside then ls else levels_at ls (indent s)) es
line_begins true ls tab k w s es h = refl
line_begins false ls tab k w s es h = ap (λ l. l ++ line_faults (levels_at ls (indent s)) es) (h refl)

line_ends : (inside : Bool) (ls : List ℕ) (s : Spot) (es : List Event) → line_faults ls (ending inside s ++ es) ≡ line_faults ls es
line_ends true ls s es = refl
line_ends false ls s es = refl

laid_begins : (inside : Bool) (end : Spot) (ls : List ℕ) (tab : Option Spot) (k : Kind) (w : List ℕ) (s : Spot) (es : List Event)
    → laid end ls (beginning inside tab s ++ (spells k w s ∷ es)) ≡ ((if inside then [] else dents ls s) ++ token k w s ∷ []) ++ laid end (if inside then ls else levels_at ls (indent s)) es
laid_begins true end ls tab k w s es = refl
laid_begins false end ls tab k w s es = sym (append_assoc (dents ls s) (token k w s ∷ []) (laid end (levels_at ls (indent s)) es))

laid_ends : (inside : Bool) (end : Spot) (ls : List ℕ) (s : Spot) (es : List Event) → laid end ls (ending inside s ++ es) ≡ (if inside then mark Newline s ∷ [] else []) ++ laid end ls es
laid_ends true end ls s es = refl
laid_ends false end ls s es = refl

-- what is read behind a piece, where the piece has no fault
pub record IsRead (st : State) (s : Spot) (k : Kind) (w : List ℕ) (ps : List Piece) : Type 0 where
  pub faults : faults_from st s (piece k w ∷ ps) ≡ faults_from (next_state st s k w) (behind s w) ps
  pub tokens : tokens_from st s (piece k w ∷ ps) ≡ step_tokens st s k w ++ tokens_from (next_state st s k w) (behind s w) ps

parts_same : (a a' b b' : List Fault) (end end' : Spot) (opens : List Spot) → a ≡ a' → b ≡ b' → end ≡ end' → a ++ b ++ bracket_faults end opens ≡ a' ++ b' ++ bracket_faults end' opens
parts_same a a' b b' end end' opens p q e = ap (λ x. x ++ b ++ bracket_faults end opens) p ∙ ap (λ x. a' ++ x ++ bracket_faults end opens) q ∙ ap (λ x. a' ++ b' ++ bracket_faults x opens) e

line_none : (st : State) (k : Kind) (s : Spot) → line_refusal st k s ≡ None → st.inside ≡ false → begin_faults st.levels st.tab s ≡ []
line_none st k s e f =
    let P : Bool → Type 0 = λ b. (if b then None else or_else (tab_refusal st.tab) (or_else (refuse_if (is_stray k) BadChar s) (refuse_if (is_misfit st.levels (indent s)) BadDedent s))) ≡ None in
    begin_none st.levels st.tab s k (subst P f e)

spell_read : (st : State) (s : Spot) (k : Kind) (w : List ℕ) (ps : List Piece) → spelling_refusal st s k w (spelled ps) ≡ None
    → events_from st s (piece k w ∷ ps) ≡ beginning st.inside st.tab s ++ (spells k w s ∷ events (brackets st.opens (piece k w) s) true None (behind s w) ps)
    → (faults_from st s (piece k w ∷ ps) ≡ faults_from (spelled_state st s k w) (behind s w) ps)
    × (tokens_from st s (piece k w ∷ ps) ≡ (line_dents st s ++ token k w s ∷ []) ++ tokens_from (spelled_state st s k w) (behind s w) ps)
spell_read st s k w ps e v =
    let both = or_none (line_refusal st k s) (own_refusal k st.joined s w (spelled ps)) e in
    let es = events (brackets st.opens (piece k w) s) true None (behind s w) ps in
    let own = own_none k st.joined s w (spelled ps) both.1 in
    let end = behind-append s w (spelled ps) in
    let line = ap (line_faults st.levels) v ∙ line_begins st.inside st.levels st.tab k w s es (line_none st k s both.0) in (
      parts_same _ _ _ _ _ _ (open_behind (brackets st.opens (piece k w) s) (behind s w) ps) (ap (λ l. l ++ piece_faults (is_word k) (behind s w) ps) own) line end,
      ap (laid (behind s (w ++ spelled ps)) st.levels) v ∙ ap (λ z. laid z st.levels (beginning st.inside st.tab s ++ (spells k w s ∷ es))) end
          ∙ laid_begins st.inside (behind (behind s w) (spelled ps)) st.levels st.tab k w s es,
    )

end_read : (st : State) (s : Spot) (w : List ℕ) (ps : List Piece) (o : Bool) → is_open st.opens ≡ o
    → (line_faults st.levels (if o then events st.opens st.inside None (behind s w) ps else ending st.inside s ++ events st.opens false None (behind s w) ps)
    ≡ line_faults st.levels (events st.opens (o && st.inside) None (behind s w) ps))
    × ((end : Spot) → laid end st.levels (if o then events st.opens st.inside None (behind s w) ps else ending st.inside s ++ events st.opens false None (behind s w) ps)
    ≡ (if o then [] else (if st.inside then mark Newline s ∷ [] else [])) ++ laid end st.levels (events st.opens (o && st.inside) None (behind s w) ps))
end_read st s w ps true e = (refl, λ end. refl)
end_read st s w ps false e = (line_ends st.inside st.levels s (events st.opens false None (behind s w) ps), λ end. laid_ends st.inside end st.levels s (events st.opens false None (behind s w) ps))

pub step_read : (k : Kind) (st : State) (s : Spot) (w : List ℕ) (ps : List Piece) → step_refusal st s k w (spelled ps) ≡ None → IsRead st s k w ps
step_read kind.Blank st s w ps e =
    let end = behind-append s w (spelled ps) in
    record {
      faults =
          ap (λ z. piece_faults false (behind s w) ps ++ line_faults st.levels (events st.opens st.inside (first_tab s w) (behind s w) ps) ++ bracket_faults z (open_behind st.opens (behind s w) ps)) end;
      tokens = ap (λ z. laid z st.levels (events st.opens st.inside (first_tab s w) (behind s w) ps)) end;
    }
step_read kind.Comment st s w ps e =
    let end = behind-append s w (spelled ps) in
    record {
      faults = parts_same _ _ _ _ _ _ (open_behind st.opens (behind s w) ps) (ap (λ l. l ++ piece_faults false (behind s w) ps) (no_controls s w e).0) refl end;
      tokens = ap (λ z. laid z st.levels (events st.opens st.inside None (behind s w) ps)) end;
    }
step_read kind.LineEnd st s w ps e =
    let end = behind-append s w (spelled ps) in
    let both = end_read st s w ps (is_open st.opens) refl in
    record {
      faults = parts_same _ _ _ _ _ _ (open_behind st.opens (behind s w) ps) refl both.0 end;
      tokens = both.1 (behind s (w ++ spelled ps)) ∙ ap (λ z. end_tokens st s ++ laid z st.levels (events st.opens (is_open st.opens && st.inside) None (behind s w) ps)) end;
    }
step_read kind.Word st s w ps e = let r = spell_read st s kind.Word w ps e refl in record { faults = r.0; tokens = r.1 }
step_read kind.Number st s w ps e = let r = spell_read st s kind.Number w ps e refl in record { faults = r.0; tokens = r.1 }
step_read kind.Text st s w ps e = let r = spell_read st s kind.Text w ps e refl in record { faults = r.0; tokens = r.1 }
step_read kind.Unclosed st s w ps e = let r = spell_read st s kind.Unclosed w ps e refl in record { faults = r.0; tokens = r.1 }
step_read kind.Sign st s w ps e = let r = spell_read st s kind.Sign w ps e refl in record { faults = r.0; tokens = r.1 }
step_read kind.Stray st s w ps e = let r = spell_read st s kind.Stray w ps e refl in record { faults = r.0; tokens = r.1 }

-- the end of the text, where no bracket is open
pub end_faultless : (st : State) (s : Spot) → st.opens ≡ [] → faults_from st s [] ≡ []
end_faultless st s e = ap (λ l. l ++ bracket_faults s st.opens) (none st.inside) ∙ ap (bracket_faults s) e
  where
    none : (b : Bool) → line_faults st.levels (ending b s) ≡ []
    none true = refl
    none false = refl

pub end_laid : (b : Bool) (ls : List ℕ) (s : Spot) → laid s ls (ending b s) ≡ (if b then mark Newline s ∷ [] else []) ++ (replicate (left ls 0) (mark Dedent s) ++ mark End s ∷ [])
end_laid true ls s = refl
end_laid false ls s = refl
