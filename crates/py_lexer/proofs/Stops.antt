-- A piece that is refused is at fault, and no other fault comes before.
use Rattle.std.proofs.Common.{ℕ, ◌+◌, ◌<◌, ◌≤◌, ◌≡◌, ◌⊎◌, inl, Bool, true, false, ◌&&◌, ◌||◌, ◌==◌, not, is_some, List, [], ◌∷◌, ◌++◌, length, take, drop, Option, Some, None, if◌then◌else◌, arith}
use Rattle.std.specs.List.{list_any, All}
use Rattle.std.proofs.lemmas.List.Elements.{All-nil, All-cons, All-append, All-weaker}
use Rattle.mono_list.proofs.Cases.{split}
use Rattle.mono_syntax.specs.declared.Reason.{Reason}
use Rattle.mono_syntax.specs.declared.Reason.TheVariants.{BadChar, Tab, BadDedent, OpenBracket, BadName, BadNumber, BadString}
use Rattle.py_chars.specs.Spellings.{is_name, number_of, bad_escape}
use Rattle.py_lexer.specs.declared.spot.Spot.{Spot}
use Rattle.py_lexer.specs.declared.piece.Kind.{Kind}
use Rattle.py_lexer.specs.declared.piece.Kind.TheVariants as kind
use Rattle.py_lexer.specs.Characters.{behind, behind_one, is_control}
use Rattle.py_lexer.specs.Pieces.{Piece, piece, spelled}
use Rattle.py_lexer.specs.Layout.{brackets, Event, spells, first_tab, ending, beginning, is_open, events, levels_at, is_misfit, indent}
use Rattle.py_lexer.specs.Faults.{Fault, fault, fault_if, number_of_reason, controls, begins_with, is_doubled, escape_fault, string_faults, own_faults, is_word, piece_faults, tab_fault, begin_faults, line_faults, bracket_faults}
use Rattle.py_lexer.proofs.Spots.{behind_offset, some_bytes}

-- the one comes strictly before the other, or they are one
abbrev pub Strictly : Fault → Fault → Type 0
Strictly f g = ((f.met < g.met) ⊎ ((f.met ≡ g.met) × (number_of_reason f.reason < number_of_reason g.reason))) ⊎ (g ≡ f)

abbrev pub Late : ℕ → List Fault → Type 0
Late b = All (λ g. b ≤ g.met)

pub none_late : (n : ℕ) → Late n []
none_late n = All-nil (λ g. n ≤ g.met)

pub one_fault : (P : Fault → Type 0) (f : Fault) → P f → All P (f ∷ [])
one_fault P f h = All-cons P f [] h (All-nil P)

pub late_less : (a b : ℕ) (fs : List Fault) → a ≤ b → Late b fs → Late a fs
late_less a b fs l h = All-weaker (λ g. b ≤ g.met) (λ g. a ≤ g.met) (λ g k. omega arith) fs h

-- a fault before all the late ones is strictly before them
pub late_strictly : (f : Fault) (b : ℕ) (fs : List Fault) → f.met < b → Late b fs → All (Strictly f) fs
late_strictly f b fs l h = All-weaker (λ g. b ≤ g.met) (Strictly f) (λ g k. inl (inl (omega arith))) fs h

pub if_late : (n : ℕ) (b : Bool) (r : Reason) (s : Spot) → n ≤ s.offset → Late n (fault_if b r s)
if_late n true r s l = one_fault (λ g. n ≤ g.met) (fault r s) l
if_late n false r s l = none_late n

pub one_on : (s : Spot) (c : ℕ) → s.offset < (behind_one s c).offset
one_on s c = omega (arith, some_bytes c)

pub all_on : (s : Spot) (cs : List ℕ) → s.offset ≤ (behind s cs).offset
all_on s cs = omega (arith, behind_offset s cs)

pub more_on : (s : Spot) (cs : List ℕ) → 0 < length cs → s.offset < (behind s cs).offset
more_on s [] l = absurd (omega arith)
more_on s (c ∷ cs) l = omega (arith, one_on s c, all_on (behind_one s c) cs)

pub controls_late : (n : ℕ) (s : Spot) (cs : List ℕ) → n ≤ s.offset → Late n (controls s cs)
controls_late n s [] l = none_late n
controls_late n s (c ∷ cs) l =
    All-append (λ g. n ≤ g.met) (fault_if (is_control c) BadChar s) (controls (behind_one s c) cs) (if_late n (is_control c) BadChar s l) (controls_late n (behind_one s c) cs (omega (arith, one_on s c)))

escape_late : (n : ℕ) (o : Option ℕ) (s : Spot) (w : List ℕ) → n ≤ s.offset → Late n (escape_fault o s w)
escape_late n None s w l = none_late n
escape_late n (Some k) s w l = one_fault (λ g. n ≤ g.met) (fault BadString (behind s (take (k + 1) w))) (omega (arith, all_on s (take (k + 1) w)))

string_late : (n : ℕ) (closed : Bool) (s : Spot) (w u : List ℕ) → n ≤ s.offset → Late n (string_faults closed s w u)
string_late n closed s w u l =
    let last : (b : Bool) → Late n (if b then escape_fault (bad_escape (drop 1 w)) s w else fault BadString s ∷ [])
    = λ b. split b (λ b. Late n (if b then escape_fault (bad_escape (drop 1 w)) s w else fault BadString s ∷ [])) (λ _. escape_late n (bad_escape (drop 1 w)) s w l) (λ _. one_fault (λ g. n ≤ g.met) (fault BadString s) l) in
    let rest : Late n (if list_any is_control w then controls s w else (if closed then escape_fault (bad_escape (drop 1 w)) s w else fault BadString s ∷ []))
    = split (list_any is_control w) (λ b. Late n (if b then controls s w else (if closed then escape_fault (bad_escape (drop 1 w)) s w else fault BadString s ∷ []))) (λ _. controls_late n s w l) (λ _. last closed) in
    split (closed && is_doubled w u) (λ b. Late n (if b then fault BadString s ∷ [] else (if list_any is_control w then controls s w else (if closed then escape_fault (bad_escape (drop 1 w)) s w else fault BadString s ∷ []))))
    (λ _. one_fault (λ g. n ≤ g.met) (fault BadString s) l) (λ _. rest)

quote_late : (n : ℕ) (closed joined : Bool) (s : Spot) (w u : List ℕ) → n ≤ s.offset → Late n (fault_if joined BadString s ++ string_faults closed s w u)
quote_late n closed joined s w u l = All-append (λ g. n ≤ g.met) (fault_if joined BadString s) (string_faults closed s w u) (if_late n joined BadString s l) (string_late n closed s w u l)

pub own_late : (n : ℕ) (k : Kind) (joined : Bool) (s : Spot) (w u : List ℕ) → n ≤ s.offset → Late n (own_faults k joined s w u)
own_late n kind.Blank joined s w u l = none_late n
own_late n kind.Comment joined s w u l = controls_late n s w l
own_late n kind.LineEnd joined s w u l = none_late n
own_late n kind.Word joined s w u l = if_late n (not (is_name w)) BadName s l
own_late n kind.Number joined s w u l = if_late n (not (is_some (number_of w)) || begins_with 46 u) BadNumber s l
own_late n kind.Text joined s w u l = quote_late n true joined s w u l
own_late n kind.Unclosed joined s w u l = quote_late n false joined s w u l
own_late n kind.Sign joined s w u l = none_late n
own_late n kind.Stray joined s w u l = one_fault (λ g. n ≤ g.met) (fault BadChar s) l

pub pieces_late : (n : ℕ) (joined : Bool) (s : Spot) (ps : List Piece) → n ≤ s.offset → Late n (piece_faults joined s ps)
pieces_late n joined s [] l = none_late n
pieces_late n joined s (piece k w ∷ ps) l =
    All-append (λ g. n ≤ g.met) (own_faults k joined s w (spelled ps)) (piece_faults (is_word k) (behind s w) ps) (own_late n k joined s w (spelled ps) l)
    (pieces_late n (is_word k) (behind s w) ps (omega (arith, all_on s w)))

-- a tab that is kept stands late, or before the spot
abbrev pub IsLate : ℕ → Option Spot → Type 0
IsLate n None = Unit {0}
IsLate n (Some t) = n ≤ t.offset

abbrev pub IsBefore : Option Spot → Spot → Type 0
IsBefore None s = Unit {0}
IsBefore (Some t) s = t.offset < s.offset

tab_late : (n : ℕ) (s : Spot) (w : List ℕ) → n ≤ s.offset → IsLate n (first_tab s w)
tab_late n s [] l = tt
tab_late n s (c ∷ cs) l = split (c == 9) (λ b. IsLate n (if b then Some s else first_tab (behind_one s c) cs)) (λ _. l) (λ _. tab_late n (behind_one s c) cs (omega (arith, one_on s c)))

pub tab_reach : (t : Option Spot) (s e : Spot) → IsBefore t s → s.offset ≤ e.offset → IsBefore t e
tab_reach None s e h l = tt
tab_reach (Some t) s e h l = omega arith

pub tab_before : (s : Spot) (w : List ℕ) → IsBefore (first_tab s w) (behind s w)
tab_before s [] = tt
tab_before s (c ∷ cs) =
    split (c == 9) (λ b. IsBefore (if b then Some s else first_tab (behind_one s c) cs) (behind (behind_one s c) cs))
    (λ _. omega (arith, one_on s c, all_on (behind_one s c) cs)) (λ _. tab_before (behind_one s c) cs)

tab_fault_late : (n : ℕ) (tab : Option Spot) → IsLate n tab → Late n (tab_fault tab)
tab_fault_late n None l = none_late n
tab_fault_late n (Some t) l = one_fault (λ g. n ≤ g.met) (fault Tab t) l

begin_late : (n : ℕ) (ls : List ℕ) (tab : Option Spot) (s : Spot) → IsLate n tab → n ≤ s.offset → Late n (begin_faults ls tab s)
begin_late n ls tab s t l = All-append (λ g. n ≤ g.met) (tab_fault tab) (fault_if (is_misfit ls (indent s)) BadDedent s) (tab_fault_late n tab t) (if_late n (is_misfit ls (indent s)) BadDedent s l)

begins_late : (n : ℕ) (inside : Bool) (ls : List ℕ) (tab : Option Spot) (k : Kind) (w : List ℕ) (s : Spot) (es : List Event) → IsLate n tab → n ≤ s.offset
    → ((l : List ℕ) → Late n (line_faults l es)) → Late n (line_faults ls (beginning inside tab s ++ (spells k w s ∷ es)))
begins_late n true ls tab k w s es t l h = h ls
begins_late n false ls tab k w s es t l h = All-append (λ g. n ≤ g.met) (begin_faults ls tab s) (line_faults (levels_at ls (indent s)) es) (begin_late n ls tab s t l) (h (levels_at ls (indent s)))

ends_late : (n : ℕ) (inside : Bool) (ls : List ℕ) (s : Spot) (es : List Event) → Late n (line_faults ls es) → Late n (line_faults ls (ending inside s ++ es))
ends_late n true ls s es h = h
ends_late n false ls s es h = h

ending_late : (n : ℕ) (inside : Bool) (ls : List ℕ) (s : Spot) → Late n (line_faults ls (ending inside s))
ending_late n true ls s = none_late n
ending_late n false ls s = none_late n

pub lines_late : (n : ℕ) (ps : List Piece) (ls : List ℕ) (opens : List Spot) (inside : Bool) (tab : Option Spot) (s : Spot) → IsLate n tab → n ≤ s.offset → Late n (line_faults ls (events opens inside tab s ps))
lines_late n [] ls opens inside tab s t l = ending_late n inside ls s
lines_late n (piece kind.Blank w ∷ ps) ls opens inside tab s t l = lines_late n ps ls opens inside (first_tab s w) (behind s w) (tab_late n s w l) (omega (arith, all_on s w))
lines_late n (piece kind.Comment w ∷ ps) ls opens inside tab s t l = lines_late n ps ls opens inside None (behind s w) tt (omega (arith, all_on s w))
lines_late n (piece kind.LineEnd w ∷ ps) ls opens inside tab s t l =
    split (is_open opens) (λ b. Late n (line_faults ls (if b then events opens inside None (behind s w) ps else ending inside s ++ events opens false None (behind s w) ps)))
    (λ _. lines_late n ps ls opens inside None (behind s w) tt (omega (arith, all_on s w)))
    (λ _. ends_late n inside ls s (events opens false None (behind s w) ps) (lines_late n ps ls opens false None (behind s w) tt (omega (arith, all_on s w))))
lines_late n (piece kind.Word w ∷ ps) ls opens inside tab s t l = begins_late n inside ls tab kind.Word w s (events opens true None (behind s w) ps) t l (λ m. lines_late n ps m opens true None (behind s w) tt (omega (arith, all_on s w)))
lines_late n (piece kind.Number w ∷ ps) ls opens inside tab s t l = begins_late n inside ls tab kind.Number w s (events opens true None (behind s w) ps) t l (λ m. lines_late n ps m opens true None (behind s w) tt (omega (arith, all_on s w)))
lines_late n (piece kind.Text w ∷ ps) ls opens inside tab s t l = begins_late n inside ls tab kind.Text w s (events opens true None (behind s w) ps) t l (λ m. lines_late n ps m opens true None (behind s w) tt (omega (arith, all_on s w)))
lines_late n (piece kind.Unclosed w ∷ ps) ls opens inside tab s t l = begins_late n inside ls tab kind.Unclosed w s (events opens true None (behind s w) ps) t l (λ m. lines_late n ps m opens true None (behind s w) tt (omega (arith, all_on s w)))
lines_late n (piece kind.Sign w ∷ ps) ls opens inside tab s t l =
    begins_late n inside ls tab kind.Sign w s (events (brackets opens (piece kind.Sign w) s) true None (behind s w) ps) t l (λ m. lines_late n ps m (brackets opens (piece kind.Sign w) s) true None (behind s w) tt (omega (arith, all_on s w)))
lines_late n (piece kind.Stray w ∷ ps) ls opens inside tab s t l = begins_late n inside ls tab kind.Stray w s (events opens true None (behind s w) ps) t l (λ m. lines_late n ps m opens true None (behind s w) tt (omega (arith, all_on s w)))

pub brackets_late : (n : ℕ) (end : Spot) (opens : List Spot) → n ≤ end.offset → Late n (bracket_faults end opens)
brackets_late n end [] l = none_late n
brackets_late n end (s ∷ opens) l = one_fault (λ g. n ≤ g.met) (record { met = end.offset; place = s.place; reason = OpenBracket }) l
