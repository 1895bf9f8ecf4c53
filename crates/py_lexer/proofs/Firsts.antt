-- The fault of a piece that is refused is the first of the faults from there on.
use Rattle.std.proofs.Common.{ℕ, ◌+◌, ◌<◌, ◌≤◌, ◌≡◌, ◌⊎◌, inl, inr, Bool, true, false, ◌&&◌, ◌||◌, ◌==◌, not, is_some, List, [], ◌∷◌, ◌++◌, length, take, drop, get_or, Option, Some, None, if◌then◌else◌, arith, refl, sym, ap, ◌∙◌, subst, length-take, length-drop}
use Rattle.std.specs.List.{list_any, All, Contains}
use Rattle.std.proofs.lemmas.List.{take-append-drop}
use Rattle.std.proofs.lemmas.List.Elements.{All-nil, All-cons, All-append}
use Rattle.mono_list.proofs.Cases.{split, some_is, none_some, split_option}
use Rattle.mono_syntax.specs.declared.Refusal.{Refusal}
use Rattle.mono_syntax.specs.declared.Reason.{Reason}
use Rattle.mono_syntax.specs.declared.Reason.TheVariants.{BadChar, BadDedent, BadName, BadNumber, BadString}
use Rattle.py_chars.specs.Spellings.{is_name, number_of, bad_escape, plain, escape, items_of, first_bad, is_escape}
use Rattle.py_lexer.specs.declared.spot.Spot.{Spot}
use Rattle.py_lexer.specs.declared.piece.Kind.{Kind}
use Rattle.py_lexer.specs.declared.piece.Kind.TheVariants as kind
use Rattle.py_lexer.specs.Characters.{behind, behind_one, is_control}
use Rattle.py_lexer.specs.Faults.{Fault, fault, fault_if, number_of_reason, controls, begins_with, is_doubled, escape_fault, string_faults, own_faults}
use Rattle.py_lexer.specs.computed.Scanning.{refusal, refuse_if, or_else, first_control, escape_refusal, inside_refusal, string_refusal, quote_refusal, own_refusal, is_stray}
use Rattle.py_lexer.proofs.Faultless.{behind-append, no_controls}
use Rattle.py_lexer.proofs.Stops.{Strictly, Late, none_late, late_strictly, one_on, all_on, more_on, controls_late, one_fault}

abbrev pub shown : Fault → Refusal
shown f = record { place = f.place; reason = f.reason }

-- the least of some faults, met from one offset on and before another
pub record Least (fs : List Fault) (r : Refusal) (low high : ℕ) : Type 0 where
  pub at_fault : Fault
  pub is_shown : r ≡ shown at_fault
  pub stands : Contains fs at_fault
  pub least : All (Strictly at_fault) fs
  pub from : low ≤ at_fault.met
  pub before : at_fault.met < high

pub here : (f : Fault) (fs : List Fault) → Contains (f ∷ fs) f
here f fs = (0, omega arith, refl)

pub itself : (f : Fault) → Strictly f f
itself f = inr refl

alone : (f : Fault) (r : Refusal) (low high : ℕ) → r ≡ shown f → low ≤ f.met → f.met < high → Least (f ∷ []) r low high
alone f r low high e l h = record { at_fault = f; is_shown = e; stands = here f []; least = one_fault (Strictly f) f (itself f); from = l; before = h }

some_refused : (b : Bool) (why : Reason) (s : Spot) (r : Refusal) (high : ℕ) → s.offset < high → refuse_if b why s ≡ Some r → Least (fault_if b why s) r s.offset high
some_refused true why s r high h e = alone (fault why s) r s.offset high (sym (some_is e)) (omega arith) h
some_refused false why s r high h e = none_some (Least [] r s.offset high) e

-- the first control character
controls_least : (s : Spot) (w : List ℕ) (r : Refusal) → first_control s w ≡ Some r → Least (controls s w) r s.offset (behind s w).offset
controls_least s [] r e = none_some (Least [] r s.offset s.offset) e
controls_least s (c ∷ cs) r e =
    split (is_control c) (λ b. (if b then Some (refusal BadChar s) else first_control (behind_one s c) cs) ≡ Some r → Least (fault_if b BadChar s ++ controls (behind_one s c) cs) r s.offset (behind (behind_one s c) cs).offset)
    (λ _ e. record {
      at_fault = fault BadChar s;
      is_shown = sym (some_is e);
      stands = here (fault BadChar s) (controls (behind_one s c) cs);
      least =
          All-cons (Strictly (fault BadChar s)) (fault BadChar s) (controls (behind_one s c) cs) (itself (fault BadChar s))
          (late_strictly (fault BadChar s) (behind_one s c).offset (controls (behind_one s c) cs) (one_on s c) (controls_late (behind_one s c).offset (behind_one s c) cs (omega arith)));
      from = omega arith;
      before = omega (arith, one_on s c, all_on (behind_one s c) cs);
    })
    (λ _ e. let l = controls_least (behind_one s c) cs r e in record { at_fault = l.at_fault; is_shown = l.is_shown; stands = l.stands; least = l.least; from = omega (arith, one_on s c, l.from); before = l.before })
    e

control_any : (s : Spot) (w : List ℕ) (r : Refusal) → first_control s w ≡ Some r → list_any is_control w ≡ true
control_any s [] r e = none_some (false ≡ true) e
control_any s (c ∷ cs) r e =
    split (is_control c) (λ b. (if b then Some (refusal BadChar s) else first_control (behind_one s c) cs) ≡ Some r → (b || list_any is_control cs) ≡ true)
    (λ _ _. refl) (λ _ e. control_any (behind_one s c) cs r e) e

-- a bad escape stands inside
bad_bound : (cs : List ℕ) (m n : ℕ) → first_bad m (items_of cs) ≡ Some n → n < m + length cs
bad_bound [] m n e = none_some (n < m + 0) e
bad_bound (c ∷ []) m n e = none_some (n < m + 1) e
bad_bound (c ∷ d ∷ cs) m n e =
    split (c == 92) (λ b. first_bad m (if b then escape d ∷ items_of cs else plain c ∷ items_of (d ∷ cs)) ≡ Some n → n < m + length (c ∷ d ∷ cs))
    (λ _ e.
    split (is_escape d) (λ b. (if b then first_bad (m + 2) (items_of cs) else Some m) ≡ Some n → n < m + length (c ∷ d ∷ cs))
    (λ _ e. let h = bad_bound cs (m + 2) n e in omega (arith, h))
    (λ _ e. let h : m ≡ n = some_is e in omega (arith, h))
    e)
    (λ _ e. let h = bad_bound (d ∷ cs) (m + 1) n e in omega (arith, h))
    e

bad_inside : (cs : List ℕ) (n : ℕ) → bad_escape cs ≡ Some n → n < length cs
unfolding bad_escape
bad_inside cs n e = let h = bad_bound cs 0 n e in omega (arith, h)

part_before : (s : Spot) (w : List ℕ) (m : ℕ) → m < length w → (behind s (take m w)).offset < (behind s w).offset
part_before s w m h =
    let e = ap (λ z. (behind s z).offset) (sym (take-append-drop m w)) ∙ ap (λ z. z.offset) (behind-append s (take m w) (drop m w)) in
    let some : 0 < length (drop m w) = omega (arith, length-drop m w) in
    let more = more_on (behind s (take m w)) (drop m w) some in
    omega (arith, e, more)

inside_least : (s : Spot) (w : List ℕ) (r : Refusal) → 0 < length w → inside_refusal s w ≡ Some r → Least (escape_fault (bad_escape (drop 1 w)) s w) r s.offset (behind s w).offset
inside_least s w r h e =
    split_option (bad_escape (drop 1 w)) (λ o. bad_escape (drop 1 w) ≡ o → escape_refusal o s w ≡ Some r → Least (escape_fault o s w) r s.offset (behind s w).offset)
    (λ _ _ e. none_some (Least [] r s.offset (behind s w).offset) e)
    (λ n _ q e.
    let short : n + 1 < length w = omega (arith, bad_inside (drop 1 w) n q, length-drop 1 w) in
    alone (fault BadString (behind s (take (n + 1) w))) r s.offset (behind s w).offset (sym (some_is e)) (all_on s (take (n + 1) w)) (part_before s w (n + 1) short))
    refl e

closed_least : (closed : Bool) (s : Spot) (w : List ℕ) (r : Refusal) → 0 < length w → (if closed then inside_refusal s w else Some (refusal BadString s)) ≡ Some r
    → Least (if closed then escape_fault (bad_escape (drop 1 w)) s w else fault BadString s ∷ []) r s.offset (behind s w).offset
closed_least true s w r h e = inside_least s w r h e
closed_least false s w r h e = alone (fault BadString s) r s.offset (behind s w).offset (sym (some_is e)) (omega arith) (more_on s w h)

pub or_some : (a b : Option Refusal) (r : Refusal) → or_else a b ≡ Some r → (a ≡ Some r) ⊎ ((a ≡ None) × (b ≡ Some r))
or_some None b r e = inr (refl, e)
or_some (Some x) b r e = inl e

string_least : (closed : Bool) (s : Spot) (w u : List ℕ) (r : Refusal) → 0 < length w → string_refusal closed s w u ≡ Some r → Least (string_faults closed s w u) r s.offset (behind s w).offset
string_least closed s w u r h e =
    let Goal : Bool → Type 0 = λ b. Least (if b then controls s w else (if closed then escape_fault (bad_escape (drop 1 w)) s w else fault BadString s ∷ [])) r s.offset (behind s w).offset in
    split (closed && is_doubled w u) (λ b. (if b then Some (refusal BadString s) else or_else (first_control s w) (if closed then inside_refusal s w else Some (refusal BadString s))) ≡ Some r
    → Least (if b then fault BadString s ∷ [] else (if list_any is_control w then controls s w else (if closed then escape_fault (bad_escape (drop 1 w)) s w else fault BadString s ∷ []))) r s.offset (behind s w).offset)
    (λ _ e. alone (fault BadString s) r s.offset (behind s w).offset (sym (some_is e)) (omega arith) (more_on s w h))
    (λ _ e.
    elim (or_some (first_control s w) (if closed then inside_refusal s w else Some (refusal BadString s)) r e) as (λ _. Goal (list_any is_control w)) [
      | inl q ↦ subst Goal (sym (control_any s w r q)) (controls_least s w r q)
      | inr q ↦ subst Goal (sym (no_controls s w q.0).1) (closed_least closed s w r h q.1)
    ])
    e

-- what begins with no control character
abbrev pub NoControlFirst : List ℕ → Type 0
NoControlFirst w = is_control (get_or w 0 0) ≡ false

controls_behind : (s : Spot) (w : List ℕ) → NoControlFirst w → Late (s.offset + 1) (controls s w)
controls_behind s [] n = none_late (s.offset + 1)
controls_behind s (c ∷ cs) n =
    let P : Bool → Type 0 = λ b. Late (s.offset + 1) (fault_if b BadChar s ++ controls (behind_one s c) cs) in
    subst P (sym n) (controls_late (s.offset + 1) (behind_one s c) cs (omega (arith, one_on s c)))

escape_behind : (s : Spot) (w : List ℕ) (o : Option ℕ) → 0 < length w → Late (s.offset + 1) (escape_fault o s w)
escape_behind s w None h = none_late (s.offset + 1)
escape_behind s w (Some n) h =
    let some : 0 < length (take (n + 1) w) = omega (arith, length-take (n + 1) w) in
    one_fault (λ g. s.offset + 1 ≤ g.met) (fault BadString (behind s (take (n + 1) w))) (let more = more_on s (take (n + 1) w) some in omega (arith, more))

-- a fault at a string's spot comes before the string's own, where it comes before a bad string there
string_strictly : (f : Fault) (closed : Bool) (s : Spot) (w u : List ℕ) → f.met ≡ s.offset → Strictly f (fault BadString s) → NoControlFirst w → 0 < length w → All (Strictly f) (string_faults closed s w u)
string_strictly f closed s w u m q n h =
    let one = one_fault (Strictly f) (fault BadString s) q in
    let below : f.met < s.offset + 1 = omega (arith, m) in
    let last : (b : Bool) → All (Strictly f) (if b then escape_fault (bad_escape (drop 1 w)) s w else fault BadString s ∷ [])
    = λ b. split b (λ b. All (Strictly f) (if b then escape_fault (bad_escape (drop 1 w)) s w else fault BadString s ∷ []))
    (λ _. late_strictly f (s.offset + 1) (escape_fault (bad_escape (drop 1 w)) s w) below (escape_behind s w (bad_escape (drop 1 w)) h)) (λ _. one) in
    let rest : All (Strictly f) (if list_any is_control w then controls s w else (if closed then escape_fault (bad_escape (drop 1 w)) s w else fault BadString s ∷ []))
    = split (list_any is_control w) (λ b. All (Strictly f) (if b then controls s w else (if closed then escape_fault (bad_escape (drop 1 w)) s w else fault BadString s ∷ [])))
    (λ _. late_strictly f (s.offset + 1) (controls s w) below (controls_behind s w n)) (λ _. last closed) in
    split (closed && is_doubled w u)
    (λ b. All (Strictly f) (if b then fault BadString s ∷ [] else (if list_any is_control w then controls s w else (if closed then escape_fault (bad_escape (drop 1 w)) s w else fault BadString s ∷ []))))
    (λ _. one) (λ _. rest)

quote_least : (closed joined : Bool) (s : Spot) (w u : List ℕ) (r : Refusal) → NoControlFirst w → 0 < length w → quote_refusal closed joined s w u ≡ Some r
    → Least (fault_if joined BadString s ++ string_faults closed s w u) r s.offset (behind s w).offset
quote_least closed true s w u r n h e =
    record {
      at_fault = fault BadString s;
      is_shown = sym (some_is e);
      stands = here (fault BadString s) (string_faults closed s w u);
      least =
          All-cons (Strictly (fault BadString s)) (fault BadString s) (string_faults closed s w u) (itself (fault BadString s))
          (string_strictly (fault BadString s) closed s w u refl (itself (fault BadString s)) n h);
      from = omega arith;
      before = more_on s w h;
    }
quote_least closed false s w u r n h e = string_least closed s w u r h e

-- strings begin with a quote, which is no control character
abbrev pub StringFirst : Kind → List ℕ → Type 0
StringFirst kind.Text w = NoControlFirst w
StringFirst kind.Unclosed w = NoControlFirst w
StringFirst _ w = Unit {0}

pub own_least : (k : Kind) (joined : Bool) (s : Spot) (w u : List ℕ) (r : Refusal) → StringFirst k w → 0 < length w → own_refusal k joined s w u ≡ Some r
    → Least (own_faults k joined s w u) r s.offset (behind s w).offset
own_least kind.Blank joined s w u r n h e = none_some (Least [] r s.offset (behind s w).offset) e
own_least kind.Comment joined s w u r n h e = controls_least s w r e
own_least kind.LineEnd joined s w u r n h e = none_some (Least [] r s.offset (behind s w).offset) e
own_least kind.Word joined s w u r n h e = some_refused (not (is_name w)) BadName s r (behind s w).offset (more_on s w h) e
own_least kind.Number joined s w u r n h e = some_refused (not (is_some (number_of w)) || begins_with 46 u) BadNumber s r (behind s w).offset (more_on s w h) e
own_least kind.Text joined s w u r n h e = quote_least true joined s w u r n h e
own_least kind.Unclosed joined s w u r n h e = quote_least false joined s w u r n h e
own_least kind.Sign joined s w u r n h e = none_some (Least [] r s.offset (behind s w).offset) e
own_least kind.Stray joined s w u r n h e = alone (fault BadChar s) r s.offset (behind s w).offset (sym (some_is e)) (omega arith) (more_on s w h)

-- a piece that may begin a logical line
abbrev pub is_spelling : Kind → Bool
is_spelling kind.Blank = false
is_spelling kind.Comment = false
is_spelling kind.LineEnd = false
is_spelling _ = true

-- a bad dedent comes before its piece's own faults, but for a stray character
pub if_strictly : (f : Fault) (b : Bool) (r : Reason) (s : Spot) → Strictly f (fault r s) → All (Strictly f) (fault_if b r s)
if_strictly f true r s q = one_fault (Strictly f) (fault r s) q
if_strictly f false r s q = All-nil (Strictly f)

five : (s : Spot) (r : Reason) → number_of_reason r ≡ 5 → Strictly (fault BadDedent s) (fault r s)
five s r e = inl (inr (refl, omega (arith, e)))

pub dedent_strictly : (k : Kind) (joined : Bool) (s : Spot) (w u : List ℕ) → is_spelling k ≡ true → is_stray k ≡ false → StringFirst k w → 0 < length w → All (Strictly (fault BadDedent s)) (own_faults k joined s w u)
dedent_strictly kind.Blank joined s w u p t n h = All-nil (Strictly (fault BadDedent s))
dedent_strictly kind.Comment joined s w u p t n h = absurd cc
dedent_strictly kind.LineEnd joined s w u p t n h = All-nil (Strictly (fault BadDedent s))
dedent_strictly kind.Word joined s w u p t n h = if_strictly (fault BadDedent s) (not (is_name w)) BadName s (five s BadName refl)
dedent_strictly kind.Number joined s w u p t n h = if_strictly (fault BadDedent s) (not (is_some (number_of w)) || begins_with 46 u) BadNumber s (five s BadNumber refl)
dedent_strictly kind.Text joined s w u p t n h =
    All-append (Strictly (fault BadDedent s)) (fault_if joined BadString s) (string_faults true s w u) (if_strictly (fault BadDedent s) joined BadString s (five s BadString refl))
    (string_strictly (fault BadDedent s) true s w u refl (five s BadString refl) n h)
dedent_strictly kind.Unclosed joined s w u p t n h =
    All-append (Strictly (fault BadDedent s)) (fault_if joined BadString s) (string_faults false s w u) (if_strictly (fault BadDedent s) joined BadString s (five s BadString refl))
    (string_strictly (fault BadDedent s) false s w u refl (five s BadString refl) n h)
dedent_strictly kind.Sign joined s w u p t n h = All-nil (Strictly (fault BadDedent s))
dedent_strictly kind.Stray joined s w u p t n h = absurd cc

-- the least of a piece's own faults and those of the line that it begins
pub record Within (own line : List Fault) (r : Refusal) (high : ℕ) : Type 0 where
  pub at_fault : Fault
  pub is_shown : r ≡ shown at_fault
  pub stands : Contains own at_fault ⊎ Contains line at_fault
  pub own_least : All (Strictly at_fault) own
  pub line_least : All (Strictly at_fault) line
  pub before : at_fault.met < high

pub within_own : (own line : List Fault) (r : Refusal) (low high : ℕ) → Least own r low high → line ≡ [] → Within own line r high
within_own own line r low high l e =
    let P : List Fault → Type 0 = λ m. All (Strictly l.at_fault) m in
    record { at_fault = l.at_fault; is_shown = l.is_shown; stands = inl l.stands; own_least = l.least; line_least = subst P (sym e) (All-nil (Strictly l.at_fault)); before = l.before }
