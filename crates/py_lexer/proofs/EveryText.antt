-- Every text has tokens or a first fault, whatever its length.
use Rattle.std.proofs.Common.{ℕ, ◌≡◌, ◌⊎◌, inl, inr, List, Result, Ok, Err, refl, sym, ap, ◌∙◌}
use Rattle.mono_syntax.specs.declared.Refusal.{Refusal}
use Rattle.py_lexer.specs.declared.token.Token.{Token}
use Rattle.py_lexer.specs.Characters.{start_of, unmarked}
use Rattle.py_lexer.specs.Layout.{tokens_of}
use Rattle.py_lexer.specs.Faults.{faults_of}
use Rattle.py_lexer.specs.Lexes.{Lexes, FirstLexFault, AlwaysLexes, NeverBoth, OneTokenList, OneFirstFault}
use Rattle.py_lexer.specs.computed.Scanning.{scan, start_state}
use Rattle.py_lexer.specs.computed.Scans.{Scans}
use Rattle.py_lexer.proofs.Unique.{cut_of, cuts_once}
use Rattle.py_lexer.proofs.Outcome.{scans_lexes, scans_fault, none_stands, no_fault, fault_once}

-- what scanning a text gives
abbrev answer_of : List ℕ → Result (List Token) Refusal
answer_of cs = scan start_state (start_of cs) (cut_of (unmarked cs)).0

scanned : (cs : List ℕ) → Scans cs (answer_of cs)
scanned cs = let p = cut_of (unmarked cs) in record { pieces = p.0; cut = p.1; gives = refl }

either : (cs : List ℕ) (r : Result (List Token) Refusal) → Scans cs r → ((ts : List Token) × Lexes cs ts) ⊎ ((e : Refusal) × FirstLexFault cs e)
either cs (Ok ts) x = inl (ts, scans_lexes cs ts x)
either cs (Err e) x = inr (e, scans_fault cs e x)

pub always_lexes : AlwaysLexes
always_lexes cs = either cs (answer_of cs) (scanned cs)

pub never_both : NeverBoth
never_both cs ts r l f =
    none_stands (faults_of (start_of cs) f.pieces) f.at_fault (ap (faults_of (start_of cs)) (cuts_once (unmarked cs) f.pieces l.pieces f.cut l.cut) ∙ l.faultless) f.first.stands

pub one_token_list : OneTokenList
one_token_list cs ts us l m = l.tokens_are ∙ ap (tokens_of (start_of cs)) (cuts_once (unmarked cs) l.pieces m.pieces l.cut m.cut) ∙ sym m.tokens_are

one_fault_by : (cs : List ℕ) (q : Result (List Token) Refusal) (r s : Refusal) → Scans cs q → FirstLexFault cs r → FirstLexFault cs s → r ≡ s
one_fault_by cs (Ok ts) r s x f g = absurd (no_fault cs ts r x f)
one_fault_by cs (Err e) r s x f g = sym (fault_once cs e r x f) ∙ fault_once cs e s x g

pub one_first_fault : OneFirstFault
one_first_fault cs r s f g = one_fault_by cs (answer_of cs) r s (scanned cs) f g
