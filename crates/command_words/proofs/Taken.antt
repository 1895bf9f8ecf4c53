-- The parser takes words that give options and last words, each option once and one last word at most.
use Rattle.std.proofs.Common.{◌≡◌, ◌∙◌, Bool, true, false, ap, List, [], ◌∷◌, ◌++◌, map, Option, Some, None}
use Rattle.std.specs.Str.{bytes_eq}
use Rattle.clap.specs.Lexer.{long_of}
use Rattle.clap.specs.Walk.{Text, walked}
use Rattle.command_words.specs.Words.{Gives, IsPlain, joined, nothing, option_word, plain, rest, spaced}
use Rattle.clap.specs.Faults.{turn_fault}
use Rattle.command_words.proofs.Rules.{Among, rules}
use Rattle.command_words.proofs.Rows.{AreNames, AreOurs, IsFresh, Part, given, last, rows, seen, settle_fresh}
use Rattle.command_words.proofs.Turns.{Names, behind, dashes_pass, dashes_walk, joined_passes, joined_walk, last_fault, last_walk, shape, spaced_passes, spaced_walk, stands, unflagged, value_passes, value_walk, waits}
use Rattle.command_words.proofs.Parts.{AreFresh, Passes, among, ends, ends_next, next_passes, parts_of, walk_none}
use Rattle.command_words.proofs.Went.{at_end, no_flag, one_more}

-- each text that stands behind its option could be a last word
abbrev pub ArePlain : List (Text × Text) → Type 0
ArePlain [] = Unit {0}
ArePlain (o ∷ os) = IsPlain o.1 × ArePlain os

-- where a last word stood, there is none left
abbrev pub LastsFit : Bool → List Text → Type 0
LastsFit b [] = Unit {0}
LastsFit true (l ∷ ls) = ls ≡ []
LastsFit false (l ∷ ls) = ⊥

no_lasts : (ls : List Text) → ls ≡ [] → LastsFit false ls
no_lasts [] e = tt
no_lasts (l ∷ ls) e = absurd (cc e)

abbrev Takes : List Text → List Part → Option Part → Bool → Bool → List Text → List Part → Type 0
Takes names xs p b t words parts = Passes names (stands xs p b t) words × (ends names (stands xs p b t) words ≡ rows (seen xs p ++ parts))

takes_none : (names : List Text) → AreNames names → (xs : List Part) (p : Option Part) (b t : Bool) → AreOurs names p → IsFresh xs p
    → Takes names xs p b t [] []
takes_none names ok xs p b t ours fresh =
    (record { walk = walk_none names (stands xs p b t); settle = settle_fresh names ok xs p ours fresh }, at_end names ok xs p ours fresh)

takes_behind : (names : List Text) → AreNames names → (words : List Text) (xs : List Part) (p : Option Part) (b : Bool) → AreOurs names p
    → LastsFit b words
    → IsFresh xs p → AreFresh (seen xs p) (map last words) → Takes names xs p b true words (map last words)
takes_behind names ok [] xs p b ours fit fresh more = takes_none names ok xs p b true ours fresh
takes_behind names ok (word ∷ words) xs p false ours fit fresh more = absurd fit
takes_behind names ok (word ∷ words) xs p true ours fit fresh more =
    let step = last_walk names ok xs p true word behind ours fresh in
    let ih = takes_behind names ok words (seen xs p) (Some (last word)) false tt (no_lasts words fit) more.0 more.1 in (
      next_passes names (stands xs p true true) (stands (seen xs p) (Some (last word)) false true) word words
          (last_fault names xs p true word behind ∙ settle_fresh names ok xs p ours fresh) step ih.0,
      ends_next names (stands xs p true true) (stands (seen xs p) (Some (last word)) false true) word words step ∙ ih.1
          ∙ one_more (seen xs p) (last word) (map last words),
    )

named_alone : (names : List Text) → AreNames names → (word n : Text) → Among names n → word ≡ option_word n → Names names word n None
named_alone names ok word n known e =
    record {
      known = known;
      no_dashes = ap (λ (w : Text). bytes_eq w (45 ∷ 45 ∷ [])) e
          ∙ (ok n known).no_dashes;
      long = ap (λ (w : Text). long_of w) e ∙ (ok n known).alone;
    }

named_joined : (names : List Text) → AreNames names → (word n v : Text) → Among names n → word ≡ option_word n ++ 61 ∷ v
    → Names names word n (Some v)
named_joined names ok word n v known e =
    record {
      known = known;
      no_dashes = ap (λ (w : Text). bytes_eq w (45 ∷ 45 ∷ [])) e
          ∙ (ok n known).joined_dashes v;
      long = ap (λ (w : Text). long_of w) e ∙ (ok n known).joined v;
    }

takes : {names words : List Text} {os : List (Text × Text)} {ls : List Text} (g : Gives names words os ls) → AreNames names
    → (xs : List Part) (p : Option Part) (b : Bool)
    → AreOurs names p → ArePlain os → LastsFit b ls → IsFresh xs p → AreFresh (seen xs p) (parts_of g)
    → Takes names xs p b false words (parts_of g)
takes {names} nothing ok xs p b ours plains fit fresh more = takes_none names ok xs p b false ours fresh
takes {names} (spaced {name = n} {word = word} {text = t} {words = words} k e g) ok xs p b ours plains fit fresh more =
    let known = among names n k in
    let i = named_alone names ok word n known e in
    let step = spaced_walk names ok xs p b word n i ours fresh in
    let step₂ = value_walk names ok (seen xs p) n b t (no_flag t plains.0) known in
    let ih = takes g ok (seen xs p) (Some (given n t)) b known plains.1 fit more.0 more.1 in (
      next_passes names (stands xs p b false) (waits (seen xs p) n b) word (t ∷ words)
          (spaced_passes names ok xs p b word n i ours fresh) step
          (next_passes names (waits (seen xs p) n b) (stands (seen xs p) (Some (given n t)) b false) t words
          (value_passes names (seen xs p) n b t (no_flag t plains.0)) step₂ ih.0),
      ends_next names (stands xs p b false) (waits (seen xs p) n b) word (t ∷ words) step
          ∙ ends_next names (waits (seen xs p) n b) (stands (seen xs p) (Some (given n t)) b false) t words step₂
          ∙ ih.1 ∙ one_more (seen xs p) (given n t) (parts_of g),
    )
takes {names} (joined {name = n} {word = word} {text = t} {words = words} k e g) ok xs p b ours plains fit fresh more =
    let known = among names n k in
    let i = named_joined names ok word n t known e in
    let step = joined_walk names ok xs p b word n t i ours fresh more.0 in
    let ih = takes g ok (seen xs p ++ given n t ∷ []) None b tt plains.1 fit tt more.1 in (
      next_passes names (stands xs p b false) (stands (seen xs p ++ given n t ∷ []) None b false) word words
          (joined_passes names ok xs p b word n t i ours fresh more.0) step ih.0,
      ends_next names (stands xs p b false) (stands (seen xs p ++ given n t ∷ []) None b false) word words step
          ∙ ih.1 ∙ one_more (seen xs p) (given n t) (parts_of g),
    )
takes {names} (plain {word = word} {words = words} h g) ok xs p false ours plains fit fresh more = absurd fit
takes {names} (plain {word = word} {words = words} {last = ls} h g) ok xs p true ours plains fit fresh more =
    let flag = unflagged (no_flag word h) in
    let step = last_walk names ok xs p false word flag ours fresh in
    let ih = takes g ok (seen xs p) (Some (last word)) false tt plains (no_lasts ls fit) more.0 more.1 in (
      next_passes names (stands xs p true false) (stands (seen xs p) (Some (last word)) false false) word words
          (last_fault names xs p false word flag ∙ settle_fresh names ok xs p ours fresh) step ih.0,
      ends_next names (stands xs p true false) (stands (seen xs p) (Some (last word)) false false) word words step
          ∙ ih.1 ∙ one_more (seen xs p) (last word) (parts_of g),
    )
takes {names} (rest {word = word} {words = words} e) ok xs p b ours plains fit fresh more =
    let ih = takes_behind names ok words xs p b ours fit fresh more in
    let step : walked (rules names) [] (stands xs p b false) word ≡ stands xs p b true =
    ap (λ (w : Text). walked (rules names) [] (stands xs p b false) w) e ∙ dashes_walk names xs p b in
    let turn : turn_fault (shape names) [] (stands xs p b false) word ≡ [] =
    ap (λ (w : Text). turn_fault (shape names) [] (stands xs p b false) w) e ∙ dashes_pass names xs p b in (
      next_passes names (stands xs p b false) (stands xs p b true) word words turn step ih.0,
      ends_next names (stands xs p b false) (stands xs p b true) word words step ∙ ih.1,
    )

pub taken : {names words : List Text} {os : List (Text × Text)} {ls : List Text} (g : Gives names words os ls) → AreNames names
    → ArePlain os → LastsFit true ls
    → AreFresh [] (parts_of g) → Passes names (stands [] None true false) words
    × (ends names (stands [] None true false) words ≡ rows (parts_of g))
taken g ok plains fit more = takes g ok [] None true tt plains fit tt more
