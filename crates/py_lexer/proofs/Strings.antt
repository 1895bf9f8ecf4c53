-- Closed and unclosed strings at the front of a text.
use Rattle.std.proofs.Common.{ℕ, ◌+◌, ◌<◌, ◌≤◌, ◌≡◌, ◌⊎◌, inl, inr, Bool, true, false, ◌==◌, not, List, [], ◌∷◌, ◌++◌, length, get_or, Some, None, if◌then◌else◌, arith, refl, sym, ap, ◌∙◌, subst}
use Rattle.std.specs.List.{list_all}
use Rattle.std.proofs.lemmas.List.{length-append, append_assoc}
use Rattle.std.proofs.lemmas.Bool.{and_parts, and_from, eqb-true, eqb-false, ne_eqb, eq-eqb, or_cases, not-true}
use Rattle.mono_list.proofs.Cases.{split, some_is, none_some}
use Rattle.py_chars.specs.Spellings.{plain, escape, items_of}
use Rattle.py_chars.proofs.Items.{plain_item, escape_item}
use Rattle.py_lexer.specs.declared.piece.Kind.TheVariants as kind
use Rattle.py_lexer.specs.Characters.{is_quote, ends_line, line_of}
use Rattle.py_lexer.specs.Pieces.{IsOnLine, IsLiteral, stays_inside}
use Rattle.py_lexer.specs.computed.Reading.{skip_line, at_close}
use Rattle.py_lexer.proofs.Fronts.{Front, line_parts, line_on, line_longest, line_head, is_nil}

-- a line that has a character doesn't end there
on_line : (c : ℕ) (cs : List ℕ) → 0 < length (line_of (c ∷ cs)) → ends_line (c ∷ cs) ≡ false
on_line c cs =
    split (ends_line (c ∷ cs)) (λ b. 0 < length (if b then [] else c ∷ line_of cs) → b ≡ false)
    (λ _ h. absurd (omega arith)) (λ _ _. refl)

on_line_more : (c : ℕ) (cs : List ℕ) (n : ℕ) → n + 1 ≤ length (line_of (c ∷ cs)) → n ≤ length (line_of cs)
on_line_more c cs n h = omega (arith, ap length (line_head c cs (on_line c cs (omega arith))))

quote_cases : (q : ℕ) → is_quote q ≡ true → (q ≡ 34) ⊎ (q ≡ 39)
quote_cases q t = elim (or_cases (q == 34) (q == 39) t) as (λ _. (q ≡ 34) ⊎ (q ≡ 39)) [ inl h ↦ inl (eqb-true q 34 h) | inr h ↦ inr (eqb-true q 39 h) ]

-- a quote is no backslash, and ends no line
quote_not : (q n : ℕ) → is_quote q ≡ true → is_quote n ≡ false → q ≡ n → ⊥
quote_not q n t f e = is_nil (is_quote q) t (ap is_quote e ∙ f)

quote_line : (q : ℕ) (cs : List ℕ) → is_quote q ≡ true → ends_line (q ∷ cs) ≡ false
quote_line q [] t = ne_eqb q 10 (quote_not q 10 t refl)
quote_line q (d ∷ cs) t = rw (ne_eqb q 10 (quote_not q 10 t refl), ne_eqb q 13 (quote_not q 13 t refl)) refl

-- one step inside a string
at_close_quote : (q : ℕ) (cs : List ℕ) → ends_line (q ∷ cs) ≡ false → at_close false q (q ∷ cs) ≡ Some cs
at_close_quote q cs f = rw (f, eq-eqb q q refl) refl

at_close_plain : (q c : ℕ) (cs : List ℕ) → ends_line (c ∷ cs) ≡ false → c == q ≡ false → c == 92 ≡ false → at_close false q (c ∷ cs) ≡ at_close false q cs
at_close_plain q c cs f n b = rw (f, n, b) refl

at_close_slash : (q c : ℕ) (cs : List ℕ) → ends_line (c ∷ cs) ≡ false → c == q ≡ false → c == 92 ≡ true → at_close false q (c ∷ cs) ≡ at_close true q cs
at_close_slash q c cs f n b = rw (f, n, b) refl

at_close_escaped : (q d : ℕ) (cs : List ℕ) → ends_line (d ∷ cs) ≡ false → at_close true q (d ∷ cs) ≡ at_close false q cs
at_close_escaped q d cs f = rw f refl

-- what a literal has inside is passed over, and its quote is found
pub close_again : (q : ℕ) (inside x : List ℕ) → is_quote q ≡ true → list_all (stays_inside q) (items_of inside) ≡ true
    → length inside + 1 ≤ length (line_of (inside ++ q ∷ x)) → at_close false q (inside ++ q ∷ x) ≡ Some x
close_again q [] x t a l = at_close_quote q x (quote_line q x t)
close_again q (c ∷ []) x t a l =
    let parts = and_parts (not (c == q)) (not (c == 92)) (and_parts (stays_inside q (plain c)) true a).0 in
    at_close_plain q c (q ∷ x) (on_line c (q ∷ x) (omega arith)) (not-true (c == q) parts.0) (not-true (c == 92) parts.1)
    ∙ close_again q [] x t refl (on_line_more c (q ∷ x) 1 (omega arith))
close_again q (c ∷ d ∷ cs) x t a l =
    let rest = d ∷ (cs ++ q ∷ x) in
    let open_ = on_line c rest (omega arith) in
    let further = on_line_more c rest (length (d ∷ cs) + 1) (omega arith) in
    split (c == 92) (λ b. c == 92 ≡ b → list_all (stays_inside q) (if b then escape d ∷ items_of cs else plain c ∷ items_of (d ∷ cs)) ≡ true → at_close false q (c ∷ rest) ≡ Some x)
    (λ _ b a.
    let n : c == q ≡ false = ne_eqb c q (λ e. quote_not q 92 t refl (sym e ∙ eqb-true c 92 b)) in
    at_close_slash q c rest open_ n b
    ∙ at_close_escaped q d (cs ++ q ∷ x) (on_line d (cs ++ q ∷ x) (omega arith))
    ∙ close_again q cs x t a (on_line_more d (cs ++ q ∷ x) (length cs + 1) (omega arith)))
    (λ _ b a.
    let both = and_parts (stays_inside q (plain c)) (list_all (stays_inside q) (items_of (d ∷ cs))) a in
    let n = not-true (c == q) (and_parts (not (c == q)) (not (c == 92)) both.0).0 in
    at_close_plain q c rest open_ n b ∙ close_again q (d ∷ cs) x t both.1 further)
    refl a

-- the inside of a literal, up to its closing quote on the line
pub record Closes (q : ℕ) (cs rest : List ℕ) : Type 0 where
  pub inside : List ℕ
  pub parts : cs ≡ inside ++ q ∷ rest
  pub stays : list_all (stays_inside q) (items_of inside) ≡ true
  pub on_line : length inside + 1 ≤ length (line_of cs)

closes_plain : (q c : ℕ) (cs rest : List ℕ) → ends_line (c ∷ cs) ≡ false → c == q ≡ false → c == 92 ≡ false → Closes q cs rest → Closes q (c ∷ cs) rest
closes_plain q c cs rest f n b h =
    record {
      inside = c ∷ h.inside;
      parts = ap (λ l. c ∷ l) h.parts;
      stays = ap (list_all (stays_inside q)) (plain_item c h.inside (eqb-false c 92 b)) ∙ and_from (stays_inside q (plain c)) (list_all (stays_inside q) (items_of h.inside)) (rw (n, b) refl) h.stays;
      on_line = omega (arith, h.on_line, ap length (line_head c cs f));
    }

closes_escape : (q c d : ℕ) (cs rest : List ℕ) → ends_line (c ∷ d ∷ cs) ≡ false → ends_line (d ∷ cs) ≡ false → c == 92 ≡ true → Closes q cs rest → Closes q (c ∷ d ∷ cs) rest
closes_escape q c d cs rest f g b h =
    record {
      inside = c ∷ d ∷ h.inside;
      parts = ap (λ l. c ∷ d ∷ l) h.parts;
      stays = ap (list_all (stays_inside q)) (escape_item c d (d ∷ h.inside) h.inside (eqb-true c 92 b) refl) ∙ h.stays;
      on_line = omega (arith, h.on_line, ap length (line_head c (d ∷ cs) f), ap length (line_head d cs g));
    }

-- what is found behind a backslash, or elsewhere
abbrev pub FoundBy : Bool → ℕ → List ℕ → List ℕ → Type 0
FoundBy false q cs rest = Closes q cs rest
FoundBy true q [] rest = ⊥
FoundBy true q (d ∷ ds) rest = (ends_line (d ∷ ds) ≡ false) × Closes q ds rest

closes_slash : (q c : ℕ) (cs rest : List ℕ) → ends_line (c ∷ cs) ≡ false → c == 92 ≡ true → FoundBy true q cs rest → Closes q (c ∷ cs) rest
closes_slash q c [] rest f b h = absurd h
closes_slash q c (d ∷ ds) rest f b h = closes_escape q c d ds rest f h.0 b h.1

closes_here : (q c : ℕ) (cs rest : List ℕ) → ends_line (c ∷ cs) ≡ false → c == q ≡ true → cs ≡ rest → Closes q (c ∷ cs) rest
closes_here q c cs rest f t e =
    record {
      inside = [];
      parts = ap (λ x. x ∷ cs) (eqb-true c q t) ∙ ap (λ l. q ∷ l) e;
      stays = refl;
      on_line = omega (arith, ap length (line_head c cs f));
    }

pub close_found : (b : Bool) (q : ℕ) (cs rest : List ℕ) → at_close b q cs ≡ Some rest → FoundBy b q cs rest
close_found true q [] rest e = none_some ⊥ e
close_found false q [] rest e = none_some (Closes q [] rest) e
close_found true q (c ∷ cs) rest e =
    split (ends_line (c ∷ cs)) (λ b. ends_line (c ∷ cs) ≡ b → (if b then None else at_close false q cs) ≡ Some rest → FoundBy true q (c ∷ cs) rest)
    (λ _ _ e. none_some (FoundBy true q (c ∷ cs) rest) e)
    (λ _ f e. (f, close_found false q cs rest e))
    refl e
close_found false q (c ∷ cs) rest e =
    let Goal : Type 0 = Closes q (c ∷ cs) rest in
    split (ends_line (c ∷ cs)) (λ b. ends_line (c ∷ cs) ≡ b → (if b then None else (if c == q then Some cs else at_close (c == 92) q cs)) ≡ Some rest → Goal)
    (λ _ _ e. none_some Goal e)
    (λ _ f e.
    split (c == q) (λ b. c == q ≡ b → (if b then Some cs else at_close (c == 92) q cs) ≡ Some rest → Goal)
    (λ _ t e. closes_here q c cs rest f t (some_is e))
    (λ _ n e.
    split (c == 92) (λ b. c == 92 ≡ b → at_close b q cs ≡ Some rest → Goal)
    (λ _ b e. closes_slash q c cs rest f b (close_found true q cs rest e))
    (λ _ b e. closes_plain q c cs rest f n b (close_found false q cs rest e))
    refl e)
    refl e)
    refl e

-- a literal that begins a text on its line is closed where the quote is found
pub literal_close : (q : ℕ) (cs v x : List ℕ) → v ++ x ≡ q ∷ cs → IsLiteral v → IsOnLine v x → at_close false q cs ≡ Some x
literal_close q cs [] x e i o = absurd (omega (arith, ap length i.4, length-append i.1 (i.0 ∷ [])))
literal_close q cs (y ∷ v) x e i o =
    let r = i.0 in
    let inside = i.1 in
    let tails : v ≡ inside ++ r ∷ [] = cc (i.4) in
    let same : r ≡ q = cc (i.4, e) in
    let behind_ : cs ≡ inside ++ q ∷ x = sym (cc e) ∙ ap (λ l. l ++ x) tails ∙ append_assoc inside (r ∷ []) x ∙ ap (λ z. inside ++ z ∷ x) same in
    let quoted = sym (ap is_quote same) ∙ i.2 in
    let stays = ap (λ z. list_all (stays_inside z) (items_of inside)) (sym same) ∙ i.3 in
    let on : length (y ∷ v) ≤ length (line_of (q ∷ cs)) = subst (λ (z : List ℕ). length (y ∷ v) ≤ length (line_of z)) e o in
    let room = ap (λ l. length (line_of l)) behind_ in
    let long = ap length tails ∙ length-append inside (r ∷ []) in
    let head = ap length (line_head q cs (quote_line q cs quoted)) in
    ap (at_close false q) behind_ ∙ close_again q inside x quoted stays (omega (arith, on, room, long, head))

pub text_front : (q : ℕ) (cs rest : List ℕ) → is_quote q ≡ true → at_close false q cs ≡ Some rest → Front (q ∷ cs) kind.Text rest
text_front q cs rest t e =
    let h = close_found false q cs rest e in
    let w = q ∷ (h.inside ++ q ∷ []) in
    let parts : q ∷ cs ≡ w ++ rest = ap (λ l. q ∷ l) (h.parts ∙ sym (append_assoc h.inside (q ∷ []) rest)) in
    let long : length w ≡ length h.inside + 2 = omega (arith, length-append h.inside (q ∷ [])) in
    let head = ap length (line_head q cs (quote_line q cs t)) in
    let on : length w ≤ length (line_of (q ∷ cs)) = omega (arith, long, head, h.on_line) in
    record {
      spelling = w;
      parts = parts;
      some = omega arith;
      is_piece = (
        ((q, h.inside, t, h.stays, refl), subst (λ (z : List ℕ). length w ≤ length (line_of z)) parts on),
        λ v x s g.
            let same : x ≡ rest = some_is (sym (literal_close q cs v x (s ∙ sym parts) g.0 g.1) ∙ e) in
            omega (arith, ap length s, length-append v x, length-append w rest, ap length same),
      );
    }

pub unclosed_front : (q : ℕ) (cs : List ℕ) → is_quote q ≡ true → at_close false q cs ≡ None → Front (q ∷ cs) kind.Unclosed (skip_line (q ∷ cs))
unclosed_front q cs t e =
    let f = quote_line q cs t in
    let head = line_head q cs f in
    record {
      spelling = line_of (q ∷ cs);
      parts = sym (line_parts (q ∷ cs));
      some = omega (arith, ap length head);
      is_piece = (
        (ap (λ l. is_quote (get_or l 0 0)) head ∙ t, line_on (q ∷ cs), λ v x s i o. none_some ⊥ (sym e ∙ literal_close q cs v x (s ∙ line_parts (q ∷ cs)) i o)),
        λ v x s h. line_longest (q ∷ cs) v x s h.1,
      );
    }
