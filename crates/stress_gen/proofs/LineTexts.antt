-- Texts of lines, put together.
use Rattle.std.proofs.Common.{ℕ, zero, suc, ◌+◌, ◌*◌, ◌≡◌, ◌∙◌, List, [], ◌∷◌, ◌++◌, length, refl, ap, sym, append_assoc, arith}
use Rattle.std.specs.Prelude.{map, flat_map, codes}
use Rattle.std.specs.List.{range_with_len}
use Rattle.std.proofs.lemmas.Grind.{flat_map-append}
use Rattle.std.proofs.lemmas.List.{map-append, append-nil, length-append, length-map}
use Rattle.std.proofs.lemmas.List.FromFn.{length-range_with_len}
use Rattle.stress_gen.specs.StressText.{head_lines, task_lines, start_line, join_line, lines_text, tasks, stress_lines, stress_text}

lines_text-append : (a b : List (List ℕ)) → lines_text (a ++ b) ≡ lines_text a ++ lines_text b
lines_text-append [] b = refl
lines_text-append (l ∷ a) b = ap (λ t. l ++ (10 ∷ t)) (lines_text-append a b) ∙ sym (append_assoc l (10 ∷ lines_text a) (lines_text b))

-- ---- one task more

range_more : (n a : ℕ) → range_with_len a (suc n) ≡ range_with_len a n ++ (a + n) ∷ []
range_more zero a = let e : a ≡ a + 0 = omega arith in ap (λ x. x ∷ []) e
range_more (suc n) a =
    let e : a + 1 + n ≡ a + suc n = omega arith in
    ap (λ l. a ∷ l) (range_more n (a + 1) ∙ ap (λ x. range_with_len (a + 1) n ++ x ∷ []) e)

tasks_more : (i : ℕ) → tasks (i + 1) ≡ tasks i ++ (i + 1) ∷ []
tasks_more i =
    let e : i + 1 ≡ suc i = omega arith in
    let f : 1 + i ≡ i + 1 = omega arith in
    ap tasks e ∙ range_more i 1 ∙ ap (λ x. tasks i ++ x ∷ []) f

pub flat_map_more : (f : ℕ → List (List ℕ)) (i : ℕ) →
    lines_text (flat_map f (tasks (i + 1))) ≡ lines_text (flat_map f (tasks i)) ++ lines_text (f (i + 1))
flat_map_more f i =
    ap (λ js. lines_text (flat_map f js)) (tasks_more i)
    ∙ ap lines_text (flat_map-append f (tasks i) ((i + 1) ∷ []))
    ∙ lines_text-append (flat_map f (tasks i)) (flat_map f ((i + 1) ∷ []))
    ∙ ap (λ ls. lines_text (flat_map f (tasks i)) ++ lines_text ls) (append-nil (f (i + 1)))

pub map_more : (f : ℕ → List ℕ) (i : ℕ) → lines_text (map f (tasks (i + 1))) ≡ lines_text (map f (tasks i)) ++ lines_text (f (i + 1) ∷ [])
map_more f i =
    ap (λ js. lines_text (map f js)) (tasks_more i)
    ∙ ap lines_text (map-append f (tasks i) ((i + 1) ∷ []))
    ∙ lines_text-append (map f (tasks i)) (f (i + 1) ∷ [])

-- ---- the whole

parts : (a b c d e f : List (List ℕ)) →
    lines_text (a ++ b ++ c ++ d ++ e ++ f) ≡
    lines_text a ++ (lines_text b ++ (lines_text c ++ (lines_text d ++ (lines_text e ++ lines_text f))))
parts a b c d e f = simp (append_assoc, lines_text-append)

pub text_parts : (n : ℕ) → stress_text n ≡
    lines_text head_lines
    ++ (lines_text (flat_map task_lines (tasks n))
    ++ ((codes "total: int = 0" ++ 10 ∷ [])
    ++ (lines_text (map start_line (tasks n))
    ++ (lines_text (map join_line (tasks n))
    ++ (codes "print(total)" ++ 10 ∷ [])))))
text_parts n =
    parts
    head_lines (flat_map task_lines (tasks n)) (codes "total: int = 0" ∷ [])
    (map start_line (tasks n)) (map join_line (tasks n)) (codes "print(total)" ∷ [])

length-flat_map_five : (js : List ℕ) → length (flat_map task_lines js) ≡ 5 * length js
length-flat_map_five [] = refl
length-flat_map_five (j ∷ js) = let e = length-flat_map_five js in omega arith

pub length-stress_lines : (n : ℕ) → length (stress_lines n) ≡ 12 + 7 * n
length-stress_lines n =
    simp (length-append, length-flat_map_five, length-map, length-range_with_len) (omega arith)
