-- Words ask for one command at most.
use Rattle.std.proofs.Common.{◌≡◌, ◌<◌, ◌^◌, ◌∙◌, ℕ, refl, sym, List, [], ◌∷◌, Option, Some, None, codes, arith, decimal, string_bytes, String}
use Rattle.std.proofs.lemmas.Fmt.{decimal_injective}
use Rattle.clap.specs.Walk.{Row, Text, first_of}
use Rattle.clap.specs.Simple.{matches_of}
use Rattle.cast_machine.specs.declared.data.Settings.{Settings}
use Rattle.command_words.specs.CommandLine.{GiveFile, IsCommandLine, IsSame, run_options, step_options}
use Rattle.command_words.specs.computed.Parser.{parser_app}
use Rattle.command_words.specs.computed.Texts.{AreSettingsIn, IsNumberText}
use Rattle.command_words.specs.declared.command.Command.{Command}
use Rattle.command_words.specs.declared.command.Command.TheVariants as command
use Rattle.command_words.proofs.Rules.{other_bytes}
use Rattle.command_words.proofs.Commands.{file_taken, run_taken, step_taken, stress_taken}

number_same : (o : Option Text) (least most default a b : ℕ) → most < 2 ^ 64 → IsNumberText o least most default a
    → IsNumberText o least most default b → a ≡ b
number_same None least most default a b fits h k = h ∙ sym k
number_same (Some t) least most default a b fits h k = decimal_injective a b (omega (arith, h.1)) (omega (arith, k.1)) (sym h.2 ∙ k.2)

settings_same : (rs : List Row) (s t : Settings) → AreSettingsIn rs s → AreSettingsIn rs t → s ≡ t
settings_same rs s t h k =
    let fuel = number_same (first_of (codes "fuel") rs) 1 (2 ^ 40) 10000000 s.fuel t.fuel (omega arith) h.fuel k.fuel in
    let heap = number_same (first_of (codes "heap") rs) 1 4194304 262144 s.heap t.heap (omega arith) h.heap k.heap in
    let print = number_same (first_of (codes "print") rs) 1 1048576 65536 s.print t.print (omega arith) h.print k.print in
    λ i. record { fuel = fuel i; heap = heap i; print = print i }

file_same : (words a b : List _) → GiveFile words a → GiveFile words b → a ≡ b
file_same words a b g h = cc (sym (file_taken words a g).1.1 ∙ (file_taken words b h).1.1)

-- the word that stands for the command
word_of : Command → Text
word_of (command.Check f) = codes "check"
word_of (command.Show f) = codes "show"
word_of (command.Casts f) = codes "casts"
word_of (command.Types f) = codes "types"
word_of (command.Step s n f) = codes "step"
word_of (command.Run s f) = codes "run"
word_of (command.Stress s n k) = codes "stress"

line_word : (word : Text) (words : List Text) (c : Command) → IsCommandLine (word ∷ words) c → word ≡ word_of c
unfolding word_of
line_word word words (command.Check f) i = i.0
line_word word words (command.Show f) i = i.0
line_word word words (command.Casts f) i = i.0
line_word word words (command.Types f) i = i.0
line_word word words (command.Step s n f) i = i.0
line_word word words (command.Run s f) i = i.0
line_word word words (command.Stress s n k) i = i.0

step_same : (words : List Text) (s t : Settings) (n m : ℕ) (f g : String _) → IsCommandLine (codes "step" ∷ words) (command.Step s n f)
    → IsCommandLine (codes "step" ∷ words) (command.Step t m g) → IsSame (command.Step s n f) (command.Step t m g)
step_same words s t n m f g i j =
    let a = step_taken words s n f i in
    let b = step_taken words t m g j in
    let rs = matches_of (parser_app step_options) words in (
      settings_same rs s t a.1 b.1,
      number_same (first_of (codes "seed") rs) 0 18446744073709551615 0 n m (omega arith) a.2 b.2,
      cc
          (sym a.3.1 ∙ b.3.1),
    )

run_same : (words : List Text) (s t : Settings) (f g : String _) → IsCommandLine (codes "run" ∷ words) (command.Run s f)
    → IsCommandLine (codes "run" ∷ words) (command.Run t g) → IsSame (command.Run s f) (command.Run t g)
run_same words s t f g i j =
    let a = run_taken words s f i in
    let b = run_taken words t g j in
    (settings_same (matches_of (parser_app run_options) words) s t a.1 b.1, cc (sym a.2.1 ∙ b.2.1))

stress_same : (words : List Text) (s t : Settings) (n m k l : ℕ) → IsCommandLine (codes "stress" ∷ words) (command.Stress s n k)
    → IsCommandLine (codes "stress" ∷ words) (command.Stress t m l) → IsSame (command.Stress s n k) (command.Stress t m l)
stress_same words s t n m k l i j =
    let a = stress_taken words s n k i in
    let b = stress_taken words t m l j in
    let rs = matches_of (parser_app step_options) words in
    let same : decimal k ≡ decimal l = cc (sym a.3.2 ∙ b.3.2) in (
      settings_same rs s t a.1 b.1,
      number_same (first_of (codes "seed") rs) 0 18446744073709551615 0 n m (omega arith) a.2 b.2,
      decimal_injective k l (omega (arith, a.3.1)) (omega (arith, b.3.1)) same,
    )

one_of : (word : Text) (words : List Text) (c d : Command) → IsCommandLine (word ∷ words) c → IsCommandLine (word ∷ words) d → IsSame c d
unfolding word_of
one_of word words (command.Check f) (command.Check g) i j = file_same words (string_bytes f) (string_bytes g) i.1 j.1
one_of word words (command.Show f) (command.Show g) i j = file_same words (string_bytes f) (string_bytes g) i.1 j.1
one_of word words (command.Casts f) (command.Casts g) i j = file_same words (string_bytes f) (string_bytes g) i.1 j.1
one_of word words (command.Types f) (command.Types g) i j = file_same words (string_bytes f) (string_bytes g) i.1 j.1
one_of word words (command.Step s n f) (command.Step t m g) i j = step_same words s t n m f g (refl, i.1, i.2) (refl, j.1, j.2)
one_of word words (command.Run s f) (command.Run t g) i j = run_same words s t f g (refl, i.1, i.2) (refl, j.1, j.2)
one_of word words (command.Stress s n k) (command.Stress t m l) i j = stress_same words s t n m k l (refl, i.1, i.2, i.3)
    (refl, j.1, j.2, j.3)
one_of word words c d i j = other_bytes (word_of c) (word_of d) (sym (line_word word words c i) ∙ line_word word words d j) refl

pub one_command : (words : List Text) (c d : Command) → IsCommandLine words c → IsCommandLine words d → IsSame c d
one_command [] c d i j = absurd i
one_command (word ∷ words) c d i j = one_of word words c d i j
