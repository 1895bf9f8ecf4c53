-- Command lines, from what the parser reads of the words behind the command's word.
use Rattle.std.proofs.Common.{◌≡◌, ◌^◌, ◌∙◌, ℕ, true, refl, sym, ap, subst, inl, inr, List, [], ◌∷◌, map, Option, Some, codes, arith, decimal, string_bytes, String}
use Rattle.std.specs.List.{Contains}
use Rattle.std.proofs.lemmas.Str.{IsUtf8-string_bytes}
use Rattle.clap.specs.Walk.{Row, Text, first_of}
use Rattle.clap.specs.Simple.{App, matches_of}
use Rattle.clap.specs.Faults.{fault_of, is_simple_and_free}
use Rattle.cast_machine.specs.declared.data.Settings.{Settings}
use Rattle.command_words.specs.Words.{AreOnce, IsPlain}
use Rattle.command_words.specs.CommandLine.{AreSettings, Give, GiveFile, IsCommandLine, IsNumber, IsSeed, IsUsage, run_options, step_options}
use Rattle.command_words.specs.computed.Parser.{parser_app}
use Rattle.command_words.specs.computed.Texts.{AreSettingsIn, AreTasksIn, IsFileIn, IsNumberText, IsSeedIn}
use Rattle.command_words.specs.declared.command.Command.TheVariants as command
use Rattle.command_words.proofs.Rules.{Among, other_bytes}
use Rattle.command_words.proofs.Rows.{AreNames}
use Rattle.command_words.proofs.Parts.{AreUtf8, among}
use Rattle.command_words.proofs.Taken.{ArePlain}
use Rattle.command_words.proofs.Whole.{Reads, given_taken, no_names, parsed, run_names, step_names}
use Rattle.command_words.proofs.Numbers.{each_plain, gives_known, none_given, number_plain, number_text, text_number}

pub words_utf8 : {Z : Type 0} (ws : List (String Z)) → AreUtf8 (map (λ w. string_bytes w) ws)
words_utf8 [] = tt
words_utf8 (w ∷ ws) = (IsUtf8-string_bytes w, words_utf8 ws)

-- what the parser gave at `Ok`: no fault, and its rows
pub record Matched (names words : List Text) (rs : List Row) : Type 0 where
  pub clean : fault_of (parser_app names) words ≡ []
  pub rows : rs ≡ matches_of (parser_app names) words

pub matched : (names words : List Text) (app : App) (rs : List Row) → app ≡ parser_app names → is_simple_and_free (parser_app names) ≡ true
    → (is_simple_and_free app ≡ true → fault_of app words ≡ []) → (is_simple_and_free app ≡ true → rs ≡ matches_of app words)
    → Matched names words rs
matched names words app rs e simple clean rows =
    let s : is_simple_and_free app ≡ true = ap (λ (a : App). is_simple_and_free a) e ∙ simple in
    record { clean = ap (λ (a : App). fault_of a words) (sym e) ∙ clean s; rows = rows s ∙ ap (λ (a : App). matches_of a words) e }

-- ---- what the rows give

abbrev Read : List Text → List Text → List Row → Type 0
Read names words rs = (options : List (Text × Text)) × (last : Text) × Reads names words options last rs

read_of : (names : List Text) → AreNames names → (words : List Text) (rs : List Row) → AreUtf8 words → Matched names words rs
    → Read names words rs
read_of names ok words rs utf8 m =
    let p = parsed names ok words utf8 m.clean in
    (p.0, p.1, subst (λ (q : List Row). Reads names words p.0 p.1 q) (sym m.rows) p.2)

last_is : {names words : List Text} {os : List (Text × Text)} {l : Text} {rs : List Row} (t : Text) → Reads names words os l rs
    → first_of (codes "last") rs ≡ Some t → l ≡ t
last_is t r e = cc (sym r.ends_with ∙ e)

number_from : (names words : List Text) (os : List (Text × Text)) (l : Text) (rs : List Row) → Reads names words os l rs → (name : Text)
    → Among names name
    → (least most default n : ℕ) → IsNumberText (first_of name rs) least most default n → IsNumber name least most default os n
number_from names words os l rs r name known least most default n h =
    text_number name least most default os n (subst (λ (o : Option Text). IsNumberText o least most default n) (r.looks name known) h)

settings_from : (names words : List Text) (os : List (Text × Text)) (l : Text) (rs : List Row) → Reads names words os l rs
    → Among names (codes "fuel") → Among names (codes "heap") → Among names (codes "print") → (s : Settings) → AreSettingsIn rs s
    → AreSettings os s
settings_from names words os l rs r f h p s i = record {
  fuel = number_from names words os l rs r (codes "fuel") f 1 (2 ^ 40) 10000000 s.fuel i.fuel;
  heap = number_from names words os l rs r (codes "heap") h 1 4194304 262144 s.heap i.heap;
  print = number_from names words os l rs r (codes "print") p 1 1048576 65536 s.print i.print;
}

give_as : {names words : List Text} {os : List (Text × Text)} {l : Text} {rs : List Row} (t : Text) → Reads names words os l rs
    → first_of (codes "last") rs ≡ Some t → Give names words os t
give_as {names} {words} {os} t r e = subst (λ (k : Text). Give names words os k) (last_is t r e) r.give

pub file_line : (words : List Text) (rs : List Row) → AreUtf8 words → Matched [] words rs → (f : Text) → IsFileIn rs f → GiveFile words f
file_line words rs utf8 m f i =
    let r = read_of [] no_names words rs utf8 m in
    let g = give_as f r.2 i.1 in
    record { give = subst (λ (os : List (Text × Text)). Give [] words os f) (none_given g.gives) g; named = i.0 }

pub run_line : (words : List Text) (rs : List Row) → AreUtf8 words → Matched run_options words rs → (s : Settings) (f : String _)
    → AreSettingsIn rs s → IsFileIn rs (string_bytes f)
    → IsCommandLine (codes "run" ∷ words) (command.Run s f)
run_line words rs utf8 m s f i k =
    let r = read_of run_options run_names words rs utf8 m in (
      refl,
      k.0,
      (
        r.0,
        give_as (string_bytes f) r.2 k.1,
        settings_from run_options words r.0 r.1 rs r.2 (inl refl) (inr (inl refl))
            (inr (inr (inl refl))) s i,
      ),
    )

pub step_line : (words : List Text) (rs : List Row) → AreUtf8 words → Matched step_options words rs
    → (s : Settings) (n : ℕ) (f : String _) → AreSettingsIn rs s → IsSeedIn rs n
    → IsFileIn rs (string_bytes f) → IsCommandLine (codes "step" ∷ words) (command.Step s n f)
step_line words rs utf8 m s n f i j k =
    let r = read_of step_options step_names words rs utf8 m in (
      refl,
      k.0,
      (
        r.0,
        give_as (string_bytes f) r.2 k.1,
        settings_from step_options words r.0 r.1 rs r.2 (inr (inl refl)) (inr (inr (inl refl))) (inr (inr (inr (inl refl)))) s i,
        number_from step_options words r.0 r.1 rs r.2 (codes "seed") (inl refl) 0 18446744073709551615 0 n j,
      ),
    )

pub stress_line : (words : List Text) (rs : List Row) → AreUtf8 words → Matched step_options words rs → (s : Settings) (n t : ℕ)
    → AreSettingsIn rs s → IsSeedIn rs n
    → AreTasksIn rs t → IsCommandLine (codes "stress" ∷ words) (command.Stress s n t)
stress_line words rs utf8 m s n t i j k =
    let r = read_of step_options step_names words rs utf8 m in (
      refl,
      k.0,
      k.1,
      (
        r.0,
        give_as (decimal t) r.2 k.2,
        settings_from step_options words r.0 r.1 rs r.2 (inr (inl refl)) (inr (inr (inl refl))) (inr (inr (inr (inl refl)))) s i,
        number_from step_options words r.0 r.1 rs r.2 (codes "seed") (inl refl) 0 18446744073709551615 0 n j,
      ),
    )

-- ---- and what a command line asks of the rows

number_asked : (names words : List Text) (os : List (Text × Text)) (l : Text) (rs : List Row) → Reads names words os l rs → (name : Text)
    → Among names name
    → (least most default n : ℕ) → IsNumber name least most default os n → IsNumberText (first_of name rs) least most default n
number_asked names words os l rs r name known least most default n h =
    subst (λ (o : Option Text). IsNumberText o least most default n) (sym (r.looks name known))
    (number_text name least most default os n r.give.once h)

settings_asked : (names words : List Text) (os : List (Text × Text)) (l : Text) (rs : List Row) → Reads names words os l rs
    → Among names (codes "fuel") → Among names (codes "heap") → Among names (codes "print") → (s : Settings) → AreSettings os s
    → AreSettingsIn rs s
settings_asked names words os l rs r f h p s i = record {
  fuel = number_asked names words os l rs r (codes "fuel") f 1 (2 ^ 40) 10000000 s.fuel i.fuel;
  heap = number_asked names words os l rs r (codes "heap") h 1 4194304 262144 s.heap i.heap;
  print = number_asked names words os l rs r (codes "print") p 1 1048576 65536 s.print i.print;
}

run_plain : (os : List (Text × Text)) → AreOnce os → (s : Settings) → AreSettings os s → (n t : Text) → Among run_options n
    → Contains os (n, t) → IsPlain t
run_plain os once s i n t (inl e) c =
    number_plain (codes "fuel") 1 (2 ^ 40) 10000000 os s.fuel (omega arith) once i.fuel t
    (subst (λ (m : Text). Contains os (m, t)) (sym e) c)
run_plain os once s i n t (inr (inl e)) c =
    number_plain (codes "heap") 1 4194304 262144 os s.heap (omega arith) once i.heap t (subst (λ (m : Text). Contains os (m, t)) (sym e) c)
run_plain os once s i n t (inr (inr (inl e))) c =
    number_plain (codes "print") 1 1048576 65536 os s.print (omega arith) once i.print t
    (subst (λ (m : Text). Contains os (m, t)) (sym e) c)
run_plain os once s i n t (inr (inr (inr none))) c = absurd none

step_plain : (os : List (Text × Text)) → AreOnce os → (s : Settings) → AreSettings os s → (k : ℕ) → IsSeed os k → (n t : Text)
    → Among step_options n → Contains os (n, t) → IsPlain t
step_plain os once s i k j n t (inl e) c =
    number_plain (codes "seed") 0 18446744073709551615 0 os k (omega arith) once j t (subst (λ (m : Text). Contains os (m, t)) (sym e) c)
step_plain os once s i k j n t (inr known) c = run_plain os once s i n t known c

run_plains : (words : List Text) (os : List (Text × Text)) (l : Text) → Give run_options words os l → (s : Settings) → AreSettings os s
    → ArePlain os
run_plains words os l g s i = each_plain os (λ o c. run_plain os g.once s i o.0 o.1 (among run_options o.0 (gives_known g.gives o c)) c)

step_plains : (words : List Text) (os : List (Text × Text)) (l : Text) → Give step_options words os l → (s : Settings) → AreSettings os s
    → (k : ℕ) → IsSeed os k → ArePlain os
step_plains words os l g s i k j = each_plain os (λ o c. step_plain os g.once s i k j o.0 o.1
    (among step_options o.0 (gives_known g.gives o c)) c)

-- a file's words are taken
pub file_taken : (words : List Text) (f : Text) → GiveFile words f
    → (fault_of (parser_app []) words ≡ []) × IsFileIn (matches_of (parser_app []) words) f
file_taken words f g =
    let t = given_taken [] no_names words [] f g.give tt in
    (t.0, (g.named, t.1.ends_with))

pub run_taken : (words : List Text) (s : Settings) (f : String _) → IsCommandLine (codes "run" ∷ words) (command.Run s f)
    → (fault_of (parser_app run_options) words ≡ []) × AreSettingsIn (matches_of (parser_app run_options) words) s
    × IsFileIn (matches_of (parser_app run_options) words) (string_bytes f)
run_taken words s f (word, named, (os, give, settings)) =
    let t = given_taken run_options run_names words os (string_bytes f) give (run_plains words os (string_bytes f) give s settings) in (
      t.0,
      settings_asked run_options words os (string_bytes f) (matches_of (parser_app run_options) words) t.1 (inl refl) (inr (inl refl))
          (inr (inr (inl refl))) s settings,
      (named, t.1.ends_with),
    )

-- what a step's or a stress run's words give is taken
abbrev StepTaken : List Text → Settings → ℕ → Text → Type 0
StepTaken words s n l = (fault_of (parser_app step_options) words ≡ []) × AreSettingsIn (matches_of (parser_app step_options) words) s
    × IsSeedIn (matches_of (parser_app step_options) words) n
    × (first_of (codes "last") (matches_of (parser_app step_options) words) ≡ Some l)

seeded_taken : (words : List Text) (s : Settings) (n : ℕ) (l : Text) (os : List (Text × Text)) → Give step_options words os l
    → AreSettings os s → IsSeed os n → StepTaken words s n l
seeded_taken words s n l os give settings seed =
    let t = given_taken step_options step_names words os l give (step_plains words os l give s settings n seed) in
    let rs = matches_of (parser_app step_options) words in (
      t.0,
      settings_asked step_options words os l rs t.1 (inr (inl refl)) (inr (inr (inl refl))) (inr (inr (inr (inl refl)))) s settings,
      number_asked step_options words os l rs t.1 (codes "seed") (inl refl) 0 18446744073709551615 0 n seed,
      t.1.ends_with,
    )

pub step_taken : (words : List Text) (s : Settings) (n : ℕ) (f : String _) → IsCommandLine (codes "step" ∷ words) (command.Step s n f)
    → (fault_of (parser_app step_options) words ≡ []) × AreSettingsIn (matches_of (parser_app step_options) words) s
    × IsSeedIn (matches_of (parser_app step_options) words) n × IsFileIn (matches_of (parser_app step_options) words) (string_bytes f)
step_taken words s n f (word, named, (os, give, settings, seed)) =
    let t = seeded_taken words s n (string_bytes f) os give settings seed in
    (t.0, t.1, t.2, (named, t.3))

pub stress_taken : (words : List Text) (s : Settings) (n k : ℕ) → IsCommandLine (codes "stress" ∷ words) (command.Stress s n k)
    → (fault_of (parser_app step_options) words ≡ []) × AreSettingsIn (matches_of (parser_app step_options) words) s
    × IsSeedIn (matches_of (parser_app step_options) words) n × AreTasksIn (matches_of (parser_app step_options) words) k
stress_taken words s n k (word, low, high, (os, give, settings, seed)) =
    let t = seeded_taken words s n (decimal k) os give settings seed in
    (t.0, t.1, t.2, (low, high, t.3))

-- ---- the command's word tells the command

pub only_run : (words : List Text) → ((s : Settings) (f : String _) → IsCommandLine (codes "run" ∷ words) (command.Run s f) → ⊥)
    → IsUsage (codes "run" ∷ words)
only_run words h (command.Check f) i = other_bytes (codes "run") (codes "check") i.0 refl
only_run words h (command.Show f) i = other_bytes (codes "run") (codes "show") i.0 refl
only_run words h (command.Casts f) i = other_bytes (codes "run") (codes "casts") i.0 refl
only_run words h (command.Types f) i = other_bytes (codes "run") (codes "types") i.0 refl
only_run words h (command.Step s n f) i = other_bytes (codes "run") (codes "step") i.0 refl
only_run words h (command.Run s f) i = h s f i
only_run words h (command.Stress s n k) i = other_bytes (codes "run") (codes "stress") i.0 refl

pub only_step : (words : List Text) → ((s : Settings) (n : ℕ) (f : String _) → IsCommandLine (codes "step" ∷ words) (command.Step s n f)
    → ⊥) → IsUsage (codes "step" ∷ words)
only_step words h (command.Check f) i = other_bytes (codes "step") (codes "check") i.0 refl
only_step words h (command.Show f) i = other_bytes (codes "step") (codes "show") i.0 refl
only_step words h (command.Casts f) i = other_bytes (codes "step") (codes "casts") i.0 refl
only_step words h (command.Types f) i = other_bytes (codes "step") (codes "types") i.0 refl
only_step words h (command.Step s n f) i = h s n f i
only_step words h (command.Run s f) i = other_bytes (codes "step") (codes "run") i.0 refl
only_step words h (command.Stress s n k) i = other_bytes (codes "step") (codes "stress") i.0 refl

pub only_stress : (words : List Text) → ((s : Settings) (n k : ℕ) → IsCommandLine (codes "stress" ∷ words) (command.Stress s n k) → ⊥)
    → IsUsage (codes "stress" ∷ words)
only_stress words h (command.Check f) i = other_bytes (codes "stress") (codes "check") i.0 refl
only_stress words h (command.Show f) i = other_bytes (codes "stress") (codes "show") i.0 refl
only_stress words h (command.Casts f) i = other_bytes (codes "stress") (codes "casts") i.0 refl
only_stress words h (command.Types f) i = other_bytes (codes "stress") (codes "types") i.0 refl
only_stress words h (command.Step s n f) i = other_bytes (codes "stress") (codes "step") i.0 refl
only_stress words h (command.Run s f) i = other_bytes (codes "stress") (codes "run") i.0 refl
only_stress words h (command.Stress s n k) i = h s n k i

-- ---- a fault of the parser

-- where words are refused for usage, they have a fault
pub refused : (names words : List Text) (app : App) → app ≡ parser_app names → is_simple_and_free (parser_app names) ≡ true
    → (is_simple_and_free app ≡ true → fault_of app words ≡ [] → ⊥) → fault_of (parser_app names) words ≡ [] → ⊥
refused names words app e simple h clean =
    h (ap (λ (a : App). is_simple_and_free a) e ∙ simple) (ap (λ (a : App). fault_of a words) e ∙ clean)
