-- The command line: a command's word, its options, each at most once, and one last word.
use Rattle.std.specs.Prelude.{◌≡◌, ◌≢◌, ◌⊎◌, ◌≤◌, ◌^◌, ℕ, List, [], ◌∷◌, Contains, codes, decimal, string_bytes}
use Rattle.cast_machine.specs.declared.data.Settings.{Settings}
use Rattle.command_words.specs.Words.{Gives, IsAbsent, AreOnce}
use Rattle.command_words.specs.declared.command.Command.{Command}
use Rattle.command_words.specs.declared.command.Command.TheVariants as command

-- The number that an option asks for: what is given, in its range, written as `0` or as digits that don't begin with 0; or else
-- the default.
abbrev pub IsNumber : List ℕ → ℕ → ℕ → ℕ → List (List ℕ × List ℕ) → ℕ → Type 0
IsNumber name least most default options n =
    ((least ≤ n) × (n ≤ most) × Contains options (name, decimal n)) ⊎ (IsAbsent name options × (n ≡ default))

-- the limits of a run: fuel, heap and print
pub record AreSettings (options : List (List ℕ × List ℕ)) (s : Settings) : Type 0 where
  pub fuel : IsNumber (codes "fuel") 1 (2 ^ 40) 10000000 options s.fuel
  pub heap : IsNumber (codes "heap") 1 4194304 262144 options s.heap
  pub print : IsNumber (codes "print") 1 1048576 65536 options s.print

abbrev pub IsSeed : List (List ℕ × List ℕ) → ℕ → Type 0
IsSeed options n = IsNumber (codes "seed") 0 18446744073709551615 0 options n

-- the options of a run, and those of a run in a seed's order
abbrev pub run_options : List (List ℕ)
run_options = codes "fuel" ∷ codes "heap" ∷ codes "print" ∷ []

abbrev pub step_options : List (List ℕ)
step_options = codes "seed" ∷ run_options

-- the words give these options, each once, and this one last word
pub record Give (names : List (List ℕ)) (words : List (List ℕ)) (options : List (List ℕ × List ℕ)) (last : List ℕ) : Type 0 where
  pub gives : Gives names words options (last ∷ [])
  pub once : AreOnce options

-- they give a file alone
pub record GiveFile (words : List (List ℕ)) (file : List ℕ) : Type 0 where
  pub give : Give [] words [] file
  pub named : file ≢ []

-- the words ask for this command
abbrev pub IsCommandLine : List (List ℕ) → Command → Type 0
IsCommandLine [] c = ⊥
IsCommandLine (word ∷ words) (command.Check file) = (word ≡ codes "check") × GiveFile words (string_bytes file)
IsCommandLine (word ∷ words) (command.Show file) = (word ≡ codes "show") × GiveFile words (string_bytes file)
IsCommandLine (word ∷ words) (command.Casts file) = (word ≡ codes "casts") × GiveFile words (string_bytes file)
IsCommandLine (word ∷ words) (command.Types file) = (word ≡ codes "types") × GiveFile words (string_bytes file)
IsCommandLine (word ∷ words) (command.Step settings seed file) = (word ≡ codes "step") × (string_bytes file ≢ []) ×
    ((options : List (List ℕ × List ℕ)) × Give step_options words options (string_bytes file) ×
    AreSettings options settings × IsSeed options seed)
IsCommandLine (word ∷ words) (command.Run settings file) = (word ≡ codes "run") × (string_bytes file ≢ []) ×
    ((options : List (List ℕ × List ℕ)) × Give run_options words options (string_bytes file) × AreSettings options settings)
IsCommandLine (word ∷ words) (command.Stress settings seed n) = (word ≡ codes "stress") × (1 ≤ n) × (n ≤ 200) ×
    ((options : List (List ℕ × List ℕ)) × Give step_options words options (decimal n) ×
    AreSettings options settings × IsSeed options seed)

-- the words are no command line
abbrev pub IsUsage : List (List ℕ) → Type 0
IsUsage words = (c : Command) → IsCommandLine words c → ⊥

-- the same command, a file by its bytes
abbrev pub IsSame : Command → Command → Type 0
IsSame (command.Check file) (command.Check other) = string_bytes file ≡ string_bytes other
IsSame (command.Show file) (command.Show other) = string_bytes file ≡ string_bytes other
IsSame (command.Casts file) (command.Casts other) = string_bytes file ≡ string_bytes other
IsSame (command.Types file) (command.Types other) = string_bytes file ≡ string_bytes other
IsSame (command.Step s seed file) (command.Step t number other) = (s ≡ t) × (seed ≡ number) × (string_bytes file ≡ string_bytes other)
IsSame (command.Run s file) (command.Run t other) = (s ≡ t) × (string_bytes file ≡ string_bytes other)
IsSame (command.Stress s seed n) (command.Stress t number m) = (s ≡ t) × (seed ≡ number) × (n ≡ m)
IsSame _ _ = ⊥
