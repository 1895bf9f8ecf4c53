-- The text of the stress script with n tasks.
use Rattle.std.specs.Prelude.{ℕ, List, [], ◌∷◌, ◌++◌, map, flat_map, codes, decimal}
use Rattle.std.specs.List.{range_with_len}

-- an untyped and a typed class, and a function that counts up an object's field
abbrev pub head_lines : List (List ℕ)
head_lines =
    codes "class Cell:" ∷
    codes "    n: Dyn" ∷
    codes "class Num:" ∷
    codes "    n: int" ∷
    codes "def bump(c, k: int) -> int:" ∷
    codes "    i: int = 0" ∷
    codes "    while i < k:" ∷
    codes "        c.n = c.n + 1" ∷
    codes "        i = i + 1" ∷
    codes "    return i" ∷ []

-- the function of task j, whose object begins at j
abbrev pub task_lines : ℕ → List (List ℕ)
task_lines j =
    (codes "def task_" ++ decimal j ++ codes "(k: int) -> int:") ∷
    (codes "    c: Dyn = Cell(" ++ decimal j ++ codes ")") ∷
    codes "    d: Num = cast(Num, c)" ∷
    codes "    bump(c, k)" ∷
    codes "    return d.n" ∷ []

-- task j is started, to count up by 100
abbrev pub start_line : ℕ → List ℕ
start_line j = codes "t_" ++ decimal j ++ codes " = start(task_" ++ decimal j ++ codes ", 100)"

-- what task j gives is added
abbrev pub join_line : ℕ → List ℕ
join_line j = codes "total = total + join(t_" ++ decimal j ++ codes ")"

-- the numbers of n tasks, 1 to n
abbrev pub tasks : ℕ → List ℕ
tasks n = range_with_len 1 n

-- the functions of all tasks, then their starts, then their joins
abbrev pub stress_lines : ℕ → List (List ℕ)
stress_lines n =
    head_lines ++
    flat_map task_lines (tasks n) ++
    (codes "total: int = 0" ∷ []) ++
    map start_line (tasks n) ++
    map join_line (tasks n) ++
    (codes "print(total)" ∷ [])

-- a line feed ends each line
abbrev pub lines_text : List (List ℕ) → List ℕ
lines_text [] = []
lines_text (l ∷ ls) = l ++ (10 ∷ lines_text ls)

abbrev pub stress_text : ℕ → List ℕ
stress_text n = lines_text (stress_lines n)
