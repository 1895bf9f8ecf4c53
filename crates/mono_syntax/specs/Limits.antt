-- The limits of the language, each once, as `src/limits.rt` has them.
use Rattle.std.specs.Prelude.{ℕ}

-- the bytes of a script
abbrev pub most_bytes : ℕ
most_bytes = 1048576

-- the greatest integer, 2^47 - 1; the least is one below its negative
abbrev pub greatest_integer : ℕ
greatest_integer = 140737488355327

-- the weight of an expression or an annotation
abbrev pub greatest_weight : ℕ
greatest_weight = 100

-- the blocks in which a statement lies
abbrev pub most_blocks : ℕ
most_blocks = 50

-- the fields of a class
abbrev pub most_fields : ℕ
most_fields = 64

-- the parameters of a function or of a `Callable`
abbrev pub most_parameters : ℕ
most_parameters = 8

-- the arguments of a call, a `print` or a `start`
abbrev pub most_arguments : ℕ
most_arguments = 64

-- the names of a block
abbrev pub most_names : ℕ
most_names = 4096

-- the nodes of a type
abbrev pub most_nodes : ℕ
most_nodes = 1024

-- the depth of a type
abbrev pub greatest_depth : ℕ
greatest_depth = 32

-- the items of a thread
abbrev pub most_items : ℕ
most_items = 16384

-- the threads that a run makes, the main thread among them
abbrev pub most_threads : ℕ
most_threads = 256
