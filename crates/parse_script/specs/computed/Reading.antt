-- computed: what the code of `script_step` computes, which reads a script one token at a time. The grammar is in Statements,
-- Definitions and Script.
use Rattle.std.specs.Prelude.{ℕ, suc, ◌+◌, Bool, true, false, List, [], ◌∷◌, ◌++◌, length, Option, Some, None, nat_lt}
use Rattle.mono_syntax.specs.declared.leaf.Place.{Place}
use Rattle.mono_syntax.specs.declared.leaf.Word.{Word}
use Rattle.mono_syntax.specs.declared.tree.Branch.{Branch}
use Rattle.mono_syntax.specs.declared.tree.FuncDef.{FuncDef}
use Rattle.mono_syntax.specs.declared.tree.Item.{Item}
use Rattle.mono_syntax.specs.declared.tree.Item.TheVariants as item
use Rattle.mono_syntax.specs.Expr as expr
use Rattle.mono_syntax.specs.Expr.{Expr}
use Rattle.mono_syntax.specs.ExprView.{exprs}
use Rattle.mono_syntax.specs.Stmt as stmt
use Rattle.mono_syntax.specs.Stmt.{Stmt}
use Rattle.mono_syntax.specs.StmtView.{block, branches}
use Rattle.spelled_tokens.specs.declared.token.Mark.{Mark}
use Rattle.spelled_tokens.specs.declared.token.Mark.TheVariants as mark
use Rattle.spelled_tokens.specs.declared.token.Spelled.{Spelled}
use Rattle.spelled_tokens.specs.declared.token.What.{What}
use Rattle.spelled_tokens.specs.declared.token.What.TheVariants as what
use Rattle.parse_expr.specs.declared.machine.Frame.{Frame}
use Rattle.parse_expr.specs.declared.machine.Mode.{Mode}
use Rattle.parse_expr.specs.declared.machine.Mode.TheVariants as mode
use Rattle.parse_expr.specs.declared.machine.TypeMode.{TypeMode}
use Rattle.parse_expr.specs.declared.machine.TypeMode.TheVariants as type_mode
use Rattle.parse_expr.specs.declared.machine.Weighed.{Weighed}
use Rattle.parse_expr.specs.computed.Reading.{step, finish, held, IsLightMode}
use Rattle.parse_expr.specs.computed.TypeReading.{type_step, type_finish, IsLightType}
use Rattle.parse_expr.specs.Types.{word}
use Rattle.parse_script.specs.declared.stage.Around.{Around}
use Rattle.parse_script.specs.declared.stage.ClassStage.{ClassStage}
use Rattle.parse_script.specs.declared.stage.ClassStage.TheVariants as class_stage
use Rattle.parse_script.specs.declared.stage.DefHead.{DefHead}
use Rattle.parse_script.specs.declared.stage.DefStage.{DefStage}
use Rattle.parse_script.specs.declared.stage.DefStage.TheVariants as def_stage
use Rattle.parse_script.specs.declared.stage.Ending.{Ending}
use Rattle.parse_script.specs.declared.stage.Ending.TheVariants as ending
use Rattle.parse_script.specs.declared.stage.Floor.{Floor}
use Rattle.parse_script.specs.declared.stage.Floor.TheVariants as floor
use Rattle.parse_script.specs.declared.stage.Head.{Head}
use Rattle.parse_script.specs.declared.stage.Head.TheVariants as head
use Rattle.parse_script.specs.declared.stage.Listed.{Listed}
use Rattle.parse_script.specs.declared.stage.Listed.TheVariants as listed
use Rattle.parse_script.specs.declared.stage.Opened.{Opened}
use Rattle.parse_script.specs.declared.stage.Opened.TheVariants as opened
use Rattle.parse_script.specs.declared.stage.Stage.{Stage}
use Rattle.parse_script.specs.declared.stage.Stage.TheVariants as stage
use Rattle.parse_script.specs.declared.stage.Turn.{Turn}
use Rattle.parse_script.specs.declared.stage.Turn.TheVariants as turn
use Rattle.parse_script.specs.declared.stage.Use.{Use}
use Rattle.parse_script.specs.declared.stage.Use.TheVariants as for_
use Rattle.parse_script.specs.computed.ClassReading.{class_step, IsLightClass}
use Rattle.parse_script.specs.computed.DefReading.{def_step, IsLightDef}
use Rattle.parse_script.specs.computed.Endings.{ending_of}
use Rattle.mono_syntax.specs.Limits.{greatest_weight, most_blocks}
use Rattle.parse_script.specs.Statements.{branch}

-- ---- where statements stand

abbrev pub around : Floor → List Opened → List Stmt → Around
around f k done = record { floor = f; opened = k; done = done }

-- the script's own block, behind these items
abbrev pub top : List Item → Around
top is = around (floor.Script is) [] []

abbrev pub is_def : Floor → Bool
is_def (floor.Script is) = false
is_def (floor.Def is h) = true

abbrev pub floor_depth : Floor → ℕ
floor_depth (floor.Script is) = 0
floor_depth (floor.Def is h) = 1

-- how many blocks are round a statement
abbrev pub depth : Around → ℕ
depth a = length a.opened + floor_depth a.floor

-- behind one more statement
abbrev pub added_to : Floor → List Opened → List Stmt → Stmt → Around
added_to f (o ∷ k) done s = around f (o ∷ k) (done ++ (s ∷ []))
added_to (floor.Def is h) [] done s = around (floor.Def is h) [] (done ++ (s ∷ []))
added_to (floor.Script is) [] done s = top (is ++ (item.Stmt s ∷ []))

abbrev pub added : Around → Stmt → Around
added a s = added_to a.floor a.opened a.done s

abbrev pub added_stage : Around → Stmt → Stage
added_stage a s = stage.Start (added a s)

-- in a block that begins
abbrev pub entered : Around → Head → Around
entered a (head.While e) = around a.floor (opened.While a.done e ∷ a.opened) []
entered a (head.Branch bs e) = around a.floor (opened.Branch a.done bs e ∷ a.opened) []
entered a (head.Else bs) = around a.floor (opened.Else a.done bs ∷ a.opened) []

abbrev pub func_def : DefHead → List Stmt → FuncDef
func_def h ss = record { name = h.name; params = h.params; result = h.result; body = ss }

-- behind a block that ends, with these statements
abbrev pub left_block : Floor → List Opened → List Stmt → Option Stage
left_block f (opened.While before e ∷ k) ss = Some (added_stage (around f k before) (stmt.loop e (block ss)))
left_block f (opened.Branch before bs e ∷ k) ss = Some (stage.Behind (around f k before) (bs ++ (branch e ss ∷ [])))
left_block f (opened.Else before bs ∷ k) ss = Some (added_stage (around f k before) (stmt.if_any (branches bs) (stmt.otherwise (block ss))))
left_block (floor.Def is h) [] ss = Some (stage.Start (top (is ++ (item.Def (func_def h ss) ∷ []))))
left_block (floor.Script is) [] ss = None

-- a block has at least one statement
abbrev pub left : Floor → List Opened → List Stmt → Option Stage
left f k [] = None
left f k (s ∷ ss) = left_block f k (s ∷ ss)

-- the items before, where the script's own block is the innermost one
abbrev pub outermost : Floor → List Opened → Option (List Item)
outermost (floor.Script is) [] = Some is
outermost _ _ = None

abbrev pub end_when : Option (List Item) → Option Stage
end_when None = None
end_when (Some is) = Some (stage.Ended is)

abbrev pub end_at : Floor → List Opened → Option Stage
end_at f k = end_when (outermost f k)

abbrev pub class_when : Option (List Item) → Option Stage
class_when None = None
class_when (Some is) = Some (stage.Class is class_stage.Word)

abbrev pub class_at : Floor → List Opened → Option Stage
class_at f k = class_when (outermost f k)

abbrev pub def_when : Option (List Item) → Option Stage
def_when None = None
def_when (Some is) = Some (stage.Def is def_stage.Word)

abbrev pub def_at : Floor → List Opened → Option Stage
def_at f k = def_when (outermost f k)

-- ---- what stands behind an expression

abbrev pub stage_if : Bool → Stage → Option Stage
stage_if true s = Some s
stage_if false s = None

-- an expression that was read for something, and this behind it
abbrev pub is_newline : Ending → Bool
is_newline ending.Newline = true
is_newline _ = false

-- the statement that an expression is the last part of
abbrev pub ended_line : Around → Stmt → Ending → Option Stage
ended_line a x n = stage_if (is_newline n) (added_stage a x)

-- the head that an expression is the condition of
abbrev pub ended_head : Around → Head → Ending → Option Stage
ended_head a h ending.Colon = Some (stage.HeadLine a h)
ended_head a h _ = None

abbrev pub behind_used : Around → Use → Expr → Ending → Option Stage
behind_used a (for_.Assign x t) e n = ended_line a (stmt.assign x t e) n
behind_used a (for_.Write o x) e n = ended_line a (stmt.write o x e) n
behind_used a (for_.Return p) e n = ended_line a (stmt.give p (Some e)) n
behind_used a for_.While e n = ended_head a (head.While e) n
behind_used a (for_.Branch bs) e n = ended_head a (head.Branch bs e) n

abbrev pub behind_found : Around → Use → Option Expr → Ending → Option Stage
behind_found a u None n = None
behind_found a u (Some e) n = behind_used a u e n

-- in an expression that is read for something: it goes on, or ends
abbrev pub inside_next : Around → Use → Option Expr → Ending → Option Mode → Option Stage
inside_next a u o n (Some m) = Some (stage.Inside a u m)
inside_next a u o n None = behind_found a u o n

abbrev pub inside_step : Around → Use → Mode → Spelled → Option Stage
inside_step a u m t = inside_next a u (finish m) (ending_of t.what) (step greatest_weight m t)

-- an expression for this begins
abbrev pub inside : Around → Use → Stage
inside a u = stage.Inside a u (mode.Want [])

-- ---- arguments

-- the statement of arguments in brackets: a start has at least its callee
abbrev pub listed_stage : Around → Listed → List Expr → Option Stage
listed_stage a (listed.Print p) es = Some (stage.Line (added a (stmt.print p (exprs es))))
listed_stage a (listed.Start x p) (e ∷ es) = Some (stage.Line (added a (stmt.start x p e (exprs es))))
listed_stage a (listed.Start x p) [] = None

abbrev pub behind_argument : Around → Listed → List Expr → Ending → Option Stage
behind_argument a l es ending.Comma = Some (stage.Listing a l es)
behind_argument a l es ending.Close = listed_stage a l es
behind_argument a l es _ = None

abbrev pub found_argument : Around → Listed → List Expr → Option Expr → Ending → Option Stage
found_argument a l es None n = None
found_argument a l es (Some e) n = behind_argument a l (es ++ (e ∷ [])) n

abbrev pub argument_next : Around → Listed → List Expr → Option Expr → Ending → Option Mode → Option Stage
argument_next a l es o n (Some m) = Some (stage.Argument a l es m)
argument_next a l es o n None = found_argument a l es o n

abbrev pub argument_step : Around → Listed → List Expr → Mode → Spelled → Option Stage
argument_step a l es m t = argument_next a l es (finish m) (ending_of t.what) (step greatest_weight m t)

abbrev pub listing_at : Around → Listed → List Expr → Ending → Option Stage → Option Stage
listing_at a l es ending.Close o = listed_stage a l es
listing_at a l es _ o = o

abbrev pub listing_step : Around → Listed → List Expr → Spelled → Option Stage
listing_step a l es t = listing_at a l es (ending_of t.what) (argument_step a l es (mode.Want []) t)

abbrev pub print_word : Around → Place → What → Option Stage
print_word a p what.Open = Some (stage.Listing a (listed.Print p) [])
print_word a p _ = None

abbrev pub start_word : Around → Word → Place → What → Option Stage
start_word a x p what.Open = Some (stage.Listing a (listed.Start x p) [])
start_word a x p _ = None

-- ---- statements that an expression begins

abbrev pub plain_found : Around → Option Expr → Ending → Option Stage
plain_found a (Some e) ending.Newline = Some (added_stage a (stmt.plain e))
plain_found a _ _ = None

abbrev pub plain_next : Around → Option Expr → Ending → Option Mode → Option Stage
plain_next a o n (Some m) = Some (stage.Plain a m)
plain_next a o n None = plain_found a o n

abbrev pub plain_on : Around → Mode → Spelled → Option Stage
plain_on a m t = plain_next a (finish m) (ending_of t.what) (step greatest_weight m t)

-- behind a `.` where no bracket or operator is open, what was read may be the receiver of a target
abbrev pub plain_held : Around → List Frame → Expr → ℕ → Ending → Option Stage → Option Stage
plain_held a [] e w ending.Dot o = Some (stage.Dotted a e w)
plain_held a k e w n o = o

abbrev pub plain_at : Around → Mode → Ending → Option Stage → Option Stage
plain_at a (mode.Have h) n o = plain_held a h.stack h.tree h.weight n o
plain_at a m n o = o

abbrev pub plain_step : Around → Mode → Spelled → Option Stage
plain_step a m t = plain_at a m (ending_of t.what) (plain_on a m t)

abbrev pub dotted_step : Around → Expr → ℕ → Place → What → Option Stage
dotted_step a o w p (what.Name x) = Some (stage.Target a o w (word x p))
dotted_step a o w p _ = None

-- a target is no expression; what goes on as one is an attribute, which weighs one more than its receiver
abbrev pub attribute_step : Bool → Around → Expr → ℕ → Word → Spelled → Option Stage
attribute_step true a o w x t = plain_step a (mode.Have (held [] (expr.read o x) (suc w))) t
attribute_step false a o w x t = None

abbrev pub target_at : Around → Expr → Word → Ending → Option Stage → Option Stage
target_at a o x ending.Equals s = Some (inside a (for_.Write o x))
target_at a o x _ s = s

abbrev pub target_step : Around → Expr → ℕ → Word → Spelled → Option Stage
target_step a o w x t = target_at a o x (ending_of t.what) (attribute_step (nat_lt w greatest_weight) a o w x t)

abbrev pub named_at : Around → Word → Ending → Option Stage → Option Stage
named_at a x ending.Equals s = Some (stage.Assigning a x)
named_at a x ending.Colon s = Some (stage.Typed a x (type_mode.Want []))
named_at a x _ s = s

abbrev pub named_step : Around → Word → Spelled → Option Stage
named_step a x t = named_at a x (ending_of t.what) (plain_step a (mode.Have (held [] (expr.local x) 1)) t)

abbrev pub assigning_at : Around → Word → Ending → Option Stage → Option Stage
assigning_at a x ending.Start o = Some (stage.StartWord a x)
assigning_at a x _ o = o

abbrev pub assigning_step : Around → Word → Spelled → Option Stage
assigning_step a x t = assigning_at a x (ending_of t.what) (inside_step a (for_.Assign x None) (mode.Want []) t)

abbrev pub typed_end : Around → Word → Option Weighed → Ending → Option Stage
typed_end a x (Some t) ending.Equals = Some (inside a (for_.Assign x (Some t.ann)))
typed_end a x _ _ = None

abbrev pub typed_next : Around → Word → Option Weighed → Ending → Option TypeMode → Option Stage
typed_next a x o w (Some m) = Some (stage.Typed a x m)
typed_next a x o w None = typed_end a x o w

abbrev pub typed_step : Around → Word → TypeMode → Spelled → Option Stage
typed_step a x m t = typed_next a x (type_finish m) (ending_of t.what) (type_step greatest_weight m t)

abbrev pub returning_at : Around → Place → Ending → Option Stage → Option Stage
returning_at a p ending.Newline o = Some (added_stage a (stmt.give p None))
returning_at a p _ o = o

abbrev pub returning_step : Around → Place → Spelled → Option Stage
returning_step a p t = returning_at a p (ending_of t.what) (inside_step a (for_.Return p) (mode.Want []) t)

-- ---- the beginning of a statement

abbrev pub start_mark : Around → Place → Mark → Option Stage
start_mark a p mark.Pass = Some (stage.Line (added a stmt.pass))
start_mark a p mark.Return = stage_if (is_def a.floor) (stage.Returning a p)
start_mark a p mark.Print = Some (stage.PrintWord a)
start_mark a p mark.If = stage_if (nat_lt (depth a) most_blocks) (inside a (for_.Branch []))
start_mark a p mark.While = stage_if (nat_lt (depth a) most_blocks) (inside a for_.While)
start_mark a p mark.Class = class_at a.floor a.opened
start_mark a p mark.Def = def_at a.floor a.opened
start_mark a p mark.Dedent = left a.floor a.opened a.done
start_mark a p mark.End = end_at a.floor a.opened
start_mark a p _ = None

abbrev pub start_at : Around → Place → What → Option Stage → Option Stage
start_at a p (what.Name x) o = Some (stage.Named a (word x p))
start_at a p (what.Mark m) o = start_mark a p m
start_at a p _ o = o

abbrev pub start_step : Around → Spelled → Option Stage
start_step a t = start_at a t.place t.what (plain_on a (mode.Want []) t)

-- behind the block of an `if` or `elif`
abbrev pub behind_at : Around → List Branch → Ending → Option Stage → Option Stage
behind_at a bs ending.Elif o = Some (inside a (for_.Branch bs))
behind_at a bs ending.Else o = Some (stage.HeadColon a (head.Else bs))
behind_at a bs _ o = o

abbrev pub behind_step : Around → List Branch → Spelled → Option Stage
behind_step a bs t = behind_at a bs (ending_of t.what) (start_step (added a (stmt.if_any (branches bs) stmt.no_else)) t)

-- ---- fixed tokens

-- behind a simple statement
abbrev pub line_step : Around → What → Option Stage
line_step a (what.Mark mark.Newline) = Some (stage.Start a)
line_step a _ = None

abbrev pub head_colon : Around → Head → What → Option Stage
head_colon a h (what.Mark mark.Colon) = Some (stage.HeadLine a h)
head_colon a h _ = None

abbrev pub head_line : Around → Head → What → Option Stage
head_line a h (what.Mark mark.Newline) = Some (stage.HeadBlock a h)
head_line a h _ = None

abbrev pub head_block : Around → Head → What → Option Stage
head_block a h (what.Mark mark.Indent) = Some (stage.Start (entered a h))
head_block a h _ = None

-- ---- classes and functions

abbrev pub class_stage_of : List Item → ClassStage → Stage
class_stage_of is (class_stage.Done c) = stage.Start (top (is ++ (item.Class c ∷ [])))
class_stage_of is m = stage.Class is m

abbrev pub class_next : List Item → Option ClassStage → Option Stage
class_next is None = None
class_next is (Some m) = Some (class_stage_of is m)

abbrev pub def_stage_of : List Item → DefStage → Stage
def_stage_of is (def_stage.Done h) = stage.Start (around (floor.Def is h) [] [])
def_stage_of is m = stage.Def is m

abbrev pub def_next : List Item → Option DefStage → Option Stage
def_next is None = None
def_next is (Some m) = Some (def_stage_of is m)

-- ---- all stages

abbrev pub script_step : Stage → Spelled → Option Stage
script_step (stage.Start a) t = start_step a t
script_step (stage.Behind a bs) t = behind_step a bs t
script_step (stage.Line a) t = line_step a t.what
script_step (stage.Named a x) t = named_step a x t
script_step (stage.Plain a m) t = plain_step a m t
script_step (stage.Dotted a o w) t = dotted_step a o w t.place t.what
script_step (stage.Target a o w x) t = target_step a o w x t
script_step (stage.Typed a x m) t = typed_step a x m t
script_step (stage.Assigning a x) t = assigning_step a x t
script_step (stage.Returning a p) t = returning_step a p t
script_step (stage.Inside a u m) t = inside_step a u m t
script_step (stage.PrintWord a) t = print_word a t.place t.what
script_step (stage.StartWord a x) t = start_word a x t.place t.what
script_step (stage.Listing a l es) t = listing_step a l es t
script_step (stage.Argument a l es m) t = argument_step a l es m t
script_step (stage.HeadColon a h) t = head_colon a h t.what
script_step (stage.HeadLine a h) t = head_line a h t.what
script_step (stage.HeadBlock a h) t = head_block a h t.what
script_step (stage.Class is m) t = class_next is (class_step m t)
script_step (stage.Def is m) t = def_next is (def_step m t)
script_step (stage.Ended is) t = None

-- ---- what the code needs besides

abbrev pub IsLightStage : Stage → Type 0
IsLightStage (stage.Plain a m) = IsLightMode m
IsLightStage (stage.Inside a u m) = IsLightMode m
IsLightStage (stage.Argument a l es m) = IsLightMode m
IsLightStage (stage.Typed a x m) = IsLightType m
IsLightStage (stage.Class is m) = IsLightClass m
IsLightStage (stage.Def is m) = IsLightDef m
IsLightStage _ = Unit {0}

abbrev pub stage_turn : Stage → Turn
stage_turn (stage.Ended is) = turn.Done is
stage_turn s = turn.Go s

abbrev pub turn_of : Option Stage → Turn
turn_of None = turn.Stop
turn_of (Some s) = stage_turn s
