-- computed: what the code of `def_step` computes, which reads the head of a function one token at a time. The grammar is in Definitions.
use Rattle.std.specs.Prelude.{List, [], ◌∷◌, ◌++◌, Option, Some, None}
use Rattle.mono_syntax.specs.declared.leaf.Place.{Place}
use Rattle.mono_syntax.specs.declared.leaf.Word.{Word}
use Rattle.mono_syntax.specs.declared.tree.Param.{Param}
use Rattle.mono_syntax.specs.Ann.{Ann}
use Rattle.spelled_tokens.specs.declared.token.Mark.TheVariants as mark
use Rattle.spelled_tokens.specs.declared.token.Spelled.{Spelled}
use Rattle.spelled_tokens.specs.declared.token.What.{What}
use Rattle.spelled_tokens.specs.declared.token.What.TheVariants as what
use Rattle.parse_expr.specs.declared.machine.TypeMode.{TypeMode}
use Rattle.parse_expr.specs.declared.machine.TypeMode.TheVariants as type_mode
use Rattle.parse_expr.specs.declared.machine.Weighed.{Weighed}
use Rattle.parse_expr.specs.computed.TypeReading.{type_step, type_finish, IsLightType}
use Rattle.parse_expr.specs.Types.{word}
use Rattle.parse_script.specs.declared.stage.DefHead.{DefHead}
use Rattle.parse_script.specs.declared.stage.DefStage.{DefStage}
use Rattle.parse_script.specs.declared.stage.DefStage.TheVariants as stage
use Rattle.parse_script.specs.declared.stage.DefTurn.{DefTurn}
use Rattle.parse_script.specs.declared.stage.DefTurn.TheVariants as turn
use Rattle.parse_script.specs.declared.stage.Ending.{Ending}
use Rattle.parse_script.specs.declared.stage.Ending.TheVariants as ending
use Rattle.parse_script.specs.computed.Endings.{ending_of}
use Rattle.mono_syntax.specs.Limits.{greatest_weight}

abbrev pub def_head : Word → List Param → Option Ann → DefHead
def_head w xs a = record { name = w; params = xs; result = a }

abbrev pub param : Word → Option Ann → Param
param x a = record { name = x; ann = a }

-- behind `def`
abbrev pub def_word : Place → What → Option DefStage
def_word p (what.Name x) = Some (stage.Name (word x p))
def_word p _ = None

abbrev pub def_name : Word → What → Option DefStage
def_name w what.Open = Some (stage.Params w [])
def_name w _ = None

abbrev pub def_params : Word → List Param → Place → What → Option DefStage
def_params w xs p (what.Name x) = Some (stage.Param w xs (word x p))
def_params w xs p what.Close = Some (stage.Closed w xs)
def_params w xs p _ = None

-- behind a parameter
abbrev pub behind_param : Word → List Param → Ending → Option DefStage
behind_param w xs ending.Comma = Some (stage.Params w xs)
behind_param w xs ending.Close = Some (stage.Closed w xs)
behind_param w xs _ = None

-- behind the name of a parameter
abbrev pub def_param : Word → List Param → Word → Ending → Option DefStage
def_param w xs x ending.Colon = Some (stage.Type w xs x (type_mode.Want []))
def_param w xs x n = behind_param w (xs ++ (param x None ∷ [])) n

abbrev pub param_end : Word → List Param → Word → Option Weighed → Ending → Option DefStage
param_end w xs x (Some a) n = behind_param w (xs ++ (param x (Some a.ann) ∷ [])) n
param_end w xs x None n = None

-- in the type of a parameter: the type goes on, or ends
abbrev pub def_type : Word → List Param → Word → Option Weighed → Ending → Option TypeMode → Option DefStage
def_type w xs x o n (Some m) = Some (stage.Type w xs x m)
def_type w xs x o n None = param_end w xs x o n

-- behind the `)` of the parameters
abbrev pub def_closed : Word → List Param → What → Option DefStage
def_closed w xs (what.Mark mark.Arrow) = Some (stage.Result w xs (type_mode.Want []))
def_closed w xs (what.Mark mark.Colon) = Some (stage.Colon (def_head w xs None))
def_closed w xs _ = None

abbrev pub result_end : Word → List Param → Option Weighed → Ending → Option DefStage
result_end w xs (Some a) ending.Colon = Some (stage.Colon (def_head w xs (Some a.ann)))
result_end w xs _ _ = None

-- in the type of the result: the type goes on, or ends
abbrev pub def_result : Word → List Param → Option Weighed → Ending → Option TypeMode → Option DefStage
def_result w xs o n (Some m) = Some (stage.Result w xs m)
def_result w xs o n None = result_end w xs o n

-- behind the `:`
abbrev pub def_colon : DefHead → What → Option DefStage
def_colon h (what.Mark mark.Newline) = Some (stage.Line h)
def_colon h _ = None

abbrev pub def_line : DefHead → What → Option DefStage
def_line h (what.Mark mark.Indent) = Some (stage.Done h)
def_line h _ = None

abbrev pub def_step : DefStage → Spelled → Option DefStage
def_step stage.Word t = def_word t.place t.what
def_step (stage.Name w) t = def_name w t.what
def_step (stage.Params w xs) t = def_params w xs t.place t.what
def_step (stage.Param w xs x) t = def_param w xs x (ending_of t.what)
def_step (stage.Type w xs x m) t = def_type w xs x (type_finish m) (ending_of t.what) (type_step greatest_weight m t)
def_step (stage.Closed w xs) t = def_closed w xs t.what
def_step (stage.Result w xs m) t = def_result w xs (type_finish m) (ending_of t.what) (type_step greatest_weight m t)
def_step (stage.Colon h) t = def_colon h t.what
def_step (stage.Line h) t = def_line h t.what
def_step (stage.Done h) t = None

-- ---- what the code needs besides

abbrev pub IsLightDef : DefStage → Type 0
IsLightDef (stage.Type w xs x m) = IsLightType m
IsLightDef (stage.Result w xs m) = IsLightType m
IsLightDef _ = Unit {0}

abbrev pub def_turn : Option DefStage → DefTurn
def_turn None = turn.Stop
def_turn (Some s) = turn.Go s
