-- computed: what the code of `class_step` computes, which reads a class one token at a time. The grammar is in Definitions.
use Rattle.std.specs.Prelude.{List, [], ◌∷◌, ◌++◌, Option, Some, None}
use Rattle.mono_syntax.specs.declared.leaf.Place.{Place}
use Rattle.mono_syntax.specs.declared.leaf.Word.{Word}
use Rattle.mono_syntax.specs.declared.tree.ClassDef.{ClassDef}
use Rattle.mono_syntax.specs.declared.tree.FieldDef.{FieldDef}
use Rattle.mono_syntax.specs.Ann.{Ann}
use Rattle.spelled_tokens.specs.declared.token.Mark.TheVariants as mark
use Rattle.spelled_tokens.specs.declared.token.Spelled.{Spelled}
use Rattle.spelled_tokens.specs.declared.token.What.{What}
use Rattle.spelled_tokens.specs.declared.token.What.TheVariants as what
use Rattle.parse_expr.specs.declared.machine.TypeMode.{TypeMode}
use Rattle.parse_expr.specs.declared.machine.TypeMode.TheVariants as type_mode
use Rattle.parse_expr.specs.declared.machine.Weighed.{Weighed}
use Rattle.parse_expr.specs.computed.TypeReading.{type_step, type_finish, IsLightType}
use Rattle.parse_expr.specs.Types.{word}
use Rattle.parse_script.specs.declared.stage.ClassStage.{ClassStage}
use Rattle.parse_script.specs.declared.stage.ClassStage.TheVariants as stage
use Rattle.parse_script.specs.declared.stage.ClassTurn.{ClassTurn}
use Rattle.parse_script.specs.declared.stage.ClassTurn.TheVariants as turn
use Rattle.parse_script.specs.declared.stage.Ending.{Ending}
use Rattle.parse_script.specs.declared.stage.Ending.TheVariants as ending
use Rattle.parse_script.specs.computed.Endings.{ending_of}
use Rattle.mono_syntax.specs.Limits.{greatest_weight}

abbrev pub class_def : Word → List FieldDef → ClassDef
class_def w fs = record { name = w; fields = fs }

abbrev pub field_def : Word → Ann → FieldDef
field_def x a = record { name = x; ann = a }

-- behind `class`
abbrev pub class_word : Place → What → Option ClassStage
class_word p (what.Name x) = Some (stage.Name (word x p))
class_word p _ = None

abbrev pub class_name : Word → What → Option ClassStage
class_name w (what.Mark mark.Colon) = Some (stage.Colon w)
class_name w _ = None

abbrev pub class_colon : Word → What → Option ClassStage
class_colon w (what.Mark mark.Newline) = Some (stage.Line w)
class_colon w _ = None

abbrev pub class_line : Word → What → Option ClassStage
class_line w (what.Mark mark.Indent) = Some (stage.Body w)
class_line w _ = None

abbrev pub class_body : Word → Place → What → Option ClassStage
class_body w p (what.Name x) = Some (stage.Field w [] (word x p))
class_body w p (what.Mark mark.Pass) = Some (stage.Pass w)
class_body w p _ = None

abbrev pub class_pass : Word → What → Option ClassStage
class_pass w (what.Mark mark.Newline) = Some (stage.PassLine w)
class_pass w _ = None

abbrev pub class_pass_line : Word → What → Option ClassStage
class_pass_line w (what.Mark mark.Dedent) = Some (stage.Done (class_def w []))
class_pass_line w _ = None

-- behind the name of a field
abbrev pub class_field : Word → List FieldDef → Word → What → Option ClassStage
class_field w fs x (what.Mark mark.Colon) = Some (stage.Type w fs x (type_mode.Want []))
class_field w fs x _ = None

abbrev pub field_end : Word → List FieldDef → Word → Option Weighed → Ending → Option ClassStage
field_end w fs x (Some a) ending.Newline = Some (stage.Fields w (fs ++ (field_def x a.ann ∷ [])))
field_end w fs x _ _ = None

-- in the type of a field: the type goes on, or ends
abbrev pub class_type : Word → List FieldDef → Word → Option Weighed → Ending → Option TypeMode → Option ClassStage
class_type w fs x o n (Some m) = Some (stage.Type w fs x m)
class_type w fs x o n None = field_end w fs x o n

abbrev pub class_fields : Word → List FieldDef → Place → What → Option ClassStage
class_fields w fs p (what.Name x) = Some (stage.Field w fs (word x p))
class_fields w fs p (what.Mark mark.Dedent) = Some (stage.Done (class_def w fs))
class_fields w fs p _ = None

abbrev pub class_step : ClassStage → Spelled → Option ClassStage
class_step stage.Word t = class_word t.place t.what
class_step (stage.Name w) t = class_name w t.what
class_step (stage.Colon w) t = class_colon w t.what
class_step (stage.Line w) t = class_line w t.what
class_step (stage.Body w) t = class_body w t.place t.what
class_step (stage.Pass w) t = class_pass w t.what
class_step (stage.PassLine w) t = class_pass_line w t.what
class_step (stage.Field w fs x) t = class_field w fs x t.what
class_step (stage.Type w fs x m) t = class_type w fs x (type_finish m) (ending_of t.what) (type_step greatest_weight m t)
class_step (stage.Fields w fs) t = class_fields w fs t.place t.what
class_step (stage.Done c) t = None

-- ---- what the code needs besides

abbrev pub IsLightClass : ClassStage → Type 0
IsLightClass (stage.Type w fs x m) = IsLightType m
IsLightClass _ = Unit {0}

abbrev pub class_turn : Option ClassStage → ClassTurn
class_turn None = turn.Stop
class_turn (Some s) = turn.Go s
