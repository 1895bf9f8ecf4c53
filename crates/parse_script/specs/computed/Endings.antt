-- computed: what the code of `ending_of` computes, which tells what a token is to what stands before it.
use Rattle.spelled_tokens.specs.declared.token.Mark.{Mark}
use Rattle.spelled_tokens.specs.declared.token.Mark.TheVariants as mark
use Rattle.spelled_tokens.specs.declared.token.What.{What}
use Rattle.spelled_tokens.specs.declared.token.What.TheVariants as what
use Rattle.parse_script.specs.declared.stage.Ending.{Ending}
use Rattle.parse_script.specs.declared.stage.Ending.TheVariants as ending

abbrev pub mark_ending : Mark → Ending
mark_ending mark.Newline = ending.Newline
mark_ending mark.Colon = ending.Colon
mark_ending mark.Equals = ending.Equals
mark_ending mark.Start = ending.Start
mark_ending mark.Elif = ending.Elif
mark_ending mark.Else = ending.Else
mark_ending _ = ending.Other

abbrev pub ending_of : What → Ending
ending_of what.Comma = ending.Comma
ending_of what.Close = ending.Close
ending_of what.Dot = ending.Dot
ending_of (what.Mark m) = mark_ending m
ending_of _ = ending.Other
