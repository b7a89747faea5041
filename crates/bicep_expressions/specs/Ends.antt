-- The tokens that end an expression.
use Rattle.std.specs.Prelude.{Bool, None}
use Rattle.bicep_tree.specs.declared.terminal.Terminal.{Terminal}
use Rattle.bicep_tree.specs.declared.terminal.Terminal.TheVariants as t
use Rattle.bicep_machine.specs.Stack.{Next}
use Rattle.bicep_machine.specs.Closing.{Closed, paren_on, bracket_on, comma_on, brace_on, colon_on, middle_on, right_on}

-- where the end of an expression leads, once its operators are closed
abbrev pub ended_on : Bool → Closed → Terminal → Next
ended_on i c t.Colon = colon_on 64 i c
ended_on i c t.CloseParen = paren_on 64 c
ended_on i c t.CloseBracket = bracket_on 64 i c
ended_on i c t.Comma = comma_on 64 c
ended_on i c t.CloseBrace = brace_on 64 c
ended_on i c (t.MiddlePiece s) = middle_on 64 i s c
ended_on i c (t.RightPiece s) = right_on 64 i s c
ended_on i c x = None
