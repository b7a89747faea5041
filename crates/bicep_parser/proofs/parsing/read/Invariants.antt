use Rattle.std.proofs.Common.{map, drop}
use Rattle.bicep_lexer.specs.Reading.{standing}
use Rattle.bicep_machine.specs.Views.{state_of, frames_of}
use Rattle.bicep_parser.proofs.Progress.{Noted}
use Rattle.bicep_parser.proofs.parsing.read.Given as goal

-- so far the tokens lead here, and the place of a part that nests too deep is noted
abbrev pub invariant-loop-token : goal.invariant-loop-token
invariant-loop-token l = Noted (map standing l.tokens) (map standing (drop l.token-index l.tokens)) (state_of l.state)
    l.inside (frames_of l.stack.items) l.deep
