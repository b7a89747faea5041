use Rattle.std.proofs.Common.{map, sym, subst}
use Rattle.bicep_lexer.specs.Reading.{standing}
use Rattle.bicep_parser.specs.Refused.{EndsAt}
use Rattle.bicep_parser.proofs.Progress.{last_ends}
use Rattle.bicep_parser.proofs.parsing.end_of.Goals as goal

pub returns-in-Some : goal.returns-in-Some
returns-in-Some c =
    subst (EndsAt (map standing c.args.tokens.now)) (sym c.saturating_add.ensures)
    (last_ends c.args.tokens.now c.in-Some.token.now (sym c.in-Some.ensures.value))
