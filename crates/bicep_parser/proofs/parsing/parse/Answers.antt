use Rattle.bicep_parser.proofs.Answering.{spelled, shallow, refused}
use Rattle.std.proofs.Common.{map}
use Rattle.bicep_lexer.specs.Reading.{standing}
use Rattle.bicep_parser.proofs.parsing.parse.Goals as goal

pub returns-clause-spelled : goal.returns-clause-spelled
returns-clause-spelled c = spelled (map standing c.args.tokens.now) c.parsed.result c.parsed.ensures.answers

pub returns-clause-shallow : goal.returns-clause-shallow
returns-clause-shallow c = shallow (map standing c.args.tokens.now) c.parsed.result c.parsed.ensures.answers

pub returns-clause-refused : goal.returns-clause-refused
returns-clause-refused c = refused (map standing c.args.tokens.now) c.parsed.result c.parsed.ensures.answers

pub returns-clause-place : goal.returns-clause-place
returns-clause-place c = c.parsed.ensures.place
