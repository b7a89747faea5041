use Rattle.bicep_lexer.proofs.Laws.{spelled, alone, faultless, refused, refused_alone, unspelled, sliced, signed}
use Rattle.bicep_lexer.proofs.lexer.tokens.Goals as goal

pub returns-clause-spelled : goal.returns-clause-spelled
returns-clause-spelled c = spelled c.args.text.now c.read.result c.read.ensures.tokens

pub returns-clause-alone : goal.returns-clause-alone
returns-clause-alone c = alone c.args.text.now c.read.result c.read.ensures.tokens

pub returns-clause-faultless : goal.returns-clause-faultless
returns-clause-faultless c = faultless c.args.text.now c.read.result c.read.ensures.tokens

pub returns-clause-refused : goal.returns-clause-refused
returns-clause-refused c = refused c.args.text.now c.read.result c.read.ensures.fault

pub returns-clause-refused_alone : goal.returns-clause-refused_alone
returns-clause-refused_alone c = refused_alone c.args.text.now c.read.result c.read.ensures.fault

pub returns-clause-unspelled : goal.returns-clause-unspelled
returns-clause-unspelled c = unspelled c.args.text.now c.read.result c.read.ensures.fault

pub returns-clause-sliced : goal.returns-clause-sliced
returns-clause-sliced c = sliced c.args.text.now c.read.result c.read.ensures.tokens

pub returns-clause-signed : goal.returns-clause-signed
returns-clause-signed c = signed c.args.text.now c.read.result c.read.ensures.tokens
