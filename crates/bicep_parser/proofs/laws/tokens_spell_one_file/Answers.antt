use Rattle.bicep_parser.proofs.Answering as answering
use Rattle.bicep_parser.proofs.laws.tokens_spell_one_file.Goals as goal

pub returns : goal.returns
returns c = answering.one_file
