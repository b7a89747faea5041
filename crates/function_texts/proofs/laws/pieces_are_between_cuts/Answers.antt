use Rattle.function_texts.proofs.PieceLemmas.{pieces_are, only_pieces}
use Rattle.function_texts.proofs.laws.pieces_are_between_cuts.Goals as goal

pub returns-clause-are : goal.returns-clause-are
returns-clause-are c ds s h = pieces_are ds s h

pub returns-clause-no_others : goal.returns-clause-no_others
returns-clause-no_others c ds s ps h are = only_pieces ds s ps h are
