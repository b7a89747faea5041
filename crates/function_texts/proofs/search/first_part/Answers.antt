use Rattle.function_texts.proofs.PartLemmas.{first_is}
use Rattle.function_texts.proofs.search.first_part.Goals as goal

pub returns : goal.returns
returns c = first_is c.args.part.now c.args.text.now c.first_with.result c.first_with.ensures
