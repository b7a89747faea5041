use Rattle.std.proofs.Common.{length, arith}
use Rattle.function_texts.proofs.PartLemmas.{last_is}
use Rattle.function_texts.proofs.search.last_part.Goals as goal

pub returns : goal.returns
returns c = last_is c.args.part.now c.args.text.now (length c.args.text.now) c.last_with.result c.last_with.ensures
    (omega arith) (omega arith)
