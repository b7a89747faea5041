use Rattle.std.proofs.Common.{sym, subst}
use Rattle.file_words.proofs.FileLemmas.{FileIsGood, resolved_good}
use Rattle.file_words.proofs.PartLemmas.{has_few_parts}
use Rattle.file_words.proofs.laws.names_have_few_parts.Goals as goal

pub returns : goal.returns
returns c = λ folder files read rs res k r is f own.
    has_few_parts f (subst FileIsGood (sym own.declared) (resolved_good folder files read rs res k r is))
