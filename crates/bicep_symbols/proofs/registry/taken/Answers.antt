use Rattle.std.proofs.lemmas.Result.{IfOk-weaker}
use Rattle.bicep_symbols.proofs.SymbolLemmas.{both_taken}
use Rattle.bicep_symbols.proofs.registry.taken.Goals as goal

pub returns : goal.returns
returns c =
    IfOk-weaker _ _ _ (λ s e. both_taken c.new.result c.in_ok-names.names s c.new.ensures c.in_ok-names.ensures e)
    c.with_word-2.ensures
