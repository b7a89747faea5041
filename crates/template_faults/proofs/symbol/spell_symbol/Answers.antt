use Rattle.template_faults.proofs.PartLemmas.{spelled}
use Rattle.template_faults.proofs.symbol.spell_symbol.Goals as goal

pub returns-in-len1-up : goal.returns-in-len1-up
returns-in-len1-up c = spelled c.args.name.now c.in-len1-up.len_at_least c.are_symbol_bytes.result
    c.are_symbol_bytes.ensures
