use Rattle.std.proofs.Common.{sym, ◌∙◌}
use Rattle.template_faults.proofs.CountLemmas.{pairs_length_pairs}
use Rattle.template_faults.proofs.limit.pairs_length.Goals as goal

pub returns : goal.returns
returns c = c.len.ensures ∙ sym (pairs_length_pairs c.args.fields.now)
