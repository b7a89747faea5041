use Rattle.std.proofs.Common.{◌∙◌}
use Rattle.plan_deletes.proofs.KeyLemmas.{has_by_numbers}
use Rattle.plan_deletes.proofs.puts.has_key.Goals as goal

pub returns : goal.returns
returns c = λ keys h.
    c.contains.ensures ∙ has_by_numbers c.args.set.now keys c.in_ok-tag.tag c.args.key.now h c.in_ok-tag.ensures
