use Rattle.std.proofs.Common.{sym, ap, subst, ◌∙◌}
use Rattle.std.specs.Str.{chars}
use Rattle.arm_value.specs.Look.{fold}
use Rattle.bicep_emission.specs.Spelled.{capitals, spelled_or}
use Rattle.emitted_parts.specs.Built.{IsText}
use Rattle.emitted_parts.proofs.NameLemmas.{found_folded}
use Rattle.emitted_parts.proofs.functions.function_name.Goals as goal

pub returns-in-Some : goal.returns-in-Some
unfolding chars capitals
returns-in-Some c =
    subst (λ t. IsText t c.of.result)
    (ap (spelled_or (fold (chars c.args.row.now.name.now)))
    (c.in-Some.ensures ∙ sym (found_folded (chars c.args.row.now.name.now) capitals))) c.of.ensures

pub returns-in-None : goal.returns-in-None
unfolding chars capitals
returns-in-None c =
    subst (λ t. IsText t c.lowered.result)
    (ap (spelled_or (fold (chars c.args.row.now.name.now)))
    (c.in-None.ensures ∙ sym (found_folded (chars c.args.row.now.name.now) capitals))) c.lowered.ensures
