use Rattle.std.proofs.Common.{codes, bytes_eq, sym, ap, ◌∙◌}
use Rattle.std.specs.Str.{chars}
use Rattle.arm_value.specs.Look.{fold, is_same_folded}
use Rattle.arm_value.proofs.TextLemmas.{is_folded}
use Rattle.arm_ids.proofs.SegmentLemmas.{fold-fold}
use Rattle.arm_env.proofs.Words.{word_coalesce}
use Rattle.bicep_outcomes.proofs.calls.is_coalesce.Goals as goal

pub returns : goal.returns
returns c =
    let name = chars c.args.name.now in
    is_folded c.folded_eq.result (chars (codes "coalesce")) name c.folded_eq.ensures.0 c.folded_eq.ensures.1
    ∙ ap (λ w. is_same_folded w name) word_coalesce
    ∙ ap (bytes_eq (fold (codes "coalesce"))) (sym (fold-fold name))
