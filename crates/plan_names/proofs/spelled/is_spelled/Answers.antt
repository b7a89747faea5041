use Rattle.std.proofs.Common.{sym, ap, ◌∙◌, ◌++◌, ◌∷◌, chars}
use Rattle.arm_value.specs.Look.{is_same_folded}
use Rattle.plan_names.proofs.SpelledLemmas.{spelled_first, spelled_second}
use Rattle.plan_names.proofs.spelled.is_spelled.Goals as goal

pub returns-then-equals_ignore_case : goal.returns-then-equals_ignore_case
returns-then-equals_ignore_case c =
    spelled_first _ _ (sym c.equals_ignore_case.ensures ∙ c.if-equals_ignore_case.true)

pub returns : goal.returns
returns c =
    spelled_second _ _ _ (sym c.equals_ignore_case.ensures ∙ c.if-equals_ignore_case.false)
    (c.equals_ignore_case-2.ensures
    ∙ ap (λ s. is_same_folded s c.args.text.now)
    (ap chars c.as_str.ensures.value ∙ c.in_ok-push_segment.ensures
    ∙ ap (λ s. s ++ 47 ∷ chars c.args.name.now) (c.into_string-spelling.ensures.characters ∙ c.in_ok-of.ensures)))
