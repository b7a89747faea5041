use Rattle.std.proofs.Common.{sym, ap₂, ◌∙◌}
use Rattle.plan_names.specs.Named.{is_spelled}
use Rattle.plan_nested.proofs.OutputLemmas.{pushed_there, pushed_not}
use Rattle.plan_names.proofs.gather.push_named.Goals as goal

pub returns-then-branch : goal.returns-then-branch
returns-then-branch c =
    let spelled = c.in_ok-is_spelled.ensures
    ∙ ap₂ (is_spelled c.args.asked.text.now) c.as_str.ensures.characters c.as_str-2.ensures.characters in
    pushed_there _ _ _ _ c.push_key.result (sym spelled ∙ c.if-branch.true) c.push_key.ensures

pub returns-else-branch : goal.returns-else-branch
returns-else-branch c =
    let spelled = c.in_ok-is_spelled.ensures
    ∙ ap₂ (is_spelled c.args.asked.text.now) c.as_str.ensures.characters c.as_str-2.ensures.characters in
    pushed_not _ _ _ (sym spelled ∙ c.if-branch.false)
