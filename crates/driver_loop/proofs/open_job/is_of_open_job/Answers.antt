use Rattle.std.proofs.Common.{rules, ◌≡◌, true, None, sym, ◌∙◌}
use Rattle.provider_trait.specs.contracts.act.Act.{the_type}
use denote.Enum.Bare.{same_true}
use Rattle.driver_loop.proofs.open_job.is_of_open_job.Goals as goal

pub returns-then-opened-task-clause-yes : goal.returns-then-opened-task-clause-yes
returns-then-opened-task-clause-yes c =
    let h = c.in-Some-Some.ensures.lookup in λ (r : c.eq.result ≡ true). (
      h.3.0,
      c.in-Some-Some.opened,
      sym (h.3.1 None) ∙ c.in-Some-Some.field-0-is,
      c.if-opened-task.true ∙ c.task.ensures,
      same_true the_type (search rules) _ _ (sym c.eq.ensures ∙ r) ∙ c.act.ensures,
    )
