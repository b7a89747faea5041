use Rattle.std.proofs.Common.{None, sym, refl, ◌∙◌}
use Rattle.driver_loop.proofs.running.task_at.Goals as goal

pub returns-in-Some-Some : goal.returns-in-Some-Some
returns-in-Some-Some c = let h = c.in-Some-Some.ensures.lookup in
    (c.in-Some-Some.opened, sym (h.3.1 None) ∙ c.in-Some-Some.field-0-is, refl)
