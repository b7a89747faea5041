use Rattle.std.proofs.Common.{inl, subst}
use Rattle.plan_filling.specs.Limits.{IsHalted}
use Rattle.arm_plan.proofs.planning.halt_fault.Goals as goal

pub returns-in-Limit : goal.returns-in-Limit
returns-in-Limit c = λ d mode held h. inl (subst (IsHalted d) c.in-Limit.is h)
