use Rattle.std.proofs.Common.{map, ap}
use Rattle.foundation.proofs.Options.{if_ok}
use Rattle.arm_value.specs.View.{json}
use Rattle.plan_elements.proofs.ElementLemmas.{entered, entered_root}
use Rattle.plan_elements.proofs.elements.elements_inside.Goals as goal

pub returns-in-Some-clause-read : goal.returns-in-Some-clause-read
returns-in-Some-clause-read c =
    if_ok _ _ c.elements_of.result c.elements_of.ensures.read (λ vs r.
    entered c.args.register.now.table c.args.scope c.in-Some.opener (map json vs.items) c.in-Some.ensures.opened r)

pub returns-in-None-clause-read : goal.returns-in-None-clause-read
returns-in-None-clause-read c =
    entered_root c.args.register.now.table c.args.scope (map json c.new.result.items) c.in-None.ensures.root
    (ap (λ ys. map json ys) c.new.ensures.items)
