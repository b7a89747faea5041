use Rattle.std.proofs.Common.{map}
use Rattle.foundation.proofs.Options.{if_ok}
use Rattle.arm_value.specs.View.{json}
use Rattle.plan_elements.proofs.ElementLemmas.{depending}
use Rattle.plan_elements.proofs.elements.elements_of.Goals as goal

pub elements_read-requires-clause-trees : goal.elements_read-requires-clause-trees
elements_read-requires-clause-trees c =
    let n = c.requires.instance.number in
    record { listed = n.listed; is_listed = n.has; are = c.trees_of-trees.ensures n.listed n.has }

pub returns-clause-read : goal.returns-clause-read
returns-clause-read c =
    let n = c.requires.instance.number in
    if_ok _ _ c.elements_read.result c.elements_read.ensures.read (λ vs r.
    depending c.args.register.now.table c.args.opener c.requires.table c.requires.instance
    (map json c.trees_of-trees.result.now) (map json vs.items)
    (record { listed = n.listed; is_listed = n.has; are = c.trees_of-trees.ensures n.listed n.has }) r)
