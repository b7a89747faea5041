use Rattle.std.proofs.Common.{map}
use Rattle.bicep_tree.specs.Tree as tree
use Rattle.bicep_tree.specs.View as view
use Rattle.parameter_rules.specs.Rules.{allowed_of}
use Rattle.parameter_rules.proofs.RuleLemmas.{rules_are, kinds_are}
use Rattle.parameter_rules.proofs.rules.parameter.Goals as goal

pub returns-clause-name : goal.returns-clause-name
returns-clause-name c = c.joined.ensures.name c.args.name.now c.copy.ensures

pub returns-clause-rule : goal.returns-clause-rule
returns-clause-rule c =
    let ds = tree.decorators (map view.decorator_of c.args.decorators.now) in
    rules_are c.args.kind ds c.joined.result (c.joined.ensures.allowed (allowed_of ds) c.allowed_of.ensures)
    (kinds_are c.args.kind ds c.kind_of.result c.bounds_of.result c.joined.result c.kind_of.ensures c.bounds_of.ensures
    c.joined.ensures.rest)
