use Rattle.template_tree.specs.View.{template_tree}
use Rattle.template_lengths.proofs.LengthLemmas.{flat, too_deep}
use Rattle.template_lengths.proofs.lengths.length.Goals as goal

pub written_length-requires-clause-nests : goal.written_length-requires-clause-nests
written_length-requires-clause-nests c =
    flat c.templates_nest_no_deeper.ensures (template_tree c.args.template.now) c.nesting.result c.nesting.ensures
    c.if-nesting.false

pub returns-then-nesting : goal.returns-then-nesting
returns-then-nesting c =
    too_deep c.templates_nest_as_deep.ensures (template_tree c.args.template.now) c.requires c.nesting.result
    c.nesting.ensures c.if-nesting.true
