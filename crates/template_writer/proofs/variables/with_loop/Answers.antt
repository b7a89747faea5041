use Rattle.arm_value.specs.View.{json}
use Rattle.template_writer.proofs.NestLemmas.{named_nests_within}
use Rattle.template_writer.proofs.variables.with_loop.Goals as goal

pub named_loop-requires : goal.named_loop-requires
named_loop-requires c =
    named_nests_within c.args.name.now (json c.args.count.now) (json c.args.input.now) c.requires
