use Rattle.arm_value.specs.View.{json}
use Rattle.template_writer.proofs.NestLemmas.{argument_nests_within}
use Rattle.template_writer.proofs.parts.value_loops.Goals as goal

pub named_loop-requires : goal.named_loop-requires
named_loop-requires c = argument_nests_within (json c.args.count.now) (json c.args.input.now) c.requires
