use Rattle.std.proofs.Common.{subst}
use Rattle.arm_value.specs.View.{json}
use Rattle.template_written.specs.Parts.{output_loop}
use Rattle.template_written.specs.Slots.{NestsWithin}
use Rattle.template_writer.proofs.NestLemmas.{loop_nests_within}
use Rattle.template_writer.proofs.parts.put_output_loop.Goals as goal

pub put_loop-requires : goal.put_loop-requires
put_loop-requires c =
    loop_nests_within (json c.in-Copy.count) (json c.in-Copy.input)
    (subst (λ k. NestsWithin 119 (output_loop k)) c.in-Copy.is c.requires)
