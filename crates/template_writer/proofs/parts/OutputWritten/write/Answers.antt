use Rattle.template_writer.proofs.NestLemmas.{output_nests_within}
use Rattle.template_writer.proofs.parts.OutputWritten.write.Goals as goal

pub output_members-requires : goal.output_members-requires
output_members-requires c = output_nests_within c.args.self.now c.requires.nests
