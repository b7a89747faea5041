use Rattle.template_writer.proofs.NestLemmas.{parameter_nests_within}
use Rattle.template_writer.proofs.parts.ParameterWritten.write.Goals as goal

pub parameter_members-requires : goal.parameter_members-requires
parameter_members-requires c = parameter_nests_within c.args.self.now c.requires.nests
