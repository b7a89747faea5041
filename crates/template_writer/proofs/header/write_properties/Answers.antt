use Rattle.arm_value.specs.View.{json}
use Rattle.template_writer.proofs.NestLemmas.{properties_nest}
use Rattle.template_writer.proofs.header.write_properties.Goals as goal

pub write_deployment-requires-clause-nests : goal.write_deployment-requires-clause-nests
write_deployment-requires-clause-nests c =
    properties_nest c.args.deployment.now.scope c.args.deployment.now.parameters (json c.args.template)
    c.requires.nests
