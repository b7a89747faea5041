use Rattle.template_writer.proofs.NestLemmas.{plain_within, loops_within}
use Rattle.template_writer.proofs.header.put_variables.Goals as goal

pub write_variables-requires-clause-plain : goal.write_variables-requires-clause-plain
write_variables-requires-clause-plain c = plain_within 119 c.args.variables.now c.requires.keeps c.requires.nests

pub write_variables-requires-clause-loops : goal.write_variables-requires-clause-loops
write_variables-requires-clause-loops c = loops_within 119 c.args.variables.now c.requires.nests
