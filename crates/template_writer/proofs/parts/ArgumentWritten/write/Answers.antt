use Rattle.template_writer.proofs.NestLemmas.{argument_slots_nest}
use Rattle.template_writer.proofs.parts.ArgumentWritten.write.Goals as goal

pub put_content-requires : goal.put_content-requires
put_content-requires c = (argument_slots_nest c.args.self.now.content c.requires.nests).0

pub put_argument_loop-requires : goal.put_argument_loop-requires
put_argument_loop-requires c = (argument_slots_nest c.args.self.now.content c.requires.nests).1.0
