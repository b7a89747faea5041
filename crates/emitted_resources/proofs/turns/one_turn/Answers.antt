use Rattle.emitted_expressions.proofs.FrameLemmas.{one_frame}
use Rattle.emitted_resources.proofs.turns.one_turn.Goals as goal

pub returns : goal.returns
returns c = λ f h. one_frame c.new.result f c.args.turn c.with.result c.new.ensures.items c.with.ensures h
