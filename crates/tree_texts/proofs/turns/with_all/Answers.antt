use Rattle.std.proofs.Common.{◌++◌, ap, ◌∙◌}
use Rattle.std.proofs.lemmas.List.{take_all}
use Rattle.emitted_expressions.specs.Sight.{frames_of}
use Rattle.tree_texts.proofs.TurnLemmas.{next_frames}
use Rattle.tree_texts.proofs.turns.with_all.Goals as goal

pub loop-turn-preserved : goal.loop-turn-preserved
loop-turn-preserved c =
    next_frames c.loop-turn.all c.copied_turn.result c.in-Ok.more.items (frames_of c.args.all.items) c.args.turns.now
    c.loop-turn.turn-index c.turn-item.result c.loop-turn-test.true c.turn-item.is c.in-Ok.ensures
    c.copied_turn.ensures c.loop-turn.invariant

pub returns : goal.returns
returns c =
    c.loop-turn.invariant
    ∙ ap (λ ts. frames_of c.args.all.items ++ frames_of ts)
    (take_all c.loop-turn.turn-index c.args.turns.now c.loop-turn-test.false)
