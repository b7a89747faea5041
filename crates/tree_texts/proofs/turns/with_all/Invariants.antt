use Rattle.std.proofs.Common.{◌≡◌, ◌++◌, take}
use Rattle.emitted_expressions.specs.Sight.{frames_of}
use Rattle.tree_texts.proofs.turns.with_all.Given as goal

-- the runs so far are those that were there, and copies of the first others
abbrev pub invariant-loop-turn : goal.invariant-loop-turn
invariant-loop-turn l =
    frames_of l.all.items ≡ frames_of l.fn.all.items ++ frames_of (take l.turn-index l.turns)
