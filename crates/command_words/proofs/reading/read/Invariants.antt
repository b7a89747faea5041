use Rattle.std.proofs.Common.{◌≡◌, map, string_bytes, Some, drop}
use Rattle.command_words.specs.Reading.{run, start, state_of}
use Rattle.command_words.proofs.reading.read.Given as goal

abbrev pub invariant-loop-word : goal.invariant-loop-word
invariant-loop-word l =
    run (Some start) (map string_bytes l.fn.words)
    ≡ run (Some (state_of l.reading)) (map string_bytes (drop l.word-index l.fn.words))
