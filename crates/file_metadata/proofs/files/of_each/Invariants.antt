use Rattle.file_metadata.proofs.LoopLemmas.{Goes}
use Rattle.file_metadata.proofs.files.of_each.Given as goal

-- the metadata so far and that of what is left are all
abbrev pub invariant-loop-decorated : goal.invariant-loop-decorated
invariant-loop-decorated l = Goes l.all l.decorated-index l.found.items
