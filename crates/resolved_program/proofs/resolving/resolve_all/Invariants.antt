use Rattle.std.proofs.Common.{length, map, drop}
use Rattle.resolved_program.specs.View.{file_view, named_view}
use Rattle.resolved_program.proofs.ResolveLemmas.{IsSoFar}
use Rattle.resolved_program.proofs.resolving.resolve_all.Given as goal

-- the files so far are resolved, and the rest decides
abbrev pub invariant-loop-file : goal.invariant-loop-file
invariant-loop-file l =
    IsSoFar l.outputs (map named_view l.fn.named.items)
    (map named_view (drop (length l.yielded) l.fn.named.items)) (map file_view l.resolved.items)
