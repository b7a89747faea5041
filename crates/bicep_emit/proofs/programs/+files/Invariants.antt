use Rattle.std.proofs.Common.{◌+◌, ◌*◌}
use Rattle.bicep_emit.specs.Inner.{IsLeast}
use Rattle.bicep_emit.specs.Modules.{IsWholeOf, OfEach}
use Rattle.bicep_emit.proofs.ModuleLemmas.{Goes}
use Rattle.bicep_emit.proofs.programs.+files.Given as goal

-- each call goes to a part of the file, or to a module with less depth
abbrev pub decreases-whole_file : goal.decreases-whole_file
decreases-whole_file l = 6 * l.depth + 5

abbrev pub decreases-whole_of : goal.decreases-whole_of
decreases-whole_of l = 6 * l.depth + 4

abbrev pub decreases-modules : goal.decreases-modules
decreases-modules l = 6 * l.depth + 3

abbrev pub decreases-with_module : goal.decreases-with_module
decreases-with_module l = 6 * l.depth + 2

abbrev pub decreases-module : goal.decreases-module
decreases-module l = 6 * l.depth + 1

abbrev pub decreases-deeper : goal.decreases-deeper
decreases-deeper l = 6 * l.depth

abbrev pub invariant-modules-loop-entry : goal.invariant-modules-loop-entry
invariant-modules-loop-entry l =
    OfEach l.parts (λ z ss rs. Goes (IsWholeOf z ss rs) l.entries l.entry-index l.all.templates.items) × IsLeast l.all
