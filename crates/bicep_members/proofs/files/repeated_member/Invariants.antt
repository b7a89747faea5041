use Rattle.std.proofs.Common.{◌≡◌, map, drop}
use Rattle.bicep_tree.specs.View as view
use Rattle.bicep_members.specs.Files as spec
use Rattle.bicep_members.proofs.files.repeated_member.Given as goal

-- the rest decides
abbrev pub invariant-loop-statement : goal.invariant-loop-statement
invariant-loop-statement l =
    spec.repeated_member (map view.statement_of l.file)
    ≡ spec.repeated_member (map view.statement_of (drop l.statement-index l.file))
