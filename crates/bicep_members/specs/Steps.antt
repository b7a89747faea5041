-- What one member adds to the names before it.
use Rattle.std.specs.Prelude.{◌≡◌, ℕ, List, Some}
use Rattle.bicep_tree.specs.Tree.{MemberTree, MemberTrees, and_member}
use Rattle.bicep_members.specs.Labels.{repeated_from, repeated_folded_from}
use Rattle.bicep_members.specs.declared.labels.Step.{Step}
use Rattle.bicep_members.specs.declared.labels.Step.TheVariants as step

-- whatever comes after the member, its name is given twice, or the rest decides
abbrev pub StepsTo : List (List ℕ) → MemberTree → Step (List (List ℕ)) → Type 0
StepsTo before m (step.Twice at) = (rest : MemberTrees) → repeated_from before (and_member m rest) ≡ Some at
StepsTo before m (step.Next more) =
    (rest : MemberTrees) → repeated_from before (and_member m rest) ≡ repeated_from more rest

abbrev pub StepsToFolded : List (List ℕ) → MemberTree → Step (List (List ℕ)) → Type 0
StepsToFolded before m (step.Twice at) =
    (rest : MemberTrees) → repeated_folded_from before (and_member m rest) ≡ Some at
StepsToFolded before m (step.Next more) =
    (rest : MemberTrees) → repeated_folded_from before (and_member m rest) ≡ repeated_folded_from more rest
