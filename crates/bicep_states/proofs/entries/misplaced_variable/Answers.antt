use Rattle.std.proofs.Common.{◌∙◌, map}
use Rattle.bicep_declared.specs.View.{declared_tree}
use Rattle.bicep_mentions.specs.Entries.{state_reads}
use Rattle.bicep_states.specs.View.{known}
use Rattle.bicep_states.proofs.EntryLemmas.{misplaced-same}
use Rattle.bicep_states.proofs.entries.misplaced_variable.Goals as goal

pub returns : goal.returns
returns c = λ kinds same.
    c.first_misplaced.ensures
    ∙ misplaced-same (known c.args.table.now).own
    (state_reads kinds (map declared_tree c.args.declarations.now)).own 0 (map declared_tree c.args.declarations.now)
    (λ n. (same n).0)
