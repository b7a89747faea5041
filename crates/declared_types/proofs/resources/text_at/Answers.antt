use Rattle.std.proofs.Common.{ap, sym, ◌∙◌}
use Rattle.std.proofs.lemmas.Str.{chars-nil}
use Rattle.foundation.proofs.Comparisons.{le_of_false}
use Rattle.bicep_declared.specs.View.{declared_tree}
use Rattle.bicep_meaning.specs.Files.{type_text}
use Rattle.declared_types.proofs.TypeLemmas.{none_there}
use Rattle.declared_types.proofs.resources.text_at.Goals as goal

pub returns-in-None : goal.returns-in-None
returns-in-None c =
    chars-nil
    ∙ sym (ap type_text (none_there declared_tree c.args.declarations.now c.args.number
    (le_of_false _ _ (sym c.in-None.ensures.lookup.0))))
