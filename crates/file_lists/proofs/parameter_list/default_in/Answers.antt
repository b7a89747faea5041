use Rattle.std.proofs.Common.{Some, ap, ◌∙◌}
use Rattle.std.specs.Prelude.{option_and_then}
use Rattle.bicep_resolved.specs.View.{source_of}
use Rattle.bicep_declared.specs.View.{declared_tree}
use Rattle.bicep_meaning.specs.Instances as source
use Rattle.file_lists.proofs.ParameterLemmas.{default_there}
use Rattle.file_lists.proofs.parameter_list.default_in.Goals as goal

pub default_value-requires-clause-within : goal.default_value-requires-clause-within
default_value-requires-clause-within c =
    c.requires.fits c.args.number (source_of c.in-ParameterWith.value)
    (ap (option_and_then source.default_of)
    (c.requires.declared ∙ ap (λ d. Some (declared_tree d)) c.in-ParameterWith.is))

pub returns-in-ParameterWith : goal.returns-in-ParameterWith
returns-in-ParameterWith c =
    default_there c.args.table.now c.args.number (source_of c.in-ParameterWith.value)
    (ap (option_and_then source.default_of)
    (c.requires.declared ∙ ap (λ d. Some (declared_tree d)) c.in-ParameterWith.is)) c.default_value.result
    c.there.result c.default_value.ensures c.there.ensures
