use Rattle.std.proofs.Common.{sym, ap, ◌∙◌}
use Rattle.std.specs.Prelude.{option_map}
use Rattle.bicep_declared.specs.View.{declared_tree}
use Rattle.file_lists.proofs.parameter_list.default_by.Goals as goal

pub default_in-requires-clause-declared : goal.default_in-requires-clause-declared
default_in-requires-clause-declared c =
    sym c.requires.declared ∙ ap (option_map (λ d. declared_tree d.now)) c.in-Some.is
