use Rattle.std.proofs.Common.{ap, ◌∙◌}
use Rattle.std.specs.Prelude.{option_map}
use Rattle.bicep_declared.specs.View.{declared_tree}
use Rattle.declared_entries.proofs.names.own_name.Goals as goal

pub declared_name-requires-clause-declared : goal.declared_name-requires-clause-declared
declared_name-requires-clause-declared c =
    c.requires.declared ∙ ap (option_map (λ d. declared_tree d.now)) c.in-Some.is
