-- What values of the code represent.
use Rattle.bicep_tree.specs.View.{body_of}
use Rattle.bicep_arguments.specs.Arguments.{ModuleTree}
use Rattle.bicep_arguments.specs.Parameters.{FileParameters}
use Rattle.bicep_arguments.specs.declared.modules.Module.{Module}
use Rattle.bicep_arguments.specs.declared.parameters.Parameters.{Parameters}

abbrev pub parameters_tree : Parameters → FileParameters
parameters_tree p = record { names = p.names; required = p.required.items }

-- a module of a file
abbrev pub module_tree : Module → ModuleTree
module_tree m = (m.at, body_of m.body.now)
