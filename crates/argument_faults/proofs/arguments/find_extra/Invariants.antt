use Rattle.std.proofs.Common.{◌≡◌, ◌⊎◌, true, drop}
use Rattle.name_set.specs.Names.{is_named}
use Rattle.template_parts.specs.declared.content.Argument.{Argument}
use Rattle.plan_cells.specs.Children.{Has}
use Rattle.argument_faults.proofs.arguments.find_extra.Given as goal

abbrev pub invariant-loop-argument : goal.invariant-loop-argument
invariant-loop-argument l = (a : Argument) → Has a l.arguments
    → (is_named l.names a.name ≡ true) ⊎ Has a (drop l.argument-index l.arguments)
