use Rattle.std.proofs.Common.{◌≡◌, drop}
use Rattle.emitted_modules.specs.Arguments.{has_argument}
use Rattle.emitted_modules.proofs.arguments.has_argument.Given as goal

-- none of the arguments before has the name
abbrev pub invariant-loop-argument : goal.invariant-loop-argument
invariant-loop-argument l =
    has_argument l.name l.arguments ≡ has_argument l.name (drop l.argument-index l.arguments)
