use Rattle.std.proofs.Common.{◌≡◌, drop}
use Rattle.function_texts.specs.Places.{begins}
use Rattle.function_texts.proofs.places.begins.Given as goal

abbrev pub invariant-loop-i : goal.invariant-loop-i
invariant-loop-i l = begins (drop l.i l.part) (drop l.i l.characters) ≡ begins l.part l.characters
