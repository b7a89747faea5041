use Rattle.std.proofs.Common.{◌≡◌, ◌-◌, length, drop}
use Rattle.function_texts.specs.Letters.{without_blanks}
use Rattle.function_texts.proofs.letters.without_blanks.Given as goal

abbrev pub invariant-front : goal.invariant-front
invariant-front l = without_blanks (drop l.start l.characters) ≡ without_blanks l.characters

abbrev pub decreases-front : goal.decreases-front
decreases-front l = length l.characters - l.start
