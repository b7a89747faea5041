use Rattle.std.proofs.Common.{◌≡◌, ◌≤◌, length, take}
use Rattle.function_texts.specs.Letters.{up_to_blanks}
use Rattle.function_texts.proofs.letters.up_to_blanks.Given as goal

abbrev pub invariant-back : goal.invariant-back
invariant-back l = record {
  kept : up_to_blanks (take l.end l.characters) ≡ up_to_blanks l.characters;
  within : l.end ≤ length l.characters;
}

abbrev pub decreases-back : goal.decreases-back
decreases-back l = l.end
