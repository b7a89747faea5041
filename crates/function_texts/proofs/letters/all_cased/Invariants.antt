use Rattle.std.proofs.Common.{◌≡◌, ◌++◌, drop, map}
use Rattle.function_texts.specs.Letters.{cased}
use Rattle.function_texts.proofs.letters.all_cased.Given as goal

abbrev pub invariant-loop-character : goal.invariant-loop-character
invariant-loop-character l = l.all.items ++ map (cased l.case) (drop l.character-index l.characters)
    ≡ map (cased l.case) l.characters
