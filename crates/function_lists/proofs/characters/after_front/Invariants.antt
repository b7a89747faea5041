use Rattle.std.proofs.Common.{◌≡◌, drop}
use Rattle.std.specs.Str.{chars, IsUtf8}
use Rattle.std.specs.Str.Iter.{chars_rest}
use Rattle.function_lists.proofs.characters.after_front.Given as goal

-- what is to be left out of what is left
abbrev pub invariant-loop-left : goal.invariant-loop-left
invariant-loop-left l =
    (drop l.left (chars (chars_rest l.characters)) ≡ drop l.count (chars l.text)) × IsUtf8 (chars_rest l.characters)
