use Rattle.std.proofs.Common.{◌≡◌, ◌≤◌, ◌-◌, ◌++◌, drop, length}
use Rattle.function_texts.specs.Cuts.{replaced}
use Rattle.function_texts.proofs.cuts.replaced_with.Given as goal

-- the characters so far, and what is left with its parts replaced
abbrev pub invariant-places : goal.invariant-places
invariant-places l = record {
  all : l.out.items ++ replaced l.old l.new (drop l.start l.characters) ≡ replaced l.old l.new l.characters;
  within : l.start ≤ length l.characters;
}

abbrev pub decreases-places : goal.decreases-places
decreases-places l = length l.characters - l.start
