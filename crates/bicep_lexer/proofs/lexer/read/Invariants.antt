use Rattle.std.proofs.Common.{◌≡◌, ◌≤◌, ◌-◌, length, map}
use Rattle.bicep_lexer.specs.Reading.{standing}
use Rattle.bicep_lexer.specs.Reader.Steps.{reading}
use Rattle.bicep_lexer.specs.Reader.Steps.{whole}
use Rattle.bicep_lexer.proofs.lexer.read.Given as goal

-- what was found and what is left are read as the source is
abbrev pub invariant-loop-lexer : goal.invariant-loop-lexer
invariant-loop-lexer l = record {
  same : whole l.lexer.text.now l.lexer.at l.lexer.opened.items l.lexer.line (map standing l.lexer.found.items)
      ≡ reading l.fn.text;
  source : l.lexer.text.now ≡ l.fn.text;
  within : l.lexer.at ≤ length l.fn.text;
}

abbrev pub decreases-loop-lexer : goal.decreases-loop-lexer
decreases-loop-lexer l = length l.fn.text - l.lexer.at
