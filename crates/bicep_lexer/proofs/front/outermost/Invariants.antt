use Rattle.std.proofs.Common.{◌≡◌, drop}
use Rattle.bicep_lexer.specs.Grammar.{outermost}
use Rattle.bicep_lexer.proofs.front.outermost.Given as goal

-- no text was open so far
abbrev pub invariant-loop-each : goal.invariant-loop-each
invariant-loop-each l = outermost (drop l.each-index l.opened) ≡ outermost l.opened
