use Rattle.std.proofs.Common.{◌≡◌, max, drop}
use Rattle.template_nestings.specs.Nestings.{deepest}
use Rattle.template_nestings.proofs.parts.deepest.Given as goal

-- the deepest of the parts before, and of those that are left
abbrev pub invariant-loop-part : goal.invariant-loop-part
invariant-loop-part g l =
    max l.most (deepest g.T.Nests.nesting_of (drop l.part-index l.parts)) ≡ deepest g.T.Nests.nesting_of l.parts
