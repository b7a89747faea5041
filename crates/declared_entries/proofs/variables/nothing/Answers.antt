use Rattle.std.proofs.Common.{sym, ◌∙◌}
use Rattle.bicep_emission.specs.Emitted.{no_value}
use Rattle.declared_entries.proofs.variables.nothing.Goals as goal

pub returns-then-not-is_within : goal.returns-then-not-is_within
returns-then-not-is_within c =
    c.beyond.ensures no_value c.no_value-extent.ensures (sym c.is_within.ensures ∙ c.if-not-is_within.true)

pub returns : goal.returns
returns c =
    c.keep.ensures no_value c.no_value-extent.ensures (sym c.is_within.ensures ∙ c.if-not-is_within.false)
    c.no_value.ensures
