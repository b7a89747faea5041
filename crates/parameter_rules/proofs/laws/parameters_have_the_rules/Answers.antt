use Rattle.std.proofs.Common.{sym, ◌∙◌}
use Rattle.std.specs.Prelude.{option_map, slice_get}
use Rattle.symbol_decorators.specs.Decorators.{decorators_of}
use Rattle.parameter_rules.specs.Rules.{type_of, or_no}
use Rattle.parameter_rules.proofs.RuleLemmas.{by_typed}
use Rattle.parameter_rules.proofs.laws.parameters_have_the_rules.Goals as goal

pub returns : goal.returns
returns c = λ t f rules n q h j.
    by_typed (option_map (λ s. s.1) (slice_get f.symbols n)) (type_of (slice_get f.declared.declarations n))
    (or_no (slice_get (decorators_of t) n)) q h j
    ∙ sym (rules n j)
