use Rattle.std.proofs.Common.{◌∙◌, w64, rules}
use Rattle.std.specs.Prelude.{FitsSigned}
use Rattle.std.proofs.lemmas.Int.{to_z-of_z}
use Rattle.function_numbers.specs.Numbers.{better}
use Rattle.function_numbers.proofs.NumberLemmas.{best_first, no_first, no_best}
use Rattle.function_numbers.proofs.extremes.best.Goals as goal

pub returns-in_err-number_of-in-len1-up : goal.returns-in_err-number_of-in-len1-up
returns-in_err-number_of-in-len1-up c = c.from_residual.ensures
    ∙ no_first (better c.args.extreme) c.args.values.now c.first-item.result c.in-len1-up.len_at_least c.first-item.is
    (c.in_err-number_of-in-len1-up.ensures)

pub returns-in-empty : goal.returns-in-empty
returns-in-empty c = no_best (better c.args.extreme) c.args.values.now c.in-empty.len_below

pub returns-in_ok-number_of-in-len1-up : goal.returns-in_ok-number_of-in-len1-up
returns-in_ok-number_of-in-len1-up c =
    let first : FitsSigned w64 c.in_ok-number_of-in-len1-up.field-0 = search rules in
    (simp to_z-of_z at c.best_from.ensures)
    ∙ best_first (better c.args.extreme) _ c.args.values.now c.first-item.result c.in-len1-up.len_at_least
    c.first-item.is c.in_ok-number_of-in-len1-up.ensures
