use Rattle.std.proofs.Common.{[], sym, subst}
use Rattle.std.specs.Prelude.{IfOk, option_map}
use Rattle.bicep_resolved.specs.View.{value_of}
use Rattle.measured_trees.specs.Measures.{IsOf}
use Rattle.file_limits.specs.Extremes.{named_extremes}
use Rattle.file_limits.proofs.measured.measured_entry.Goals as goal

pub returns-in-Some : goal.returns-in-Some
returns-in-Some c =
    subst
    (λ o. IfOk c.measured_content.result
    (IsOf (named_extremes c.args.table.now (option_map (λ t. t.now) o) (value_of c.args.value.now))))
    (sym c.in-Some.is) (c.measured_content.ensures [] tt)

pub returns-in-None : goal.returns-in-None
returns-in-None c =
    subst
    (λ o. IsOf (named_extremes c.args.table.now (option_map (λ t. t.now) o) (value_of c.args.value.now))
    c.nothing.result) (sym c.in-None.is) c.nothing.ensures.nothing
