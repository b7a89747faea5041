use Rattle.std.proofs.Common.{◌<◌, sym, subst, ◌∙◌}
use Rattle.bicep_emit.specs.Clauses.{IsAbove}
use Rattle.bicep_emit.specs.Faults.{IsNestingFault, IsWithin}
use Rattle.bicep_emit.proofs.RefusedLemmas.{refused, no_value, nesting_fault, within_nesting, deep}
use Rattle.bicep_emit.proofs.programs.within.Goals as goal

pub returns-in-Some-clause-within : goal.returns-in-Some-clause-within
returns-in-Some-clause-within c =
    no_value (IsWithin c.args.template) c.refuse.result (deep c.in-Some.depth) c.refuse.ensures

pub returns-in-Some-clause-fault : goal.returns-in-Some-clause-fault
returns-in-Some-clause-fault c =
    let a = subst (IsAbove c.nesting.result) c.in-Some.is c.above.ensures in
    refused (IsNestingFault c.args.template) c.refuse.result (deep c.in-Some.depth) c.refuse.ensures
    (nesting_fault c.args.template c.in-Some.depth (a.0 ∙ c.nesting.ensures) (subst (λ n. 120 < n) (sym a.0) a.1))

pub returns-in-None-clause-within : goal.returns-in-None-clause-within
returns-in-None-clause-within c =
    within_nesting c.templates_nest_no_deeper.ensures c.args.template c.nesting.result c.nesting.ensures
    (subst (IsAbove c.nesting.result) c.in-None.is c.above.ensures)
