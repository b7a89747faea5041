use Rattle.std.proofs.Common.{◌≡◌, [], ◌∷◌, ◌++◌, take, MatchOption, IfOk, sym, subst, arith}
use Rattle.std.proofs.lemmas.List.{length-take-le}
use Rattle.plan_numbers.specs.Numbers.{puts_in, HaveOwnKeys}
use Rattle.plan_numbers.specs.Steps.{IsNumbered}
use Rattle.plan_numbers.proofs.NumberLemmas.{used_few, not_own, refused_by}
use Rattle.plan_numbers.proofs.numbering.number_puts.Goals as goal

pub number_put-requires : goal.number_put-requires
number_put-requires c = used_few c.args.tasks.now c.tasks.number c.tasks.used c.tasks.invariant.1

pub returns-in-Ok-None : goal.returns-in-Ok-None
returns-in-Ok-None c =
    let us = take c.tasks.number c.args.tasks.now in
    let u = c.index-tasks-number.result in
    let n = c.tasks-test.true in
    subst (λ r. IfOk r (λ o. MatchOption o (HaveOwnKeys c.args.tasks.now c.args.keys.now → ⊥)
    (λ m. IsNumbered m c.args.tasks.now c.args.keys.now))) (sym c.give_up.ensures)
    (not_own c.args.tasks.now c.tasks.number u c.args.keys.now n c.index-tasks-number.is
    (refused_by (HaveOwnKeys (us ++ u ∷ []) c.args.keys.now → ⊥)
    (λ k. IsNumbered c.number_put.new.places (us ++ u ∷ []) c.args.keys.now × (k ≡ puts_in (us ++ u ∷ [])))
    c.in-Ok-None.field-0 c.in-Ok-None.field-0-is
    (c.in-Ok-None.ensures us c.tasks.invariant.0
    (sym (length-take-le c.tasks.number c.args.tasks.now (omega (arith, n)))) c.tasks.invariant.1)))
