use Rattle.std.proofs.Common.{ℕ, List, [], sym, subst, ◌∙◌}
use Rattle.arm_value.specs.View.{json}
use Rattle.reading.specs.Knowledge.{told}
use Rattle.deploy_cells.specs.Cells.{count}
use Rattle.bicep_outcomes.specs.Outcomes.{Gives}
use Rattle.bicep_surroundings.proofs.SeenLemmas.{copied_gives}
use Rattle.bicep_eval_tests.specs.Sample.{variable_value, known_of, sight_of}
use Rattle.bicep_eval_tests.specs.declared.sample.Slot.{Slot}
use Rattle.bicep_eval_tests.proofs.SampleLemmas.{own_name, item_name}
use Rattle.bicep_eval_tests.proofs.sample.SampleSurroundings.name.Goals as goal

pub returns-then-is_empty : goal.returns-then-is_empty
returns-then-is_empty c =
    let x = c.args.self.now in
    let own = subst (λ (xs : List Slot). Gives (λ (n : ℕ). count [] n) (λ v. json v.now) c.variable_of.result
    (told (known_of (json x.state)) (variable_value xs 2))) c.as_slice.ensures.value
    (c.variable_of.ensures (json x.state)) in
    λ fs h. own_name x c.args.turns.now fs c.copied.result (sym c.is_empty.ensures ∙ c.if-is_empty.true) h
    (copied_gives (sight_of x) (λ v. json v.now) c.variable_of.result c.copied.result
    (told (known_of (json x.state)) (variable_value x.slots.items 2)) own c.copied.ensures)

pub returns-else-is_empty : goal.returns-else-is_empty
returns-else-is_empty c =
    λ fs h. item_name c.args.self.now c.args.turns.now fs c.item_of.result
    (sym c.is_empty.ensures ∙ c.if-is_empty.false) h c.item_of.ensures
