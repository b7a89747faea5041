use Rattle.std.proofs.Common.{Bool, Some, refl, sym, subst, ◌∙◌}
use Rattle.std.proofs.lemmas.Bool.{ltb-true, ltb-false}
use Rattle.history_plans.specs.Task.TheVariants.{Enter, Leave, Delete}
use Rattle.plan_numbers.specs.Numbers.{put_tags}
use Rattle.plan_numbers.specs.Steps.{AddsKey}
use Rattle.plan_numbers.proofs.NumberLemmas.{got, tags_length, put_numbered, put_refused, put_without_key}
use Rattle.plan_numbers.proofs.NumberLemmas.{other_numbered}
use Rattle.plan_numbers.proofs.numbering.number_put.Goals as goal

pub returns-in-Enter : goal.returns-in-Enter
returns-in-Enter c = λ us b e u.
    other_numbered c.args.places.now us c.args.task.now (Enter c.in-Enter.field-0) c.args.used c.args.keys.now
    c.in-Enter.is (λ o. refl) refl u b

pub returns-in-Leave : goal.returns-in-Leave
returns-in-Leave c = λ us b e u.
    other_numbered c.args.places.now us c.args.task.now (Leave c.in-Leave.field-0) c.args.used c.args.keys.now
    c.in-Leave.is (λ o. refl) refl u b

pub returns-in-Delete : goal.returns-in-Delete
returns-in-Delete c = λ us b e u.
    other_numbered c.args.places.now us c.args.task.now (Delete c.in-Delete.field-0) c.args.used c.args.keys.now
    c.in-Delete.is (λ o. refl) refl u b

pub returns-then-branch : goal.returns-then-branch
returns-then-branch c = λ us b e u.
    put_numbered c.args.places.now c.add_key.new.places us c.args.task.now c.in-Put.field-0 c.in-Put.field-1
    c.in-Put.field-2 c.args.used c.args.keys.now c.in-Some.key.now c.in-Put.is u
    (got c.args.keys.now c.args.used c.in-Some.key.now
    (ltb-true _ _ (sym c.in-Some.ensures.lookup.0)) c.in-Some.ensures.lookup.1) b
    (subst (λ (z : Bool). AddsKey (put_tags us c.args.keys.now) (Some c.in-Some.key.now) c.add_key.new.places z)
    c.if-branch.true
    (c.in_ok-add_key-in-Some.ensures (put_tags us c.args.keys.now) b.places
    (e ∙ sym (tags_length us c.args.keys.now))))

pub returns-else-branch : goal.returns-else-branch
returns-else-branch c = λ us b e u.
    put_refused us c.args.task.now c.in-Put.field-0 c.in-Put.field-1 c.in-Put.field-2 c.args.used c.args.keys.now
    c.in-Some.key.now c.in-Put.is u
    (got c.args.keys.now c.args.used c.in-Some.key.now
    (ltb-true _ _ (sym c.in-Some.ensures.lookup.0)) c.in-Some.ensures.lookup.1)
    (subst (λ (z : Bool). AddsKey (put_tags us c.args.keys.now) (Some c.in-Some.key.now) c.add_key.new.places z)
    c.if-branch.false
    (c.in_ok-add_key-in-Some.ensures (put_tags us c.args.keys.now) b.places
    (e ∙ sym (tags_length us c.args.keys.now))))

pub returns-in-None : goal.returns-in-None
returns-in-None c = λ us b e u.
    put_without_key us c.args.task.now c.in-Put.field-0 c.in-Put.field-1 c.in-Put.field-2 c.args.used c.args.keys.now
    c.in-Put.is u (ltb-false _ _ (sym c.in-None.ensures.lookup.0))
