use Rattle.std.proofs.Common.{sym, ◌∙◌}
use Rattle.plan_numbers.proofs.NumberLemmas.{key_added, key_refused}
use Rattle.plan_numbers.proofs.numbering.add_key.Goals as goal

pub returns-in_ok-add_place-in-None : goal.returns-in_ok-add_place-in-None
returns-in_ok-add_place-in-None c = λ os a e.
    key_added c.add_place.new.places os c.in_ok-tag.tag.items c.args.key.now c.in_ok-tag.ensures
    (sym (c.first_place.ensures os a) ∙ c.in-None.is) (c.in_ok-add_place-in-None.ensures.added os a e)

pub returns-in-Some : goal.returns-in-Some
returns-in-Some c = λ os a e.
    key_refused os c.in_ok-tag.tag.items c.args.key.now c.first_place.result c.in-Some.field-0 c.in_ok-tag.ensures
    (c.first_place.ensures os a) c.in-Some.is
