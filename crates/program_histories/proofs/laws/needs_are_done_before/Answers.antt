use Rattle.deploy_histories.specs.Events.{progress}
use Rattle.history_laws.proofs.Way.{known_so, stored_so}
use Rattle.program_histories.specs.Starts.{planned}
use Rattle.program_histories.proofs.laws.needs_are_done_before.Goals as goal

pub returns : goal.returns
returns g c = λ z d u bound mode held k t ns dep symbols is_planned are h one legal given w sat allowed.
    let x = planned d u bound mode held k t in
    let rw = (c.desired_states_are_the_same.ensures.forth z d u bound held dep w sat).1 in
    c.needs_come_first.ensures z d u bound mode held k t ns dep symbols is_planned are (progress h) w sat
    (λ s i. known_so x is_planned _ rw (progress h) s i (stored_so _ one x is_planned _ rw allowed h legal given))
