use Rattle.std.proofs.Common.{Option, subst, Bor}
use Rattle.std.specs.Prelude.{option_map}
use Rattle.point_rows.specs.declared.later.StateAt.{StateAt}
use Rattle.point_rows.specs.Rows.{IsFoundState}
use Rattle.point_rows.proofs.StateLemmas.{state_there, state_none, lacks_state}
use Rattle.point_rows.proofs.states.look_state.Goals as goal

pub returns-in-Some : goal.returns-in-Some
returns-in-Some c = λ t.
    state_there t c.args.later.now c.args.key.now c.in-Ok-Some.known.now c.in-Some.value
    (subst (λ (o : Option (Bor StateAt)). IsFoundState c.args.later.now.states.items c.args.key.now
    (option_map (λ s. s.now) o)) c.in-Ok-Some.field-0-is c.in-Ok-Some.ensures) c.in-Some.is

pub returns-in-None : goal.returns-in-None
returns-in-None c = λ t.
    state_none t c.args.later.now c.args.key.now c.in-Ok-Some.known.now
    (subst (λ (o : Option (Bor StateAt)). IsFoundState c.args.later.now.states.items c.args.key.now
    (option_map (λ s. s.now) o)) c.in-Ok-Some.field-0-is c.in-Ok-Some.ensures) c.in-None.is

pub returns-in-Ok-None : goal.returns-in-Ok-None
returns-in-Ok-None c = λ t.
    lacks_state t c.args.later.now c.args.key.now c.missing.result c.missing.ensures
    (subst (λ (o : Option (Bor StateAt)). IsFoundState c.args.later.now.states.items c.args.key.now
    (option_map (λ s. s.now) o)) c.in-Ok-None.field-0-is c.in-Ok-None.ensures)
