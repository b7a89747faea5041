use Rattle.std.proofs.Common.{map, sym, subst}
use Rattle.arm_value.specs.View.{json}
use Rattle.arm_env.specs.Knowledge.{Told, told}
use Rattle.arm_env.specs.Look.{Look}
use Rattle.arm_env.specs.Held.{Held}
use Rattle.arm_env.specs.Answer.{Gives}
use Rattle.arm_env.specs.Sight.{here, held_of}
use Rattle.arm_env.specs.Id.{resource_id, subscription_id}
use Rattle.arm_env.specs.declared.function.Strict.{Strict}
use Rattle.expression_values.specs.Meaning.{strict_row}
use Rattle.expression_values.proofs.IdLemmas.{id_is}
use Rattle.expression_values.proofs.strict.strict_row.Goals as goal
use Rattle.arm_functions.specs.Cuts.{texts_in}

pub returns-in-ResourceId : goal.returns-in-ResourceId
returns-in-ResourceId g c =
    let p = g.K.Entries.known c.args.entries.now in
    let vs = map json c.args.args.now in
    subst (λ (f : Strict). Gives held_of c.resource_id_row.result (told p (strict_row (here c.args.around.now) f vs)))
    (sym c.in-ResourceId.is)
    (subst (λ (t : Told Look Held). Gives held_of c.resource_id_row.result t)
    (sym (id_is p (resource_id c.args.around.now.place.now) (texts_in vs))) c.resource_id_row.ensures)

pub returns-in-SubscriptionResourceId : goal.returns-in-SubscriptionResourceId
returns-in-SubscriptionResourceId g c =
    let p = g.K.Entries.known c.args.entries.now in
    let vs = map json c.args.args.now in
    subst
    (λ (f : Strict). Gives held_of c.subscription_id_row.result (told p (strict_row (here c.args.around.now) f vs)))
    (sym c.in-SubscriptionResourceId.is)
    (subst (λ (t : Told Look Held). Gives held_of c.subscription_id_row.result t)
    (sym (id_is p (subscription_id c.args.around.now.place.now) (texts_in vs))) c.subscription_id_row.ensures)
