use Rattle.std.proofs.Common.{refl, subst}
use Rattle.arm_value.specs.Json.{Json, object, pairs}
use Rattle.arm_value.specs.View.{json}
use Rattle.arm_env.specs.Part.{kept}
use Rattle.arm_env.specs.Knowledge.{finished}
use Rattle.arm_env.specs.Answer.{Gives}
use Rattle.expression_values.proofs.AccessLemmas.{kept_same, shown_put}
use Rattle.expression_values.proofs.access.shown.Goals as goal

pub returns : goal.returns
returns c =
    let same = kept_same (object (pairs c.args.fields))
    (json c.in_ok-outputs.outputs) c.in_ok-outputs.ensures in
    let all = shown_put (object (pairs c.args.fields)) c.in_ok-whole.whole
    (rw (c.in_ok-whole.ensures, c.new.ensures, same) refl) in
    subst (λ (j : Json). Gives json c.keep-2.result (finished (kept j))) all c.keep-2.ensures
