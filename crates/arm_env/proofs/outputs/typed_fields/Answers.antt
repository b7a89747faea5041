use Rattle.std.proofs.Common.{ap, ◌∙◌, codes}
use Rattle.std.proofs.lemmas.Result.{IfOk-weaker}
use Rattle.std.specs.Str.{chars}
use Rattle.arm_value.specs.Json.{put, text}
use Rattle.arm_value.specs.View.{json}
use Rattle.arm_env.proofs.HeldLemmas.{typed_put}
use Rattle.arm_env.proofs.outputs.typed_fields.Goals as goal

pub returns-in-Ok : goal.returns-in-Ok
returns-in-Ok c =
    let k = text c.args.output.now.kind.now in
    IfOk-weaker _ _ _
    (λ f e. typed_put k (json c.args.value) c.in-Ok.fields f
    (c.in-Ok.ensures ∙ ap (put (chars (codes "type")) k) c.new.ensures) e) c.with_value.ensures
