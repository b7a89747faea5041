use Rattle.std.proofs.Common.{ap, ◌∙◌, map, ◌++◌, ◌∷◌, []}
use Rattle.std.proofs.lemmas.List.{map-append}
use Rattle.arm_env.specs.Sight.{declared_of}
use Rattle.point_rows.proofs.outputs.push_declared.Goals as goal

pub returns : goal.returns
returns c =
    ap (map declared_of) c.in_ok-push.ensures.items ∙ map-append declared_of c.args.listed.now.items _
    ∙ ap (λ k. map declared_of c.args.listed.now.items
    ++ record { name = c.args.output.now.name; kind = k } ∷ []) c.of.ensures
