use Rattle.std.proofs.Common.{ap, ◌∙◌, sym, subst}
use Rattle.std.specs.Prelude.{IfOk}
use Rattle.bicep_declared.specs.View.{body_tree}
use Rattle.emitted_expressions.specs.Sight.{frames_of}
use Rattle.emitted_values.specs.Seen.{whole_in}
use Rattle.emitted_resources.specs.Heads.{whole_name, whole_condition}
use Rattle.emitted_resources.proofs.HeadLemmas.{AreNames, names_placed}
use Rattle.emitted_resources.proofs.heads.named_in_loop.Goals as goal

pub returns-in-Ok : goal.returns-in-Ok
returns-in-Ok c =
    let s = c.args.table.now in
    let n = c.args.number in
    let l = (body_tree c.args.body.now).each in
    subst (λ r. IfOk r (AreNames (whole_name (whole_in s) n l) (whole_condition (whole_in s) n l)))
    (sym c.letting_go.ensures)
    (names_placed s c.requires n l (frames_of c.as_slice.result.now)
    (ap frames_of c.as_slice.ensures.value ∙ c.in-Ok.ensures) c.named.result c.named.ensures)
