use Rattle.std.proofs.Common.{sym, ap, ◌∙◌, map}
use Rattle.std.proofs.lemmas.Result.{IfOk-weaker}
use Rattle.arm_value.specs.View.{json}
use Rattle.deploy_cells.specs.Listing.{instances_of}
use Rattle.plan_sight.specs.Sites.{first_name, concat}
use Rattle.plan_nested.proofs.HitLemmas.{items_there, items_nowhere}
use Rattle.plan_names.specs.Named.{is_spelled}
use Rattle.plan_names.proofs.around.named_in.Goals as goal
use Rattle.arm_ids.specs.Members.{deployment_type}

pub returns-in-Some : goal.returns-in-Some
returns-in-Some c =
    let j = json c.args.listing.now in
    IfOk-weaker c.first_among.result _ _
    (λ o e. e ∙ ap (λ js. first_name (is_spelled c.args.text.now deployment_type) (concat (map instances_of js)))
    (c.as_slice.ensures.items ∙ sym (items_there j c.in-Some.items.now c.in-Some.ensures))) c.first_among.ensures

pub returns-in-None : goal.returns-in-None
returns-in-None c =
    let j = json c.args.listing.now in
    ap (λ js. first_name (is_spelled c.args.text.now deployment_type) (concat (map instances_of js)))
    (sym (items_nowhere j c.in-None.ensures))
