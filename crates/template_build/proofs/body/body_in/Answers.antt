use Rattle.std.proofs.Common.{◌≡◌, List, IfOk, Some, sym, ap, ◌∙◌, subst}
use Rattle.arm_value.specs.Json.{Member}
use Rattle.arm_value.specs.View.{json}
use Rattle.arm_value.proofs.TreeLemmas.{members-pairs}
use Rattle.template_meaning.specs.Values.{members_in}
use Rattle.template_meaning.specs.Resources.{body_of}
use Rattle.template_build.proofs.body.body_in.Goals as goal

pub returns-in-Object : goal.returns-in-Object
returns-in-Object c =
    subst (λ (x : List Member). IfOk c.body_of.result (λ ms. ms ≡ body_of c.args.symbol.now x))
    (sym (ap (λ v. members_in (Some (json v))) c.in-Object.is ∙ members-pairs c.in-Object.fields)) c.body_of.ensures
