-- A value states one template.
use Rattle.std.proofs.Common.{◌≡◌, subst}
use Rattle.arm_template.specs.States.{States}
use Rattle.arm_value.specs.Json.{Json}
use Rattle.deploy_histories.specs.Planned.{Planned}
use Rattle.template_tree.specs.Tree.{TemplateTree}
use Rattle.deployment_requests.specs.Requests.{Request, IsPlanOf, IsPlanBy}

pub of_one : ((v : Json) (t u : TemplateTree) → States v t → States v u → t ≡ u) → (v : Json) (q : Request)
    (x : Planned) (t : TemplateTree) → States v t → IsPlanBy v q x → IsPlanOf q t x
of_one once v q x t s p = subst (λ (u : TemplateTree). IsPlanOf q u x) (once v p.template t p.states s) p.is_plan
