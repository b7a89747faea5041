-- What is asked of the code.
use Rattle.std.specs.Prelude.{◌≡◌, List, None, map}
use Rattle.template_parts.specs.declared.given.BoundParameter.{BoundParameter}
use Rattle.template_parameters.specs.Binding.{bound_view, bind_fault}
use Rattle.template_tree.specs.Tree.{TemplateTree}
use Rattle.plan_cells.specs.Resources.{header_in}
use Rattle.deployment_requests.specs.Requests.{Request, bound_in}
use Rattle.template_deployments.specs.declared.asked.Asked.{Asked}

abbrev pub request_of : Asked → Request
request_of a = record { given = a.given.now; place = a.place.now; mode = a.mode; held = a.held.now }

-- the parameters of a template are bound to what the request gives, which they take
pub record IsBoundTo (q : Request) (t : TemplateTree) (b : List BoundParameter) : Type 0 where
  pub accepted : bind_fault q.given (header_in t).parameters ≡ None
  pub bound : map bound_view b ≡ bound_in q t
