-- What a plan that is given as tables deploys: a template with one resource, which has a loop of any number of
-- instances, one batch after another; and scopes in one another, which are none of its nested deployments.
use Rattle.std.specs.Prelude.{◌≡◌, ◌≤◌, ◌+◌, ◌/◌, ℕ, zero, suc, nat_eq, Bool, List, [], ◌∷◌, map, length}
use Rattle.std.specs.Prelude.{Some, None, false}
use Rattle.arm_value.specs.Json.{Json, null, text, object, no_pairs}
use Rattle.arm_value.specs.View.{json}
use Rattle.arm_value.specs.declared.value.Value.{Value}
use Rattle.arm_value.specs.declared.value.Value.TheVariants as value
use Rattle.arm_ids.specs.Id.{text_of}
use Rattle.provider_trait.specs.declared.act.Act.TheVariants as act
use Rattle.reading.specs.Knowledge.{known, missing}
use Rattle.template_parts.specs.declared.declaration.Declaration.{Declaration}
use Rattle.template_parts.specs.declared.looping.Batches.TheVariants.{Serial}
use Rattle.template_parts.specs.declared.mode.Form.TheVariants.{One}
use Rattle.template_parts.specs.declared.mode.Mode.TheVariants.{Incremental}
use Rattle.template_tree.specs.Tree.{Header, TemplateTree, template, resource, body_members, no_resources}
use Rattle.template_tree.specs.Tree.{a_resource}
use Rattle.deploy_cells.specs.Cells.{step, Position, name}
use Rattle.deploy_cells.specs.Puts.{id_at}
use Rattle.plan_cells.specs.Known.{Table}
use Rattle.plan_cells.specs.Tasks.{Task, enter, leave, put}
use Rattle.deploy_histories.specs.Outcome.{Target}
use Rattle.deploy_histories.specs.Planned.{Planned}
use Rattle.task_standings.specs.declared.standing.Aim.{Aim}
use Rattle.task_standings.specs.declared.standing.Kind.{Kind}
use Rattle.task_standings.specs.declared.standing.Kind.TheVariants as kind
use Rattle.given_plans.specs.declared.plan.GivenPlan.{GivenPlan}
use Rattle.given_plans.specs.declared.plan.GivenTask.{GivenTask}
use Rattle.given_plans.specs.declared.plan.GivenTask.TheVariants.{Enter, Put, Leave}

-- the scope of a depth: each is an instance of a second resource of the one around it
abbrev pub at_depth : ℕ → Position
at_depth zero = []
at_depth (suc n) = step 1 0 ∷ at_depth n

abbrev pub task_of : GivenTask → Task
task_of (Enter n) = enter (at_depth n)
task_of (Put i) = put [] (step 0 i)
task_of (Leave n) = leave (at_depth n)

-- what a task does
abbrev pub kind_in : GivenTask → Kind
kind_in (Enter n) = kind.Enter
kind_in (Put i) = kind.Put
kind_in (Leave n) = kind.Leave

-- the body of a put is an empty object
abbrev pub body_json : GivenTask → Json
body_json (Enter n) = null
body_json (Put i) = object no_pairs
body_json (Leave n) = null

abbrev pub given_body : GivenTask → Value → Type 0
given_body t v = json v ≡ body_json t

-- ---- the template

-- without outputs, parameters and variables
abbrev pub given_header : Header
given_header =
    record { form = One; schema = []; content_version = []; parameters = []; variables = []; outputs = [] }

-- the declaration of the resource; the size of its batches is one more than this
abbrev pub given_declaration : GivenPlan → Declaration
given_declaration g = record {
  symbol = None;
  existing = false;
  kind = g.naming.kind;
  api_version = g.naming.api;
  name = value.Null;
  condition = None;
  depends_on = [];
  copy = Some (record { name = []; count = value.Null; batches = Serial (suc g.size) });
  metadata = None;
}

abbrev pub given_template : GivenPlan → TemplateTree
given_template g =
    template given_header (a_resource (resource (given_declaration g) (body_members []) no_resources) no_resources)

-- each instance has this name, and nothing else is known at the start
abbrev pub names_alone : List ℕ → Table
names_alone n (name p s) = known (text n)
names_alone n _ = missing

-- nothing is known
abbrev pub nothing_known : Table
nothing_known c = missing

-- what is deployed
abbrev pub planned_of : GivenPlan → Planned
planned_of g = record {
  deployment = record { template = given_template g; bound = []; place = g.naming.place };
  mode = Incremental;
  held = [];
  tasks = map task_of g.tasks.items;
  keys = [];
  known = names_alone g.naming.name;
}

-- there are as few tasks as a board takes
abbrev pub IsGiven : GivenPlan → Type 0
IsGiven g = length g.tasks.items ≤ 4294967295

-- ---- what a put is for

abbrev pub aim_target : Aim → Target
aim_target a = record { act = a.act; id = a.id; api = a.api }

abbrev pub given_target : GivenPlan → Target
given_target g = record {
  act = act.Put;
  id = text_of (id_at g.naming.place g.naming.kind g.naming.name);
  api = g.naming.api;
}

-- ---- needs

-- the one number comes after the other
abbrev pub is_next : ℕ → ℕ → Bool
is_next a b = nat_eq a (b + 1)

-- the one index is in the batch after that of the other
abbrev pub follows : ℕ → ℕ → ℕ → Bool
follows size i j = nat_eq (i / (size + 1)) ((j / (size + 1)) + 1)
