-- What a request asks.
use Rattle.std.specs.Prelude.{ℕ, List, Option, option_map}
use Rattle.arm_value.specs.Json.{Json}
use Rattle.arm_value.specs.View.{json}
use Rattle.lock_rules.specs.declared.level.Level.{Level}
use Rattle.template_parts.specs.declared.mode.Mode.{Mode}
use Rattle.http_routes.specs.declared.places.GroupAt.{GroupAt}
use Rattle.http_routes.specs.declared.places.DeploymentAt.{DeploymentAt}
use Rattle.http_routes.specs.declared.places.LockAt.{LockAt}
use Rattle.http_routes.specs.declared.places.ResourceAt.{ResourceAt}
use Rattle.http_requests.specs.declared.ask.Ask.{Ask}
use Rattle.http_requests.specs.declared.ask.Ask.TheVariants as ask

-- a deployment that is asked for
pub record Deployed : Type 0 where
  pub subscription : List ℕ
  pub group : List ℕ
  pub name : List ℕ
  pub mode : Mode
  pub template : List ℕ
  pub parameters : Option Json

-- what is asked: one constructor for each method of each route
pub data Asked : Type 0 where
  list_groups : List ℕ → Asked
  put_group : GroupAt → List ℕ → Asked
  get_group : GroupAt → Asked
  delete_group : GroupAt → Asked
  list_resources : GroupAt → Asked
  deploy : Deployed → Asked
  get_deployment : DeploymentAt → Asked
  resume : Option DeploymentAt → Asked
  abandon : Option DeploymentAt → Asked
  put_lock : LockAt → Level → List ℕ → Asked
  get_lock : LockAt → Asked
  delete_lock : LockAt → Asked
  get_resource : ResourceAt → Asked
  delete_resource : ResourceAt → Asked

-- what the code's value asks
abbrev pub asked : Ask → Asked
asked (ask.ListGroups s) = list_groups s
asked (ask.PutGroup at location) = put_group at location
asked (ask.GetGroup at) = get_group at
asked (ask.DeleteGroup at) = delete_group at
asked (ask.ListResources at) = list_resources at
asked (ask.Deploy s g n m t p) =
    deploy (record {
      subscription = s;
      group = g;
      name = n;
      mode = m;
      template = t;
      parameters = option_map json p;
    })
asked (ask.GetDeployment at) = get_deployment at
asked (ask.Resume at) = resume at
asked (ask.Abandon at) = abandon at
asked (ask.PutLock at level notes) = put_lock at level notes
asked (ask.GetLock at) = get_lock at
asked (ask.DeleteLock at) = delete_lock at
asked (ask.GetResource at) = get_resource at
asked (ask.DeleteResource at) = delete_resource at
