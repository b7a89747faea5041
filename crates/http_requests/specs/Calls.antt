-- What a method asks of a route, before the body is read.
use Rattle.std.specs.Prelude.{ℕ, List, Option, Some, None}
use Rattle.http_routes.specs.declared.places.GroupAt.{GroupAt}
use Rattle.http_routes.specs.declared.places.DeploymentAt.{DeploymentAt}
use Rattle.http_routes.specs.declared.places.LockAt.{LockAt}
use Rattle.http_routes.specs.declared.places.ResourceAt.{ResourceAt}
use Rattle.http_routes.specs.declared.route.Route.{Route}
use Rattle.http_routes.specs.declared.route.Route.TheVariants as route
use Rattle.http_requests.specs.declared.verb.Verb.{Verb}
use Rattle.http_requests.specs.declared.verb.Verb.TheVariants.{Get, Put, Post, Delete}
use Rattle.http_requests.specs.declared.call.Call.{Call}
use Rattle.http_requests.specs.declared.call.Call.TheVariants as call
use Rattle.http_requests.specs.Asks.{Asked, asked, list_groups, get_group, delete_group, list_resources}
use Rattle.http_requests.specs.Asks.{get_deployment, resume, abandon, get_lock, delete_lock, get_resource}
use Rattle.http_requests.specs.Asks.{delete_resource}

-- what is asked, or what the body must still say of it
pub data Called : Type 0 where
  ready : Asked → Called
  puts_group : GroupAt → Called
  deploys : DeploymentAt → Called
  puts_lock : LockAt → Called

-- the call that the code's value is
abbrev pub called : Call → Called
called (call.Ready ask) = ready (asked ask)
called (call.PutGroup at) = puts_group at
called (call.Deploy at) = deploys at
called (call.PutLock at) = puts_lock at

abbrev pub groups_call : List ℕ → Verb → Option Called
groups_call s Get = Some (ready (list_groups s))
groups_call s _ = None

abbrev pub group_call : GroupAt → Verb → Option Called
group_call at Get = Some (ready (get_group at))
group_call at Put = Some (puts_group at)
group_call at Delete = Some (ready (delete_group at))
group_call at _ = None

abbrev pub resources_call : GroupAt → Verb → Option Called
resources_call at Get = Some (ready (list_resources at))
resources_call at _ = None

abbrev pub deployment_call : DeploymentAt → Verb → Option Called
deployment_call at Get = Some (ready (get_deployment at))
deployment_call at Put = Some (deploys at)
deployment_call at _ = None

abbrev pub resume_call : DeploymentAt → Verb → Option Called
resume_call at Post = Some (ready (resume (Some at)))
resume_call at _ = None

abbrev pub abandon_call : DeploymentAt → Verb → Option Called
abandon_call at Post = Some (ready (abandon (Some at)))
abandon_call at _ = None

abbrev pub lock_call : LockAt → Verb → Option Called
lock_call at Get = Some (ready (get_lock at))
lock_call at Put = Some (puts_lock at)
lock_call at Delete = Some (ready (delete_lock at))
lock_call at _ = None

abbrev pub resource_call : ResourceAt → Verb → Option Called
resource_call at Get = Some (ready (get_resource at))
resource_call at Delete = Some (ready (delete_resource at))
resource_call at _ = None

-- what the method asks of the route; none where the route has not the method
abbrev pub call_of : Route → Verb → Option Called
call_of (route.Groups s) verb = groups_call s verb
call_of (route.Group at) verb = group_call at verb
call_of (route.Resources at) verb = resources_call at verb
call_of (route.Deployment at) verb = deployment_call at verb
call_of (route.Resume at) verb = resume_call at verb
call_of (route.Abandon at) verb = abandon_call at verb
call_of (route.Lock at) verb = lock_call at verb
call_of (route.Resource at) verb = resource_call at verb
