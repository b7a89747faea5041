-- What the segments of a path mean.
use Rattle.std.specs.Prelude.{ℕ, ◌-◌, ◌==◌, Bool, ◌&&◌, List, [], ◌∷◌, map, length, take, drop, codes, Option}
use Rattle.std.specs.Prelude.{Some, None, option_map, if◌then◌else◌}
use Rattle.arm_value.specs.Look.{fold}
use Rattle.arm_ids.specs.Segments.{segments, slashed}
use Rattle.arm_ids.specs.Id.{reading}
use Rattle.arm_ids.specs.ScopeId.{container_of}
use Rattle.arm_ids.specs.declared.id.ResourceId.{ResourceId}
use Rattle.arm_ids.specs.declared.scope.Scope.{Scope}
use Rattle.arm_ids.specs.declared.scope.Scope.TheVariants as scope
use Rattle.http_routes.specs.Segments.{Part, is_word}
use Rattle.http_routes.specs.declared.pattern.Pattern.{Pattern}
use Rattle.http_routes.specs.declared.pattern.Pattern.TheVariants as pattern
use Rattle.http_routes.specs.declared.places.GroupAt.{GroupAt}
use Rattle.http_routes.specs.declared.places.DeploymentAt.{DeploymentAt}
use Rattle.http_routes.specs.declared.route.Route.{Route}
use Rattle.http_routes.specs.declared.route.Route.TheVariants.{Groups, Group, Resources, Deployment, Resume, Abandon}
use Rattle.http_routes.specs.declared.route.Route.TheVariants.{Lock, Resource}
use Rattle.foundation.specs.Options.{or_else}

-- the names of the segments as one text, with a slash before each
abbrev pub id_of : List Part → List ℕ
id_of parts = slashed (map (λ part. part.name) parts)

-- the key of which the text is the id, if there is one
abbrev pub key_of : List ℕ → Option ResourceId
key_of id = reading (fold id)

-- the scope of which the text is the id, if there is one: a subscription, a group or a resource
abbrev pub scope_of : List ℕ → Option Scope
scope_of id = or_else (container_of (segments id)) (option_map scope.Resource (key_of id))

-- a group of a subscription
abbrev pub group_at : Part → Part → GroupAt
group_at s g = record { subscription = s.name; group = g.name }

-- a deployment in a group
abbrev pub deployment_at : Part → Part → Part → DeploymentAt
deployment_at s g n = record { subscription = s.name; group = g.name; name = n.name }

-- whether these are the words of the type of deployments
abbrev pub are_deployments : Part → Part → Bool
are_deployments provider kind =
    is_word (codes "microsoft.resources") provider && is_word (codes "deployments") kind

-- what is asked of a deployment by a word after its name
abbrev pub asked : Part → DeploymentAt → Option Route
asked word deployment =
    if is_word (codes "resume") word then Some (Resume deployment) else
    (if is_word (codes "abandon") word then Some (Abandon deployment) else None)

-- the deployment, or what the one word after its name asks of it
abbrev pub asked_by : List Part → DeploymentAt → Option Route
asked_by [] deployment = Some (Deployment deployment)
asked_by (word ∷ after) deployment = if length after == 0 then asked word deployment else None

-- a deployment, by the segments after `providers`
abbrev pub deployment_of : Part → Part → List Part → Option Route
deployment_of s g (provider ∷ kind ∷ name ∷ more) =
    if are_deployments provider kind then asked_by more (deployment_at s g name) else None
deployment_of s g _ = None

-- a deployment, by all segments
abbrev pub deployment_route : List Part → Option Route
deployment_route (a ∷ s ∷ b ∷ g ∷ c ∷ rest) = deployment_of s g rest
deployment_route _ = None

-- the lock of this name on the scope of this id
abbrev pub lock_on : List ℕ → List ℕ → Option Route
lock_on id name =
    option_map (λ on. Lock (record { scope = on; id = id; name = name })) (scope_of id)

-- whether these are the fixed words of the path of a lock
abbrev pub are_locks : Part → Part → Part → Bool
are_locks providers provider kind =
    is_word (codes "providers") providers
    && (is_word (codes "microsoft.authorization") provider && is_word (codes "locks") kind)

-- the lock whose four segments follow those of its scope
abbrev pub lock_at : List Part → List Part → Option Route
lock_at front (providers ∷ provider ∷ kind ∷ name ∷ after) =
    if are_locks providers provider kind then lock_on (id_of front) name.name else None
lock_at front _ = None

-- the lock that a path ends in
abbrev pub lock_route : List Part → Option Route
lock_route parts = lock_at (take (length parts - 4) parts) (drop (length parts - 4) parts)

-- the resource whose id the path is
abbrev pub resource_route : List Part → Option Route
resource_route parts = option_map (λ key. Resource (record { key = key; id = id_of parts })) (key_of (id_of parts))

-- a lock, else a resource
abbrev pub provider_route : List Part → Option Route
provider_route parts = or_else (lock_route parts) (resource_route parts)

-- the route of a path that matches the pattern and has these segments: the first that fits of a deployment, a lock and
-- a resource
abbrev pub route_of : Pattern → List Part → Option Route
route_of pattern.Groups (a ∷ s ∷ rest) = Some (Groups s.name)
route_of pattern.Group (a ∷ s ∷ b ∷ g ∷ rest) = Some (Group (group_at s g))
route_of pattern.Resources (a ∷ s ∷ b ∷ g ∷ rest) = Some (Resources (group_at s g))
route_of pattern.InGroup parts = or_else (deployment_route parts) (provider_route parts)
route_of pattern.InSubscription parts = provider_route parts
route_of _ _ = None
