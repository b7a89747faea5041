-- What the target of a request says (RFC 9112, section 3.2.1): a path, and a query after the first question mark.
use Rattle.std.specs.Prelude.{◌≡◌, ℕ, ◌==◌, Bool, ◌&&◌, List, take, length, nat_lt, codes, bytes_eq, Option, Some, None}
use Rattle.std.specs.Prelude.{Result, Ok, Err}
use Rattle.std.specs.List.{list_any, slice_split, before_first, after_first}
use Rattle.http_routes.specs.Patterns.{pattern_of}
use Rattle.http_routes.specs.Segments.{Part, segments_of}
use Rattle.http_routes.specs.Routes.{route_of}
use Rattle.http_routes.specs.declared.pattern.Pattern.{Pattern}
use Rattle.http_routes.specs.declared.route.Route.{Route}
use Rattle.http_routes.specs.declared.target.Target.{Target}
use Rattle.http_routes.specs.declared.target.RouteFault.{RouteFault}
use Rattle.http_routes.specs.declared.target.RouteFault.TheVariants.{BadSegment, NoRoute, OutOfMemory}

abbrev pub is_question : ℕ → Bool
is_question byte = byte == 63

abbrev pub is_ampersand : ℕ → Bool
is_ampersand byte = byte == 38

-- the path, and the query
abbrev pub path_of : List ℕ → List ℕ
path_of target = before_first is_question target

abbrev pub query_of : List ℕ → List ℕ
query_of target = after_first is_question target

-- whether the piece of a query is an `api-version` with a value
abbrev pub is_api_version : List ℕ → Bool
is_api_version piece = nat_lt 12 (length piece) && bytes_eq (codes "api-version=") (take 12 piece)

-- whether the query has an `api-version` with a value
abbrev pub has_api_version : List ℕ → Bool
has_api_version query = list_any is_api_version (slice_split is_ampersand query)

-- the route, or that there is none
abbrev pub or_no_route : Option Route → Result Route RouteFault
or_no_route (Some route) = Ok route
or_no_route None = Err NoRoute

-- the route of a path with these segments, or that one of them is no name
abbrev pub route_with : Pattern → Option (List Part) → Result Route RouteFault
route_with pattern (Some parts) = or_no_route (route_of pattern parts)
route_with pattern None = Err BadSegment

-- the route of a path that matches this pattern, or that it matches none
abbrev pub route_by : Option Pattern → List ℕ → Result Route RouteFault
route_by (Some pattern) path = route_with pattern (segments_of path)
route_by None path = Err NoRoute

-- the route of a path: first the pattern, then the segments, then the route
abbrev pub route_in : List ℕ → Result Route RouteFault
route_in path = route_by (pattern_of path) path

-- with what the query says
abbrev pub with_query : Result Route RouteFault → List ℕ → Result Target RouteFault
with_query (Ok route) query = Ok (record { route = route; versioned = has_api_version query })
with_query (Err e) query = Err e

-- what a target says
abbrev pub target_of : List ℕ → Result Target RouteFault
target_of target = with_query (route_in (path_of target)) (query_of target)

-- what is answered where the definition gives this, unless memory runs out
abbrev pub Reads : {A : Type 0} → Result A RouteFault → Result A RouteFault → Type 0
Reads given (Ok a) = given ≡ Ok a
Reads given (Err BadSegment) = given ≡ Err BadSegment
Reads given (Err NoRoute) = given ≡ Err NoRoute
Reads given (Err OutOfMemory) = Unit {0}
