-- The patterns of paths, and which of them a path matches. A pattern is written and matched as `matchit` does: `{s}`
-- takes one segment, and `{*rest}` takes what is left.
use Rattle.std.specs.Prelude.{ℕ, List, [], map, codes, Option, option_map, Result, Ok, Err}
use Rattle.std.specs.Char.{to_ascii_lowercase}
use Rattle.matchit.specs.Rows.{RowsOf}
use Rattle.matchit.specs.Order.{placed}
use Rattle.matchit.specs.Route.{Scan, parse_route}
use Rattle.matchit.specs.Router.{RouteOf, route_from}
use Rattle.matchit.specs.Seek.{first}
use Rattle.matchit.specs.declared.error.InsertError.{InsertError}
use Rattle.http_routes.specs.declared.pattern.Pattern.{Pattern}
use Rattle.http_routes.specs.declared.pattern.Pattern.TheVariants.{Groups, Group, Resources, InGroup, InSubscription}

-- patterns, each with what it means
abbrev pub Rows : Type 0
Rows = RowsOf (RouteOf Pattern)

abbrev pub with_scan : Result Scan InsertError → Pattern → Rows → Rows
with_scan (Ok scan) pattern rows = placed (scan.pattern, route_from scan pattern) rows
with_scan (Err e) pattern rows = rows

-- with the pattern of this text
abbrev pub with_pattern : List ℕ → Pattern → Rows → Rows
with_pattern text pattern rows = with_scan (parse_route text) pattern rows

-- the five patterns
unfoldable pub patterns : Rows
patterns =
    with_pattern (codes "/subscriptions/{s}/providers/{*rest}") InSubscription
    (with_pattern (codes "/subscriptions/{s}/resourcegroups/{g}/providers/{*rest}") InGroup
    (with_pattern (codes "/subscriptions/{s}/resourcegroups/{g}/resources") Resources
    (with_pattern (codes "/subscriptions/{s}/resourcegroups/{g}") Group
    (with_pattern (codes "/subscriptions/{s}/resourcegroups") Groups []))))

-- the pattern that the path matches, in letters of any case
abbrev pub pattern_of : List ℕ → Option Pattern
pattern_of path = option_map (λ route. route.value) (first patterns (map to_ascii_lowercase path))
