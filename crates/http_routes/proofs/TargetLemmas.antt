-- Targets that are cut at their first question mark.
use Rattle.std.proofs.Common.{◌≡◌, ◌+◌, ℕ, List, [], length, take, drop, Some, None}
use Rattle.std.proofs.Common.{Result, Err, Bor, lit<, sym, ap, ◌∙◌, subst, arith}
use Rattle.std.specs.List.{position_or_len}
use Rattle.std.proofs.lemmas.List.{take_all}
use Rattle.std.proofs.Math.ListN.{drop_of_length-le}
use Rattle.std.proofs.lemmas.Str.Pattern.{IsSplitOnceResult, split_once_first}
use Rattle.http_routes.specs.Targets.{Reads, is_question, path_of, query_of, target_of, route_in, with_query}
use Rattle.http_routes.specs.declared.route.Route.{Route}
use Rattle.http_routes.specs.declared.target.Target.{Target}
use Rattle.http_routes.specs.declared.target.RouteFault.{RouteFault}
use Rattle.http_routes.specs.declared.target.RouteFault.TheVariants.{BadSegment, NoRoute, OutOfMemory}

pub fault_kept : (given : Result Route RouteFault) (query : List ℕ) (e : RouteFault) → Reads given (Err e)
    → Reads (with_query given query) (Err e)
fault_kept given query BadSegment h = ap (λ g. with_query g query) h
fault_kept given query NoRoute h = ap (λ g. with_query g query) h
fault_kept given query OutOfMemory h = tt

-- what is read of both parts is what is read of the target
pub cut : (bs : List ℕ) (x : Bor (List ℕ) × Bor (List ℕ)) (r : Result Target RouteFault)
    → IsSplitOnceResult 63 bs (Some x) → Reads (with_query (route_in x.0.now) x.1.now) r → Reads (target_of bs) r
cut bs x r is h =
    let parts = split_once_first 63 bs (Some x) is (lit< tt) in
    let P : List ℕ → Type 0 = λ p. Reads (with_query (route_in p) x.1.now) r in
    let Q : List ℕ → Type 0 = λ q. Reads (with_query (route_in (path_of bs)) q) r in
    subst Q parts.2 (subst P parts.1 h)

pub uncut : (bs query : List ℕ) (r : Result Target RouteFault) → IsSplitOnceResult 63 bs None → query ≡ []
    → Reads (with_query (route_in bs) query) r → Reads (target_of bs) r
uncut bs query r is none h =
    let whole : position_or_len is_question bs ≡ length bs = split_once_first 63 bs None is (lit< tt) in
    let path : path_of bs ≡ bs = ap (λ n. take n bs) whole ∙ take_all (length bs) bs (omega arith) in
    let rest : query_of bs ≡ [] =
    ap (λ n. drop (n + 1) bs) whole ∙ drop_of_length-le bs {i = length bs + 1} (omega arith) in
    let P : List ℕ → Type 0 = λ p. Reads (with_query (route_in p) query) r in
    let Q : List ℕ → Type 0 = λ q. Reads (with_query (route_in (path_of bs)) q) r in
    subst Q (none ∙ sym rest) (subst P (sym path) h)
