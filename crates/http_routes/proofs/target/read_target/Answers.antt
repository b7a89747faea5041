use Rattle.std.proofs.Common.{ℕ, List, refl, subst}
use Rattle.http_routes.specs.Targets.{Reads, target_of}
use Rattle.http_routes.proofs.TargetLemmas.{cut, uncut}
use Rattle.http_routes.proofs.target.read_target.Goals as goal

pub returns-in-Some : goal.returns-in-Some
returns-in-Some c =
    let P : List ℕ → Type 0 = λ t. Reads (target_of t) c.target_in.result in
    subst P c.in-Ok.ensures.cases.0
    (cut c.in-Ok.target.now (c.in-Some.path, c.in-Some.query) c.target_in.result c.in-Some.ensures.cases
    c.target_in.ensures)

pub returns-in-None : goal.returns-in-None
returns-in-None c =
    let P : List ℕ → Type 0 = λ t. Reads (target_of t) c.target_in-in-None.result in
    subst P c.in-Ok.ensures.cases.0
    (uncut c.in-Ok.target.now _ c.target_in-in-None.result c.in-None.ensures.cases refl c.target_in-in-None.ensures)
