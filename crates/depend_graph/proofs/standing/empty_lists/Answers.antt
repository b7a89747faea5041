use Rattle.std.proofs.Common.{◌≡◌, ◌∙◌, arith, ap, ℕ}
use Rattle.std.specs.Prelude.{replicate, []}
use Rattle.depend_graph.proofs.standing.empty_lists.Goals as goal

pub returns : goal.returns
returns c =
    let all : c.loop.counter ≡ c.args.count = omega arith in
    c.loop.invariant ∙ ap (λ (n : ℕ). replicate n []) all
