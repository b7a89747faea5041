use Rattle.std.proofs.Common.{◌≡◌, ◌∙◌, arith, ap, ℕ}
use Rattle.std.specs.Prelude.{replicate, []}
use Rattle.bicep_dependencies.proofs.filling.empty_sets.Goals as goal

pub returns : goal.returns
returns c =
    let all : c.loop.counter ≡ c.args.count = omega arith in
    c.loop.invariant ∙ ap (λ (n : ℕ). replicate n []) all
