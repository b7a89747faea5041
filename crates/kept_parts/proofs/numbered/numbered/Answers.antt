use Rattle.std.proofs.Common.{subst, arith}
use Rattle.std.specs.Prelude.{IfOk}
use Rattle.kept_expressions.specs.Kept.{AreKeptHoles}
use Rattle.kept_parts.proofs.PieceLemmas.{many_parts}
use Rattle.kept_parts.proofs.numbered.numbered.Goals as goal

pub returns-else-count-lt2 : goal.returns-else-count-lt2
returns-else-count-lt2 c = λ a h.
    subst (λ us. IfOk c.split_parts.result (λ ps. AreKeptHoles us ps.items))
    (many_parts a c.args.count (omega (arith, c.if-count-lt2.false))) (c.split_parts.ensures a h)
