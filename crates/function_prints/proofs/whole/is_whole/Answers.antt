use Rattle.std.proofs.Common.{w64}
use Rattle.std.specs.Prelude.{FitsSigned}
use Rattle.function_prints.proofs.WholeLemmas.{number_whole}
use Rattle.function_prints.proofs.whole.is_whole.Goals as goal

pub returns : goal.returns
returns c =
    let fits : FitsSigned w64 c.args.number = c.ranges.number in
    number_whole c.args.number fits
