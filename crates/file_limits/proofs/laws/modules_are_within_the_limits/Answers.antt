use Rattle.file_limits.proofs.FitLemmas.{template_within}
use Rattle.file_limits.proofs.laws.modules_are_within_the_limits.Goals as goal

pub returns : goal.returns
returns c = λ z s rs ms os inner around n at b q h.
    template_within z s rs ms os inner around h n at b q
