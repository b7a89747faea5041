use Rattle.source_needs.proofs.PassingLemmas.{all_dependencies}
use Rattle.source_needs.proofs.laws.dependencies_are_all.Goals as goal

pub returns : goal.returns
returns c = λ f k n. all_dependencies f k n
