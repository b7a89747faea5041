use Rattle.std.proofs.Common.{◌≡◌, true}
use Rattle.plan_codes.proofs.CodeLemmas.{tag_eq}
use Rattle.plan_codes.proofs.laws.tags_are_told_apart.Goals as goal

pub returns : goal.returns
returns c = λ number here. tag_eq number (λ p. here p ≡ true)
