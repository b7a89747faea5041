use Rattle.deploy_journal.proofs.Unique.{damage_one}
use Rattle.deploy_journal.proofs.laws.damage_has_one_place.Goals as goal

pub returns : goal.returns
returns c = λ file m n small x y. damage_one file m n small x y
