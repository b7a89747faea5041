use Rattle.deploy_journal.proofs.Unique.{holds_one, place_one}
use Rattle.deploy_journal.proofs.laws.records_follow_from_the_bytes.Goals as goal

pub returns : goal.returns
returns c = λ file xs ys m n small x y. (holds_one xs ys m n file small x y, place_one xs ys m n file small x y)
