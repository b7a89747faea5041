use Rattle.deploy_http.proofs.TalkLemmas.{answer_one, left_one}
use Rattle.deploy_http.proofs.laws.one_answer.Goals as goal

pub returns-clause-same : goal.returns-clause-same
returns-clause-same c input left other coming later a b d e x y =
    answer_one input left other coming later a b d e x y

pub returns-clause-left : goal.returns-clause-left
returns-clause-left c input left other coming later a b d e x y =
    left_one input left other coming later a b d e x y
