use Rattle.deploy_http.proofs.TalkLemmas.{requests_one}
use Rattle.deploy_http.proofs.laws.one_conversation.Goals as goal

pub returns : goal.returns
returns c bytes rs ss e d x y = requests_one bytes rs ss e d x y
