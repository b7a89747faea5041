use Rattle.http_requests.proofs.OneLemmas.{ask_one, ask_not_bad}
use Rattle.http_requests.proofs.laws.one_ask.Goals as goal

pub returns-clause-one : goal.returns-clause-one
returns-clause-one c call body what other e f = ask_one call body what other e f

pub returns-clause-apart : goal.returns-clause-apart
returns-clause-apart c call body what e bad = ask_not_bad call body what e bad
