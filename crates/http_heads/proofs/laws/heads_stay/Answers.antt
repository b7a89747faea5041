use Rattle.httparse.proofs.GrammarLemmas.{request_unique, ReadsRequest-append}
use Rattle.http_heads.proofs.FrontLemmas.{head_has_hope, hopeless_further}
use Rattle.http_heads.proofs.laws.heads_stay.Goals as goal

pub returns-clause-one : goal.returns-clause-one
returns-clause-one c bytes rest left h k x y = request_unique bytes h k rest left x y

pub returns-clause-further : goal.returns-clause-further
returns-clause-further c bytes more rest h x = ReadsRequest-append bytes h rest more x

pub returns-clause-hopeless : goal.returns-clause-hopeless
returns-clause-hopeless c bytes more x = hopeless_further bytes more x

pub returns-clause-apart : goal.returns-clause-apart
returns-clause-apart c bytes rest h x = head_has_hope bytes h rest x
