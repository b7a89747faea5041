use Rattle.deploy_http.proofs.OneLemmas.{request_one, refused_one, request_apart, request_some, refused_some}
use Rattle.deploy_http.proofs.OneLemmas.{refused_early, request_further}
use Rattle.deploy_http.proofs.laws.one_request.Goals as goal

pub returns-clause-one : goal.returns-clause-one
returns-clause-one c input left other r s x y = request_one input left other r s x y

pub returns-clause-refusal : goal.returns-clause-refusal
returns-clause-refusal c input coming later f g x y = refused_one input coming later f g x y

pub returns-clause-early : goal.returns-clause-early
returns-clause-early c input coming f x ends = refused_early input coming f x ends

pub returns-clause-apart : goal.returns-clause-apart
returns-clause-apart c input left coming r f x y = request_apart input left coming r f x y

pub returns-clause-some : goal.returns-clause-some
returns-clause-some c input left r x e = request_some input left r x e

pub returns-clause-wrong : goal.returns-clause-wrong
returns-clause-wrong c input coming f x e = refused_some input coming f x e

pub returns-clause-further : goal.returns-clause-further
returns-clause-further c input left more r x = request_further input left more r x
