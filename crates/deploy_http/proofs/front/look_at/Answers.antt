use Rattle.std.proofs.Common.{subst, arith}
use Rattle.http_heads.specs.Fronts.{IsFront}
use Rattle.http_heads.specs.declared.front.Front.{Front}
use Rattle.deploy_http.specs.Requests.{window}
use Rattle.deploy_http.proofs.InputLemmas.{hopeless_refused, too_large_refused}
use Rattle.deploy_http.proofs.front.look_at.Goals as goal

pub returns-in-Hopeless : goal.returns-in-Hopeless
returns-in-Hopeless c =
    let P : Front → Type 0 = IsFront (window c.args.bytes.now) in
    hopeless_refused c.args.bytes.now (subst P c.in-Hopeless.is c.requires.front)

pub returns-else-bytes-lt-MAX_HEAD_BYTES : goal.returns-else-bytes-lt-MAX_HEAD_BYTES
returns-else-bytes-lt-MAX_HEAD_BYTES c =
    let P : Front → Type 0 = IsFront (window c.args.bytes.now) in
    too_large_refused c.args.bytes.now (omega arith) (subst P c.in-Unfinished.is c.requires.front)
