use Rattle.std.proofs.Common.{arith}
use Rattle.deploy_http.proofs.InputLemmas.{window_is}
use Rattle.deploy_http.proofs.front.window.Goals as goal

pub returns : goal.returns
returns c = window_is c.min.result c.args.bytes.now (omega arith)
