use Rattle.std.proofs.Common.{rules}
use Rattle.crew_channels.proofs.ResultLemmas.{puts}
use Rattle.crew_channels.proofs.results.send_done.Goals as goal

pub send_as-requires-clause-rule : goal.send_as-requires-clause-rule
send_as-requires-clause-rule g c = (puts _ _ _ _ (search rules) (search rules), λ items views h at. tt)
