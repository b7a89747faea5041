use Rattle.std.proofs.Common.{rules}
use Rattle.crew_channels.proofs.ResultLemmas.{takes}
use Rattle.crew_channels.proofs.results.receive_done.Goals as goal

pub recv_as-requires-clause-rule : goal.recv_as-requires-clause-rule
recv_as-requires-clause-rule g c = (takes _ _ (search rules), λ items views h at. tt)
