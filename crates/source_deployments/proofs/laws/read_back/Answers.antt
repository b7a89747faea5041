use Rattle.source_deployments.proofs.SourceLemmas.{reads_back}
use Rattle.source_deployments.proofs.laws.read_back.Goals as goal

pub returns : goal.returns
returns c = reads_back c.read_once.ensures c.described_once.ensures
