use Rattle.request_deployments.proofs.RequestLemmas.{only_memory}
use Rattle.request_deployments.proofs.deploying.read_back.Goals as goal

pub no_memory-requires : goal.no_memory-requires
no_memory-requires c = only_memory c.args.bytes.now c.in-Err.fault c.requires c.in-Err.ensures.fault

pub returns-in-Ok : goal.returns-in-Ok
returns-in-Ok c = record {
  gives = c.in-Ok.ensures.ok;
  characters = c.know_characters.ensures;
  rules = c.nesting-nesting.ensures.rules;
}
