use Rattle.foundation.proofs.Options.{if_ok}
use Rattle.key_faults.proofs.FaultLemmas.{nested_fault}
use Rattle.key_faults.proofs.keys.nested_fault.Goals as goal

pub returns : goal.returns
returns c =
    if_ok _ _ c.same_fault.result c.same_fault.ensures (λ f e. λ mode held.
    nested_fault c.args.table.now c.requires.table mode held c.args.first c.args.second c.in-Some.first
    c.in-Some-opener_of.second f c.requires.same c.in-Some.ensures.opened c.in-Some-opener_of.ensures.opened e)
