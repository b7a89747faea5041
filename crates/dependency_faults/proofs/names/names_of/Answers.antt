use Rattle.std.proofs.Common.{◌∙◌}
use Rattle.argument_faults.proofs.InstanceLemmas.{no_key}
use Rattle.dependency_faults.proofs.names.names_of.Goals as goal

pub unreachable-requires : goal.unreachable-requires
unreachable-requires c =
    no_key c.args.table.now c.args.opener.frame c.args.opener.resource c.args.opener.copy c.requires.table
    c.requires.instance (c.in_ok-key.ensures ∙ c.in-None.is)
