use Rattle.std.proofs.Common.{◌∙◌}
use Rattle.plan_table.proofs.MarkLemmas.{key_found, key_missing}
use Rattle.plan_table.proofs.table.Table.find.Goals as goal

pub returns-clause-found : goal.returns-clause-found
returns-clause-found c =
    key_found c.args.self.now c.args.key.now c.copied.result c.requires.laid (c.copied.ensures ∙ c.get.ensures.value)

pub returns-clause-missing : goal.returns-clause-missing
returns-clause-missing c =
    key_missing c.args.self.now c.args.key.now c.copied.result c.requires.laid (c.copied.ensures ∙ c.get.ensures.value)
