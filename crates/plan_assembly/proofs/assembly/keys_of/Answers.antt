use Rattle.std.proofs.Common.{ap, ◌∙◌}
use Rattle.std.specs.Prelude.{option_map}
use Rattle.reading.specs.Knowledge.{finished}
use Rattle.plan_assembly.proofs.KeyLemmas.{keys_known}
use Rattle.plan_assembly.proofs.assembly.keys_of.Goals as goal

pub unreachable-requires : goal.unreachable-requires
unreachable-requires c =
    keys_known c.args.table.now c.args.tasks.now c.requires.table c.requires.tasks
    (c.in_ok-keys.ensures ∙ ap (λ o. finished (option_map (λ ks. ks.items) o)) c.in-None.is)
