use Rattle.std.proofs.Common.{sym, ap, ◌∙◌}
use Rattle.std.specs.Prelude.{option_map}
use Rattle.emitted_modules.specs.Seen.{file_in}
use Rattle.file_resources.proofs.NameLemmas.{has_name_at}
use Rattle.file_resources.proofs.parts.symbol_of.Goals as goal

pub unreachable-requires : goal.unreachable-requires
unreachable-requires c =
    has_name_at (file_in c.args.table.now) c.requires.ready.paired c.args.number c.requires.declared
    (sym c.name_of.ensures ∙ ap (option_map (λ t. t.now)) c.in-None.is)

pub returns : goal.returns
returns c = sym c.name_of.ensures ∙ ap (option_map (λ t. t.now)) c.in-Some.is
