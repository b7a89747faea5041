use Rattle.std.proofs.Common.{ap, sym}
use Rattle.std.specs.Prelude.{option_map}
use Rattle.bicep_declared.specs.View.{declared_tree}
use Rattle.emitted_modules.specs.Seen.{file_in}
use Rattle.bicep_meaning.specs.Files.{declaration}
use Rattle.file_resources.proofs.PartLemmas.{not_there}
use Rattle.file_resources.proofs.listing.part_by.Goals as goal

pub unreachable-requires : goal.unreachable-requires
unreachable-requires c =
    not_there (option_map (λ d. declared_tree d.now) c.args.declared)
    (declaration (file_in c.args.table.now) c.args.number) (sym c.requires.declared)
    (ap (option_map (λ d. declared_tree d.now)) c.in-None.is) c.requires.resource
