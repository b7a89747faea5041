use Rattle.std.proofs.Common.{map, sym, ap, ◌∙◌}
use Rattle.bicep_program.specs.Program.{program_file}
use Rattle.resolved_program.specs.Faults.{first_in}
use Rattle.resolved_program.specs.View.{file_view}
use Rattle.bicep_checks.specs.Faults.{Spot, either, text_place, link_place}
use Rattle.bicep_checks.proofs.OrderLemmas.{place_first, places_none}
use Rattle.bicep_checks.proofs.places.check_places.Goals as goal

pub returns-in-Ok-Some : goal.returns-in-Ok-Some
returns-in-Ok-Some c =
    place_first (map program_file c.args.files.now) (map file_view c.args.resolved.now) c.requires.resolved
    c.requires.before c.in-Ok-Some.number c.in-Ok-Some.at
    (ap (λ (o : Spot). either (first_in text_place (map program_file c.args.files.now))
    (either (first_in link_place (map file_view c.args.resolved.now)) o)) (sym c.requires.state)
    ∙ sym (rw c.in-Ok-Some.field-0-is at c.in-Ok-Some.ensures))

pub returns-in-Ok-None : goal.returns-in-Ok-None
returns-in-Ok-None c =
    places_none (map program_file c.args.files.now) (map file_view c.args.resolved.now) c.requires.resolved
    c.requires.before
    (ap (λ (o : Spot). either (first_in text_place (map program_file c.args.files.now))
    (either (first_in link_place (map file_view c.args.resolved.now)) o)) (sym c.requires.state)
    ∙ sym (rw c.in-Ok-None.field-0-is at c.in-Ok-None.ensures))
