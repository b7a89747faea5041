use Rattle.std.proofs.Common.{◌≡◌, [], map}
use Rattle.arm_value.specs.Json.{pairs}
use Rattle.arm_value.specs.View.{member}
use Rattle.template_parameters.specs.Given.{given_in, given_view}
use Rattle.template_parameters.proofs.GivenLemmas.{onto, given_from}
use Rattle.template_parameters.proofs.given.read_members.Given as goal

abbrev pub invariant-loop-field : goal.invariant-loop-field
invariant-loop-field l =
    given_in [] (pairs (map member l.field-items))
    ≡ onto (map given_view l.progress.found) (given_from l.progress.names l.field-items l.field-index)
