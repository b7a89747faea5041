use lib.Utf8.{encode}
use Rattle.std.proofs.Common.{refl}
use Rattle.reading.specs.Reading.{continued, beside, both}
use Rattle.reading.specs.World.{value_in, reads_in}
use Rattle.arm_ids.specs.Id.{text_of}
use Rattle.std.specs.Fmt.{digits}
use Rattle.function_texts.specs.Cuts.{texts_in}
use Rattle.arm_functions.specs.Table.{table, row_in}
use Rattle.arm_functions.specs.Values.{of_lists, value_of}
use Rattle.arm_env.specs.Names.{placed_named}
use Rattle.deploy_cells.specs.Listing.{listing_value, sought}
use Rattle.bicep_meaning.specs.Files.{type_within}
use Rattle.bicep_meaning.specs.Rows.{capped, all, operator_value, conditional_value, truth}
use Rattle.bicep_meaning.specs.Rows.{and_value, or_value, coalesce_value, by_both, first_there, called}
use Rattle.bicep_meaning.specs.Around.{element, looped}
use Rattle.bicep_meaning.specs.Meaning.{parameter_entry, state_member, output_at, output_value}
use Rattle.bicep_meaning.specs.Declared.{declared, around}
use Rattle.bicep_meaning.specs.Instances.{file_at, raw}
use Rattle.meaning_tests.proofs.operators.texts_and_objects.Goals as goal

pub returns : goal.returns
unfolding encode continued beside both value_in reads_in text_of digits texts_in table row_in of_lists value_of
    placed_named listing_value sought type_within capped all operator_value conditional_value truth and_value
    or_value coalesce_value by_both first_there called element looped parameter_entry state_member output_at
    output_value declared around file_at raw
returns c = record {
  printed = refl;
  members = refl;
  length = refl;
  group = refl;
  id = refl;
}
