use Rattle.std.proofs.Common.{refl}
use Rattle.reading.specs.Reading.{continued, beside, both, through}
use Rattle.reading.specs.Knowledge.{told}
use Rattle.arm_env.specs.Look.{seen, all}
use Rattle.arm_env.specs.Held.{capped, held_value}
use Rattle.arm_env.specs.Names.{lazy_named, placed_named, strict_named}
use Rattle.expression_values.specs.Meaning.{called, used, outcome}
use Rattle.arm_ids.specs.Id.{text_of}
use Rattle.arm_eval.specs.Text.{expression_of}
use Rattle.deploy_cells.specs.Guarded.{guarded}
use Rattle.deploy_cells.specs.Listing.{listing_value, sought}
use Rattle.deploy_cells.specs.Followed.{followed}
use Rattle.plan_cells.specs.Resources.{resource_at}
use Rattle.plan_cells.specs.Scopes.{template_at, owner, visible, loops_around}
use Rattle.plan_cells.specs.Sites.{reading_at}
use Rattle.plan_cells.specs.Meaning.{raw, plain, meaning}
use Rattle.plan_cells.specs.Tasks.{work}
use Rattle.plan_cells.specs.Needs.{needs}
use Rattle.plan_tests.proofs.examples.an_output_by_what_is_given.Goals as goal
use Rattle.function_texts.specs.Cuts.{texts_in}

pub returns : goal.returns
unfolding continued beside both through told seen all capped held_value lazy_named placed_named strict_named called
    used outcome texts_in text_of expression_of guarded listing_value sought followed resource_at
    template_at owner visible loops_around reading_at raw plain meaning work needs
returns c = refl
