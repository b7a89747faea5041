use Rattle.plan_cells.specs.Children.{roots}
use Rattle.plan_filling.proofs.FinalLemmas.{begun_sound, none_begun}
use Rattle.plan_filling.proofs.laws.new_sheets_are_sound.Goals as goal

pub returns : goal.returns
returns c = record { sound = begun_sound; none_open = λ d. none_begun (roots d) }
