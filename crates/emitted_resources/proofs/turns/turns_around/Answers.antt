use Rattle.std.proofs.Common.{None, option_map, sym, subst}
use Rattle.bicep_resolved.specs.View.{loop_of}
use Rattle.emitted_expressions.specs.Emitted.{element}
use Rattle.emitted_expressions.specs.Sight.{AreFrames}
use Rattle.emitted_values.specs.Files.{frames_around}
use Rattle.emitted_expressions.specs.Built.{Is}
use Rattle.emitted_values.specs.EmittedTrees.{copy_index}
use Rattle.emitted_values.specs.Seen.{whole_in}
use Rattle.emitted_values.proofs.FilledLemmas.{items_given}
use Rattle.emitted_resources.proofs.turns.turns_around.Goals as goal

pub returns-in-Some : goal.returns-in-Some
returns-in-Some c =
    let s = c.args.table.now in
    let n = c.args.number in
    let xs = (whole_in s).scope.items n in
    let over = subst (λ t. Is t c.items_of.result) (items_given s c.requires n) c.items_of.ensures in
    subst (λ o. AreFrames (frames_around (whole_in s) n (option_map loop_of o)) c.one_turn.result) (sym c.in-Some.is)
    (c.one_turn.ensures (element xs (copy_index None))
    (c.run-turn.ensures xs (copy_index None) over c.copy_index.ensures))
