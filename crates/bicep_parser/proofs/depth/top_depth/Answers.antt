use Rattle.std.proofs.Common.{sym, ◌∙◌}
use Rattle.bicep_parser.proofs.OpenDepth.{last_on_top}
use Rattle.bicep_parser.proofs.depth.top_depth.Goals as goal

pub returns-in-Some : goal.returns-in-Some
returns-in-Some c = c.frame_depth.ensures
    ∙ sym (last_on_top c.args.stack.now c.in-Some.frame.now (sym c.in-Some.ensures.value))
