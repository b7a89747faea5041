use Rattle.std.proofs.Common.{◌∙◌, ◌++◌, ap, chars, string_bytes}
use Rattle.foundation.proofs.Options.{if_ok}
use Rattle.plan_paths.specs.Texts.{index_of}
use Rattle.plan_positions.proofs.PositionLemmas.{loop_read, no_loop}
use Rattle.plan_positions.proofs.positions.push_loop_index.Goals as goal

pub returns-in-Some : goal.returns-in-Some
returns-in-Some c =
    if_ok _ _ c.push_index.result c.push_index.ensures (λ u e.
    e ∙ ap (λ o. chars (string_bytes c.args.position.now) ++ index_of o c.args.instance.copy)
    (loop_read c.args.frame.now.resources.items c.deref.result.now c.args.instance.resource c.in-Some.listed.now
    c.deref.ensures.value c.in-Some.ensures.lookup.0 c.in-Some.ensures.lookup.1))

pub returns-in-None : goal.returns-in-None
returns-in-None c =
    no_loop c.args.frame.now.resources.items c.deref.result.now c.args.instance.resource c.args.instance.copy
    (chars (string_bytes c.args.position.now)) c.deref.ensures.value c.in-None.ensures.lookup.0
