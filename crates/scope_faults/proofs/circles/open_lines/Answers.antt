use Rattle.std.proofs.Common.{◌<◌, ◌∙◌, ap, length, subst, sym}
use Rattle.foundation.proofs.Options.{if_ok}
use Rattle.reading.specs.World.{Each}
use Rattle.scope_faults.specs.Circles.{open_of}
use Rattle.scope_faults.proofs.CircleLemmas.{open_lines, own_within}
use Rattle.scope_faults.proofs.circles.open_lines.Goals as goal

pub open_of-requires : goal.open_of-requires
open_of-requires c =
    subst (Each (λ j. j < length c.args.later.now.entries.items)) (sym c.as_slice.ensures.value)
    (own_within c.args.table.now c.args.later.now c.args.frame c.in_ok-lines.lines.items c.requires.fit
    c.in_ok-lines.ensures.own)

pub returns : goal.returns
returns c =
    if_ok _ _ c.open_of.result c.open_of.ensures (λ v e.
    open_lines c.args.table.now c.args.later.now c.args.frame c.in_ok-lines.lines.items v.items c.in_ok-lines.ensures
    (e ∙ ap (open_of c.args.later.now.entries.items) c.as_slice.ensures.value))
