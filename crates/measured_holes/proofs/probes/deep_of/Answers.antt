use Rattle.std.proofs.Common.{ap, sym, ◌∙◌, arith}
use Rattle.emitted_sizes.specs.Extent.{bounded}
use Rattle.measured_holes.proofs.GrowthLemmas.{deep_size, deep_nesting}
use Rattle.measured_holes.proofs.HoleLemmas.{is_bounded}
use Rattle.measured_holes.proofs.probes.deep_of.Goals as goal

pub returns : goal.returns
returns c = (
  c.saturating_add.ensures ∙ ap bounded (sym (deep_size c.args.depth)),
  is_bounded c.args.depth (omega arith) ∙ ap bounded (sym (deep_nesting c.args.depth)),
)
