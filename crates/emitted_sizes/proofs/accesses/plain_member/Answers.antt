use Rattle.std.proofs.Common.{length}
use Rattle.arm_expr.specs.Print.{size}
use Rattle.arm_expr.specs.Tree.{nesting}
use Rattle.emitted_sizes.proofs.SizeLemmas.{member_length, one_deeper}
use Rattle.emitted_sizes.proofs.accesses.plain_member.Goals as goal

pub returns : goal.returns
returns c = λ a name n i. (
  member_length (length name) c.args.characters c.args.value.length c.saturating_add-dotted.result (size a)
      c.saturating_add-length.result n i.0 c.saturating_add-dotted.ensures c.saturating_add-length.ensures,
  one_deeper c.args.value.depth (nesting a) c.saturating_add-depth.result i.1 c.saturating_add-depth.ensures,
)
