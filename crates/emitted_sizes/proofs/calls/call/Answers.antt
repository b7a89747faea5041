use Rattle.std.proofs.Common.{length}
use Rattle.arm_expr.specs.Print.{arguments_size}
use Rattle.arm_expr.specs.Tree.{deepest}
use Rattle.emitted_sizes.proofs.SizeLemmas.{call_length, one_deeper}
use Rattle.emitted_sizes.proofs.calls.call.Goals as goal

pub returns : goal.returns
returns c = λ name ts n a. (
  call_length (length name) c.args.characters c.args.arguments.length c.saturating_add-named.result
      (arguments_size 0 ts) c.saturating_add-length.result n a.0 c.saturating_add-named.ensures
      c.saturating_add-length.ensures,
  one_deeper c.args.arguments.depth (deepest ts) c.saturating_add-depth.result a.1 c.saturating_add-depth.ensures,
)
