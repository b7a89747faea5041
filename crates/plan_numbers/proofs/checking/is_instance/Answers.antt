use Rattle.std.proofs.Common.{arith}
use Rattle.plan_numbers.proofs.CheckLemmas.{of_instance, of_put}
use Rattle.plan_numbers.proofs.checking.is_instance.Goals as goal

pub returns : goal.returns
returns c =
    let a = c.if-frame-len.false in
    let b = c.len.ensures in
    let i = c.if-copy-ge-MAX_INSTANCES_OF_TEMPLATE.false in
    let r = c.if-resource-resources.false in (
      λ e.
          of_instance c.args.table.now c.args.frame c.args.resource c.args.copy c.index.result.now
          c.as_slice-resources.result.now c.index-resources-resource.result (omega (arith, a, b)) c.index.ensures
          c.as_slice-resources.ensures.value (omega (arith, r)) c.index-resources-resource.is (omega (arith, i))
          (c.is_put.ensures.0 e),
      λ o.
          c.is_put.ensures.1
          (of_put c.args.table.now c.args.frame c.args.resource c.args.copy c.index.result.now
          c.as_slice-resources.result.now c.index-resources-resource.result (omega (arith, a, b)) c.index.ensures
          c.as_slice-resources.ensures.value (omega (arith, r)) c.index-resources-resource.is o),
    )
