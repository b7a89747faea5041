use Rattle.std.proofs.Common.{refl, arith}
use Rattle.std.proofs.lemmas.List.{length-map}
use Rattle.plan_filling.specs.Cells.{deployments}
use Rattle.plan_table.specs.Opened.{opened_of}
use Rattle.plan_table.specs.Found.{scope_at}
use Rattle.plan_table.proofs.FoundLemmas.{line_there, no_deployments}
use Rattle.plan_table.proofs.table.Table.deployments_line.Goals as goal

pub returns : goal.returns
returns c = record {
  found =
      line_there c.args.self.now c.args.frame
      (deployments (scope_at c.args.self.now c.args.frame).position) c.in_ok-key.key.items c.find.result
      c.requires.laid refl
      refl c.in_ok-key.ensures c.find.ensures.found c.find.ensures.missing
      (no_deployments c.args.self.now c.args.frame c.requires.laid
      (omega (arith, c.requires.there, length-map c.args.self.now.frames.items opened_of)));
}
