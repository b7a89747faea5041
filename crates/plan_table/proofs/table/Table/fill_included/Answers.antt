use Rattle.std.proofs.Common.{sym, subst, inr}
use Rattle.arm_value.specs.View.{json}
use Rattle.plan_table.specs.declared.line.Spot.{Spot}
use Rattle.plan_table.specs.Laid.{IsAlone}
use Rattle.plan_table.specs.Whole.{whole_of, scopes_of}
use Rattle.plan_table.proofs.StepLemmas.{has_no_nested}
use Rattle.plan_table.proofs.table.Table.fill_included.Goals as goal

pub fill_alone-requires-in-Members-clause-alone : goal.fill_alone-requires-in-Members-clause-alone
fill_alone-requires-in-Members-clause-alone c =
    subst (λ (y : Spot). IsAlone (scopes_of c.args.self.now) y (json c.args.value)) (sym c.requires.spot)
    (inr (has_no_nested (whole_of c.args.self.now) c.args.self.now.frames.items c.args.self.now.index
    c.args.self.now.lines.items c.args.at c.args.frame c.args.instance.resource c.args.instance.copy c.requires.laid
    c.requires.listed c.requires.spot c.index.result.now c.index.ensures c.index-2.result.now c.index-2.ensures
    c.in-Members.field-0 c.in-Members.is))
