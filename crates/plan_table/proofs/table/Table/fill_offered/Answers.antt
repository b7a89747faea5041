use Rattle.std.proofs.Common.{◌∷◌, []}
use Rattle.plan_table.specs.declared.line.Spot.TheVariants.{Output}
use Rattle.std.proofs.Common.{refl, sym, ◌∙◌}
use Rattle.plan_table.specs.Whole.{whole_of}
use Rattle.plan_table.proofs.OpenLemmas.{output_laid, output_rows}
use Rattle.plan_table.specs.Whole.{scopes_of}
use Rattle.plan_table.specs.Counted.{numbers_of}
use Rattle.plan_table.proofs.CountLemmas.{offered_counted}
use Rattle.plan_table.proofs.table.Table.fill_offered.Goals as goal

pub returns-then-is_true-clause-laid : goal.returns-then-is_true-clause-laid
returns-then-is_true-clause-laid c =
    output_laid (whole_of c.args.self.now) c.args.self.now.frames.items c.as_slice-frames.result.now
    c.args.self.now.index c.list_after.new.index c.args.self.now.lines.items c.list_after.new.lines.items c.args.at
    c.args.frame c.args.number c.args.value _ c.requires.laid c.requires.listed c.requires.spot
    (sym c.is_true.ensures ∙ c.if-is_true.true) c.as_slice-frames.ensures.value refl c.list_after.result
    c.list_after.ensures.listed c.list_after.ensures.indexed

pub returns-then-is_true-clause-filled : goal.returns-then-is_true-clause-filled
returns-then-is_true-clause-filled c =
    output_rows (whole_of c.args.self.now) c.args.self.now.frames.items c.as_slice-frames.result.now
    c.args.self.now.index c.list_after.new.index c.args.self.now.lines.items c.list_after.new.lines.items c.args.at
    c.args.frame c.args.number c.args.value _ c.requires.laid c.requires.listed c.requires.spot
    (sym c.is_true.ensures ∙ c.if-is_true.true) c.as_slice-frames.ensures.value refl c.list_after.result
    c.list_after.ensures.listed c.list_after.ensures.indexed

pub returns-then-is_true-clause-counted : goal.returns-then-is_true-clause-counted
returns-then-is_true-clause-counted c =
    offered_counted c.list_after.result (scopes_of c.args.self.now) c.args.self.now.lines.items
    c.list_after.new.lines.items c.args.at c.args.frame c.args.number c.args.value
    (Output c.args.frame c.args.number ∷ []) (numbers_of c.args.self.now)
    c.requires.listed c.requires.unfinished c.requires.spot c.requires.counted c.list_after.ensures.listed
