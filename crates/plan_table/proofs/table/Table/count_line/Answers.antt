use Rattle.std.proofs.Common.{ℕ, refl, ◌∙◌, sym, arith}
use Rattle.std.proofs.lemmas.List.{length-map}
use Rattle.arm_value.specs.Look.{fold}
use Rattle.plan_filling.specs.Cells.{step, offered, count}
use Rattle.plan_table.specs.Opened.{opened_of}
use Rattle.plan_table.specs.Lines.{IsNumber}
use Rattle.plan_table.specs.Found.{scope_at, HasCell, IsLineOf, state_at, Counts, IsTrueLine}
use Rattle.plan_table.proofs.FoundLemmas.{line_found, line_missing, no_count}
use Rattle.plan_table.proofs.table.Table.count_line.Goals as goal

pub returns-clause-found : goal.returns-clause-found
returns-clause-found c =
    line_found c.args.self.now c.args.frame
    (count (scope_at c.args.self.now c.args.frame).position c.args.resource) c.in_ok-key.key.items c.find.result
    c.requires.laid refl refl
    c.in_ok-key.ensures c.find.ensures.found

pub returns-clause-missing : goal.returns-clause-missing
returns-clause-missing c =
    line_missing c.args.self.now c.args.frame
    (count (scope_at c.args.self.now c.args.frame).position c.args.resource) c.in_ok-key.key.items c.find.result
    (IsNumber (scope_at c.args.self.now c.args.frame) c.args.resource → ⊥)
    c.in_ok-key.ensures c.find.ensures.missing
    (no_count c.args.self.now c.args.frame c.args.resource c.requires.laid
    (omega (arith, c.requires.there, length-map c.args.self.now.frames.items opened_of)))
