use Rattle.std.proofs.Common.{ℕ, refl, ◌∙◌, sym, arith}
use Rattle.std.proofs.lemmas.List.{length-map}
use Rattle.arm_value.specs.Look.{fold}
use Rattle.plan_filling.specs.Cells.{step, offered, count, name}
use Rattle.plan_table.specs.Opened.{opened_of}
use Rattle.plan_table.specs.Lines.{IsNumber}
use Rattle.plan_table.specs.Found.{scope_at, HasCell, IsLineOf, state_at, Counts, IsTrueLine}
use Rattle.plan_table.proofs.FoundLemmas.{line_found, line_missing, no_name}
use Rattle.plan_table.proofs.table.Table.name_line.Goals as goal

pub returns-clause-found : goal.returns-clause-found
returns-clause-found c =
    line_found c.args.self.now c.args.frame
    (name (scope_at c.args.self.now c.args.frame).position (step c.args.resource c.args.copy))
    c.in_ok-key.key.items c.find.result c.requires.laid refl refl
    c.in_ok-key.ensures c.find.ensures.found

pub returns-clause-missing : goal.returns-clause-missing
returns-clause-missing c =
    line_missing c.args.self.now c.args.frame
    (name (scope_at c.args.self.now c.args.frame).position (step c.args.resource c.args.copy))
    c.in_ok-key.key.items c.find.result
    ((j : ℕ) → IsLineOf c.args.self.now c.args.frame
    (count (scope_at c.args.self.now c.args.frame).position c.args.resource) j
    → Counts c.args.copy (state_at c.args.self.now j) → ⊥)
    c.in_ok-key.ensures c.find.ensures.missing
    (no_name c.args.self.now c.args.frame c.args.resource c.args.copy c.requires.laid)
