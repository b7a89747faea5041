use Rattle.plan_cells.proofs.KnownLemmas.{one_entry, completes}
use Rattle.plan_cells.proofs.laws.one_table.Goals as goal

pub returns : goal.returns
returns c = record {
  alone = one_entry;
  worlds = λ m n q t w h i. completes m n w h i q t;
}
