use Rattle.history_holdings.proofs.Holding.{is_held}
use Rattle.history_holdings.proofs.Alone.{one}
use Rattle.history_holdings.proofs.laws.held_as_desired.Goals as goal

pub returns : goal.returns
returns c = record {
  is = λ x h planned opening legal ended w sat belongs.
      is_held x planned opening h legal ended w sat belongs;
  alone = λ x h planned opening legal ended w sat belongs now i.
      one x planned opening w sat _ belongs now _ i (is_held x planned opening h legal ended w sat belongs);
}
