use Rattle.history_laws.proofs.Alone.{one_by_provider}
use Rattle.history_laws.proofs.laws.order_does_not_matter.Goals as goal

pub returns : goal.returns
returns g c = λ x h one planned l given s w v sat a vat b.
    one_by_provider _ x h one planned l given s w v sat a vat b
