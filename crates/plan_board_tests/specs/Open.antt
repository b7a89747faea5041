-- Which Begins of a dealer stay open.
use Rattle.std.specs.Prelude.{◌≡◌, ◌==◌, ℕ, false, List, Some}
use Rattle.provider_trait.specs.Work.{Work}
use Rattle.dealer_trait.specs.declared.dealer_step.DealerStep.{DealerStep}
use Rattle.dealer_trait.specs.Steps.{begun}

-- each Begin that was open is open still
abbrev pub StayOpen : List DealerStep → List DealerStep → Type 0
StayOpen old new = (t : ℕ) (job : Work) → begun t old ≡ Some job → begun t new ≡ Some job

-- each Begin of another task is as it was
abbrev pub OthersStay : ℕ → List DealerStep → List DealerStep → Type 0
OthersStay u old new = (t : ℕ) → (u == t) ≡ false → begun t new ≡ begun t old
