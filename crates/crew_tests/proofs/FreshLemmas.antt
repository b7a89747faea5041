-- New dealers.
use Rattle.std.proofs.Common.{◌≡◌, ℕ, List, [], refl, sym, ap, subst}
use Rattle.std.specs.declared.alloc.Global.{Global}
use Rattle.std.specs.declared.vec.Vec.{Vec}
use Rattle.dealer_trait.specs.Steps.{begun_from, NoneBegun}
use Rattle.driver_fakes.specs.Dealing.{Hand}
use Rattle.driver_fakes.specs.ScriptedDealers.{hand_of}
use Rattle.driver_fakes.specs.declared.scripted_dealer.ScriptedDealer.{ScriptedDealer}
use Rattle.provider_trait.specs.Work.{Work}

pub none_begun : NoneBegun []
unfolding begun_from
none_begun task = refl

-- a new dealer has no open Begin
pub none_dealt : (d : ScriptedDealer) (jobs : List Work) (needs : List (Vec ℕ Global))
    → hand_of d ≡ record { jobs = jobs; needs = needs; steps = [] } → NoneBegun d.steps.items
none_dealt d jobs needs e = subst NoneBegun (sym (ap (λ (h : Hand). h.steps) e)) none_begun

pub ruleset fresh = (none_dealt)
