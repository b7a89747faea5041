use Rattle.std.proofs.Common.{ap, sym}
use Rattle.std.specs.Prelude.{Ok}
use Rattle.bicep_resolved.specs.Source as s
use Rattle.bicep_resolved.specs.View.{source_of, value_of}
use Rattle.bicep_found.specs.Found.{found}
use Rattle.bicep_found.proofs.FoundLemmas.{pair_gives, pair_err}
use Rattle.bicep_names.proofs.makers.each.Goals as goal

pub returns-in-Ok : goal.returns-in-Ok
returns-in-Ok c =
    λ f g p q.
    pair_gives source_of source_of value_of (λ x. s.each (s.loop c.args.at x.0) x.1) _ _ c.in-Ok.over c.in-Ok.body f g
    (Ok c.each_with.result) c.in-Ok.ensures p q (ap (λ x. found x) (sym c.each_with.ensures))

pub returns-in-Err : goal.returns-in-Err
returns-in-Err c = λ f g p q. pair_err source_of source_of value_of _ _ _ c.in-Err.stop f g c.in-Err.ensures p q
