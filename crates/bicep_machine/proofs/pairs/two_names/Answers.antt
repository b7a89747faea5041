use Rattle.std.proofs.Common.{arith}
use Rattle.std.proofs.lemmas.Bool.Decides.{nat_tests}
use Rattle.bicep_machine.proofs.PairLemmas.{no_pair}
use Rattle.bicep_machine.proofs.pairs.two_names.Goals as goal

pub returns : goal.returns
returns c =
    no_pair c.pop-first.result c.pop-second.result _ _ _ _ _ _ c.pop-second.ensures.items c.pop-first.ensures.items
    c.pop-second.ensures.cases c.pop-first.ensures.cases c.pop-first.new.self.ok.0
    (λ z. grind (arith, nat_tests, z, c.is_empty-is_pair.ensures, c.if-is_pair.ensures, c.if-is_pair.false))
