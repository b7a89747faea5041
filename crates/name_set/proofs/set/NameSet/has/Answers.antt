use Rattle.std.proofs.Common.{◌∙◌, ap}
use Rattle.name_set.specs.Names.{is_named}
use Rattle.name_set.proofs.IndexLemmas.{is_indexed}
use Rattle.name_set.proofs.set.NameSet.has.Goals as goal

pub returns : goal.returns
returns c =
    c.contains.ensures
    ∙ is_indexed c.self.inside.index c.self.inside.names.items c.in_ok-key.key c.args.name.now c.self.invariant
    c.in_ok-key.ensures
    ∙ ap (λ (ns : _). is_named ns c.args.name.now) c.self.view_is
