use Rattle.std.proofs.Common.{◌∙◌, ap}
use Rattle.name_set.specs.Names.{is_listed}
use Rattle.name_set.proofs.IndexLemmas.{is_text_indexed}
use Rattle.name_set.proofs.text_set.TextSet.has.Goals as goal

pub returns : goal.returns
returns c =
    c.contains.ensures
    ∙ is_text_indexed c.self.inside.index c.self.inside.texts.items c.in_ok-key.key c.args.text.now c.self.invariant
    c.in_ok-key.ensures
    ∙ ap (λ (ns : _). is_listed ns c.args.text.now) c.self.view_is
