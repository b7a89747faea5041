use Rattle.std.proofs.Common.{◌∙◌, ap}
use Rattle.arm_ids.specs.Id.{reading}
use Rattle.arm_ids.proofs.IdLemmas.{written, reading-text_of}
use Rattle.arm_ids.proofs.id.ResourceId.text.Goals as goal

pub returns-clause-text : goal.returns-clause-text
returns-clause-text c =
    c.from_string.ensures.characters
    ∙ written c.args.self.now _ _ c.in_ok-text.ensures c.in_ok-push_path.ensures

pub returns-clause-reads_back : goal.returns-clause-reads_back
returns-clause-reads_back c =
    λ whole plain. ap reading (c.from_string.ensures.characters
    ∙ written c.args.self.now _ _ c.in_ok-text.ensures c.in_ok-push_path.ensures)
    ∙ reading-text_of c.args.self.now whole plain
