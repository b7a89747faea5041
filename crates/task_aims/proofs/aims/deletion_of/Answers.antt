use Rattle.std.proofs.Common.{Some, sym, ◌∙◌}
use Rattle.provider_trait.specs.declared.act.Act.TheVariants.{Delete}
use Rattle.task_aims.proofs.aims.deletion_of.Goals as goal

pub returns : goal.returns
returns c = λ r e j.
    Some (record { act = Delete; id = (e ∙ sym c.in_ok-id.ensures) j; api = (sym c.no_text.ensures) j })
