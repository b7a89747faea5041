use Rattle.template_faults.proofs.PartLemmas.{some_members}
use Rattle.template_faults.proofs.header.has_no_member.Goals as goal

pub returns-in-len1-up : goal.returns-in-len1-up
returns-in-len1-up c =
    some_members c.as_slice.result.now c.args.fields.now c.as_slice.ensures.members c.in-len1-up.len_at_least
