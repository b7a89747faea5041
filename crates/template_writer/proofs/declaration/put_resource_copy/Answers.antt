use Rattle.std.proofs.Common.{option_map, subst}
use Rattle.template_written.specs.Parts.{copy_slots}
use Rattle.template_written.specs.Slots.{an_object, NestsWithin}
use Rattle.template_writer.proofs.NestLemmas.{copy_nests_within}
use Rattle.template_writer.proofs.declaration.put_resource_copy.Goals as goal

pub copy_members-requires : goal.copy_members-requires
copy_members-requires c =
    copy_nests_within c.in-Some.copy
    (subst (λ o. NestsWithin 119 (option_map (λ k. an_object (copy_slots k)) o)) c.in-Some.is c.requires)
