use Rattle.std.proofs.Common.{ap₂, ◌∙◌, nat_cmp}
use Rattle.std.specs.Cmp.Lexicographic.{slice_cmp}
use Rattle.arm_ids.specs.Held.{id_cmp}
use Rattle.arm_ids.proofs.row.fn.place.binary_search_by.Goals as goal

pub returns : goal.returns
unfolding id_cmp
returns c = c.cmp.ensures ∙ ap₂ (slice_cmp nat_cmp) c.as_str.ensures.bytes c.as_str-2.ensures.bytes
