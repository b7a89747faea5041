use Rattle.bicep_meaning.specs.Instances.{desired}
use Rattle.cell_renaming.proofs.PutLemmas.{stored_forth, stored_back, desired_renamable}
use Rattle.source_worlds.specs.Numbers.{numbering}
use Rattle.source_worlds.proofs.NumberLemmas.{one_to_one}
use Rattle.source_worlds.proofs.TemplateLemmas.{is_renamed}
use Rattle.source_worlds.proofs.laws.providers_answer_both.Goals as goal

pub returns : goal.returns
returns c = λ z d held t h w a x.
    let r = numbering z d.files in
    let i = one_to_one z d.files in
    let s = is_renamed z d held t h in
    let n = desired_renamable r i (desired d held) t s w a in (
      (λ g. stored_forth r i (desired d held) t s w n a x g),
      λ g. stored_back r i (desired d held) t s w n a x g,
    )
