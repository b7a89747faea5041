use Rattle.bicep_meaning.specs.Instances.{desired}
use Rattle.cell_renaming.proofs.WorldLemmas.{is_renaming}
use Rattle.cell_renaming.proofs.PutLemmas.{forth, back, no_others, desired_renamable}
use Rattle.source_worlds.specs.Numbers.{numbering}
use Rattle.source_worlds.proofs.NumberLemmas.{one_to_one}
use Rattle.source_worlds.proofs.TemplateLemmas.{is_renamed}
use Rattle.source_worlds.proofs.laws.programs_and_templates.Goals as goal

pub returns : goal.returns
returns c = record {
  forth =
      λ z d held t h w a.
      let r = numbering z d.files in
      let i = one_to_one z d.files in
      let s = is_renamed z d held t h in
      let n = desired_renamable r i (desired d held) t s w a in
      (n, forth r i (desired d held) t s w n a);
  back =
      λ z d held t h w n a.
      back (numbering z d.files) (one_to_one z d.files) (desired d held) t (is_renamed z d held t h) w n a;
  no_others =
      λ z d held t h v a.
      let r = numbering z d.files in
      let i = one_to_one z d.files in
      let s = is_renamed z d held t h in
      (no_others r i (desired d held) t s v a, is_renaming r i (desired d held) t s v a.is_world);
}
