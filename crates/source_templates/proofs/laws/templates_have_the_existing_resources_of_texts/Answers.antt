use Rattle.std.proofs.Common.{◌≡◌, refl, sym, subst}
use Rattle.template_tree.specs.View.{template_tree}
use Rattle.bicep_meaning.specs.Files.{SourceFile}
use Rattle.resolved_program.specs.View.{file_view}
use Rattle.agreeing_files.specs.Agreeing.{Agree}
use Rattle.source_files.specs.Seen.{file_in, files_in}
use Rattle.alike_files.specs.Alike.{AreAlike}
use Rattle.alike_files.proofs.NumberLemmas.{with_rest}
use Rattle.program_templates.specs.Existing.{HasExisting}
use Rattle.source_files.specs.Sources.{source_file}
use Rattle.source_templates.proofs.ExistingLemmas.{existing_same}
use Rattle.source_templates.proofs.PartLemmas.{is_second}
use Rattle.source_templates.proofs.laws.templates_have_the_existing_resources_of_texts.Goals as goal

pub returns : goal.returns
returns c = λ z t r s rs us fs u m same ready within made.
    let f = file_in s in
    let g = source_file z t (file_view r) in
    let alike : AreAlike f g =
    subst (λ x. AreAlike x g) (sym m.file) (c.tables_are_of_source_files.ensures z t r m.marks m.names m.batches) in
    let k = with_rest f g in
    let to : k ≡ g = is_second f g alike in
    let agree : Agree f k = record { symbols = refl; declared = refl; has_entry = λ n. refl } in
    subst (λ (y : SourceFile). HasExisting z fs y (template_tree u)) to
    (existing_same f g (files_in s) fs (c.agreeing_files_become_the_same.ensures f k (files_in s) fs agree same)
    (c.types_are_the_same.ensures f k agree) z (template_tree u)
    (c.templates_have_existing_resources.ensures z s rs us u ready within made))
