use Rattle.std.proofs.Common.{◌≡◌, refl, sym, subst}
use Rattle.template_tree.specs.View.{template_tree}
use Rattle.bicep_meaning.specs.Files.{SourceFile}
use Rattle.resolved_program.specs.View.{file_view}
use Rattle.agreeing_files.specs.Agreeing.{Agree}
use Rattle.source_files.specs.Seen.{file_in}
use Rattle.alike_files.specs.Alike.{AreAlike}
use Rattle.alike_files.proofs.NumberLemmas.{with_rest}
use Rattle.program_templates.specs.Lists.{rule_at}
use Rattle.program_templates.specs.Metadata.{HasMetadata}
use Rattle.file_metadata.specs.Files.{symbol_metadata, output_metadata}
use Rattle.source_files.specs.Sources.{source_file}
use Rattle.source_templates.proofs.MetadataLemmas.{parameter_has, metadata_same}
use Rattle.source_templates.proofs.PartLemmas.{is_second}
use Rattle.source_templates.proofs.laws.templates_have_the_metadata_of_texts.Goals as goal

pub returns : goal.returns
returns c = λ z t r s rs us x u m h made noted.
    let f = file_in s in
    let g = source_file z t (file_view r) in
    let alike : AreAlike f g =
    subst (λ x. AreAlike x g) (sym m.file) (c.tables_are_of_source_files.ensures z t r m.marks m.names m.batches) in
    let k = with_rest f g in
    let to : k ≡ g = is_second f g alike in
    let agree : Agree f k = record { symbols = refl; declared = refl; has_entry = λ n. refl } in
    let here = c.templates_have_metadata.ensures z s rs us x.symbols.items x.outputs.items u made noted
    (symbol_metadata t) (output_metadata t) (record {
      rules = λ n p e. parameter_has t f n (rule_at s rs n) p (m.rules n) e;
      symbols = h.symbols;
      outputs = h.outputs;
    }) in
    subst (λ (y : SourceFile). HasMetadata z y (symbol_metadata t) (output_metadata t) (template_tree u)) to
    (metadata_same f g (c.types_are_the_same.ensures f k agree) z (symbol_metadata t) (output_metadata t)
    (template_tree u) here)
