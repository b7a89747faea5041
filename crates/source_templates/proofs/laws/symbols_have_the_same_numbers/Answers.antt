use Rattle.std.proofs.Common.{refl, sym, ap, ◌∙◌, subst}
use Rattle.resolved_program.specs.View.{file_view}
use Rattle.bicep_meaning.specs.Files.{SourceFile}
use Rattle.source_worlds.specs.Numbers.{symbol_of}
use Rattle.agreeing_files.specs.Agreeing.{Agree}
use Rattle.source_files.specs.Seen.{file_in}
use Rattle.alike_files.specs.Alike.{AreAlike}
use Rattle.alike_files.proofs.NumberLemmas.{with_rest, symbol_same}
use Rattle.source_files.specs.Sources.{source_file}
use Rattle.source_templates.proofs.PartLemmas.{is_second}
use Rattle.source_templates.proofs.laws.symbols_have_the_same_numbers.Goals as goal

pub returns : goal.returns
returns c = λ z t r s rs m i.
    let f = file_in s in
    let g = source_file z t (file_view r) in
    let alike : AreAlike f g =
    subst (λ x. AreAlike x g) (sym m.file) (c.tables_are_of_source_files.ensures z t r m.marks m.names m.batches) in
    let agree : Agree f (with_rest f g) = record { symbols = refl; declared = refl; has_entry = λ n. refl } in
    symbol_same f g (c.types_are_the_same.ensures f (with_rest f g) agree) z i
    ∙ ap (λ (x : SourceFile). symbol_of z x i) (is_second f g alike)
