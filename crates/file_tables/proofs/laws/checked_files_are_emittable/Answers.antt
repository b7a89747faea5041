use Rattle.std.proofs.Common.{sym, subst}
use Rattle.bicep_declared.specs.Declarations.{DeclaredFileTree}
use Rattle.sound_declarations.specs.Values.{AreValuesSound}
use Rattle.emitted_numbers.specs.Wholes.{FileHasAllWholes}
use Rattle.tree_names.specs.Words.{FileHasAllWords}
use Rattle.file_tables.proofs.laws.checked_files_are_emittable.Goals as goal

pub returns : goal.returns
returns c = λ rs r h f own fs outputs.
    let few = c.texts_have_few_holes.ensures h.folder h.files h.read rs h.resolved h.number r h.is in
    record {
      paired = c.checked_files_are_paired.ensures h.files rs h.resolved h.none h.number r h.is f own;
      sound = c.checked_files_are_sound.ensures h.files rs h.resolved h.none h.number r h.is few f own;
      values =
          subst (λ (d : DeclaredFileTree). AreValuesSound d) (sym own.declared)
          (c.checked_values_are_sound.ensures h.files rs h.resolved h.none h.number r h.is few);
      words = c.names_are_words.ensures h.folder h.files h.read rs h.resolved h.number r h.is f own;
      all_words =
          subst (λ (d : DeclaredFileTree). FileHasAllWords d) (sym own.declared)
          (c.names_of_values_are_words.ensures h.folder h.files h.read rs h.resolved h.number r h.is);
      wholes = c.numbers_are_whole.ensures h.folder h.files h.read rs h.resolved h.number r h.is f own;
      all_wholes =
          subst (λ (d : DeclaredFileTree). FileHasAllWholes d) (sym own.declared)
          (c.numbers_of_values_are_whole.ensures h.folder h.files h.read rs h.resolved h.number r h.is);
      parts = c.names_have_few_parts.ensures h.folder h.files h.read rs h.resolved h.number r h.is f own;
      outputs = c.outputs_are_words.ensures h.folder h.files h.read rs h.resolved fs outputs;
    }
