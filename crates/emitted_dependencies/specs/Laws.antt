-- What holds of elements of `dependsOn` that are built.
use Rattle.std.specs.Prelude.{ℕ, List}
use Rattle.template_parts.specs.declared.mode.Form.{Form}
use Rattle.bicep_meaning.specs.Files.{SourceFile}
use Rattle.emitted_files.specs.Files.{AreElements}
use Rattle.emitted_dependencies.specs.Elements.{elements, ElementsAreWithin}

-- the elements that are built for these numbers, and that are within the limits of templates, are those of the
-- resources and modules of these numbers
abbrev pub BuiltElementsAreEmitted : Type 0
BuiltElementsAreEmitted =
    (files : List SourceFile) (f : SourceFile) (z : Form) (ns : List ℕ) → ElementsAreWithin files f z ns
    → AreElements files f z ns (elements files f z ns)
