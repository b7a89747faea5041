-- When a value of a template means the same as a value of a program.
use Rattle.std.specs.Prelude.{◌≡◌, ℕ, List, []}
use Rattle.arm_env.specs.declared.env.Looping.{Looping}
use Rattle.arm_eval.specs.Trees.{tree_value}
use Rattle.bicep_resolved.specs.Source.{SourceTree, ValueTree}
use Rattle.bicep_meaning.specs.Around as source
use Rattle.bicep_meaning.specs.Around.{Here}
use Rattle.bicep_meaning.specs.Declared.{whole}
use Rattle.bicep_meaning.specs.Files.{SourceFile}
use Rattle.bicep_meaning.specs.Meaning.{value, value_of}
use Rattle.bicep_emission.specs.Answered.{Sides, Answers, IsPlainPlace}
use Rattle.bicep_emission.specs.Emitted.{Frame}
use Rattle.bicep_emission.specs.Stands.{Like, surroundings}
use Rattle.declaration_laws.specs.Standing.{AnswersVariables}
use Rattle.emitted_trees.specs.Sound.{IsSound, IsSoundValue, allowed}
use Rattle.emitted_trees.specs.Standing.{FramesStandInside, named_value, output_value}
use Rattle.emitted_trees.specs.Templates.{TemplateTree, TemplateValue}
use Rattle.emitted_trees.specs.Written.{tree_json, IsWithin, ValueIsWithin}
use Rattle.agreeing_files.specs.Agreeing.{Agree, outputs_of}

-- What the template looks at answers the cells of an instance of a file of the program. That file has the symbols, the
-- declarations and the entries of this one, and whatever modules and values of parameters.
pub record AnswersFile (file : SourceFile) (files : List SourceFile) (x : Sides) (here : Here) : Type 0 where
  pub agree : Agree file here.file
  pub outputs : outputs_of files ≡ outputs_of here.files
  pub place : IsPlainPlace here.place
  pub answers : Answers x here
  pub variables : AnswersVariables x here

-- Wherever it does, and the loops around stand for those of the program, a value that is no loop has in the template
-- the value that it has in the program, or none where that has none, and each marked cell, which is a state or an
-- output of a module, is read by both or by neither.
abbrev pub TreeMeansTheSame : SourceFile → List SourceFile → SourceTree → List Frame → TemplateTree → Type 0
TreeMeansTheSame file files e fs t = (x : Sides) (here : Here) → AnswersFile file files x here
    → (loops : List Looping) (gs : List source.Frame) → IsSound allowed e → FramesStandInside x here loops fs gs
    → IsWithin t → Like x (tree_value (tree_json t) (surroundings here loops)) (value here (whole here) e gs)

-- so has a variable, or an argument of a module, which may be a loop
abbrev pub NamedMeansTheSame : SourceFile → List SourceFile → List ℕ → ValueTree → List Frame → TemplateValue → Type 0
NamedMeansTheSame file files name v fs t = (x : Sides) (here : Here) → AnswersFile file files x here
    → (loops : List Looping) (gs : List source.Frame) → IsSoundValue allowed v → FramesStandInside x here loops fs gs
    → ValueIsWithin t → Like x (named_value name t (surroundings here loops)) (value_of here (whole here) v gs)

-- so has an output, which may be a loop
abbrev pub OutputMeansTheSame : SourceFile → List SourceFile → ValueTree → TemplateValue → Type 0
OutputMeansTheSame file files v t = (x : Sides) (here : Here) → AnswersFile file files x here
    → (loops : List Looping) → IsSoundValue allowed v → ValueIsWithin t
    → Like x (output_value t (surroundings here loops)) (value_of here (whole here) v [])
