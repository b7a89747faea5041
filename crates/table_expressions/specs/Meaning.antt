-- When a template expression means the same as an expression of a program.
use Rattle.std.specs.Prelude.{◌≡◌, List}
use Rattle.arm_expr.specs.Tree.{Tree}
use Rattle.arm_env.specs.declared.env.Looping.{Looping}
use Rattle.bicep_resolved.specs.Source.{SourceTree}
use Rattle.bicep_meaning.specs.Around as source
use Rattle.bicep_meaning.specs.Around.{Here}
use Rattle.bicep_meaning.specs.Declared.{whole}
use Rattle.bicep_meaning.specs.Files.{SourceFile}
use Rattle.bicep_meaning.specs.Meaning.{bare}
use Rattle.bicep_emission.specs.Answered.{Sides, Answers, IsPlainPlace}
use Rattle.bicep_emission.specs.Emittable.{IsEmittable}
use Rattle.bicep_emission.specs.Emitted.{Frame}
use Rattle.bicep_emission.specs.Stands.{Stands, FramesStand, surroundings}
use Rattle.declaration_laws.specs.Standing.{AnswersVariables}
use Rattle.agreeing_files.specs.Agreeing.{Agree, outputs_of}

-- Wherever what the template looks at answers the cells of the program, and the loops around stand for those of the
-- program, the template expression has the value of the expression, or none where that has none, and each marked cell,
-- which is a state or an output of a module, is read by both or by neither. The file of the program has the symbols,
-- the declarations and the entries of this one, and whatever modules and values of parameters.
abbrev pub MeansTheSame : SourceFile → List SourceFile → SourceTree → List Frame → Tree → Type 0
MeansTheSame file files e fs t = (x : Sides) (here : Here) (loops : List Looping) → Agree file here.file
    → outputs_of files ≡ outputs_of here.files → IsPlainPlace here.place → Answers x here → AnswersVariables x here
    → (gs : List source.Frame) → IsEmittable e → FramesStand x (surroundings here loops) fs gs
    → Stands x (surroundings here loops) t (bare here (whole here) e gs)
