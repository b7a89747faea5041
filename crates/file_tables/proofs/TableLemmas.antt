-- The table of all declarations of a file.
use Rattle.std.proofs.Common.{◌≡◌, ℕ, List, [], ◌∷◌, map, Ok, Err, refl, sym, ap, ap₂, ◌∙◌, subst}
use Rattle.std.specs.Prelude.{Result, IfOk}
use Rattle.std.specs.declared.alloc.AllocError.{AllocError}
use Rattle.resolved_program.specs.Programs.{ResolvedFileTree}
use Rattle.resolved_program.specs.declared.resolved.ResolvedFile.{ResolvedFile}
use Rattle.resolved_program.specs.View.{file_view}
use Rattle.bicep_meaning.specs.Files.{SourceFile}
use Rattle.bicep_emission.specs.Emitted.{Frame}
use Rattle.emitted_declarations.specs.Declared.{whole}
use Rattle.emission_laws.specs.Holes.{IsRun}
use Rattle.declared_table.specs.Seen.{Shape, files_of, files_in, sight, whole_sight, full_name_in, condition_in}
use Rattle.file_tables.specs.Emittable.{IsEmittableFile}
use Rattle.file_tables.specs.Tables.{IsTableOf}

-- the files of a table have the outputs of those of the program
pub outputs_same : (rs : List ResolvedFile) → map (λ (f : SourceFile). f.outputs) (files_of rs)
    ≡ map (λ (r : ResolvedFileTree). r.outputs) (map file_view rs)
outputs_same [] = refl
outputs_same (r ∷ rs) = ap (λ xs. r.outputs.items ∷ xs) (outputs_same rs)

module _ (f : SourceFile) (fs : List SourceFile) where
  abbrev pub Names : Shape → Type 0
  Names t = (n : ℕ) (gs : List Frame) → IsRun gs → full_name_in t n gs ≡ (whole f fs).full_name n gs

  abbrev pub Conditions : Shape → Type 0
  Conditions t = (n : ℕ) (gs : List Frame) → IsRun gs → condition_in t n gs ≡ (whole f fs).condition n gs

  is_table : (t : Shape) → sight t ≡ whole_sight f fs → Names t → Conditions t → IsEmittableFile f fs
      → IsTableOf f fs t
  is_table t all names conditions h =
      let p = ap (λ s. s.file) all in
      let q = ap (λ s. s.files) all in
      record {
        file = p;
        files = q;
        filled =
            record {
              declarations = all ∙ sym (ap₂ whole_sight p q);
              names = λ n gs run. names n gs run ∙ sym (ap₂ (λ a b. (whole a b).full_name n gs) p q);
              conditions = λ n gs run. conditions n gs run ∙ sym (ap₂ (λ a b. (whole a b).condition n gs) p q);
            };
        emittable = subst (λ a. IsEmittableFile a (files_in t)) (sym p) (subst (λ b. IsEmittableFile f b) (sym q) h);
      }

  pub made : (r : Result Shape AllocError) → IfOk r (λ t. sight t ≡ whole_sight f fs) → IfOk r Names
      → IfOk r Conditions → IsEmittableFile f fs → IfOk r (IsTableOf f fs)
  made (Ok t) all names conditions h = is_table t all names conditions h
  made (Err e) all names conditions h = tt
