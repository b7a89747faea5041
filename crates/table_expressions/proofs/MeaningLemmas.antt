-- Emitted of a table of all declarations, an expression means the same.
use Rattle.std.proofs.Common.{◌≡◌, List, length, Ok, Err, sym, ap, ◌∙◌, subst}
use Rattle.std.specs.Prelude.{Result, IfOk}
use Rattle.std.specs.declared.alloc.AllocError.{AllocError}
use Rattle.arm_expr.specs.Tree.{Tree}
use Rattle.arm_expr.specs.View.{tree_of}
use Rattle.arm_expr.specs.declared.expr.Expr.{Expr}
use Rattle.bicep_resolved.specs.Source.{SourceTree}
use Rattle.bicep_meaning.specs.Files.{SourceFile}
use Rattle.bicep_meaning.specs.Declared as meaning
use Rattle.bicep_meaning.specs.Meaning.{bare}
use Rattle.bicep_emission.specs.Emitted.{Frame, emitted}
use Rattle.bicep_emission.specs.Stands.{Stands, surroundings}
use Rattle.emitted_declarations.specs.Declared.{Emission, whole}
use Rattle.declaration_laws.specs.Sound.{IsSound}
use Rattle.declaration_laws.proofs.DeclarationLemmas.{file_law}
use Rattle.emission_laws.specs.Holes.{refilled}
use Rattle.emission_laws.proofs.FilledLemmas.{refilled_same}
use Rattle.emitted_parts.specs.Built.{Is}
use Rattle.emitted_expressions.specs.Sight.{Sight}
use Rattle.emitted_expressions.specs.Values.{expression}
use Rattle.declared_table.specs.Seen.{whole_sight}
use Rattle.agreeing_files.proofs.AgreeLemmas.{become, expressions, sound}
use Rattle.table_expressions.specs.Meaning.{MeansTheSame}

module _ (file : SourceFile) (files : List SourceFile) (is_sound : IsSound file) (e : SourceTree)
    (fs : List Frame) where
  means_the_same : (t : Tree) → t ≡ emitted file files (whole file files).scope e fs → MeansTheSame file files e fs t
  means_the_same t is = λ x here loops agree outputs plain answers variables gs emittable stand.
      subst (λ u. Stands x (surroundings here loops) u (bare here (meaning.whole here) e gs))
      (sym (is ∙ ap (λ (b : Emission). emitted file files b.scope e fs)
      (become file here.file agree files here.files outputs)
      ∙ expressions file here.file agree files here.files outputs (whole here.file here.files).scope e fs))
      (file_law x here loops plain answers variables (sound file here.file agree is_sound) e fs gs emittable stand)

  pub means : (r : Result Expr AllocError) → Is (emitted file files (whole file files).scope e fs) r
      → IfOk r (λ t. MeansTheSame file files e fs (tree_of t))
  means (Ok t) is = means_the_same (tree_of t) is
  means (Err x) is = tt

  -- the expression that is emitted of a table of all declarations
  pub emitted_whole : (s : Sight) → s ≡ whole_sight file files → (r : Result Expr AllocError)
      → Is (expression s e fs) r → Is (emitted file files (whole file files).scope e fs) r
  emitted_whole s all r is =
      subst (λ t. Is t r)
      (ap (λ (k : Sight). expression k e fs) all ∙ refilled_same file files is_sound (length file.symbols) e fs) is
