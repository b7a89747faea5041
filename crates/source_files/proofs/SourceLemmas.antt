-- The files of a program have its outputs, and in the first form their modules are in the order of the source.
use Rattle.std.proofs.Common.{◌≡◌, ℕ, zero, suc, Bool, true, false, List, [], ◌∷◌}
use Rattle.std.proofs.Common.{length, map, Option, Some, None, refl}
use Rattle.std.proofs.Common.{ap, ◌∙◌, arith}
use Rattle.std.specs.Prelude.{is_some, if◌then◌else◌}
use Rattle.template_parts.specs.declared.mode.Form.{Form}
use Rattle.template_parts.specs.declared.mode.Form.TheVariants.{One}
use Rattle.bicep_tree.specs.Tree.{FileTree}
use Rattle.bicep_declared.specs.Declarations.{DeclaredTree}
use Rattle.bicep_declared.specs.Declarations as d
use Rattle.bicep_meaning.specs.Files.{SourceFile, declaration}
use Rattle.bicep_meaning.specs.Instances.{put_by}
use Rattle.resolved_program.specs.Programs.{ResolvedFileTree}
use Rattle.source_worlds.specs.Numbers.{is_put, passing}
use Rattle.source_files.specs.Sources.{source_files, is_module_by, modules_among, modules_of}

pub outputs_same : (z : Form) (ts : List FileTree) (rs : List ResolvedFileTree) → length ts ≡ length rs
    → map (λ (f : SourceFile). f.outputs) (source_files z ts rs) ≡ map (λ (r : ResolvedFileTree). r.outputs) rs
outputs_same z [] [] e = refl
outputs_same z [] (r ∷ rs) e = absurd (omega (arith, e))
outputs_same z (t ∷ ts) [] e = absurd (omega (arith, e))
outputs_same z (t ∷ ts) (r ∷ rs) e = ap (λ xs. r.outputs ∷ xs) (outputs_same z ts rs (omega (arith, e)))

module _ (f : SourceFile) (n : ℕ) (ms ns : List ℕ) (same : modules_among f ms ≡ ns) where
  -- one number more, of this declaration
  with_number : (o : Option DeclaredTree) → declaration f n ≡ o
      → modules_among f (if is_some (put_by f n o) then n ∷ ms else ms) ≡ (if is_module_by o then n ∷ ns else ns)
  with_number None e = same
  with_number (Some (d.parameter at t)) e = same
  with_number (Some (d.parameter_with at t v)) e = same
  with_number (Some (d.variable at v)) e = same
  with_number (Some (d.a_resource at q true b)) e = same
  with_number (Some (d.a_resource at q false b)) e =
      ap (λ (m : Bool). if m then n ∷ modules_among f ms else modules_among f ms) (ap is_module_by e) ∙ same
  with_number (Some (d.a_module at b)) e =
      ap (λ (m : Bool). if m then n ∷ modules_among f ms else modules_among f ms) (ap is_module_by e)
      ∙ ap (λ l. n ∷ l) same

among_put : (f : SourceFile) (n k : ℕ)
    → modules_among f (passing (is_put f) n k) ≡ passing (λ m. is_module_by (declaration f m)) n k
among_put f n zero = refl
among_put f n (suc k) =
    with_number f n (passing (is_put f) (suc n) k) (passing (λ m. is_module_by (declaration f m)) (suc n) k)
    (among_put f (suc n) k) (declaration f n) refl

pub first_form : (f : SourceFile) → modules_of One f
    ≡ passing (λ n. is_module_by (declaration f n)) 0 (length f.declared.declarations)
first_form f = among_put f 0 (length f.declared.declarations)
