-- The names of the outputs of a checked file differ.
use Rattle.std.proofs.Common.{◌≡◌, ℕ, List, [], map, Option, Some, None, refl, sym, ap, ◌∙◌, subst}
use Rattle.arm_value.specs.Look.{fold}
use Rattle.std.specs.Prelude.{option_map, slice_get}
use Rattle.std.proofs.lemmas.Option.{slice_get-map}
use Rattle.foundation.proofs.Options.{same_some}
use Rattle.foundation.specs.Options.{or_else}
use Rattle.bicep_found.specs.Found.{found}
use Rattle.bicep_members.specs.Files.{repeated_member}
use Rattle.bicep_symbols.specs.Entries.{symbols_of}
use Rattle.bicep_symbols.specs.Outputs.{Named, outputs_of}
use Rattle.bicep_symbols.specs.Repeated.{repeated_symbol, repeated_output}
use Rattle.bicep_declared.specs.Declare.{declared_file}
use Rattle.bicep_program.specs.Program.{ProgramFile}
use Rattle.resolved_program.specs.Programs.{ResolvedFileTree, file_symbols, output_text, output_texts, scope_in}
use Rattle.resolved_program.specs.Programs.{with_names, resolved_file, IsResolved}
use Rattle.resolved_program.specs.Faults.{twice_of}
use Rattle.resolved_program.proofs.FirstLemmas.{both_at}
use Rattle.bicep_types.specs.Faults.{HasFault}
use Rattle.bicep_types.specs.declared.fault.CheckFault.{CheckFault}
use Rattle.bicep_types.specs.declared.fault.CheckFault.TheVariants as fault
use Rattle.sound_values.proofs.FoundLemmas.{of_mapped, first_none, second_none}
use Rattle.symbol_names.proofs.NameLemmas.{names_differ}
use Rattle.kept_templates.specs.Found.{Differ}
use Rattle.kept_templates.specs.Lists as listed

no_place : (o : Option ℕ) → ((at : ℕ) → o ≡ Some at → ⊥) → o ≡ None
no_place None h = refl
no_place (Some at) h = absurd (h at refl)

-- an output of a name
output_is : (o : Option Named) (x : List ℕ) → option_map listed.output_text (option_map output_text o) ≡ Some x
    → (n : Named) × ((o ≡ Some n) × (n.1 ≡ x))
output_is None x e = absurd cc
output_is (Some n) x e = (n, (refl, same_some e))

outputs_apart : (ns : List Named) → repeated_output ns ≡ None → Differ listed.output_text (map output_text ns)
outputs_apart ns e n m x y g h k =
    let a = output_is (slice_get ns n) x (ap (option_map listed.output_text) (sym (slice_get-map output_text ns n)) ∙ g) in
    let b = output_is (slice_get ns m) y (ap (option_map listed.output_text) (sym (slice_get-map output_text ns m)) ∙ h) in
    names_differ [] ns e n m a.0 b.0 a.1.0 b.1.0 (ap fold a.1.1 ∙ k ∙ sym (ap fold b.1.1))

module _ (files : List ProgramFile) (rs : List ResolvedFileTree) (h : IsResolved files rs)
    (none : (x : CheckFault) → ¬ HasFault files x) (k : ℕ) (r : ResolvedFileTree) (is : slice_get rs k ≡ Some r) where
  -- the file that is resolved
  source : (f : ProgramFile) × (slice_get files k ≡ Some f) × (found r ≡ resolved_file files f)
  source = both_at (λ x. found x) (resolved_file files) rs files (sym h) k r is

  abbrev of_text : ProgramFile
  of_text = source.0

  no_twice : twice_of of_text ≡ None
  no_twice =
      no_place (twice_of of_text)
      (λ at e. none (fault.NameTwice k at) (record { file = of_text; is = source.1; holds = e }))

  no_output_twice : repeated_output (outputs_of of_text.tree) ≡ None
  no_output_twice =
      let ss = repeated_symbol (symbols_of of_text.modules of_text.tree) in
      let os = repeated_output (outputs_of of_text.tree) in
      let member = repeated_member of_text.tree in
      first_none os member (second_none ss (or_else os member) no_twice)

  outputs_same : output_texts of_text ≡ r.outputs
  outputs_same =
      let g = of_mapped (with_names (file_symbols of_text) (output_texts of_text))
      (declared_file (scope_in files of_text) of_text.tree) r (sym source.2) in
      ap (λ (x : ResolvedFileTree). x.outputs) g.made

  pub outputs_differ : Differ listed.output_text r.outputs
  outputs_differ =
      subst (λ (xs : List (List ℕ)). Differ listed.output_text xs) outputs_same
      (outputs_apart (outputs_of of_text.tree) no_output_twice)
