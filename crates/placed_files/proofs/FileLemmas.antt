-- The files of programs without faults are placed.
use Rattle.std.proofs.Common.{◌≡◌, inl, ℕ, true, false, true≢false, List, [], ◌∷◌, ◌++◌, map, Option, Some, None}
use Rattle.std.proofs.Common.{codes, bytes_eq, refl, sym, ap, ◌∙◌, subst}
use Rattle.std.specs.Prelude.{option_and_then, option_to_list, slice_get}
use Rattle.std.specs.List.{AllByRecursion}
use Rattle.foundation.specs.Options.{or_else}
use Rattle.arm_value.specs.Look.{fold}
use Rattle.bicep_tree.specs.Tree.{DeclarationTree}
use Rattle.bicep_tree.specs.Tree as tree
use Rattle.bicep_found.specs.Found.{found, all_found, both}
use Rattle.bicep_names.specs.Scope.{Scope}
use Rattle.bicep_names.specs.Resolve.{resolved, resolved_value}
use Rattle.bicep_members.specs.Files.{repeated_member}
use Rattle.bicep_misplaced.specs.Files.{misplaced}
use Rattle.bicep_type_texts.specs.Files.{bad_type}
use Rattle.bicep_symbols.specs.Entries.{symbols_of}
use Rattle.bicep_symbols.specs.Outputs.{outputs_of}
use Rattle.bicep_symbols.specs.Repeated.{repeated_symbol, repeated_output}
use Rattle.bicep_declared.specs.Declarations.{DeclaredTree, DeclaredFileTree}
use Rattle.bicep_declared.specs.Declarations as d
use Rattle.bicep_declared.specs.Declare.{body_of, declared, part_declared, declared_all, outputs_declared}
use Rattle.bicep_declared.specs.Declare.{declared_file}
use Rattle.bicep_declared.specs.Declare.{file, some_parameter, some_variable, some_resource, some_module}
use Rattle.bicep_declared.specs.Sites.{declarations_of}
use Rattle.bicep_program.specs.Program.{ProgramFile}
use Rattle.bicep_program.proofs.LoadLemmas.{at_place}
use Rattle.resolved_program.specs.Programs.{ResolvedFileTree, file_symbols, output_texts, scope_in, with_names}
use Rattle.resolved_program.specs.Programs.{resolved_file, IsResolved}
use Rattle.resolved_program.specs.Faults.{twice_of}
use Rattle.resolved_program.proofs.FirstLemmas.{both_at}
use Rattle.bicep_checks.specs.Faults.{text_place}
use Rattle.bicep_types.specs.Faults.{HasFault}
use Rattle.bicep_types.specs.declared.fault.CheckFault.{CheckFault}
use Rattle.bicep_types.specs.declared.fault.CheckFault.TheVariants as fault
use Rattle.bicep_meaning.specs.Files.{SourceFile, declaration}
use Rattle.bicep_meaning.specs.Instances.{symbol_folded, variable_by, argument_of}
use Rattle.bicep_numbers.proofs.FoundLemmas.{all-append}
use Rattle.sound_values.proofs.FoundLemmas.{of_mapped, of_both, first_none, second_none}
use Rattle.sound_declarations.proofs.CleanLemmas.{IsClean, AreClean, file_is_clean}
use Rattle.placed_files.specs.Placed.{IsPlaced}
use Rattle.placed_files.proofs.BodyLemmas.{BodyIsPlaced, of_body}
use Rattle.placed_files.proofs.FieldLemmas.{fields_placed, arguments_placed}
use Rattle.placed_files.proofs.FoundLemmas.{Always, weaker, always_mapped, always_made, always_both}
use Rattle.placed_files.proofs.NameLemmas.{not_found}
use Rattle.placed_files.proofs.VariableLemmas.{text_of, AllFit, of_file, passes, fits_at}

abbrev copy : List ℕ
copy = codes "copy"

-- ---- bodies of all declarations

abbrev DeclaredIsPlaced : DeclaredTree → Type 0
DeclaredIsPlaced (d.parameter at t) = Unit {0}
DeclaredIsPlaced (d.parameter_with at t e) = Unit {0}
DeclaredIsPlaced (d.variable at v) = Unit {0}
DeclaredIsPlaced (d.a_resource at q existing b) = BodyIsPlaced b
DeclaredIsPlaced (d.a_module at b) = BodyIsPlaced b

abbrev AllPlaced : List DeclaredTree → Type 0
AllPlaced xs = AllByRecursion DeclaredIsPlaced xs

abbrev OneIsPlaced : Option DeclaredTree → Type 0
OneIsPlaced o = AllPlaced (option_to_list o)

module _ (sc : Scope) where
  one_placed : (t : DeclarationTree) → IsClean t → Always OneIsPlaced (declared sc t)
  one_placed (tree.metadata at n e) c = tt
  one_placed (tree.target_scope at e) c = tt
  one_placed (tree.param at n t) c = (tt, tt)
  one_placed (tree.param_with at n t e) c =
      always_made OneIsPlaced (some_parameter n.at t) (resolved sc e []) (λ x. (tt, tt))
  one_placed (tree.var at n v) c =
      always_made OneIsPlaced (some_variable n.at) (resolved_value sc v []) (λ x. (tt, tt))
  one_placed (tree.output at n t v) c = tt
  one_placed (tree.a_resource (tree.resource at n q x b)) c =
      always_mapped OneIsPlaced (some_resource n.at q x) (body_of sc b)
      (weaker BodyIsPlaced (λ y. OneIsPlaced (some_resource n.at q x y)) (λ y h. (h, tt)) (body_of sc b)
      (of_body sc c.owner b c.placed))
  one_placed (tree.a_module at n q b) c =
      always_mapped OneIsPlaced (some_module n.at) (body_of sc b)
      (weaker BodyIsPlaced (λ y. OneIsPlaced (some_module n.at y)) (λ y h. (h, tt)) (body_of sc b)
      (of_body sc c.owner b c.placed))

  all_placed : (ts : List DeclarationTree) → AreClean ts → Always AllPlaced (declared_all sc ts)
  unfolding all_found
  all_placed [] c = tt
  all_placed (t ∷ ts) c =
      let rest = declared_all sc ts in
      always_mapped AllPlaced (λ p. p.0 ++ p.1) (both (part_declared sc t) rest)
      (weaker (λ p. AllPlaced p.0 × AllPlaced p.1) (λ p. AllPlaced (p.0 ++ p.1))
      (λ p h. all-append DeclaredIsPlaced p.0 p.1 h.0 h.1) (both (part_declared sc t) rest)
      (always_both AllPlaced AllPlaced (part_declared sc t) rest
      (always_mapped AllPlaced option_to_list (declared sc t) (one_placed t c.0)) (all_placed ts c.1)))

-- ---- a file

no_place : (o : Option ℕ) → ((at : ℕ) → o ≡ Some at → ⊥) → o ≡ None
no_place None h = refl
no_place (Some at) h = absurd (h at refl)

module _ (files : List ProgramFile) (rs : List ResolvedFileTree) (h : IsResolved files rs)
    (none : (x : CheckFault) → ¬ HasFault files x) (k : ℕ) (r : ResolvedFileTree) (is : slice_get rs k ≡ Some r) where
  -- the file that is resolved
  source : (f : ProgramFile) × (slice_get files k ≡ Some f) × (found r ≡ resolved_file files f)
  source = both_at (λ x. found x) (resolved_file files) rs files (sym h) k r is

  abbrev of_text : ProgramFile
  of_text = source.0

  abbrev scope : Scope
  scope = scope_in files of_text

  none_misplaced : misplaced of_text.tree ≡ None
  none_misplaced =
      first_none (misplaced of_text.tree) (bad_type of_text.tree)
      (no_place (text_place of_text)
      (λ at e. none (fault.BadForPlace k at) (record { file = of_text; is = source.1; holds = inl e })))

  none_twice : twice_of of_text ≡ None
  none_twice =
      no_place (twice_of of_text)
      (λ at e. none (fault.NameTwice k at) (record { file = of_text; is = source.1; holds = e }))

  none_repeated : repeated_member of_text.tree ≡ None
  none_repeated =
      let ss = repeated_symbol (symbols_of of_text.modules of_text.tree) in
      let os = repeated_output (outputs_of of_text.tree) in
      second_none os (repeated_member of_text.tree)
      (second_none ss (or_else os (repeated_member of_text.tree)) none_twice)

  record IsNamed : Type 0 where
    declarations : declared_all scope (declarations_of of_text.tree) ≡ found r.declared.declarations
    symbols : symbols_of of_text.modules of_text.tree ≡ r.symbols

  named : IsNamed
  unfolding declared_file
  named =
      let g = of_mapped (with_names (file_symbols of_text) (output_texts of_text))
      (declared_file scope of_text.tree) r (sym source.2) in
      let ds = declarations_of of_text.tree in
      let p = of_mapped file (both (declared_all scope ds) (outputs_declared scope ds)) g.part g.is in
      let q = of_both (declared_all scope ds) (outputs_declared scope ds) p.part p.is in
      record {
        declarations =
            q.first ∙ ap (λ (x : DeclaredFileTree). found x.declarations) p.made
            ∙ ap (λ (x : ResolvedFileTree). found x.declared.declarations) g.made;
        symbols = ap (λ (x : ResolvedFileTree). x.symbols) g.made;
      }

  placed : AllPlaced r.declared.declarations
  placed =
      subst (Always AllPlaced) named.declarations
      (all_placed scope (declarations_of of_text.tree)
      (file_is_clean of_text.tree none_misplaced none_repeated))

  module _ (f : SourceFile) (same : f.symbols ≡ r.symbols) (own : f.declared ≡ r.declared) where
    at_number : (n : ℕ) (x : DeclaredTree) → declaration f n ≡ Some x → slice_get r.declared.declarations n ≡ Some x
    at_number n x e = sym (ap (λ (y : DeclaredFileTree). slice_get y.declarations n) own) ∙ e

    placed_at : (n : ℕ) (x : DeclaredTree) → declaration f n ≡ Some x → DeclaredIsPlaced x
    placed_at n x e = at_place DeclaredIsPlaced r.declared.declarations n x (at_number n x e) placed

    no_variable : (n : ℕ) (o : Option DeclaredTree) → declaration f n ≡ o → symbol_folded f copy ≡ Some n
        → variable_by f n o ≡ None
    no_variable n None e p = refl
    no_variable n (Some (d.parameter at t)) e p = refl
    no_variable n (Some (d.parameter_with at t x)) e p = refl
    no_variable n (Some (d.a_resource at q existing b)) e p = refl
    no_variable n (Some (d.a_module at b)) e p = refl
    no_variable n (Some (d.variable at v)) e p =
        let s = passes (λ e. bytes_eq copy (fold e.1)) f.symbols n p in
        let fits = fits_at r.symbols r.declared.declarations n s.0 (d.variable at v)
        (subst (λ ss. AllFit (map text_of ss) r.declared.declarations) named.symbols
        (of_file scope of_text.modules of_text.tree r.declared.declarations none_misplaced named.declarations))
        (sym (ap (λ ss. slice_get ss n) same) ∙ s.1.0) (at_number n (d.variable at v) e) in
        absurd (true≢false (sym s.1.1 ∙ not_found s.0.1 fits))

    no_variable_named : (o : Option ℕ) → symbol_folded f copy ≡ o
        → option_and_then (λ n. variable_by f n (declaration f n)) o ≡ None
    no_variable_named None e = refl
    no_variable_named (Some n) e = no_variable n (declaration f n) refl e

    no_argument : (n : ℕ) (o : Option DeclaredTree) → declaration f n ≡ o → argument_of copy o ≡ None
    no_argument n None e = refl
    no_argument n (Some (d.parameter at t)) e = refl
    no_argument n (Some (d.parameter_with at t x)) e = refl
    no_argument n (Some (d.variable at v)) e = refl
    no_argument n (Some (d.a_resource at q existing b)) e = refl
    no_argument n (Some (d.a_module at b)) e =
        arguments_placed (codes "params") b.fields (placed_at n (d.a_module at b) e)

    pub file_placed : IsPlaced f
    file_placed = record {
      variables = no_variable_named (symbol_folded f copy) refl;
      arguments = λ n. no_argument n (declaration f n) refl;
      fields = λ n at q existing b e. fields_placed b.fields (placed_at n (d.a_resource at q existing b) e);
    }
