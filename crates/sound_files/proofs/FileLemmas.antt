-- The files of programs without faults are sound.
use Rattle.std.proofs.Common.{◌≡◌, inl, inr, ℕ, List, [], length, map, Option, Some, None, refl, sym, ap, ap₂, ◌∙◌}
use Rattle.std.proofs.Common.{subst}
use Rattle.std.specs.Prelude.{slice_get}
use Rattle.foundation.specs.Options.{or_else}
use Rattle.depend_graph.specs.declared.order.Sorted.TheVariants as sorted
use Rattle.std.specs.declared.vec.Vec.{Vec}
use Rattle.std.specs.declared.alloc.Global.{Global}
use Rattle.bicep_tree.specs.Tree.{FileTree}
use Rattle.bicep_found.specs.Found.{found, both}
use Rattle.bicep_names.specs.Scope.{Scope}
use Rattle.bicep_members.specs.Files.{repeated_member}
use Rattle.bicep_misplaced.specs.Files.{misplaced}
use Rattle.bicep_type_texts.specs.Files.{bad_type}
use Rattle.bicep_symbols.specs.Entries.{Symbol, symbols_of}
use Rattle.bicep_symbols.specs.Outputs.{outputs_of}
use Rattle.bicep_symbols.specs.Repeated.{repeated_symbol, repeated_output}
use Rattle.bicep_declared.specs.Declarations.{DeclaredFileTree}
use Rattle.bicep_declared.specs.Declare.{declared_all, outputs_declared, declared_file, file}
use Rattle.bicep_declared.specs.Sites.{declarations_of}
use Rattle.bicep_placed.specs.Kinds.{path_of}
use Rattle.bicep_mentions.specs.Entries.{has_entry}
use Rattle.bicep_circles.specs.Links.{links}
use Rattle.bicep_circles.specs.Orders.{IsLinkOrder, AreSorted}
use Rattle.bicep_program.specs.Program.{ProgramFile}
use Rattle.bicep_program.proofs.LoadLemmas.{at_place}
use Rattle.resolved_program.specs.Programs.{ResolvedFileTree, file_symbols, output_texts, scope_in, with_names}
use Rattle.resolved_program.specs.Programs.{resolved_file, IsResolved}
use Rattle.resolved_program.specs.Faults.{twice_of}
use Rattle.resolved_program.proofs.FirstLemmas.{both_at}
use Rattle.bicep_checks.specs.Faults as untyped
use Rattle.bicep_checks.specs.Faults.{symbol_kind, links_of, name_at, text_place, link_place, state_place}
use Rattle.bicep_checks.specs.declared.fault.CheckFault.{CheckFault as Untyped}
use Rattle.bicep_checks.specs.declared.fault.CheckFault.TheVariants as u
use Rattle.bicep_types.specs.Faults.{HasFault}
use Rattle.bicep_types.specs.Steps.{HasDeclarations}
use Rattle.bicep_types.specs.declared.fault.CheckFault.{CheckFault}
use Rattle.bicep_types.specs.declared.fault.CheckFault.TheVariants as fault
use Rattle.bicep_types.proofs.FileLemmas.{all_declared}
use Rattle.bicep_meaning.specs.Files.{SourceFile}
use Rattle.declaration_laws.specs.Sound.{IsSound}
use Rattle.ordered_emissions.specs.Orders.{IsPaired, IsOrderOf}
use Rattle.sound_declarations.proofs.FoundLemmas.{of_mapped, of_both, first_none, second_none}
use Rattle.sound_declarations.specs.Few.{FileHasFew}
use Rattle.sound_files.specs.Files.{IsFileOf}
use Rattle.sound_declarations.specs.Values.{AreValuesSound}
use Rattle.sound_declarations.proofs.DeclaredLemmas.{FileIsGood, file_good, values_sound}
use Rattle.sound_files.proofs.KindLemmas.{types_of}
use Rattle.sound_files.proofs.LineLemmas.{LinedFrom, file_lined}
use Rattle.sound_files.proofs.SoundLemmas.{Checked, file_sound}

-- no fault is one that is found before types are looked at
none_untyped : (files : List ProgramFile) → ((x : CheckFault) → ¬ HasFault files x) → (y : Untyped)
    → ¬ untyped.HasFault files y
none_untyped files n (u.UnknownName k at) = n (fault.UnknownName k at)
none_untyped files n (u.NameTwice k at) = n (fault.NameTwice k at)
none_untyped files n (u.SymbolCycle k names) = n (fault.SymbolCycle k names)
none_untyped files n (u.BadDecorator k at) = n (fault.BadDecorator k at)
none_untyped files n (u.BadForPlace k at) = n (fault.BadForPlace k at)
none_untyped files n (u.MissingModuleParameter k at) = n (fault.MissingModuleParameter k at)
none_untyped files n (u.ExtraModuleParameter k at) = n (fault.ExtraModuleParameter k at)
none_untyped files n u.OutOfMemory = λ f. f

no_place : (o : Option ℕ) → ((at : ℕ) → o ≡ Some at → ⊥) → o ≡ None
no_place None h = refl
no_place (Some at) h = absurd (h at refl)

-- the declarations of a file and its outputs
declared_of : (sc : Scope) (f : FileTree) (x : DeclaredFileTree) → declared_file sc f ≡ found x
    → declared_all sc (declarations_of f) ≡ found x.declarations
unfolding declared_file
declared_of sc f x e =
    let ds = declarations_of f in
    let g = of_mapped file (both (declared_all sc ds) (outputs_declared sc ds)) x e in
    let p = of_both (declared_all sc ds) (outputs_declared sc ds) g.part g.is in
    p.first ∙ ap (λ (y : DeclaredFileTree). found y.declarations) g.made

module _ (files : List ProgramFile) (rs : List ResolvedFileTree) (h : IsResolved files rs)
    (none : (x : CheckFault) → ¬ HasFault files x) (k : ℕ) (r : ResolvedFileTree) (is : slice_get rs k ≡ Some r) where
  -- the file that is resolved
  source : (f : ProgramFile) × (slice_get files k ≡ Some f) × (found r ≡ resolved_file files f)
  source = both_at (λ x. found x) (resolved_file files) rs files (sym h) k r is

  abbrev of_text : ProgramFile
  of_text = source.0

  no_text : text_place of_text ≡ None
  no_text =
      no_place (text_place of_text)
      (λ at e. none_untyped files none (u.BadForPlace k at)
      (record { file = of_text; is = source.1; holds = inl e }))

  no_link : link_place r ≡ None
  no_link =
      no_place (link_place r)
      (λ at e. none_untyped files none (u.BadForPlace k at)
      (record {
        file = of_text;
        is = source.1;
        holds = inr (record { resolved = r; is = sym source.2; holds = inl e });
      }))

  no_state : state_place r ≡ None
  no_state =
      no_place (state_place r)
      (λ at e. none_untyped files none (u.BadForPlace k at)
      (record {
        file = of_text;
        is = source.1;
        holds = inr (record { resolved = r; is = sym source.2; holds = inr e });
      }))

  no_twice : twice_of of_text ≡ None
  no_twice =
      no_place (twice_of of_text)
      (λ at e. none_untyped files none (u.NameTwice k at) (record { file = of_text; is = source.1; holds = e }))

  no_member : repeated_member of_text.tree ≡ None
  no_member =
      let ss = repeated_symbol (symbols_of of_text.modules of_text.tree) in
      let os = repeated_output (outputs_of of_text.tree) in
      second_none os (repeated_member of_text.tree)
      (second_none ss (or_else os (repeated_member of_text.tree)) no_twice)

  -- what the file stands for
  record IsNamed : Type 0 where
    declared : declared_file (scope_in files of_text) of_text.tree ≡ found r.declared
    symbols : file_symbols of_text ≡ r.symbols

  named : IsNamed
  named =
      let g = of_mapped (with_names (file_symbols of_text) (output_texts of_text))
      (declared_file (scope_in files of_text) of_text.tree) r (sym source.2) in
      record {
        declared = g.is ∙ ap (λ (x : ResolvedFileTree). found x.declared) g.made;
        symbols = ap (λ (x : ResolvedFileTree). x.symbols) g.made;
      }

  pub no_name_twice : repeated_symbol r.symbols ≡ None
  no_name_twice =
      let os = repeated_output (outputs_of of_text.tree) in
      ap repeated_symbol (sym named.symbols)
      ∙ first_none (repeated_symbol (file_symbols of_text)) (or_else os (repeated_member of_text.tree)) no_twice

  -- the values of the file
  values : FileHasFew r.declared → FileIsGood (scope_in files of_text) r.declared
  values few =
      file_good (scope_in files of_text) of_text.tree r.declared
      (first_none (misplaced of_text.tree) (bad_type of_text.tree) no_text) no_member named.declared few

  lined : LinedFrom [] r.symbols (map path_of r.declared.declarations)
  lined =
      subst (λ (ss : List Symbol). LinedFrom [] ss (map path_of r.declared.declarations)) named.symbols
      (file_lined (scope_in files of_text) of_text.modules of_text.tree r.declared.declarations
      (second_none (misplaced of_text.tree) (bad_type of_text.tree) no_text)
      (declared_of (scope_in files of_text) of_text.tree r.declared named.declared))

  pairs : HasDeclarations r
  pairs = at_place HasDeclarations rs k r is (all_declared files files rs h)

  checked : FileHasFew r.declared → Checked r.symbols r.declared
  checked few = record {
    typed = types_of r.symbols r.declared.declarations lined;
    pairs = pairs;
    good = (values few).declarations;
    placed = no_link;
    variables = no_state;
  }

  pub sound_file : FileHasFew r.declared → (f : SourceFile) → IsFileOf r f → IsSound f
  sound_file few f own =
      file_sound f
      (subst (λ (x : DeclaredFileTree). Checked f.symbols x) (sym own.declared)
      (subst (λ (ss : List Symbol). Checked ss r.declared) (sym own.symbols) (checked few)))
      (λ n. own.entries n
      ∙ ap₂ (λ (ss : List Symbol) (x : DeclaredFileTree). has_entry (map symbol_kind ss) x.declarations n)
      (sym own.symbols) (sym own.declared))

  pub sound_values : FileHasFew r.declared → AreValuesSound r.declared
  sound_values few = values_sound (scope_in files of_text) r.declared (values few)

  pub paired_file : (f : SourceFile) → IsFileOf r f → IsPaired f
  paired_file f own =
      ap (λ (ss : List Symbol). length ss) own.symbols ∙ pairs
      ∙ ap (λ (x : DeclaredFileTree). length x.declarations) (sym own.declared)

  -- no symbols of the file mention each other in a circle
  pub no_circle : (xs : Vec ℕ Global) → AreSorted (links_of r) (sorted.Circle xs) → ⊥
  no_circle xs c =
      none_untyped files none (u.SymbolCycle k (map (name_at r.symbols) xs.items))
      (record {
        file = of_text;
        is = source.1;
        holds =
            record {
              resolved = r;
              is = sym source.2;
              holds = record { numbers = xs.items; names_are = refl; circle = c.0; least = c.1 };
            };
      })

-- an order of the symbols of a resolved file is one of the file
pub order_of : (r : ResolvedFileTree) (f : SourceFile) (order : List ℕ) → IsFileOf r f
    → IsLinkOrder (links_of r) order → IsOrderOf f order
order_of r f order own h =
    subst (λ ls. IsLinkOrder ls order)
    (ap₂ (λ (ss : List Symbol) (x : DeclaredFileTree). links (map symbol_kind ss) x.declarations) (sym own.symbols)
    (sym own.declared)) h
