-- The symbols of modules and of parameters are those whose declarations are those of modules and of parameters.
use Rattle.std.proofs.Common.{◌≡◌, ℕ, zero, suc, Bool, true, false, List, [], ◌∷◌, map, Option, Some, None}
use Rattle.std.proofs.Common.{refl, sym, ap, ◌∙◌}
use Rattle.std.specs.Prelude.{is_some, option_map, option_and_then, slice_get}
use Rattle.bicep_found.specs.Found.{found}
use Rattle.bicep_resolved.specs.Source.{LoopTree}
use Rattle.bicep_names.specs.declared.kind.Kind.{Kind}
use Rattle.bicep_names.specs.declared.kind.Kind.TheVariants as k
use Rattle.bicep_symbols.specs.Entries.{Symbol}
use Rattle.bicep_declared.specs.Declarations.{DeclaredTree, DeclaredFileTree}
use Rattle.bicep_declared.specs.Declarations as d
use Rattle.bicep_declared.specs.Declare.{declared_file}
use Rattle.bicep_program.specs.Program.{ProgramFile}
use Rattle.resolved_program.specs.Programs.{ResolvedFileTree, file_symbols, output_texts, scope_in, with_names}
use Rattle.resolved_program.specs.Programs.{resolved_file, IsResolved}
use Rattle.resolved_program.proofs.FirstLemmas.{both_at}
use Rattle.bicep_numbers.specs.Sorts.{Sort, kind_sort, symbol_sort, resource_sort, module_sort, declared_sort}
use Rattle.bicep_numbers.specs.Sorts as sort
use Rattle.bicep_numbers.proofs.FileLemmas.{file_sorts}
use Rattle.bicep_meaning.specs.Files.{SourceFile}
use Rattle.bicep_meaning.specs.Instances.{module_of, is_parameter}
use Rattle.parameter_rules.specs.Rules.{type_of}
use Rattle.sound_values.proofs.FoundLemmas.{of_mapped}
use Rattle.kept_templates.specs.Modules.{is_module_by}
use Rattle.program_templates.specs.Kinds.{HasKinds}

abbrev is_modules : Sort → Bool
is_modules sort.a_parameter = false
is_modules sort.a_variable = false
is_modules sort.one_resource = false
is_modules sort.resources = false
is_modules sort.one_module = true
is_modules sort.modules = true

of_kind : (x : Kind) → is_some (module_of x) ≡ is_modules (kind_sort x)
of_kind k.Parameter = refl
of_kind k.Variable = refl
of_kind (k.Resource inside) = refl
of_kind (k.ResourceLoop inside) = refl
of_kind (k.Module file) = refl
of_kind (k.ModuleLoop file) = refl

of_resource : (o : Option LoopTree) → is_modules (resource_sort o) ≡ false
of_resource None = refl
of_resource (Some l) = refl

of_module : (o : Option LoopTree) → is_modules (module_sort o) ≡ true
of_module None = refl
of_module (Some l) = refl

of_declared : (x : DeclaredTree) → is_modules (declared_sort x).1 ≡ is_module_by (Some x)
of_declared (d.parameter at t) = refl
of_declared (d.parameter_with at t e) = refl
of_declared (d.variable at v) = refl
of_declared (d.a_resource at q existing b) = of_resource b.each
of_declared (d.a_module at b) = of_module b.each

abbrev is_parameters : Sort → Bool
is_parameters sort.a_parameter = true
is_parameters sort.a_variable = false
is_parameters sort.one_resource = false
is_parameters sort.resources = false
is_parameters sort.one_module = false
is_parameters sort.modules = false

parameter_kind : (x : Kind) → is_parameter (Some x) ≡ is_parameters (kind_sort x)
parameter_kind k.Parameter = refl
parameter_kind k.Variable = refl
parameter_kind (k.Resource inside) = refl
parameter_kind (k.ResourceLoop inside) = refl
parameter_kind (k.Module file) = refl
parameter_kind (k.ModuleLoop file) = refl

no_resource : (o : Option LoopTree) → is_parameters (resource_sort o) ≡ false
no_resource None = refl
no_resource (Some l) = refl

no_module : (o : Option LoopTree) → is_parameters (module_sort o) ≡ false
no_module None = refl
no_module (Some l) = refl

parameter_declared : (x : DeclaredTree) → is_parameters (declared_sort x).1 ≡ is_some (type_of (Some x))
parameter_declared (d.parameter at t) = refl
parameter_declared (d.parameter_with at t e) = refl
parameter_declared (d.variable at v) = refl
parameter_declared (d.a_resource at q existing b) = no_resource b.each
parameter_declared (d.a_module at b) = no_module b.each

-- the first items of equal lists, and the others
first_same : {A : Type 0} (x y : A) (xs ys : List A) → x ∷ xs ≡ y ∷ ys → x ≡ y
first_same x y xs ys e = cc

rest_same : {A : Type 0} (x y : A) (xs ys : List A) → x ∷ xs ≡ y ∷ ys → xs ≡ ys
rest_same x y xs ys e = cc

kinds_at : (ss : List Symbol) (ds : List DeclaredTree) → map symbol_sort ss ≡ map declared_sort ds → (n : ℕ)
    → is_some (option_and_then module_of (option_map (λ x. x.2) (slice_get ss n))) ≡ is_module_by (slice_get ds n)
kinds_at [] [] e n = refl
kinds_at [] (x ∷ ds) e n = absurd cc
kinds_at (s ∷ ss) [] e n = absurd cc
kinds_at (s ∷ ss) (x ∷ ds) e zero =
    of_kind s.2
    ∙ ap (λ p. is_modules p.1)
    (first_same (symbol_sort s) (declared_sort x) (map symbol_sort ss) (map declared_sort ds) e)
    ∙ of_declared x
kinds_at (s ∷ ss) (x ∷ ds) e (suc n) =
    kinds_at ss ds (rest_same (symbol_sort s) (declared_sort x) (map symbol_sort ss) (map declared_sort ds) e) n

parameters_at : (ss : List Symbol) (ds : List DeclaredTree) → map symbol_sort ss ≡ map declared_sort ds → (n : ℕ)
    → is_parameter (option_map (λ x. x.2) (slice_get ss n)) ≡ is_some (type_of (slice_get ds n))
parameters_at [] [] e n = refl
parameters_at [] (x ∷ ds) e n = absurd cc
parameters_at (s ∷ ss) [] e n = absurd cc
parameters_at (s ∷ ss) (x ∷ ds) e zero =
    parameter_kind s.2
    ∙ ap (λ p. is_parameters p.1)
    (first_same (symbol_sort s) (declared_sort x) (map symbol_sort ss) (map declared_sort ds) e)
    ∙ parameter_declared x
parameters_at (s ∷ ss) (x ∷ ds) e (suc n) =
    parameters_at ss ds (rest_same (symbol_sort s) (declared_sort x) (map symbol_sort ss) (map declared_sort ds) e) n

module _ (files : List ProgramFile) (rs : List ResolvedFileTree) (h : IsResolved files rs) (i : ℕ)
    (r : ResolvedFileTree) (is : slice_get rs i ≡ Some r) where
  -- the file that is resolved
  source : (f : ProgramFile) × (slice_get files i ≡ Some f) × (found r ≡ resolved_file files f)
  source = both_at (λ x. found x) (resolved_file files) rs files (sym h) i r is

  sorts_same : map symbol_sort r.symbols ≡ map declared_sort r.declared.declarations
  sorts_same =
      let p = source.0 in
      let g = of_mapped (with_names (file_symbols p) (output_texts p)) (declared_file (scope_in files p) p.tree) r
      (sym source.2) in
      ap (λ (x : ResolvedFileTree). map symbol_sort x.symbols) (sym g.made)
      ∙ file_sorts p.modules p.tree (scope_in files p) g.part g.is
      ∙ ap (λ (x : ResolvedFileTree). map declared_sort x.declared.declarations) g.made

  pub kinds_match : (f : SourceFile) → f.symbols ≡ r.symbols → f.declared ≡ r.declared → HasKinds f
  kinds_match f symbols declared =
      let same =
      ap (map symbol_sort) symbols ∙ sorts_same
      ∙ ap (λ (x : DeclaredFileTree). map declared_sort x.declarations) (sym declared) in
      record {
        modules = kinds_at f.symbols f.declared.declarations same;
        parameters = parameters_at f.symbols f.declared.declarations same;
      }
