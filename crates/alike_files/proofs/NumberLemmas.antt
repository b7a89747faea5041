-- Files that differ in the values of parameters and in the list of modules alone: what is found in them by names and
-- numbers.
use Rattle.std.proofs.Common.{◌≡◌, ℕ, Bool, false, List, [], ◌∷◌, length, Option, Some, None, refl, ap, ◌∙◌}
use Rattle.std.specs.Ordering.{match_ordering}
use Rattle.std.specs.Prelude.{◌&&◌, option_and_then, slice_get, is_some, if◌then◌else◌}
use Rattle.arm_value.specs.Json.{key_cmp}
use Rattle.template_parts.specs.declared.mode.Form.{Form}
use Rattle.template_parts.specs.declared.mode.Form.TheVariants.{One, Two}
use Rattle.bicep_declared.specs.Declarations.{DeclaredTree}
use Rattle.bicep_declared.specs.Declarations as d
use Rattle.bicep_dependencies.specs.Dependencies.{depends_on}
use Rattle.bicep_meaning.specs.Files.{SourceFile, Typed, declaration, type_of}
use Rattle.bicep_meaning.specs.Instances.{symbol_folded, variable_by, variable_named, Put, put_by, put_of}
use Rattle.bicep_meaning.specs.Instances.{unless_existing}
use Rattle.emitted_files.specs.Dependencies.{kinds_of, dependencies}
use Rattle.source_worlds.specs.Numbers.{is_put, is_resource, name_of, if_put, inserted, by_name, passing}
use Rattle.source_worlds.specs.Numbers.{in_template, symbol_of, place_in, number_of}

-- a file with the values of parameters and the list of modules of another
abbrev pub with_rest : SourceFile → SourceFile → SourceFile
with_rest f from = record {
  symbols = f.symbols;
  declared = f.declared;
  outputs = f.outputs;
  modules = from.modules;
  has_entry = f.has_entry;
  accepts = from.accepts;
  batches = f.batches;
}

module _ (f from : SourceFile) where
  abbrev g : SourceFile
  g = with_rest f from

  variable_same : (n : ℕ) (o : Option DeclaredTree) → variable_by f n o ≡ variable_by g n o
  variable_same n None = refl
  variable_same n (Some (d.variable at v)) = refl
  variable_same n (Some (d.parameter at t)) = refl
  variable_same n (Some (d.parameter_with at t e)) = refl
  variable_same n (Some (d.a_resource at q existing b)) = refl
  variable_same n (Some (d.a_module at b)) = refl

  pub variable_named_same : (x : List ℕ) → variable_named x f ≡ variable_named x g
  variable_named_same x = λ i. option_and_then (λ n. variable_same n (declaration f n) i) (symbol_folded f x)

  inserted_same : (n : ℕ) (ms : List ℕ) → inserted f n ms ≡ inserted g n ms
  inserted_same n [] = refl
  inserted_same n (m ∷ ms) =
      ap (λ l. match_ordering (key_cmp (name_of f n) (name_of f m)) (n ∷ m ∷ ms) (n ∷ m ∷ ms) (m ∷ l))
      (inserted_same n ms)

  by_name_same : (ns : List ℕ) → by_name f ns ≡ by_name g ns
  by_name_same [] = refl
  by_name_same (n ∷ ns) = inserted_same n (by_name f ns) ∙ ap (inserted g n) (by_name_same ns)

  module _ (types : (n : ℕ) → type_of f n ≡ type_of g n) where
    put_same : (n : ℕ) (o : Option DeclaredTree) → put_by f n o ≡ put_by g n o
    put_same n None = refl
    put_same n (Some (d.variable at v)) = refl
    put_same n (Some (d.parameter at t)) = refl
    put_same n (Some (d.parameter_with at t e)) = refl
    put_same n (Some (d.a_resource at q existing b)) =
        ap (λ (t : Typed). unless_existing existing (record {
          number = n;
          body = b;
          kind = record { type = t.kind; api = t.version; is_deployment = false };
        })) (types n)
    put_same n (Some (d.a_module at b)) = refl

    puts_same : (n : ℕ) → put_of n f ≡ put_of n g
    puts_same n = put_same n (declaration f n)

    is_put_same : (n : ℕ) → is_put f n ≡ is_put g n
    is_put_same n = ap (λ (o : Option Put). is_some o) (puts_same n)

    if_put_same : (n : ℕ) → if_put f n ≡ if_put g n
    if_put_same n = ap (λ (b : Bool). if b then Some n else None) (is_put_same n)

    pub in_template_same : (z : Form) → in_template z f ≡ in_template z g
    in_template_same One =
        λ i. passing (λ n. is_put_same n i) 0 (length f.declared.declarations)
    in_template_same Two = by_name_same (passing (is_resource f) 0 (length f.declared.declarations))

    pub symbol_same : (z : Form) (m : ℕ) → symbol_of z f m ≡ symbol_of z g m
    symbol_same z m = λ i. option_and_then (λ n. if_put_same n i) (slice_get (in_template_same z i) m)

    -- the resource that is put, or the module, of a number of the template
    pub put_at : (z : Form) (m : ℕ) → option_and_then (λ n. put_of n f) (symbol_of z f m)
        ≡ option_and_then (λ n. put_of n g) (symbol_of z g m)
    put_at z m = λ i. option_and_then (λ n. puts_same n i) (symbol_same z m i)

    pub number_same : (z : Form) (n : ℕ) → number_of z f n ≡ number_of z g n
    number_same z n = λ i. option_and_then (λ m. place_in m (in_template_same z i)) (if_put_same n i)

    pub dependencies_same : (k : ℕ) → dependencies f k ≡ dependencies g k
    dependencies_same k = λ i.
        passing (λ n. is_put_same n i && depends_on (kinds_of f) f.declared.declarations k n) 0
        (length f.declared.declarations)
