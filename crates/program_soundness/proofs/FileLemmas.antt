-- The files of checked programs are sound.
use Rattle.std.proofs.Common.{◌≡◌, ◌⊎◌, inl, inr, ℕ, zero, suc, List, [], ◌∷◌, length, map, option_map, Option, Some}
use Rattle.std.proofs.Common.{None, refl, sym, ap, ap₂, subst, ◌∙◌, arith}
use Rattle.std.specs.Prelude.{slice_get, Result, Ok, Err}
use Rattle.std.specs.List.{AllByRecursion}
use Rattle.std.specs.declared.vec.Vec.{Vec}
use Rattle.std.specs.declared.alloc.Global.{Global}
use Rattle.std.proofs.lemmas.Option.{none-some, same_Some, slice_get-map}
use Rattle.deploy_cells.specs.Cells.{World}
use Rattle.bicep_resolved.specs.Source.{ValueTree}
use Rattle.bicep_symbols.specs.Entries.{Symbol}
use Rattle.bicep_declared.specs.Declarations.{DeclaredTree, OutputTree, DeclaredFileTree}
use Rattle.bicep_declared.specs.Declarations as d
use Rattle.bicep_program.specs.Program.{ProgramFile}
use Rattle.bicep_program.proofs.LoadLemmas.{at_place}
use Rattle.resolved_program.specs.Programs.{ResolvedFileTree}
use Rattle.resolved_program.specs.View.{files_view}
use Rattle.bicep_checks.specs.Faults.{symbol_kind, kinds_of}
use Rattle.bicep_signatures.specs.declared.value_type.ValueType.{ValueType}
use Rattle.bicep_signatures.specs.declared.value_type.ValueType.TheVariants as type
use Rattle.bicep_typing.specs.Typed.{Typed, Fitting}
use Rattle.bicep_typing.specs.Names.{Types, listed, known}
use Rattle.bicep_typing.specs.Typing.{value_type}
use Rattle.bicep_type_faults.specs.Files.{file_of, declaration_fits, declarations_fit, output_fits, outputs_fit}
use Rattle.bicep_type_faults.specs.Files.{file_fits}
use Rattle.bicep_symbol_types.specs.SymbolTypes.{or_any, symbol_type, with_outputs, AreTypes}
use Rattle.bicep_types.specs.declared.checked.Checked.{Checked}
use Rattle.bicep_types.specs.Program.{all_output_types, symbol_types_by, place_of}
use Rattle.bicep_types.specs.Checked.{IsChecked, IsSettled, Fits}
use Rattle.bicep_types.specs.Steps.{HasDeclarations}
use Rattle.bicep_types.proofs.FileLemmas.{all_declared}
use Rattle.bicep_meaning.specs.Around.{Here, Frame}
use Rattle.bicep_soundness.specs.Entries.{type_at, AreTyped, AreDeclared, AreCounting}
use Rattle.bicep_soundness.specs.Sound.{IsTypedIn}
use Rattle.bicep_soundness.proofs.TypedLemmas.{Has}
use Rattle.bicep_soundness.proofs.LawLemmas.{is_sound}
use Rattle.program_soundness.specs.Parts.{declaration_parts, output_part}
use Rattle.program_soundness.specs.Sound.{listed_or_none, types_of, module_file, IsPartSound, IsFileSound}
use Rattle.program_soundness.proofs.PartLemmas.{both_have, declaration_sound, output_sound}

-- ---- variables are of the types of their values

by_type : (x : Typed) (t : ValueType) → t ≡ or_any x → (t ≡ type.Any) ⊎ (x ≡ Ok t)
by_type (Ok u) t e = inr (ap (λ y. Ok y) (sym e))
by_type (Err at) t e = inl e

declared_by : (os : List (List ValueType)) (ds : List DeclaredTree) (xs : List ValueType) → AreTypes os ds xs
    → AreDeclared (with_outputs os xs) ds
declared_by os ds xs e n at x is =
    let f = symbol_type (with_outputs os xs) in
    by_type (value_type (with_outputs os xs) x) (type_at (with_outputs os xs) n)
    (ap known (ap (λ (ys : List ValueType). slice_get ys n) (sym e) ∙ slice_get-map f ds n ∙ ap (option_map f) is))

-- ---- parts of a file that fits

fitting : (x : Fitting) → place_of x ≡ None → Has x
fitting (Ok u) e = record { value = u; is = refl }
fitting (Err at) e = absurd (none-some at (sym e))

-- a declaration that fits, and its symbol
pub record Fitted (files : List ProgramFile) (ts : Types) (ss : List Symbol) (n : ℕ) (x : DeclaredTree) : Type 0 where
  pub symbol : Symbol
  pub is : slice_get ss n ≡ Some symbol
  pub fits : Has (declaration_fits files ts symbol.2 x)

one_fits : (files : List ProgramFile) (ts : Types) (ss : List Symbol) (ds : List DeclaredTree) (n : ℕ)
    (x : DeclaredTree) → length ss ≡ length ds → slice_get ds n ≡ Some x
    → Has (declarations_fit files ts (map symbol_kind ss) ds) → Fitted files ts ss n x
one_fits files ts ss [] n x l is h = absurd (none-some x is)
one_fits files ts [] (y ∷ ds) n x l is h = let none : 0 ≡ suc (length ds) = l in absurd (omega (arith, none))
one_fits files ts (z ∷ ss) (y ∷ ds) zero x l is h =
    let p = both_have (declaration_fits files ts z.2 y) (declarations_fit files ts (map symbol_kind ss) ds) h in
    record {
      symbol = z;
      is = refl;
      fits = subst (λ u. Has (declaration_fits files ts z.2 u)) (same_Some y x is) p.0;
    }
one_fits files ts (z ∷ ss) (y ∷ ds) (suc n) x l is h =
    let p = both_have (declaration_fits files ts z.2 y) (declarations_fit files ts (map symbol_kind ss) ds) h in
    let more : suc (length ss) ≡ suc (length ds) = l in
    let rest : length ss ≡ length ds = omega (arith, more) in
    let g = one_fits files ts ss ds n x rest is p.1 in
    record { symbol = g.symbol; is = g.is; fits = g.fits }

one_output : (ts : Types) (os : List OutputTree) (n : ℕ) (o : OutputTree) → slice_get os n ≡ Some o
    → Has (outputs_fit ts os) → Has (output_fits ts o)
one_output ts [] n o is h = absurd (none-some o is)
one_output ts (x ∷ os) zero o is h =
    subst (λ u. Has (output_fits ts u)) (same_Some x o is) (both_have (output_fits ts x) (outputs_fit ts os) h).0
one_output ts (x ∷ os) (suc n) o is h =
    one_output ts os n o is (both_have (output_fits ts x) (outputs_fit ts os) h).1

both_fit : (files : List ProgramFile) (ts : Types) (ss : List Symbol) (f : DeclaredFileTree)
    → Has (file_fits files ts (map symbol_kind ss) f)
    → Has (declarations_fit files ts (map symbol_kind ss) f.declarations) × Has (outputs_fit ts f.outputs)
unfolding file_fits
both_fit files ts ss f h =
    both_have (declarations_fit files ts (map symbol_kind ss) f.declarations) (outputs_fit ts f.outputs) h

-- a file whose parts fit, in a world in which its entries are of their types
sound_by : (files : List ProgramFile) (r : ResolvedFileTree) (ts : Types) (here : Here) (w : World)
    → HasDeclarations r → Has (file_fits files ts (kinds_of r) r.declared) → IsTypedIn ts here w
    → IsFileSound files r ts here w
sound_by files r ts here w many h typed =
    let both = both_fit files ts r.symbols r.declared h in
    record {
      declarations = λ n k fs x c is.
          let g = one_fits files ts r.symbols r.declared.declarations n x many is both.0 in
          subst (λ o. AllByRecursion (IsPartSound ts here w k fs) (declaration_parts (module_file files o) x))
          (sym g.is)
          (declaration_sound ts here w typed k fs c files g.symbol.2 x g.fits);
      outputs = λ n k fs o c is.
          output_sound ts here w typed k fs c o (one_output ts r.declared.outputs n o is both.1);
      expressions = λ k fs e t c is. is_sound ts here w typed k e fs t c is;
    }

-- ---- the types that a checked program has

listed_is : (o : Option (Vec ValueType Global)) (xs : List ValueType) → option_map listed o ≡ Some xs
    → listed_or_none o ≡ xs
listed_is None xs e = absurd (none-some xs e)
listed_is (Some v) xs e = same_Some (listed v) xs e

types_are : (files : List ProgramFile) (c : Checked) → IsChecked files c → (n : ℕ) (r : ResolvedFileTree)
    → slice_get (files_view c.resolved) n ≡ Some r
    → types_of c.types n ≡ with_outputs (all_output_types files) (symbol_types_by (all_output_types files) r)
types_are files c h n r is =
    let f = symbol_types_by (all_output_types files) in
    ap₂ (λ os xs. with_outputs os xs) h.types.outputs (listed_is (slice_get c.types.symbols.items n) (f r)
    (sym (slice_get-map listed c.types.symbols.items n)
    ∙ ap (λ (xs : List (List ValueType)). slice_get xs n) h.types.symbols
    ∙ slice_get-map f (files_view c.resolved) n ∙ ap (option_map f) is))

pub file_is_sound : (files : List ProgramFile) (c : Checked) → IsChecked files c
    → AllByRecursion (IsSettled files) (files_view c.resolved) → AllByRecursion (Fits files) (files_view c.resolved)
    → (n : ℕ) (r : ResolvedFileTree) (here : Here) (w : World) → slice_get (files_view c.resolved) n ≡ Some r
    → here.file.declared ≡ r.declared → AreTyped (types_of c.types n) here w
    → IsFileSound files r (types_of c.types n) here w
file_is_sound files c checked settled fit n r here w is same entries =
    let os = all_output_types files in
    let types = types_are files c checked n r is in
    let many = at_place HasDeclarations (files_view c.resolved) n r is
    (all_declared files files (files_view c.resolved) checked.resolved) in
    let own : AreDeclared (types_of c.types n) here.file.declared.declarations =
    subst (λ (f : DeclaredFileTree). AreDeclared (types_of c.types n) f.declarations) (sym same)
    (subst (λ ts. AreDeclared ts r.declared.declarations) (sym types)
    (declared_by os r.declared.declarations (symbol_types_by os r)
    (at_place (IsSettled files) (files_view c.resolved) n r is settled))) in
    let h = fitting (file_fits files (with_outputs os (symbol_types_by os r)) (kinds_of r) r.declared)
    (at_place (Fits files) (files_view c.resolved) n r is fit) in
    sound_by files r (types_of c.types n) here w many
    (subst (λ ts. Has (file_fits files ts (kinds_of r) r.declared)) (sym types) h)
    (record { declared = own; entries = entries })
