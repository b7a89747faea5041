-- The symbols of a file have declarations, and are in no circle.
use Rattle.std.proofs.Common.{◌≡◌, ◌<◌, ℕ, List, [], ◌∷◌, length, get_or, map, option_map, refl, sym, ap, ap₂}
use Rattle.std.proofs.Common.{subst, ◌∙◌, ◌+◌, drop, drop-cons, suc, arith}
use Rattle.std.specs.Prelude.{Result, Ok, Err, OnOk}
use Rattle.std.specs.List.{AllByRecursion}
use Rattle.std.specs.declared.vec.Vec.{Vec}
use Rattle.std.specs.declared.alloc.Global.{Global}
use Rattle.std.proofs.lemmas.Option.{slice_get-map, slice_get_read}
use Rattle.std.proofs.lemmas.List.{length-map}
use Rattle.bicep_found.specs.Found.{Found, found, unknown, mapped}
use Rattle.bicep_names.specs.declared.kind.Kind.{Kind}
use Rattle.bicep_symbols.specs.declared.entry.Entry.{Entry}
use Rattle.bicep_symbols.specs.Entries.{Symbol}
use Rattle.bicep_signatures.specs.declared.value_type.ValueType.{ValueType}
use Rattle.bicep_typing.specs.Typed.{Fitting}
use Rattle.bicep_type_faults.specs.Entries.{kind_of}
use Rattle.bicep_type_faults.specs.Files.{file_fits}
use Rattle.bicep_checks.specs.Faults.{links_of, name_at, symbol_kind, kinds_of}
use Rattle.bicep_checks.proofs.KindLemmas.{kinds_same, same_file}
use Rattle.depend_graph.specs.declared.order.Sorted.TheVariants as sorted
use Rattle.bicep_numbers.specs.Links.{links}
use Rattle.bicep_numbers.specs.Orders.{AreSorted, IsLinkOrder}
use Rattle.bicep_declared.specs.declared.declared.Declared.{Declared}
use Rattle.bicep_declared.specs.View.{declared_tree}
use Rattle.bicep_symbol_types.specs.SymbolTypes.{with_outputs, symbol_types}
use Rattle.resolved_program.specs.declared.resolved.ResolvedFile.{ResolvedFile}
use Rattle.resolved_program.specs.View.{file_view}
use Rattle.bicep_types.specs.Program.{symbol_types_by, IsSettledBy, place_of, type_place_by}
use Rattle.bicep_declared.specs.Declarations.{DeclaredFileTree}
use Rattle.bicep_declared.specs.Declare.{declared_file}
use Rattle.bicep_numbers.specs.Sorts.{symbol_sort, declared_sort}
use Rattle.bicep_numbers.proofs.FileLemmas.{file_sorts}
use Rattle.bicep_program.specs.Program.{ProgramFile}
use Rattle.bicep_program.proofs.LoadLemmas.{at_place}
use Rattle.bicep_symbol_types.proofs.SettleLemmas.{are_settled}
use Rattle.resolved_program.specs.Programs.{ResolvedFileTree, with_names, file_symbols, output_texts, scope_in}
use Rattle.resolved_program.specs.Programs.{resolved_file}
use Rattle.bicep_types.specs.Steps.{HasDeclarations, HasNoCircle}
use Rattle.bicep_checks.proofs.FaultLemmas.{value_or}

declared_by : (ss : List Symbol) (os : List (List ℕ)) (x : Found DeclaredFileTree) (r : ResolvedFileTree)
    → mapped (with_names ss os) x ≡ found r
    → ((t : DeclaredFileTree) → x ≡ found t → length ss ≡ length t.declarations) → HasDeclarations r
unfolding mapped
declared_by ss os (found t) r e h = subst HasDeclarations (ap (value_or r) e) (h t refl)
declared_by ss os (unknown at) r e h = absurd (cc)

one_declared : (files : List ProgramFile) (f : ProgramFile) (r : ResolvedFileTree)
    → resolved_file files f ≡ found r → HasDeclarations r
one_declared files f r e =
    declared_by (file_symbols f) (output_texts f) (declared_file (scope_in files f) f.tree) r e
    (λ t is. sym (length-map (file_symbols f) symbol_sort)
    ∙ ap length (file_sorts f.modules f.tree (scope_in files f) t is) ∙ length-map t.declarations declared_sort)

pub all_declared : (files xs : List ProgramFile) (rs : List ResolvedFileTree)
    → map (resolved_file files) xs ≡ map (λ r. found r) rs → AllByRecursion HasDeclarations rs
all_declared files [] [] e = tt
all_declared files [] (r ∷ rs) e = absurd (cc)
all_declared files (x ∷ xs) [] e = absurd (cc)
all_declared files (x ∷ xs) (r ∷ rs) e =
    let head : resolved_file files x ≡ found r = cc in
    let tail : map (resolved_file files) xs ≡ map (λ y. found y) rs = cc in
    (one_declared files x r head, all_declared files xs rs tail)

-- what holds of all files holds of that of a number
pub holds_at : (P : ResolvedFileTree → Type 0) (rs : List ResolvedFile) (k : ℕ) (r : ResolvedFile) → k < length rs
    → r ≡ get_or rs k r → AllByRecursion P (map file_view rs) → P (file_view r)
holds_at P rs k r below is h =
    at_place P (map file_view rs) k (file_view r)
    (slice_get-map file_view rs k ∙ ap (option_map file_view) (slice_get_read rs (length rs) k r refl below is)) h

-- a circle of the symbols of a file
pub no_circle_in : (f : ResolvedFile) (es : List Entry) (ds : List Declared) (xs : Vec ℕ Global)
    → es ≡ f.entries.items → ds ≡ f.declared.declarations.items
    → AreSorted (links (map (λ (e : Entry). e.kind) es) (map declared_tree ds)) (sorted.Circle xs)
    → HasNoCircle (file_view f) → ⊥
no_circle_in f es ds xs p q s h =
    let c : AreSorted (links_of (file_view f)) (sorted.Circle xs) =
    subst (λ l. AreSorted l (sorted.Circle xs)) (same_file links f es ds p q) s
    in
    h (map (name_at (file_view f).symbols) xs.items)
    (record { numbers = xs.items; names_are = refl; circle = c.0; least = c.1 })

-- an order of the symbols of a file
pub order_in : (f : ResolvedFile) (es : List Entry) (ds : List Declared) (xs : Vec ℕ Global) (order : List ℕ)
    → es ≡ f.entries.items → ds ≡ f.declared.declarations.items → order ≡ xs.items
    → AreSorted (links (map (λ (e : Entry). e.kind) es) (map declared_tree ds)) (sorted.Order xs)
    → IsLinkOrder (links_of (file_view f)) order
order_in f es ds xs order p q is s =
    subst (IsLinkOrder (links_of (file_view f))) (sym is)
    (subst (λ l. AreSorted l (sorted.Order xs)) (same_file links f es ds p q) s)

module _ (os : List (List ValueType)) (f : ResolvedFile) (order : List ℕ) (h : HasDeclarations (file_view f))
    (o : IsLinkOrder (links_of (file_view f)) order) where
  -- as many kinds as declarations
  many : length (kinds_of (file_view f)) ≡ length (file_view f).declared.declarations
  many = length-map (file_view f).symbols symbol_kind ∙ h

  -- by an order of its symbols the types of a file are settled
  pub settled_along : IsSettledBy os (file_view f)
  settled_along = are_settled os (kinds_of (file_view f)) (file_view f).declared.declarations order many o

  -- and they are found
  pub found_along : (ds : List Declared) (P : List ValueType → Type 0) → ds ≡ f.declared.declarations.items
      → ((kinds : List Kind) → length kinds ≡ length ds → IsLinkOrder (links kinds (map declared_tree ds)) order
      → P (symbol_types os (map declared_tree ds))) → P (symbol_types_by os (file_view f))
  found_along ds P is g =
      subst (λ xs. P (symbol_types os (map declared_tree xs))) is
      (g (kinds_of (file_view f)) (many ∙ length-map f.declared.declarations.items declared_tree ∙ ap length (sym is))
      (subst (λ xs. IsLinkOrder (links (kinds_of (file_view f)) (map declared_tree xs)) order) (sym is) o))

-- one file more
pub one_more : (P : ResolvedFileTree → Type 0) (rs : List ResolvedFile) (k : ℕ) (r : ResolvedFile) → k < length rs
    → r ≡ get_or rs k r → P (file_view r) → AllByRecursion P (map file_view (drop (k + 1) rs))
    → AllByRecursion P (map file_view (drop k rs))
one_more P rs k r below is h rest =
    let one : k + 1 ≡ suc k = omega arith in
    subst (λ (xs : List ResolvedFile). AllByRecursion P (map file_view xs)) (sym (drop-cons rs k r below)) (
      subst (λ (x : ResolvedFile). P (file_view x)) is h,
      subst (λ (n : ℕ). AllByRecursion P (map file_view (drop n rs))) one rest,
    )

pub on_ok : {A E : Type 0} (P : Type 0) (r : Result A E) → P → OnOk r P
on_ok P (Ok x) h = h
on_ok P (Err x) h = tt

-- the place of the first part of a file that does not fit
pub place_same : (files : List ProgramFile) (os : List (List ValueType)) (f : ResolvedFile) (es : List Entry)
    (ts : List ValueType) (x : Fitting) → es ≡ f.entries.items → ts ≡ symbol_types_by os (file_view f)
    → x ≡ file_fits files (with_outputs os ts) (map kind_of es) (file_view f).declared
    → place_of x ≡ type_place_by files os (file_view f)
place_same files os f es ts x e t is =
    ap place_of (is ∙ ap₂ (λ (us : List ValueType) (xs : List Entry).
    file_fits files (with_outputs os us) (map kind_of xs) (file_view f).declared) t e
    ∙ ap (λ (ks : List Kind).
    file_fits files (with_outputs os (symbol_types_by os (file_view f))) ks (file_view f).declared)
    (sym (kinds_same f.entries.items)))
