-- The symbols of a file and its declarations are in one order.
use Rattle.std.proofs.Common.{◌≡◌, ℕ, Bool, List, [], ◌∷◌, ◌++◌, length, map, Option, Some, None, refl, sym, ap, ◌∙◌}
use Rattle.std.proofs.lemmas.List.{append-nil, append_assoc, map-append}
use Rattle.std.specs.Prelude.{option_to_list}
use Rattle.bicep_tree.specs.declared.leaf.Name.{Name}
use Rattle.bicep_tree.specs.declared.leaf.Quoted.{Quoted}
use Rattle.bicep_tree.specs.Tree.{ResourceTree, ObjectTree, MemberTree, MemberTrees, DeclarationTree, StatementTree}
use Rattle.bicep_tree.specs.Tree.{FileTree}
use Rattle.bicep_tree.specs.Tree as tree
use Rattle.bicep_found.specs.Found.{Found, found, unknown, both, all_found}
use Rattle.bicep_names.specs.Scope.{Scope}
use Rattle.bicep_names.specs.Resolve.{resolved, resolved_value}
use Rattle.bicep_symbols.specs.Entries.{Symbol, symbols_of, files_after_statement, first_file}
use Rattle.bicep_symbols.specs.Entries as entries
use Rattle.bicep_circles.specs.Declarations.{BodyTree, DeclaredTree}
use Rattle.bicep_circles.specs.Declare as spec
use Rattle.bicep_circles.specs.Declare.{declared, declared_all, part_declared}
use Rattle.bicep_circles.specs.Sites.{declarations_of}
use Rattle.bicep_circles.specs.Sites as sites
use Rattle.bicep_numbers.specs.Sorts.{Sort, a_parameter, a_variable, one_resource, resources, one_module, modules}
use Rattle.bicep_numbers.specs.Sorts.{symbol_sort, declared_sort, resource_sort, module_sort}
use Rattle.bicep_numbers.proofs.FoundLemmas.{WhereFound, where-mapped, where-both}

-- ---- sorts of declarations as they are written

abbrev pub written_resource : tree.BodyTree → Sort
written_resource (tree.body_plain o) = one_resource
written_resource (tree.body_if at c o) = one_resource
written_resource (tree.body_each l o) = resources
written_resource (tree.body_each_if l at c o) = resources

abbrev pub written_module : tree.BodyTree → Sort
written_module (tree.body_plain o) = one_module
written_module (tree.body_if at c o) = one_module
written_module (tree.body_each l o) = modules
written_module (tree.body_each_if l at c o) = modules

abbrev pub sort_of_resource : ResourceTree → ℕ × Sort
sort_of_resource (tree.resource at n q x b) = (n.at, written_resource b)

abbrev pub written_sort : DeclarationTree → List (ℕ × Sort)
written_sort (tree.metadata at n e) = []
written_sort (tree.target_scope at e) = []
written_sort (tree.param at n t) = (n.at, a_parameter) ∷ []
written_sort (tree.param_with at n t e) = (n.at, a_parameter) ∷ []
written_sort (tree.var at n v) = (n.at, a_variable) ∷ []
written_sort (tree.output at n t v) = []
written_sort (tree.a_resource r) = sort_of_resource r ∷ []
written_sort (tree.a_module at n q b) = (n.at, written_module b) ∷ []

abbrev pub written_sorts : List DeclarationTree → List (ℕ × Sort)
written_sorts [] = []
written_sorts (d ∷ ds) = written_sort d ++ written_sorts ds

sorts-append : (ds es : List DeclarationTree) → written_sorts (ds ++ es) ≡ written_sorts ds ++ written_sorts es
sorts-append [] es = refl
sorts-append (d ∷ ds) es = ap (λ xs. written_sort d ++ xs) (sorts-append ds es)
    ∙ sym (append_assoc (written_sort d) (written_sorts ds) (written_sorts es))

-- one symbol more, and one declaration more
one_more : (ss : List Symbol) (ds : List DeclarationTree) (s : Symbol) (d : DeclarationTree)
    → written_sort d ≡ symbol_sort s ∷ [] → map symbol_sort ss ≡ written_sorts ds
    → map symbol_sort (ss ++ s ∷ []) ≡ written_sorts (ds ++ d ∷ [])
one_more ss ds s d e h =
    map-append symbol_sort ss (s ∷ []) ∙ ap (λ xs. xs ++ symbol_sort s ∷ []) h
    ∙ ap (λ xs. written_sorts ds ++ xs) (sym (append-nil (written_sort d) ∙ e)) ∙ sym (sorts-append ds (d ∷ []))

none_more : (ss : List Symbol) (ds : List DeclarationTree) (d : DeclarationTree) → written_sort d ≡ []
    → map symbol_sort ss ≡ written_sorts ds → map symbol_sort ss ≡ written_sorts (ds ++ d ∷ [])
none_more ss ds d e h =
    h ∙ sym (append-nil (written_sorts ds)) ∙ ap (λ xs. written_sorts ds ++ xs) (sym (append-nil (written_sort d) ∙ e))
    ∙ sym (sorts-append ds (d ∷ []))

resource_kind : (inside : Option ℕ) (at : ℕ) (n : Name) (q : Quoted) (x : Bool) (b : tree.BodyTree)
    → written_sort (tree.a_resource (tree.resource at n q x b))
    ≡ symbol_sort (entries.symbol_at n (entries.resource_kind inside b)) ∷ []
resource_kind inside at n q x (tree.body_plain o) = refl
resource_kind inside at n q x (tree.body_if a c o) = refl
resource_kind inside at n q x (tree.body_each l o) = refl
resource_kind inside at n q x (tree.body_each_if l a c o) = refl

-- ---- both lists go over a file alike

abbrev Same : List Symbol → List DeclarationTree → Type 0
Same ss ds = map symbol_sort ss ≡ written_sorts ds

mutual
  same_resource : (inside : Option ℕ) (r : ResourceTree) (ss : List Symbol) (ds : List DeclarationTree) → Same ss ds
      → Same (entries.with_resource inside r ss) (sites.with_nested r (ds ++ tree.a_resource r ∷ []))
  same_resource inside (tree.resource at n q x b) ss ds h =
      let one = entries.symbol_at n (entries.resource_kind inside b) in
      let written = tree.a_resource (tree.resource at n q x b) in
      same_body (length ss) b (ss ++ one ∷ []) (ds ++ written ∷ [])
      (one_more ss ds one written (resource_kind inside at n q x b) h)

  same_body : (k : ℕ) (b : tree.BodyTree) (ss : List Symbol) (ds : List DeclarationTree) → Same ss ds
      → Same (entries.with_body k b ss) (sites.with_body b ds)
  same_body k (tree.body_plain o) ss ds h = same_object k o ss ds h
  same_body k (tree.body_if at c o) ss ds h = same_object k o ss ds h
  same_body k (tree.body_each l o) ss ds h = same_object k o ss ds h
  same_body k (tree.body_each_if l at c o) ss ds h = same_object k o ss ds h

  same_object : (k : ℕ) (o : ObjectTree) (ss : List Symbol) (ds : List DeclarationTree) → Same ss ds
      → Same (entries.with_object k o ss) (sites.with_object o ds)
  same_object k (tree.braces at ms) ss ds h = same_members k ms ss ds h

  same_members : (k : ℕ) (ms : MemberTrees) (ss : List Symbol) (ds : List DeclarationTree) → Same ss ds
      → Same (entries.with_members k ms ss) (sites.with_members ms ds)
  same_members k tree.no_member ss ds h = h
  same_members k (tree.and_member m ms) ss ds h =
      same_members k ms (entries.with_member k m ss) (sites.with_member m ds) (same_member k m ss ds h)

  same_member : (k : ℕ) (m : MemberTree) (ss : List Symbol) (ds : List DeclarationTree) → Same ss ds
      → Same (entries.with_member k m ss) (sites.with_member m ds)
  same_member k (tree.property l v) ss ds h = h
  same_member k (tree.child es r) ss ds h = same_resource (Some k) r ss ds h

-- ---- declarations and files

module_kind : (file : ℕ) (at : ℕ) (n : Name) (q : Quoted) (b : tree.BodyTree)
    → written_sort (tree.a_module at n q b) ≡ symbol_sort (entries.symbol_at n (entries.module_kind file b)) ∷ []
module_kind file at n q (tree.body_plain o) = refl
module_kind file at n q (tree.body_if a c o) = refl
module_kind file at n q (tree.body_each l o) = refl
module_kind file at n q (tree.body_each_if l a c o) = refl

same_declaration : (file : ℕ) (d : DeclarationTree) (ss : List Symbol) (ds : List DeclarationTree) → Same ss ds
    → Same (entries.with_declaration file d ss) (sites.with_parts d (ds ++ d ∷ []))
same_declaration file (tree.metadata at n e) ss ds h = none_more ss ds _ refl h
same_declaration file (tree.target_scope at e) ss ds h = none_more ss ds _ refl h
same_declaration file (tree.param at n t) ss ds h = one_more ss ds _ _ refl h
same_declaration file (tree.param_with at n t e) ss ds h = one_more ss ds _ _ refl h
same_declaration file (tree.var at n v) ss ds h = one_more ss ds _ _ refl h
same_declaration file (tree.output at n t v) ss ds h = none_more ss ds _ refl h
same_declaration file (tree.a_resource r) ss ds h = same_resource None r ss ds h
same_declaration file (tree.a_module at n q b) ss ds h = one_more ss ds _ _ (module_kind file at n q b) h

same_statements : (ms : List ℕ) (f : FileTree) (ss : List Symbol) (ds : List DeclarationTree) → Same ss ds
    → Same (entries.with_statements ms f ss) (sites.with_statements f ds)
same_statements ms [] ss ds h = h
same_statements ms (tree.statement es d ∷ f) ss ds h =
    same_statements (files_after_statement (tree.statement es d) ms) f (entries.with_declaration (first_file ms) d ss)
    (sites.with_parts d (ds ++ d ∷ [])) (same_declaration (first_file ms) d ss ds h)

symbols_are_written : (ms : List ℕ) (f : FileTree)
    → map symbol_sort (symbols_of ms f) ≡ written_sorts (declarations_of f)
symbols_are_written ms f = same_statements ms f [] [] refl

-- ---- declarations whose names are found

abbrev HasResource : tree.BodyTree → BodyTree → Type 0
HasResource b x = resource_sort x.each ≡ written_resource b

abbrev HasModule : tree.BodyTree → BodyTree → Type 0
HasModule b x = module_sort x.each ≡ written_module b

always : {A : Type 0} (x : Found A) → WhereFound (λ y. Unit {0}) x
always (found x) = tt
always (unknown at) = tt

body_is_resource : (sc : Scope) (b : tree.BodyTree) → WhereFound (HasResource b) (spec.body_of sc b)
body_is_resource sc (tree.body_plain o) = where-mapped _ _ _ _ (always _) (λ y h. refl)
body_is_resource sc (tree.body_if at c o) = where-mapped _ _ _ _ (always _) (λ y h. refl)
body_is_resource sc (tree.body_each l o) = where-mapped _ _ _ _ (always _) (λ y h. refl)
body_is_resource sc (tree.body_each_if l at c o) = where-mapped _ _ _ _ (always _) (λ y h. refl)

body_is_module : (sc : Scope) (b : tree.BodyTree) → WhereFound (HasModule b) (spec.body_of sc b)
body_is_module sc (tree.body_plain o) = where-mapped _ _ _ _ (always _) (λ y h. refl)
body_is_module sc (tree.body_if at c o) = where-mapped _ _ _ _ (always _) (λ y h. refl)
body_is_module sc (tree.body_each l o) = where-mapped _ _ _ _ (always _) (λ y h. refl)
body_is_module sc (tree.body_each_if l at c o) = where-mapped _ _ _ _ (always _) (λ y h. refl)

-- the declaration is of the sort that is written
abbrev IsSorted : DeclarationTree → Option DeclaredTree → Type 0
IsSorted d o = map declared_sort (option_to_list o) ≡ written_sort d

declared_is_sorted : (sc : Scope) (d : DeclarationTree) → WhereFound (IsSorted d) (declared sc d)
declared_is_sorted sc (tree.metadata at n e) = refl
declared_is_sorted sc (tree.target_scope at e) = refl
declared_is_sorted sc (tree.param at n t) = refl
declared_is_sorted sc (tree.param_with at n t e) = where-mapped _ _ _ _ (always (resolved sc e [])) (λ y h. refl)
declared_is_sorted sc (tree.var at n v) = where-mapped _ _ _ _ (always (resolved_value sc v [])) (λ y h. refl)
declared_is_sorted sc (tree.output at n t v) = refl
declared_is_sorted sc (tree.a_resource (tree.resource at n q x b)) =
    where-mapped (HasResource b) _ _ _ (body_is_resource sc b) (λ y h. ap (λ s. (n.at, s) ∷ []) h)
declared_is_sorted sc (tree.a_module at n q b) =
    where-mapped (HasModule b) _ _ _ (body_is_module sc b) (λ y h. ap (λ s. (n.at, s) ∷ []) h)

abbrev AreSorted : List DeclarationTree → List DeclaredTree → Type 0
AreSorted ds xs = map declared_sort xs ≡ written_sorts ds

part_is_sorted : (sc : Scope) (d : DeclarationTree)
    → WhereFound (λ xs. map declared_sort xs ≡ written_sort d) (part_declared sc d)
part_is_sorted sc d = where-mapped (IsSorted d) _ option_to_list (declared sc d) (declared_is_sorted sc d) (λ y h. h)

all_are_sorted : (sc : Scope) (ds : List DeclarationTree) → WhereFound (AreSorted ds) (declared_all sc ds)
unfolding all_found
all_are_sorted sc [] = refl
all_are_sorted sc (d ∷ ds) =
    where-mapped (λ p. (map declared_sort p.0 ≡ written_sort d) × AreSorted ds p.1) (AreSorted (d ∷ ds))
    (λ p. p.0 ++ p.1) (both (part_declared sc d) (declared_all sc ds))
    (where-both (λ xs. map declared_sort xs ≡ written_sort d) (AreSorted ds) (part_declared sc d)
    (declared_all sc ds) (part_is_sorted sc d) (all_are_sorted sc ds))
    (λ p h. map-append declared_sort p.0 p.1 ∙ ap (λ xs. xs ++ map declared_sort p.1) h.0
    ∙ ap (λ xs. written_sort d ++ xs) h.1)

-- the declarations of a file are of the sorts of its symbols
pub sorts_are_same : (sc : Scope) (ms : List ℕ) (f : FileTree)
    → WhereFound (λ xs. map symbol_sort (symbols_of ms f) ≡ map declared_sort xs) (declared_all sc (declarations_of f))
sorts_are_same sc ms f = by (declared_all sc (declarations_of f)) (all_are_sorted sc (declarations_of f))
  where
    by : (x : Found (List DeclaredTree)) → WhereFound (AreSorted (declarations_of f)) x
        → WhereFound (λ xs. map symbol_sort (symbols_of ms f) ≡ map declared_sort xs) x
    by (found xs) h = symbols_are_written ms f ∙ sym h
    by (unknown at) h = tt
