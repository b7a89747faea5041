-- The numbers in the declarations of a file are those of its symbols.
use Rattle.std.proofs.Common.{◌≡◌, ◌<◌, ◌≤◌, ℕ, ◌+◌, List, [], ◌∷◌, ◌++◌, length, map, Option, Some, None}
use Rattle.std.proofs.Common.{subst, arith, length-append}
use Rattle.std.proofs.lemmas.List.{length-map}
use Rattle.std.specs.Prelude.{option_to_list}
use Rattle.std.specs.List.{AllByRecursion}
use Rattle.bicep_tree.specs.declared.leaf.LoopNames.{LoopNames}
use Rattle.bicep_tree.specs.declared.leaf.Name.{Name}
use Rattle.bicep_tree.specs.Tree.{ResourceTree, ObjectTree, MemberTree, MemberTrees, DeclarationTree, FileTree}
use Rattle.bicep_tree.specs.Tree as tree
use Rattle.bicep_found.specs.Found.{found}
use Rattle.bicep_names.specs.declared.kind.Kind.TheVariants as k
use Rattle.bicep_names.specs.Scope.{Scope, OutputNames}
use Rattle.bicep_names.specs.Scope as scope
use Rattle.bicep_symbols.specs.Entries.{Symbol, symbols_of, looked_up, entry_bytes, files_after_statement, first_file}
use Rattle.bicep_symbols.specs.Entries as entries
use Rattle.bicep_circles.specs.Declarations.{BodyTree, DeclaredTree, OutputTree, DeclaredFileTree}
use Rattle.bicep_circles.specs.Declare as spec
use Rattle.bicep_circles.specs.Declare.{declared, declared_all, part_declared, output_declared, outputs_declared, part_output, declared_file}
use Rattle.bicep_circles.specs.Sites.{declarations_of}
use Rattle.bicep_program.specs.Graphs.{AreWithin}
use Rattle.bicep_circles.specs.Mentions.{mentions, property_mentions, value_mentions, body_mentions, declared_mentions}
use Rattle.bicep_circles.specs.Links.{parent_mentions, links}
use Rattle.bicep_numbers.specs.Sorts.{symbol_sort, declared_sort}
use Rattle.bicep_numbers.proofs.FoundLemmas.{WhereFound, where-mapped, where-both, where-all, where-found, all-append}
use Rattle.bicep_numbers.proofs.SortLemmas.{sorts_are_same}
use Rattle.bicep_numbers.proofs.WithinLemmas.{Within, within, within_members, within_value}

-- ---- kinds: a resource is nested in one before it

-- the resource around a symbol of that kind is one of the first n symbols
abbrev Nested : ℕ → Symbol → Type 0
Nested n s = AllByRecursion (λ m. m < n) (parent_mentions s.2)

abbrev AreNested : List Symbol → Type 0
AreNested ss = AllByRecursion (Nested (length ss)) ss

all-more : (n n2 : ℕ) (ms : List ℕ) → n ≤ n2 → AllByRecursion (λ m. m < n) ms → AllByRecursion (λ m. m < n2) ms
all-more n n2 [] h a = tt
all-more n n2 (m ∷ ms) h a = (let b = a.0 in omega (arith, h, b), all-more n n2 ms h a.1)

nested-more : (n n2 : ℕ) (ss : List Symbol) → n ≤ n2 → AllByRecursion (Nested n) ss → AllByRecursion (Nested n2) ss
nested-more n n2 [] h a = tt
nested-more n n2 (s ∷ ss) h a = (all-more n n2 (parent_mentions s.2) h a.0, nested-more n n2 ss h a.1)

longer : (ss : List Symbol) (s : Symbol) → length (ss ++ s ∷ []) ≡ length ss + 1
longer ss s = length-append ss (s ∷ [])

push-nested : (ss : List Symbol) (s : Symbol) → AreNested ss → Nested (length ss) s → AreNested (ss ++ s ∷ [])
push-nested ss s a h =
    let size = longer ss s in
    all-append _ ss (s ∷ []) (nested-more (length ss) (length (ss ++ s ∷ [])) ss (omega (arith, size)) a)
    (nested-more (length ss) (length (ss ++ s ∷ [])) (s ∷ []) (omega (arith, size)) (h, tt))

-- the number of the resource around is that of a symbol, where there is one
abbrev IsNumber : ℕ → Option ℕ → Type 0
IsNumber n None = Unit {0}
IsNumber n (Some k) = k < n

number-nested : (n : ℕ) (inside : Option ℕ) → IsNumber n inside → AllByRecursion (λ m. m < n) (option_to_list inside)
number-nested n None h = tt
number-nested n (Some k) h = (h, tt)

resource-nested : (n : ℕ) (inside : Option ℕ) (name : Name) (b : tree.BodyTree) → IsNumber n inside
    → Nested n (entries.symbol_at name (entries.resource_kind inside b))
resource-nested n inside name (tree.body_plain o) h = number-nested n inside h
resource-nested n inside name (tree.body_if at c o) h = number-nested n inside h
resource-nested n inside name (tree.body_each l o) h = number-nested n inside h
resource-nested n inside name (tree.body_each_if l at c o) h = number-nested n inside h

module-nested : (n file : ℕ) (name : Name) (b : tree.BodyTree)
    → Nested n (entries.symbol_at name (entries.module_kind file b))
module-nested n file name (tree.body_plain o) = tt
module-nested n file name (tree.body_if at c o) = tt
module-nested n file name (tree.body_each l o) = tt
module-nested n file name (tree.body_each_if l at c o) = tt

-- these symbols are nested in one another, and there are more than k
abbrev Grown : ℕ → List Symbol → Type 0
Grown k ss = AreNested ss × (k < length ss)

mutual
  grown_resource : (k : ℕ) (r : ResourceTree) (ss : List Symbol) → Grown k ss
      → Grown k (entries.with_resource (Some k) r ss)
  grown_resource k (tree.resource at n q x b) ss h =
      let one = entries.symbol_at n (entries.resource_kind (Some k) b) in
      let size = longer ss one in
      let inner = push-nested ss one h.0 (resource-nested (length ss) (Some k) n b h.1) in
      let lt = h.1 in
      let grown = grown_body (length ss) b (ss ++ one ∷ []) (inner, omega (arith, size)) in
      let most = grown.1 in (grown.0, omega (arith, lt, most))

  grown_body : (k : ℕ) (b : tree.BodyTree) (ss : List Symbol) → Grown k ss → Grown k (entries.with_body k b ss)
  grown_body k (tree.body_plain o) ss h = grown_object k o ss h
  grown_body k (tree.body_if at c o) ss h = grown_object k o ss h
  grown_body k (tree.body_each l o) ss h = grown_object k o ss h
  grown_body k (tree.body_each_if l at c o) ss h = grown_object k o ss h

  grown_object : (k : ℕ) (o : ObjectTree) (ss : List Symbol) → Grown k ss → Grown k (entries.with_object k o ss)
  grown_object k (tree.braces at ms) ss h = grown_members k ms ss h

  grown_members : (k : ℕ) (ms : MemberTrees) (ss : List Symbol) → Grown k ss
      → Grown k (entries.with_members k ms ss)
  grown_members k tree.no_member ss h = h
  grown_members k (tree.and_member m ms) ss h =
      grown_members k ms (entries.with_member k m ss) (grown_member k m ss h)

  grown_member : (k : ℕ) (m : MemberTree) (ss : List Symbol) → Grown k ss → Grown k (entries.with_member k m ss)
  grown_member k (tree.property l v) ss h = h
  grown_member k (tree.child ds r) ss h = grown_resource k r ss h

-- a resource that is nested in none
nested_first : (r : ResourceTree) (ss : List Symbol) → AreNested ss → AreNested (entries.with_resource None r ss)
nested_first (tree.resource at n q x b) ss h =
    let one = entries.symbol_at n (entries.resource_kind None b) in
    let size = longer ss one in
    (grown_body (length ss) b (ss ++ one ∷ [])
    (push-nested ss one h (resource-nested (length ss) None n b tt), omega (arith, size))).0

nested_declaration : (file : ℕ) (d : DeclarationTree) (ss : List Symbol) → AreNested ss
    → AreNested (entries.with_declaration file d ss)
nested_declaration file (tree.metadata at n e) ss h = h
nested_declaration file (tree.target_scope at e) ss h = h
nested_declaration file (tree.param at n t) ss h = push-nested ss (entries.symbol_at n k.Parameter) h tt
nested_declaration file (tree.param_with at n t e) ss h = push-nested ss (entries.symbol_at n k.Parameter) h tt
nested_declaration file (tree.var at n v) ss h = push-nested ss (entries.symbol_at n k.Variable) h tt
nested_declaration file (tree.output at n t v) ss h = h
nested_declaration file (tree.a_resource r) ss h = nested_first r ss h
nested_declaration file (tree.a_module at n q b) ss h =
    push-nested ss (entries.symbol_at n (entries.module_kind file b)) h (module-nested (length ss) file n b)

nested_statements : (ms : List ℕ) (f : FileTree) (ss : List Symbol) → AreNested ss
    → AreNested (entries.with_statements ms f ss)
nested_statements ms [] ss h = h
nested_statements ms (tree.statement es d ∷ f) ss h =
    nested_statements (files_after_statement (tree.statement es d) ms) f (entries.with_declaration (first_file ms) d ss)
    (nested_declaration (first_file ms) d ss h)

symbols_are_nested : (ms : List ℕ) (f : FileTree) → AreNested (symbols_of ms f)
symbols_are_nested ms f = nested_statements ms f [] tt

-- ---- declarations

module _ (sc : Scope) where
  abbrev DeclaredWithin : DeclaredTree → Type 0
  DeclaredWithin d = Within sc (declared_mentions d)

  abbrev BodyWithin : BodyTree → Type 0
  BodyWithin b = Within sc (body_mentions b)

  join : (xs ys : List ℕ) → Within sc xs → Within sc ys → Within sc (xs ++ ys)
  join xs ys h k = all-append _ xs ys h k

  fields_within : (o : ObjectTree) (ls : List LoopNames)
      → WhereFound (λ ps. Within sc (property_mentions ps)) (spec.fields_of sc o ls)
  fields_within (tree.braces at ms) ls = within_members sc ms ls

  body_within : (b : tree.BodyTree) → WhereFound BodyWithin (spec.body_of sc b)
  body_within (tree.body_plain o) = where-mapped _ _ _ _ (fields_within o []) (λ y h. h)
  body_within (tree.body_if at c o) =
      where-mapped _ _ _ _
      (where-both (λ x. Within sc (mentions x)) (λ ps. Within sc (property_mentions ps)) _ _ (within sc c [])
      (fields_within o []))
      (λ p h. join (mentions p.0) (property_mentions p.1) h.0 h.1)
  body_within (tree.body_each (tree.loop at ns xs) o) =
      where-mapped _ _ _ _
      (where-both (λ x. Within sc (mentions x)) (λ ps. Within sc (property_mentions ps)) _ _ (within sc xs [])
      (fields_within o (ns ∷ [])))
      (λ p h. join (mentions p.0) (property_mentions p.1) h.0 h.1)
  body_within (tree.body_each_if (tree.loop at ns xs) place c o) =
      where-mapped _ _ _ _
      (where-both (λ x. Within sc (mentions x))
      (λ q. Within sc (mentions q.0) × Within sc (property_mentions q.1)) _ _ (within sc xs [])
      (where-both (λ x. Within sc (mentions x)) (λ ps. Within sc (property_mentions ps)) _ _ (within sc c (ns ∷ []))
      (fields_within o (ns ∷ []))))
      (λ p h. join (mentions p.0) (mentions p.1.0 ++ property_mentions p.1.1) h.0
      (join (mentions p.1.0) (property_mentions p.1.1) h.1.0 h.1.1))

  abbrev SomeWithin : Option DeclaredTree → Type 0
  SomeWithin o = AllByRecursion DeclaredWithin (option_to_list o)

  declared_within : (d : DeclarationTree) → WhereFound SomeWithin (declared sc d)
  declared_within (tree.metadata at n e) = tt
  declared_within (tree.target_scope at e) = tt
  declared_within (tree.param at n t) = (tt, tt)
  declared_within (tree.param_with at n t e) = where-mapped _ _ _ _ (within sc e []) (λ y h. (h, tt))
  declared_within (tree.var at n v) = where-mapped _ _ _ _ (within_value sc v []) (λ y h. (h, tt))
  declared_within (tree.output at n t v) = tt
  declared_within (tree.a_resource (tree.resource at n q x b)) =
      where-mapped BodyWithin _ _ _ (body_within b) (λ y h. (h, tt))
  declared_within (tree.a_module at n q b) = where-mapped BodyWithin _ _ _ (body_within b) (λ y h. (h, tt))

  all_within : (ds : List DeclarationTree) → WhereFound (AllByRecursion DeclaredWithin) (declared_all sc ds)
  all_within ds = where-all DeclaredWithin (part_declared sc) ds
      (λ d. where-mapped SomeWithin _ option_to_list _ (declared_within d) (λ y h. h))

  abbrev OutputWithin : OutputTree → Type 0
  OutputWithin o = Within sc (value_mentions o.value)

  abbrev SomeOutputWithin : Option OutputTree → Type 0
  SomeOutputWithin o = AllByRecursion OutputWithin (option_to_list o)

  output_within : (d : DeclarationTree) → WhereFound SomeOutputWithin (output_declared sc d)
  output_within (tree.metadata at n e) = tt
  output_within (tree.target_scope at e) = tt
  output_within (tree.param at n t) = tt
  output_within (tree.param_with at n t e) = tt
  output_within (tree.var at n v) = tt
  output_within (tree.output at n t v) = where-mapped _ _ _ _ (within_value sc v []) (λ y h. (h, tt))
  output_within (tree.a_resource r) = tt
  output_within (tree.a_module at n q b) = tt

  outputs_within : (ds : List DeclarationTree) → WhereFound (AllByRecursion OutputWithin) (outputs_declared sc ds)
  outputs_within ds = where-all OutputWithin (part_output sc) ds
      (λ d. where-mapped SomeOutputWithin _ option_to_list _ (output_within d) (λ y h. h))

-- ---- files

-- what is found of the declarations of a file, and of its outputs
parts : (P : List DeclaredTree → Type 0) (Q : List OutputTree → Type 0) (sc : Scope) (f : FileTree)
    (t : DeclaredFileTree) → WhereFound P (declared_all sc (declarations_of f))
    → WhereFound Q (outputs_declared sc (declarations_of f)) → declared_file sc f ≡ found t
    → P t.declarations × Q t.outputs
unfolding declared_file
parts P Q sc f t h k e =
    where-found (λ x. P x.declarations × Q x.outputs) _ t
    (where-mapped _ _ spec.file _ (where-both P Q _ _ h k) (λ p g. g)) e

links_within : (n : ℕ) (ss : List Symbol) (ds : List DeclaredTree) → AllByRecursion (Nested n) ss
    → AllByRecursion (λ d. AllByRecursion (λ m. m < n) (declared_mentions d)) ds
    → AreWithin n (links (map (λ s. s.2) ss) ds)
links_within n [] ds h k = tt
links_within n (s ∷ ss) [] h k = tt
links_within n (s ∷ ss) (d ∷ ds) h k =
    (all-append _ (declared_mentions d) (parent_mentions s.2) k.0 h.0, links_within n ss ds h.1 k.1)

pub file_sorts : (ms : List ℕ) (f : FileTree) (sc : Scope) (t : DeclaredFileTree) → declared_file sc f ≡ found t
    → map symbol_sort (symbols_of ms f) ≡ map declared_sort t.declarations
file_sorts ms f sc t e =
    (parts (λ xs. map symbol_sort (symbols_of ms f) ≡ map declared_sort xs) (AllByRecursion (OutputWithin sc))
    sc f t (sorts_are_same sc ms f) (outputs_within sc (declarations_of f)) e).0

abbrev file_scope : List ℕ → FileTree → List OutputNames → Scope
file_scope ms f os = scope.scope (looked_up (symbols_of ms f)) os

count_is : (ms : List ℕ) (f : FileTree) (os : List OutputNames)
    → length (file_scope ms f os).symbols ≡ length (symbols_of ms f)
count_is ms f os = length-map (symbols_of ms f) entry_bytes

pub file_within : (ms : List ℕ) (f : FileTree) (os : List OutputNames) (t : DeclaredFileTree)
    → declared_file (scope.scope (looked_up (symbols_of ms f)) os) f ≡ found t
    → AreWithin (length (symbols_of ms f)) (links (map (λ s. s.2) (symbols_of ms f)) t.declarations)
    × AllByRecursion (λ o. AllByRecursion (λ m. m < length (symbols_of ms f)) (value_mentions o.value)) t.outputs
file_within ms f os t e =
    let sc = file_scope ms f os in
    let n = length (symbols_of ms f) in
    let here = parts (AllByRecursion (DeclaredWithin sc)) (AllByRecursion (OutputWithin sc)) sc f t
    (all_within sc (declarations_of f)) (outputs_within sc (declarations_of f)) e in
    let same = count_is ms f os in
    let declarations =
    subst (λ c. AllByRecursion (λ d. AllByRecursion (λ m. m < c) (declared_mentions d)) t.declarations) same
    here.0 in
    let outputs = subst (λ c. AllByRecursion (λ o. AllByRecursion (λ m. m < c) (value_mentions o.value)) t.outputs)
    same here.1 in
    (links_within n (symbols_of ms f) t.declarations (symbols_are_nested ms f) declarations, outputs)
