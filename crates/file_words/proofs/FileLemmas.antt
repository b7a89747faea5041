-- The declarations of files that are read have names of template expressions, and texts with few holes.
use Rattle.std.proofs.Common.{◌≡◌, ℕ, Bool, true, false, List, [], ◌∷◌, ◌++◌, map, Option, Some, None}
use Rattle.std.proofs.Common.{refl}
use Rattle.std.proofs.Common.{sym, ap, ◌∙◌, subst, arith, codes}
use Rattle.std.proofs.lemmas.List.{length-map}
use Rattle.std.proofs.lemmas.Option.{none-some, same_Some}
use Rattle.std.specs.Prelude.{bytes_eq, slice_get, option_and_then, option_to_list, if◌then◌else◌}
use Rattle.std.specs.List.{AllByRecursion}
use Rattle.arm_expr.specs.Grammar.{IsName}
use Rattle.bicep_tree.specs.declared.leaf.LoopNames.{LoopNames}
use Rattle.bicep_tree.specs.Terminals.{placed}
use Rattle.bicep_tree.specs.Tree.{ResourceTree, BodyTree, ObjectTree, MemberTree, MemberTrees, DeclarationTree}
use Rattle.bicep_tree.specs.Tree.{FileTree}
use Rattle.bicep_tree.specs.Tree as tree
use Rattle.bicep_found.specs.Found.{Found, found, mapped, both, all_found}
use Rattle.bicep_resolved.specs.Source.{SourceTree, PropertyTrees, ValueTree, LoopTree}
use Rattle.bicep_resolved.specs.Source as s
use Rattle.bicep_names.specs.Scope.{Scope}
use Rattle.bicep_names.specs.Resolve.{resolved, resolved_value}
use Rattle.bicep_symbols.specs.Outputs.{Named, outputs_of}
use Rattle.bicep_declared.specs.Declarations.{DeclaredTree, OutputTree, DeclaredFileTree}
use Rattle.bicep_declared.specs.Declarations as d
use Rattle.bicep_declared.specs.Declare.{fields_of, body_of, plain_body, body_if, body_each, body_each_if}
use Rattle.bicep_declared.specs.Declare.{loop_at, loop_over, loop_names, object_at, declared}
use Rattle.bicep_declared.specs.Declare.{declared_all, output_declared, outputs_declared, declared_file}
use Rattle.bicep_declared.specs.Declare.{some_parameter, some_variable, some_resource, some_module, some_output, file}
use Rattle.bicep_declared.specs.Sites.{with_nested, with_body, with_object, with_members, with_member, with_parts}
use Rattle.bicep_declared.specs.Sites.{with_statements, declarations_of}
use Rattle.bicep_program.specs.Sources.{Folder, IsReadAs}
use Rattle.bicep_program.specs.Program.{ProgramFile}
use Rattle.bicep_program.proofs.LoadLemmas.{at_place}
use Rattle.resolved_program.specs.Programs.{ResolvedFileTree, file_symbols, output_text, output_texts, scope_in}
use Rattle.resolved_program.specs.Programs.{with_names, resolved_file, IsResolved}
use Rattle.resolved_program.proofs.FirstLemmas.{both_at}
use Rattle.bicep_numbers.proofs.FoundLemmas.{WhereFound, where-mapped, where-both, where-found, all-append}
use Rattle.bicep_meaning.specs.Declared.{body_at}
use Rattle.bicep_meaning.specs.Declared as meaning
use Rattle.bicep_meaning.specs.Files as files
use Rattle.bicep_meaning.specs.Files.{SourceFile, declaration, parent, around_kind}
use Rattle.bicep_resolved.specs.Source.{field_named}
use Rattle.emitted_names.specs.Words.{HasWords, FileHasWords, OutputsAreNames}
use Rattle.sound_values.proofs.FoundLemmas.{of_mapped}
use Rattle.sound_files.specs.Few.{LoopHasFew, ConditionHasFew, BodyHasFew, DeclaredHasFew, FileHasFew}
use Rattle.sound_values.specs.FewHoles.{ValueHasFew}
use Rattle.sound_files.specs.Files.{IsFileOf}
use Rattle.sound_files.proofs.SoundLemmas.{by_around}
use Rattle.tree_names.specs.Words.{ValueHasAllWords, LoopHasWords, ConditionHasWords, BodyHasWords, DeclaredHasWords}
use Rattle.tree_names.specs.Words.{FileHasAllWords}
use Rattle.emitted_numbers.specs.Wholes.{HasWholes, ValueHasWholes, FileHasWholes, LoopHasWholes, ConditionHasWholes}
use Rattle.emitted_numbers.specs.Wholes.{BodyHasWholes, DeclaredHasWholes, FileHasAllWholes}
use Rattle.file_words.specs.Words.{IsShort, ObjectIsWorded, MembersAreWorded, MemberIsWorded, LoopIsWorded}
use Rattle.file_words.specs.Words.{ResourceIsWorded}
use Rattle.file_words.specs.Words.{BodyIsWorded, IsDeclaredWorded, FileIsWorded}
use Rattle.file_words.proofs.TokenLemmas.{tokens_fine, count_of_tokens}
use Rattle.file_words.proofs.ReadLemmas.{read_file}
use Rattle.file_words.proofs.SymbolLemmas.{HaveNames, symbols_named, name_at}
use Rattle.file_words.proofs.WordLemmas.{Good, GoodValue, AreGood, members_few, members_all, members_wholes, worded}
use Rattle.file_words.proofs.WordLemmas.{worded_members, worded_value}

-- ---- files that are read

pub file_worded : (folder : Folder) (name : List ℕ) (f : FileTree) → IsReadAs folder name f → FileIsWorded f
file_worded folder name f h =
    let small = h.small in
    let count = count_of_tokens h.bytes h.source.tokens h.source.lexed in
    let same = length-map h.source.tokens placed in
    read_file f (map placed h.source.tokens) [] h.source.parsed
    (tokens_fine h.bytes h.source.tokens h.source.lexed h.small) (omega (arith, small, count, same))

-- ---- the declarations of a file, with nested resources

abbrev AreWritten : List DeclarationTree → Type 0
AreWritten ts = AllByRecursion IsDeclaredWorded ts

one_more : (ts : List DeclarationTree) (t : DeclarationTree) → AreWritten ts → IsDeclaredWorded t
    → AreWritten (ts ++ t ∷ [])
one_more ts t h g = all-append IsDeclaredWorded ts (t ∷ []) h (g, tt)

mutual
  nested : (r : ResourceTree) (ts : List DeclarationTree) → ResourceIsWorded r → AreWritten ts
      → AreWritten (with_nested r ts)
  nested (tree.resource at n q x b) ts g h = in_body b ts g.1.1 h

  in_body : (b : BodyTree) (ts : List DeclarationTree) → BodyIsWorded b → AreWritten ts → AreWritten (with_body b ts)
  in_body (tree.body_plain o) ts g h = in_object o ts g h
  in_body (tree.body_if at c o) ts g h = in_object o ts g.1 h
  in_body (tree.body_each l o) ts g h = in_object o ts g.1 h
  in_body (tree.body_each_if l at c o) ts g h = in_object o ts g.1.1 h

  in_object : (o : ObjectTree) (ts : List DeclarationTree) → ObjectIsWorded o → AreWritten ts
      → AreWritten (with_object o ts)
  in_object (tree.braces at ms) ts g h = in_members ms ts g h

  in_members : (ms : MemberTrees) (ts : List DeclarationTree) → MembersAreWorded ms → AreWritten ts
      → AreWritten (with_members ms ts)
  in_members tree.no_member ts g h = h
  in_members (tree.and_member m ms) ts g h = in_members ms (with_member m ts) g.1 (in_member m ts g.0 h)

  in_member : (m : MemberTree) (ts : List DeclarationTree) → MemberIsWorded m → AreWritten ts
      → AreWritten (with_member m ts)
  in_member (tree.property l v) ts g h = h
  in_member (tree.child es q) ts g h =
      nested q (ts ++ tree.a_resource q ∷ []) g (one_more ts (tree.a_resource q) h g)

in_declaration : (t : DeclarationTree) (ts : List DeclarationTree) → IsDeclaredWorded t → AreWritten ts
    → AreWritten (with_parts t (ts ++ t ∷ []))
in_declaration (tree.metadata at n e) ts g h = one_more ts (tree.metadata at n e) h tt
in_declaration (tree.target_scope at e) ts g h = one_more ts (tree.target_scope at e) h tt
in_declaration (tree.param at n t) ts g h = one_more ts (tree.param at n t) h g
in_declaration (tree.param_with at n t e) ts g h = one_more ts (tree.param_with at n t e) h g
in_declaration (tree.var at n v) ts g h = one_more ts (tree.var at n v) h g
in_declaration (tree.output at n t v) ts g h = one_more ts (tree.output at n t v) h g
in_declaration (tree.a_resource q) ts g h =
    nested q (ts ++ tree.a_resource q ∷ []) g (one_more ts (tree.a_resource q) h g)
in_declaration (tree.a_module at n q b) ts g h = one_more ts (tree.a_module at n q b) h g

in_statements : (f : FileTree) (ts : List DeclarationTree) → FileIsWorded f → AreWritten ts
    → AreWritten (with_statements f ts)
in_statements [] ts g h = h
in_statements (tree.statement es t ∷ f) ts g h =
    in_statements f (with_parts t (ts ++ t ∷ [])) g.1 (in_declaration t ts g.0 h)

-- ---- bodies

abbrev GoodLoop : Option LoopTree → Type 0
GoodLoop None = Unit {0}
GoodLoop (Some (s.loop at xs)) = Good xs

abbrev GoodCondition : Option SourceTree → Type 0
GoodCondition None = Unit {0}
GoodCondition (Some c) = Good c

pub record GoodBody (b : d.BodyTree) : Type 0 where
  each : GoodLoop b.each
  condition : GoodCondition b.condition
  fields : AreGood b.fields

abbrev pub IsGood : DeclaredTree → Type 0
IsGood (d.parameter at t) = Unit {0}
IsGood (d.parameter_with at t e) = Good e
IsGood (d.variable at v) = GoodValue v
IsGood (d.a_resource at q existing b) = IsShort q.text × GoodBody b
IsGood (d.a_module at b) = GoodBody b

module _ (sc : Scope) where
  fields_good : (o : ObjectTree) (ls : List LoopNames) → ObjectIsWorded o → WhereFound AreGood (fields_of sc o ls)
  fields_good (tree.braces at ms) ls h = worded_members sc ms ls h

  over_good : (l : tree.LoopTree) → LoopIsWorded l → WhereFound Good (resolved sc (loop_over l) [])
  over_good (tree.loop at ns xs) h = worded sc xs [] h

  body_good : (b : BodyTree) → BodyIsWorded b → WhereFound GoodBody (body_of sc b)
  body_good (tree.body_plain o) h =
      where-mapped AreGood GoodBody (plain_body (object_at o)) (fields_of sc o []) (fields_good o [] h)
      (λ y g. record { each = tt; condition = tt; fields = g })
  body_good (tree.body_if at c o) h =
      where-mapped (λ p. Good p.0 × AreGood p.1) GoodBody (body_if (object_at o))
      (both (resolved sc c []) (fields_of sc o []))
      (where-both Good AreGood (resolved sc c []) (fields_of sc o []) (worded sc c [] h.0) (fields_good o [] h.1))
      (λ p g. record { each = tt; condition = g.0; fields = g.1 })
  body_good (tree.body_each l o) h =
      where-mapped (λ p. Good p.0 × AreGood p.1) GoodBody (body_each (loop_at l) (object_at o))
      (both (resolved sc (loop_over l) []) (fields_of sc o (loop_names l ∷ [])))
      (where-both Good AreGood (resolved sc (loop_over l) []) (fields_of sc o (loop_names l ∷ [])) (over_good l h.0)
      (fields_good o (loop_names l ∷ []) h.1))
      (λ p g. record { each = g.0; condition = tt; fields = g.1 })
  body_good (tree.body_each_if l at c o) h =
      let ls = loop_names l ∷ [] in
      where-mapped (λ p. Good p.0 × (Good p.1.0 × AreGood p.1.1)) GoodBody (body_each_if (loop_at l) (object_at o))
      (both (resolved sc (loop_over l) []) (both (resolved sc c ls) (fields_of sc o ls)))
      (where-both Good (λ q. Good q.0 × AreGood q.1) (resolved sc (loop_over l) [])
      (both (resolved sc c ls) (fields_of sc o ls)) (over_good l h.0)
      (where-both Good AreGood (resolved sc c ls) (fields_of sc o ls) (worded sc c ls h.1.0) (fields_good o ls h.1.1)))
      (λ p g. record { each = g.0; condition = g.1.0; fields = g.1.1 })

  -- ---- declarations and outputs

  abbrev SomeIsGood : Option DeclaredTree → Type 0
  SomeIsGood o = AllByRecursion IsGood (option_to_list o)

  declared_good : (t : DeclarationTree) → IsDeclaredWorded t → WhereFound SomeIsGood (declared sc t)
  declared_good (tree.metadata at n e) h = tt
  declared_good (tree.target_scope at e) h = tt
  declared_good (tree.param at n t) h = (tt, tt)
  declared_good (tree.param_with at n t e) h =
      where-mapped Good SomeIsGood (some_parameter n.at t) (resolved sc e []) (worded sc e [] h.1) (λ y g. (g, tt))
  declared_good (tree.var at n v) h =
      where-mapped GoodValue SomeIsGood (some_variable n.at) (resolved_value sc v []) (worded_value sc v [] h.1)
      (λ y g. (g, tt))
  declared_good (tree.output at n t v) h = tt
  declared_good (tree.a_resource (tree.resource at n q x b)) h =
      where-mapped GoodBody SomeIsGood (some_resource n.at q x) (body_of sc b) (body_good b h.1.1)
      (λ y g. ((h.1.0, g), tt))
  declared_good (tree.a_module at n q b) h =
      where-mapped GoodBody SomeIsGood (some_module n.at) (body_of sc b) (body_good b h.1) (λ y g. (g, tt))

  abbrev OutputIsGood : OutputTree → Type 0
  OutputIsGood o = GoodValue o.value

  abbrev SomeOutputIsGood : Option OutputTree → Type 0
  SomeOutputIsGood o = AllByRecursion OutputIsGood (option_to_list o)

  output_good : (t : DeclarationTree) → IsDeclaredWorded t → WhereFound SomeOutputIsGood (output_declared sc t)
  output_good (tree.metadata at n e) h = tt
  output_good (tree.target_scope at e) h = tt
  output_good (tree.param at n t) h = tt
  output_good (tree.param_with at n t e) h = tt
  output_good (tree.var at n v) h = tt
  output_good (tree.output at n t v) h =
      where-mapped GoodValue SomeOutputIsGood (some_output n.at t) (resolved_value sc v []) (worded_value sc v [] h.1)
      (λ y g. (g, tt))
  output_good (tree.a_resource q) h = tt
  output_good (tree.a_module at n q b) h = tt

module _ {B : Type 0} (P : B → Type 0) (g : DeclarationTree → Found (Option B))
    (each : (t : DeclarationTree) → IsDeclaredWorded t
    → WhereFound (λ o. AllByRecursion P (option_to_list o)) (g t)) where
  abbrev Part : DeclarationTree → Found (List B)
  Part t = mapped option_to_list (g t)

  all_good : (ts : List DeclarationTree) → AreWritten ts → WhereFound (AllByRecursion P) (all_found (map Part ts))
  unfolding all_found
  all_good [] h = tt
  all_good (t ∷ ts) h =
      where-mapped (λ p. AllByRecursion P p.0 × AllByRecursion P p.1) (AllByRecursion P) (λ p. p.0 ++ p.1)
      (both (Part t) (all_found (map Part ts)))
      (where-both (AllByRecursion P) (AllByRecursion P) (Part t) (all_found (map Part ts))
      (where-mapped (λ o. AllByRecursion P (option_to_list o)) (AllByRecursion P) option_to_list (g t) (each t h.0)
      (λ y k. k)) (all_good ts h.1))
      (λ p k. all-append P p.0 p.1 k.0 k.1)

pub record FileIsGood (x : DeclaredFileTree) : Type 0 where
  pub declarations : AllByRecursion IsGood x.declarations
  pub outputs : AllByRecursion (λ o. GoodValue o.value) x.outputs

file_good : (sc : Scope) (f : FileTree) → FileIsWorded f → WhereFound FileIsGood (declared_file sc f)
unfolding declared_file
file_good sc f h =
    let ts = declarations_of f in
    let w = in_statements f [] h tt in
    where-mapped (λ p. AllByRecursion IsGood p.0 × AllByRecursion (λ o. GoodValue o.value) p.1) FileIsGood file
    (both (declared_all sc ts) (outputs_declared sc ts))
    (where-both (AllByRecursion IsGood) (AllByRecursion (λ o. GoodValue o.value)) (declared_all sc ts)
    (outputs_declared sc ts) (all_good IsGood (declared sc) (declared_good sc) ts w)
    (all_good (λ o. GoodValue o.value) (output_declared sc) (output_good sc) ts w))
    (λ p g. record { declarations = g.0; outputs = g.1 })

-- ---- few holes

loop_few : (o : Option LoopTree) → GoodLoop o → LoopHasFew o
loop_few None h = tt
loop_few (Some (s.loop at xs)) h = h.few

condition_few : (o : Option SourceTree) → GoodCondition o → ConditionHasFew o
condition_few None h = tt
condition_few (Some c) h = h.few

body_few : (b : d.BodyTree) → GoodBody b → BodyHasFew b
body_few b h = (loop_few b.each h.each, (condition_few b.condition h.condition, members_few b.fields h.fields))

declared_few : (x : DeclaredTree) → IsGood x → DeclaredHasFew x
declared_few (d.parameter at t) h = tt
declared_few (d.parameter_with at t e) h = h.few
declared_few (d.variable at v) h = h.few
declared_few (d.a_resource at q existing b) h = body_few b h.1
declared_few (d.a_module at b) h = body_few b h

all_few : (xs : List DeclaredTree) → AllByRecursion IsGood xs → AllByRecursion DeclaredHasFew xs
all_few [] h = tt
all_few (x ∷ xs) h = (declared_few x h.0, all_few xs h.1)

outputs_few : (os : List OutputTree) → AllByRecursion (λ o. GoodValue o.value) os
    → AllByRecursion (λ o. ValueHasFew o.value) os
outputs_few [] h = tt
outputs_few (o ∷ os) h = (h.0.few, outputs_few os h.1)

file_few : (x : DeclaredFileTree) → FileIsGood x → FileHasFew x
file_few x h = record {
  declarations = all_few x.declarations h.declarations;
  outputs = outputs_few x.outputs h.outputs;
}

-- ---- names, also inside for-expressions

loop_has : (o : Option LoopTree) → GoodLoop o → LoopHasWords o
loop_has None h = tt
loop_has (Some (s.loop at xs)) h = h.words

condition_has : (o : Option SourceTree) → GoodCondition o → ConditionHasWords o
condition_has None h = tt
condition_has (Some c) h = h.words

body_has : (b : d.BodyTree) → GoodBody b → BodyHasWords b
body_has b h = (loop_has b.each h.each, (condition_has b.condition h.condition, members_all b.fields h.fields))

declared_has : (x : DeclaredTree) → IsGood x → DeclaredHasWords x
declared_has (d.parameter at t) h = tt
declared_has (d.parameter_with at t e) h = h.all
declared_has (d.variable at v) h = h.all
declared_has (d.a_resource at q existing b) h = body_has b h.1
declared_has (d.a_module at b) h = body_has b h

all_have : (xs : List DeclaredTree) → AllByRecursion IsGood xs → AllByRecursion DeclaredHasWords xs
all_have [] h = tt
all_have (x ∷ xs) h = (declared_has x h.0, all_have xs h.1)

outputs_have : (os : List OutputTree) → AllByRecursion (λ o. GoodValue o.value) os
    → AllByRecursion (λ o. ValueHasAllWords o.value) os
outputs_have [] h = tt
outputs_have (o ∷ os) h = (h.0.all, outputs_have os h.1)

file_has_all : (x : DeclaredFileTree) → FileIsGood x → FileHasAllWords x
file_has_all x h = record {
  declarations = all_have x.declarations h.declarations;
  outputs = outputs_have x.outputs h.outputs;
}

-- ---- numbers

loop_whole : (o : Option LoopTree) → GoodLoop o → LoopHasWholes o
loop_whole None h = tt
loop_whole (Some (s.loop at xs)) h = h.wholes

condition_whole : (o : Option SourceTree) → GoodCondition o → ConditionHasWholes o
condition_whole None h = tt
condition_whole (Some c) h = h.wholes

body_whole : (b : d.BodyTree) → GoodBody b → BodyHasWholes b
body_whole b h =
    (loop_whole b.each h.each, (condition_whole b.condition h.condition, members_wholes b.fields h.fields))

declared_whole : (x : DeclaredTree) → IsGood x → DeclaredHasWholes x
declared_whole (d.parameter at t) h = tt
declared_whole (d.parameter_with at t e) h = h.wholes
declared_whole (d.variable at v) h = h.wholes
declared_whole (d.a_resource at q existing b) h = body_whole b h.1
declared_whole (d.a_module at b) h = body_whole b h

all_whole : (xs : List DeclaredTree) → AllByRecursion IsGood xs → AllByRecursion DeclaredHasWholes xs
all_whole [] h = tt
all_whole (x ∷ xs) h = (declared_whole x h.0, all_whole xs h.1)

outputs_whole : (os : List OutputTree) → AllByRecursion (λ o. GoodValue o.value) os
    → AllByRecursion (λ o. ValueHasWholes o.value) os
outputs_whole [] h = tt
outputs_whole (o ∷ os) h = (h.0.wholes, outputs_whole os h.1)

file_has_all_wholes : (x : DeclaredFileTree) → FileIsGood x → FileHasAllWholes x
file_has_all_wholes x h = record {
  declarations = all_whole x.declarations h.declarations;
  outputs = outputs_whole x.outputs h.outputs;
}

-- ---- names that expressions use

good_by : (name : List ℕ) (y v : ValueTree) (ps : PropertyTrees) (b : Bool) → GoodValue y
    → (field_named name ps ≡ Some v → GoodValue v) → (if b then Some y else field_named name ps) ≡ Some v → GoodValue v
good_by name y v ps true h rest e = subst GoodValue (same_Some y v e) h
good_by name y v ps false h rest e = rest e

good_named : (name : List ℕ) (ps : PropertyTrees) (v : ValueTree) → AreGood ps → field_named name ps ≡ Some v
    → GoodValue v
good_named name s.no_property v h e = absurd (none-some v e)
good_named name (s.property at x y ps) v h e =
    good_by name y v ps (bytes_eq x name) h.0 (good_named name ps v h.1) e

body_is_good : (o : Option DeclaredTree) (b : d.BodyTree) → option_and_then meaning.body_of o ≡ Some b
    → ((x : DeclaredTree) → o ≡ Some x → IsGood x) → GoodBody b
body_is_good None b e h = absurd (none-some b e)
body_is_good (Some (d.parameter at t)) b e h = absurd (none-some b e)
body_is_good (Some (d.parameter_with at t x)) b e h = absurd (none-some b e)
body_is_good (Some (d.variable at v)) b e h = absurd (none-some b e)
body_is_good (Some (d.a_resource at q existing y)) b e h =
    subst GoodBody (same_Some y b e) (h (d.a_resource at q existing y) refl).1
body_is_good (Some (d.a_module at y)) b e h = subst GoodBody (same_Some y b e) (h (d.a_module at y) refl)

module _ (f : SourceFile) (h : FileIsGood f.declared) where
  pub at_number : (n : ℕ) (x : DeclaredTree) → declaration f n ≡ Some x → IsGood x
  at_number n x e = at_place IsGood f.declared.declarations n x e h.declarations

  body_at_number : (n : ℕ) (b : d.BodyTree) → body_at f n ≡ Some b → GoodBody b
  body_at_number n b e = body_is_good (declaration f n) b e (at_number n)

  loop_words : (o : Option LoopTree) (at : ℕ) (xs : SourceTree) → o ≡ Some (s.loop at xs) → GoodLoop o → HasWords xs
  loop_words o at xs e g = let own : GoodLoop (Some (s.loop at xs)) = subst GoodLoop e g in own.words

  condition_words : (o : Option SourceTree) (c : SourceTree) → o ≡ Some c → GoodCondition o → HasWords c
  condition_words o c e g = let own : GoodCondition (Some c) = subst GoodCondition e g in own.words

  file_has_words : FileHasWords f
  file_has_words = record {
    variables = λ n at v e without. (at_number n (d.variable at v) e).words;
    names = λ n b v e g. (good_named (codes "name") b.fields v (body_at_number n b e).fields g).words;
    loops = λ n at b xs e g. loop_words b.each at xs g (body_at_number n b e).each;
    conditions = λ n b c e g. condition_words b.condition c g (body_at_number n b e).condition;
    parents = λ n r e.
        let a = by_around (option_and_then around_kind (files.symbol_kind f n)) (declaration f n) r e in
        let b = body_at_number n a.has.body (ap (option_and_then meaning.body_of) a.has.is) in
        let field = good_named (codes "parent") a.has.body.fields (s.plain (s.instance r)) b.fields a.has.field in
        (field.reach r refl).0;
  }

  loop_wholes : (o : Option LoopTree) (at : ℕ) (xs : SourceTree) → o ≡ Some (s.loop at xs) → GoodLoop o → HasWholes xs
  loop_wholes o at xs e g = let own : GoodLoop (Some (s.loop at xs)) = subst GoodLoop e g in own.wholes

  condition_wholes : (o : Option SourceTree) (c : SourceTree) → o ≡ Some c → GoodCondition o → HasWholes c
  condition_wholes o c e g = let own : GoodCondition (Some c) = subst GoodCondition e g in own.wholes

  file_has_wholes : FileHasWholes f
  file_has_wholes = record {
    variables = λ n at v e. (at_number n (d.variable at v) e).wholes;
    names = λ n b v e g. (good_named (codes "name") b.fields v (body_at_number n b e).fields g).wholes;
    loops = λ n at b xs e g. loop_wholes b.each at xs g (body_at_number n b e).each;
    conditions = λ n b c e g. condition_wholes b.condition c g (body_at_number n b e).condition;
    parents = λ n r e.
        let a = by_around (option_and_then around_kind (files.symbol_kind f n)) (declaration f n) r e in
        let b = body_at_number n a.has.body (ap (option_and_then meaning.body_of) a.has.is) in
        let field = good_named (codes "parent") a.has.body.fields (s.plain (s.instance r)) b.fields a.has.field in
        (field.reach r refl).1;
  }

-- the names of outputs
written_outputs : (f : FileTree) → FileIsWorded f → AllByRecursion (λ (x : Named). IsName x.1) (outputs_of f)
written_outputs [] h = tt
written_outputs (tree.statement ds (tree.metadata at n e) ∷ f) h = written_outputs f h.1
written_outputs (tree.statement ds (tree.target_scope at e) ∷ f) h = written_outputs f h.1
written_outputs (tree.statement ds (tree.param at n t) ∷ f) h = written_outputs f h.1
written_outputs (tree.statement ds (tree.param_with at n t e) ∷ f) h = written_outputs f h.1
written_outputs (tree.statement ds (tree.var at n v) ∷ f) h = written_outputs f h.1
written_outputs (tree.statement ds (tree.output at n t v) ∷ f) h = (h.0.0, written_outputs f h.1)
written_outputs (tree.statement ds (tree.a_resource r) ∷ f) h = written_outputs f h.1
written_outputs (tree.statement ds (tree.a_module at n q b) ∷ f) h = written_outputs f h.1

texts_named : (xs : List Named) → AllByRecursion (λ (x : Named). IsName x.1) xs
    → AllByRecursion (λ (x : List ℕ). IsName x) (map output_text xs)
texts_named [] h = tt
texts_named (x ∷ xs) h = (h.0, texts_named xs h.1)

-- ---- programs

module _ (folder : Folder) (ps : List ProgramFile) (read : AllByRecursion (λ p. IsReadAs folder p.name p.tree) ps)
    (rs : List ResolvedFileTree) (res : IsResolved ps rs) (k : ℕ) (r : ResolvedFileTree)
    (is : slice_get rs k ≡ Some r) where
  source : (p : ProgramFile) × (slice_get ps k ≡ Some p) × (found r ≡ resolved_file ps p)
  source = both_at (λ x. found x) (resolved_file ps) rs ps (sym res) k r is

  source_worded : FileIsWorded source.0.tree
  source_worded =
      file_worded folder source.0.name source.0.tree
      (at_place (λ p. IsReadAs folder p.name p.tree) ps k source.0 source.1 read)

  pub resolved_good : FileIsGood r.declared
  resolved_good =
      let g = of_mapped (with_names (file_symbols source.0) (output_texts source.0))
      (declared_file (scope_in ps source.0) source.0.tree) r (sym source.2) in
      where-found FileIsGood (declared_file (scope_in ps source.0) source.0.tree) r.declared
      (file_good (scope_in ps source.0) source.0.tree source_worded)
      (g.is ∙ ap (λ (x : ResolvedFileTree). found x.declared) g.made)

  pub few_holes : FileHasFew r.declared
  few_holes = file_few r.declared resolved_good

  pub words_of_values : FileHasAllWords r.declared
  words_of_values = file_has_all r.declared resolved_good

  pub wholes_of_values : FileHasAllWholes r.declared
  wholes_of_values = file_has_all_wholes r.declared resolved_good

  pub wholes_of_file : (f : SourceFile) → IsFileOf r f → FileHasWholes f
  wholes_of_file f own = file_has_wholes f (subst FileIsGood (sym own.declared) resolved_good)

  pub words_of_file : (f : SourceFile) → IsFileOf r f → FileHasWords f
  words_of_file f own = file_has_words f (subst FileIsGood (sym own.declared) resolved_good)

  output_names : AllByRecursion (λ (x : List ℕ). IsName x) r.outputs
  output_names =
      let g = of_mapped (with_names (file_symbols source.0) (output_texts source.0))
      (declared_file (scope_in ps source.0) source.0.tree) r (sym source.2) in
      subst (AllByRecursion (λ (x : List ℕ). IsName x)) (ap (λ (x : ResolvedFileTree). x.outputs) g.made)
      (texts_named (outputs_of source.0.tree) (written_outputs source.0.tree source_worded))

  symbol_names : HaveNames r.symbols
  symbol_names =
      let g = of_mapped (with_names (file_symbols source.0) (output_texts source.0))
      (declared_file (scope_in ps source.0) source.0.tree) r (sym source.2) in
      subst HaveNames (ap (λ (x : ResolvedFileTree). x.symbols) g.made)
      (symbols_named source.0.modules source.0.tree source_worded)

  pub symbols_are_names : (f : SourceFile) → IsFileOf r f → (n : ℕ) (x : List ℕ) → files.symbol_name f n ≡ Some x
      → IsName x
  symbols_are_names f own n x e = name_at f.symbols n x (subst HaveNames (sym own.symbols) symbol_names) e

-- files with the outputs of the resolved ones
pub outputs_are_names : (folder : Folder) (ps : List ProgramFile)
    → AllByRecursion (λ p. IsReadAs folder p.name p.tree) ps → (rs : List ResolvedFileTree) → IsResolved ps rs
    → (fs : List SourceFile) → map (λ f. f.outputs) fs ≡ map (λ r. r.outputs) rs → OutputsAreNames fs
outputs_are_names folder ps read rs res fs same i k f x is e =
    let r = both_at (λ f. f.outputs) (λ r. r.outputs) fs rs same i f is in
    at_place (λ (y : List ℕ). IsName y) f.outputs k x e
    (subst (AllByRecursion (λ (y : List ℕ). IsName y)) (sym r.2) (output_names folder ps read rs res i r.0 r.1))
