-- The declarations of a file in which nothing is misplaced and no name is given twice, with nested resources.
use Rattle.std.proofs.Common.{◌≡◌, ℕ, List, [], ◌∷◌, ◌++◌, Option, None}
use Rattle.std.specs.List.{AllByRecursion}
use Rattle.foundation.specs.Options.{or_else}
use Rattle.bicep_tree.specs.Offset.{resource_offset}
use Rattle.bicep_tree.specs.Tree.{ResourceTree, BodyTree, ObjectTree, MemberTree, MemberTrees, DeclarationTree}
use Rattle.bicep_tree.specs.Tree.{FileTree}
use Rattle.bicep_tree.specs.Tree as tree
use Rattle.bicep_tree.specs.Declarations.{body_members}
use Rattle.bicep_members.specs.Files.{repeated_in_declaration, repeated_in_statement, repeated_member}
use Rattle.bicep_members.specs.Labels.{repeated_label}
use Rattle.bicep_members.specs.Parts.{repeated_in, repeated_in_value, repeated_in_loop, repeated_in_decorators}
use Rattle.bicep_members.specs.Parts.{repeated_in_resource, repeated_in_body, repeated_in_fields}
use Rattle.bicep_members.specs.Parts.{repeated_in_all_fields, repeated_in_field, repeated_in_all_params}
use Rattle.bicep_misplaced.specs.declared.spot.Owner.{Owner}
use Rattle.bicep_misplaced.specs.declared.spot.Owner.TheVariants as owner
use Rattle.bicep_misplaced.specs.declared.spot.Repeated.{Repeated}
use Rattle.bicep_misplaced.specs.declared.spot.Repeated.TheVariants as repeated
use Rattle.bicep_misplaced.specs.declared.spot.Spot.TheVariants as spot
use Rattle.bicep_misplaced.specs.Expressions.{bad_in}
use Rattle.bicep_misplaced.specs.Resources.{bad_in_decorators, bad_around, bad_in_loop, nested_at, bad_in_resource}
use Rattle.bicep_misplaced.specs.Resources.{bad_in_body, bad_in_fields, bad_in_all_fields, bad_in_field}
use Rattle.bicep_misplaced.specs.Files.{bad_variable, bad_in_whole, bad_in_declaration, bad_in_statement, misplaced}
use Rattle.bicep_declared.specs.Sites.{with_nested, with_body, with_object, with_members, with_member, with_parts}
use Rattle.bicep_declared.specs.Sites.{with_statements, declarations_of}
use Rattle.bicep_numbers.proofs.FoundLemmas.{all-append}
use Rattle.sound_values.proofs.FoundLemmas.{first_none, second_none}

-- a body; resources that are nested in it are declarations of their own
pub record BodyIsClean (b : BodyTree) : Type 0 where
  pub owner : Owner
  pub placed : bad_in_body owner b ≡ None
  pub once : repeated_in_body b ≡ None

abbrev pub ResourceIsClean : ResourceTree → Type 0
ResourceIsClean (tree.resource at n q x b) = BodyIsClean b

abbrev pub IsClean : DeclarationTree → Type 0
IsClean (tree.metadata at n e) = Unit {0}
IsClean (tree.target_scope at e) = Unit {0}
IsClean (tree.param at n t) = Unit {0}
IsClean (tree.param_with at n t e) = (bad_in spot.Outside e ≡ None) × (repeated_in e ≡ None)
IsClean (tree.var at n v) = (bad_in_whole v ≡ None) × (repeated_in_value v ≡ None)
IsClean (tree.output at n t v) = (bad_in_whole v ≡ None) × (repeated_in_value v ≡ None)
IsClean (tree.a_resource r) = ResourceIsClean r
IsClean (tree.a_module at n q b) = BodyIsClean b

abbrev pub AreClean : List DeclarationTree → Type 0
AreClean ds = AllByRecursion IsClean ds

one_more : (ds : List DeclarationTree) (d : DeclarationTree) → AreClean ds → IsClean d → AreClean (ds ++ d ∷ [])
one_more ds d h c = all-append IsClean ds (d ∷ []) h (c, tt)

resource_clean : (o : Owner) (r : ResourceTree) → bad_in_resource o r ≡ None → repeated_in_resource r ≡ None
    → ResourceIsClean r
resource_clean o (tree.resource at n q x b) e r = record {
  owner = o;
  placed = second_none (bad_around o at q x b) (bad_in_body o b) e;
  once = r;
}

-- what is nested in a resource is looked at where it may be
nested_none : (o : Owner) (t : Repeated) (at : ℕ) (p : Option ℕ) → nested_at o t at p ≡ None → p ≡ None
nested_none owner.Module t at p e = absurd cc
nested_none owner.Resource repeated.Each at p e = absurd cc
nested_none owner.Nested repeated.Each at p e = absurd cc
nested_none owner.Resource repeated.Once at p e = e
nested_none owner.Nested repeated.Once at p e = e

mutual
  clean_nested : (o : Owner) (r : ResourceTree) (ds : List DeclarationTree) → bad_in_resource o r ≡ None
      → repeated_in_resource r ≡ None → AreClean ds → AreClean (with_nested r ds)
  clean_nested o (tree.resource at n q x b) ds e r h =
      clean_body o b ds (second_none (bad_around o at q x b) (bad_in_body o b) e) r h

  clean_body : (o : Owner) (b : BodyTree) (ds : List DeclarationTree) → bad_in_body o b ≡ None
      → repeated_in_body b ≡ None → AreClean ds → AreClean (with_body b ds)
  clean_body o (tree.body_plain x) ds e r h = clean_object o repeated.Once x ds e r h
  clean_body o (tree.body_if at c x) ds e r h =
      clean_object o repeated.Once x ds (second_none (bad_in spot.Inside c) (bad_in_fields o repeated.Once x) e)
      (second_none (repeated_in c) (repeated_in_fields x) r) h
  clean_body o (tree.body_each l x) ds e r h =
      clean_object o repeated.Each x ds (second_none (bad_in_loop l) (bad_in_fields o repeated.Each x) e)
      (second_none (repeated_in_loop l) (repeated_in_fields x) r) h
  clean_body o (tree.body_each_if l at c x) ds e r h =
      let f = bad_in_fields o repeated.Each x in
      let g = repeated_in_fields x in
      clean_object o repeated.Each x ds
      (second_none (bad_in spot.Inside c) f (second_none (bad_in_loop l) (or_else (bad_in spot.Inside c) f) e))
      (second_none (repeated_in c) g (second_none (repeated_in_loop l) (or_else (repeated_in c) g) r)) h

  clean_object : (o : Owner) (t : Repeated) (x : ObjectTree) (ds : List DeclarationTree) → bad_in_fields o t x ≡ None
      → repeated_in_fields x ≡ None → AreClean ds → AreClean (with_object x ds)
  clean_object o t (tree.braces at ms) ds e r h =
      clean_members o t ms ds e (second_none (repeated_label ms) (repeated_in_all_fields ms) r) h

  clean_members : (o : Owner) (t : Repeated) (ms : MemberTrees) (ds : List DeclarationTree)
      → bad_in_all_fields o t ms ≡ None → repeated_in_all_fields ms ≡ None → AreClean ds
      → AreClean (with_members ms ds)
  clean_members o t tree.no_member ds e r h = h
  clean_members o t (tree.and_member m ms) ds e r h =
      clean_members o t ms (with_member m ds) (second_none (bad_in_field o t m) (bad_in_all_fields o t ms) e)
      (second_none (repeated_in_field m) (repeated_in_all_fields ms) r)
      (clean_member o t m ds (first_none (bad_in_field o t m) (bad_in_all_fields o t ms) e)
      (first_none (repeated_in_field m) (repeated_in_all_fields ms) r) h)

  clean_member : (o : Owner) (t : Repeated) (m : MemberTree) (ds : List DeclarationTree) → bad_in_field o t m ≡ None
      → repeated_in_field m ≡ None → AreClean ds → AreClean (with_member m ds)
  clean_member o t (tree.property l v) ds e r h = h
  clean_member o t (tree.child es q) ds e r h =
      let own = bad_in_resource owner.Nested q in
      let placed = nested_none o t (resource_offset q) own
      (second_none (bad_in_decorators es) (nested_at o t (resource_offset q) own) e) in
      let once = second_none (repeated_in_decorators es) (repeated_in_resource q) r in
      clean_nested owner.Nested q (ds ++ tree.a_resource q ∷ []) placed once
      (one_more ds (tree.a_resource q) h (resource_clean owner.Nested q placed once))

clean_declaration : (d : DeclarationTree) (ds : List DeclarationTree) → bad_in_declaration d ≡ None
    → repeated_in_declaration d ≡ None → AreClean ds → AreClean (with_parts d (ds ++ d ∷ []))
clean_declaration (tree.metadata at n e) ds b r h = one_more ds (tree.metadata at n e) h tt
clean_declaration (tree.target_scope at e) ds b r h = one_more ds (tree.target_scope at e) h tt
clean_declaration (tree.param at n t) ds b r h = one_more ds (tree.param at n t) h tt
clean_declaration (tree.param_with at n t e) ds b r h = one_more ds (tree.param_with at n t e) h (b, r)
clean_declaration (tree.var at n v) ds b r h =
    one_more ds (tree.var at n v) h (second_none (bad_variable n) (bad_in_whole v) b, r)
clean_declaration (tree.output at n t v) ds b r h = one_more ds (tree.output at n t v) h (b, r)
clean_declaration (tree.a_resource q) ds b r h =
    clean_nested owner.Resource q (ds ++ tree.a_resource q ∷ []) b r
    (one_more ds (tree.a_resource q) h (resource_clean owner.Resource q b r))
clean_declaration (tree.a_module at n q x) ds b r h =
    one_more ds (tree.a_module at n q x) h
    (record {
      owner = owner.Module;
      placed = b;
      once = first_none (repeated_in_body x) (repeated_in_all_params (body_members x)) r;
    })

clean_statements : (f : FileTree) (ds : List DeclarationTree) → misplaced f ≡ None → repeated_member f ≡ None
    → AreClean ds → AreClean (with_statements f ds)
clean_statements [] ds b r h = h
clean_statements (tree.statement es d ∷ f) ds b r h =
    let own = first_none (bad_in_statement (tree.statement es d)) (misplaced f) b in
    let once = first_none (repeated_in_statement (tree.statement es d)) (repeated_member f) r in
    clean_statements f (with_parts d (ds ++ d ∷ []))
    (second_none (bad_in_statement (tree.statement es d)) (misplaced f) b)
    (second_none (repeated_in_statement (tree.statement es d)) (repeated_member f) r)
    (clean_declaration d ds (second_none (bad_in_decorators es) (bad_in_declaration d) own)
    (second_none (repeated_in_decorators es) (repeated_in_declaration d) once) h)

-- the declarations of a file
pub file_is_clean : (f : FileTree) → misplaced f ≡ None → repeated_member f ≡ None → AreClean (declarations_of f)
file_is_clean f b r = clean_statements f [] b r tt
