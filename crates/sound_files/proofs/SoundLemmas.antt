-- A file in which nothing is misplaced, no name is given twice and all names are found is sound.
use Rattle.std.proofs.Common.{◌≡◌, ℕ, zero, suc, ◌+◌, Bool, true, false, List, [], ◌∷◌, length, Option, Some, None}
use Rattle.std.proofs.Common.{refl, sym}
use Rattle.std.proofs.Common.{ap, ◌∙◌, subst, arith, codes, map, ◌++◌, ◌<◌}
use Rattle.std.specs.Prelude.{◌&&◌, not, bytes_eq, slice_get, option_map, option_and_then, if◌then◌else◌}
use Rattle.std.specs.List.{AllByRecursion}
use Rattle.std.proofs.lemmas.Option.{none-some, same_Some, slice_get_within}
use Rattle.foundation.specs.Options.{or_else}
use Rattle.bicep_tree.specs.declared.leaf.Quoted.{Quoted}
use Rattle.bicep_resolved.specs.declared.leaf.Target.TheVariants as t
use Rattle.bicep_resolved.specs.Place.{value_offset}
use Rattle.bicep_resolved.specs.Source.{ReachTree, PropertyTrees, ValueTree}
use Rattle.bicep_resolved.specs.Source as s
use Rattle.bicep_resolved.specs.Target.{number_of, target_of}
use Rattle.bicep_symbols.specs.Entries.{Symbol}
use Rattle.bicep_declared.specs.Declarations.{BodyTree, DeclaredTree, DeclaredFileTree}
use Rattle.bicep_declared.specs.Declarations as d
use Rattle.bicep_placed.specs.Kinds.{around, path_of, kind_in, known, is_child, whole_kinds}
use Rattle.bicep_placed.specs.Links.{parent_of, parent_reached}
use Rattle.bicep_placed.specs.Loops.{loop_in_value}
use Rattle.bicep_placed.specs.Files.{bad_dependents, bad_names, bad_fields, bad_parent_by, bad_parents}
use Rattle.bicep_placed.specs.Files.{bad_declaration, bad_declarations}
use Rattle.bicep_mentions.specs.Entries.{has_entry, is_variable, state_reads, each_offset, misplaced_one}
use Rattle.bicep_mentions.specs.Entries.{misplaced_from}
use Rattle.bicep_program.proofs.LoadLemmas.{at_place}
use Rattle.bicep_checks.specs.Faults.{symbol_kind}
use Rattle.bicep_meaning.specs.Declared.{body_of, body_at}
use Rattle.bicep_meaning.specs.Files as files
use Rattle.bicep_meaning.specs.Files.{SourceFile, declaration, inside, below}
use Rattle.bicep_resolved.specs.Source.{field_named}
use Rattle.bicep_meaning.specs.Files.{below_value, fields_parent, inside_or, around_kind, parent, type_of}
use Rattle.bicep_emission.specs.Emittable.{IsValue}
use Rattle.declaration_laws.specs.ChildTypes.{IsChildType}
use Rattle.declaration_laws.specs.Sound.{IsResourceType, IsSound}
use Rattle.sound_declarations.proofs.FoundLemmas.{first_none, second_none}
use Rattle.sound_declarations.specs.Values.{IsLoopSound, IsConditionSound}
use Rattle.sound_files.proofs.ListLemmas.{There, there}
use Rattle.sound_files.proofs.TextLemmas.{child_segments, no_parent as not_child}
use Rattle.sound_declarations.proofs.BodyLemmas.{BodyGood, link_named}
use Rattle.sound_declarations.proofs.DeclaredLemmas.{IsGood, IsPlainEmittable}
use Rattle.sound_files.proofs.KindLemmas.{IsTyped, IsWhole, TypesOf, same_around, type_is}

-- ---- fields

field_by : (word : List ℕ) (bad : ValueTree → Option ℕ) (b : Bool) (y v : ValueTree) (ps : PropertyTrees)
    → (if b then bad y else None) ≡ None → (field_named word ps ≡ Some v → bad v ≡ None)
    → (if b then Some y else field_named word ps) ≡ Some v → bad v ≡ None
field_by word bad true y v ps e rest g = subst (λ u. bad u ≡ None) (same_Some y v g) e
field_by word bad false y v ps e rest g = rest g

-- nothing is bad in the field of a name, where nothing is bad in any field of this name
found_field : (word : List ℕ) (bad : ValueTree → Option ℕ) (all : PropertyTrees → Option ℕ)
    → ((at : ℕ) (x : List ℕ) (y : ValueTree) (ps : PropertyTrees)
    → all (s.property at x y ps) ≡ or_else (if bytes_eq x word then bad y else None) (all ps))
    → (ps : PropertyTrees) (v : ValueTree) → all ps ≡ None → field_named word ps ≡ Some v → bad v ≡ None
found_field word bad all step s.no_property v e g = absurd (none-some v g)
found_field word bad all step (s.property at x y ps) v e g =
    let one = if bytes_eq x word then bad y else None in
    let both = sym (step at x y ps) ∙ e in
    field_by word bad (bytes_eq x word) y v ps (first_none one (all ps) both)
    (found_field word bad all step ps v (second_none one (all ps) both)) g

plain_name : (ps : PropertyTrees) (v : ValueTree) → bad_names ps ≡ None → field_named (codes "name") ps ≡ Some v
    → loop_in_value v ≡ None
plain_name = found_field (codes "name") loop_in_value bad_names (λ at x y ps. refl)

placed_parent : (kinds : List (List ℕ)) (q : Quoted) (ps : PropertyTrees) (v : ValueTree)
    → bad_parents kinds q ps ≡ None → field_named (codes "parent") ps ≡ Some v
    → bad_parent_by kinds q (value_offset v) (parent_of v) ≡ None
placed_parent kinds q =
    found_field (codes "parent") (λ v. bad_parent_by kinds q (value_offset v) (parent_of v)) (bad_parents kinds q)
    (λ at x y ps. refl)

-- ---- declarations

placed_at : (kinds : List (List ℕ)) (xs : List DeclaredTree) (n : ℕ) (x : DeclaredTree)
    → bad_declarations kinds xs ≡ None → slice_get xs n ≡ Some x → bad_declaration kinds x ≡ None
placed_at kinds [] n x e g = absurd (none-some x g)
placed_at kinds (y ∷ xs) zero x e g =
    subst (λ u. bad_declaration kinds u ≡ None) (same_Some y x g)
    (first_none (bad_declaration kinds y) (bad_declarations kinds xs) e)
placed_at kinds (y ∷ xs) (suc n) x e g =
    placed_at kinds xs n x (second_none (bad_declaration kinds y) (bad_declarations kinds xs) e) g

plus_zero : (n : ℕ) → n + 0 ≡ n
plus_zero n = omega arith

zero_plus : (n : ℕ) → 0 + n ≡ n
zero_plus n = omega arith

plus_one : (n i : ℕ) → (n + 1) + i ≡ n + suc i
plus_one n i = omega arith

misplaced_at : (own : ℕ → Bool) (n : ℕ) (xs : List DeclaredTree) (i : ℕ) (x : DeclaredTree)
    → misplaced_from own n xs ≡ None → slice_get xs i ≡ Some x → misplaced_one own (n + i) x ≡ None
misplaced_at own n [] i x e g = absurd (none-some x g)
misplaced_at own n (y ∷ xs) zero x e g =
    subst (λ j. misplaced_one own j x ≡ None) (sym (plus_zero n))
    (subst (λ u. misplaced_one own n u ≡ None) (same_Some y x g)
    (first_none (misplaced_one own n y) (misplaced_from own (n + 1) xs) e))
misplaced_at own n (y ∷ xs) (suc i) x e g =
    subst (λ j. misplaced_one own j x ≡ None) (plus_one n i)
    (misplaced_at own (n + 1) xs i x (second_none (misplaced_one own n y) (misplaced_from own (n + 1) xs) e) g)

-- ---- variables

reads_state : (b : Bool) → (true && not b) ≡ false → b ≡ true
reads_state true e = refl
reads_state false e = absurd cc

plain_value : (b : Bool) (v : ValueTree) → b ≡ true → (if b then each_offset v else None) ≡ None → IsPlainEmittable v
    → IsValue v
plain_value true (s.plain e) g h i = i
plain_value true (s.each l e) g h i = absurd cc
plain_value false v g h i = absurd cc

-- ---- bodies

-- the body of a declaration
record Placed (b : BodyTree) : Type 0 where
  good : BodyGood b
  names : bad_names b.fields ≡ None

body_placed : (kinds : List (List ℕ)) (o : Option DeclaredTree) (b : BodyTree) → option_and_then body_of o ≡ Some b
    → ((x : DeclaredTree) → o ≡ Some x → IsGood x × (bad_declaration kinds x ≡ None)) → Placed b
body_placed kinds None b e h = absurd (none-some b e)
body_placed kinds (Some (d.parameter at t)) b e h = absurd (none-some b e)
body_placed kinds (Some (d.parameter_with at t x)) b e h = absurd (none-some b e)
body_placed kinds (Some (d.variable at v)) b e h = absurd (none-some b e)
body_placed kinds (Some (d.a_resource at q existing y)) b e h =
    let a = h (d.a_resource at q existing y) refl in
    subst Placed (same_Some y b e)
    (record {
      good = a.0;
      names =
          first_none (bad_names y.fields) (bad_dependents y.fields)
          (second_none (bad_parents kinds q y.fields) (bad_fields y.fields) a.1);
    })
body_placed kinds (Some (d.a_module at y)) b e h =
    let a = h (d.a_module at y) refl in
    subst Placed (same_Some y b e)
    (record { good = a.0; names = first_none (bad_names y.fields) (bad_dependents y.fields) a.1 })

-- ---- parents

-- the field `parent` of a resource
pub record HasParent (o : Option DeclaredTree) (r : ReachTree) : Type 0 where
  pub at : ℕ
  pub path : Quoted
  pub existing : Bool
  pub body : BodyTree
  pub is : o ≡ Some (d.a_resource at path existing body)
  pub field : field_named (codes "parent") body.fields ≡ Some (s.plain (s.instance r))

same_below : (q r : ReachTree) → below q ≡ below r → q ≡ r
same_below q r e = cc

value_below : (v : Option ValueTree) (r : ReachTree) → below_value v ≡ below r → v ≡ Some (s.plain (s.instance r))
value_below None r e = absurd cc
value_below (Some (s.each l x)) r e = absurd cc
value_below (Some (s.plain (s.name at x))) r e = absurd cc
value_below (Some (s.plain (s.literal at v))) r e = absurd cc
value_below (Some (s.plain (s.interpolated at first ps))) r e = absurd cc
value_below (Some (s.plain (s.object at ps))) r e = absurd cc
value_below (Some (s.plain (s.array at es))) r e = absurd cc
value_below (Some (s.plain (s.call at name es))) r e = absurd cc
value_below (Some (s.plain (s.instance q))) r e = ap (λ x. Some (s.plain (s.instance x))) (same_below q r e)
value_below (Some (s.plain (s.field q at x))) r e = absurd cc
value_below (Some (s.plain (s.output q at k))) r e = absurd cc
value_below (Some (s.plain (s.member x k n))) r e = absurd cc
value_below (Some (s.plain (s.index x k i))) r e = absurd cc
value_below (Some (s.plain (s.prefixed at p x))) r e = absurd cc
value_below (Some (s.plain (s.binary o x y))) r e = absurd cc
value_below (Some (s.plain (s.conditional c x y))) r e = absurd cc

parent_fields : (o : Option DeclaredTree) (r : ReachTree) → fields_parent o ≡ below r → HasParent o r
parent_fields None r e = absurd cc
parent_fields (Some (d.parameter at t)) r e = absurd cc
parent_fields (Some (d.parameter_with at t x)) r e = absurd cc
parent_fields (Some (d.variable at v)) r e = absurd cc
parent_fields (Some (d.a_resource at q existing b)) r e = record {
  at = at;
  path = q;
  existing = existing;
  body = b;
  is = refl;
  field = value_below (field_named (codes "parent") b.fields) r e;
}
parent_fields (Some (d.a_module at b)) r e = absurd cc

-- a resource with the field `parent` is nested in none
pub record IsBelow (around : Option ℕ) (o : Option DeclaredTree) (r : ReachTree) : Type 0 where
  pub alone : around ≡ None
  pub has : HasParent o r

pub by_around : (around : Option ℕ) (o : Option DeclaredTree) (r : ReachTree)
    → inside_or around (fields_parent o) ≡ below r → IsBelow around o r
by_around None o r e = record { alone = refl; has = parent_fields o r e }
by_around (Some n) o r e = absurd cc

value_inside : (v : Option ValueTree) (m : ℕ) → below_value v ≡ inside m → ⊥
value_inside None m e = absurd cc
value_inside (Some (s.each l x)) m e = absurd cc
value_inside (Some (s.plain (s.name at x))) m e = absurd cc
value_inside (Some (s.plain (s.literal at v))) m e = absurd cc
value_inside (Some (s.plain (s.interpolated at first ps))) m e = absurd cc
value_inside (Some (s.plain (s.object at ps))) m e = absurd cc
value_inside (Some (s.plain (s.array at es))) m e = absurd cc
value_inside (Some (s.plain (s.call at name es))) m e = absurd cc
value_inside (Some (s.plain (s.instance q))) m e = absurd cc
value_inside (Some (s.plain (s.field q at x))) m e = absurd cc
value_inside (Some (s.plain (s.output q at k))) m e = absurd cc
value_inside (Some (s.plain (s.member x k n))) m e = absurd cc
value_inside (Some (s.plain (s.index x k i))) m e = absurd cc
value_inside (Some (s.plain (s.prefixed at p x))) m e = absurd cc
value_inside (Some (s.plain (s.binary o x y))) m e = absurd cc
value_inside (Some (s.plain (s.conditional c x y))) m e = absurd cc

fields_inside : (o : Option DeclaredTree) (m : ℕ) → fields_parent o ≡ inside m → ⊥
fields_inside None m e = absurd cc
fields_inside (Some (d.parameter at t)) m e = absurd cc
fields_inside (Some (d.parameter_with at t x)) m e = absurd cc
fields_inside (Some (d.variable at v)) m e = absurd cc
fields_inside (Some (d.a_resource at q existing b)) m e = value_inside (field_named (codes "parent") b.fields) m e
fields_inside (Some (d.a_module at b)) m e = absurd cc

same_inside : (n m : ℕ) → inside n ≡ inside m → n ≡ m
same_inside n m e = cc

inside_by : (around : Option ℕ) (o : Option DeclaredTree) (m : ℕ) → inside_or around (fields_parent o) ≡ inside m
    → around ≡ Some m
inside_by None o m e = absurd (fields_inside o m e)
inside_by (Some n) o m e = ap (λ k. Some k) (same_inside n m e)

-- the symbol around which there is a resource
record HasAround (o : Option Symbol) (m : ℕ) : Type 0 where
  symbol : Symbol
  is : o ≡ Some symbol
  around_is : around_kind symbol.2 ≡ Some m

symbol_around : (o : Option Symbol) (m : ℕ)
    → option_and_then around_kind (option_map (λ (x : Symbol). x.2) o) ≡ Some m → HasAround o m
symbol_around None m e = absurd (none-some m e)
symbol_around (Some x) m e = record { symbol = x; is = refl; around_is = e }

-- the resource that is the value of `parent`, and its type
none_bad : (kinds : List (List ℕ)) (q : Quoted) (at n : ℕ) → bad_parent_by kinds q at (Some n) ≡ None
    → is_child (known (slice_get kinds n)) (kind_in q.text) ≡ true
none_bad kinds q at n e = by (is_child (known (slice_get kinds n)) (kind_in q.text)) e
  where
    by : (b : Bool) → (if b then None else Some q.at) ≡ None → b ≡ true
    by true g = refl
    by false g = absurd cc

reached : (kinds : List (List ℕ)) (q : Quoted) (at : ℕ) (r : ReachTree)
    → bad_parent_by kinds q at (parent_reached r) ≡ None
    → is_child (known (slice_get kinds (number_of (target_of r)))) (kind_in q.text) ≡ true
reached kinds q at (s.symbol b (t.Resource n)) e = none_bad kinds q at n e
reached kinds q at (s.symbol b (t.ResourceLoop n)) e = absurd cc
reached kinds q at (s.symbol b (t.Module n file)) e = absurd cc
reached kinds q at (s.symbol b (t.ModuleLoop n file)) e = absurd cc
reached kinds q at (s.element b (t.Resource n) x) e = absurd cc
reached kinds q at (s.element b (t.ResourceLoop n) x) e = none_bad kinds q at n e
reached kinds q at (s.element b (t.Module n file) x) e = absurd cc
reached kinds q at (s.element b (t.ModuleLoop n file) x) e = absurd cc

-- ---- files

-- the whole types of the resources of a file
abbrev types_in : List Symbol → DeclaredFileTree → List (List ℕ)
types_in ss x = whole_kinds (map symbol_kind ss) x.declarations

-- what is known of the declarations of a file
pub record Checked (ss : List Symbol) (x : DeclaredFileTree) : Type 0 where
  pub typed : TypesOf (types_in ss x) ss x.declarations
  pub pairs : length ss ≡ length x.declarations
  pub good : AllByRecursion IsGood x.declarations
  pub placed : bad_declarations (types_in ss x) x.declarations ≡ None
  pub variables : misplaced_from (state_reads (map symbol_kind ss) x.declarations).own 0 x.declarations ≡ None

module _ (f : SourceFile) (h : Checked f.symbols f.declared)
    (entries : (n : ℕ) → f.has_entry n ≡ has_entry (map symbol_kind f.symbols) f.declared.declarations n) where
  abbrev types : List (List ℕ)
  types = types_in f.symbols f.declared

  -- the type of a resource, where it is known
  kind_is : (n : ℕ) (a : List ℕ) → slice_get types n ≡ Some a → (type_of f n).kind ≡ a
  kind_is n a e =
      type_is f types h.typed h.pairs n (subst (λ j. n < j) h.typed.count (slice_get_within types n a e)) ∙ ap known e

  child_is : (n m : ℕ) (a b : List ℕ) → slice_get types n ≡ Some a → slice_get types m ≡ Some b → IsChildType a b
      → IsChildType (type_of f n).kind (type_of f m).kind
  child_is n m a b e g c =
      subst (λ k. IsChildType k (type_of f m).kind) (sym (kind_is n a e))
      (subst (λ k. IsChildType a k) (sym (kind_is m b g)) c)

  -- the symbol of a declaration
  symbol_at : (n : ℕ) (x : DeclaredTree) → declaration f n ≡ Some x → There f.symbols n
  symbol_at n x e = there f.symbols n (subst (λ j. n < j) (sym h.pairs) (slice_get_within f.declared.declarations n x e))

  typed_at : (n : ℕ) (x : DeclaredTree) (e : declaration f n ≡ Some x)
      → IsTyped types n (around (symbol_at n x e).item.2) (path_of x)
  typed_at n x e = let z = symbol_at n x e in h.typed.typed n z.item x z.is e

  declared_at : (n : ℕ) (x : DeclaredTree) → declaration f n ≡ Some x
      → IsGood x × (bad_declaration types x ≡ None)
  declared_at n x e = (
    at_place IsGood f.declared.declarations n x e h.good,
    placed_at types f.declared.declarations n x h.placed e,
  )

  body_at_is : (n : ℕ) (b : BodyTree) → body_at f n ≡ Some b → Placed b
  body_at_is n b e = body_placed types (declaration f n) b e (declared_at n)

  -- ---- variables

  variable_is : (n at : ℕ) (v : ValueTree) → declaration f n ≡ Some (d.variable at v) → f.has_entry n ≡ false
      → IsValue v
  variable_is n at v e without =
      let own = (state_reads (map symbol_kind f.symbols) f.declared.declarations).own in
      let reads = reads_state (own n)
      (ap (λ o. is_variable o && not (own n)) (sym e) ∙ sym (entries n) ∙ without) in
      plain_value (own n) v reads
      (subst (λ j. misplaced_one own j (d.variable at v) ≡ None) (zero_plus n)
      (misplaced_at own 0 f.declared.declarations n (d.variable at v) h.variables e))
      (at_place IsGood f.declared.declarations n (d.variable at v) e h.good).1

  -- ---- types

  type_by : (n : ℕ) (o : Option ℕ) (text : List ℕ) → IsTyped types n o (Some text) → IsResourceType (type_of f n).kind
  type_by n None text e = subst IsResourceType (sym (kind_is n (kind_in text) e.is)) e.whole.type
  type_by n (Some m) text e = subst IsResourceType (sym (kind_is n (e.up ++ 47 ∷ kind_in text) e.is)) e.type

  nested_by : (n m : ℕ) (p : Option (List ℕ)) → IsTyped types n (Some m) p
      → IsChildType (type_of f n).kind (type_of f m).kind
  nested_by n m None e = absurd e
  nested_by n m (Some text) e = child_is n m (e.up ++ 47 ∷ kind_in text) e.up e.is e.is_up e.child

  inside_is : (n m : ℕ) → parent f n ≡ inside m → IsChildType (type_of f n).kind (type_of f m).kind
  inside_is n m e =
      let a = symbol_around (slice_get f.symbols n) m
      (inside_by (option_and_then around_kind (files.symbol_kind f n)) (declaration f n) m e) in
      let x = there f.declared.declarations n (subst (λ j. n < j) h.pairs (slice_get_within f.symbols n a.symbol a.is)) in
      nested_by n m (path_of x.item)
      (subst (λ o. IsTyped types n o (path_of x.item)) (same_around a.symbol.2 ∙ a.around_is)
      (h.typed.typed n a.symbol x.item a.is x.is))

  -- a resource of this type has a parent of that one
  upper_by : (n m : ℕ) (o : Option ℕ) (p : Option (List ℕ)) (q : Quoted) → IsTyped types m o p → IsWhole types n q.text
      → is_child (known (slice_get types m)) (kind_in q.text) ≡ true
      → IsChildType (type_of f n).kind (type_of f m).kind
  upper_by n m None None q e w c =
      absurd (not_child (kind_in q.text) (ap (λ o. is_child (known o) (kind_in q.text)) (sym e) ∙ c) w.whole.filled)
  upper_by n m None (Some text) q e w c =
      let r = child_segments (kind_in text) (kind_in q.text)
      (ap (λ o. is_child (known o) (kind_in q.text)) (sym e.is) ∙ c) in
      child_is n m (kind_in q.text) (kind_in text) w.is e.is
      (record { last = r.last; is = r.is; parent = e.whole.type.has_segments })
  upper_by n m (Some k) None q e w c = absurd e
  upper_by n m (Some k) (Some text) q e w c =
      let up = e.up ++ 47 ∷ kind_in text in
      let r = child_segments up (kind_in q.text)
      (ap (λ o. is_child (known o) (kind_in q.text)) (sym e.is) ∙ c) in
      child_is n m (kind_in q.text) up w.is e.is
      (record { last = r.last; is = r.is; parent = e.type.has_segments })

  upper : (n m : ℕ) (q : Quoted) (o : Option (List ℕ)) → slice_get types m ≡ o → IsWhole types n q.text
      → is_child (known (slice_get types m)) (kind_in q.text) ≡ true
      → IsChildType (type_of f n).kind (type_of f m).kind
  upper n m q None g w c =
      absurd (not_child (kind_in q.text) (ap (λ o. is_child (known o) (kind_in q.text)) (sym g) ∙ c) w.whole.filled)
  upper n m q (Some a) g w c =
      let lt = subst (λ j. m < j) h.typed.count (slice_get_within types m a g) in
      let z = there f.symbols m lt in
      let x = there f.declared.declarations m (subst (λ j. m < j) h.pairs lt) in
      upper_by n m (around z.item.2) (path_of x.item) q (h.typed.typed m z.item x.item z.is x.is) w c

  below_is : (n : ℕ) (r : ReachTree) → parent f n ≡ below r
      → IsChildType (type_of f n).kind (type_of f (number_of (target_of r))).kind
  below_is n r e =
      let a = by_around (option_and_then around_kind (files.symbol_kind f n)) (declaration f n) r e in
      let x = d.a_resource a.has.at a.has.path a.has.existing a.has.body in
      let z = symbol_at n x a.has.is in
      let alone : around z.item.2 ≡ None =
      same_around z.item.2
      ∙ ap (λ (o : Option Symbol). option_and_then around_kind (option_map (λ (y : Symbol). y.2) o)) (sym z.is)
      ∙ a.alone in
      let whole = subst (λ o. IsTyped types n o (Some a.has.path.text)) alone (typed_at n x a.has.is) in
      let parents = first_none (bad_parents types a.has.path a.has.body.fields) (bad_fields a.has.body.fields)
      (declared_at n x a.has.is).1 in
      let bad = placed_parent types a.has.path a.has.body.fields (s.plain (s.instance r)) parents a.has.field in
      upper n (number_of (target_of r)) a.has.path (slice_get types (number_of (target_of r))) refl whole
      (reached types a.has.path (value_offset (s.plain (s.instance r))) r bad)

  pub file_sound : IsSound f
  file_sound = record {
    variables = variable_is;
    names = λ n b v e g.
        let a = body_at_is n b e in
        (link_named (codes "name") b.fields v a.good.links g).value (plain_name b.fields v a.names g);
    loops = λ n at b xs e g. subst IsLoopSound g (body_at_is n b e).good.sound.each;
    conditions = λ n b c e g. subst IsConditionSound g (body_at_is n b e).good.sound.condition;
    parents = λ n r e.
        let a = by_around (option_and_then around_kind (files.symbol_kind f n)) (declaration f n) r e in
        let b = body_at_is n a.has.body (ap (option_and_then body_of) a.has.is) in
        (link_named (codes "parent") a.has.body.fields (s.plain (s.instance r)) b.good.links a.has.field).reach r refl;
    types = λ n at q existing b e.
        type_by n (around (symbol_at n (d.a_resource at q existing b) e).item.2) q.text
        (typed_at n (d.a_resource at q existing b) e);
    types_inside = inside_is;
    types_below = below_is;
  }
