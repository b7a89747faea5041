-- What reads state is known from what is known of the symbols that are mentioned.
use Rattle.std.proofs.Common.{◌≡◌, ◌||◌, ℕ, Bool, true, false, List, [], ◌∷◌, ◌++◌, Option, Some, None, refl, ap}
use Rattle.std.proofs.Common.{◌∙◌, bytes_eq, codes, cond}
use Rattle.std.specs.Prelude.{IfSome, option_to_list}
use Rattle.std.specs.List.{AllByRecursion}
use Rattle.bicep_resolved.specs.declared.leaf.Field.{Field}
use Rattle.bicep_resolved.specs.declared.leaf.Field.TheVariants as f
use Rattle.bicep_resolved.specs.declared.leaf.Meaning.{Meaning}
use Rattle.bicep_resolved.specs.declared.leaf.Meaning.TheVariants as m
use Rattle.bicep_resolved.specs.declared.leaf.Target.{Target}
use Rattle.bicep_resolved.specs.declared.leaf.Target.TheVariants as t
use Rattle.bicep_resolved.specs.Source.{SourceTree, SourceTrees, PieceTrees, ReachTree, PropertyTrees, ValueTree}
use Rattle.bicep_resolved.specs.Source.{LoopTree, field_named}
use Rattle.bicep_resolved.specs.Source as s
use Rattle.bicep_resolved.specs.Target.{number_of, target_of}
use Rattle.bicep_circles.specs.Kind.{Kind}
use Rattle.bicep_circles.specs.Kind.TheVariants as k
use Rattle.bicep_circles.specs.Resolve.{reach_in}
use Rattle.bicep_circles.specs.Declarations.{BodyTree, DeclaredTree}
use Rattle.bicep_circles.specs.Declarations as d
use Rattle.bicep_circles.specs.Mentions.{name_mentions, mentions, reach_mentions, all_mentions, piece_mentions, property_mentions, value_mentions, loop_mentions, each_mentions, condition_mentions, body_mentions, declared_mentions}
use Rattle.bicep_circles.specs.Links.{parent_mentions, mentioned}
use Rattle.bicep_mentions.specs.States.{StateReads, name_reads, field_reads, reads_state, reach_reads, any_reads}
use Rattle.bicep_mentions.specs.States.{piece_reads, property_reads, value_reads, loop_reads}
use Rattle.bicep_mentions.specs.Agreement.{AgreeAt}
use Rattle.bicep_mentions.specs.Names.{body_items, field_value_reads, body_name_reads, own_reads}
use Rattle.bicep_mentions.specs.Names.{whole_of, around_reads, reach_whole, parent_value, parent_value_reads}
use Rattle.bicep_mentions.specs.Names.{parent_reads}
use Rattle.bicep_mentions.specs.Names.{whole_reads}

-- all of a list is all of each part
pub all-first : {A : Type 0} (P : A → Type 0) (xs ys : List A) → AllByRecursion P (xs ++ ys) → AllByRecursion P xs
all-first P [] ys h = tt
all-first P (x ∷ xs) ys h = (h.0, all-first P xs ys h.1)

pub all-second : {A : Type 0} (P : A → Type 0) (xs ys : List A) → AllByRecursion P (xs ++ ys) → AllByRecursion P ys
all-second P [] ys h = h
all-second P (x ∷ xs) ys h = all-second P xs ys h.1

pub both-or : (a b c d : Bool) → a ≡ c → b ≡ d → (a || b) ≡ (c || d)
both-or a b c d e f = ap (λ x. x || b) e ∙ ap (λ x. c || x) f

module _ (A B : StateReads) where
  abbrev pub Agree : List ℕ → Type 0
  Agree ms = AllByRecursion (AgreeAt A B) ms

  first : (xs ys : List ℕ) → Agree (xs ++ ys) → Agree xs
  first xs ys h = all-first (AgreeAt A B) xs ys h

  second : (xs ys : List ℕ) → Agree (xs ++ ys) → Agree ys
  second xs ys h = all-second (AgreeAt A B) xs ys h

  same_name : (x : Meaning) (items : List Bool) → Agree (name_mentions x) → name_reads A x items ≡ name_reads B x items
  same_name (m.Parameter n) items h = refl
  same_name (m.Variable n) items h = h.0.0
  same_name (m.Item n) items h = refl
  same_name (m.Index n) items h = refl

  same_resource_field : (n : ℕ) (g : Field) → AgreeAt A B n
      → field_reads A (t.Resource n) g ≡ field_reads B (t.Resource n) g
  same_resource_field n f.Id h = h.1
  same_resource_field n f.Name h = h.0
  same_resource_field n f.Type h = refl
  same_resource_field n f.ApiVersion h = refl
  same_resource_field n f.Properties h = refl
  same_resource_field n f.Outputs h = refl
  same_resource_field n (f.Other name) h = refl

  same_module_field : (n file : ℕ) (g : Field) → AgreeAt A B n
      → field_reads A (t.Module n file) g ≡ field_reads B (t.Module n file) g
  same_module_field n file f.Id h = refl
  same_module_field n file f.Name h = h.0
  same_module_field n file f.Type h = refl
  same_module_field n file f.ApiVersion h = refl
  same_module_field n file f.Properties h = refl
  same_module_field n file f.Outputs h = refl
  same_module_field n file (f.Other name) h = refl

  same_field : (x : Target) (g : Field) → AgreeAt A B (number_of x) → field_reads A x g ≡ field_reads B x g
  same_field (t.Resource n) g h = same_resource_field n g h
  same_field (t.ResourceLoop n) g h = same_resource_field n g h
  same_field (t.Module n file) g h = same_module_field n file g h
  same_field (t.ModuleLoop n file) g h = same_module_field n file g h

  same_reach_field : (x : ReachTree) (g : Field) → Agree (reach_mentions x)
      → field_reads A (target_of x) g ≡ field_reads B (target_of x) g
  same_reach_field (s.symbol at x) g h = same_field x g h.0
  same_reach_field (s.element at x e) g h = same_field x g h.0

  mutual
    pub same_reads : (e : SourceTree) (items : List Bool) → Agree (mentions e)
        → reads_state A e items ≡ reads_state B e items
    same_reads (s.name at x) items h = same_name x items h
    same_reads (s.literal at v) items h = refl
    same_reads (s.interpolated at first ps) items h = same_pieces ps items h
    same_reads (s.object at ps) items h = same_properties ps items h
    same_reads (s.array at es) items h = same_all es items h
    same_reads (s.call at g es) items h = same_all es items h
    same_reads (s.instance x) items h = same_reach x items h
    same_reads (s.field x at g) items h =
        both-or _ _ _ _ (same_reach x items h) (same_reach_field x g h)
    same_reads (s.output x at k) items h = refl
    same_reads (s.member e k n) items h = same_reads e items h
    same_reads (s.index e k i) items h =
        both-or _ _ _ _ (same_reads e items (first (mentions e) (mentions i) h))
        (same_reads i items (second (mentions e) (mentions i) h))
    same_reads (s.prefixed at p e) items h = same_reads e items h
    same_reads (s.binary o a b) items h =
        both-or _ _ _ _ (same_reads a items (first (mentions a) (mentions b) h))
        (same_reads b items (second (mentions a) (mentions b) h))
    same_reads (s.conditional c a b) items h =
        let rest = second (mentions c) (mentions a ++ mentions b) h in
        both-or _ _ _ _ (same_reads c items (first (mentions c) (mentions a ++ mentions b) h))
        (both-or _ _ _ _ (same_reads a items (first (mentions a) (mentions b) rest))
        (same_reads b items (second (mentions a) (mentions b) rest)))

    pub same_reach : (x : ReachTree) (items : List Bool) → Agree (reach_mentions x)
        → reach_reads A x items ≡ reach_reads B x items
    same_reach (s.symbol at x) items h = refl
    same_reach (s.element at x e) items h = same_reads e items h.1

    same_all : (es : SourceTrees) (items : List Bool) → Agree (all_mentions es)
        → any_reads A es items ≡ any_reads B es items
    same_all s.none items h = refl
    same_all (s.more e es) items h =
        both-or _ _ _ _ (same_reads e items (first (mentions e) (all_mentions es) h))
        (same_all es items (second (mentions e) (all_mentions es) h))

    same_pieces : (ps : PieceTrees) (items : List Bool) → Agree (piece_mentions ps)
        → piece_reads A ps items ≡ piece_reads B ps items
    same_pieces s.no_piece items h = refl
    same_pieces (s.piece e after ps) items h =
        both-or _ _ _ _ (same_reads e items (first (mentions e) (piece_mentions ps) h))
        (same_pieces ps items (second (mentions e) (piece_mentions ps) h))

    same_properties : (ps : PropertyTrees) (items : List Bool) → Agree (property_mentions ps)
        → property_reads A ps items ≡ property_reads B ps items
    same_properties s.no_property items h = refl
    same_properties (s.property at name v ps) items h =
        both-or _ _ _ _ (same_value v items (first (value_mentions v) (property_mentions ps) h))
        (same_properties ps items (second (value_mentions v) (property_mentions ps) h))

    pub same_value : (v : ValueTree) (items : List Bool) → Agree (value_mentions v)
        → value_reads A v items ≡ value_reads B v items
    same_value (s.plain e) items h = same_reads e items h
    same_value (s.each l e) items h =
        let over = same_loop l items (first (loop_mentions l) (mentions e) h) in
        both-or _ _ _ _ over
        (same_reads e (loop_reads A l items ∷ items) (second (loop_mentions l) (mentions e) h)
        ∙ ap (λ b. reads_state B e (b ∷ items)) over)

    pub same_loop : (l : LoopTree) (items : List Bool) → Agree (loop_mentions l)
        → loop_reads A l items ≡ loop_reads B l items
    same_loop (s.loop at over) items h = same_reads over items h

  -- ---- declarations

  field_agrees : (name : List ℕ) (ps : PropertyTrees) → Agree (property_mentions ps)
      → IfSome (field_named name ps) (λ v. Agree (value_mentions v))
  field_agrees name s.no_property h = tt
  field_agrees name (s.property at x v ps) h =
      by (bytes_eq x name) (field_named name ps) (first (value_mentions v) (property_mentions ps) h)
      (field_agrees name ps (second (value_mentions v) (property_mentions ps) h))
    where
      by : (b : Bool) (o : Option ValueTree) → Agree (value_mentions v) → IfSome o (λ y. Agree (value_mentions y))
          → IfSome (cond b (Some v) o) (λ y. Agree (value_mentions y))
      by true o h g = h
      by false o h g = g

  same_items : (o : Option LoopTree) → Agree (each_mentions o) → body_items A o ≡ body_items B o
  same_items None h = refl
  same_items (Some l) h = ap (λ b. b ∷ []) (same_loop l [] h)

  same_field_value : (o : Option ValueTree) (items : List Bool) → IfSome o (λ v. Agree (value_mentions v))
      → field_value_reads A o items ≡ field_value_reads B o items
  same_field_value None items h = refl
  same_field_value (Some v) items h = same_value v items h

  body_fields : (b : BodyTree) → Agree (body_mentions b) → Agree (property_mentions b.fields)
  body_fields b h =
      second (condition_mentions b.condition) (property_mentions b.fields)
      (second (each_mentions b.each) (condition_mentions b.condition ++ property_mentions b.fields) h)

  body_each : (b : BodyTree) → Agree (body_mentions b) → Agree (each_mentions b.each)
  body_each b h = first (each_mentions b.each) (condition_mentions b.condition ++ property_mentions b.fields) h

  same_body_name : (b : BodyTree) → Agree (body_mentions b) → body_name_reads A b ≡ body_name_reads B b
  same_body_name b h =
      same_field_value (field_named (codes "name") b.fields) (body_items A b.each)
      (field_agrees (codes "name") b.fields (body_fields b h))
      ∙ ap (field_value_reads B (field_named (codes "name") b.fields)) (same_items b.each (body_each b h))

  pub same_own : (x : DeclaredTree) → Agree (declared_mentions x) → own_reads A x ≡ own_reads B x
  same_own (d.parameter at ty) h = refl
  same_own (d.parameter_with at ty e) h = refl
  same_own (d.variable at v) h = same_value v [] h
  same_own (d.a_resource at q existing b) h = same_body_name b h
  same_own (d.a_module at b) h = same_body_name b h

  same_whole_of : (o : Option ℕ) → Agree (option_to_list o) → whole_of A o ≡ whole_of B o
  same_whole_of None h = refl
  same_whole_of (Some n) h = h.0.1

  same_around : (x : Kind) → Agree (parent_mentions x) → around_reads A x ≡ around_reads B x
  same_around k.Parameter h = refl
  same_around k.Variable h = refl
  same_around (k.Resource inside) h = same_whole_of inside h
  same_around (k.ResourceLoop inside) h = same_whole_of inside h
  same_around (k.Module file) h = refl
  same_around (k.ModuleLoop file) h = refl

  same_reach_whole : (x : ReachTree) → Agree (reach_mentions x) → reach_whole A (Some x) ≡ reach_whole B (Some x)
  same_reach_whole (s.symbol at x) h = h.0.1
  same_reach_whole (s.element at x e) h = h.0.1

  same_parent_reach : (e : SourceTree) → Agree (mentions e) → reach_whole A (reach_in e) ≡ reach_whole B (reach_in e)
  same_parent_reach (s.instance x) h = same_reach_whole x h
  same_parent_reach e h = refl

  same_parent_value : (v : ValueTree) (items : List Bool) → Agree (value_mentions v)
      → parent_value A v items ≡ parent_value B v items
  same_parent_value (s.plain e) items h = both-or _ _ _ _ (same_parent_reach e h) (same_reads e items h)
  same_parent_value (s.each l e) items h = refl

  same_some_parent : (o : Option ValueTree) (items : List Bool) → IfSome o (λ v. Agree (value_mentions v))
      → parent_value_reads A o items ≡ parent_value_reads B o items
  same_some_parent None items h = refl
  same_some_parent (Some v) items h = same_parent_value v items h

  same_parent : (x : DeclaredTree) → Agree (declared_mentions x) → parent_reads A x ≡ parent_reads B x
  same_parent (d.parameter at ty) h = refl
  same_parent (d.parameter_with at ty e) h = refl
  same_parent (d.variable at v) h = refl
  same_parent (d.a_resource at q existing b) h =
      same_some_parent (field_named (codes "parent") b.fields) (body_items A b.each)
      (field_agrees (codes "parent") b.fields (body_fields b h))
      ∙ ap (parent_value_reads B (field_named (codes "parent") b.fields)) (same_items b.each (body_each b h))
  same_parent (d.a_module at b) h = refl

  pub same_whole : (x : Kind) (y : DeclaredTree) → Agree (mentioned x y) → whole_reads A x y ≡ whole_reads B x y
  same_whole x y h =
      let here = first (declared_mentions y) (parent_mentions x) h in
      both-or _ _ _ _ (same_own y here)
      (both-or _ _ _ _ (same_around x (second (declared_mentions y) (parent_mentions x) h)) (same_parent y here))
