-- Types that are the same at all symbols that an expression mentions give it the same type.
use Rattle.std.proofs.Common.{◌≡◌, ℕ, List, [], ◌∷◌, ◌++◌, refl, ap, ap₂, ◌∙◌}
use Rattle.std.specs.Prelude.{Result, Ok, slice_get}
use Rattle.std.specs.List.{AllByRecursion}
use Rattle.bicep_resolved.specs.declared.leaf.Meaning.{Meaning}
use Rattle.bicep_resolved.specs.declared.leaf.Meaning.TheVariants as m
use Rattle.bicep_resolved.specs.Source.{SourceTree, SourceTrees, PieceTrees, ReachTree, PropertyTrees, ValueTree}
use Rattle.bicep_resolved.specs.Source.{LoopTree}
use Rattle.bicep_resolved.specs.Source as s
use Rattle.bicep_resolved.specs.Place.{offset}
use Rattle.bicep_resolved.specs.Target.{target_of}
use Rattle.bicep_declared.specs.Declarations.{DeclaredTree}
use Rattle.bicep_declared.specs.Declarations as d
use Rattle.bicep_circles.specs.Mentions.{name_mentions, mentions, reach_mentions, all_mentions, piece_mentions}
use Rattle.bicep_circles.specs.Mentions.{property_mentions, value_mentions, declared_mentions}
use Rattle.bicep_signatures.specs.declared.signature.Signatures.{Signatures}
use Rattle.bicep_signatures.specs.declared.value_type.ValueType.{ValueType}
use Rattle.bicep_signatures.specs.declared.value_type.ValueType.TheVariants as type
use Rattle.bicep_typing.specs.Typed.{before, always}
use Rattle.bicep_typing.specs.Operators.{prefix_type, operator_type, conditional_type, member_type, element_type}
use Rattle.bicep_typing.specs.Operators.{each_type}
use Rattle.bicep_typing.specs.Names.{known, name_type, field_type, output_type}
use Rattle.bicep_typing.specs.Typing.{type_of, arguments_left, members_fit, holes_fit, properties_fit, value_type}
use Rattle.bicep_typing.specs.Typing.{reach_fits, taken, value_of_ways, ways_at, element_of, count}
use Rattle.bicep_signatures.specs.Table.{signatures_of}
use Rattle.bicep_symbol_types.specs.SymbolTypes.{symbol_type, with_outputs, or_any}

-- all of a list is all of each part
all-first : (P : ℕ → Type 0) (xs ys : List ℕ) → AllByRecursion P (xs ++ ys) → AllByRecursion P xs
all-first P [] ys h = tt
all-first P (x ∷ xs) ys h = (h.0, all-first P xs ys h.1)

all-second : (P : ℕ → Type 0) (xs ys : List ℕ) → AllByRecursion P (xs ++ ys) → AllByRecursion P ys
all-second P [] ys h = h
all-second P (x ∷ xs) ys h = all-second P xs ys h.1

-- the two say the same of a symbol
abbrev pub AgreeAt : List ValueType → List ValueType → ℕ → Type 0
AgreeAt xs ys n = known (slice_get xs n) ≡ known (slice_get ys n)

module _ (os : List (List ValueType)) (xs ys : List ValueType) where
  abbrev pub Agree : List ℕ → Type 0
  Agree ms = AllByRecursion (AgreeAt xs ys) ms

  first : (ms ns : List ℕ) → Agree (ms ++ ns) → Agree ms
  first ms ns h = all-first (AgreeAt xs ys) ms ns h

  second : (ms ns : List ℕ) → Agree (ms ++ ns) → Agree ns
  second ms ns h = all-second (AgreeAt xs ys) ms ns h

  same_name : (x : Meaning) → Agree (name_mentions x) → name_type xs x ≡ name_type ys x
  unfolding name_type
  same_name (m.Parameter n) h = h.0
  same_name (m.Variable n) h = h.0
  same_name (m.Item n) h = refl
  same_name (m.Index n) h = refl

  mutual
    pub same_type : (e : SourceTree) → Agree (mentions e)
        → type_of (with_outputs os xs) e ≡ type_of (with_outputs os ys) e
    same_type (s.name at x) h = ap (λ t. Ok t) (same_name x h)
    same_type (s.literal at v) h = refl
    same_type (s.interpolated at before ps) h = ap (λ x. always type.Text x) (same_holes ps h)
    same_type (s.object at ps) h = ap (λ x. always type.Object x) (same_properties ps h)
    same_type (s.array at es) h = ap (λ x. always type.Array x) (same_members es h)
    same_type (s.call at name es) h =
        ap (λ w. value_of_ways w at) (same_arguments es (ways_at (signatures_of name (count es)) at) h)
    same_type (s.instance r) h = refl
    same_type (s.field r at f) h = ap (λ x. before x (field_type (target_of r) at f)) (same_reach r h)
    same_type (s.output r at k) h = ap (λ x. before x (output_type os (target_of r) at k)) (same_reach r h)
    same_type (s.member e k n) h = ap (member_type k (offset e)) (same_type e h)
    same_type (s.index e k i) h =
        ap₂ (λ x y. element_type k (offset e) x (offset i) y)
        (same_type e (first (mentions e) (mentions i) h)) (same_type i (second (mentions e) (mentions i) h))
    same_type (s.prefixed at p e) h = ap (prefix_type p (offset e)) (same_type e h)
    same_type (s.binary o a b) h =
        ap₂ (λ x y. operator_type o (offset a) x (offset b) y)
        (same_type a (first (mentions a) (mentions b) h)) (same_type b (second (mentions a) (mentions b) h))
    same_type (s.conditional c a b) h =
        let rest = second (mentions c) (mentions a ++ mentions b) h in
        ap (λ x. conditional_type (offset c) x (type_of (with_outputs os xs) a) (type_of (with_outputs os xs) b))
        (same_type c (first (mentions c) (mentions a ++ mentions b) h))
        ∙ ap₂ (λ x y. conditional_type (offset c) (type_of (with_outputs os ys) c) x y)
        (same_type a (first (mentions a) (mentions b) rest)) (same_type b (second (mentions a) (mentions b) rest))

    same_arguments : (es : SourceTrees) (ways : Result Signatures ℕ) → Agree (all_mentions es)
        → arguments_left (with_outputs os xs) es ways ≡ arguments_left (with_outputs os ys) es ways
    same_arguments s.none ways h = refl
    same_arguments (s.more e es) ways h =
        same_arguments es (taken ways (offset e) (type_of (with_outputs os xs) e))
        (second (mentions e) (all_mentions es) h)
        ∙ ap (λ x. arguments_left (with_outputs os ys) es (taken ways (offset e) x))
        (same_type e (first (mentions e) (all_mentions es) h))

    same_members : (es : SourceTrees) → Agree (all_mentions es)
        → members_fit (with_outputs os xs) es ≡ members_fit (with_outputs os ys) es
    same_members s.none h = refl
    same_members (s.more e es) h =
        ap₂ (λ x y. before x y) (same_type e (first (mentions e) (all_mentions es) h))
        (same_members es (second (mentions e) (all_mentions es) h))

    same_holes : (ps : PieceTrees) → Agree (piece_mentions ps)
        → holes_fit (with_outputs os xs) ps ≡ holes_fit (with_outputs os ys) ps
    same_holes s.no_piece h = refl
    same_holes (s.piece e after ps) h =
        ap₂ (λ x y. before x y) (same_type e (first (mentions e) (piece_mentions ps) h))
        (same_holes ps (second (mentions e) (piece_mentions ps) h))

    same_properties : (ps : PropertyTrees) → Agree (property_mentions ps)
        → properties_fit (with_outputs os xs) ps ≡ properties_fit (with_outputs os ys) ps
    same_properties s.no_property h = refl
    same_properties (s.property at name v ps) h =
        ap₂ (λ x y. before x y) (same_value v (first (value_mentions v) (property_mentions ps) h))
        (same_properties ps (second (value_mentions v) (property_mentions ps) h))

    pub same_value : (v : ValueTree) → Agree (value_mentions v)
        → value_type (with_outputs os xs) v ≡ value_type (with_outputs os ys) v
    same_value (s.plain e) h = same_type e h
    same_value (s.each (s.loop at over) e) h =
        ap₂ (λ x y. each_type (offset over) x y) (same_type over (first (mentions over) (mentions e) h))
        (same_type e (second (mentions over) (mentions e) h))

    same_reach : (r : ReachTree) → Agree (reach_mentions r)
        → reach_fits (with_outputs os xs) r ≡ reach_fits (with_outputs os ys) r
    same_reach (s.symbol at x) h = refl
    same_reach (s.element at x e) h = ap (λ y. element_of at x (offset e) y) (same_type e h.1)

  pub same_symbol : (x : DeclaredTree) → Agree (declared_mentions x)
      → symbol_type (with_outputs os xs) x ≡ symbol_type (with_outputs os ys) x
  same_symbol (d.parameter at ty) h = refl
  same_symbol (d.parameter_with at ty e) h = refl
  same_symbol (d.variable at v) h = ap or_any (same_value v h)
  same_symbol (d.a_resource at q existing b) h = refl
  same_symbol (d.a_module at b) h = refl
