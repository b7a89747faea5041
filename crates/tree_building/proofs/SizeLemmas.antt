-- How large a value is, as far as it is built of parts: each part is smaller.
use Rattle.std.proofs.Common.{◌≡◌, ◌≤◌, ◌<◌, ◌+◌, ℕ, zero, suc, List, [], ◌∷◌, drop, map, sym, ap, subst, arith}
use Rattle.bicep_resolved.specs.Source.{SourceTree, SourceTrees, PropertyTrees, ValueTree}
use Rattle.bicep_resolved.specs.Source as s
use Rattle.bicep_resolved.specs.View.{PropertyTree, source_of, property_of, value_of, sources, properties}
use Rattle.bicep_resolved.specs.declared.source.Property.{Property}
use Rattle.bicep_resolved.specs.declared.source.Source.{Source}
use Rattle.bicep_resolved.proofs.ViewLemmas.{property_of-is}

abbrev mutual
  pub tree_size : SourceTree → ℕ
  tree_size (s.name at x) = 0
  tree_size (s.literal at v) = 0
  tree_size (s.interpolated at first ps) = 0
  tree_size (s.object at ps) = suc (members_size ps)
  tree_size (s.array at es) = suc (items_size es)
  tree_size (s.call at name es) = 0
  tree_size (s.instance r) = 0
  tree_size (s.field r at x) = 0
  tree_size (s.output r at k) = 0
  tree_size (s.member e k n) = 0
  tree_size (s.index e k i) = 0
  tree_size (s.prefixed at p e) = 0
  tree_size (s.binary o x y) = 0
  tree_size (s.conditional c x y) = 0

  pub items_size : SourceTrees → ℕ
  items_size s.none = 0
  items_size (s.more e es) = suc (tree_size e + items_size es)

  pub members_size : PropertyTrees → ℕ
  members_size s.no_property = 0
  members_size (s.property at name v ps) = suc (suc (value_size v + members_size ps))

  pub value_size : ValueTree → ℕ
  value_size (s.plain e) = suc (tree_size e)
  value_size (s.each l e) = suc (tree_size e)

pub object_size : (y : SourceTree) (at : ℕ) (ps : PropertyTrees) → y ≡ s.object at ps → members_size ps < tree_size y
object_size y at ps e = subst (λ y. members_size ps < tree_size y) (sym e) (next (members_size ps))
  where
    next : (n : ℕ) → n < suc n
    next n = omega arith

pub array_size : (y : SourceTree) (at : ℕ) (es : SourceTrees) → y ≡ s.array at es → items_size es < tree_size y
array_size y at es e = subst (λ y. items_size es < tree_size y) (sym e) (next (items_size es))
  where
    next : (n : ℕ) → n < suc n
    next n = omega arith

pub plain_size : (v : ValueTree) (x : SourceTree) → v ≡ s.plain x → tree_size x < value_size v
plain_size v x e = subst (λ v. tree_size x < value_size v) (sym e) (next (tree_size x))
  where
    next : (n : ℕ) → n < suc n
    next n = omega arith

pub body_size : (v : ValueTree) (at : ℕ) (xs x : SourceTree) → v ≡ s.each (s.loop at xs) x
    → tree_size x < value_size v
body_size v at xs x e = subst (λ v. tree_size x < value_size v) (sym e) (next (tree_size x))
  where
    next : (n : ℕ) → n < suc n
    next n = omega arith

-- ---- parts of lists

items_left : (es : List Source) (i : ℕ)
    → items_size (sources (map source_of (drop i es))) ≤ items_size (sources (map source_of es))
items_left es zero = omega arith
items_left [] (suc i) = omega arith
items_left (x ∷ xs) (suc i) = let h = items_left xs i in omega arith

pub item_size : (es : List Source) (i : ℕ) (x : Source) (rest : List Source) → drop i es ≡ x ∷ rest
    → tree_size (source_of x) < items_size (sources (map source_of es))
item_size es i x rest e =
    let h = items_left es i in
    let g : items_size (sources (map source_of (drop i es)))
    ≡ suc (tree_size (source_of x) + items_size (sources (map source_of rest))) =
    ap (λ xs. items_size (sources (map source_of xs))) e in
    omega arith

members_left : (ps : List Property) (i : ℕ)
    → members_size (properties (map property_of (drop i ps))) ≤ members_size (properties (map property_of ps))
members_left ps zero = omega arith
members_left [] (suc i) = omega arith
members_left (p ∷ ps) (suc i) = let h = members_left ps i in omega arith

pub member_size : (ps : List Property) (i : ℕ) (p : Property) (rest : List Property) → drop i ps ≡ p ∷ rest
    → suc (value_size (property_of p).2) < members_size (properties (map property_of ps))
member_size ps i p rest e =
    let h = members_left ps i in
    let g : members_size (properties (map property_of (drop i ps)))
    ≡ suc (suc (value_size (property_of p).2 + members_size (properties (map property_of rest)))) =
    ap (λ xs. members_size (properties (map property_of xs))) e in
    omega arith

pub value_of_member : (p : Property) → value_size (value_of p.value) ≡ value_size (property_of p).2
value_of_member p = sym (ap (λ (q : PropertyTree). value_size q.2) (property_of-is p))
