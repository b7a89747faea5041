-- What holds of each expression of a tree, and of its greatest numbers.
use Rattle.std.proofs.Common.{◌≤◌, ℕ, max, arith}
use Rattle.arm_expr.specs.Tree.{Tree, nesting}
use Rattle.foundation.specs.declared.limits.TheConstants.{MAX_EXPRESSION_CHARACTERS, MAX_EXPRESSION_NESTING}
use Rattle.tree_building.specs.Templates.{TemplateTree, TemplateItems, TemplateMembers, TemplateValue}
use Rattle.tree_building.specs.Templates as t
use Rattle.tree_building.specs.Written.{IsWritable, IsWithin, AreWithin, MembersAreWithin, ValueIsWithin}
use Rattle.tree_building.specs.Each.{Each, EachOfItems, EachOfMembers, EachOfValue, IsSmall, AreSmall, ValueIsSmall}
use Rattle.measured_trees.specs.Extremes.{greatest, items_greatest, members_greatest, value_greatest, text_length}
use Rattle.measured_trees.specs.Limits.{IsPrintable}

-- ---- each number is at most n exactly where the greatest is

first : (a b n : ℕ) → max a b ≤ n → a ≤ n
first a b n h = omega (arith, h)

second : (a b n : ℕ) → max a b ≤ n → b ≤ n
second a b n h = omega (arith, h)

both : (a b n : ℕ) → a ≤ n → b ≤ n → max a b ≤ n
both a b n h k = omega (arith, h, k)

module _ (f : Tree → ℕ) (n : ℕ) where
  abbrev AtMost : Tree → Type 0
  AtMost e = f e ≤ n

  mutual
    pub tree_at_most : (e : TemplateTree) → greatest f e ≤ n → Each AtMost e
    tree_at_most (t.literal v) h = tt
    tree_at_most (t.expression e) h = h
    tree_at_most (t.array es) h = items_at_most es h
    tree_at_most (t.object ms) h = members_at_most ms h

    items_at_most : (es : TemplateItems) → items_greatest f es ≤ n → EachOfItems AtMost es
    items_at_most t.no_item h = tt
    items_at_most (t.item e es) h = (
      tree_at_most e (first (greatest f e) (items_greatest f es) n h),
      items_at_most es (second (greatest f e) (items_greatest f es) n h),
    )

    members_at_most : (ms : TemplateMembers) → members_greatest f ms ≤ n → EachOfMembers AtMost ms
    members_at_most t.no_member h = tt
    members_at_most (t.member name v ms) h = (
      value_at_most v (first (value_greatest f v) (members_greatest f ms) n h),
      members_at_most ms (second (value_greatest f v) (members_greatest f ms) n h),
    )

    pub value_at_most : (v : TemplateValue) → value_greatest f v ≤ n → EachOfValue AtMost v
    value_at_most (t.plain e) h = tree_at_most e h
    value_at_most (t.each c e) h = (
      first (f c) (greatest f e) n h,
      tree_at_most e (second (f c) (greatest f e) n h),
    )

  mutual
    pub tree_greatest : (e : TemplateTree) → Each AtMost e → greatest f e ≤ n
    tree_greatest (t.literal v) h = omega arith
    tree_greatest (t.expression e) h = h
    tree_greatest (t.array es) h = items_greatest_is es h
    tree_greatest (t.object ms) h = members_greatest_is ms h

    items_greatest_is : (es : TemplateItems) → EachOfItems AtMost es → items_greatest f es ≤ n
    items_greatest_is t.no_item h = omega arith
    items_greatest_is (t.item e es) h =
        both (greatest f e) (items_greatest f es) n (tree_greatest e h.0) (items_greatest_is es h.1)

    members_greatest_is : (ms : TemplateMembers) → EachOfMembers AtMost ms → members_greatest f ms ≤ n
    members_greatest_is t.no_member h = omega arith
    members_greatest_is (t.member name v ms) h =
        both (value_greatest f v) (members_greatest f ms) n (value_greatest_is v h.0) (members_greatest_is ms h.1)

    pub value_greatest_is : (v : TemplateValue) → EachOfValue AtMost v → value_greatest f v ≤ n
    value_greatest_is (t.plain e) h = tree_greatest e h
    value_greatest_is (t.each c e) h = both (f c) (greatest f e) n h.0 (tree_greatest e h.1)

-- ---- two facts of each expression are both of each

module _ (P : Tree → Type 0) (Q : Tree → Type 0) (R : Tree → Type 0) where
  module _ (make : (e : Tree) → P e → Q e → R e) where
    mutual
      pub tree_both : (e : TemplateTree) → Each P e → Each Q e → Each R e
      tree_both (t.literal v) p q = tt
      tree_both (t.expression e) p q = make e p q
      tree_both (t.array es) p q = items_both es p q
      tree_both (t.object ms) p q = members_both ms p q

      items_both : (es : TemplateItems) → EachOfItems P es → EachOfItems Q es → EachOfItems R es
      items_both t.no_item p q = tt
      items_both (t.item e es) p q = (tree_both e p.0 q.0, items_both es p.1 q.1)

      members_both : (ms : TemplateMembers) → EachOfMembers P ms → EachOfMembers Q ms → EachOfMembers R ms
      members_both t.no_member p q = tt
      members_both (t.member name v ms) p q = (value_both v p.0 q.0, members_both ms p.1 q.1)

      pub value_both : (v : TemplateValue) → EachOfValue P v → EachOfValue Q v → EachOfValue R v
      value_both (t.plain e) p q = tree_both e p q
      value_both (t.each c e) p q = (make c p.0 q.0, tree_both e p.1 q.1)

module _ (P : Tree → Type 0) (Q : Tree → Type 0) (turn : (e : Tree) → P e → Q e) where
  abbrev turned : (e : Tree) → P e → P e → Q e
  turned e p q = turn e p

  pub tree_turned : (e : TemplateTree) → Each P e → Each Q e
  tree_turned e p = tree_both P P Q turned e p p

  pub value_turned : (v : TemplateValue) → EachOfValue P v → EachOfValue Q v
  value_turned v p = value_both P P Q turned v p p

-- ---- small trees

abbrev IsShort : Tree → Type 0
IsShort e = text_length e ≤ MAX_EXPRESSION_CHARACTERS

abbrev IsFlat : Tree → Type 0
IsFlat e = nesting e ≤ MAX_EXPRESSION_NESTING

small : (e : Tree) → IsShort e → IsFlat e → IsSmall e
small e h k = (h, k)

short_of : (e : Tree) → IsSmall e → IsShort e
short_of e h = h.0

flat_of : (e : Tree) → IsSmall e → IsFlat e
flat_of e h = h.1

pub tree_small : (e : TemplateTree) → greatest text_length e ≤ MAX_EXPRESSION_CHARACTERS
    → greatest nesting e ≤ MAX_EXPRESSION_NESTING → AreSmall e
tree_small e h k =
    tree_both IsShort IsFlat IsSmall small e (tree_at_most text_length MAX_EXPRESSION_CHARACTERS e h)
    (tree_at_most nesting MAX_EXPRESSION_NESTING e k)

pub value_small : (v : TemplateValue) → value_greatest text_length v ≤ MAX_EXPRESSION_CHARACTERS
    → value_greatest nesting v ≤ MAX_EXPRESSION_NESTING → ValueIsSmall v
value_small v h k =
    value_both IsShort IsFlat IsSmall small v (value_at_most text_length MAX_EXPRESSION_CHARACTERS v h)
    (value_at_most nesting MAX_EXPRESSION_NESTING v k)

pub tree_short : (e : TemplateTree) → AreSmall e → greatest text_length e ≤ MAX_EXPRESSION_CHARACTERS
tree_short e h =
    tree_greatest text_length MAX_EXPRESSION_CHARACTERS e (tree_turned IsSmall IsShort short_of e h)

pub tree_flat : (e : TemplateTree) → AreSmall e → greatest nesting e ≤ MAX_EXPRESSION_NESTING
tree_flat e h = tree_greatest nesting MAX_EXPRESSION_NESTING e (tree_turned IsSmall IsFlat flat_of e h)

pub value_short : (v : TemplateValue) → ValueIsSmall v → value_greatest text_length v ≤ MAX_EXPRESSION_CHARACTERS
value_short v h =
    value_greatest_is text_length MAX_EXPRESSION_CHARACTERS v (value_turned IsSmall IsShort short_of v h)

pub value_flat : (v : TemplateValue) → ValueIsSmall v → value_greatest nesting v ≤ MAX_EXPRESSION_NESTING
value_flat v h = value_greatest_is nesting MAX_EXPRESSION_NESTING v (value_turned IsSmall IsFlat flat_of v h)

-- ---- what a template can read back

writable : (e : Tree) → IsPrintable e → IsSmall e → IsWritable e
writable e w h = record { names = w.0; ints = w.1; is_short = h.0; is_flat = h.1 }

mutual
  pub tree_within : (e : TemplateTree) → Each IsWritable e → IsWithin e
  tree_within (t.literal v) h = tt
  tree_within (t.expression e) h = h
  tree_within (t.array es) h = items_within es h
  tree_within (t.object ms) h = members_within ms h

  items_within : (es : TemplateItems) → EachOfItems IsWritable es → AreWithin es
  items_within t.no_item h = tt
  items_within (t.item e es) h = (tree_within e h.0, items_within es h.1)

  members_within : (ms : TemplateMembers) → EachOfMembers IsWritable ms → MembersAreWithin ms
  members_within t.no_member h = tt
  members_within (t.member name v ms) h = (value_within v h.0, members_within ms h.1)

  pub value_within : (v : TemplateValue) → EachOfValue IsWritable v → ValueIsWithin v
  value_within (t.plain e) h = tree_within e h
  value_within (t.each c e) h = (h.0, tree_within e h.1)

mutual
  pub tree_writable : (e : TemplateTree) → IsWithin e → Each IsWritable e
  tree_writable (t.literal v) h = tt
  tree_writable (t.expression e) h = h
  tree_writable (t.array es) h = items_writable es h
  tree_writable (t.object ms) h = members_writable ms h

  items_writable : (es : TemplateItems) → AreWithin es → EachOfItems IsWritable es
  items_writable t.no_item h = tt
  items_writable (t.item e es) h = (tree_writable e h.0, items_writable es h.1)

  members_writable : (ms : TemplateMembers) → MembersAreWithin ms → EachOfMembers IsWritable ms
  members_writable t.no_member h = tt
  members_writable (t.member name v ms) h = (value_writable v h.0, members_writable ms h.1)

  pub value_writable : (v : TemplateValue) → ValueIsWithin v → EachOfValue IsWritable v
  value_writable (t.plain e) h = tree_writable e h
  value_writable (t.each c e) h = (h.0, tree_writable e h.1)

printable_of : (e : Tree) → IsWritable e → IsPrintable e
printable_of e h = (h.names, h.ints)

small_of : (e : Tree) → IsWritable e → IsSmall e
small_of e h = (h.is_short, h.is_flat)

pub tree_printed : (e : TemplateTree) → Each IsPrintable e → AreSmall e → IsWithin e
tree_printed e h k = tree_within e (tree_both IsPrintable IsSmall IsWritable writable e h k)

pub value_printed : (v : TemplateValue) → EachOfValue IsPrintable v → ValueIsSmall v → ValueIsWithin v
value_printed v h k = value_within v (value_both IsPrintable IsSmall IsWritable writable v h k)

pub tree_printable : (e : TemplateTree) → IsWithin e → Each IsPrintable e
tree_printable e h = tree_turned IsWritable IsPrintable printable_of e (tree_writable e h)

pub value_printable : (v : TemplateValue) → ValueIsWithin v → EachOfValue IsPrintable v
value_printable v h = value_turned IsWritable IsPrintable printable_of v (value_writable v h)

pub tree_is_small : (e : TemplateTree) → IsWithin e → AreSmall e
tree_is_small e h = tree_turned IsWritable IsSmall small_of e (tree_writable e h)

pub value_is_small : (v : TemplateValue) → ValueIsWithin v → ValueIsSmall v
value_is_small v h = value_turned IsWritable IsSmall small_of v (value_writable v h)
