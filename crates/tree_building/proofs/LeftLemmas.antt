-- Items and members of which some are built and others are left.
use Rattle.std.proofs.Common.{◌≡◌, ◌≤◌, ℕ, List, [], ◌∷◌, ◌++◌, sym, ap, ◌∙◌, subst, arith}
use Rattle.std.proofs.lemmas.List.{append-nil, append_assoc}
use Rattle.arm_value.specs.Json.{Json, row, items as items_in}
use Rattle.arm_value.proofs.TreeLemmas.{row-items}
use Rattle.emitted_trees.specs.Templates.{TemplateTree, TemplateItems, TemplateMembers, TemplateValue}
use Rattle.emitted_trees.specs.Templates as t
use Rattle.emitted_trees.specs.Written.{tree_json, items_json}
use Rattle.tree_building.specs.Each.{AreSmall, ItemsAreSmall, MembersAreSmall, ValueIsSmall}
use Rattle.tree_building.specs.Built.{Members, grown, all_grown}
use Rattle.tree_building.specs.Depth.{depth, items_depth, members_depth, value_depth}

-- ---- items: those that are left begin with one

module _ (left : TemplateItems) (e : TemplateTree) (rest : TemplateItems) (is : left ≡ t.item e rest) where
  pub item_within : ItemsAreSmall left → AreSmall e
  item_within h = (subst ItemsAreSmall is h).0

  pub rest_within : ItemsAreSmall left → ItemsAreSmall rest
  rest_within h = (subst ItemsAreSmall is h).1

  left_depth : items_depth left ≤ 119 → items_depth (t.item e rest) ≤ 119
  left_depth h = subst (λ es. items_depth es ≤ 119) is h

  pub item_depth : items_depth left ≤ 119 → depth e ≤ 119
  item_depth h = let g = left_depth h in omega arith

  pub rest_depth : items_depth left ≤ 119 → items_depth rest ≤ 119
  rest_depth h = let g = left_depth h in omega arith

  pub items_next : (all more whole : List Json) → more ≡ all ++ tree_json e ∷ []
      → all ++ items_in (items_json left) ≡ whole → more ++ items_in (items_json rest) ≡ whole
  items_next all more whole m w =
      ap (λ js. js ++ items_in (items_json rest)) m
      ∙ append_assoc all (tree_json e ∷ []) (items_in (items_json rest))
      ∙ sym (ap (λ es. all ++ items_in (items_json es)) is) ∙ w

pub items_end : (left whole : TemplateItems) (all : List Json) → left ≡ t.no_item
    → all ++ items_in (items_json left) ≡ items_in (items_json whole) → row all ≡ items_json whole
items_end left whole all e w =
    ap row (sym (append-nil all) ∙ sym (ap (λ es. all ++ items_in (items_json es)) e) ∙ w)
    ∙ row-items (items_json whole)

-- ---- members

module _ (left : TemplateMembers) (k : List ℕ) (v : TemplateValue) (rest : TemplateMembers)
    (is : left ≡ t.member k v rest) where
  pub value_within : MembersAreSmall left → ValueIsSmall v
  value_within h = (subst MembersAreSmall is h).0

  pub others_within : MembersAreSmall left → MembersAreSmall rest
  others_within h = (subst MembersAreSmall is h).1

  members_depth_of : members_depth left ≤ 119 → members_depth (t.member k v rest) ≤ 119
  members_depth_of h = subst (λ ms. members_depth ms ≤ 119) is h

  pub member_depth : members_depth left ≤ 119 → value_depth v ≤ 119
  member_depth h = let g = members_depth_of h in omega arith

  pub others_depth : members_depth left ≤ 119 → members_depth rest ≤ 119
  others_depth h = let g = members_depth_of h in omega arith

  pub members_next : (p q whole : Members) → q ≡ grown k v p → all_grown left p ≡ whole → all_grown rest q ≡ whole
  members_next p q whole m w = ap (all_grown rest) m ∙ sym (ap (λ ms. all_grown ms p) is) ∙ w

pub members_end : (left : TemplateMembers) (p whole : Members) → left ≡ t.no_member → all_grown left p ≡ whole
    → p ≡ whole
members_end left p whole e w = sym (ap (λ ms. all_grown ms p) e) ∙ w
