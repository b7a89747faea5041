-- What templates, resources and bodies ask of their parts, and what they are made of.
use Rattle.std.proofs.Common.{◌≡◌, ◌<◌, ◌≤◌, ℕ, length, get_or, List, map, refl, sym, ap, ◌∙◌}
use Rattle.std.proofs.Common.{subst, arith}
use Rattle.arm_value.specs.Json.{Json, array, object, Member, row, pairs, nesting, items_nesting, members_nesting}
use Rattle.arm_value.specs.Json.{IsInOrder}
use Rattle.template_parts.specs.declared.content.Argument.{Argument}
use Rattle.template_parts.specs.declared.declaration.Declaration.{Declaration}
use Rattle.template_parts.specs.declared.mode.Form.TheVariants.{One, Two}
use Rattle.template_parts.specs.declared.mode.Scope.{Scope}
use Rattle.template_tree.specs.Tree.{Header, template, ResourceTree, BodyTree, body_members, deployment}
use Rattle.template_tree.specs.Tree.{Trees, trees, tree_depth, trees_depth}
use Rattle.template_tree.specs.View.{resource_tree}
use Rattle.template_tree.specs.declared.resource.Resource.{Resource}
use Rattle.template_written.specs.Keeps.{AreInOrder, KeepsSymbols, KeepEach, EachKept, ResourceKept}
use Rattle.template_written.specs.Keeps.{symbols}
use Rattle.template_written.specs.Parts.{written_argument, declaration_slots}
use Rattle.template_written.specs.Slots.{put_slots, an_object, SlotsNest}
use Rattle.template_written.specs.Written.{header_slots, deployment_slots, resources_by, written, written_each}
use Rattle.template_written.specs.Written.{written_by_symbol, written_resource, written_body, BodyNests}
use Rattle.template_writer.proofs.ListLemmas.{item_in, member_in, in_order}
use Rattle.template_writer.proofs.NestLemmas.{array_within, header_nests, resource_nests, deployed_nests}
use Rattle.template_writer.proofs.NestLemmas.{properties_nest, named_tree, each_map, named_map, named_in_order, kept_at}
use Rattle.template_writer.proofs.NestLemmas.{depth_at}

pub weaker : (n : ℕ) → n ≤ 119 → n ≤ 120
weaker n h = omega (arith, h)

-- ---- templates

resources_nest : (h : Header) (r : Json) → nesting (an_object (header_slots h r)) ≤ 120 → nesting r ≤ 119
resources_nest h r g = (header_nests h r g).1.1.1.1.1.1.0

pub tree_each : (h : Header) (rs : Trees) → h.form ≡ One → nesting (written (template h rs)) ≤ 120
    → items_nesting (written_each rs) ≤ 119
tree_each h rs e g =
    omega (
      arith,
      resources_nest h (resources_by h.form (written_each rs) (written_by_symbol rs)) g,
      ap (λ f. nesting (resources_by f (written_each rs) (written_by_symbol rs))) e,
    )

pub tree_named : (h : Header) (rs : Trees) → h.form ≡ Two → nesting (written (template h rs)) ≤ 120
    → members_nesting (written_by_symbol rs) ≤ 119
tree_named h rs e g =
    omega (
      arith,
      resources_nest h (resources_by h.form (written_each rs) (written_by_symbol rs)) g,
      ap (λ f. nesting (resources_by f (written_each rs) (written_by_symbol rs))) e,
    )

pub tree_order : (h : Header) (rs : Trees) → h.form ≡ Two → KeepsSymbols h.form rs → AreInOrder (symbols rs)
tree_order h rs e k = subst (λ f. KeepsSymbols f rs) e k

pub as_array : (h : Header) (rs : Trees) (js : List Json) → h.form ≡ One → js ≡ written_each rs
    → resources_by h.form (written_each rs) (written_by_symbol rs) ≡ array (row js)
as_array h rs js e s =
    ap (λ f. resources_by f (written_each rs) (written_by_symbol rs)) e ∙ ap (λ ks. array (row ks)) (sym s)

pub as_object : (h : Header) (rs : Trees) (ms : List Member) → h.form ≡ Two → ms ≡ written_by_symbol rs
    → resources_by h.form (written_each rs) (written_by_symbol rs) ≡ object (pairs ms)
as_object h rs ms e s =
    ap (λ f. resources_by f (written_each rs) (written_by_symbol rs)) e ∙ ap (λ ns. object (pairs ns)) (sym s)

pub header_with : (h : Header) (rs : Trees) (r : Json)
    → resources_by h.form (written_each rs) (written_by_symbol rs) ≡ r → nesting (written (template h rs)) ≤ 120
    → SlotsNest 119 (header_slots h r)
header_with h rs r e g =
    subst (λ j. SlotsNest 119 (header_slots h j)) e
    (header_nests h (resources_by h.form (written_each rs) (written_by_symbol rs)) g)

pub tree_with : (h : Header) (rs : Trees) (r v : Json)
    → resources_by h.form (written_each rs) (written_by_symbol rs) ≡ r → v ≡ an_object (header_slots h r)
    → v ≡ written (template h rs)
tree_with h rs r v e s = s ∙ ap (λ j. an_object (header_slots h j)) (sym e)

-- ---- lists of resources

pub each_at : (rs : List Resource) (ts : List ResourceTree) (i : ℕ) (r : Resource) → map resource_tree rs ≡ ts
    → items_nesting (written_each (trees ts)) ≤ 119 → i < length rs → r ≡ get_or rs i r
    → nesting (written_resource (resource_tree r)) ≤ 119
each_at rs ts i r e g h is =
    item_in (λ x. written_resource (resource_tree x)) rs i r 119 h is
    (subst (λ js. items_nesting js ≤ 119) (each_map rs)
    (subst (λ us. items_nesting (written_each (trees us)) ≤ 119) (sym e) g))

pub named_at : (rs : List Resource) (ts : List ResourceTree) (i : ℕ) (r : Resource) → map resource_tree rs ≡ ts
    → members_nesting (written_by_symbol (trees ts)) ≤ 119 → i < length rs → r ≡ get_or rs i r
    → nesting (written_resource (resource_tree r)) ≤ 119
named_at rs ts i r e g h is =
    member_in named_tree rs i r 119 h is
    (subst (λ ms. members_nesting ms ≤ 119) (named_map rs)
    (subst (λ us. members_nesting (written_by_symbol (trees us)) ≤ 119) (sym e) g))

pub resource_kept : (rs : List Resource) (ts : List ResourceTree) (i : ℕ) (r : Resource) → map resource_tree rs ≡ ts
    → EachKept (trees ts) → i < length rs → r ≡ get_or rs i r → ResourceKept (resource_tree r)
resource_kept rs ts i r e k h is =
    (k.0, kept_at k.0 rs i r (subst (λ us. KeepEach k.0 (trees us)) (sym e) k.1) h is)

pub depth_below : (rs : List Resource) (ts : List ResourceTree) (i : ℕ) (r : Resource) → map resource_tree rs ≡ ts
    → i < length rs → r ≡ get_or rs i r → tree_depth (resource_tree r) ≤ trees_depth (trees ts)
depth_below rs ts i r e h is = omega (arith, depth_at rs i r h is, ap (λ us. trees_depth (trees us)) e)

pub named_order : (rs : List Resource) (ts : List ResourceTree) → map resource_tree rs ≡ ts
    → AreInOrder (symbols (trees ts)) → IsInOrder (map named_tree rs)
named_order rs ts e o = named_in_order rs (subst (λ us. AreInOrder (symbols (trees us))) (sym e) o)

pub each_all : (rs : List Resource) (ts : List ResourceTree) (js : List Json) → map resource_tree rs ≡ ts
    → js ≡ map (λ r. written_resource (resource_tree r)) rs → js ≡ written_each (trees ts)
each_all rs ts js e a = a ∙ sym (each_map rs) ∙ ap (λ us. written_each (trees us)) e

pub named_all : (rs : List Resource) (ts : List ResourceTree) (ms : List Member) → map resource_tree rs ≡ ts
    → ms ≡ map named_tree rs → ms ≡ written_by_symbol (trees ts)
named_all rs ts ms e a = a ∙ sym (named_map rs) ∙ ap (λ us. written_by_symbol (trees us)) e

-- ---- resources and bodies

pub children_nest : (d : Declaration) (js : List Json) (ms : List Member)
    → nesting (object (pairs (put_slots (declaration_slots d js) ms))) ≤ 120 → items_nesting js ≤ 119
children_nest d js ms g = array_within 119 js (resource_nests d js ms g).1.1.1.1.1.1.1.1.0

pub body_nests : (d : Declaration) (js : List Json) (b : BodyTree)
    → nesting (object (pairs (put_slots (declaration_slots d js) (written_body b)))) ≤ 120 → BodyNests b
body_nests d js (body_members ms) g = tt
body_nests d js (deployment s ps t) g = deployed_nests d js (an_object (deployment_slots s ps (written t))) g

pub template_nests : (s : Scope) (ps : List Argument) (t : Json) → nesting (an_object (deployment_slots s ps t)) ≤ 119
    → nesting t ≤ 120
template_nests s ps t g = let h : nesting t ≤ 119 = (properties_nest s ps t g).1.1.1.0 in omega (arith, h)

pub argument_order : (ps : List Argument) → AreInOrder (map (λ a. a.name) ps) → IsInOrder (map written_argument ps)
argument_order ps o = in_order written_argument (λ a. a.name) ps (λ a. refl) o
