-- What is written of a template has in it what is written of the templates of its nested deployments.
use Rattle.std.proofs.Common.{◌≡◌, ◌≤◌, ◌+◌, ℕ, chars, codes, Bool, true, false, bytes_eq, List, [], ◌∷◌, ◌++◌}
use Rattle.std.proofs.Common.{Some, refl, sym, ap, subst, ◌∙◌, arith, not, nat_lt}
use Rattle.std.specs.List.{list_all}
use Rattle.foundation.proofs.AsciiWords.{word}
use Rattle.arm_value.specs.Json.{Json, array, object, Member, row, pairs}
use Rattle.template_parts.specs.declared.content.Argument.{Argument}
use Rattle.template_parts.specs.declared.declaration.Declaration.{Declaration}
use Rattle.template_parts.specs.declared.mode.Form.{Form}
use Rattle.template_parts.specs.declared.mode.Form.TheVariants.{One, Two}
use Rattle.template_parts.specs.declared.mode.Scope.{Scope}
use Rattle.template_tree.specs.Tree.{Header, template, ResourceTree, resource, BodyTree, body_members}
use Rattle.template_tree.specs.Tree.{deployment, Trees, no_resources, a_resource}
use Rattle.template_written.specs.Parts.{part_slots, declaration_slots}
use Rattle.template_written.specs.Slots.{Slot, put_slot, put_slots, an_object, array_unless_empty}
use Rattle.template_written.specs.Written.{written, written_each, written_by_symbol, written_resource, written_body}
use Rattle.template_written.specs.Written.{header_slots, text_slots, list_slots, property_slots, deployment_slots}
use Rattle.template_written.specs.Written.{resources_by}
use Rattle.template_lengths.specs.Lengths.{value_bytes, template_bytes}
use Rattle.template_lengths.proofs.SizeLemmas.{sum_items, array_holds, sum_of, others, object_holds}
use Rattle.template_lengths.proofs.PutLemmas.{there, NonePasses, slot_kept, slots_kept, joined_slots}

-- ---- how much nested templates take

abbrev pub body_bytes : BodyTree → ℕ
body_bytes (body_members ms) = 0
body_bytes (deployment s ps t) = template_bytes t

abbrev mutual
  pub tree_bytes : ResourceTree → ℕ
  tree_bytes (resource d b rs) = body_bytes b + trees_bytes rs

  pub trees_bytes : Trees → ℕ
  trees_bytes no_resources = 0
  trees_bytes (a_resource r rs) = tree_bytes r + trees_bytes rs

-- ---- objects of slots

abbrev every : List ℕ → Bool
every k = true

all_within : (ms : List Member) → sum_of every ms ≤ value_bytes (object (pairs ms))
all_within ms = let h = object_holds every ms in omega (arith, h)

-- the last slot is there
last_there : (ss : List Slot) (k : List ℕ) (j : Json) (ms : List Member)
    → value_bytes j ≤ sum_of every (put_slots (ss ++ (k, Some j) ∷ []) ms)
unfolding put_slot
last_there [] k j ms = there every (chars k) j ms refl
last_there (s ∷ ss) k j ms = last_there ss k j (put_slot s.0 s.1 ms)

last_after : (ss ts : List Slot) (k : List ℕ) (j : Json) (ms : List Member)
    → value_bytes j ≤ sum_of every (put_slots (ss ++ (ts ++ (k, Some j) ∷ [])) ms)
last_after [] ts k j ms = last_there ts k j ms
last_after (s ∷ ss) ts k j ms = last_after ss ts k j (put_slot s.0 s.1 ms)

properties_hold : (s : Scope) (ps : List Argument) (j : Json)
    → value_bytes j ≤ value_bytes (an_object (deployment_slots s ps j))
properties_hold s ps j =
    let h = last_there (property_slots s ps) (codes "template") j [] in
    let g = all_within (put_slots (deployment_slots s ps j) []) in
    omega (arith, h, g)

-- ---- a resource

abbrev is_properties : List ℕ → Bool
is_properties k = bytes_eq k (codes "properties")

-- another word
other_word : (w : List ℕ) → list_all (λ b. nat_lt b 128) w ≡ true → is_properties w ≡ false
    → is_properties (chars w) ≡ false
other_word w a e = ap is_properties (word w a) ∙ e

body_within : (b : BodyTree) → body_bytes b ≤ sum_of is_properties (written_body b)
unfolding put_slot
body_within (body_members ms) = omega arith
body_within (deployment s ps t) =
    let q = an_object (deployment_slots s ps (written t)) in
    let h = properties_hold s ps (written t) in
    let g = there is_properties (chars (codes "properties")) q [] (ap is_properties (word (codes "properties") refl)) in
    omega (arith, h, g)

parts_apart : (d : Declaration) → NonePasses is_properties (part_slots d)
parts_apart d = (
  other_word (codes "type") refl refl,
  (
    other_word (codes "apiVersion") refl refl,
    (
      other_word (codes "name") refl refl,
      (
        other_word (codes "condition") refl refl,
        (
          other_word (codes "dependsOn") refl refl,
          (
            other_word (codes "copy") refl refl,
            (other_word (codes "metadata") refl refl, (other_word (codes "existing") refl refl, tt)),
          ),
        ),
      ),
    ),
  ),
)

children_within : (js : List Json) (ms : List Member)
    → sum_items js ≤ sum_of (others is_properties) (put_slot (codes "resources") (array_unless_empty js) ms)
unfolding put_slot
children_within [] ms = omega arith
children_within (j ∷ js) ms =
    let h = there (others is_properties) (chars (codes "resources")) (array (row (j ∷ js))) ms named in
    let g = array_holds (j ∷ js) in
    omega (arith, h, g)
  where
    named : others is_properties (chars (codes "resources")) ≡ true
    named = ap (λ b. not b) (other_word (codes "resources") refl refl)

resource_within : (d : Declaration) (b : BodyTree) (js : List Json)
    → body_bytes b + sum_items js
    ≤ value_bytes (object (pairs (put_slots (declaration_slots d js) (written_body b))))
resource_within d b js =
    let o = array_unless_empty js in
    let ws = put_slots (part_slots d) (written_body b) in
    let is : put_slots (declaration_slots d js) (written_body b) ≡ put_slot (codes "resources") o ws =
    joined_slots (part_slots d) ((codes "resources", o) ∷ []) (written_body b) in
    let own : sum_of is_properties (put_slot (codes "resources") o ws) ≡ sum_of is_properties (written_body b) =
    slot_kept is_properties (codes "resources") o ws apart
    ∙ slots_kept is_properties (part_slots d) (written_body b) (parts_apart d) in
    let c = children_within js ws in
    let g = body_within b in
    let h = object_holds is_properties (put_slot (codes "resources") o ws) in
    subst (λ (ms : List Member). body_bytes b + sum_items js ≤ value_bytes (object (pairs ms))) (sym is)
    (omega (arith, own, c, g, h))
  where
    apart : is_properties (chars (codes "resources")) ≡ false
    apart = other_word (codes "resources") refl refl

mutual
  tree_within : (r : ResourceTree) → tree_bytes r ≤ value_bytes (written_resource r)
  tree_within (resource d b rs) =
      let h = trees_within rs in
      let g = resource_within d b (written_each rs) in
      omega (arith, h, g)

  pub trees_within : (rs : Trees) → trees_bytes rs ≤ sum_items (written_each rs)
  trees_within no_resources = omega arith
  trees_within (a_resource r rs) =
      let h = tree_within r in
      let g = trees_within rs in
      omega (arith, h, g)

-- ---- a template

by_symbol : (rs : Trees) → sum_items (written_each rs) ≡ sum_of every (written_by_symbol rs)
by_symbol no_resources = refl
by_symbol (a_resource r rs) = ap (λ n. value_bytes (written_resource r) + n) (by_symbol rs)

resources_within : (f : Form) (rs : Trees)
    → sum_items (written_each rs) ≤ value_bytes (resources_by f (written_each rs) (written_by_symbol rs))
resources_within One rs = array_holds (written_each rs)
resources_within Two rs =
    let e = by_symbol rs in
    let h = all_within (written_by_symbol rs) in
    omega (arith, e, h)

pub template_within : (h : Header) (rs : Trees) → trees_bytes rs ≤ template_bytes (template h rs)
template_within h rs =
    let j = resources_by h.form (written_each rs) (written_by_symbol rs) in
    let a = trees_within rs in
    let b = resources_within h.form rs in
    let c = last_after (text_slots h) (list_slots h) (codes "resources") j [] in
    let d = all_within (put_slots (header_slots h j) []) in
    omega (arith, a, b, c, d)
