-- How deep what is written nests, and lists of resources.
use Rattle.std.proofs.Common.{◌≡◌, ◌<◌, ◌≤◌, ℕ, zero, suc, chars, codes, length, get_or, true, false, List, []}
use Rattle.std.proofs.Common.{◌∷◌, ◌++◌, map, Option, Some, None, Ordering, Less, Equal, Greater, refl, sym, ap, ◌∙◌}
use Rattle.std.proofs.Common.{subst, arith}
use Rattle.std.specs.Ordering.{match_ordering}
use Rattle.arm_value.specs.Json.{Json, text, array, object, Member, row, pairs, keys, put, key_cmp, nesting}
use Rattle.arm_value.specs.Json.{items_nesting}
use Rattle.arm_value.specs.Json.{members_nesting, IsInOrder}
use Rattle.arm_value.proofs.SetLemmas.{equal_keys}
use Rattle.template_meaning.specs.Parts.{is_copy}
use Rattle.template_parts.specs.declared.content.Argument.{Argument}
use Rattle.template_parts.specs.declared.content.Content.{Content}
use Rattle.template_parts.specs.declared.declaration.Declaration.{Declaration}
use Rattle.template_parts.specs.declared.looping.ResourceCopy.{ResourceCopy}
use Rattle.template_parts.specs.declared.mode.Form.{Form}
use Rattle.template_parts.specs.declared.mode.Scope.{Scope}
use Rattle.template_parts.specs.declared.output.Output.{Output}
use Rattle.template_parts.specs.declared.parameter.Parameter.{Parameter}
use Rattle.template_parts.specs.declared.variable.Variable.{Variable}
use Rattle.template_tree.specs.Tree.{Header, trees, tree_depth, trees_depth}
use Rattle.template_tree.specs.View.{resource_tree}
use Rattle.template_tree.specs.declared.resource.Resource.{Resource}
use Rattle.template_written.specs.Keeps.{AreInOrder, NoneLoops, KeepsVariables, KeepEach, KeepsResource, symbols}
use Rattle.template_written.specs.Parts.{parameter_slots, loop_slots, named_loop, plain_variables, variable_loops}
use Rattle.template_written.specs.Parts.{written_variables, output_slots, argument_slots, loop_argument, copy_slots}
use Rattle.template_written.specs.Parts.{declaration_slots}
use Rattle.template_written.specs.Slots.{Slot, put_slot, put_slots, an_object, array_unless_empty, object_unless_empty}
use Rattle.template_written.specs.Slots.{NestsWithin, SlotsNest}
use Rattle.template_written.specs.Written.{header_slots, deployment_slots, tree_symbol, written_each, written_by_symbol}
use Rattle.template_written.specs.Written.{written_resource}
use Rattle.template_written.proofs.BackLemmas.{copy_word}
use Rattle.template_written.proofs.SlotLemmas.{slots_nest}
use Rattle.template_writer.proofs.ListLemmas.{in_order}

-- ---- slots

pub put_slots_append : (ts ss : List Slot) (ms : List Member) → put_slots (ts ++ ss) ms ≡ put_slots ss (put_slots ts ms)
put_slots_append [] ss ms = refl
put_slots_append (t ∷ ts) ss ms = put_slots_append ts ss (put_slot t.0 t.1 ms)

pub split_slots : (n : ℕ) (ts ss : List Slot) → SlotsNest n (ts ++ ss) → SlotsNest n ts × SlotsNest n ss
split_slots n [] ss h = (tt, h)
split_slots n (t ∷ ts) ss h = let r = split_slots n ts ss h.1 in ((h.0, r.0), r.1)

pub object_within : (n : ℕ) (ms : List Member) → NestsWithin n (object_unless_empty ms) → members_nesting ms ≤ n
object_within n [] h = omega arith
object_within n (m ∷ ms) h = omega (arith, h)

pub array_within : (n : ℕ) (js : List Json) → NestsWithin n (array_unless_empty js) → items_nesting js ≤ n
array_within n [] h = omega arith
array_within n (j ∷ js) h = omega (arith, h)

-- ---- variables

kept_by : (n : ℕ) (k : List ℕ) (j : Json) (m : Member) (ms : List Member) (o : Ordering) → key_cmp k m.0 ≡ o
    → is_copy k ≡ true → is_copy m.0 ≡ false
    → (members_nesting (put k j ms) ≤ n → members_nesting ms ≤ n)
    → members_nesting (match_ordering o ((k, j) ∷ m ∷ ms) ((k, j) ∷ ms) (m ∷ put k j ms)) ≤ n
    → members_nesting (m ∷ ms) ≤ n
kept_by n k j m ms Less e c d h g = omega (arith, g)
kept_by n k j m ms Equal e c d h g =
    let f : true ≡ false = sym c ∙ ap is_copy (equal_keys k m.0 e) ∙ d in cc
kept_by n k j m ms Greater e c d h g = let r : members_nesting ms ≤ n = h (omega (arith, g)) in omega (arith, g, r)

-- members that make no loops nest no deeper with one that does
kept_nests : (n : ℕ) (k : List ℕ) (j : Json) (ms : List Member) → is_copy k ≡ true → NoneLoops (keys ms)
    → members_nesting (put k j ms) ≤ n → members_nesting ms ≤ n
kept_nests n k j [] c h g = omega arith
kept_nests n k j (m ∷ ms) c h g =
    kept_by n k j m ms (key_cmp k m.0) refl c h.0 (kept_nests n k j ms c h.1) g

slot_kept : (n : ℕ) (o : Option Json) (ms : List Member) → NoneLoops (keys ms)
    → members_nesting (put_slot (codes "copy") o ms) ≤ n → members_nesting ms ≤ n
unfolding put_slot
slot_kept n None ms h g = g
slot_kept n (Some j) ms h g = kept_nests n (chars (codes "copy")) j ms copy_word h g

pub plain_within : (n : ℕ) (vs : List Variable) → KeepsVariables vs
    → NestsWithin n (object_unless_empty (written_variables vs)) → members_nesting (plain_variables vs) ≤ n
plain_within n vs k h =
    slot_kept n (array_unless_empty (variable_loops vs)) (plain_variables vs) k.named
    (object_within n (written_variables vs) h)

pub loops_within : (n : ℕ) (vs : List Variable) → NestsWithin n (object_unless_empty (written_variables vs))
    → NestsWithin n (array_unless_empty (variable_loops vs))
loops_within n vs h =
    (slots_nest n ((codes "copy", array_unless_empty (variable_loops vs)) ∷ []) (plain_variables vs) refl
    (object_within n (written_variables vs) h)).0

-- ---- objects of slots

pub object_nests : (n : ℕ) (ss : List Slot) (h : nesting (an_object ss) ≤ suc n) → members_nesting (put_slots ss []) ≤ n
object_nests n ss h = omega (arith, h)

pub header_nests : (h : Header) (r : Json) → nesting (an_object (header_slots h r)) ≤ 120
    → SlotsNest 119 (header_slots h r)
header_nests h r g = slots_nest 119 (header_slots h r) [] refl (omega (arith, g))

pub resource_nests : (d : Declaration) (js : List Json) (ms : List Member)
    → nesting (object (pairs (put_slots (declaration_slots d js) ms))) ≤ 120 → SlotsNest 119 (declaration_slots d js)
resource_nests d js ms g = slots_nest 119 (declaration_slots d js) ms refl (omega (arith, g))

-- of a resource whose body is one member
pub deployed_nests : (d : Declaration) (js : List Json) (p : Json)
    → nesting (an_object ((codes "properties", Some p) ∷ declaration_slots d js)) ≤ 120 → nesting p ≤ 119
deployed_nests d js p g =
    (slots_nest 119 ((codes "properties", Some p) ∷ declaration_slots d js) [] refl (omega (arith, g))).0

pub properties_nest : (s : Scope) (ps : List Argument) (t : Json)
    → nesting (an_object (deployment_slots s ps t)) ≤ 119 → SlotsNest 119 (deployment_slots s ps t)
properties_nest s ps t g = slots_nest 119 (deployment_slots s ps t) [] refl (omega (arith, g))

pub loop_nests_within : (count input : Json) → nesting (an_object (loop_slots count input)) ≤ 119
    → SlotsNest 119 (loop_slots count input)
loop_nests_within count input g = slots_nest 119 (loop_slots count input) [] refl (omega (arith, g))

pub named_nests_within : (name : List ℕ) (count input : Json) → nesting (named_loop name count input) ≤ 119
    → SlotsNest 119 (loop_slots count input)
named_nests_within name count input g =
    (slots_nest 119 ((codes "name", Some (text name)) ∷ loop_slots count input) [] refl (omega (arith, g))).1

pub argument_nests_within : (count input : Json) → NestsWithin 119 (loop_argument count input)
    → SlotsNest 119 (loop_slots count input)
argument_nests_within count input g =
    named_nests_within (chars (codes "value")) count input (omega (arith, g))

pub copy_nests_within : (k : ResourceCopy) → nesting (an_object (copy_slots k)) ≤ 119 → SlotsNest 119 (copy_slots k)
copy_nests_within k g = slots_nest 119 (copy_slots k) [] refl (omega (arith, g))

pub output_nests_within : (o : Output) → nesting (an_object (output_slots o)) ≤ 119 → SlotsNest 119 (output_slots o)
output_nests_within o g = slots_nest 119 (output_slots o) [] refl (omega (arith, g))

pub argument_slots_nest : (k : Content) → nesting (an_object (argument_slots k)) ≤ 119
    → SlotsNest 119 (argument_slots k)
argument_slots_nest k g = slots_nest 119 (argument_slots k) [] refl (omega (arith, g))

pub parameter_nests_within : (p : Parameter) → nesting (an_object (parameter_slots p)) ≤ 119
    → SlotsNest 119 (parameter_slots p)
parameter_nests_within p g = slots_nest 119 (parameter_slots p) [] refl (omega (arith, g))

-- ---- resources

abbrev pub named_tree : Resource → Member
named_tree r = (tree_symbol (resource_tree r), written_resource (resource_tree r))

pub each_map : (rs : List Resource)
    → written_each (trees (map resource_tree rs)) ≡ map (λ r. written_resource (resource_tree r)) rs
each_map [] = refl
each_map (r ∷ rs) = ap (λ js. written_resource (resource_tree r) ∷ js) (each_map rs)

pub named_map : (rs : List Resource) → written_by_symbol (trees (map resource_tree rs)) ≡ map named_tree rs
named_map [] = refl
named_map (r ∷ rs) = ap (λ ms. named_tree r ∷ ms) (named_map rs)

symbols_map : (rs : List Resource)
    → symbols (trees (map resource_tree rs)) ≡ map (λ r. tree_symbol (resource_tree r)) rs
symbols_map [] = refl
symbols_map (r ∷ rs) = ap (λ ns. tree_symbol (resource_tree r) ∷ ns) (symbols_map rs)

pub named_in_order : (rs : List Resource) → AreInOrder (symbols (trees (map resource_tree rs)))
    → IsInOrder (map named_tree rs)
named_in_order rs o =
    in_order named_tree (λ r. tree_symbol (resource_tree r)) rs (λ r. refl) (subst AreInOrder (symbols_map rs) o)

pub kept_at : (f : Form) (rs : List Resource) (i : ℕ) (r : Resource) → KeepEach f (trees (map resource_tree rs))
    → i < length rs → r ≡ get_or rs i r → KeepsResource f (resource_tree r)
kept_at f [] i r k h e = absurd (omega arith)
kept_at f (x ∷ rs) zero r k h e = subst (λ y. KeepsResource f (resource_tree y)) (sym e) k.0
kept_at f (x ∷ rs) (suc i) r k h e = kept_at f rs i r k.1 (omega arith) e

pub depth_at : (rs : List Resource) (i : ℕ) (r : Resource) → i < length rs → r ≡ get_or rs i r
    → tree_depth (resource_tree r) ≤ trees_depth (trees (map resource_tree rs))
depth_at [] i r h e = absurd (omega arith)
depth_at (x ∷ rs) zero r h e = omega (arith, ap (λ y. tree_depth (resource_tree y)) e)
depth_at (x ∷ rs) (suc i) r h e = omega (arith, depth_at rs i r (omega arith) e)

-- ---- what is left out where it is empty

pub no_array : (js : List Json) → length js ≡ 0 → array_unless_empty js ≡ None
no_array [] h = refl
no_array (j ∷ js) h = absurd (omega (arith, h))

pub an_array : (js : List Json) → (length js ≡ 0 → ⊥) → array_unless_empty js ≡ Some (array (row js))
an_array [] h = absurd (h refl)
an_array (j ∷ js) h = refl

pub no_object : (ms : List Member) → length ms ≡ 0 → object_unless_empty ms ≡ None
no_object [] h = refl
no_object (m ∷ ms) h = absurd (omega (arith, h))

pub some_object : (ms : List Member) → (length ms ≡ 0 → ⊥) → object_unless_empty ms ≡ Some (object (pairs ms))
some_object [] h = absurd (h refl)
some_object (m ∷ ms) h = refl
