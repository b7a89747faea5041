-- What is written of a template nests no deeper than its parts say.
use Rattle.std.proofs.Common.{◌≡◌, ◌≤◌, ◌<◌, ℕ, suc, codes, max, List, [], ◌∷◌, ◌++◌, Some}
use Rattle.arm_value.specs.Json.{Json, Member, nesting, items_nesting, members_nesting}
use Rattle.template_parts.specs.declared.content.Argument.{Argument}
use Rattle.template_parts.specs.declared.mode.Form.{Form}
use Rattle.template_parts.specs.declared.mode.Form.TheVariants.{One, Two}
use Rattle.template_parts.specs.declared.mode.Scope.{Scope}
use Rattle.template_tree.specs.Tree.{Header, TemplateTree, template, ResourceTree, resource, BodyTree, body_members}
use Rattle.template_tree.specs.Tree.{deployment, Trees, no_resources, a_resource}
use Rattle.template_written.specs.Parts.{written_parameter, written_output, written_argument, part_slots}
use Rattle.template_written.specs.Parts.{declaration_slots}
use Rattle.template_written.specs.Slots.{NestsWithin, SlotsNest, an_object, array_unless_empty, put_slots}
use Rattle.template_written.specs.Written.{written, written_each, written_by_symbol, written_resource, written_body}
use Rattle.template_written.specs.Written.{header_slots, text_slots, list_slots, property_slots, deployment_slots}
use Rattle.template_written.specs.Written.{resources_by}
use Rattle.template_nestings.specs.Nestings.{up, listed, parameter_nesting, variable_nesting, output_nesting}
use Rattle.template_nestings.specs.Nestings.{argument_nesting, header_nesting, declaration_nesting, children_nesting}
use Rattle.template_nestings.specs.Nestings.{scope_nesting, properties_nesting, template_nesting, resource_nesting}
use Rattle.template_nestings.specs.Nestings.{body_nesting, trees_nesting}
use Rattle.template_nestings.proofs.NumberLemmas.{most, inside, left_of, right_of, both_of, one_more, at_least}
use Rattle.template_nestings.proofs.PartLemmas.{slots_within, object_within, slots_append, list_within}
use Rattle.template_nestings.proofs.PartLemmas.{parameter_within, all_variables, output_within, argument_within}
use Rattle.template_nestings.proofs.PartLemmas.{declaration_within, version_within, options_within}

-- the lists of a template
lists_within : (n : ℕ) → n < most → (h : Header) → header_nesting h ≤ n → SlotsNest n (list_slots h)
lists_within n l h g =
    let ps = listed parameter_nesting h.parameters in
    let vs = listed variable_nesting h.variables in
    let os = listed output_nesting h.outputs in
    let r = right_of ps (max vs os) n g in (
      list_within parameter_nesting written_parameter parameter_within n l h.parameters (left_of ps (max vs os) n g),
      (
        all_variables n l h.variables (left_of vs os n r),
        (list_within output_nesting written_output output_within n l h.outputs (right_of vs os n r), tt),
      ),
    )

texts_within : (n : ℕ) (h : Header) → SlotsNest n (text_slots h)
texts_within n h = (at_least n, (at_least n, (version_within n h.form, tt)))

-- resources in something that nests so deep
resources_within : (n p : ℕ) (f : Form) (js : List Json) (ms : List Member) → n ≡ suc p → items_nesting js ≤ p
    → members_nesting ms ≤ p → nesting (resources_by f js ms) ≤ n
resources_within n p One js ms e h g = one_more (items_nesting js) n p e h
resources_within n p Two js ms e h g = one_more (members_nesting ms) n p e g

children_within : (n : ℕ) → n < most → (rs : Trees)
    → ((m : ℕ) → m < most → trees_nesting rs ≤ m → items_nesting (written_each rs) ≤ m)
    → children_nesting rs (trees_nesting rs) ≤ n → NestsWithin n (array_unless_empty (written_each rs))
children_within n l no_resources each h = tt
children_within n l (a_resource r rs) each h =
    let p = inside (trees_nesting (a_resource r rs)) n l h in
    one_more (items_nesting (written_each (a_resource r rs))) n p.depth p.is (each p.depth p.small p.within)

-- the properties of a nested deployment whose template nests so deep
properties_within : (n : ℕ) → n < most → (s : Scope) (ps : List Argument) (d : ℕ) (j : Json)
    → ((m : ℕ) → m < most → d ≤ m → nesting j ≤ m) → properties_nesting s ps d ≤ n
    → nesting (an_object (deployment_slots s ps j)) ≤ n
properties_within n l s ps d j each h =
    let rest = max (listed argument_nesting ps) d in
    let p = inside (max (scope_nesting s) rest) n l h in
    let r = right_of (scope_nesting s) rest p.depth p.within in
    object_within n p.depth (deployment_slots s ps j) p.is
    (slots_append p.depth (property_slots s ps) ((codes "template", Some j) ∷ []) (
      at_least p.depth,
      (
        options_within p.depth s (left_of (scope_nesting s) rest p.depth p.within),
        (
          list_within argument_nesting written_argument argument_within p.depth p.small ps
              (left_of (listed argument_nesting ps) d p.depth r),
          tt,
        ),
      ),
    )
    (each p.depth p.small (right_of (listed argument_nesting ps) d p.depth r), tt))

mutual
  pub template_within : (u : TemplateTree) (n : ℕ) → n < most → template_nesting u ≤ n → nesting (written u) ≤ n
  template_within (template h rs) n l g =
      let t = up (trees_nesting rs) in
      let p = inside (max (header_nesting h) t) n l g in
      let q = inside (trees_nesting rs) p.depth p.small (right_of (header_nesting h) t p.depth p.within) in
      let j = resources_by h.form (written_each rs) (written_by_symbol rs) in
      let e = each_within rs q.depth q.small q.within in
      object_within n p.depth (header_slots h j) p.is
      (slots_append p.depth (text_slots h) (list_slots h ++ (codes "resources", Some j) ∷ []) (texts_within p.depth h)
      (slots_append p.depth (list_slots h) ((codes "resources", Some j) ∷ [])
      (lists_within p.depth p.small h (left_of (header_nesting h) t p.depth p.within)) (
        resources_within p.depth q.depth h.form (written_each rs) (written_by_symbol rs) q.is e.0 e.1,
        tt,
      )))

  each_within : (rs : Trees) (n : ℕ) → n < most → trees_nesting rs ≤ n
      → (items_nesting (written_each rs) ≤ n) × (members_nesting (written_by_symbol rs) ≤ n)
  each_within no_resources n l g = (at_least n, at_least n)
  each_within (a_resource r rs) n l g =
      let own = resource_within r n l (left_of (resource_nesting r) (trees_nesting rs) n g) in
      let rest = each_within rs n l (right_of (resource_nesting r) (trees_nesting rs) n g) in (
        both_of (nesting (written_resource r)) (items_nesting (written_each rs)) n own rest.0,
        both_of (nesting (written_resource r)) (members_nesting (written_by_symbol rs)) n own rest.1,
      )

  resource_within : (r : ResourceTree) (n : ℕ) → n < most → resource_nesting r ≤ n → nesting (written_resource r) ≤ n
  resource_within (resource d b rs) n l g =
      let c = children_nesting rs (trees_nesting rs) in
      let rest = max c (body_nesting b) in
      let p = inside (max (declaration_nesting d) rest) n l g in
      let r = right_of (declaration_nesting d) rest p.depth p.within in
      one_more (members_nesting (put_slots (declaration_slots d (written_each rs)) (written_body b))) n p.depth p.is
      (slots_within p.depth (declaration_slots d (written_each rs)) (written_body b)
      (slots_append p.depth (part_slots d) ((codes "resources", array_unless_empty (written_each rs)) ∷ [])
      (declaration_within p.depth p.small d (left_of (declaration_nesting d) rest p.depth p.within)) (
        children_within p.depth p.small rs (λ m k t. (each_within rs m k t).0) (left_of c (body_nesting b) p.depth r),
        tt,
      ))
      (body_within b p.depth p.small (right_of c (body_nesting b) p.depth r)))

  body_within : (b : BodyTree) (n : ℕ) → n < most → body_nesting b ≤ n → members_nesting (written_body b) ≤ n
  body_within (body_members ms) n l g = g
  body_within (deployment s ps t) n l g =
      slots_within n ((codes "properties", Some (an_object (deployment_slots s ps (written t)))) ∷ []) [] (
        properties_within n l s ps (template_nesting t) (written t) (λ m k h. template_within t m k h) g,
        tt,
      ) (at_least n)
