-- What the values of elements of `dependsOn` name.
use Rattle.std.specs.Prelude.{◌≡◌, ◌&&◌, ◌||◌, ℕ, Bool, true, false, List, Option, Some, None, is_some}
use Rattle.std.specs.List.{list_any}
use Rattle.arm_value.specs.Json.{Json, text}
use Rattle.arm_ids.specs.declared.id.ResourceId.{ResourceId}
use Rattle.arm_eval.specs.Titles.{number_from}
use Rattle.reading.specs.Knowledge.{known, value, told}
use Rattle.template_parts.specs.declared.declaration.Declaration.{Declaration}
use Rattle.template_parts.specs.declared.mode.Form.{Form}
use Rattle.template_parts.specs.declared.mode.Form.TheVariants.{One, Two}
use Rattle.template_tree.specs.Tree.{TemplateTree}
use Rattle.deploy_cells.specs.Cells.{Step, Position, name}
use Rattle.deploy_cells.specs.Guarded.{Reads}
use Rattle.deploy_cells.specs.Puts.{key_at}
use Rattle.deploy_cells.specs.Same.{same_id}
use Rattle.plan_cells.specs.Resources.{Listed, resources_in}
use Rattle.plan_cells.specs.Scopes.{template_at, resource_of}
use Rattle.plan_cells.specs.Sites.{form_at}
use Rattle.plan_cells.specs.Known.{Table}
use Rattle.plan_cells.specs.Meaning.{Deployment}
use Rattle.plan_cells.specs.Needs.{is_loop, is_symbol, is_element, with_text, value_names}
use Rattle.plan_refusals.specs.InOrder.{is_in}
use Rattle.plan_faults.specs.Known.{IsElementAt}

-- whether the text is the index of an element in brackets after the symbolic name
abbrev pub is_indexed : List ℕ → Option ℕ → Option (List ℕ) → Bool
is_indexed t None x = false
is_indexed t (Some i) x = is_element t i true x

-- whether the text is the symbolic name of the resource; of an existing one that has a loop, also with an index
abbrev pub is_titled_by : List ℕ → Declaration → Bool
is_titled_by t r =
    is_symbol t r.symbol || (r.existing && (is_some r.copy && is_indexed t (number_from None t) r.symbol))

abbrev pub has_symbol : List ℕ → Option TemplateTree → Bool
has_symbol t None = false
has_symbol t (Some u) = list_any (λ r. is_titled_by t r.declaration) (resources_in u)

-- whether the text is the name of a loop in the first form, or a symbolic name in the second: it names what has that
-- name, even where this has no instance
abbrev pub is_title : Form → Option TemplateTree → List ℕ → Bool
is_title One u t = is_loop t u
is_title Two u t = has_symbol t u

module _ (d : Deployment) (q : Table) where
  abbrev pub is_title_at : Position → Json → Bool
  is_title_at p v = with_text (is_title (form_at (template_at d.template p)) (template_at d.template p)) v

  -- the value names an instance of a scope, whether this is included or not
  pub record IsNamed (p : Position) (v : Json) (s : Step) (k : ResourceId) : Type 0 where
    pub listed : Listed
    pub is_listed : resource_of d.template p s.resource ≡ Some listed
    pub title : List ℕ
    pub has_name : q (name p s) ≡ known (text title)
    pub names : value_names (form_at (template_at d.template p)) d.place (template_at d.template p) v listed s.copy
        (text title) ≡ true
    pub has_key : key_at d.place listed.type title ≡ k

  -- the element of `dependsOn` at a path is of an instance that is included, and names nothing
  pub record IsUnknown (path : List ℕ) : Type 0 where
    pub reading : Reads Json
    pub is_element : IsElementAt d path reading
    pub is_included : is_in q is_element.position is_element.instance ≡ true
    pub given : Json
    pub has : told q reading ≡ value given
    pub no_title : is_title_at is_element.position given ≡ false
    pub no_instance : (s : Step) (k : ResourceId) → IsNamed is_element.position given s k → ⊥

  -- it is of an instance that is included, is no name of a loop, and names instances with two keys
  pub record IsAmbiguous (path : List ℕ) : Type 0 where
    pub reading : Reads Json
    pub is_element : IsElementAt d path reading
    pub is_included : is_in q is_element.position is_element.instance ≡ true
    pub given : Json
    pub has : told q reading ≡ value given
    pub no_title : is_title_at is_element.position given ≡ false
    pub one : Step
    pub one_key : ResourceId
    pub is_one : IsNamed is_element.position given one one_key
    pub other : Step
    pub other_key : ResourceId
    pub is_other : IsNamed is_element.position given other other_key
    pub differ : same_id one_key other_key ≡ false
