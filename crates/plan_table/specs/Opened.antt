-- What is kept of the scopes that are there.
use Rattle.std.specs.Prelude.{◌≡◌, ℕ, ◌<◌, ◌≤◌, Bool, true, false, not, List, [], ◌∷◌, ◌++◌, map, slice_index_or, Some}
use Rattle.std.specs.Prelude.{if◌then◌else◌}
use Rattle.arm_env.specs.declared.env.Looping.{Looping}
use Rattle.template_parts.specs.declared.mode.Form.TheVariants.{One}
use Rattle.template_tree.specs.Tree.{TemplateTree, template, no_resources}
use Rattle.template_tree.specs.View.{template_tree}
use Rattle.plan_filling.specs.Cells.{Step, step, Position}
use Rattle.plan_filling.specs.Resources.{Listed, Nested, resources_in}
use Rattle.plan_filling.specs.Scopes.{template_at, owner, loops_around, loop_of, is_outer_scope}
use Rattle.plan_filling.specs.Meaning as meaning
use Rattle.plan_filling.specs.Meaning.{is_own}
use Rattle.template_tree.specs.declared.resource.Deployment.{Deployment}
use Rattle.plan_table.specs.declared.frame.Frame.{Frame}
use Rattle.plan_table.specs.declared.frame.Instance.{Instance}
use Rattle.plan_table.specs.Listed.{listed_of}

-- a scope that is there: its position, its template and the resources of it; the number of the scope around, and of the
-- one whose parameters and variables its expressions see; the loops around; and whether it has some of its own
pub record Opened : Type 0 where
  pub position : Position
  pub template : TemplateTree
  pub resources : List Listed
  pub around : ℕ
  pub owner : ℕ
  pub loops : List Looping
  pub is_own : Bool

abbrev pub step_of : Instance → Step
step_of i = step i.resource i.copy

abbrev pub opened_of : Frame → Opened
opened_of f = record {
  position = map step_of f.position.items;
  template = template_tree f.template.now;
  resources = map listed_of f.resources.items;
  around = f.around;
  owner = f.owner;
  loops = f.loops.items;
  is_own = f.own;
}

abbrev pub blank : Opened
blank = record {
  position = [];
  template = template (record {
    form = One;
    schema = [];
    content_version = [];
    parameters = [];
    variables = [];
    outputs = [];
  }) no_resources;
  resources = [];
  around = 0;
  owner = 0;
  loops = [];
  is_own = false;
}

abbrev pub opened_at : List Opened → ℕ → Opened
opened_at os f = slice_index_or os f blank

-- the root
abbrev pub root_of : TemplateTree → Opened
root_of t = record {
  position = [];
  template = t;
  resources = resources_in t;
  around = 0;
  owner = 0;
  loops = [];
  is_own = true;
}

-- the nested deployment of the code
abbrev pub nested_view : Deployment → Nested
nested_view d = record { scope = d.scope; arguments = d.parameters; template = template_tree d.template }

abbrev pub owner_inside : Bool → ℕ → ℕ → ℕ
owner_inside outer around own = if outer then around else own

abbrev pub loops_within : Bool → List Looping → List Looping
loops_within outer ls = if outer then ls else []

-- the scope number g, which an instance of a nested deployment opens in the scope number f
abbrev pub inside_of : ℕ → ℕ → Opened → Listed → ℕ → ℕ → Nested → Opened
inside_of f g o x r i n = record {
  position = step r i ∷ o.position;
  template = n.template;
  resources = resources_in n.template;
  around = f;
  owner = owner_inside (is_outer_scope n.scope) o.owner g;
  loops = loops_within (is_outer_scope n.scope) (loop_of (Some x) i ++ o.loops);
  is_own = not (is_outer_scope n.scope);
}

-- the number of the scope around
abbrev pub IsAround : List Opened → ℕ → Opened → Position → Type 0
IsAround os f o [] = f ≡ 0
IsAround os f o (s ∷ p) = (o.around < f) × ((opened_at os o.around).position ≡ p)

-- a scope is kept as it is
pub record IsKept (d : meaning.Deployment) (os : List Opened) (f : ℕ) (o : Opened) : Type 0 where
  pub template : template_at d.template o.position ≡ Some o.template
  pub resources : o.resources ≡ resources_in o.template
  pub around : IsAround os f o o.position
  pub owner_listed : o.owner ≤ f
  pub owner : (opened_at os o.owner).position ≡ owner d.template o.position
  pub loops : o.loops ≡ loops_around d.template o.position
  pub own : o.is_own ≡ is_own d o.position
