-- How the logic stores a tree. No clause reads these words.
use Rattle.std.specs.Prelude.{◌≡◌, ◌≢◌, ℕ, List, refl}
use Rattle.std.proofs.Common.{ap, arith}
use Rattle.std.specs.Coded.{Coded, code_by, coded×, coded_ℕ, coded_list}
use base.Stored.{Gv, gnil, gnum, gcons}
use Rattle.arm_value.specs.JsonCode.{members_code}
use Rattle.template_parts.specs.contracts.content.Argument as argument
use Rattle.template_parts.specs.contracts.declaration.Declaration as declaration
use Rattle.template_parts.specs.contracts.mode.Form as form
use Rattle.template_parts.specs.contracts.mode.Scope as scope
use Rattle.template_parts.specs.contracts.output.Output as output
use Rattle.template_parts.specs.contracts.parameter.Parameter as parameter
use Rattle.template_parts.specs.contracts.variable.Variable as variable
use Rattle.template_parts.specs.declared.mode.Form.{Form}
use Rattle.template_parts.specs.declared.output.Output.{Output}
use Rattle.template_parts.specs.declared.parameter.Parameter.{Parameter}
use Rattle.template_parts.specs.declared.variable.Variable.{Variable}
use Rattle.template_tree.specs.Tree.{Header, TemplateTree, template, ResourceTree, resource, BodyTree, body_members}
use Rattle.template_tree.specs.Tree.{deployment, Trees, no_resources, a_resource}

abbrev head : Gv → Gv
head gnil = gnil
head (gnum n) = gnil
head (gcons a b) = a

abbrev tail : Gv → Gv
tail gnil = gnil
tail (gnum n) = gnil
tail (gcons a b) = b

apart : (m n : ℕ) {a b : Gv} → gcons (gnum m) a ≡ gcons (gnum n) b → m ≢ n → ⊥
apart m n p other = other (cc)

abbrev header_code : Coded Header
header_code =
    code_by (Form × (List ℕ × (List ℕ × (List Parameter × (List Variable × List Output)))))
    (coded× form.the_row.coded (coded× (coded_list coded_ℕ) (coded× (coded_list coded_ℕ)
    (coded× (coded_list parameter.the_row.coded) (coded× (coded_list variable.the_row.coded)
    (coded_list output.the_row.coded))))))
    (λ h. (h.form, (h.schema, (h.content_version, (h.parameters, (h.variables, h.outputs))))))
    (λ p. record {
      form = p.0;
      schema = p.1.0;
      content_version = p.1.1.0;
      parameters = p.1.1.1.0;
      variables = p.1.1.1.1.0;
      outputs = p.1.1.1.1.1;
    })
    (λ _. refl)

abbrev mutual
  pub from_template : TemplateTree → Gv
  from_template (template h rs) = gcons (header_code.code h) (from_trees rs)

  pub from_resource : ResourceTree → Gv
  from_resource (resource d b rs) = gcons (declaration.the_row.coded.code d) (gcons (from_body b) (from_trees rs))

  pub from_body : BodyTree → Gv
  from_body (body_members ms) = gcons (gnum 0) (members_code.code ms)
  from_body (deployment s ps t) =
      gcons (gnum 1) (gcons (scope.the_row.coded.code s)
      (gcons ((coded_list argument.the_row.coded).code ps) (from_template t)))

  pub from_trees : Trees → Gv
  from_trees no_resources = gnil
  from_trees (a_resource r rs) = gcons (from_resource r) (from_trees rs)

mutual
  pub template_inj : (x y : TemplateTree) → from_template x ≡ from_template y → x ≡ y
  template_inj (template h rs) (template i qs) p =
      λ t. template (header_code.inj h i (ap (λ g. head g) p) t) (trees_inj rs qs (ap (λ g. tail g) p) t)

  pub resource_inj : (x y : ResourceTree) → from_resource x ≡ from_resource y → x ≡ y
  resource_inj (resource d b rs) (resource e c qs) p =
      λ t. resource (declaration.the_row.coded.inj d e (ap (λ g. head g) p) t)
      (body_inj b c (ap (λ g. head (tail g)) p) t) (trees_inj rs qs (ap (λ g. tail (tail g)) p) t)

  pub body_inj : (x y : BodyTree) → from_body x ≡ from_body y → x ≡ y
  body_inj (body_members ms) (body_members ns) p = λ t. body_members (members_code.inj ms ns (ap (λ g. tail g) p) t)
  body_inj (body_members ms) (deployment s ps u) p = absurd (apart 0 1 p (omega arith))
  body_inj (deployment s ps u) (body_members ms) p = absurd (apart 1 0 p (omega arith))
  body_inj (deployment s ps u) (deployment r qs v) p =
      λ t. deployment (scope.the_row.coded.inj s r (ap (λ g. head (tail g)) p) t)
      ((coded_list argument.the_row.coded).inj ps qs (ap (λ g. head (tail (tail g))) p) t)
      (template_inj u v (ap (λ g. tail (tail (tail g))) p) t)

  pub trees_inj : (x y : Trees) → from_trees x ≡ from_trees y → x ≡ y
  trees_inj no_resources no_resources p = refl
  trees_inj no_resources (a_resource r rs) p = absurd (cc)
  trees_inj (a_resource r rs) no_resources p = absurd (cc)
  trees_inj (a_resource r rs) (a_resource q qs) p =
      λ t. a_resource (resource_inj r q (ap (λ g. head g) p) t) (trees_inj rs qs (ap (λ g. tail g) p) t)

abbrev pub resource_code : Coded ResourceTree
resource_code = record { code = from_resource; inj = resource_inj }

abbrev pub trees_code : Coded (List ResourceTree)
trees_code = coded_list resource_code
