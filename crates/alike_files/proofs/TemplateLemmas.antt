-- What a template has for a file it has for one that differs in the values of parameters and in the list of modules
-- alone.
use Rattle.std.specs.Prelude.{option_and_then}
use Rattle.std.proofs.Common.{◌≡◌, ℕ, Bool, true, false, List, [], ◌∷◌, codes, Option, Some, None, refl, ap, ◌∙◌, subst}
use Rattle.arm_value.specs.Json.{Json, object, pairs}
use Rattle.arm_value.specs.View.{json}
use Rattle.template_parts.specs.declared.content.Argument.{Argument}
use Rattle.template_parts.specs.declared.looping.ResourceCopy.{ResourceCopy}
use Rattle.template_parts.specs.declared.mode.Form.{Form}
use Rattle.template_parts.specs.declared.mode.Form.TheVariants.{One, Two}
use Rattle.template_parts.specs.declared.output.Output.{Output}
use Rattle.template_parts.specs.declared.variable.Variable.{Variable}
use Rattle.template_tree.specs.Tree.{TemplateTree, BodyTree, body_members, deployment}
use Rattle.plan_cells.specs.Resources.{Listed, resource_at}
use Rattle.plan_cells.specs.Sites as template
use Rattle.bicep_resolved.specs.Source.{ValueTree, LoopTree, PropertyTrees}
use Rattle.bicep_declared.specs.Declarations.{DeclaredTree, OutputTree}
use Rattle.bicep_declared.specs.Declarations as d
use Rattle.bicep_meaning.specs.Files.{SourceFile, declaration, type_of}
use Rattle.bicep_meaning.specs.Instances as source
use Rattle.bicep_meaning.specs.Instances.{Put, put_of, body_fields}
use Rattle.bicep_emission.specs.Emitted.{Frame}
use Rattle.emitted_files.specs.Dependencies.{dependencies}
use Rattle.emitted_files.specs.Needs.{is_looped}
use Rattle.source_worlds.specs.Numbers.{symbol_of}
use Rattle.emitted_declarations.specs.Declared.{Emission, whole}
use Rattle.emitted_trees.specs.EmittedTrees.{members_of, value_of, count_of}
use Rattle.emitted_trees.specs.Templates as t
use Rattle.emitted_files.specs.Files.{IsVariable, IsOutput, IsLoop, IsArgument, IsBody, IsResource, IsDependent, argument_named, AreElements, HasSymbol, NoneExist, frames_around, id_by, element_by, module_id}
use Rattle.emitted_files.specs.Values.{AreBoth, IsTree, IsExpression, IsContent, IsCondition, plain_or_expression}
use Rattle.alike_files.specs.Rest.{HasRest}
use Rattle.alike_files.proofs.NumberLemmas.{with_rest, variable_named_same, put_at, dependencies_same}

both : {A B : Type 0} (R S : A → B → Type 0) → ((a : A) (b : B) → R a b → S a b) → (o : Option A) (p : Option B)
    → AreBoth R o p → AreBoth S o p
both R S more None None h = tt
both R S more None (Some b) h = absurd h
both R S more (Some a) None h = absurd h
both R S more (Some a) (Some b) h = more a b h

module _ (f from : SourceFile) (fs gs : List SourceFile) where
  abbrev g : SourceFile
  g = with_rest f from

  abbrev e : Emission
  e = whole f fs

  abbrev b : Emission
  b = whole g gs

  module _ (become : e ≡ b)
      (members : (ps : PropertyTrees) (ts : List Frame)
      → members_of f fs e.scope ps ts ≡ members_of g gs b.scope ps ts)
      (values : (name : Option (List ℕ)) (v : ValueTree) (ts : List Frame)
      → value_of f fs e.scope name v ts ≡ value_of g gs b.scope name v ts)
      (types : (n : ℕ) → type_of f n ≡ type_of g n) where
    variable_is : (v : ValueTree) (q : Variable) → IsVariable fs f v q → IsVariable gs g v q
    variable_is v q h = subst (λ x. IsContent x q.content) (values (Some q.name) v []) h

    output_is : (o : OutputTree) (q : Output) → IsOutput fs f o q → IsOutput gs g o q
    output_is o q h = record {
      content = subst (λ x. IsContent x q.content) (values None o.value []) h.content;
      type = h.type;
      condition = h.condition;
    }

    loop_is : (n : ℕ) (l : LoopTree) (c : ResourceCopy) → IsLoop fs f n l c → IsLoop gs g n l c
    loop_is n l c h = record {
      name = h.name;
      count = subst (λ (x : Emission). IsExpression (count_of (x.scope.items n)) (json c.count)) become h.count;
      batches = h.batches;
    }

    frames_same : (x : Put) → frames_around e x.number x.body.each ≡ frames_around b x.number x.body.each
    frames_same x = ap (λ (y : Emission). frames_around y x.number x.body.each) become

    argument_is : (x : Put) (v : ValueTree) (a : Argument) → IsArgument fs f x v a → IsArgument gs g x v a
    argument_is x v a h =
        subst (λ y. IsContent y a.content)
        (values (Some (codes "value")) v (frames_around e x.number x.body.each)
        ∙ ap (value_of g gs b.scope (Some (codes "value")) v) (frames_same x)) h

    body_is : (x : Put) (y : BodyTree) → IsBody fs f x y → IsBody gs g x y
    body_is x (body_members ms) h = (
      h.0,
      subst (λ y. IsTree (t.object y) (object (pairs ms)))
          (members (body_fields x.body.fields) (frames_around e x.number x.body.each)
          ∙ ap (members_of g gs b.scope (body_fields x.body.fields)) (frames_same x)) h.1,
    )
    body_is x (deployment s xs u) h = record {
      is_deployment = h.is_deployment;
      scope = h.scope;
      arguments = λ name.
          both (IsArgument fs f x) (IsArgument gs g x) (argument_is x)
          (source.argument_of name (declaration f x.number)) (argument_named fs f name xs) (h.arguments name);
    }

    resource_is : (x : Put) (r : Listed) → IsResource fs f x r → IsResource gs g x r
    resource_is x r h = record {
      type = h.type;
      api = h.api;
      is_no_child = h.is_no_child;
      name = subst (λ (y : Emission). IsTree
          (plain_or_expression (y.full_name x.number (frames_around y x.number x.body.each)))
          (json r.declaration.name)) become h.name;
      condition = subst (λ (y : Emission). IsCondition
          (y.condition x.number (frames_around y x.number x.body.each)) r.declaration.condition) become h.condition;
      loop = both (IsLoop fs f x.number) (IsLoop gs g x.number) (loop_is x.number) x.body.each r.declaration.copy
          h.loop;
      content = body_is x r.content h.content;
    }

    -- ---- what a resource depends on

    id_same : (n : ℕ) (o : Option DeclaredTree) → id_by fs f n o ≡ id_by gs g n o
    id_same n None = refl
    id_same n (Some (d.variable at v)) = refl
    id_same n (Some (d.parameter at x)) = refl
    id_same n (Some (d.parameter_with at x y)) = refl
    id_same n (Some (d.a_resource at q existing y)) = ap (λ (x : Emission). x.scope.id n []) become
    id_same n (Some (d.a_module at y)) = ap (λ (x : Emission). module_id (x.scope.name n [])) become

    element_same : (z : Form) (looped : Bool) (n : ℕ) → element_by fs f z looped n ≡ element_by gs g z looped n
    element_same Two looped n = refl
    element_same One true n = refl
    element_same One false n = ap (λ x. t.expression x) (id_same n (declaration f n))

    elements_are : (z : Form) (ns : List ℕ) (js : List Json) → AreElements fs f z ns js → AreElements gs g z ns js
    elements_are z [] [] h = tt
    elements_are z [] (j ∷ js) h = absurd h
    elements_are z (n ∷ ns) [] h = absurd h
    elements_are z (n ∷ ns) (j ∷ js) h =
        (subst (λ x. IsTree x j) (element_same z (is_looped f n) n) h.0, elements_are z ns js h.1)

    symbol_is : (z : Form) (n : ℕ) (o : Option (List ℕ)) → HasSymbol fs f z n o → HasSymbol gs g z n o
    symbol_is One n o h = h
    symbol_is Two n o h = h

    dependent_is : (z : Form) (x : Put) (r : Listed) → IsDependent fs f z x r → IsDependent gs g z x r
    dependent_is z x r h = record {
      symbol = symbol_is z x.number r.declaration.symbol h.symbol;
      depends_on = subst (λ ns. AreElements gs g z ns r.declaration.depends_on)
          (dependencies_same f from types x.number)
          (elements_are z (dependencies f x.number) r.declaration.depends_on h.depends_on);
    }

    none_is : (z : Form) (u : TemplateTree) → NoneExist fs f z u → NoneExist gs g z u
    none_is One u h = h
    none_is Two u h = h

    pub rest_is : (z : Form) (u : TemplateTree) → HasRest fs f z u → HasRest gs g z u
    rest_is z u h = record {
      form = h.form;
      variables = λ x.
          subst (λ o. AreBoth (IsVariable gs g) o (template.variable_named x u)) (variable_named_same f from x)
          (both (IsVariable fs f) (IsVariable gs g) variable_is (source.variable_named x f)
          (template.variable_named x u) (h.variables x));
      outputs = λ x.
          both (IsOutput fs f) (IsOutput gs g) output_is (source.output_folded f x) (template.output_named x u)
          (h.outputs x);
      resources = λ m.
          subst (λ o. AreBoth (IsResource gs g) o (resource_at u m)) (put_at f from types z m)
          (both (IsResource fs f) (IsResource gs g) resource_is
          (option_and_then (λ n. put_of n f) (symbol_of z f m)) (resource_at u m) (h.resources m));
      dependents = λ m.
          subst (λ o. AreBoth (IsDependent gs g z) o (resource_at u m)) (put_at f from types z m)
          (both (IsDependent fs f z) (IsDependent gs g z) (dependent_is z)
          (option_and_then (λ n. put_of n f) (symbol_of z f m)) (resource_at u m) (h.dependents m));
      none_exist = none_is z u h.none_exist;
    }
