-- What is beyond no limit fits.
use Rattle.std.proofs.Common.{◌≡◌, ◌≤◌, ◌+◌, ℕ, suc, Bool, true, false, List, [], length, Option, codes}
use Rattle.std.proofs.Common.{Some, None, refl, subst, arith}
use Rattle.std.specs.Prelude.{option_and_then, if◌then◌else◌}
use Rattle.std.proofs.lemmas.Option.{slice_get_within}
use Rattle.arm_value.specs.declared.value.Value.{Value}
use Rattle.template_parts.specs.declared.mode.Form.{Form}
use Rattle.template_parts.specs.declared.parameter.Parameter.{Parameter}
use Rattle.bicep_tree.specs.declared.leaf.Quoted.{Quoted}
use Rattle.bicep_tree.specs.declared.leaf.TypeName.{TypeName}
use Rattle.bicep_resolved.specs.Source.{SourceTree, ValueTree, PropertyTrees}
use Rattle.bicep_resolved.specs.Source as s
use Rattle.bicep_declared.specs.Declarations.{BodyTree, DeclaredTree}
use Rattle.bicep_declared.specs.Declarations as d
use Rattle.bicep_meaning.specs.Files.{declaration}
use Rattle.bicep_meaning.specs.Instances as source
use Rattle.bicep_meaning.specs.Instances.{variable_by}
use Rattle.emitted_trees.specs.Templates.{TemplateTree, TemplateValue}
use Rattle.emitted_trees.specs.Templates as t
use Rattle.measured_trees.specs.Extremes.{Extremes, joined, enclosed, tree_extremes, value_extremes}
use Rattle.measured_trees.specs.Limits.{IsPrintable}
use Rattle.measured_trees.proofs.WithinLemmas.{tree_small, value_small, tree_printed, value_printed}
use Rattle.tree_building.specs.Depth.{depth, value_depth, members_depth}
use Rattle.tree_building.specs.Each.{Each, EachOfValue}
use Rattle.tree_building.specs.Sight.{tree, value}
use Rattle.printable_files.specs.Printable.{MembersHavePrintable}
use Rattle.emitted_templates.specs.Arguments.{arguments_in, argument_value, arguments_extremes, ArgumentsFit}
use Rattle.emitted_templates.specs.Buildable.{MayBeBuilt, TreeMayBeBuilt}
use Rattle.emitted_templates.specs.Files.{frames_around}
use Rattle.emitted_templates.specs.Filled.{emission_sight}
use Rattle.emitted_templates.specs.Fits.{FitsBy}
use Rattle.emitted_templates.specs.Limits.{head_extremes, resource_extremes, members_at, MembersFit, ResourceIsWithin}
use Rattle.emitted_templates.specs.Lists.{VariablesFit, OutputsFit, DefaultsFit, entry_at, default_of, rule_at}
use Rattle.emitted_templates.specs.Seen.{Shape, file_in, whole_in}
use Rattle.emitted_templates.specs.Within.{IsWithinBy, IsWithin}
use Rattle.file_limits.specs.Extremes as x
use Rattle.file_limits.specs.Extremes.{declared_extremes, declaration_extremes, output_extremes, file_extremes}
use Rattle.file_limits.specs.Extremes.{all_declarations, all_outputs}
use Rattle.file_limits.specs.Limited.{AllIsPrintable, AllFits}
use Rattle.file_limits.proofs.PartLemmas.{Within, first_part, second_part, inside, one_of}
use Rattle.file_limits.proofs.PrintLemmas.{Printed, around, output_printed, default_printed, variable_printed}
use Rattle.file_limits.proofs.PrintLemmas.{body_printed, arguments_printed}
use Rattle.file_limits.proofs.HeadLemmas.{existing_within, head_within, needs_within}

-- ---- values

nests : (i n : ℕ) → suc i + n ≤ 120 → n ≤ 119
nests i n h = omega (arith, h)

value_fits : (i : ℕ) (v : TemplateValue) → EachOfValue IsPrintable v → Within (suc i) (value_extremes v) → MayBeBuilt v
value_fits i v p h = record {
  within = value_printed v p (value_small v h.0 h.1.1);
  nests = nests i (value_depth v) h.1.0;
}

tree_fits : (i : ℕ) (e : TemplateTree) → Each IsPrintable e → Within (suc i) (tree_extremes e) → TreeMayBeBuilt e
tree_fits i e p h = record {
  within = tree_printed e p (tree_small e h.0 h.1.1);
  nests = nests i (depth e) h.1.0;
}

four : (i : ℕ) → suc (suc (suc (suc i))) ≡ i + 4
four i = omega arith

flat : (i m : ℕ) → i + suc m ≤ 120 → m ≤ 119
flat i m h = omega (arith, h)

module _ (g : Form) (z : Shape) (rs : List (Option Parameter)) (ms os : List (Option Value)) (inner : ℕ → Extremes)
    (i : ℕ)
    (h : Within i (file_extremes g z rs ms os inner)) where
  parts : Within (suc (suc i)) (x.parts_extremes g z rs ms os inner)
  parts =
      inside (suc i) (x.parts_extremes g z rs ms os inner) (inside i (enclosed (x.parts_extremes g z rs ms os inner)) h)

  all_declared : Within (suc (suc i)) (all_declarations g z rs ms inner)
  all_declared = first_part (suc (suc i)) (all_declarations g z rs ms inner) (all_outputs z os) parts

  outputs_within : Within (suc (suc i)) (all_outputs z os)
  outputs_within = second_part (suc (suc i)) (all_declarations g z rs ms inner) (all_outputs z os) parts

  declared_within : (n : ℕ) (c : DeclaredTree) → declaration (file_in z) n ≡ Some c
      → Within (suc (suc i)) (declared_extremes g z rs ms inner n (Some c))
  declared_within n c e =
      let ds = (file_in z).declared.declarations in
      subst (λ o. Within (suc (suc i)) (declared_extremes g z rs ms inner n o)) e
      (one_of (suc (suc i)) (declaration_extremes g z rs ms inner) (length ds) n (slice_get_within ds n c e)
      all_declared)

  -- the template of a module
  inner_within : (n at : ℕ) (b : BodyTree) → declaration (file_in z) n ≡ Some (d.a_module at b)
      → Within (suc (suc (suc (suc i)))) (inner n)
  inner_within n at b q =
      let j = suc (suc i) in
      let args = x.argument_extremes z n b in
      let properties = x.properties_extremes z n b (inner n) in
      let all = first_part j (x.module_extremes g z n b (inner n)) (x.noted (x.metadata_at ms n))
      (declared_within n (d.a_module at b) q) in
      let rest = second_part j (head_extremes (whole_in z) n b.each)
      (joined (x.needs_extremes g z n b) (enclosed properties)) all in
      let object = inside j properties (second_part j (x.needs_extremes g z n b) (enclosed properties) rest) in
      second_part (suc (suc j)) (enclosed (enclosed args)) (inner n)
      (inside (suc j) (joined (enclosed (enclosed args)) (inner n)) object)

  pub template_within : (n at : ℕ) (b : BodyTree) → declaration (file_in z) n ≡ Some (d.a_module at b)
      → Within (i + 4) (inner n)
  template_within n at b q = subst (λ j. Within j (inner n)) (four i) (inner_within n at b q)

module _ (g : Form) (z : Shape) (rs : List (Option Parameter)) (ms os : List (Option Value)) (inner : ℕ → Extremes)
    (i : ℕ) (a : AllIsPrintable z)
    (p : Printed z) (h : Within i (file_extremes g z rs ms os inner)) where
  declaration_within : (n : ℕ) (c : DeclaredTree) → declaration (file_in z) n ≡ Some c
      → Within (suc (suc i)) (declared_extremes g z rs ms inner n (Some c))
  declaration_within = declared_within g z rs ms os inner i h

  -- without metadata
  resource_within : (n at : ℕ) (w : Quoted) (b : BodyTree)
      → declaration (file_in z) n ≡ Some (d.a_resource at w false b) → Within (suc (suc i)) (x.put_extremes g z n b)
  resource_within n at w b q =
      first_part (suc (suc i)) (x.put_extremes g z n b) (x.noted (x.metadata_at ms n))
      (declaration_within n (d.a_resource at w false b) q)

  module_within : (n at : ℕ) (b : BodyTree) → declaration (file_in z) n ≡ Some (d.a_module at b)
      → Within (suc (suc i)) (x.module_extremes g z n b (inner n))
  module_within n at b q =
      first_part (suc (suc i)) (x.module_extremes g z n b (inner n)) (x.noted (x.metadata_at ms n))
      (declaration_within n (d.a_module at b) q)

  output_fits : (b : Bool) (v : TemplateValue) → EachOfValue IsPrintable v
      → Within (suc (suc i)) (x.output_object b (value_extremes v)) → MayBeBuilt v
  output_fits false v q w = value_fits (suc (suc i)) v q (inside (suc (suc i)) (value_extremes v) w)
  output_fits true v q w = value_fits (suc i) v q w

  outputs_fit : OutputsFit z
  outputs_fit n o e =
      output_fits (x.is_loop o.value) (value (emission_sight z) None o.value []) (output_printed z a p n o e)
      (first_part (suc (suc i)) (x.content_extremes z o.value) (x.noted (x.metadata_at os n))
      (subst (λ q. Within (suc (suc i)) (x.output_value z (x.metadata_at os n) q)) e
      (one_of (suc (suc i)) (output_extremes z os) (length (file_in z).declared.outputs) n
      (slice_get_within (file_in z).declared.outputs n o e) (outputs_within g z rs ms os inner i h))))

  -- ---- declarations

  default_fits : (n : ℕ) (e : SourceTree) → Each IsPrintable (tree (emission_sight z) e []) → default_of z n ≡ Some e
      → Within (suc (suc i)) (x.ruled_extremes z rs n) → TreeMayBeBuilt (tree (emission_sight z) e [])
  default_fits n e q is w =
      let rest = x.plain (x.rule_depth (rule_at z rs n)) in
      tree_fits (suc (suc i)) (tree (emission_sight z) e []) q
      (subst (λ o. Within (suc (suc (suc i))) (x.default_extremes z o)) is
      (first_part (suc (suc (suc i))) (x.default_in z n) rest
      (inside (suc (suc i)) (joined (x.default_in z n) rest) w)))

  defaults_fit : DefaultsFit z
  defaults_fit n e is = by_declaration (declaration (file_in z) n) refl is
    where
      by_default : (at : ℕ) (t : TypeName) (f : SourceTree) → declaration (file_in z) n ≡ Some (d.parameter_with at t f)
          → Some f ≡ Some e → TreeMayBeBuilt (tree (emission_sight z) e [])
      by_default at t f q g =
          default_fits n e
          (subst (λ o. printed o) g (default_printed z a p n at t f q)) is
          (declaration_within n (d.parameter_with at t f) q)
        where
          printed : Option SourceTree → Type 0
          printed None = Unit {0}
          printed (Some f) = Each IsPrintable (tree (emission_sight z) f [])

      by_declaration : (o : Option DeclaredTree) → declaration (file_in z) n ≡ o
          → option_and_then source.default_of o ≡ Some e → TreeMayBeBuilt (tree (emission_sight z) e [])
      by_declaration None q g = absurd cc
      by_declaration (Some (d.parameter at t)) q g = absurd cc
      by_declaration (Some (d.parameter_with at t f)) q g = by_default at t f q g
      by_declaration (Some (d.variable at v)) q g = absurd cc
      by_declaration (Some (d.a_resource at w existing b)) q g = absurd cc
      by_declaration (Some (d.a_module at b)) q g = absurd cc

  variables_fit : VariablesFit z
  variables_fit n name v is named = by_declaration (declaration (file_in z) n) refl is
    where
      fits : (at : ℕ) (u : ValueTree) → declaration (file_in z) n ≡ Some (d.variable at u)
          → EachOfValue IsPrintable (value (emission_sight z) (Some name) v [])
          → MayBeBuilt (value (emission_sight z) (Some name) v [])
      fits at u q r =
          value_fits (suc i) (value (emission_sight z) (Some name) v []) r
          (subst (λ o. Within (suc (suc i)) (x.entry_extremes z (Some name) o)) is
          (subst (λ o. Within (suc (suc i)) (x.entry_extremes z o (entry_at z n))) named
          (declaration_within n (d.variable at u) q)))

      chosen : (at : ℕ) (u : ValueTree) (b : Bool) → declaration (file_in z) n ≡ Some (d.variable at u)
          → (if b then Some u else None) ≡ Some v → MayBeBuilt (value (emission_sight z) (Some name) v [])
      chosen at u false q g = absurd cc
      chosen at u true q g = fits at u q (subst (λ o. printed o) g (variable_printed z a p n at name u q))
        where
          printed : Option ValueTree → Type 0
          printed None = Unit {0}
          printed (Some w) = EachOfValue IsPrintable (value (emission_sight z) (Some name) w [])

      by_declaration : (o : Option DeclaredTree) → declaration (file_in z) n ≡ o
          → variable_by (file_in z) n o ≡ Some v → MayBeBuilt (value (emission_sight z) (Some name) v [])
      by_declaration None q g = absurd cc
      by_declaration (Some (d.parameter at t)) q g = absurd cc
      by_declaration (Some (d.parameter_with at t f)) q g = absurd cc
      by_declaration (Some (d.variable at u)) q g = chosen at u ((file_in z).has_entry n) q g
      by_declaration (Some (d.a_resource at w existing b)) q g = absurd cc
      by_declaration (Some (d.a_module at b)) q g = absurd cc

  -- ---- arguments of modules

  arguments_fit : (j n : ℕ) (b : BodyTree) (ps : PropertyTrees) → MembersHavePrintable ps
      → Within (suc j) (arguments_extremes (emission_sight z) (frames_around (whole_in z) n b.each) ps)
      → ArgumentsFit (emission_sight z) (frames_around (whole_in z) n b.each) ps
  arguments_fit j n b s.no_property q w = tt
  arguments_fit j n b (s.property at name v ps) q w =
      let fs = frames_around (whole_in z) n b.each in
      let u = argument_value (emission_sight z) v fs in
      let r = arguments_extremes (emission_sight z) fs ps in (
        value_fits j u (p.values (Some (codes "value")) v fs (q.0.0, q.1.0) (around z a p n b.each))
            (first_part (suc j) (value_extremes u) r w),
        arguments_fit j n b ps (q.0.1, q.1.1) (second_part (suc j) (value_extremes u) r w),
      )

  module_fits : (n at : ℕ) (b : BodyTree) → declaration (file_in z) n ≡ Some (d.a_module at b)
      → ArgumentsFit (emission_sight z) (frames_around (whole_in z) n b.each) (arguments_in b.fields)
  module_fits n at b q =
      let j = suc (suc i) in
      let args = x.argument_extremes z n b in
      let template = inner n in
      let properties = x.properties_extremes z n b template in
      let rest = second_part j (head_extremes (whole_in z) n b.each)
      (joined (x.needs_extremes g z n b) (enclosed properties)) (module_within n at b q) in
      let object = inside j properties (second_part j (x.needs_extremes g z n b) (enclosed properties) rest) in
      let members = inside (suc j) (joined (enclosed (enclosed args)) template) object in
      let given = first_part (suc (suc j)) (enclosed (enclosed args)) template members in
      arguments_fit (suc (suc (suc j))) n b (arguments_in b.fields) (arguments_printed z a p n at b q)
      (inside (suc (suc (suc j))) args (inside (suc (suc j)) (enclosed args) given))

  -- ---- resources

  members_within : (n at : ℕ) (w : Quoted) (b : BodyTree) → declaration (file_in z) n ≡ Some (d.a_resource at w false b)
      → Within (suc (suc i)) (tree_extremes (t.object (members_at z n b)))
  members_within n at w b q =
      second_part (suc (suc i)) (head_extremes (whole_in z) n b.each) (tree_extremes (t.object (members_at z n b)))
      (first_part (suc (suc i)) (resource_extremes z n b) (x.needs_extremes g z n b)
      (resource_within n at w b q))

  members_fit : (n : ℕ) (b : BodyTree) → Within (suc (suc i)) (tree_extremes (t.object (members_at z n b)))
      → MembersFit (members_at z n b)
  members_fit n b w = record {
    small = tree_small (t.object (members_at z n b)) w.0 w.1.1;
    nests = flat (suc (suc i)) (members_depth (members_at z n b)) w.1.0;
  }

  bodies_fit : (n : ℕ) → FitsBy z n (declaration (file_in z) n)
  bodies_fit n = by_declaration (declaration (file_in z) n) refl
    where
      by_declaration : (o : Option DeclaredTree) → declaration (file_in z) n ≡ o → FitsBy z n o
      by_declaration None q = tt
      by_declaration (Some (d.parameter at t)) q = tt
      by_declaration (Some (d.parameter_with at t f)) q = tt
      by_declaration (Some (d.variable at v)) q = tt
      by_declaration (Some (d.a_resource at w true b)) q = tt
      by_declaration (Some (d.a_resource at w false b)) q = members_fit n b (members_within n at w b q)
      by_declaration (Some (d.a_module at b)) q = module_fits n at b q

  all_within : (n : ℕ) → IsWithin g z n
  all_within n = by_declaration (declaration (file_in z) n) refl
    where
      put_within : (at : ℕ) (w : Quoted) (b : BodyTree) → declaration (file_in z) n ≡ Some (d.a_resource at w false b)
          → ResourceIsWithin z n b
      put_within at w b q =
          let ms = members_within n at w b q in
          let object = t.object (members_at z n b) in
          record {
            head =
                head_within z a p (suc (suc i)) n b.each
                (first_part (suc (suc i)) (head_extremes (whole_in z) n b.each) (tree_extremes object)
                (first_part (suc (suc i)) (resource_extremes z n b) (x.needs_extremes g z n b)
                (resource_within n at w b q)));
            body = tree_printed object (body_printed z a p n at w false b q) (tree_small object ms.0 ms.1.1);
          }

      by_declaration : (o : Option DeclaredTree) → declaration (file_in z) n ≡ o → IsWithinBy g z n o
      by_declaration None q = tt
      by_declaration (Some (d.parameter at t)) q = tt
      by_declaration (Some (d.parameter_with at t f)) q = tt
      by_declaration (Some (d.variable at v)) q = tt
      by_declaration (Some (d.a_resource at w true b)) q =
          existing_within z a p g (suc (suc i)) n b (x.metadata_at ms n)
          (declaration_within n (d.a_resource at w true b) q)
      by_declaration (Some (d.a_resource at w false b)) q = (
        put_within at w b q,
        needs_within z a p g (suc (suc i)) n b
            (second_part (suc (suc i)) (resource_extremes z n b) (x.needs_extremes g z n b)
            (resource_within n at w b q)),
      )
      by_declaration (Some (d.a_module at b)) q =
          let j = suc (suc i) in
          let head = head_extremes (whole_in z) n b.each in
          let needs = x.needs_extremes g z n b in
          let properties = enclosed (x.properties_extremes z n b (inner n)) in
          let all = module_within n at b q in (
            head_within z a p j n b.each (first_part j head (joined needs properties) all),
            needs_within z a p g j n b
                (first_part j needs properties (second_part j head (joined needs properties) all)),
          )

  pub all_fit : AllFits g z
  all_fit = record {
    defaults = defaults_fit;
    variables = variables_fit;
    outputs = outputs_fit;
    bodies = bodies_fit;
    within = all_within;
  }
