-- Heads of resources and elements of `dependsOn` that are beyond no limit can be read back.
use Rattle.std.proofs.Common.{ℕ, suc, true, false, Bool, List, [], ◌∷◌, Option, Some, None, refl, codes}
use Rattle.arm_expr.specs.Tree.{Tree}
use Rattle.arm_value.specs.declared.value.Value.{Value}
use Rattle.template_parts.specs.declared.mode.Form.{Form}
use Rattle.template_parts.specs.declared.mode.Form.TheVariants.{One, Two}
use Rattle.bicep_resolved.specs.Source.{LoopTree}
use Rattle.bicep_resolved.specs.Source as s
use Rattle.bicep_resolved.specs.declared.leaf.Field.TheVariants as field
use Rattle.bicep_resolved.specs.declared.leaf.Target.TheVariants as target
use Rattle.bicep_declared.specs.Declarations.{BodyTree, DeclaredTree}
use Rattle.bicep_declared.specs.Declarations as d
use Rattle.bicep_meaning.specs.Files.{declaration}
use Rattle.source_needs.specs.Dependencies.{dependencies}
use Rattle.source_needs.specs.Needs.{is_looped}
use Rattle.emitted_names.proofs.GivenLemmas.{name_is}
use Rattle.emitted_trees.specs.EmittedTrees.{count_of}
use Rattle.emitted_trees.specs.Templates as t
use Rattle.emitted_trees.specs.Written.{IsWritable, IsWithin}
use Rattle.measured_trees.specs.Extremes.{joined, enclosed, tree_extremes}
use Rattle.measured_trees.specs.Limits.{IsPrintable}
use Rattle.emitted_templates.specs.Elements.{ElementsAreWithin, elements_extremes, element_extremes}
use Rattle.emitted_templates.specs.Files.{id_by, element_by, frames_around}
use Rattle.emitted_templates.specs.Limits.{HeadIsWithin, CountIsWritable, head_extremes, expression_extremes}
use Rattle.emitted_templates.specs.Limits.{count_extremes}
use Rattle.emitted_templates.specs.Seen.{Shape, file_in, files_in, whole_in}
use Rattle.emitted_templates.specs.Within.{DependenciesAreWithin, ExistingIsWithin}
use Rattle.file_limits.specs.Extremes.{dependency_extremes, existing_extremes, loop_extremes, needs_extremes, noted}
use Rattle.file_limits.specs.Limited.{AllIsPrintable}
use Rattle.file_limits.proofs.PartLemmas.{Within, first_part, second_part, inside}
use Rattle.file_limits.proofs.PrintLemmas.{Printed, around}

writable : (i : ℕ) (e : Tree) → IsPrintable e → Within i (tree_extremes (t.expression e)) → IsWritable e
writable i e p h = record { names = p.0; ints = p.1; is_short = h.0; is_flat = h.1.1 }

module _ (z : Shape) (h : AllIsPrintable z) (p : Printed z) where
  -- ---- heads

  abbrev name_tree : ℕ → Option LoopTree → Tree
  name_tree n l = (whole_in z).full_name n (frames_around (whole_in z) n l)

  abbrev condition_tree : ℕ → Option LoopTree → Tree
  condition_tree n l = (whole_in z).condition n (frames_around (whole_in z) n l)

  abbrev count_tree : ℕ → Tree
  count_tree n = count_of ((whole_in z).scope.items n)

  counted : (i n : ℕ) (l : Option LoopTree) → Within i (count_extremes l (count_tree n))
      → CountIsWritable l (count_tree n)
  counted i n None w = tt
  counted i n (Some l) w =
      let xs = p.items n in
      writable i (count_tree n) ((name_is (codes "length") refl, (xs.0, tt)), (xs.1, tt)) w

  pub head_within : (i n : ℕ) (l : Option LoopTree) → Within i (head_extremes (whole_in z) n l)
      → HeadIsWithin (whole_in z) n l
  head_within i n l w =
      let name = expression_extremes (name_tree n l) in
      let condition = expression_extremes (condition_tree n l) in
      let count = count_extremes l (count_tree n) in
      let both = first_part i (joined name condition) count w in
      let fs = frames_around (whole_in z) n l in
      record {
        name = writable i (name_tree n l) (p.names n fs (around z h p n l)) (first_part i name condition both);
        condition =
            writable i (condition_tree n l) (p.conditions n fs (around z h p n l))
            (second_part i name condition both);
        count = counted i n l (second_part i (joined name condition) count w);
      }

  -- ---- elements of `dependsOn`

  id_printed : (n : ℕ) (o : Option DeclaredTree) → IsPrintable (id_by (files_in z) (file_in z) n o)
  id_printed n None = ((name_is (codes "add") refl, tt), tt)
  id_printed n (Some (d.parameter at t)) = ((name_is (codes "add") refl, tt), tt)
  id_printed n (Some (d.parameter_with at t e)) = ((name_is (codes "add") refl, tt), tt)
  id_printed n (Some (d.variable at v)) = ((name_is (codes "add") refl, tt), tt)
  id_printed n (Some (d.a_resource at q existing b)) =
      p.expressions (s.field (s.symbol 0 (target.Resource n)) 0 field.Id) [] ((tt, tt), tt) (tt, tt)
  id_printed n (Some (d.a_module at b)) =
      let name = p.expressions (s.field (s.symbol 0 (target.Resource n)) 0 field.Name) [] ((tt, tt), tt) (tt, tt) in
      ((name_is (codes "resourceId") refl, (tt, (name.0, tt))), (tt, (name.1, tt)))

  element_within : (g : Form) (i n : ℕ) (looped : Bool)
      → Within i (tree_extremes (element_by (files_in z) (file_in z) g looped n))
      → IsWithin (element_by (files_in z) (file_in z) g looped n)
  element_within Two i n looped w = tt
  element_within One i n true w = tt
  element_within One i n false w =
      writable i (id_by (files_in z) (file_in z) n (declaration (file_in z) n))
      (id_printed n (declaration (file_in z) n)) w

  elements_within : (g : Form) (i : ℕ) (ns : List ℕ) → Within i (elements_extremes (files_in z) (file_in z) g ns)
      → ElementsAreWithin (files_in z) (file_in z) g ns
  elements_within g i [] w = tt
  elements_within g i (n ∷ ns) w =
      let x = element_extremes (files_in z) (file_in z) g n in
      let y = elements_extremes (files_in z) (file_in z) g ns in (
        element_within g (suc i) n (is_looped (file_in z) n) (inside i x (first_part i (enclosed x) y w)),
        elements_within g i ns (second_part i (enclosed x) y w),
      )

  pub needs_within : (g : Form) (i n : ℕ) (b : BodyTree) → Within i (needs_extremes g z n b)
      → DependenciesAreWithin g z n
  needs_within g i n b w =
      let x = dependency_extremes g z n in
      let y = loop_extremes b.each in
      elements_within g (suc i) (dependencies (file_in z) n) (first_part (suc i) x y (inside i (joined x y) w))

  -- ---- existing resources

  pub existing_within : (g : Form) (i n : ℕ) (b : BodyTree) (m : Option Value)
      → Within i (existing_extremes g z n b m) → ExistingIsWithin g z n b
  existing_within One i n b m w = tt
  existing_within Two i n b m w =
      let head = head_extremes (whole_in z) n b.each in
      let loop = enclosed (loop_extremes b.each) in
      head_within i n b.each (first_part i head loop (first_part i (joined head loop) (noted m) w))
