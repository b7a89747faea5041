-- The paths of parameters, variables and outputs, by their names.
use Rattle.std.proofs.Common.{◌≡◌, ℕ, ◌<◌, List, length, get_or, Some, sym, ap, ◌∙◌, arith}
use Rattle.std.specs.Prelude.{codes, option_and_then}
use Rattle.std.proofs.lemmas.List.{length-map}
use Rattle.arm_value.specs.Look.{fold}
use Rattle.template_parts.specs.declared.output.Output.{Output}
use Rattle.template_parts.specs.declared.parameter.Parameter.{Parameter}
use Rattle.template_parts.specs.declared.variable.Variable.{Variable}
use Rattle.template_tree.specs.Tree.{TemplateTree}
use Rattle.deploy_cells.specs.Cells.{Position}
use Rattle.plan_sight.specs.Resources.{header_in}
use Rattle.plan_sight.specs.Scopes.{template_at}
use Rattle.plan_sight.specs.Sites.{parameter_named, variable_named, output_named}
use Rattle.plan_sight.specs.Children.{HasOwnNames, NamesDiffer, parameter_names, variable_names, output_names}
use Rattle.plan_sight.proofs.ApartLemmas.{names_at}
use Rattle.plan_table.specs.declared.frame.Frame.{Frame}
use Rattle.plan_table.specs.declared.line.Spot.TheVariants as spot
use Rattle.plan_table.specs.declared.table.Table.{Table}
use Rattle.plan_table.specs.Opened.{Opened, opened_of}
use Rattle.plan_table.proofs.FrameLemmas.{frame_is}
use Rattle.plan_table.specs.Lines.{name_at, cell_of}
use Rattle.plan_table.specs.Whole.{whole_of, scopes_of, IsLaid}
use Rattle.plan_table.specs.Found.{scope_at}
use Rattle.plan_sight.proofs.RuleLemmas.{found_own, own_names}
use Rattle.plan_paths.specs.CellPaths.{written, named_path, output_path, cell_path}

module _ (t : Table) (f : ℕ) (laid : IsLaid t) (differ : NamesDiffer (whole_of t).template)
    (h : f < length (scopes_of t)) where
  abbrev p : Position
  p = (scope_at t f).position

  abbrev u : TemplateTree
  u = (scope_at t f).template

  abbrev all : TemplateTree
  all = (whole_of t).template

  template_is : template_at all p ≡ Some u
  template_is = (laid.kept f h).template

  names : HasOwnNames (header_in u)
  names = own_names u (names_at all differ p u template_is)

  pub parameter_is : (n : ℕ) (q : Parameter) → n < length (header_in u).parameters
      → q ≡ get_or (header_in u).parameters n q
      → option_and_then (parameter_named (name_at (parameter_names u) n)) (template_at all p) ≡ Some q
  parameter_is n q l e =
      ap (option_and_then (parameter_named (name_at (parameter_names u) n))) template_is
      ∙ found_own (λ z. z.name) (header_in u).parameters names.parameters n q l e

  pub variable_is : (n : ℕ) (v : Variable) → n < length (header_in u).variables
      → v ≡ get_or (header_in u).variables n v
      → option_and_then (variable_named (name_at (variable_names u) n)) (template_at all p) ≡ Some v
  variable_is n v l e =
      ap (option_and_then (variable_named (name_at (variable_names u) n))) template_is
      ∙ found_own (λ z. z.name) (header_in u).variables names.variables n v l e

  pub output_is : (n : ℕ) (o : Output) → n < length (header_in u).outputs → o ≡ get_or (header_in u).outputs n o
      → option_and_then (output_named (name_at (output_names u) n)) (template_at all p) ≡ Some o
  output_is n o l e =
      ap (option_and_then (output_named (name_at (output_names u) n))) template_is
      ∙ found_own (λ z. z.name) (header_in u).outputs names.outputs n o l e

  pub parameter_path_is : (n : ℕ) (q : Parameter) → n < length (header_in u).parameters
      → q ≡ get_or (header_in u).parameters n q
      → named_path all p (codes "parameters") q.name ≡ cell_path all (cell_of (scopes_of t) (spot.Parameter f n))
  unfolding cell_path
  parameter_path_is n q l e =
      ap (λ o. named_path all p (codes "parameters") (written (λ z. z.name) (name_at (parameter_names u) n) o))
      (sym (parameter_is n q l e))

  pub variable_path_is : (n : ℕ) (v : Variable) → n < length (header_in u).variables
      → v ≡ get_or (header_in u).variables n v
      → named_path all p (codes "variables") v.name ≡ cell_path all (cell_of (scopes_of t) (spot.Variable f n))
  unfolding cell_path
  variable_path_is n v l e =
      ap (λ o. named_path all p (codes "variables") (written (λ z. z.name) (name_at (variable_names u) n) o))
      (sym (variable_is n v l e))

  pub output_path_is : (n : ℕ) (o : Output) → n < length (header_in u).outputs → o ≡ get_or (header_in u).outputs n o
      → named_path all p (codes "outputs") o.name ≡ output_path all p (name_at (output_names u) n)
  output_path_is n o l e =
      ap (λ y. named_path all p (codes "outputs") (written (λ z. z.name) (name_at (output_names u) n) y))
      (sym (output_is n o l e))

  -- ---- as the code reads them

  frame_there : f < length t.frames.items
  frame_there = let m = length-map t.frames.items opened_of in omega (arith, m, h)

  pub parameter_found : (w : List ℕ) → w ≡ codes "parameters" → (n : ℕ) (q : Parameter) (fr : Frame)
      → (qs : List Parameter) → n < length (parameter_names u) → fr ≡ get_or t.frames.items f fr
      → qs ≡ fr.template.now.parameters → q ≡ get_or qs n q
      → named_path all p w q.name ≡ cell_path all (cell_of (scopes_of t) (spot.Parameter f n))
  parameter_found w x n q fr qs l e g k =
      let same : qs ≡ (header_in u).parameters =
      g ∙ ap (λ (o : Opened). (header_in o.template).parameters) (sym (frame_is t.frames.items f fr frame_there e)) in
      let m = length-map (header_in u).parameters (λ z. fold z.name) in
      ap (λ y. named_path all p y q.name) x
      ∙ parameter_path_is n q (omega (arith, l, m)) (k ∙ ap (λ zs. get_or zs n q) same)

  pub variable_found : (w : List ℕ) → w ≡ codes "variables" → (n : ℕ) (v : Variable) (fr : Frame) (vs : List Variable)
      → n < length (variable_names u) → fr ≡ get_or t.frames.items f fr → vs ≡ fr.template.now.variables
      → v ≡ get_or vs n v
      → named_path all p w v.name ≡ cell_path all (cell_of (scopes_of t) (spot.Variable f n))
  variable_found w x n v fr vs l e g k =
      let same : vs ≡ (header_in u).variables =
      g ∙ ap (λ (o : Opened). (header_in o.template).variables) (sym (frame_is t.frames.items f fr frame_there e)) in
      let m = length-map (header_in u).variables (λ z. fold z.name) in
      ap (λ y. named_path all p y v.name) x
      ∙ variable_path_is n v (omega (arith, l, m)) (k ∙ ap (λ zs. get_or zs n v) same)

  pub output_found : (w : List ℕ) → w ≡ codes "outputs" → (n : ℕ) (o : Output) (fr : Frame) (os : List Output)
      → n < length (output_names u) → fr ≡ get_or t.frames.items f fr → os ≡ fr.template.now.outputs
      → o ≡ get_or os n o
      → named_path all p w o.name ≡ output_path all p (name_at (output_names u) n)
  output_found w x n o fr os l e g k =
      let same : os ≡ (header_in u).outputs =
      g ∙ ap (λ (x : Opened). (header_in x.template).outputs) (sym (frame_is t.frames.items f fr frame_there e)) in
      let m = length-map (header_in u).outputs (λ z. fold z.name) in
      ap (λ y. named_path all p y o.name) x ∙ output_path_is n o (omega (arith, l, m))
      (k ∙ ap (λ zs. get_or zs n o) same)
