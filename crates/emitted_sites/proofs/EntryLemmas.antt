-- Entries of a scope: parameters, variables, states, and outputs of its nested deployments.
use Rattle.std.proofs.Common.{◌≡◌, ℕ, Bool, true, false, true≢false, List, Option, Some, None, refl, sym, ap}
use Rattle.std.proofs.Common.{◌∙◌}
use Rattle.std.specs.Prelude.{◌||◌, is_some, option_map, option_and_then}
use Rattle.arm_value.specs.Json.{Json}
use Rattle.arm_env.specs.Look.{Fact, a_value}
use Rattle.template_parts.specs.declared.mode.Form.{Form}
use Rattle.template_tree.specs.Tree.{TemplateTree}
use Rattle.bicep_emission.specs.Alike.{Seen, seen_in, after}
use Rattle.deploy_cells.specs.Cells.{Cell, World}
use Rattle.deploy_cells.specs.Guarded.{Reads}
use Rattle.plan_cells.specs.Sites as template
use Rattle.plan_cells.specs.Sites.{declared_value, declares}
use Rattle.bicep_meaning.specs.Files.{SourceFile}
use Rattle.bicep_meaning.specs.Instances as source
use Rattle.emitted_worlds.specs.Values.{AreBoth}
use Rattle.emitted_worlds.specs.Files.{IsParameter, IsVariable, IsOutput}
use Rattle.emitted_worlds.proofs.AbsentLemmas.{Match}

abbrev pub fact_of : Option Json → Option Fact
fact_of o = option_map a_value o

-- ---- what one of two lacks the other lacks

lacks : {A B : Type 0} (r : A → B → Type 0) (o : Option A) (u : Option B) → AreBoth r o u → is_some u ≡ false
    → o ≡ None
lacks r None u h e = refl
lacks r (Some a) None h e = absurd h
lacks r (Some a) (Some b) h e = absurd (true≢false e)

module _ (z : Form) (files : List SourceFile) (x : List ℕ) where
  pub no_parameter : (o : Option SourceFile) (t : Option TemplateTree) → AreBoth (Match z files) o t
      → declares (template.parameter_named x) t ≡ false → option_and_then (source.parameter_named x) o ≡ None
  no_parameter None t h e = refl
  no_parameter (Some f) None h e = absurd h
  no_parameter (Some f) (Some v) h e =
      lacks (IsParameter files f) (source.parameter_named x f) (template.parameter_named x v) (h.parameters x) e

  pub no_variable : (o : Option SourceFile) (t : Option TemplateTree) → AreBoth (Match z files) o t
      → declares (template.variable_named x) t ≡ false → option_and_then (source.variable_named x) o ≡ None
  no_variable None t h e = refl
  no_variable (Some f) None h e = absurd h
  no_variable (Some f) (Some v) h e =
      lacks (IsVariable files f) (source.variable_named x f) (template.variable_named x v) (h.variables x) e

  pub no_output : (o : Option SourceFile) (t : Option TemplateTree) → AreBoth (Match z files) o t
      → declares (template.output_named x) t ≡ false
      → option_and_then (λ f. source.output_folded f x) o ≡ None
  no_output None t h e = refl
  no_output (Some f) None h e = absurd h
  no_output (Some f) (Some v) h e =
      lacks (IsOutput files f) (source.output_folded f x) (template.output_named x v) (h.outputs x) e

-- ---- what an output is that the template declares

module _ (z : Form) (files : List SourceFile) (x : List ℕ) where
  has : {A B : Type 0} (r : A → B → Type 0) (o : Option A) (u : Option B) → AreBoth r o u → is_some u ≡ true
      → is_some o ≡ true
  has r None None h e = e
  has r None (Some b) h e = absurd h
  has r (Some a) u h e = refl

  pub has_output : (o : Option SourceFile) (t : Option TemplateTree) → AreBoth (Match z files) o t
      → declares (template.output_named x) t ≡ true
      → is_some (option_and_then (λ f. source.output_folded f x) o) ≡ true
  has_output None None h e = e
  has_output None (Some v) h e = absurd h
  has_output (Some f) None h e = absurd (true≢false (sym e))
  has_output (Some f) (Some v) h e =
      has (IsOutput files f) (source.output_folded f x) (template.output_named x v) (h.outputs x) e

-- ---- what an entry has

module _ (v : World) (n : Cell → Bool) (w : World) (c e : Cell) (same : v e ≡ w c) where
  abbrev Sees : Reads (Option Fact) → Bool → Type 0
  Sees r b = seen_in v n r ≡ (Some (fact_of (w c)), b)

  pub value_here : Sees (template.value_of e) (n e)
  unfolding seen_in
  value_here = ap (λ o. let s : Seen (Option Fact) = (Some (fact_of o), n e) in s) same

  -- a cell that is not marked
  pub entry : n e ≡ false → (b : Bool) → (b ≡ false → w c ≡ None) → Sees (declared_value b e) false
  unfolding seen_in
  entry h true absent = value_here ∙ ap (λ b. let s : Seen (Option Fact) = (Some (fact_of (w c)), b) in s) h
  entry h false absent = ap (λ o. let s : Seen (Option Fact) = (Some (fact_of o), false) in s) (sym (absent refl))

  twice : (b : Bool) → (b || b) ≡ b
  twice true = refl
  twice false = refl

  -- an output that is declared, after its condition was looked at: both are marked, or neither
  pub offered_entry : (b : Bool) → n e ≡ b → (o : Bool) → (o ≡ false → w c ≡ None)
      → after b (seen_in v n (declared_value o e)) ≡ (Some (fact_of (w c)), b)
  unfolding seen_in
  offered_entry b h true absent =
      ap (after b) (value_here ∙ ap (λ b. let s : Seen (Option Fact) = (Some (fact_of (w c)), b) in s) h)
      ∙ ap (λ b. let s : Seen (Option Fact) = (Some (fact_of (w c)), b) in s) (twice b)
  offered_entry b h false absent =
      ap (λ o. let s : Seen (Option Fact) = (Some (fact_of o), b) in s) (sym (absent refl))
