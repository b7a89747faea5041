-- What is told of the value of a cell.
use Rattle.std.proofs.Common.{◌≡◌, ℕ, ◌<◌, true, length, get_or, Option, Some, None, Result, Ok, Err}
use Rattle.std.proofs.Common.{sym, ap, subst, ◌∙◌}
use Rattle.std.specs.Prelude.{option_map, option_and_then, if◌then◌else◌}
use Rattle.arm_value.specs.Json.{Json}
use Rattle.reading.specs.Reading.{pure}
use Rattle.reading.specs.Knowledge.{value}
use Rattle.template_parts.specs.declared.output.Output.{Output}
use Rattle.template_parts.specs.declared.parameter.Parameter.{Parameter}
use Rattle.template_parts.specs.declared.variable.Variable.{Variable}
use Rattle.template_tree.specs.Tree.{TemplateTree, template}
use Rattle.deploy_cells.specs.Cells.{Step, Position, parameter, variable, offered, output, count, included}
use Rattle.deploy_cells.specs.Cells.{name, deployments}
use Rattle.deploy_cells.specs.Guarded.{Reads, there, there_if}
use Rattle.deploy_cells.specs.Listing.{listing_value}
use Rattle.plan_cells.specs.Resources.{header_in, nested_numbers}
use Rattle.plan_cells.specs.Scopes.{template_at}
use Rattle.plan_cells.specs.Sites.{parameter_named, variable_named, output_named}
use Rattle.plan_cells.specs.Meaning.{Deployment, raw, parameter_value, variable_value, offered_value, output_value}
use Rattle.plan_cells.specs.Meaning.{count_value, included_value, name_value, is_own, of_own_scope}
use Rattle.plan_cells.specs.Children.{HasOwnNames, parameter_names, variable_names, output_names}
use Rattle.plan_cells.proofs.ApartLemmas.{names_at}
use Rattle.plan_table.specs.declared.table.Table.{Table}
use Rattle.plan_table.specs.Lines.{name_at, IsNumber}
use Rattle.plan_table.specs.Whole.{whole_of}
use Rattle.plan_table.specs.Found.{scope_at}
use Rattle.plan_sight.specs.declared.lack.Lack.{Lack}
use Rattle.plan_sight.specs.declared.lack.Lack.TheVariants as lack
use Rattle.plan_sight.specs.Ready.{IsReady, told_in}
use Rattle.plan_sight.specs.Seen.{Shows, Yields}
use Rattle.plan_sight.proofs.LookLemmas.{scopes_there}
use Rattle.plan_sight.proofs.RuleLemmas.{found_own, own_names}
use Rattle.plan_nested.proofs.SeekLemmas.{read_goes, read_stops}
use Rattle.plan_values.proofs.SiteLemmas.{resource_numbered}
use Rattle.plan_sight.proofs.ToldLemmas.{told_pure}

-- ---- what is there has a value

shown_there : {X : Type 0} (view : X → Json) (t : Table) (r : Result X Lack) (q : Reads Json)
    → Yields view t r (told_in t q) → Shows view t r (told_in t (there q))
shown_there view t (Ok x) q h = read_goes t q (λ v. pure (Some v)) (view x) h ∙ told_pure t (Some (view x))
shown_there view t (Err lack.NotThere) q h = absurd h
shown_there view t (Err lack.NoValue) q h = read_stops t lack.NoValue q (λ v. pure (Some v)) h
shown_there view t (Err (lack.Line j)) q h = read_stops t (lack.Line j) q (λ v. pure (Some v)) h
shown_there view t (Err (lack.State k)) q h = read_stops t (lack.State k) q (λ v. pure (Some v)) h
shown_there view t (Err lack.OutOfMemory) q h = tt

pub shown : {X : Type 0} (view : X → Json) (t : Table) (r : Result X Lack) (o : Option (Reads Json)) (q : Reads Json)
    → o ≡ Some q → Yields view t r (told_in t q) → Shows view t r (told_in t (there_if o))
shown view t r o q e h =
    subst (λ p. Shows view t r (told_in t (there_if p))) (sym e) (shown_there view t r q h)

-- what has a value whatever is known
pub pure_there : (t : Table) (j : Json) → told_in t (there_if (Some (pure j))) ≡ value (Some j)
pure_there t j = read_goes t (pure j) (λ v. pure (Some v)) j (told_pure t j) ∙ told_pure t (Some j)

pub not_there : (t : Table) (o : Option (Reads Json)) → o ≡ None → told_in t (there_if o) ≡ value None
not_there t o e = ap (λ p. told_in t (there_if p)) e ∙ told_pure t None

-- ---- the reading of each cell of a table

module _ (t : Table) (f : ℕ) (ready : IsReady t) (h : f < length t.frames.items) where
  abbrev d : Deployment
  d = whole_of t

  abbrev p : Position
  p = (scope_at t f).position

  abbrev u : TemplateTree
  u = (scope_at t f).template

  template_is : template_at d.template p ≡ Some u
  template_is = (ready.laid.kept f (scopes_there t f h)).template

  own_is : is_own d p ≡ (scope_at t f).is_own
  own_is = sym (ready.laid.kept f (scopes_there t f h)).own

  names : HasOwnNames (header_in u)
  names = own_names u (names_at d.template ready.sound.names_differ p u template_is)

  of_own : {A : Type 0} (find : TemplateTree → Option A) (g : A → Option (Reads Json)) (x : A) → is_own d p ≡ true
      → find u ≡ Some x → of_own_scope d p find g ≡ g x
  of_own find g x own e =
      ap (λ b. if b then option_and_then g (option_and_then find (template_at d.template p)) else None) own
      ∙ ap (λ o. option_and_then g (option_and_then find o)) template_is ∙ ap (option_and_then g) e

  pub raw_parameter : (n : ℕ) (q : Parameter) → (scope_at t f).is_own ≡ true → n < length (header_in u).parameters
      → q ≡ get_or (header_in u).parameters n q
      → raw d (parameter p (name_at (parameter_names u) n))
      ≡ parameter_value d p (name_at (parameter_names u) n) q
  unfolding raw
  raw_parameter n q own l e =
      of_own (parameter_named (name_at (parameter_names u) n)) (parameter_value d p (name_at (parameter_names u) n)) q
      (own_is ∙ own) (found_own (λ z. z.name) (header_in u).parameters names.parameters n q l e)

  pub raw_variable : (n : ℕ) (v : Variable) → (scope_at t f).is_own ≡ true → n < length (header_in u).variables
      → v ≡ get_or (header_in u).variables n v
      → raw d (variable p (name_at (variable_names u) n)) ≡ Some (variable_value d p v)
  unfolding raw
  raw_variable n v own l e =
      of_own (variable_named (name_at (variable_names u) n)) (λ w. Some (variable_value d p w)) v (own_is ∙ own)
      (found_own (λ z. z.name) (header_in u).variables names.variables n v l e)

  output_is : {B : Type 0} (g : Output → Option B) (n : ℕ) (o : Output) → n < length (header_in u).outputs
      → o ≡ get_or (header_in u).outputs n o
      → option_and_then g (option_and_then (output_named (name_at (output_names u) n)) (template_at d.template p)) ≡ g o
  output_is g n o l e =
      ap (λ y. option_and_then g (option_and_then (output_named (name_at (output_names u) n)) y)) template_is
      ∙ ap (option_and_then g) (found_own (λ z. z.name) (header_in u).outputs names.outputs n o l e)

  pub raw_offered : (n : ℕ) (o : Output) → n < length (header_in u).outputs → o ≡ get_or (header_in u).outputs n o
      → raw d (offered p (name_at (output_names u) n)) ≡ Some (offered_value d p o)
  unfolding raw
  raw_offered n o l e = output_is (λ x. Some (offered_value d p x)) n o l e

  pub raw_output : (n : ℕ) (o : Output) → n < length (header_in u).outputs → o ≡ get_or (header_in u).outputs n o
      → raw d (output p (name_at (output_names u) n)) ≡ Some (output_value d p o)
  unfolding raw
  raw_output n o l e = output_is (λ x. Some (output_value d p x)) n o l e

  pub raw_count : (r : ℕ) (n : IsNumber (scope_at t f) r) → raw d (count p r) ≡ Some (count_value d p n.listed)
  unfolding raw
  raw_count r n = ap (option_map (count_value d p)) (resource_numbered t f ready h r n)

  pub raw_included : (s : Step) (n : IsNumber (scope_at t f) s.resource)
      → raw d (included p s) ≡ Some (included_value d p s n.listed)
  unfolding raw
  raw_included s n = ap (option_map (included_value d p s)) (resource_numbered t f ready h s.resource n)

  pub raw_name : (s : Step) (n : IsNumber (scope_at t f) s.resource)
      → raw d (name p s) ≡ Some (name_value d p s n.listed)
  unfolding raw
  raw_name s n = ap (option_map (name_value d p s)) (resource_numbered t f ready h s.resource n)

  pub raw_deployments : raw d (deployments p) ≡ Some (listing_value p (nested_numbers u))
  unfolding raw
  raw_deployments = ap (option_map (λ x. listing_value p (nested_numbers x))) template_is
