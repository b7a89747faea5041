-- The value of each cell of a table, by what the code was told.
use Rattle.std.proofs.Common.{◌≡◌, ℕ, ◌<◌, true, length, get_or, Some, None, Result}
use Rattle.std.proofs.Common.{sym, ap, subst, ◌∙◌, arith}
use Rattle.std.specs.Prelude.{option_map, pos}
use Rattle.std.proofs.lemmas.List.{length-map}
use Rattle.arm_value.specs.Json.{Json, bool, int}
use Rattle.arm_value.specs.Look.{fold}
use Rattle.arm_value.specs.View.{json}
use Rattle.arm_value.specs.declared.value.Value.{Value}
use Rattle.reading.specs.Knowledge.{value}
use Rattle.template_parts.specs.declared.looping.ResourceCopy.{ResourceCopy}
use Rattle.template_parts.specs.declared.output.Output.{Output}
use Rattle.template_parts.specs.declared.parameter.Parameter.{Parameter}
use Rattle.template_parts.specs.declared.variable.Variable.{Variable}
use Rattle.arm_eval.specs.Trees.{tree_value}
use Rattle.deploy_cells.specs.Cells.{step, Position, variable, offered, output, count, included, name, deployments}
use Rattle.deploy_cells.specs.Guarded.{there_if}
use Rattle.deploy_cells.specs.Listing.{listing_value}
use Rattle.plan_cells.specs.Resources.{Listed, header_in, nested_numbers}
use Rattle.plan_cells.specs.Sites.{reading_at, scope_site, count_site, condition_site}
use Rattle.plan_cells.specs.Meaning.{Deployment, raw, count_by, condition_value, count_value, included_value}
use Rattle.plan_cells.specs.Meaning.{name_value}
use Rattle.plan_cells.specs.Meaning.{variable_value, offered_value, output_value, parameter_value, default_value}
use Rattle.plan_cells.specs.Children.{parameter_names, variable_names, output_names}
use Rattle.plan_table.specs.declared.table.Table.{Table}
use Rattle.plan_table.specs.declared.line.Spot.TheVariants as spot
use Rattle.plan_table.specs.Lines.{name_at, IsNumber}
use Rattle.plan_table.specs.Whole.{whole_of, scopes_of}
use Rattle.plan_table.specs.Found.{scope_at}
use Rattle.plan_sight.specs.declared.lack.Lack.{Lack}
use Rattle.plan_sight.specs.Ready.{IsReady, told_in}
use Rattle.plan_sight.specs.Seen.{Shows, Yields}
use Rattle.plan_sight.proofs.LookLemmas.{frames_there}
use Rattle.plan_values.specs.Values.{told_raw}
use Rattle.plan_values.proofs.RawLemmas.{pure_there, shown, not_there, raw_parameter, raw_variable, raw_offered}
use Rattle.plan_values.proofs.RawLemmas.{raw_output, raw_count, raw_included, raw_name, raw_deployments}

-- the frame of a spot is there
pub spot_there : (t : Table) (f : ℕ) → f < length (scopes_of t) → f < length t.frames.items
spot_there t f h = frames_there t f h

-- what a spot names is declared
pub parameter_within : (t : Table) (f n : ℕ) → n < length (parameter_names (scope_at t f).template)
    → n < length (header_in (scope_at t f).template).parameters
parameter_within t f n h =
    let same = length-map (header_in (scope_at t f).template).parameters (λ q. fold q.name) in omega (arith, same, h)

pub variable_within : (t : Table) (f n : ℕ) → n < length (variable_names (scope_at t f).template)
    → n < length (header_in (scope_at t f).template).variables
variable_within t f n h =
    let same = length-map (header_in (scope_at t f).template).variables (λ v. fold v.name) in omega (arith, same, h)

pub output_within : (t : Table) (f n : ℕ) → n < length (output_names (scope_at t f).template)
    → n < length (header_in (scope_at t f).template).outputs
output_within t f n h =
    let same = length-map (header_in (scope_at t f).template).outputs (λ o. fold o.name) in omega (arith, same, h)

-- ---- a resource

module _ (t : Table) (f : ℕ) (ready : IsReady t) (h : f < length t.frames.items) (r : ℕ)
    (n : IsNumber (scope_at t f) r) (x : Listed) (is : n.listed ≡ x) where
  abbrev d : Deployment
  d = whole_of t

  abbrev p : Position
  p = (scope_at t f).position

  pub count_looped : (res : Result Value Lack) (c : ResourceCopy) → x.declaration.copy ≡ Some c
      → Yields json t res (told_in t (reading_at d.template d.place (count_site d.template p)
      (tree_value (json c.count))))
      → Shows json t res (told_raw t (spot.Count f r))
  count_looped res c e y =
      shown json t res (raw d (count p r)) (count_value d p n.listed) (raw_count t f ready h r n)
      (subst (λ q. Yields json t res (told_in t q))
      (sym (ap (λ (z : Listed). count_by d p z.declaration.copy) is ∙ ap (count_by d p) e)) y)

  pub count_alone : x.declaration.copy ≡ None → told_raw t (spot.Count f r) ≡ value (Some (int (pos 1)))
  count_alone e =
      ap (λ o. told_in t (there_if o)) (raw_count t f ready h r n
      ∙ ap Some (ap (λ (z : Listed). count_by d p z.declaration.copy) is ∙ ap (count_by d p) e))
      ∙ pure_there t (int (pos 1))

  pub included_if : (res : Result Value Lack) (i : ℕ) (j : Json) → option_map json x.declaration.condition ≡ Some j
      → Yields json t res (told_in t (reading_at d.template d.place (condition_site d.template p (step r i))
      (tree_value j)))
      → Shows json t res (told_raw t (spot.Included f r i))
  included_if res i j e y =
      shown json t res (raw d (included p (step r i))) (included_value d p (step r i) n.listed)
      (raw_included t f ready h (step r i) n)
      (subst (λ q. Yields json t res (told_in t q))
      (sym (ap (λ (z : Listed). condition_value d (condition_site d.template p (step r i))
      (option_map json z.declaration.condition)) is
      ∙ ap (condition_value d (condition_site d.template p (step r i))) e)) y)

  pub included_always : (i : ℕ) → option_map json x.declaration.condition ≡ None
      → told_raw t (spot.Included f r i) ≡ value (Some (bool true))
  included_always i e =
      ap (λ o. told_in t (there_if o)) (raw_included t f ready h (step r i) n
      ∙ ap Some (ap (λ (z : Listed). condition_value d (condition_site d.template p (step r i))
      (option_map json z.declaration.condition)) is
      ∙ ap (condition_value d (condition_site d.template p (step r i))) e))
      ∙ pure_there t (bool true)

  pub name_shown : (res : Result Value Lack) (i : ℕ)
      → Yields json t res (told_in t (name_value d p (step r i) x))
      → Shows json t res (told_raw t (spot.Name f r i))
  name_shown res i y =
      shown json t res (raw d (name p (step r i))) (name_value d p (step r i) n.listed)
      (raw_name t f ready h (step r i) n)
      (subst (λ z. Yields json t res (told_in t (name_value d p (step r i) z))) (sym is) y)

-- ---- what a scope declares

module _ (t : Table) (f : ℕ) (ready : IsReady t) (h : f < length t.frames.items) where
  abbrev e : Deployment
  e = whole_of t

  abbrev at : Position
  at = (scope_at t f).position

  pub variable_shown : (res : Result Value Lack) (n : ℕ) (v : Variable) → (scope_at t f).is_own ≡ true
      → n < length (header_in (scope_at t f).template).variables
      → v ≡ get_or (header_in (scope_at t f).template).variables n v
      → Yields json t res (told_in t (variable_value e at v)) → Shows json t res (told_raw t (spot.Variable f n))
  variable_shown res n v own l q y =
      shown json t res (raw e (variable at (name_at (variable_names (scope_at t f).template) n)))
      (variable_value e at v) (raw_variable t f ready h n v own l q) y

  pub offered_if : (res : Result Value Lack) (n : ℕ) (o : Output) (j : Json)
      → n < length (header_in (scope_at t f).template).outputs
      → o ≡ get_or (header_in (scope_at t f).template).outputs n o → option_map json o.condition ≡ Some j
      → Yields json t res (told_in t (reading_at e.template e.place (scope_site e.template at) (tree_value j)))
      → Shows json t res (told_raw t (spot.Offered f n))
  offered_if res n o j l q c y =
      shown json t res (raw e (offered at (name_at (output_names (scope_at t f).template) n))) (offered_value e at o)
      (raw_offered t f ready h n o l q)
      (subst (λ m. Yields json t res (told_in t (condition_value e (scope_site e.template at) m))) (sym c) y)

  pub offered_always : (n : ℕ) (o : Output) → n < length (header_in (scope_at t f).template).outputs
      → o ≡ get_or (header_in (scope_at t f).template).outputs n o → option_map json o.condition ≡ None
      → told_raw t (spot.Offered f n) ≡ value (Some (bool true))
  offered_always n o l q c =
      ap (λ m. told_in t (there_if m)) (raw_offered t f ready h n o l q
      ∙ ap (λ m. Some (condition_value e (scope_site e.template at) m)) c)
      ∙ pure_there t (bool true)

  pub output_shown : (res : Result Value Lack) (n : ℕ) (o : Output)
      → n < length (header_in (scope_at t f).template).outputs
      → o ≡ get_or (header_in (scope_at t f).template).outputs n o
      → Yields json t res (told_in t (output_value e at o)) → Shows json t res (told_raw t (spot.Output f n))
  output_shown res n o l q y =
      shown json t res (raw e (output at (name_at (output_names (scope_at t f).template) n))) (output_value e at o)
      (raw_output t f ready h n o l q) y

  pub deployments_shown : (res : Result Value Lack)
      → Yields json t res (told_in t (listing_value at (nested_numbers (scope_at t f).template)))
      → Shows json t res (told_raw t (spot.Deployments f))
  deployments_shown res y =
      shown json t res (raw e (deployments at)) (listing_value at (nested_numbers (scope_at t f).template))
      (raw_deployments t f ready h) y

  pub parameter_shown : (res : Result Value Lack) (n : ℕ) (q : Parameter) → (scope_at t f).is_own ≡ true
      → n < length (header_in (scope_at t f).template).parameters
      → q ≡ get_or (header_in (scope_at t f).template).parameters n q
      → Shows json t res (told_in t (there_if (parameter_value e at
      (name_at (parameter_names (scope_at t f).template) n) q)))
      → Shows json t res (told_raw t (spot.Parameter f n))
  parameter_shown res n q own l i s =
      subst (λ o. Shows json t res (told_in t (there_if o))) (sym (raw_parameter t f ready h n q own l i)) s

  pub default_if : (res : Result Value Lack) (q : Parameter) (v : Value) → q.default_value ≡ Some v
      → Yields json t res (told_in t (reading_at e.template e.place (scope_site e.template at) (tree_value (json v))))
      → Shows json t res (told_in t (there_if (default_value e at q)))
  default_if res q v c y =
      shown json t res (default_value e at q) (reading_at e.template e.place (scope_site e.template at)
      (tree_value (json v)))
      (ap (option_map (λ (z : Value). reading_at e.template e.place (scope_site e.template at) (tree_value
      (json z)))) c)
      y

  pub default_none : (q : Parameter) → q.default_value ≡ None
      → told_in t (there_if (default_value e at q)) ≡ value None
  default_none q c =
      not_there t (default_value e at q)
      (ap (option_map (λ (z : Value). reading_at e.template e.place (scope_site e.template at) (tree_value
      (json z)))) c)
