-- What the values of tasks ask for.
use Rattle.std.proofs.Common.{◌≡◌, ◌⊎◌, inl, inr, ℕ, Bool, true, false, List, [], ◌∷◌, map, Option, Some, None}
use Rattle.std.proofs.Common.{ap, ◌∙◌, codes}
use Rattle.std.specs.Prelude.{option_map, option_and_then, if◌then◌else◌}
use Rattle.arm_value.specs.Json.{Json, object, pairs}
use Rattle.arm_value.specs.View.{json}
use Rattle.arm_value.specs.Kinds.{is_true}
use Rattle.arm_eval.specs.Trees.{tree_value}
use Rattle.reading.specs.Reading.{done, pure}
use Rattle.reading.specs.Knowledge.{waits, told}
use Rattle.template_parts.specs.declared.content.Argument.{Argument}
use Rattle.template_parts.specs.declared.parameter.Parameter.{Parameter}
use Rattle.template_parts.specs.declared.variable.Variable.{Variable}
use Rattle.template_parameters.specs.Binding.{BoundMeaning, is_known, is_default}
use Rattle.template_tree.specs.Tree.{TemplateTree}
use Rattle.deploy_cells.specs.Cells.{Step, Position, Cell, parameter, variable, offered, output}
use Rattle.deploy_cells.specs.Guarded.{Reads, there_if}
use Rattle.plan_cells.specs.Known.{Table}
use Rattle.plan_cells.specs.Meaning.{Deployment, raw, rule, ruled, if_meets, plain, bodies, body_value, of_scope}
use Rattle.plan_cells.specs.Meaning.{is_own, parameter_value, variable_value, offered_value, output_value}
use Rattle.plan_cells.specs.Meaning.{condition_value, output_content, content_value, bound_value, bound_to}
use Rattle.plan_cells.specs.Meaning.{default_value, given_or_default, argument_named}
use Rattle.plan_cells.specs.Children.{Has, own_cells, parameter_names, variable_names}
use Rattle.plan_cells.specs.Reads.{entry_cells, of_template}
use Rattle.plan_cells.specs.Resources.{Listed, members_in}
use Rattle.plan_cells.specs.Scopes.{template_at, resource_of, nested_of}
use Rattle.plan_cells.specs.Sites.{reading_at, parameter_named, variable_named, output_named, scope_site}
use Rattle.plan_cells.specs.Sites.{body_site}
use Rattle.plan_cells.proofs.ListLemmas.{has_joined, has_mapped}
use Rattle.deploy_histories.specs.Values.{body_reading, output_reading, where_offered}
use Rattle.awaited_cells.specs.Awaited.{MaySee, MaySeeAround}
use Rattle.awaited_cells.proofs.AskLemmas.{Asks, weakened, continued_asks, awaited_has}
use Rattle.awaited_cells.proofs.SeenLemmas.{site_asks}

module _ (P : Cell → Type 0) where
  -- of what is there
  abbrev AllAsk : Option (Reads Json) → Type 0
  AllAsk None = Unit {0}
  AllAsk (Some r) = Asks P r

  there_asks : (o : Option (Reads Json)) → AllAsk o → Asks P (there_if o)
  there_asks None h = tt
  there_asks (Some r) h = continued_asks P r (λ v. pure (Some v)) h (λ v. tt)

  ruled_asks : (d : Deployment) (f : Json → Bool) (o : Option (Reads Json)) → AllAsk o
      → Asks P (there_if (option_map (ruled d f) o))
  ruled_asks d f None h = tt
  ruled_asks d f (Some r) h =
      continued_asks P (ruled d f r) (λ v. pure (Some v))
      (continued_asks P r (λ j. done (if_meets d (f j) j)) h (λ v. tt)) (λ v. tt)

  and_then_asks : {A : Type 0} (g : A → Option (Reads Json)) (o : Option A) → ((a : A) → AllAsk (g a))
      → AllAsk (option_and_then g o)
  and_then_asks g None h = tt
  and_then_asks g (Some a) h = h a

  map_asks : {A : Type 0} (g : A → Reads Json) (o : Option A) → ((a : A) → Asks P (g a)) → AllAsk (option_map g o)
  map_asks g None h = tt
  map_asks g (Some a) h = h a

  if_asks : (b : Bool) (o : Option (Reads Json)) → AllAsk o → AllAsk (if b then o else None)
  if_asks true o h = h
  if_asks false o h = tt

module _ (d : Deployment) (p : Position) where
  abbrev See : Cell → Type 0
  See = MaySee d p

  -- ---- the body of an instance

  body_asks : (s : Step) (r : Listed) → AllAsk See (body_value d p s r)
  body_asks s r =
      map_asks See (λ ms. reading_at d.template d.place (body_site d.template p s) (tree_value (object (pairs ms))))
      (members_in r.content) (λ ms. site_asks d (body_site d.template p s) (tree_value (object (pairs ms))))

  pub bodies_await : (t : Table) (s : Step) (c : Cell) → told t (body_reading d p s) ≡ waits c → MaySee d p c
  bodies_await t s c e =
      awaited_has See t (body_reading d p s) c
      (there_asks See (bodies d p s)
      (and_then_asks See (body_value d p s) (resource_of d.template p s.resource) (body_asks s))) e

  -- ---- outputs

  condition_asks : (o : Option Json) → Asks See (condition_value d (scope_site d.template p) o)
  condition_asks None = tt
  condition_asks (Some j) = site_asks d (scope_site d.template p) (tree_value j)

  offered_asks : (x : List ℕ) → Asks See (plain d (offered p x))
  unfolding plain raw
  offered_asks x =
      ruled_asks See d (rule d (offered p x)) (raw d (offered p x))
      (and_then_asks See (λ o. Some (offered_value d p o)) (option_and_then (output_named x) (template_at d.template p))
      (λ o. condition_asks (option_map json o.condition)))

  output_asks : (x : List ℕ) → Asks See (plain d (output p x))
  unfolding plain raw
  output_asks x =
      ruled_asks See d (rule d (output p x)) (raw d (output p x))
      (and_then_asks See (λ o. Some (output_value d p o)) (option_and_then (output_named x) (template_at d.template p))
      (λ o. site_asks d (scope_site d.template p) (output_content o.content)))

  where_asks : (b : Bool) (r : Reads (Option Json)) → Asks See r → Asks See (where_offered b r)
  where_asks true r h = h
  where_asks false r h = tt

  pub outputs_await : (t : Table) (x : List ℕ) (c : Cell) → told t (output_reading d p x) ≡ waits c → MaySee d p c
  outputs_await t x c e =
      awaited_has See t (output_reading d p x) c
      (continued_asks See (plain d (offered p x)) (λ v. where_offered (is_true v) (plain d (output p x)))
      (offered_asks x) (λ v. where_asks (is_true v) (plain d (output p x)) (output_asks x))) e

-- ---- parameters and variables

module _ (d : Deployment) where
  around : (s : Step) (p : Position) (r : Reads Json) → Asks (MaySee d (s ∷ p)) r → Asks (MaySeeAround d (s ∷ p)) r
  around s p r h = weakened (MaySee d (s ∷ p)) (MaySeeAround d (s ∷ p)) (λ c i. inl i) r h

  itself_around : (p : Position) (r : Reads Json) → Asks (MaySee d p) r → Asks (MaySeeAround d p) r
  itself_around [] r h = weakened (MaySee d []) (MaySeeAround d []) (λ c i. i) r h
  itself_around (s ∷ p) r h = around s p r h

  bound_asks : (b : BoundMeaning) → Asks (MaySee d []) (bound_value d b)
  bound_asks (is_known j) = tt
  bound_asks (is_default j) = site_asks d (scope_site d.template []) (tree_value j)

  default_asks : (p : Position) (x : Parameter) → AllAsk (MaySeeAround d p) (default_value d p x)
  default_asks p x =
      map_asks (MaySeeAround d p) (λ v. reading_at d.template d.place (scope_site d.template p) (tree_value (json v)))
      x.default_value
      (λ v. itself_around p (reading_at d.template d.place (scope_site d.template p) (tree_value (json v)))
      (site_asks d (scope_site d.template p) (tree_value (json v))))

  given_asks : (p : Position) (s : Step) (x : Parameter) (a : Option Argument)
      → AllAsk (MaySeeAround d (s ∷ p)) (given_or_default d p s x a)
  given_asks p s x None = default_asks (s ∷ p) x
  given_asks p s x (Some a) =
      weakened (MaySee d p) (MaySeeAround d (s ∷ p)) (λ c i. inr i)
      (reading_at d.template d.place (body_site d.template p s) (content_value (codes "value") a.content))
      (site_asks d (body_site d.template p s) (content_value (codes "value") a.content))

  parameter_asks : (p : Position) (x : List ℕ) (q : Parameter) → AllAsk (MaySeeAround d p) (parameter_value d p x q)
  parameter_asks [] x q =
      map_asks (MaySeeAround d []) (bound_value d) (bound_to d x)
      (λ b. itself_around [] (bound_value d b) (bound_asks b))
  parameter_asks (s ∷ p) x q = given_asks p s q (argument_named d x (nested_of d.template p s))

  variable_asks : (p : Position) (v : Variable) → Asks (MaySeeAround d p) (variable_value d p v)
  variable_asks p v =
      itself_around p (variable_value d p v) (site_asks d (scope_site d.template p) (content_value v.name v.content))

  parameters_ask : (p : Position) (x : List ℕ) → Asks (MaySeeAround d p) (plain d (parameter p x))
  unfolding plain raw
  parameters_ask p x =
      ruled_asks (MaySeeAround d p) d (rule d (parameter p x)) (raw d (parameter p x))
      (if_asks (MaySeeAround d p) (is_own d p) (of_scope d p (parameter_named x) (parameter_value d p x))
      (and_then_asks (MaySeeAround d p) (parameter_value d p x)
      (option_and_then (parameter_named x) (template_at d.template p)) (parameter_asks p x)))

  variables_ask : (p : Position) (x : List ℕ) → Asks (MaySeeAround d p) (plain d (variable p x))
  unfolding plain raw
  variables_ask p x =
      ruled_asks (MaySeeAround d p) d (rule d (variable p x)) (raw d (variable p x))
      (if_asks (MaySeeAround d p) (is_own d p)
      (of_scope d p (variable_named x) (λ v. Some (variable_value d p v)))
      (and_then_asks (MaySeeAround d p) (λ v. Some (variable_value d p v))
      (option_and_then (variable_named x) (template_at d.template p)) (variable_asks p)))

  -- a parameter or a variable of the scope
  abbrev IsEntry : Position → Cell → Type 0
  IsEntry p c = ((x : List ℕ) × (parameter p x ≡ c)) ⊎ ((x : List ℕ) × (variable p x ≡ c))

  own_entry : (b : Bool) (p : Position) (t : TemplateTree) (c : Cell) → Has c (own_cells b p t) → IsEntry p c
  own_entry false p t c h = absurd h
  own_entry true p t c h =
      elim (has_joined c (map (parameter p) (parameter_names t)) (map (variable p) (variable_names t)) h) [
        | inl i ↦ (let m = has_mapped (parameter p) c (parameter_names t) i in inl (m.0, m.1.1))
        | inr i ↦ (let m = has_mapped (variable p) c (variable_names t) i in inr (m.0, m.1.1))
      ]

  entry_is : (p : Position) (o : Option TemplateTree) (c : Cell) → Has c (of_template (own_cells (is_own d p) p) o)
      → IsEntry p c
  entry_is p None c h = absurd h
  entry_is p (Some t) c h = own_entry (is_own d p) p t c h

  pub entries_await : (t : Table) (p : Position) (e c : Cell) → Has e (entry_cells d p)
      → told t (plain d e) ≡ waits c → MaySeeAround d p c
  entries_await t p e c h f =
      elim (entry_is p (template_at d.template p) e h) [
        | inl i ↦ awaited_has (MaySeeAround d p) t (plain d (parameter p i.0)) c (parameters_ask p i.0)
            (ap (λ (z : Cell). told t (plain d z)) i.1 ∙ f)
        | inr i ↦ awaited_has (MaySeeAround d p) t (plain d (variable p i.0)) c (variables_ask p i.0)
            (ap (λ (z : Cell). told t (plain d z)) i.1 ∙ f)
      ]
