-- What is told at a point of the cells of a scope, by what the code was told.
use Rattle.std.proofs.Common.{◌≡◌, chars, ℕ, ◌<◌, true, List, [], ◌∷◌, length, get_or, Option, Some, None, Result, sym}
use Rattle.std.proofs.Common.{ap}
use Rattle.std.proofs.Common.{subst, ◌∙◌, refl}
use Rattle.std.specs.Prelude.{bytes_eq, codes, option_map}
use Rattle.foundation.proofs.AsciiWords.{word}
use Rattle.arm_value.specs.Json.{Json, bool}
use Rattle.arm_value.specs.Look.{fold}
use Rattle.arm_value.specs.View.{json}
use Rattle.arm_value.specs.declared.value.Value.{Value}
use Rattle.arm_env.specs.Look.{Looking, Surroundings}
use Rattle.arm_eval.specs.Trees.{tree_value}
use Rattle.reading.specs.Knowledge.{value}
use Rattle.template_parts.specs.declared.content.Argument.{Argument}
use Rattle.template_parts.specs.declared.given.BoundParameter.{BoundParameter}
use Rattle.template_parts.specs.declared.given.BoundValue.{BoundValue}
use Rattle.template_parts.specs.declared.output.Output.{Output}
use Rattle.template_parts.specs.declared.parameter.Parameter.{Parameter}
use Rattle.template_parts.specs.declared.variable.Variable.{Variable}
use Rattle.template_parameters.specs.Binding.{value_view}
use Rattle.deploy_cells.specs.Cells.{Step, Position, variable, offered, output}
use Rattle.deploy_cells.specs.Guarded.{Reads, there_if}
use Rattle.plan_cells.specs.Resources.{Nested, header_in}
use Rattle.plan_cells.specs.Scopes.{nested_of}
use Rattle.plan_cells.specs.Sites.{Site, Texts, first_with, reading_at, scope_site, texts_by}
use Rattle.plan_cells.specs.Meaning.{Deployment, raw, argument_named, bound_value, condition_value, content_value}
use Rattle.plan_cells.specs.Meaning.{default_value}
use Rattle.plan_cells.specs.Meaning.{given_or_default, parameter_value, variable_value, offered_value, output_value}
use Rattle.plan_cells.specs.Children.{parameter_names, variable_names, output_names}
use Rattle.plan_table.specs.declared.table.Table.{Table}
use Rattle.plan_table.specs.declared.line.Spot.TheVariants as spot
use Rattle.plan_table.specs.Lines.{name_at}
use Rattle.plan_table.specs.Whole.{whole_of, scopes_of}
use Rattle.plan_table.specs.Found.{scope_at}
use Rattle.plan_sight.specs.declared.lack.Lack.{Lack}
use Rattle.plan_sight.specs.Ready.{IsReady}
use Rattle.plan_sight.specs.Seen.{Shows, Yields}
use Rattle.plan_places.proofs.PlaceLemmas.{position_around}
use Rattle.plan_values.specs.Values.{argument_at, argument_value, instance_site}
use Rattle.plan_values.proofs.BoundLemmas.{root_value, opener_nested}
use Rattle.plan_values.proofs.RawLemmas.{raw_parameter, raw_variable, raw_offered, raw_output}
use Rattle.plan_values.proofs.SiteLemmas.{body_site_is}
use Rattle.point_rows.specs.declared.later.Later.{Later}
use Rattle.point_rows.specs.Rows.{told_now}
use Rattle.point_sights.proofs.BodyLemmas.{shown, not_there, pure_there}
use Rattle.point_cells.specs.RawNow.{raw_now}

-- ---- what a scope declares

module _ (t : Table) (w : Later) (f : ℕ) (ready : IsReady t) (h : f < length t.frames.items) where
  abbrev e : Deployment
  e = whole_of t

  abbrev at : Position
  at = (scope_at t f).position

  pub variable_shown : (res : Result Value Lack) (n : ℕ) (v : Variable) → (scope_at t f).is_own ≡ true
      → n < length (header_in (scope_at t f).template).variables
      → v ≡ get_or (header_in (scope_at t f).template).variables n v
      → Yields json t res (told_now t w (variable_value e at v)) → Shows json t res (raw_now t w (spot.Variable f n))
  variable_shown res n v own l q y =
      shown t w json res (raw e (variable at (name_at (variable_names (scope_at t f).template) n)))
      (variable_value e at v) (raw_variable t f ready h n v own l q) y

  pub offered_if : (res : Result Value Lack) (n : ℕ) (o : Output) (j : Json)
      → n < length (header_in (scope_at t f).template).outputs
      → o ≡ get_or (header_in (scope_at t f).template).outputs n o → option_map json o.condition ≡ Some j
      → Yields json t res (told_now t w (reading_at e.template e.place (scope_site e.template at) (tree_value j)))
      → Shows json t res (raw_now t w (spot.Offered f n))
  offered_if res n o j l q c y =
      shown t w json res (raw e (offered at (name_at (output_names (scope_at t f).template) n))) (offered_value e at o)
      (raw_offered t f ready h n o l q)
      (subst (λ m. Yields json t res (told_now t w (condition_value e (scope_site e.template at) m))) (sym c) y)

  pub offered_always : (n : ℕ) (o : Output) → n < length (header_in (scope_at t f).template).outputs
      → o ≡ get_or (header_in (scope_at t f).template).outputs n o → option_map json o.condition ≡ None
      → raw_now t w (spot.Offered f n) ≡ value (Some (bool true))
  offered_always n o l q c =
      ap (λ m. told_now t w (there_if m)) (raw_offered t f ready h n o l q
      ∙ ap (λ m. Some (condition_value e (scope_site e.template at) m)) c)
      ∙ pure_there t w (bool true)

  pub output_shown : (res : Result Value Lack) (n : ℕ) (o : Output)
      → n < length (header_in (scope_at t f).template).outputs
      → o ≡ get_or (header_in (scope_at t f).template).outputs n o
      → Yields json t res (told_now t w (output_value e at o)) → Shows json t res (raw_now t w (spot.Output f n))
  output_shown res n o l q y =
      shown t w json res (raw e (output at (name_at (output_names (scope_at t f).template) n))) (output_value e at o)
      (raw_output t f ready h n o l q) y

  pub parameter_shown : (res : Result Value Lack) (n : ℕ) (q : Parameter) → (scope_at t f).is_own ≡ true
      → n < length (header_in (scope_at t f).template).parameters
      → q ≡ get_or (header_in (scope_at t f).template).parameters n q
      → Shows json t res (told_now t w (there_if (parameter_value e at
      (name_at (parameter_names (scope_at t f).template) n) q)))
      → Shows json t res (raw_now t w (spot.Parameter f n))
  parameter_shown res n q own l i s =
      subst (λ o. Shows json t res (told_now t w (there_if o))) (sym (raw_parameter t f ready h n q own l i)) s

  pub default_if : (res : Result Value Lack) (q : Parameter) (v : Value) → q.default_value ≡ Some v
      → Yields json t res (told_now t w (reading_at e.template e.place (scope_site e.template at) (tree_value (json
      v))))
      → Shows json t res (told_now t w (there_if (default_value e at q)))
  default_if res q v c y =
      shown t w json res (default_value e at q) (reading_at e.template e.place (scope_site e.template at)
      (tree_value (json v)))
      (ap (option_map (λ (z : Value). reading_at e.template e.place (scope_site e.template at) (tree_value
      (json z)))) c)
      y

  pub default_none : (q : Parameter) → q.default_value ≡ None
      → told_now t w (there_if (default_value e at q)) ≡ value None
  default_none q c =
      not_there t w (default_value e at q)
      (ap (option_map (λ (z : Value). reading_at e.template e.place (scope_site e.template at) (tree_value
      (json z)))) c)

-- ---- what the code was told

pub bound_shown : (t : Table) (w : Later) (x : List ℕ) (q : Parameter) (res : Result Value Lack) (v : BoundValue)
    (bs : List BoundParameter) → bs ≡ t.bound.now
    → Some v ≡ option_map (λ b. b.value) (first_with (λ b. bytes_eq x (fold b.name)) bs)
    → Yields json t res (told_now t w (bound_value (whole_of t) (value_view v)))
    → Shows json t res (told_now t w (there_if (parameter_value (whole_of t) [] x q)))
bound_shown t w x q res v bs e h y =
    shown t w json res (parameter_value (whole_of t) [] x q) (bound_value (whole_of t) (value_view v))
    (root_value t x q (Some v) (h ∙ ap (λ (ys : List BoundParameter). option_map (λ b. b.value)
    (first_with (λ b. bytes_eq x (fold b.name)) ys)) e)) y

pub bound_nothing : (t : Table) (w : Later) (x : List ℕ) (q : Parameter) (bs : List BoundParameter) → bs ≡ t.bound.now
    → None ≡ option_map (λ b. b.value) (first_with (λ b. bytes_eq x (fold b.name)) bs)
    → told_now t w (there_if (parameter_value (whole_of t) [] x q)) ≡ value None
bound_nothing t w x q bs e h =
    not_there t w (parameter_value (whole_of t) [] x q)
    (root_value t x q None (h ∙ ap (λ (ys : List BoundParameter). option_map (λ b. b.value)
    (first_with (λ b. bytes_eq x (fold b.name)) ys)) e))

module _ (t : Table) (s : Step) (p : Position) (q : Parameter) (x : List ℕ) (n : Nested)
    (is : nested_of (whole_of t).template p s ≡ Some n) where
  given_is : (o : Option Argument) → o ≡ first_with (λ a. bytes_eq x (fold a.name)) n.arguments
      → parameter_value (whole_of t) (s ∷ p) x q ≡ given_or_default (whole_of t) p s q o
  given_is o e = ap (λ m. given_or_default (whole_of t) p s q (argument_named (whole_of t) x m)) is
      ∙ ap (given_or_default (whole_of t) p s q) (sym e)

module _ (t : Table) (w : Later) (g : ℕ) (ready : IsReady t) (there : g < length (scopes_of t)) (s : Step)
    (p : Position) (at : (scope_at t g).position ≡ s ∷ p) (q : Parameter) (x : List ℕ) where
  abbrev around : ℕ
  around = (scope_at t g).around

  abbrev opened_by : Nested
  opened_by = (opener_nested t g ready there s p at).0

  by_position : {X : Type 0} (view : X → Json) (res : Result X Lack) (o : Option (Reads Json))
      → parameter_value (whole_of t) (s ∷ p) x q ≡ o → Shows view t res (told_now t w (there_if o))
      → Shows view t res (told_now t w (there_if (parameter_value (whole_of t) (scope_at t g).position x q)))
  by_position view res o e h =
      subst (λ m. Shows view t res (told_now t w (there_if m)))
      (sym (ap (λ r. parameter_value (whole_of t) r x q) at ∙ e)) h

  given_by : (o : Option Argument) → o ≡ first_with (λ a. bytes_eq x (fold a.name)) opened_by.arguments
      → parameter_value (whole_of t) (s ∷ p) x q ≡ given_or_default (whole_of t) p s q o
  given_by o e = given_is t s p q x opened_by (opener_nested t g ready there s p at).1 o e

  pub argument_shown : (res : Result Value Lack) (a : Argument) (xs : List Argument) → xs ≡ opened_by.arguments
      → Some a ≡ first_with (λ a. bytes_eq x (fold a.name)) xs
      → Yields json t res (told_now t w (argument_value t around s a))
      → Shows json t res (told_now t w (there_if (parameter_value (whole_of t) (scope_at t g).position x q)))
  argument_shown res a xs e h y =
      by_position json res (given_or_default (whole_of t) p s q (Some a))
      (given_by (Some a) (h ∙ ap (first_with (λ a. bytes_eq x (fold a.name))) e))
      (shown t w json res (given_or_default (whole_of t) p s q (Some a)) (argument_value t around s a)
      (ap (λ r. Some (argument_at t r s a)) (sym (position_around t g ready there s p at))) y)

  pub default_shown : (res : Result Value Lack) (xs : List Argument) → xs ≡ opened_by.arguments
      → None ≡ first_with (λ a. bytes_eq x (fold a.name)) xs
      → Shows json t res (told_now t w (there_if (default_value (whole_of t) (scope_at t g).position q)))
      → Shows json t res (told_now t w (there_if (parameter_value (whole_of t) (scope_at t g).position x q)))
  default_shown res xs e h y =
      by_position json res (default_value (whole_of t) (s ∷ p) q)
      (given_by None (h ∙ ap (first_with (λ a. bytes_eq x (fold a.name))) e))
      (subst (λ r. Shows json t res (told_now t w (there_if (default_value (whole_of t) r q)))) at y)

-- ---- what an argument is

pub argument_made : (t : Table) (w : Later) (f : ℕ) → IsReady t → f < length t.frames.items → (s : Step) (x : Texts)
    → x ≡ texts_by (header_in (scope_at t f).template).form → (a : Argument) (name : List ℕ)
    → name ≡ chars (codes "value") → (m : Surroundings → Looking Json) → m ≡ content_value name a.content
    → (res : Result Value Lack)
    → Yields json t res (told_now t w (reading_at (whole_of t).template t.place.now (instance_site t f s x) m))
    → Yields json t res (told_now t w (argument_value t f s a))
argument_made t w f ready h s x e a name q m k res y =
    let site = body_site_is t f ready h s x e in
    let meaning : m ≡ content_value (codes "value") a.content =
    k ∙ ap (λ z. content_value z a.content) (q ∙ word (codes "value") refl) in
    subst (λ (z : Site × (Surroundings → Looking Json)). Yields json t res (told_now t w (reading_at (whole_of
    t).template
    t.place.now z.0 z.1))) (λ i. (site i, meaning i)) y
