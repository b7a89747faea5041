-- What is bound to a parameter, and what a nested deployment gives for it.
use Rattle.std.proofs.Common.{◌≡◌, ◌⊎◌, inl, inr, chars, ℕ, suc, ◌+◌, ◌<◌, ◌≤◌, Bool, true, false, List, [], ◌∷◌, map}
use Rattle.std.proofs.Common.{drop, length}
use Rattle.std.proofs.Common.{get_or, Option, Some, None, Result, refl, sym, ap, subst, ◌∙◌, arith}
use Rattle.std.specs.Prelude.{bytes_eq, codes, slice_get, slice_index_or, option_map, option_and_then, if◌then◌else◌}
use Rattle.std.proofs.lemmas.List.{drop_more, drop_all, length-map}
use Rattle.foundation.proofs.AsciiWords.{word}
use Rattle.arm_value.specs.Json.{Json, Member}
use Rattle.arm_value.specs.Look.{fold}
use Rattle.arm_value.specs.View.{json}
use Rattle.arm_value.specs.declared.value.Value.{Value}
use Rattle.reading.specs.Knowledge.{value}
use Rattle.template_parts.specs.declared.content.Argument.{Argument}
use Rattle.template_parts.specs.declared.given.BoundParameter.{BoundParameter}
use Rattle.template_parts.specs.declared.given.BoundValue.{BoundValue}
use Rattle.template_parts.specs.declared.parameter.Parameter.{Parameter}
use Rattle.template_parameters.specs.Binding.{BoundMeaning, value_view, bound_view}
use Rattle.template_tree.specs.Tree.{TemplateTree}
use Rattle.template_tree.specs.View.{body_tree}
use Rattle.template_tree.specs.declared.resource.Body.{Body}
use Rattle.template_tree.specs.declared.resource.Body.TheVariants as body
use Rattle.template_tree.specs.declared.resource.Deployment.{Deployment}
use Rattle.arm_env.specs.Look.{Looking, Surroundings}
use Rattle.deploy_cells.specs.Cells.{Step, step, Position, Cell, included, deployments}
use Rattle.deploy_cells.specs.Guarded.{Reads, there_if}
use Rattle.deploy_cells.specs.Same.{same}
use Rattle.deploy_cells.proofs.SameLemmas.{cell_is}
use Rattle.plan_cells.specs.Resources.{Listed, Nested, header_in, nested_at, nested_in, resources_in}
use Rattle.plan_cells.specs.Scopes.{template_at, nested_of}
use Rattle.plan_cells.specs.Sites.{Site, Texts, first_with, reading_at, texts_by}
use Rattle.plan_cells.specs.Meaning.{bound_value, parameter_value, argument_named, given_or_default, content_value}
use Rattle.plan_cells.specs.Meaning.{default_value}
use Rattle.plan_filling.specs.Rows as rows
use Rattle.plan_filling.specs.Rows.{Status, status_of}
use Rattle.plan_table.specs.declared.table.Table.{Table}
use Rattle.plan_table.specs.declared.frame.Frame.{Frame}
use Rattle.plan_table.specs.declared.frame.Instance.{Instance}
use Rattle.plan_table.specs.declared.listed.Listed as code
use Rattle.plan_table.specs.declared.line.Line.{Line}
use Rattle.plan_table.specs.declared.line.Spot.{Spot}
use Rattle.plan_table.specs.declared.line.Spot.TheVariants as spot
use Rattle.plan_table.specs.Lines.{cell_of, line_at, IsNumber, IsPlaced, IsAt, row_of, status_in}
use Rattle.plan_table.specs.Opened.{Opened, opened_at, step_of, nested_view}
use Rattle.plan_table.specs.Listed.{listed_of}
use Rattle.plan_table.specs.Whole.{whole_of, scopes_of, rows_in}
use Rattle.plan_table.specs.Found.{scope_at, state_at}
use Rattle.plan_table.proofs.HaltLemmas.{one_scope}
use Rattle.plan_sight.specs.declared.lack.Lack.{Lack}
use Rattle.plan_sight.specs.Ready.{IsReady, told_in}
use Rattle.plan_sight.specs.Seen.{Shows, Yields}
use Rattle.plan_sight.proofs.LookLemmas.{status_at, scope_is}
use Rattle.plan_telling.proofs.PlaceLemmas.{admitted_by, around_there, position_around}
use Rattle.plan_values.specs.Values.{IsOpener, argument_at, argument_value, instance_site}
use Rattle.plan_nested.proofs.SeekLemmas.{resource_is}
use Rattle.plan_values.proofs.RawLemmas.{shown, not_there}
use Rattle.plan_values.proofs.SiteLemmas.{one_listed, body_site_is}

some_or_none : (n : ℕ) → (n ≡ 0) ⊎ (0 < n)
some_or_none n = grind arith

-- ---- the first of which a test is true

by_first : {A : Type 0} (b c : Bool) (x : A) (o : Option A) → b ≡ c
    → (if b then Some x else o) ≡ (if c then Some x else o)
by_first b c x o e = ap (λ d. if d then Some x else o) e

module _ {A : Type 0} (test : A → Bool) (xs : List A) (i : ℕ) (all : Option A)
    (before : first_with test (drop i xs) ≡ all) where
  next : (x : A) → i < length xs → x ≡ get_or xs i x → (b : Bool) → test x ≡ b
      → (if b then Some x else first_with test (drop (i + 1) xs)) ≡ all
  next x h e b q =
      sym (by_first (test x) b x (first_with test (drop (i + 1) xs)) q)
      ∙ ap (first_with test) (sym (drop_more xs i x h ∙ ap (λ y. y ∷ drop (i + 1) xs) (sym e))) ∙ before

  pub first_found : (x : A) → i < length xs → x ≡ get_or xs i x → test x ≡ true → Some x ≡ all
  first_found x h e q = next x h e true q

  pub first_later : (x : A) → i < length xs → x ≡ get_or xs i x → test x ≡ false
      → first_with test (drop (i + 1) xs) ≡ all
  first_later x h e q = next x h e false q

  pub first_nowhere : length xs ≤ i → None ≡ all
  first_nowhere h = ap (first_with test) (sym (drop_all i xs h)) ∙ before

-- ---- the root

bound_by : (b : Bool) (p : BoundParameter) (o : Option BoundParameter) (m : Option (List ℕ × BoundMeaning))
    → option_map (λ (q : List ℕ × BoundMeaning). q.1) m ≡ option_map (λ q. value_view q.value) o
    → option_map (λ (q : List ℕ × BoundMeaning). q.1) (if b then Some (bound_view p) else m)
    ≡ option_map (λ q. value_view q.value) (if b then Some p else o)
bound_by true p o m e = refl
bound_by false p o m e = e

bound_mapped : (x : List ℕ) (bs : List BoundParameter)
    → option_map (λ (q : List ℕ × BoundMeaning). q.1)
    (first_with (λ (q : List ℕ × BoundMeaning). bytes_eq x (fold q.0)) (map bound_view bs))
    ≡ option_map (λ q. value_view q.value) (first_with (λ b. bytes_eq x (fold b.name)) bs)
bound_mapped x [] = refl
bound_mapped x (b ∷ bs) =
    bound_by (bytes_eq x (fold b.name)) b (first_with (λ b. bytes_eq x (fold b.name)) bs)
    (first_with (λ (q : List ℕ × BoundMeaning). bytes_eq x (fold q.0)) (map bound_view bs)) (bound_mapped x bs)

viewed : (o : Option BoundParameter) → option_map (λ q. value_view q.value) o
    ≡ option_map value_view (option_map (λ b. b.value) o)
viewed (Some b) = refl
viewed None = refl

-- what is bound to a parameter of the root
pub root_value : (t : Table) (x : List ℕ) (q : Parameter) (o : Option BoundValue)
    → o ≡ option_map (λ b. b.value) (first_with (λ b. bytes_eq x (fold b.name)) t.bound.now)
    → parameter_value (whole_of t) [] x q ≡ option_map (bound_value (whole_of t)) (option_map value_view o)
root_value t x q o e =
    ap (option_map (bound_value (whole_of t)))
    (bound_mapped x t.bound.now ∙ viewed (first_with (λ b. bytes_eq x (fold b.name)) t.bound.now)
    ∙ ap (option_map value_view) (sym e))

-- ---- the line of a cell that has a status

record HasLine (os : List Opened) (ls : List Line) (c : Cell) : Type 0 where
  line : ℕ
  listed : line < length ls
  is : cell_of os (line_at ls line).spot ≡ c

first_or_later : (os : List Opened) (l : Line) (ls : List Line) (c : Cell) (u : Status) (b : Bool)
    → same (cell_of os l.spot) c ≡ b → status_of (map (row_of os) (l ∷ ls)) c ≡ Some u
    → (status_of (map (row_of os) ls) c ≡ Some u → HasLine os ls c) → HasLine os (l ∷ ls) c
first_or_later os l ls c u true q h later =
    record { line = 0; listed = omega arith; is = cell_is (cell_of os l.spot) c q }
first_or_later os l ls c u false q h later =
    let r = later (sym (ap (λ b. if b then Some (status_in l.state) else status_of (map (row_of os) ls) c) q) ∙ h) in
    let less = r.listed in record { line = suc r.line; listed = omega (arith, less); is = r.is }

line_of : (os : List Opened) (ls : List Line) (c : Cell) (u : Status) → status_of (map (row_of os) ls) c ≡ Some u
    → HasLine os ls c
line_of os [] c u e = absurd (cc)
line_of os (l ∷ ls) c u e = first_or_later os l ls c u (same (cell_of os l.spot) c) refl e (λ h. line_of os ls c u h)

-- the spot of a condition
record IsInclusion (os : List Opened) (p : Position) (s : Step) (x : Spot) : Type 0 where
  frame : ℕ
  position : (opened_at os frame).position ≡ p
  is : x ≡ spot.Included frame s.resource s.copy

inclusion : (os : List Opened) (p : Position) (s : Step) (x : Spot) → cell_of os x ≡ included p s
    → IsInclusion os p s x
inclusion os p s (spot.Parameter f n) e = absurd (cc)
inclusion os p s (spot.Variable f n) e = absurd (cc)
inclusion os p s (spot.Offered f n) e = absurd (cc)
inclusion os p s (spot.Output f n) e = absurd (cc)
inclusion os p s (spot.Count f r) e = absurd (cc)
inclusion os p s (spot.Included f r i) e =
    let at : (opened_at os f).position ≡ p = cc in
    let same : step r i ≡ s = cc in record {
      frame = f;
      position = at;
      is = λ j. spot.Included f (same j).resource (same j).copy;
    }
inclusion os p s (spot.Name f r i) e = absurd (cc)
inclusion os p s (spot.Deployments f) e = absurd (cc)

-- ---- a scope inside another, by the instance that opened it

nested_by : (o : Option Nested) (u : TemplateTree) → option_map (λ (n : Nested). n.template) o ≡ Some u
    → (n : Nested) × (o ≡ Some n)
nested_by None u e = absurd (cc)
nested_by (Some n) u e = (n, refl)

module _ (t : Table) (g : ℕ) (ready : IsReady t) (there : g < length (scopes_of t)) (s : Step) (p : Position)
    (at : (scope_at t g).position ≡ s ∷ p) where
  abbrev f : ℕ
  f = (scope_at t g).around

  pub opener_nested : (n : Nested) × (nested_of (whole_of t).template p s ≡ Some n)
  unfolding template_at
  opener_nested =
      nested_by (nested_of (whole_of t).template p s) (scope_at t g).template
      (ap (template_at (whole_of t).template) (sym at) ∙ (ready.laid.kept g there).template)

  abbrev within : f < length (scopes_of t)
  within = around_there t g ready there s p at

  template_around : template_at (whole_of t).template p ≡ Some (scope_at t f).template
  template_around =
      ap (template_at (whole_of t).template) (sym (position_around t g ready there s p at))
      ∙ (ready.laid.kept f within).template

  pub nested_here : nested_at (scope_at t f).template s.resource ≡ Some opener_nested.0
  nested_here =
      ap (option_and_then (λ u. nested_at u s.resource)) (sym template_around) ∙ opener_nested.1

  listing_line : IsAt t.lines.items (spot.Deployments g)
  listing_line = ready.laid.cells g there (spot.Deployments g) refl tt tt

  listing_listed : status_of (rows_in t) (deployments (s ∷ p)) ≡ Some (status_in (state_at t listing_line.line))
  listing_listed =
      ap (status_of (rows_in t)) (sym (ap (cell_of (scopes_of t)) listing_line.is ∙ ap deployments at))
      ∙ status_at t listing_line.line ready listing_line.listed

  abbrev value_here : Status
  value_here =
      rows.Value (admitted_by t ready (deployments (s ∷ p)) (included p s) (status_in (state_at t listing_line.line))
      listing_listed refl).value

  inclusion_line : HasLine (scopes_of t) t.lines.items (included p s)
  inclusion_line =
      line_of (scopes_of t) t.lines.items (included p s) value_here
      (admitted_by t ready (deployments (s ∷ p)) (included p s) (status_in (state_at t listing_line.line))
      listing_listed refl).has

  inclusion_spot : IsInclusion (scopes_of t) p s (line_at t.lines.items inclusion_line.line).spot
  inclusion_spot = inclusion (scopes_of t) p s (line_at t.lines.items inclusion_line.line).spot inclusion_line.is

  inclusion_placed : IsPlaced (scopes_of t) (spot.Included inclusion_spot.frame s.resource s.copy)
  inclusion_placed =
      subst (λ x. IsPlaced (scopes_of t) x) inclusion_spot.is
      (ready.laid.placed inclusion_line.line inclusion_line.listed)

  frame_is : inclusion_spot.frame ≡ f
  frame_is =
      one_scope (whole_of t) (scopes_of t) t.index t.lines.items ready.laid ready.sound.distinct inclusion_spot.frame f
      inclusion_placed.there within
      (inclusion_spot.position ∙ sym (position_around t g ready there s p at))

  pub opener_number : IsNumber (scope_at t f) s.resource
  opener_number = subst (λ n. IsNumber (scope_at t n) s.resource) frame_is inclusion_placed.declared.0

  pub opener_copy : s.copy < 800
  opener_copy = inclusion_placed.declared.1

-- ---- the value of a parameter of a scope inside

module _ (t : Table) (s : Step) (p : Position) (q : Parameter) (x : List ℕ) (n : Nested)
    (is : nested_of (whole_of t).template p s ≡ Some n) where
  given_is : (o : Option Argument) → o ≡ first_with (λ a. bytes_eq x (fold a.name)) n.arguments
      → parameter_value (whole_of t) (s ∷ p) x q ≡ given_or_default (whole_of t) p s q o
  given_is o e = ap (λ m. given_or_default (whole_of t) p s q (argument_named (whole_of t) x m)) is
      ∙ ap (given_or_default (whole_of t) p s q) (sym e)

-- ---- what the code was told

pub bound_shown : (t : Table) (x : List ℕ) (q : Parameter) (res : Result Value Lack) (v : BoundValue)
    (bs : List BoundParameter) → bs ≡ t.bound.now
    → Some v ≡ option_map (λ b. b.value) (first_with (λ b. bytes_eq x (fold b.name)) bs)
    → Yields json t res (told_in t (bound_value (whole_of t) (value_view v)))
    → Shows json t res (told_in t (there_if (parameter_value (whole_of t) [] x q)))
bound_shown t x q res v bs e h y =
    shown json t res (parameter_value (whole_of t) [] x q) (bound_value (whole_of t) (value_view v))
    (root_value t x q (Some v) (h ∙ ap (λ (ys : List BoundParameter). option_map (λ b. b.value)
    (first_with (λ b. bytes_eq x (fold b.name)) ys)) e)) y

pub bound_nothing : (t : Table) (x : List ℕ) (q : Parameter) (bs : List BoundParameter) → bs ≡ t.bound.now
    → None ≡ option_map (λ b. b.value) (first_with (λ b. bytes_eq x (fold b.name)) bs)
    → told_in t (there_if (parameter_value (whole_of t) [] x q)) ≡ value None
bound_nothing t x q bs e h =
    not_there t (parameter_value (whole_of t) [] x q)
    (root_value t x q None (h ∙ ap (λ (ys : List BoundParameter). option_map (λ b. b.value)
    (first_with (λ b. bytes_eq x (fold b.name)) ys)) e))

-- the first instance of a position
first_step : (xs : List Instance) (d : Instance) → 0 < length xs
    → (p : Position) × (map step_of xs ≡ step_of (slice_index_or xs 0 d) ∷ p)
first_step [] d h = absurd (omega (arith, h))
first_step (x ∷ xs) d h = (map step_of xs, refl)

module _ (t : Table) (g : ℕ) (ready : IsReady t) (there : g < length (scopes_of t)) (s : Step) (p : Position)
    (at : (scope_at t g).position ≡ s ∷ p) (q : Parameter) (x : List ℕ) where
  abbrev around : ℕ
  around = (scope_at t g).around

  abbrev opened_by : Nested
  opened_by = (opener_nested t g ready there s p at).0

  by_position : {X : Type 0} (view : X → Json) (res : Result X Lack) (o : Option (Reads Json))
      → parameter_value (whole_of t) (s ∷ p) x q ≡ o → Shows view t res (told_in t (there_if o))
      → Shows view t res (told_in t (there_if (parameter_value (whole_of t) (scope_at t g).position x q)))
  by_position view res o e h =
      subst (λ m. Shows view t res (told_in t (there_if m)))
      (sym (ap (λ r. parameter_value (whole_of t) r x q) at ∙ e)) h

  given_by : (o : Option Argument) → o ≡ first_with (λ a. bytes_eq x (fold a.name)) opened_by.arguments
      → parameter_value (whole_of t) (s ∷ p) x q ≡ given_or_default (whole_of t) p s q o
  given_by o e = given_is t s p q x opened_by (opener_nested t g ready there s p at).1 o e

  pub argument_shown : (res : Result Value Lack) (a : Argument) (xs : List Argument) → xs ≡ opened_by.arguments
      → Some a ≡ first_with (λ a. bytes_eq x (fold a.name)) xs
      → Yields json t res (told_in t (argument_value t around s a))
      → Shows json t res (told_in t (there_if (parameter_value (whole_of t) (scope_at t g).position x q)))
  argument_shown res a xs e h y =
      by_position json res (given_or_default (whole_of t) p s q (Some a))
      (given_by (Some a) (h ∙ ap (first_with (λ a. bytes_eq x (fold a.name))) e))
      (shown json t res (given_or_default (whole_of t) p s q (Some a)) (argument_value t around s a)
      (ap (λ r. Some (argument_at t r s a)) (sym (position_around t g ready there s p at))) y)

  pub default_shown : (res : Result Value Lack) (xs : List Argument) → xs ≡ opened_by.arguments
      → None ≡ first_with (λ a. bytes_eq x (fold a.name)) xs
      → Shows json t res (told_in t (there_if (default_value (whole_of t) (scope_at t g).position q)))
      → Shows json t res (told_in t (there_if (parameter_value (whole_of t) (scope_at t g).position x q)))
  default_shown res xs e h y =
      by_position json res (default_value (whole_of t) (s ∷ p) q)
      (given_by None (h ∙ ap (first_with (λ a. bytes_eq x (fold a.name))) e))
      (subst (λ r. Shows json t res (told_in t (there_if (default_value (whole_of t) r q)))) at y)

  -- what the nested deployment gives, by the number of the frame around as the code has it
  pub given_by_around : (r : ℕ) → r ≡ around → (xs : List Argument)
      → ((n : Nested) → nested_at (scope_at t r).template s.resource ≡ Some n
      → resources_in (scope_at t r).template ≡ (scope_at t r).resources → xs ≡ n.arguments)
      → xs ≡ opened_by.arguments
  given_by_around r e xs h =
      h opened_by
      (ap (λ n. nested_at (scope_at t n).template s.resource) e ∙ nested_here t g ready there s p at)
      (ap (λ n. resources_in (scope_at t n).template) e
      ∙ sym (ready.laid.kept around (around_there t g ready there s p at)).resources
      ∙ ap (λ n. (scope_at t n).resources) (sym e))

pub position_long : (t : Table) (f : ℕ) (fr : Frame) (xs : List Instance) → f < length t.frames.items
    → fr ≡ get_or t.frames.items f fr → xs ≡ fr.position.items → 0 < length (scope_at t f).position → 0 < length xs
position_long t f fr xs h e q l =
    let same : length (scope_at t f).position ≡ length xs =
    ap (λ (o : Opened). length o.position) (scope_is t f fr h e) ∙ length-map fr.position.items step_of
    ∙ ap length (sym q) in omega (arith, same, l)

-- the instance that was read first
pub opener_read : (t : Table) (f : ℕ) (fr : Frame) (xs : List Instance) (d : Instance) → f < length t.frames.items
    → fr ≡ get_or t.frames.items f fr → xs ≡ fr.position.items → 0 < length (scope_at t f).position
    → IsOpener t f (slice_index_or xs 0 d)
opener_read t f fr xs d h e q l =
    let r = first_step xs d (position_long t f fr xs h e q l) in
    (r.0, ap (λ (o : Opened). o.position) (scope_is t f fr h e) ∙ ap (map step_of) (sym q) ∙ r.1)

pub position_none : (t : Table) (f : ℕ) (fr : Frame) (xs : List Instance) → f < length t.frames.items
    → fr ≡ get_or t.frames.items f fr → xs ≡ fr.position.items → length xs ≡ 0 → (scope_at t f).position ≡ []
position_none t f fr [] h e q l = ap (λ (o : Opened). o.position) (scope_is t f fr h e) ∙ ap (map step_of) (sym q)
position_none t f fr (x ∷ xs) h e q l = absurd (omega (arith, l))

pub position_some : (t : Table) (f : ℕ) (fr : Frame) (xs : List Instance) → f < length t.frames.items
    → fr ≡ get_or t.frames.items f fr → xs ≡ fr.position.items → (length xs ≡ 0 → ⊥)
    → 0 < length (scope_at t f).position
position_some t f fr xs h e q n =
    let same : length (scope_at t f).position ≡ length xs =
    ap (λ (o : Opened). length o.position) (scope_is t f fr h e) ∙ length-map fr.position.items step_of
    ∙ ap length (sym q) in
    elim (some_or_none (length xs)) [
      | inl z ↦ absurd (n z)
      | inr l ↦ omega (arith, same, l)
    ]

-- ---- what a nested deployment gives

by_body : (b : Body) (d : Deployment) (n : Nested) → b ≡ body.Deployment d → nested_in (body_tree b) ≡ Some n
    → d.parameters ≡ n.arguments
by_body b d n e h =
    let same : Some (nested_view d) ≡ Some n = ap (λ x. nested_in (body_tree x)) (sym e) ∙ h in
    let is : nested_view d ≡ n = cc in ap (λ (m : Nested). m.arguments) is

nested_content : (u : TemplateTree) (r : ℕ) (x : Listed) (n : Nested) → slice_get (resources_in u) r ≡ Some x
    → x.declaration.existing ≡ false → nested_at u r ≡ Some n → nested_in x.content ≡ Some n
nested_content u r x n h b e =
    ap (option_and_then (λ (z : Listed). nested_in z.content)) (sym (resource_is u r x h b)) ∙ e

module _ (t : Table) (f r : ℕ) (k : IsNumber (scope_at t f) r) (y : code.Listed)
    (has : slice_get (scope_at t f).resources r ≡ Some (listed_of y)) (n : Nested)
    (e : nested_at (scope_at t f).template r ≡ Some n)
    (q : resources_in (scope_at t f).template ≡ (scope_at t f).resources) where
  content_here : nested_in (listed_of y).content ≡ Some n
  content_here =
      nested_content (scope_at t f).template r (listed_of y) n (ap (λ xs. slice_get xs r) q ∙ has)
      (ap (λ (z : Listed). z.declaration.existing) (sym (one_listed t f r k (listed_of y) has)) ∙ k.is_put) e

  pub arguments_given : (d : Deployment) (xs : List Argument) → y.body.now ≡ body.Deployment d → xs ≡ d.parameters
      → xs ≡ n.arguments
  arguments_given d xs b s = s ∙ by_body y.body.now d n b content_here

  pub none_given : (ms : List Member) → y.body.now ≡ body.Members ms → [] ≡ n.arguments
  none_given ms b =
      let no : None ≡ Some n = ap (λ x. nested_in (body_tree x)) (sym b) ∙ content_here in absurd (cc)

-- ---- what an argument is

pub argument_made : (t : Table) (f : ℕ) → IsReady t → f < length t.frames.items → (s : Step) (x : Texts)
    → x ≡ texts_by (header_in (scope_at t f).template).form → (a : Argument) (name : List ℕ)
    → name ≡ chars (codes "value") → (m : Surroundings → Looking Json) → m ≡ content_value name a.content
    → (res : Result Value Lack)
    → Yields json t res (told_in t (reading_at (whole_of t).template t.place.now (instance_site t f s x) m))
    → Yields json t res (told_in t (argument_value t f s a))
argument_made t f ready h s x e a name q m k res y =
    let site = body_site_is t f ready h s x e in
    let meaning : m ≡ content_value (codes "value") a.content =
    k ∙ ap (λ z. content_value z a.content) (q ∙ word (codes "value") refl) in
    subst (λ (z : Site × (Surroundings → Looking Json)). Yields json t res (told_in t (reading_at (whole_of t).template
    t.place.now z.0 z.1))) (λ i. (site i, meaning i)) y
