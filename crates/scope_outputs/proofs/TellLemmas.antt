-- What is told of an output, by what is told of its condition and of its value.
use Rattle.std.proofs.Common.{◌≡◌, ℕ, zero, suc, ◌<◌, arith, Bool, true, false, List, [], ◌∷◌, length, get_or, Option}
use Rattle.std.proofs.Common.{Some, None, refl, sym, ap}
use Rattle.std.proofs.Common.{subst}
use Rattle.std.proofs.Common.{◌∙◌}
use Rattle.std.specs.Prelude.{option_and_then}
use Rattle.arm_value.specs.Json.{Json, bool}
use Rattle.arm_value.specs.Kinds.{is_true}
use Rattle.arm_value.specs.View.{json}
use Rattle.arm_value.specs.declared.value.Value.{Value}
use Rattle.reading.specs.Knowledge.{Told, value, no_value, and_then}
use Rattle.template_parameters.specs.Rule.{is_bool, is_of}
use Rattle.template_parts.specs.declared.output.Output.{Output}
use Rattle.template_tree.specs.Tree.{TemplateTree}
use Rattle.deploy_cells.specs.Cells.{Position, Cell, offered, output}
use Rattle.deploy_cells.specs.Guarded.{Reads, there_if}
use Rattle.plan_cells.specs.Meaning.{Deployment, plain, raw, rule, is_typed, offered_value, output_value}
use Rattle.plan_cells.specs.Resources.{header_in}
use Rattle.plan_cells.specs.Scopes.{template_at}
use Rattle.plan_cells.specs.Sites.{output_named}
use Rattle.plan_cells.proofs.ApartLemmas.{names_at}
use Rattle.plan_table.specs.declared.table.Table.{Table}
use Rattle.plan_table.specs.declared.line.Spot.{Spot}
use Rattle.plan_table.specs.declared.line.Spot.TheVariants as spot
use Rattle.plan_table.specs.Lines.{name_at, cell_of}
use Rattle.plan_table.specs.Whole.{whole_of, scopes_of}
use Rattle.plan_table.specs.Found.{scope_at}
use Rattle.plan_sight.specs.declared.lack.Lack.{Lack}
use Rattle.plan_sight.specs.declared.lack.Lack.TheVariants as lack
use Rattle.plan_sight.specs.Ready.{IsReady}
use Rattle.plan_sight.specs.Seen.{Stops}
use Rattle.plan_sight.proofs.LookLemmas.{scopes_there}
use Rattle.plan_sight.proofs.RuleLemmas.{found_own, own_names}
use Rattle.scope_entries.proofs.RawLemmas.{raw_offered, raw_output}
use Rattle.deploy_histories.specs.Values.{where_offered}
use Rattle.point_rows.specs.declared.later.Entry.TheVariants as entry
use Rattle.point_rows.specs.declared.later.Later.{Later}
use Rattle.point_rows.specs.Rows.{told_now}
use Rattle.point_rows.proofs.ToldNowLemmas.{goes, told_pure}
use Rattle.scope_entries.specs.RawNow.{raw_now}
use Rattle.scope_entries.specs.Entries.{plain_now}
use Rattle.scope_entries.proofs.AnswerNowLemmas.{not_nothing, meets, breaks, stop_told}
use Rattle.scope_outputs.specs.Outputs.{position_of, names_of, reading_of, IsOffered}

-- ---- a cell of which there is a reading

module _ (t : Table) (l : Later) (s : Spot) (r : Reads Json)
    (is : raw (whole_of t) (cell_of (scopes_of t) s) ≡ Some r) where
  pub nothing_lacks : raw_now t l s ≡ value None → ⊥
  nothing_lacks h =
      not_nothing t l (whole_of t) (rule (whole_of t) (cell_of (scopes_of t) s)) r
      (sym (ap (λ o. told_now t l (there_if o)) is) ∙ h)

  pub no_value_stops : raw_now t l s ≡ no_value → Stops {A = Option Json} t lack.NoValue (plain_now t l (cell_of
      (scopes_of t) s))
  no_value_stops h = stop_told t l s h

-- ---- the condition and the value

module _ (t : Table) (l : Later) (f n : ℕ) (ready : IsReady t) (there : f < length t.frames.items) where
  abbrev d : Deployment
  d = whole_of t

  abbrev q : Position
  q = position_of t f

  abbrev x : List ℕ
  x = name_at (names_of t f) n

  abbrev u : TemplateTree
  u = (scope_at t f).template

  pub condition_is : (j : Json) (b : Bool) → j ≡ bool b → raw_now t l (spot.Offered f n) ≡ value (Some j)
      → plain_now t l (offered q x) ≡ value (Some (bool b))
  condition_is j b e h =
      meets t l (spot.Offered f n) j true (sym (ap is_bool e)) refl h ∙ ap (λ k. value (Some k)) e

  pub condition_breaks : (j : Json) → is_bool j ≡ false → raw_now t l (spot.Offered f n) ≡ value (Some j)
      → plain_now t l (offered q x) ≡ no_value
  condition_breaks j e h = breaks t l (spot.Offered f n) j false (sym e) refl h

  template_is : template_at d.template q ≡ Some u
  template_is = (ready.laid.kept f (scopes_there t f there)).template

  module _ (o : Output) (within : n < length (header_in u).outputs) (is : o ≡ get_or (header_in u).outputs n o) where
    rule_is : (j : Json) → rule d (output q x) j ≡ is_of o.kind j
    rule_is j =
        ap (λ (m : Option TemplateTree). is_typed d j (option_and_then (output_named x) m)) template_is
        ∙ ap (is_typed d j) (found_own (λ z. z.name) (header_in u).outputs
        (own_names u (names_at d.template ready.sound.names_differ q u template_is)).outputs n o within is)

    pub value_is : (j : Json) → is_of o.kind j ≡ true → raw_now t l (spot.Output f n) ≡ value (Some j)
        → plain_now t l (output q x) ≡ value (Some j)
    value_is j e h = meets t l (spot.Output f n) j true (sym (rule_is j ∙ e)) refl h

    pub value_breaks : (j : Json) → is_of o.kind j ≡ false → raw_now t l (spot.Output f n) ≡ value (Some j)
        → plain_now t l (output q x) ≡ no_value
    value_breaks j e h = breaks t l (spot.Output f n) j false (sym (rule_is j ∙ e)) refl h

    pub offered_raw : raw d (offered q x) ≡ Some (offered_value d q o)
    offered_raw = raw_offered t f ready there n o within is

    pub output_raw : raw d (output q x) ≡ Some (output_value d q o)
    output_raw = raw_output t f ready there n o within is

-- the output of a number
pub output_in : (xs : List Output) (n : ℕ) → n < length xs → (o : Output) × (o ≡ get_or xs n o)
output_in [] n h = absurd (omega (arith, h))
output_in (x ∷ xs) zero h = (x, refl)
output_in (x ∷ xs) (suc n) h = output_in xs n (omega (arith, h))

-- ---- both

stops_on : (t : Table) (e : Lack) (k : Option Json → Told Cell (Option Json)) (u : Told Cell (Option Json))
    → Stops {A = Option Json} t e u → Stops {A = Option Json} t e (and_then u k)
stops_on t lack.NotThere k u h = absurd h
stops_on t lack.NoValue k u h = ap (λ z. and_then z k) h
stops_on t (lack.Line j) k u h = (h.0, ap (λ z. and_then z k) h.1)
stops_on t (lack.State i) k u h = ap (λ z. and_then z k) h
stops_on t lack.OutOfMemory k u h = tt

module _ (t : Table) (l : Later) (f : ℕ) (x : List ℕ) where
  abbrev by_condition : Option Json → Told Cell (Option Json)
  by_condition v = told_now t l (where_offered (is_true v) (plain (whole_of t) (output (position_of t f) x)))

  reading_told : told_now t l (reading_of t f x)
      ≡ and_then (plain_now t l (offered (position_of t f) x)) by_condition
  reading_told =
      goes t l (plain (whole_of t) (offered (position_of t f) x))
      (λ v. where_offered (is_true v) (plain (whole_of t) (output (position_of t f) x)))

  -- the condition lacks something
  pub condition_lacks : (e : Lack) → Stops {A = Option Json} t e (plain_now t l (offered (position_of t f) x))
      → Stops {A = Option Json} t e (told_now t l (reading_of t f x))
  condition_lacks e h =
      subst (λ z. Stops {A = Option Json} t e z) (sym reading_told)
      (stops_on t e by_condition (plain_now t l (offered (position_of t f) x)) h)

  -- the condition is true, and the value lacks something
  pub value_lacks : (e : Lack) → plain_now t l (offered (position_of t f) x) ≡ value (Some (bool true))
      → Stops {A = Option Json} t e (plain_now t l (output (position_of t f) x))
      → Stops {A = Option Json} t e (told_now t l (reading_of t f x))
  value_lacks e c h =
      subst (λ z. Stops {A = Option Json} t e z) (sym (reading_told ∙ ap (λ z. and_then z by_condition) c)) h

  -- what is told of the reading of a task, by what was told of an output
  pub offered_value_told : (v : Value) → IsOffered t l f x (entry.Value v)
      → told_now t l (reading_of t f x) ≡ value (Some (json v))
  offered_value_told v h = reading_told ∙ ap (λ z. and_then z by_condition) h.0 ∙ h.1

  pub offered_away_told : IsOffered t l f x entry.Away → told_now t l (reading_of t f x) ≡ value None
  offered_away_told h =
      reading_told ∙ ap (λ z. and_then z by_condition) h ∙ told_pure t l None
