-- What is told of the name of an instance.
use Rattle.std.proofs.Common.{◌≡◌, ℕ, ◌<◌, Bool, true, false, List, length, Option, Some, None, Result}
use Rattle.std.proofs.Common.{refl, sym, ap, subst, ◌∙◌}
use Rattle.std.specs.Prelude.{is_some, nat_lt, option_and_then, slice_get, if◌then◌else◌}
use Rattle.foundation.proofs.Comparisons.{lt_of_true}
use Rattle.arm_value.specs.Json.{Json, text}
use Rattle.arm_value.specs.View.{json}
use Rattle.arm_value.specs.declared.value.Value.{Value}
use Rattle.arm_value.specs.declared.value.Value.TheVariants as values
use Rattle.reading.specs.Reading.{done, ask, pure, read, continued}
use Rattle.reading.specs.Knowledge.{Known, known, absent, missing, Told, value, no_value, told, by_entry, finished}
use Rattle.deploy_cells.specs.Cells.{Step, step, Position, Cell, count, name, copies}
use Rattle.deploy_cells.specs.Guarded.{Reads}
use Rattle.plan_cells.specs.Resources.{Listed, Above, resource_at, resources_in, unless_existing}
use Rattle.plan_cells.specs.Scopes.{resource_of}
use Rattle.plan_cells.specs.Meaning.{Deployment, name_under, under_instance, under_parent, name_value}
use Rattle.plan_filling.specs.Rows.{status_of, table}
use Rattle.plan_table.specs.declared.table.Table.{Table}
use Rattle.plan_table.specs.Lines.{cell_of, line_at, IsNumber}
use Rattle.plan_table.specs.Whole.{whole_of, scopes_of, rows_in}
use Rattle.plan_table.specs.Found.{scope_at, IsLineOf}
use Rattle.plan_sight.specs.declared.lack.Lack.{Lack}
use Rattle.plan_sight.specs.declared.lack.Lack.TheVariants as lack
use Rattle.plan_sight.specs.Ready.{IsReady, told_in}
use Rattle.plan_sight.specs.Seen.{Stops, Yields}
use Rattle.plan_sight.proofs.LookLemmas.{scopes_there}
use Rattle.plan_nested.proofs.InvertLemmas.{read_known}
use Rattle.plan_nested.proofs.SeekLemmas.{read_goes, read_stops}
use Rattle.plan_deployments.specs.Named.{IsCopy}
use Rattle.plan_values.specs.Values.{own_name, name_above, first_name}
use Rattle.plan_values.proofs.SiteLemmas.{resource_numbered}
use Rattle.plan_sight.proofs.ToldLemmas.{told_pure, told_done}

-- ---- a text under another

pub other_up : (d : Deployment) (v : Value) (j : Json) → ((s : List ℕ) → v ≡ values.Text s → ⊥)
    → j ≡ name_under d (json v) j
other_up d values.Null j h = refl
other_up d (values.Bool b) j h = refl
other_up d (values.Int z) j h = refl
other_up d (values.Text s) j h = absurd (h s refl)
other_up d (values.Array js) j h = refl
other_up d (values.Object ms) j h = refl

pub other_own : (d : Deployment) (x : List ℕ) (v : Value) → ((s : List ℕ) → v ≡ values.Text s → ⊥)
    → json v ≡ name_under d (text x) (json v)
other_own d x values.Null h = refl
other_own d x (values.Bool b) h = refl
other_own d x (values.Int z) h = refl
other_own d x (values.Text s) h = absurd (h s refl)
other_own d x (values.Array js) h = refl
other_own d x (values.Object ms) h = refl

-- ---- a reading that goes on whether a cell has a value or not

asked : {A : Type 0} (t : Table) (c : Cell) (k : Option Json → Reads A)
    → told_in t (ask c k) ≡ by_entry c (λ o. told_in t (k o)) (table (status_of (rows_in t)) c)
unfolding told
asked t c k = refl

ask_by : {A : Type 0} (t : Table) (e : Lack) (c : Cell) (k : Option Json → Told Cell A) (g : Known Json)
    → k None ≡ no_value → Stops {A = Json} t e (by_entry c (λ o. finished o) g) → Stops t e (by_entry c k g)
ask_by t lack.NotThere c k g n h = absurd h
ask_by t lack.NoValue c k (known v) n h = absurd (cc)
ask_by t lack.NoValue c k absent n h = n
ask_by t lack.NoValue c k missing n h = absurd (cc)
ask_by t (lack.Line j) c k (known v) n h = absurd (let e = h.1 in cc)
ask_by t (lack.Line j) c k absent n h = absurd (let e = h.1 in cc)
ask_by t (lack.Line j) c k missing n h = (h.0, (let e = h.1 in cc))
ask_by t (lack.State s) c k (known v) n h = absurd (cc)
ask_by t (lack.State s) c k absent n h = absurd (cc)
ask_by t (lack.State s) c k missing n h = cc
ask_by t lack.OutOfMemory c k g n h = tt

told_read : (t : Table) (c : Cell) → told_in t (read c) ≡ by_entry c (λ o. finished o) (table (status_of (rows_in t)) c)
unfolding told
told_read t c = refl

-- ---- the name of the first instance of a parent

unless_is : (o : Option Listed) (x : Listed) → option_and_then unless_existing o ≡ Some x
    → (y : Listed) × ((o ≡ Some y) × (y.declaration.existing ≡ false))
unless_is None x e = absurd (cc)
unless_is (Some y) x e = (y, (refl, by_test y y.declaration.existing refl x e))
  where
    by_test : (y : Listed) (b : Bool) → y.declaration.existing ≡ b → (x : Listed)
        → unless_existing y ≡ Some x → y.declaration.existing ≡ false
    by_test y false e x h = e
    by_test y true e x h =
        absurd (let none : None ≡ Some x = sym (ap (λ b. if b then None else Some y) e) ∙ h in cc)

module _ (t : Table) (f : ℕ) (ready : IsReady t) (h : f < length t.frames.items) (n : ℕ) where
  abbrev p : Position
  p = (scope_at t f).position

  abbrev asking : Option Json → Reads Json
  asking v = first_name (nat_lt 0 (copies v)) p n

  abbrev by_resource : Bool → Reads Json
  by_resource b = if b then ask (count p n) asking else done None

  -- a resource that the scope does not have
  numbered : (x : Listed) → resource_of (whole_of t).template p n ≡ Some x → IsNumber (scope_at t f) n
  unfolding resource_at
  numbered x e =
      let kept = ready.laid.kept f (scopes_there t f h) in
      let here : option_and_then unless_existing (slice_get (resources_in (scope_at t f).template) n) ≡ Some x =
      ap (option_and_then (λ u. resource_at u n)) (sym kept.template) ∙ e in
      let y = unless_is (slice_get (resources_in (scope_at t f).template) n) x here in
      record { listed = y.0; has = ap (λ xs. slice_get xs n) kept.resources ∙ y.1.0; is_put = y.1.1 }

  none_some : (o : Option Listed) → resource_of (whole_of t).template p n ≡ o
      → (IsNumber (scope_at t f) n → ⊥) → is_some o ≡ false
  none_some None e never = refl
  none_some (Some x) e never = absurd (never (numbered x e))

  pub above_missing : (IsNumber (scope_at t f) n → ⊥) → told_in t (name_above t f n) ≡ no_value
  above_missing never =
      ap (λ b. told_in t (by_resource b)) (none_some (resource_of (whole_of t).template p n) refl never)
      ∙ told_done t None

  module _ (at : ℕ) (l : IsLineOf t f (count p n) at) where
    by_line : told_in t (name_above t f n) ≡ told_in t (ask (count p n) asking)
    by_line = ap (λ o. told_in t (by_resource (is_some o))) (resource_numbered t f ready h n l.has)

    module _ (v : Value)
        (e : told_in t (read (cell_of (scopes_of t) (line_at t.lines.items at).spot)) ≡ value (json v)) where
      counted : table (status_of (rows_in t)) (count p n) ≡ known (json v)
      counted =
          read_known (table (status_of (rows_in t))) (count p n) (json v) (ap (λ c. told_in t (read c)) (sym l.is) ∙ e)

      by_value : told_in t (name_above t f n) ≡ told_in t (asking (Some (json v)))
      by_value =
          by_line ∙ asked t (count p n) asking ∙ ap (by_entry (count p n) (λ o. told_in t (asking o))) counted

      pub above_has : {X : Type 0} (view : X → Json) (r : Result X Lack) (b : Bool)
          → b ≡ nat_lt 0 (copies (Some (json v))) → b ≡ true → Yields view t r (told_in t (read (name p (step n 0))))
          → Yields view t r (told_in t (name_above t f n))
      above_has view r b q s y =
          subst (Yields view t r)
          (ap (λ c. told_in t (first_name c p n)) (sym s ∙ q) ∙ sym by_value) y

      pub above_none : (b : Bool) → b ≡ nat_lt 0 (copies (Some (json v))) → b ≡ false
          → told_in t (name_above t f n) ≡ no_value
      above_none b q s = by_value ∙ ap (λ c. told_in t (first_name c p n)) (sym q ∙ s) ∙ told_done t None

      pub above_copy : (b : Bool) → b ≡ nat_lt 0 (copies (Some (json v))) → b ≡ true → IsCopy t f n 0
      above_copy b q s = record {
        number = json v;
        counted = counted;
        copy = lt_of_true 0 (copies (Some (json v))) (sym q ∙ s);
      }

    pub above_stops : (e : Lack)
        → Stops t e (told_in t (read (cell_of (scopes_of t) (line_at t.lines.items at).spot)))
        → Stops t e (told_in t (name_above t f n))
    above_stops e s =
        subst (Stops t e) (sym (by_line ∙ asked t (count p n) asking))
        (ask_by t e (count p n) (λ o. told_in t (asking o)) (table (status_of (rows_in t)) (count p n))
        (told_done t None)
        (subst (Stops t e) (told_read t (count p n))
        (subst (λ c. Stops t e (told_in t (read c))) l.is s)))

-- ---- under a parent

pub under_made : (t : Table) (r : Reads Json) (up : Json) (own full : Value) → told_in t r ≡ value (json own)
    → json full ≡ name_under (whole_of t) up (json own)
    → told_in t (continued r (λ j. pure (name_under (whole_of t) up j))) ≡ value (json full)
under_made t r up own full e q =
    read_goes t r (λ j. pure (name_under (whole_of t) up j)) (json own) e
    ∙ told_pure t (name_under (whole_of t) up (json own)) ∙ ap value (sym q)

pub under_stops : (t : Table) (r : Reads Json) (up : Json) (e : Lack) → Stops t e (told_in t r)
    → Stops t e (told_in t (continued r (λ j. pure (name_under (whole_of t) up j))))
under_stops t r up e h = read_stops t e r (λ j. pure (name_under (whole_of t) up j)) h

module _ (t : Table) (f : ℕ) (s : Step) (x : Listed) (a : Above) where
  abbrev at : Position
  at = (scope_at t f).position

  abbrev own : Reads Json
  own = own_name t f s x

  abbrev going : Json → Reads Json
  going up = continued own (λ j. pure (name_under (whole_of t) up j))

  by_first : (b : Bool) → continued (first_name b at a.number) going ≡ under_instance (whole_of t) b at a.number own
  unfolding continued
  by_first true = refl
  by_first false = refl

  by_there : (b : Bool)
      → continued (if b then ask (count at a.number) (λ v. first_name (nat_lt 0 (copies v)) at a.number)
      else done None) going
      ≡ (if b then ask (count at a.number) (λ v. under_instance (whole_of t) (nat_lt 0 (copies v)) at a.number own)
      else done None)
  unfolding continued
  by_there true = λ i. ask (count at a.number) (λ v. by_first (nat_lt 0 (copies v)) i)
  by_there false = refl

  under_is : continued (name_above t f a.number) going ≡ under_parent (whole_of t) at (Some a) own
  under_is = by_there (is_some (resource_of (whole_of t).template at a.number))

  name_is : x.above ≡ Some a → under_parent (whole_of t) at x.above own ≡ continued (name_above t f a.number) going
  name_is e = ap (λ o. under_parent (whole_of t) at o own) e ∙ sym under_is

  pub named_under : {X : Type 0} (view : X → Json) (r : Result X Lack) (up : Json) → x.above ≡ Some a
      → told_in t (name_above t f a.number) ≡ value up → Yields view t r (told_in t (going up))
      → Yields view t r (told_in t (name_value (whole_of t) at s x))
  named_under view r up e h y =
      subst (Yields view t r)
      (sym (ap (told_in t) (name_is e) ∙ read_goes t (name_above t f a.number) going up h)) y

  pub named_stops : (e : Lack) → x.above ≡ Some a → Stops t e (told_in t (name_above t f a.number))
      → Stops t e (told_in t (name_value (whole_of t) at s x))
  named_stops e q h =
      subst (Stops t e) (ap (told_in t) (sym (name_is q))) (read_stops t e (name_above t f a.number) going h)

pub named_alone : {X : Type 0} (view : X → Json) (t : Table) (f : ℕ) (s : Step) (x : Listed) (r : Result X Lack)
    → x.above ≡ None → Yields view t r (told_in t (own_name t f s x))
    → Yields view t r (told_in t (name_value (whole_of t) (scope_at t f).position s x))
named_alone view t f s x r e y =
    subst (λ o. Yields view t r (told_in t (under_parent (whole_of t) (scope_at t f).position o (own_name t f s x))))
    (sym e) y
