-- Values that break the rules of their cells.
use Rattle.std.proofs.Common.{◌≡◌, inl, inr, ℕ, ◌<◌, pos, negsuc, Bool, true, false, true≢false, List, length, get_or}
use Rattle.std.proofs.Common.{Option}
use Rattle.std.proofs.Common.{Some, None, refl, sym, ap, subst, ◌∙◌, arith}
use Rattle.std.specs.Prelude.{codes, is_none, is_some, nat_le, option_map, option_and_then, if◌then◌else◌}
use Rattle.std.specs.Prelude.{ℤ}
use lib.Signed.{lt_z}
use Rattle.std.proofs.lemmas.Int.{ints}
use Rattle.foundation.proofs.Options.{none_there}
use Rattle.foundation.proofs.Comparisons.{lt_of_false}
use Rattle.arm_value.specs.Json.{Json, null, bool, int, text, array, object}
use Rattle.arm_ids.specs.Held.{HeldResource}
use Rattle.reading.specs.Knowledge.{value}
use Rattle.arm_eval.specs.Trees.{count_of}
use Rattle.template_parts.specs.declared.fault.BindFault.{BindFault}
use Rattle.template_parts.specs.declared.fault.BindFault.TheVariants.{MissingParameter, OutOfBounds}
use Rattle.template_parts.specs.declared.limit.Which.TheVariants.{Count as CountLimit}
use Rattle.template_parts.specs.declared.mode.Mode.{Mode}
use Rattle.template_parts.specs.declared.parameter.Parameter.{Parameter}
use Rattle.template_parameters.specs.Rule.{breach, is_bool, is_text}
use Rattle.template_parameters.specs.declared.rule.Breach.{Breach}
use Rattle.deploy_cells.specs.Cells.{step}
use Rattle.deploy_cells.specs.Puts.{key_formed}
use Rattle.plan_cells.specs.Resources.{Listed, header_in}
use Rattle.plan_cells.specs.Scopes.{resource_of}
use Rattle.plan_cells.specs.Meaning.{meets_rule, is_name}
use Rattle.plan_cells.specs.Children.{parameter_names}
use Rattle.plan_filling.specs.Sound.{Sound}
use Rattle.plan_table.specs.declared.line.Spot.{Spot}
use Rattle.plan_table.specs.declared.line.Spot.TheVariants as spot
use Rattle.plan_table.specs.declared.table.Table.{Table}
use Rattle.plan_table.specs.Lines.{name_at, cell_of}
use Rattle.plan_table.specs.Whole.{whole_of, scopes_of, rows_in, IsLaid}
use Rattle.plan_table.specs.Found.{scope_at}
use Rattle.plan_sight.specs.Ready.{IsReady}
use Rattle.plan_sight.proofs.LookLemmas.{frames_there}
use Rattle.plan_start.proofs.SiteLemmas.{resource_numbered}
use Rattle.plan_start.proofs.RawLemmas.{raw_parameter}
use Rattle.plan_start.proofs.ValueLemmas.{parameter_within}
use Rattle.plan_paths.proofs.NamedLemmas.{parameter_is}
use Rattle.plan_faults.specs.declared.fault.PlanFault.TheVariants as fault
use Rattle.plan_faults.specs.Rules.{fault_of, wrong_unless, count_fault, parameter_fault, broken}
use Rattle.plan_faults.specs.Faults.{IsFault}
use Rattle.lack_faults.specs.Lacks.{known_by_lines, IsBrokenAt, IsMissingAt}
use Rattle.lack_faults.proofs.RowLemmas.{known_rows}

some_of : (o : Option Breach) (x : List ℕ) → option_map (fault_of x) o ≡ None → is_none o ≡ false → ⊥
some_of None x e n = true≢false n
some_of (Some b) x e n = cc

wrong_none : (b : Bool) (x : List ℕ) → wrong_unless b x ≡ None → b ≡ true
wrong_none true x e = refl
wrong_none false x e = absurd (cc)

record IsNumber (j : Json) : Type 0 where
  pub number : ℕ
  pub is : j ≡ int (pos number)
  pub is_above : 800 < number

above : (n : ℕ) (b : Bool) → nat_le n 800 ≡ b → is_some (if b then Some n else None) ≡ false → 800 < n
above n true e h = absurd (true≢false h)
above n false e h = lt_of_false n 800 e

number_above : (j : Json) → count_fault j ≡ None → is_some (count_of j) ≡ false → IsNumber j
number_above (int (pos n)) e h = record { number = n; is = refl; is_above = above n (nat_le n 800) refl h }
number_above (int (negsuc n)) e h = absurd (cc)
number_above null e h = absurd (cc)
number_above (bool b) e h = absurd (cc)
number_above (text x) e h = absurd (cc)
number_above (array js) e h = absurd (cc)
number_above (object ms) e h = absurd (cc)

-- a negative count
not_less : (n : ℕ) → lt_z (pos n) (pos 0) ≡ true → ⊥
not_less n h = grind (arith, ints)

pub negative_count : (z : ℤ) → lt_z z (pos 0) ≡ true → count_fault (int z) ≡ Some (OutOfBounds (codes "count"))
negative_count (pos n) h = absurd (not_less n h)
negative_count (negsuc n) h = refl

record IsTitle (j : Json) : Type 0 where
  pub title : List ℕ
  pub is : j ≡ text title

title_of : (j : Json) → is_text j ≡ true → IsTitle j
title_of (text x) e = record { title = x; is = refl }
title_of null e = absurd (true≢false (sym e))
title_of (bool b) e = absurd (true≢false (sym e))
title_of (int z) e = absurd (true≢false (sym e))
title_of (array js) e = absurd (true≢false (sym e))
title_of (object ms) e = absurd (true≢false (sym e))

module _ (t : Table) (sound : Sound (whole_of t) (rows_in t)) (path : List ℕ) (mode : Mode) (held : List HeldResource)
    (j : Json) where
  bound_fault : (s : Spot) (x : BindFault) → IsBrokenAt t s path j
      → broken (whole_of t) (cell_of (scopes_of t) s) j ≡ Some x → IsFault (whole_of t) mode held (fault.Bind path x)
  bound_fault s x b e = (
    known_by_lines t,
    (
      known_rows (whole_of t) (rows_in t) sound,
      inl (record {
        cell = cell_of (scopes_of t) s;
        reading = b.reading;
        is_cell = b.is_cell;
        given = j;
        has = b.has;
        is_fault = e;
      }),
    ),
  )

  -- ---- parameters

  module _ (laid : IsLaid t) (f n : ℕ) (b : IsBrokenAt t (spot.Parameter f n) path j) (q : Parameter)
      (e : q ≡ get_or (header_in (scope_at t f).template).parameters n q) where
    within : n < length (header_in (scope_at t f).template).parameters
    within = parameter_within t f n b.is_placed.declared.1

    pub parameter_bound : (x : BindFault) → parameter_fault j (Some q) ≡ Some x
        → IsFault (whole_of t) mode held (fault.Bind path x)
    parameter_bound x g =
        bound_fault (spot.Parameter f n) x b
        (ap (parameter_fault j) (parameter_is t f laid sound.names_differ b.is_placed.there n q within e) ∙ g)

    pub parameter_whole : parameter_fault j (Some q) ≡ None → ⊥
    parameter_whole g =
        some_of (breach q j) q.name g
        (sym (ap (meets_rule (whole_of t) j)
        (parameter_is t f laid sound.names_differ b.is_placed.there n q within e)) ∙ b.breaks)

  -- ---- conditions

  pub condition_bound : (f r i : ℕ) (x : BindFault) → IsBrokenAt t (spot.Included f r i) path j
      → wrong_unless (is_bool j) (codes "condition") ≡ Some x → IsFault (whole_of t) mode held (fault.Bind path x)
  condition_bound f r i x b e = bound_fault (spot.Included f r i) x b e

  pub condition_whole : (f r i : ℕ) → IsBrokenAt t (spot.Included f r i) path j
      → wrong_unless (is_bool j) (codes "condition") ≡ None → ⊥
  condition_whole f r i b e = true≢false (sym (wrong_none (is_bool j) (codes "condition") e) ∙ b.breaks)

  -- ---- counts

  pub count_bound : (f r : ℕ) (x : BindFault) → IsBrokenAt t (spot.Count f r) path j → count_fault j ≡ Some x
      → IsFault (whole_of t) mode held (fault.Bind path x)
  count_bound f r x b e = bound_fault (spot.Count f r) x b e

  pub count_above : (f r m : ℕ) → IsBrokenAt t (spot.Count f r) path j → count_fault j ≡ None
      → ((n : ℕ) → j ≡ int (pos n) → m ≡ n) → IsFault (whole_of t) mode held (fault.Limit CountLimit m)
  count_above f r m b e g =
      let n = number_above j e b.breaks in
      let same = g n.number n.is in
      inr (inl (
        known_by_lines t,
        (
          known_rows (whole_of t) (rows_in t) sound,
          record {
            position = (scope_at t f).position;
            resource = r;
            path = path;
            reading = b.reading;
            is_count = b.is_cell;
            has = b.has ∙ ap value (n.is ∙ ap (λ (k : ℕ). int (pos k)) (sym same));
            is_above = subst (λ (k : ℕ). 800 < k) (sym same) n.is_above;
            is_which = refl;
          },
        ),
      ))

  -- ---- names

  pub name_bound : (f r i : ℕ) (x : BindFault) → IsBrokenAt t (spot.Name f r i) path j
      → wrong_unless (is_text j) (codes "name") ≡ Some x → IsFault (whole_of t) mode held (fault.Bind path x)
  name_bound f r i x b e = bound_fault (spot.Name f r i) x b e

  pub name_keyless : (f r i : ℕ) → IsLaid t → IsBrokenAt t (spot.Name f r i) path j
      → wrong_unless (is_text j) (codes "name") ≡ None → IsFault (whole_of t) mode held (fault.NoValue path)
  name_keyless f r i laid b e =
      let n = title_of j (wrong_none (is_text j) (codes "name") e) in
      let ready : IsReady t = record { laid = laid; sound = sound } in
      let number = b.is_placed.declared.0 in
      let there = frames_there t f b.is_placed.there in
      let listed = resource_numbered t f ready there r number in
      let broken : is_name (whole_of t) (text n.title) (Some number.listed) ≡ false =
      sym (ap (is_name (whole_of t) (text n.title)) listed)
      ∙ ap (λ k. is_name (whole_of t) k (resource_of (whole_of t).template (scope_at t f).position r)) (sym n.is)
      ∙ b.breaks in (
        known_by_lines t,
        (
          known_rows (whole_of t) (rows_in t) sound,
          inr (inl (record {
            position = (scope_at t f).position;
            instance = step r i;
            kind = number.listed.type;
            title = n.title;
            reading = b.reading;
            is_name = b.is_cell;
            has = b.has ∙ ap value n.is;
            of_kind = ap (option_and_then (λ (x : Listed). Some x.type)) listed;
            has_none = none_there (key_formed (whole_of t).place number.listed.type n.title) broken;
          })),
        ),
      )

  -- ---- what is not given

  pub parameter_missing : (laid : IsLaid t) (f n : ℕ) (q : Parameter) (x : List ℕ)
      → IsMissingAt t (spot.Parameter f n) path → q ≡ get_or (header_in (scope_at t f).template).parameters n q
      → x ≡ q.name → IsFault (whole_of t) mode held (fault.Bind path (MissingParameter x))
  parameter_missing laid f n q x m e g =
      let ready : IsReady t = record { laid = laid; sound = sound } in
      let there = frames_there t f m.is_placed.there in
      let within = parameter_within t f n m.is_placed.declared.1 in
      let is = parameter_is t f laid sound.names_differ m.is_placed.there n q within e in (
        known_by_lines t,
        (
          known_rows (whole_of t) (rows_in t) sound,
          inr (inl (record {
            position = (scope_at t f).position;
            title = name_at (parameter_names (scope_at t f).template) n;
            declared = q;
            is_own = sym (laid.kept f m.is_placed.there).own ∙ m.is_placed.declared.0;
            is_there = m.is_there;
            is_declared = is;
            has_none = sym (raw_parameter t f ready there n q m.is_placed.declared.0 within e) ∙ m.has_none;
            is_fault = ap MissingParameter g;
            has_path = m.has_path;
          })),
        ),
      )
