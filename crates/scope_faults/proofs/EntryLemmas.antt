-- The first parameter or variable of a scope that has no value, and its fault.
use Rattle.std.proofs.Common.{◌≡◌, inl, inr, ℕ, zero, suc, ◌+◌, ◌<◌, ◌≤◌, Bool, true, false, List, [], ◌∷◌}
use Rattle.std.proofs.Common.{length, get_or, Option, Some, None, refl, sym, ap, subst, ◌∙◌, arith}
use Rattle.std.specs.Prelude.{Result, Ok, Err, IfOk, is_none, option_map}
use Rattle.std.specs.declared.alloc.AllocError.{AllocError}
use Rattle.foundation.proofs.Comparisons.{is_or_lt}
use Rattle.arm_value.specs.Json.{Json}
use Rattle.arm_value.specs.View.{json}
use Rattle.arm_value.specs.declared.value.Value.{Value}
use Rattle.reading.specs.World.{Each}
use Rattle.reading.specs.Knowledge.{known, absent, value, no_value, waits}
use Rattle.template_parts.specs.declared.fault.BindFault.{BindFault}
use Rattle.template_parts.specs.declared.parameter.Parameter.{Parameter}
use Rattle.template_parameters.specs.Rule.{breach}
use Rattle.template_parameters.specs.declared.rule.Breach.{Breach}
use Rattle.deploy_cells.specs.Cells.{Cell}
use Rattle.plan_cells.specs.Known.{entry_told}
use Rattle.plan_cells.specs.Meaning.{rule}
use Rattle.plan_cells.specs.Resources.{header_in}
use Rattle.plan_filling.specs.declared.sheet.Answer.TheVariants as answer
use Rattle.plan_table.specs.declared.line.Spot.{Spot}
use Rattle.plan_table.specs.declared.line.Spot.TheVariants as spot
use Rattle.plan_table.specs.declared.table.Table.{Table}
use Rattle.plan_table.specs.Lines.{line_at, cell_of, IsPlaced}
use Rattle.plan_table.specs.Whole.{whole_of, scopes_of}
use Rattle.plan_table.specs.Found.{scope_at}
use Rattle.plan_sight.specs.declared.lack.Lack.{Lack}
use Rattle.plan_sight.specs.declared.lack.Lack.TheVariants as lack
use Rattle.plan_sight.specs.Ready.{IsReady}
use Rattle.plan_sight.specs.Seen.{Lacks}
use Rattle.plan_sight.proofs.RuleLemmas.{rule_of_parameter, parameter_there}
use Rattle.plan_paths.proofs.NamedLemmas.{parameter_is}
use Rattle.plan_faults.specs.Rules.{fault_of, parameter_fault}
use Rattle.point_rows.specs.declared.later.Entry.TheVariants as entry
use Rattle.point_rows.specs.declared.later.Later.{Later}
use Rattle.scope_outputs.specs.Entries.{line_cell, plain_now, cells_at, IsAnswerNow, IsToldEntry, IsOwnLine, AreLinesOf}
use Rattle.scope_outputs.proofs.AnswerNowLemmas.{meets}
use Rattle.scope_faults.specs.Faults.{raw_told, broken_by, IsBroken, HasValue, HasNone, IsValued, IsFirst, IsFirstLine}
use Rattle.scope_faults.specs.Faults.{IsEntryFault, SaysCell}
use Rattle.scope_faults.proofs.CircleLemmas.{each_has, has_at}
use Rattle.task_standings.specs.declared.standing.TaskFault.{TaskFault}

-- ---- whether there is a value

pub absent_none : (t : Table) (l : Later) (c : Cell) → entry_told (plain_now t l c) ≡ absent → HasNone t l c
absent_none t l c h j e = let no : known j ≡ absent = sym (ap entry_told e) ∙ h in cc

pub waits_none : (t : Table) (l : Later) (c d : Cell) → plain_now t l c ≡ waits d → HasNone t l c
waits_none t l c d h j e = let no : waits d ≡ value (Some j) = sym h ∙ e in cc

pub answered_value : (t : Table) (l : Later) (c : Cell) (v : Value) → IsAnswerNow t l c (answer.Value v)
    → IsValued t l c true
answered_value t l c v h = (json v, h)

-- by an entry
pub entry_value : (t : Table) (l : Later) (c : Cell) (v : Value) → IsToldEntry t l c (entry.Value v)
    → IsValued t l c true
entry_value t l c v h = (json v, h)

-- ---- one line after another

module _ (t : Table) (l : Later) (js : List ℕ) where
  -- each before this one has a value
  abbrev pub ValuedBefore : ℕ → Type 0
  ValuedBefore i = (k : ℕ) → k < i → HasValue t l (line_cell t (get_or js k 0))

  pub valued_begins : ValuedBefore 0
  valued_begins k h = absurd (omega (arith, h))

  valued_by : (c : Cell) (b : Bool) → b ≡ true → IsValued t l c b → HasValue t l c
  valued_by c true e h = h
  valued_by c false e h = absurd (cc)

  none_by : (c : Cell) (b : Bool) → b ≡ false → IsValued t l c b → HasNone t l c
  none_by c true e h = absurd (cc)
  none_by c false e h = h

  pub valued_more : (i : ℕ) (b : Bool) → b ≡ true → IsValued t l (line_cell t (get_or js i 0)) b → ValuedBefore i
      → ValuedBefore (i + 1)
  valued_more i b e h before k g =
      elim (is_or_lt k i g) [
        | inl q ↦
            subst (λ (n : ℕ). HasValue t l (line_cell t (get_or js n 0))) (sym q)
            (valued_by (line_cell t (get_or js i 0)) b e h)
        | inr q ↦ before k q
      ]

pub all_valued : (t : Table) (l : Later) (js : List ℕ) (i : ℕ) → length js ≤ i → ValuedBefore t l js i
    → Each (HasValue t l) (cells_at t js)
all_valued t l [] i h b = tt
all_valued t l (j ∷ js) zero h b = absurd (omega (arith, h))
all_valued t l (j ∷ js) (suc i) h b =
    (b zero (omega arith), all_valued t l js i (omega (arith, h)) (λ k g. b (suc k) (omega (arith, g))))

pub first_cell : (t : Table) (l : Later) (js : List ℕ) (i : ℕ) → i < length js → ValuedBefore t l js i
    → HasNone t l (line_cell t (get_or js i 0)) → IsFirst t l (cells_at t js) (line_cell t (get_or js i 0))
first_cell t l [] i h b n = absurd (omega (arith, h))
first_cell t l (j ∷ js) zero h b n = record { front = []; rest = cells_at t js; is = refl; before = tt; here = n }
first_cell t l (j ∷ js) (suc i) h b n =
    let r = first_cell t l js i (omega (arith, h)) (λ k g. b (suc k) (omega (arith, g))) n in
    record {
      front = line_cell t j ∷ r.front;
      rest = r.rest;
      is = ap (λ (cs : List Cell). line_cell t j ∷ cs) r.is;
      before = (b zero (omega arith), r.before);
      here = r.here;
    }

pub first_line : (t : Table) (l : Later) (js : List ℕ) (i : ℕ) (b : Bool) → i < length js → ValuedBefore t l js i
    → b ≡ false → IsValued t l (line_cell t (get_or js i 0)) b
    → IsFirstLine t l js (cells_at t js) (Some (get_or js i 0))
first_line t l js i b h before e v =
    (has_at js i h, first_cell t l js i h before (none_by t l js (line_cell t (get_or js i 0)) b e v))

-- ---- how a value breaks a rule

module _ (t : Table) (l : Later) (at : ℕ) (ready : IsReady t) (h : at < length t.lines.items)
    (none : HasNone t l (line_cell t at)) where
  abbrev the_spot : Spot
  the_spot = (line_at t.lines.items at).spot

  abbrev c : Cell
  c = line_cell t at

  -- a value that meets the rule would be the cell's
  pub never_meets : (j : Json) → rule (whole_of t) c j ≡ true → raw_told t l c ≡ value (Some j) → ⊥
  never_meets j e r = none j (meets t l the_spot j true (sym e) refl r)

  module _ (f n : ℕ) (is : the_spot ≡ spot.Parameter f n) (q : Parameter)
      (read : q ≡ get_or (header_in (scope_at t f).template).parameters n q) where
    within : n < length (header_in (scope_at t f).template).parameters
    within = parameter_there t ready.laid ready.sound.names_differ at h f n is

    rule_is : (j : Json) → rule (whole_of t) c j ≡ is_none (breach q j)
    rule_is j = rule_of_parameter t ready.laid ready.sound.names_differ at h f n q j is within read

    frame_there : f < length (scopes_of t)
    frame_there = (subst (λ (s : Spot). IsPlaced (scopes_of t) s) is (ready.laid.placed at h)).there

    broken_is : (j : Json) → broken_by (whole_of t) c j ≡ parameter_fault j (Some q)
    broken_is j =
        ap (λ (s : Spot). broken_by (whole_of t) (cell_of (scopes_of t) s) j) is
        ∙ ap (parameter_fault j) (parameter_is t f ready.laid ready.sound.names_differ frame_there n q within read)

    by_breach : (j : Json) (b : Option Breach) → breach q j ≡ b → (o : Option BindFault)
        → o ≡ option_map (fault_of q.name) b → raw_told t l c ≡ value (Some j) → IsBroken t l c o
    by_breach j None e o g r = absurd (never_meets j (rule_is j ∙ ap is_none e) r)
    by_breach j (Some b) e o g r =
        subst (IsBroken t l c) (sym g) (
          j,
          (r, (rule_is j ∙ ap is_none e, broken_is j ∙ ap (option_map (fault_of q.name)) e)),
        )

    pub parameter_broken : (j : Json) (r : Result (Option BindFault) AllocError)
        → IfOk r (λ o. o ≡ parameter_fault j (Some q)) → raw_told t l c ≡ value (Some j) → IfOk r (IsBroken t l c)
    parameter_broken j (Ok o) e g = by_breach j (breach q j) refl o e g
    parameter_broken j (Err x) e g = tt

  pub variable_met : (f n : ℕ) → the_spot ≡ spot.Variable f n → (j : Json) → raw_told t l c ≡ value (Some j)
      → IsBroken t l c None
  variable_met f n is j r =
      absurd (never_meets j (ap (λ (s : Spot). rule (whole_of t) (cell_of (scopes_of t) s) j) is) r)

-- no value is told
pub lacks_none : (t : Table) (l : Later) (c : Cell) (e : Lack) (r : Result (Option BindFault) AllocError)
    → IfOk r (λ o. o ≡ None) → (e ≡ lack.OutOfMemory → IfOk r (λ o. ⊥)) → Lacks t e (raw_told t l c)
    → IfOk r (IsBroken t l c)
lacks_none t l c e (Err x) n m h = tt
lacks_none t l c e (Ok o) n m h = subst (IsBroken t l c) (sym n) (λ j q. by_lack e m h j q)
  where
    by_lack : (e : Lack) → (e ≡ lack.OutOfMemory → ⊥) → Lacks t e (raw_told t l c) → (j : Json)
        → raw_told t l c ≡ value (Some j) → ⊥
    by_lack lack.NotThere m h j q = let no : value None ≡ value (Some j) = sym h ∙ q in cc
    by_lack lack.NoValue m h j q = let no : no_value ≡ value (Some j) = sym h ∙ q in cc
    by_lack (lack.Line i) m h j q = let no : waits _ ≡ value (Some j) = sym h.1 ∙ q in cc
    by_lack (lack.State k) m h j q = let no : waits _ ≡ value (Some j) = sym h ∙ q in cc
    by_lack lack.OutOfMemory m h j q = m refl

-- ---- of a scope

-- the line that was found is one of the scope, and its cell has no value
module _ (t : Table) (l : Later) (f : ℕ) (slice js : List ℕ) (s : slice ≡ js) (lines : AreLinesOf t f js)
    (o : Option ℕ) (found : IsFirstLine t l slice (cells_at t slice) o) (j : ℕ) (is : o ≡ Some j) where
  found_line : IsFirstLine t l js (cells_at t js) (Some j)
  found_line =
      subst (IsFirstLine t l js (cells_at t js)) is
      (subst (λ (ks : List ℕ). IsFirstLine t l ks (cells_at t ks) o) s found)

  pub found_own : IsOwnLine t f j
  found_own = each_has (IsOwnLine t f) js j lines.own found_line.0

  pub found_none : HasNone t l (line_cell t j)
  found_none = found_line.1.here

  pub found_says : (said : TaskFault) → SaysCell t l (line_cell t j) said → IsEntryFault t l f (Some said)
  found_says said h =
      (line_cell t j, (subst (λ (cs : List Cell). IsFirst t l cs (line_cell t j)) lines.cells found_line.1, h))

pub none_found : (t : Table) (l : Later) (f : ℕ) (slice js : List ℕ) → slice ≡ js → AreLinesOf t f js
    → (o : Option ℕ) → IsFirstLine t l slice (cells_at t slice) o → o ≡ None → IsEntryFault t l f None
none_found t l f slice js s lines o found is =
    subst (λ (cs : List Cell). Each (HasValue t l) cs) lines.cells
    (subst (IsFirstLine t l js (cells_at t js)) is
    (subst (λ (ks : List ℕ). IsFirstLine t l ks (cells_at t ks) o) s found))
