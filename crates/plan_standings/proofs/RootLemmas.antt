-- The outputs of the root that have a value, one after another.
use Rattle.std.proofs.Common.{◌≡◌, ℕ, suc, ◌+◌, ◌<◌, ◌≤◌, List, [], ◌∷◌, ◌++◌, map, length, drop, get_or, Option, Some}
use Rattle.std.proofs.Common.{None, Ok, Err, Result, inl, inr, zero, refl, sym, ap, subst, ◌∙◌, arith}
use Rattle.std.specs.Prelude.{IfOk}
use Rattle.std.specs.declared.alloc.AllocError.{AllocError}
use Rattle.std.specs.declared.alloc.Global.{Global}
use Rattle.std.specs.declared.vec.Vec.{Vec}
use Rattle.std.proofs.lemmas.List.{drop_all, append_assoc, append-nil, map-append}
use Rattle.std.proofs.Math.Seq.{drop-cons}
use Rattle.std.proofs.lemmas.Option.{same_Some}
use Rattle.arm_value.specs.Json.{Json}
use Rattle.arm_value.specs.Look.{fold}
use Rattle.arm_value.specs.View.{json}
use Rattle.arm_value.specs.declared.value.Value.{Value}
use Rattle.reading.specs.Knowledge.{known_value, blanked, IsThere}
use Rattle.template_parts.specs.declared.output.Output.{Output}
use Rattle.template_tree.specs.Tree.{TemplateTree}
use Rattle.deploy_cells.specs.Cells.{Position, offered, output}
use Rattle.plan_cells.specs.Children.{Has, output_names}
use Rattle.plan_cells.specs.Meaning.{Deployment}
use Rattle.plan_cells.specs.Resources.{header_in}
use Rattle.plan_cells.specs.Scopes.{template_at}
use Rattle.plan_cells.specs.Tasks.{leave}
use Rattle.plan_filling.specs.Rows.{known_by}
use Rattle.plan_sight.specs.Ready.{IsReady}
use Rattle.plan_sight.proofs.LookLemmas.{frames_there}
use Rattle.plan_table.specs.declared.table.Table.{Table}
use Rattle.plan_table.specs.Whole.{whole_of, scopes_of}
use Rattle.plan_table.specs.Found.{scope_at, IsLineOf}
use Rattle.point_rows.specs.declared.later.Entry.{Entry}
use Rattle.point_rows.specs.declared.later.Entry.TheVariants as entry
use Rattle.point_rows.specs.declared.later.Later.{Later}
use Rattle.point_rows.specs.Rows.{entry_at, output_status, line_rows, known_now}
use Rattle.point_rows.proofs.RowsNowLemmas.{output_found, past_states}
use Rattle.deploy_histories.specs.Events.{Progress}
use Rattle.task_standings.specs.Outputs.{OutputValue, value_of, with_value, with_values, AreOutputs, IsAllSeen}
use Rattle.task_standings.specs.declared.standing.RootOutput.{RootOutput}
use Rattle.plan_standings.specs.declared.standings.PlanStandings.{PlanStandings}
use Rattle.plan_standings.specs.Kept.{planned_of, known_of, IsSound}
use Rattle.plan_standings.specs.Waits.{table_of}
use Rattle.plan_standings.proofs.LeftLemmas.{ready_table}
use Rattle.plan_standings.proofs.NumberedLemmas.{leave_there}

-- ---- the root

module _ (t : Table) (ready : IsReady t) where
  pub root_there : 0 < length t.frames.items
  root_there = frames_there t 0 ready.laid.some

  abbrev all : TemplateTree
  all = (whole_of t).template

  at_root : template_at all [] ≡ Some all
  unfolding template_at
  at_root = refl

  pub root_template : (scope_at t 0).template ≡ all
  root_template =
      same_Some (scope_at t 0).template all
      (sym (ready.laid.kept 0 ready.laid.some).template
      ∙ ap (λ (p : Position). template_at all p) ready.laid.root ∙ at_root)

  pub declared_there : (x : List ℕ) → Has x (output_names all) → Has x (output_names (scope_at t 0).template)
  declared_there x h = subst (λ (u : TemplateTree). Has x (output_names u)) (sym root_template) h

  -- what is known of an output, by the entry of the line of its condition
  pub known_output : (l : Later) (x : List ℕ) (j : ℕ) → IsLineOf t 0 (offered (scope_at t 0).position x) j
      → known_now t l (output [] x) ≡ known_by (Some (output_status (entry_at l.entries.items j)))
  known_output l x j line =
      subst (λ (p : Position). known_now t l (output p x)
      ≡ known_by (Some (output_status (entry_at l.entries.items j)))) ready.laid.root
      (ap known_by (past_states l.states.items (line_rows (scopes_of t) t.lines.items l.entries.items)
      (output (scope_at t 0).position x) refl
      ∙ output_found (scopes_of t) (scope_at t 0).position x t.lines.items l.entries.items j ready.sound.distinct
      line.listed line.is))

  module _ (l : Later) (o : Output) (j : ℕ)
      (line : IsLineOf t 0 (offered (scope_at t 0).position (fold o.name)) j) where
    abbrev known_here : Option Json
    known_here = known_value (known_now t l (output [] (fold o.name)))

    by_entry : (e : Entry) → entry_at l.entries.items j ≡ e
        → known_here ≡ known_value (known_by (Some (output_status e)))
    by_entry e q =
        ap known_value (known_output l (fold o.name) j line ∙ ap (λ (z : Entry). known_by (Some (output_status z))) q)

    pub value_added : (v : Value) → entry_at l.entries.items j ≡ entry.Value v → (r : RootOutput)
        → value_of r ≡ record { name = o.name; kind = o.kind; value = json v } → (old new : List RootOutput)
        → new ≡ old ++ r ∷ [] → map value_of new ≡ map value_of old ++ with_value o known_here []
    value_added v e r is old new n =
        ap (map value_of) n ∙ map-append value_of old (r ∷ [])
        ∙ ap (λ (x : OutputValue). map value_of old ++ x ∷ []) is
        ∙ ap (λ (z : Option Json). map value_of old ++ with_value o z []) (sym (by_entry (entry.Value v) e))

    pub away_added : entry_at l.entries.items j ≡ entry.Away → (old : List RootOutput)
        → map value_of old ≡ map value_of old ++ with_value o known_here []
    away_added e old =
        sym (append-nil (map value_of old))
        ∙ ap (λ (z : Option Json). map value_of old ++ with_value o z []) (sym (by_entry entry.Away e))

    pub never_missing : entry_at l.entries.items j ≡ entry.Missing
        → IsThere (known_now t l (output [] (fold o.name))) → ⊥
    never_missing e h =
        subst IsThere
        (known_output l (fold o.name) j line ∙ ap (λ (z : Entry). known_by (Some (output_status z))) e) h

-- ---- one output after another

with_more : (f : List ℕ → Option Json) (o : Output) (os : List Output)
    → with_value o (f (fold o.name)) [] ++ with_values f os ≡ with_values f (o ∷ os)
with_more f o os = by (f (fold o.name))
  where
    by : (z : Option Json) → with_value o z [] ++ with_values f os ≡ with_value o z (with_values f os)
    by None = refl
    by (Some j) = refl

drop_zero : (xs : List Output) → drop 0 xs ≡ xs
drop_zero [] = refl
drop_zero (x ∷ xs) = refl

pub has_declared : (os : List Output) (i : ℕ) (o : Output) → i < length os → o ≡ get_or os i o
    → Has (fold o.name) (map (λ z. fold z.name) os)
has_declared [] i o h e = absurd (omega (arith, h))
has_declared (y ∷ ys) zero o h e = inl (ap (λ (z : Output). fold z.name) (sym e))
has_declared (y ∷ ys) (suc i) o h e = inr (has_declared ys i o (omega (arith, h)) e)

module _ (f : List ℕ → Option Json) (os : List Output) where
  -- with those that are left these are the values
  abbrev pub ValuesLeft : List RootOutput → ℕ → Type 0
  ValuesLeft vs i = map value_of vs ++ with_values f (drop i os) ≡ with_values f os

  pub values_begin : (vs : List RootOutput) → vs ≡ [] → ValuesLeft vs 0
  values_begin vs e =
      ap (λ (ws : List RootOutput). map value_of ws ++ with_values f (drop 0 os)) e ∙ ap (with_values f) (drop_zero os)

  pub values_more : (vs new : List RootOutput) (i : ℕ) (o : Output) → i < length os → o ≡ get_or os i o
      → map value_of new ≡ map value_of vs ++ with_value o (f (fold o.name)) [] → ValuesLeft vs i
      → ValuesLeft new (i + 1)
  values_more vs new i o h e n left =
      ap (λ (ws : List OutputValue). ws ++ with_values f (drop (i + 1) os)) n
      ∙ append_assoc (map value_of vs) (with_value o (f (fold o.name)) []) (with_values f (drop (i + 1) os))
      ∙ ap (λ (ws : List OutputValue). map value_of vs ++ ws) (with_more f o (drop (i + 1) os))
      ∙ ap (λ (ws : List Output). map value_of vs ++ with_values f ws)
      (ap (λ (z : Output). z ∷ drop (i + 1) os) e
      ∙ ap (λ (k : ℕ). get_or os i o ∷ drop k os) (let z : i + 1 ≡ suc i = omega arith in z)
      ∙ sym (drop-cons os i o h))
      ∙ left

  pub values_end : (vs : List RootOutput) (i : ℕ) → length os ≤ i → ValuesLeft vs i
      → map value_of vs ≡ with_values f os
  values_end vs i h left =
      sym (append-nil (map value_of vs))
      ∙ ap (λ (ws : List Output). map value_of vs ++ with_values f ws) (sym (drop_all i os h)) ∙ left

-- the same of a list that is this one
module _ (f : List ℕ → Option Json) (os xs : List Output) (same : xs ≡ os) where
  pub declared_here : (i : ℕ) (o : Output) → i < length xs → o ≡ get_or xs i o
      → Has (fold o.name) (map (λ z. fold z.name) os)
  declared_here i o h e =
      subst (λ (ys : List Output). Has (fold o.name) (map (λ z. fold z.name) ys)) same (has_declared xs i o h e)

  pub more_here : (vs new : List RootOutput) (i : ℕ) (o : Output) → i < length xs → o ≡ get_or xs i o
      → map value_of new ≡ map value_of vs ++ with_value o (f (fold o.name)) [] → ValuesLeft f os vs i
      → ValuesLeft f os new (i + 1)
  more_here vs new i o h e n left =
      values_more f os vs new i o (subst (λ (ys : List Output). i < length ys) same h)
      (subst (λ (ys : List Output). o ≡ get_or ys i o) same e) n left

  pub end_here : (vs : List RootOutput) (i : ℕ) → length xs ≤ i → ValuesLeft f os vs i
      → map value_of vs ≡ with_values f os
  end_here vs i h left = values_end f os vs i (subst (λ (ys : List Output). length ys ≤ i) same h) left

-- ---- where all is done, the outputs of the root are known

module _ (s : PlanStandings) (sound : IsSound s) (p : Progress) (seen : IsAllSeen (planned_of s) p (known_of s)) where
  abbrev the_table : Table
  the_table = table_of s.plan.now

  pub table_ready : IsReady the_table
  table_ready = ready_table s.plan.now s.held.now sound.is_planned

  is_whole : whole_of the_table ≡ (planned_of s).deployment
  is_whole = sound.is_planned.whole

  pub outputs_there : (x : List ℕ) → Has x (output_names (whole_of the_table).template)
      → IsThere (known_of s (output [] x))
  outputs_there x h =
      let v = leave_there (planned_of s) the_table s.plan.now.tasks.items s.plan.now.keys.items refl
      sound.numbers.of_scopes 0 (root_there the_table table_ready) in
      let there = (seen.scopes v.0 (seen.all_done v.0 (leave (scope_at the_table 0).position) v.1)).left
      (scope_at the_table 0).position x (scope_at the_table 0).template v.1
      (subst (λ (d : Deployment). template_at d.template (scope_at the_table 0).position
      ≡ Some (scope_at the_table 0).template) is_whole
      (table_ready.laid.kept 0 table_ready.laid.some).template)
      (declared_there the_table table_ready x h) in
      subst (λ (q : Position). IsThere (known_of s (output q x))) table_ready.laid.root there.1

  pub are_outputs : (os : List RootOutput)
      → map value_of os
      ≡ with_values (λ n. blanked (known_of s) (output [] n)) (header_in (whole_of the_table).template).outputs
      → AreOutputs (planned_of s) (known_of s) os
  are_outputs os e = record {
    are_known = λ x h.
        outputs_there x (subst (λ (d : Deployment). Has x (output_names d.template)) (sym is_whole) h);
    are =
        e ∙ ap (λ (d : Deployment). with_values (λ n. blanked (known_of s) (output [] n))
        (header_in d.template).outputs) is_whole;
  }

  pub outputs_so : (r : Result (Vec RootOutput Global) AllocError)
      → IfOk r (λ os. map value_of os.items
      ≡ with_values (λ n. blanked (known_of s) (output [] n)) (header_in (whole_of the_table).template).outputs)
      → IfOk r (λ os. AreOutputs (planned_of s) (known_of s) os.items)
  outputs_so (Ok os) e = are_outputs os.items e
  outputs_so (Err e) h = tt
