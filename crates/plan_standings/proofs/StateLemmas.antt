-- A state was looked up: it is known now, or the task is not done that gives it.
use Rattle.std.proofs.Common.{◌≡◌, ◌-◌, ◌^◌, ◌<◌, ℕ, suc, List, [], ◌∷◌, length, Option, None, refl, sym, ap, subst}
use Rattle.std.proofs.Common.{◌∙◌, arith}
use Rattle.std.proofs.lemmas.List.{length-append}
use Rattle.arm_ids.specs.Held.{HeldResource}
use Rattle.arm_ids.specs.declared.id.ResourceId.{ResourceId}
use Rattle.reading.specs.Knowledge.{waits, told, Grows}
use Rattle.deploy_cells.specs.Cells.{state}
use Rattle.plan_cells.specs.Known as known
use Rattle.plan_cells.specs.Children.{Has}
use Rattle.plan_cells.specs.Tasks.{Task}
use Rattle.plan_table.specs.declared.table.Table.{Table}
use Rattle.task_aims.specs.Plan.{Plan}
use Rattle.task_aims.specs.Plans.{deployment_of}
use Rattle.task_aims.specs.Numbered.{TaskNumbers as Numbers}
use Rattle.deploy_histories.specs.Planned.{Planned}
use Rattle.deploy_histories.specs.Events.{Event, Progress, progress}
use Rattle.deploy_histories.specs.Values.{TaskValue, task_values}
use Rattle.task_aims.specs.Planned.{planned_by}
use Rattle.point_values.specs.Seen.{IsSeen}
use Rattle.point_rows.specs.declared.later.Later.{Later}
use Rattle.point_rows.specs.Rows.{known_now, told_now, AreIndexed, IsFit, HasSame}
use Rattle.point_rows.proofs.GrowthLemmas.{stays, stays_after, state_grows, same_known, same_grows}
use Rattle.point_knowledge.proofs.StepLemmas.{state_seen}
use Rattle.task_aims.specs.Lookups.{IsAsked, IsTaken}
use Rattle.task_aims.specs.Taken.{Taken}
use Rattle.task_aims.specs.Taken.TheVariants.{Known, Undone}
use Rattle.task_standings.specs.Standings.{StandsAs}
use Rattle.task_standings.specs.declared.standing.Standing.TheVariants.{Waits}
use Rattle.task_standings.proofs.Lasting.{scopes_stay}
use Rattle.plan_standings.specs.Answers.{IsOneMore}
use Rattle.plan_standings.specs.Waits.{table_of, IsKeptAt, IsAtPoint, HasStates}

-- what is kept has the scopes still
module _ (x : Planned) (p : Progress) (t : Table) (l m : Later) (kept : IsKeptAt x p t l) where
  pub kept_on : Grows (known_now t l) (known_now t m) → IsSeen x p (known_now t m) → IsKeptAt x p t m
  kept_on g s = record {
    seen = s;
    scopes = λ u d. scopes_stay x (known_now t l) (known_now t m) g u (kept.scopes u d);
  }

module _ (g : Plan) (held : List HeldResource) (n : Numbers) (h : List Event) (l m : Later)
    (at : IsAtPoint g held n h l) where
  abbrev x : Planned
  x = planned_by g held

  abbrev t : Table
  t = table_of g

  pub asked : IsAsked x h held t g.tasks.items g.keys.items n
  asked = record {
    planned = at.under_way.has_histories;
    is_held = refl;
    has_tasks = refl;
    has_keys = refl;
    numbers = at.under_way.numbers;
    legal = at.under_way.legal;
  }

  fit_on : m.entries.items ≡ l.entries.items → AreIndexed m → IsFit t m
  fit_on e i = record { entries = ap length e ∙ at.fit.entries; indexed = i }

  -- the same is known
  pub same_states : AreIndexed m → HasSame l m → HasStates g held h l m
  same_states i s = record {
    fit = fit_on s.entries i;
    entries = s.entries;
    grows = same_grows t l m s;
    kept = kept_on x (progress h) t l m at.kept (same_grows t l m s)
        (subst (λ (q : known.Table). IsSeen x (progress h) q) (sym (same_known t l m s)) at.kept.seen);
  }

  pub nothing_more : l ≡ m → HasStates g held h l m
  nothing_more e =
      subst (HasStates g held h l) e (record {
        fit = at.fit;
        entries = refl;
        grows = λ c. stays (known_now t l c);
        kept = at.kept;
      })

  module _ (k : ResourceId) where
    pub taken_states : AreIndexed m → (r : Taken) → IsTaken x (progress h) k l m r → HasStates g held h l m
    taken_states i Known s =
        let grows = state_grows t l m s.0 s.1.1.0 in
        record {
          fit = fit_on s.1.1.0.entries i;
          entries = s.1.1.0.entries;
          grows = grows;
          kept = kept_on x (progress h) t l m at.kept grows
              (state_seen x (progress h) t l m s.0 at.kept.seen s.1.1.1 s.1.1.0);
        }
    taken_states i (Undone v) s = same_states i s.0

    -- one state more
    pub one_more : IsTaken x (progress h) k l m Known → length m.states.items ≡ suc (length l.states.items)
    one_more s =
        let e = ap length s.1.1.0.states in
        let j = length-append l.states.items (s.0 ∷ []) in
        omega (arith, e, j)

    -- a value waits for a state that the task gives
    pub state_stands : (v : ℕ) → IsTaken x (progress h) k l m (Undone v) → (u : ℕ) (task : Task) (a : TaskValue)
        → Has a (task_values (deployment_of g) task) → told_now t l a.reading ≡ waits (state k)
        → StandsAs x (progress h) (known_now t m) u task (Waits v)
    state_stands v s u task a is_value e = (
      s.1.0,
      (
        s.1.1.0,
        (
          s.1.1.1.0,
          record {
            awaiting = a;
            is_value = is_value;
            cell = state k;
            is_awaited = subst (λ (q : known.Table). told q a.reading ≡ waits (state k))
                (sym (same_known t l m s.0)) e;
            is_given = s.1.1.1.1;
          },
        ),
      ),
    )

    pub known_more : (r : Taken) → r ≡ Known → IsTaken x (progress h) k l m r
        → length m.states.items ≡ suc (length l.states.items)
    known_more r e s = one_more (subst (IsTaken x (progress h) k l m) e s)

    pub undone_stands : (r : Taken) (v : ℕ) → r ≡ Undone v → IsTaken x (progress h) k l m r → (u : ℕ) (task : Task)
        (a : TaskValue) → Has a (task_values (deployment_of g) task) → told_now t l a.reading ≡ waits (state k)
        → StandsAs x (progress h) (known_now t m) u task (Waits v)
    undone_stands r v e s = state_stands v (subst (IsTaken x (progress h) k l m) e s)

-- one step after another
pub states_on : (g : Plan) (held : List HeldResource) (h : List Event) (l m k : Later) → HasStates g held h l m
    → HasStates g held h m k → HasStates g held h l k
states_on g held h l m k a b = record {
  fit = b.fit;
  entries = b.entries ∙ a.entries;
  grows = λ c.
      stays_after (known_now (table_of g) l c) (known_now (table_of g) m c) (known_now (table_of g) k c) (a.grows c)
      (b.grows c);
  kept = b.kept;
}

-- the point with what is kept now
pub point_on : (g : Plan) (held : List HeldResource) (n : Numbers) (h : List Event) (l m : Later)
    → IsAtPoint g held n h l → HasStates g held h l m → IsAtPoint g held n h m
point_on g held n h l m at s = record { under_way = at.under_way; fit = s.fit; kept = s.kept }

-- with one more state fewer are left
pub fewer_left : (l m : Later) → length m.states.items ≡ suc (length l.states.items)
    → 2 ^ 63 - length m.states.items < 2 ^ 63 - length l.states.items
fewer_left l m e =
    let a = m.states.ok.0 in
    let b = m.states.ok.1 in
    let c = m.states.small in
    omega (arith, e, a, b, c)

pub fewer_after : {A : Type 0} (l m : Later) (o : Option A) → o ≡ None → IsOneMore l m o
    → 2 ^ 63 - length m.states.items < 2 ^ 63 - length l.states.items
fewer_after l m o e h = fewer_left l m (subst (λ z. IsOneMore l m z) e h)
