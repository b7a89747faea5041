-- What the rows of a point have once a state or an entry was added.
use Rattle.std.proofs.Common.{◌≡◌, ◌⊎◌, inl, inr, ℕ, zero, suc, ◌<◌, Bool, true, false, true≢false, List, [], ◌∷◌, ◌++◌}
use Rattle.std.proofs.Common.{map, length, Option, Some, None, refl, sym, ap, subst, ◌∙◌, arith}
use Rattle.std.specs.Prelude.{option_map, slice_get, slice_set, if◌then◌else◌}
use Rattle.plan_cells.proofs.KnownLemmas.{same_entry}
use Rattle.arm_value.specs.Json.{Json}
use Rattle.arm_value.specs.View.{json}
use Rattle.arm_value.specs.declared.value.Value.{Value}
use Rattle.reading.specs.Knowledge.{Known, absent, missing, value}
use Rattle.deploy_cells.specs.Cells.{Cell, state}
use Rattle.deploy_cells.specs.Same.{same}
use Rattle.deploy_cells.proofs.SameLemmas.{cell_is}
use Rattle.plan_cells.specs.Known.{by_others, entry_of, entry_told, IsKnown, is_outright, is_told}
use Rattle.plan_cells.specs.Meaning.{Deployment, meaning}
use Rattle.plan_cells.specs.Desired.{is_state}
use Rattle.plan_cells.specs.Start.{start_world, at_point}
use Rattle.plan_cells.specs.Tasks.{Task}
use Rattle.plan_cells.specs.Reads.{is_given_by}
use Rattle.plan_filling.specs.Rows.{Status, Row, status_of, known_by}
use Rattle.plan_filling.proofs.RowLemmas.{found_first, found_later}
use Rattle.plan_table.specs.declared.line.Line.{Line}
use Rattle.plan_table.specs.declared.line.Spot.{Spot}
use Rattle.plan_table.specs.declared.line.Spot.TheVariants.{Parameter, Variable, Offered, Output, Count, Included}
use Rattle.plan_table.specs.declared.line.Spot.TheVariants.{Name, Deployments}
use Rattle.plan_table.specs.declared.line.State.{State}
use Rattle.plan_table.specs.declared.line.State.TheVariants as how
use Rattle.plan_table.specs.declared.table.Table.{Table}
use Rattle.plan_table.specs.Opened.{Opened}
use Rattle.plan_table.specs.Lines.{cell_of, line_at}
use Rattle.plan_table.specs.Whole.{whole_of, scopes_of}
use Rattle.deploy_histories.specs.Planned.{Planned, basis}
use Rattle.deploy_histories.specs.Events.{Progress, done_status}
use Rattle.deploy_histories.specs.Points.{point}
use Rattle.point_values.specs.Seen.{IsSeen}
use Rattle.point_rows.specs.declared.later.Entry.{Entry}
use Rattle.point_rows.specs.declared.later.Entry.TheVariants as entry
use Rattle.point_rows.specs.declared.later.Later.{Later}
use Rattle.point_rows.specs.declared.later.StateAt.{StateAt}
use Rattle.point_rows.specs.Rows.{status_told, state_row, settled, rows_by, line_rows, known_now, told_now, HasState}
use Rattle.point_rows.specs.Rows.{IsEntrySpot}
use Rattle.point_knowledge.specs.Steps.{IsEntryOf, AddsEntry, AddsValue, IsStateThen}
use Rattle.point_knowledge.proofs.BlankLemmas.{is_given, given_or_state}

-- rows that say the same of a cell, or say this of the one cell
module _ (at c : Cell) (k : Known Json) where
  abbrev Says : Option Status → Option Status → Type 0
  Says new old = (known_by new ≡ known_by old) ⊎ ((c ≡ at) × (known_by new ≡ k))

  by_test : (b : Bool) (s : Status) (new old : Option Status) → Says new old
      → Says (if b then Some s else new) (if b then Some s else old)
  by_test true s new old h = inl refl
  by_test false s new old h = h

  -- after other rows
  pub after_rows : (xs new old : List Row) → Says (status_of new c) (status_of old c)
      → Says (status_of (xs ++ new) c) (status_of (xs ++ old) c)
  after_rows [] new old h = h
  after_rows (r ∷ xs) new old h =
      by_test (same r.cell c) r.status (status_of (xs ++ new) c) (status_of (xs ++ old) c) (after_rows xs new old h)

-- ---- a state more

told_entry : (o : Option Value) → known_by (Some (status_told o)) ≡ entry_of (option_map json o)
told_entry None = refl
told_entry (Some v) = refl

state_more : (s : StateAt) (lines : List Row) (c : Cell) (b : Bool) → same (state s.key) c ≡ b
    → Says (state s.key) c (entry_of (option_map json s.state)) (status_of (state_row s ∷ lines) c) (status_of lines c)
state_more s lines c true e =
    inr (
      sym (cell_is (state s.key) c e),
      ap known_by (found_first (state_row s) lines c (cell_is (state s.key) c e)) ∙ told_entry s.state,
    )
state_more s lines c false e = inl (ap known_by (found_later (state_row s) lines c e))

states_more : (ss : List StateAt) (s : StateAt) (lines : List Row) (c : Cell)
    → Says (state s.key) c (entry_of (option_map json s.state)) (status_of (map state_row (ss ++ s ∷ []) ++ lines) c)
    (status_of (map state_row ss ++ lines) c)
states_more [] s lines c = state_more s lines c (same (state s.key) c) refl
states_more (y ∷ ss) s lines c =
    by_test (state s.key) c (entry_of (option_map json s.state)) (same (state y.key) c) (status_told y.state)
    (status_of (map state_row (ss ++ s ∷ []) ++ lines) c) (status_of (map state_row ss ++ lines) c)
    (states_more ss s lines c)

module _ (x : Planned) (p : Progress) (t : Table) (l m : Later) (s : StateAt) (seen : IsSeen x p (known_now t l))
    (then_known : IsStateThen x p s) (adds : HasState l s m) where
  abbrev lines_of : List Entry → List Row
  lines_of es = line_rows (scopes_of t) t.lines.items es

  abbrev Now : Cell → Type 0
  Now c = (known_now t m c ≡ known_now t l c)
      ⊎ ((c ≡ state s.key) × (known_now t m c ≡ entry_of (option_map json s.state)))

  now_is : (c : Cell) → Now c
  now_is c =
      let rows_are : map state_row m.states.items ++ lines_of m.entries.items
      ≡ map state_row (l.states.items ++ s ∷ []) ++ lines_of l.entries.items
      = ap (λ (ss : List StateAt). map state_row ss ++ lines_of m.entries.items) adds.states
      ∙ ap (λ (es : List Entry). map state_row (l.states.items ++ s ∷ []) ++ lines_of es) adds.entries in
      subst (λ (rs : List Row). Says (state s.key) c (entry_of (option_map json s.state)) (status_of rs c)
      (status_of (map state_row l.states.items ++ lines_of l.entries.items) c)) (sym rows_are)
      (states_more l.states.items s (lines_of l.entries.items) c)

  known_more : (c : Cell) (o : Option Json) → known_now t m c ≡ entry_of o → Now c
      → IsKnown (meaning x.deployment) (at_point (basis x) (point x p.status)) c o
  known_more c o e (inl q) = seen.known_then c o (sym q ∙ e)
  known_more c o e (inr q) =
      subst (λ (d : Cell). IsKnown (meaning x.deployment) (at_point (basis x) (point x p.status)) d o) (sym q.0)
      (subst (λ (u : Option Json). IsKnown (meaning x.deployment) (at_point (basis x) (point x p.status)) (state
      s.key) u)
      (same_entry (option_map json s.state) o (sym q.1 ∙ e))
      (is_outright (state s.key) (option_map json s.state) then_known.is_known))

  hides_more : (v : ℕ) (task : Task) (c : Cell) → slice_get x.tasks v ≡ Some task
      → is_given_by x.deployment (start_world x.known) task c ≡ true → done_status (p.status v) ≡ false → Now c
      → known_now t m c ≡ missing
  hides_more v task c is given undone (inl q) = q ∙ seen.hides v task c is given undone
  hides_more v task c is given undone (inr q) =
      absurd (true≢false (sym (then_known.is_stored v task is
      (subst (λ (d : Cell). is_given_by x.deployment (start_world x.known) task d ≡ true) q.0 given)) ∙ undone))

  pub state_seen : IsSeen x p (known_now t m)
  state_seen = record {
    known_then = λ c o e. known_more c o e (now_is c);
    hides = λ v task c is given undone. hides_more v task c is given undone (now_is c);
  }

-- ---- an entry more

-- nothing is known of it at the start
abbrev IsUnsettled : State → Type 0
IsUnsettled how.New = Unit {0}
IsUnsettled how.Open = Unit {0}
IsUnsettled (how.Late k) = Unit {0}
IsUnsettled (how.Value v) = ⊥
IsUnsettled how.Empty = ⊥

settled_is : (x : State) (a : Entry) (o : Option Json) → IsUnsettled x → IsEntryOf o a
    → known_by (Some (settled x a)) ≡ entry_of o
settled_is how.New (entry.Value v) o u e = ap entry_of (sym e)
settled_is how.Open (entry.Value v) o u e = ap entry_of (sym e)
settled_is (how.Late k) (entry.Value v) o u e = ap entry_of (sym e)
settled_is how.New entry.Away o u e = ap entry_of (sym e)
settled_is how.Open entry.Away o u e = ap entry_of (sym e)
settled_is (how.Late k) entry.Away o u e = ap entry_of (sym e)
settled_is x entry.Missing o u e = absurd e
settled_is (how.Value v) a o u e = absurd u
settled_is how.Empty a o u e = absurd u

module _ (os : List Opened) (c : Cell) (a : Entry) (o : Option Json) (of : IsEntryOf o a) where
  settled_more : (d : Cell) (x : State) (e : Entry) (rest : List Row) (b : Bool) → same d c ≡ b
      → Says d c (entry_of o)
      (if b then Some (settled x a) else status_of rest c)
      (if b then Some (settled x e) else status_of rest c)
  settled_more d how.New e rest true h = inr (sym (cell_is d c h), settled_is how.New a o tt of)
  settled_more d how.Open e rest true h = inr (sym (cell_is d c h), settled_is how.Open a o tt of)
  settled_more d (how.Value u) e rest true h = inl refl
  settled_more d how.Empty e rest true h = inl refl
  settled_more d (how.Late k) e rest true h = inr (sym (cell_is d c h), settled_is (how.Late k) a o tt of)
  settled_more d x e rest false h = inl refl

  spot_more : (s : Spot) (x : State) (e : Entry) (rest : List Row) → IsEntrySpot s
      → Says (cell_of os s) c (entry_of o) (status_of (rows_by os s x a ++ rest) c)
      (status_of (rows_by os s x e ++ rest) c)
  spot_more (Parameter f n) x e rest i =
      settled_more (cell_of os (Parameter f n)) x e rest (same (cell_of os (Parameter f n)) c) refl
  spot_more (Variable f n) x e rest i =
      settled_more (cell_of os (Variable f n)) x e rest (same (cell_of os (Variable f n)) c) refl
  spot_more (Offered f n) x e rest i = absurd i
  spot_more (Output f n) x e rest i = absurd i
  spot_more (Count f r) x e rest i = absurd i
  spot_more (Included f r k) x e rest i = absurd i
  spot_more (Name f r k) x e rest i = absurd i
  spot_more (Deployments f) x e rest i = absurd i

  pub lines_more : (ls : List Line) (es : List Entry) (j : ℕ) → j < length es → j < length ls
      → IsEntrySpot (line_at ls j).spot
      → Says (cell_of os (line_at ls j).spot) c (entry_of o)
      (status_of (line_rows os ls (slice_set es j a)) c) (status_of (line_rows os ls es) c)
  lines_more [] es j h g i = absurd (omega (arith, g))
  lines_more (l ∷ ls) [] j h g i = absurd (omega (arith, h))
  lines_more (l ∷ ls) (e ∷ es) zero h g i = spot_more l.spot l.state e (line_rows os ls es) i
  lines_more (l ∷ ls) (e ∷ es) (suc j) h g i =
      after_rows (cell_of os (line_at ls j).spot) c (entry_of o) (rows_by os l.spot l.state e)
      (line_rows os ls (slice_set es j a)) (line_rows os ls es)
      (lines_more ls es j (omega (arith, h)) (omega (arith, g)) i)

-- a parameter or a variable is told by others at each point, and no task gives it
told_by_others : (x : Planned) (p : Progress) (os : List Opened) (s : Spot) → IsEntrySpot s
    → at_point (basis x) (point x p.status) (cell_of os s) ≡ by_others
told_by_others x p os (Parameter f n) i = refl
told_by_others x p os (Variable f n) i = refl
told_by_others x p os (Offered f n) i = absurd i
told_by_others x p os (Output f n) i = absurd i
told_by_others x p os (Count f r) i = absurd i
told_by_others x p os (Included f r k) i = absurd i
told_by_others x p os (Name f r k) i = absurd i
told_by_others x p os (Deployments f) i = absurd i

entry_plain : (os : List Opened) (s : Spot) → IsEntrySpot s
    → (is_state (cell_of os s) ≡ false) × (is_given (cell_of os s) ≡ false)
entry_plain os (Parameter f n) i = (refl, refl)
entry_plain os (Variable f n) i = (refl, refl)
entry_plain os (Offered f n) i = absurd i
entry_plain os (Output f n) i = absurd i
entry_plain os (Count f r) i = absurd i
entry_plain os (Included f r k) i = absurd i
entry_plain os (Name f r k) i = absurd i
entry_plain os (Deployments f) i = absurd i

module _ (x : Planned) (p : Progress) (t : Table) (l m : Later) (j : ℕ) (a : Entry) (o : Option Json)
    (of : IsEntryOf o a) (is : x.deployment ≡ whole_of t)
    (seen : IsSeen x p (known_now t l)) (h : j < length t.lines.items)
    (spot : IsEntrySpot (line_at t.lines.items j).spot)
    (told_is : entry_told (told_now t l (meaning (whole_of t) (cell_of (scopes_of t) (line_at t.lines.items j).spot)))
    ≡ entry_of o)
    (adds : AddsEntry j a l m) where
  abbrev at : Cell
  at = cell_of (scopes_of t) (line_at t.lines.items j).spot

  abbrev rows_with : List Entry → List Row
  rows_with es = line_rows (scopes_of t) t.lines.items es

  abbrev Next : Cell → Type 0
  Next c = (known_now t m c ≡ known_now t l c) ⊎ ((c ≡ at) × (known_now t m c ≡ entry_of o))

  next_is : (c : Cell) → Next c
  next_is c =
      let rows_are : map state_row m.states.items ++ rows_with m.entries.items
      ≡ map state_row l.states.items ++ rows_with (slice_set l.entries.items j a)
      = ap (λ (ss : List StateAt). map state_row ss ++ rows_with m.entries.items) adds.states
      ∙ ap (λ (es : List Entry). map state_row l.states.items ++ rows_with es) adds.entries in
      subst (λ (rs : List Row). Says at c (entry_of o) (status_of rs c)
      (status_of (map state_row l.states.items ++ rows_with l.entries.items) c)) (sym rows_are)
      (after_rows at c (entry_of o) (map state_row l.states.items)
      (rows_with (slice_set l.entries.items j a)) (rows_with l.entries.items)
      (lines_more (scopes_of t) c a o of t.lines.items l.entries.items j adds.within h spot))

  known_at : IsKnown (meaning x.deployment) (at_point (basis x) (point x p.status)) at o
  known_at =
      is_told at o (known_now t l) (told_by_others x p (scopes_of t) (line_at t.lines.items j).spot spot)
      (λ d u e. seen.known_then d u e)
      (subst (λ (d : Deployment). entry_told (told_now t l (meaning d at)) ≡ entry_of o) (sym is) told_is)

  known_next : (c : Cell) (u : Option Json) → known_now t m c ≡ entry_of u → Next c
      → IsKnown (meaning x.deployment) (at_point (basis x) (point x p.status)) c u
  known_next c u e (inl q) = seen.known_then c u (sym q ∙ e)
  known_next c u e (inr q) =
      subst (λ (d : Cell). IsKnown (meaning x.deployment) (at_point (basis x) (point x p.status)) d u) (sym q.0)
      (subst (λ (y : Option Json). IsKnown (meaning x.deployment) (at_point (basis x) (point x p.status)) at y)
      (same_entry o u (sym q.1 ∙ e)) known_at)

  hides_next : (i : ℕ) (task : Task) (c : Cell) → slice_get x.tasks i ≡ Some task
      → is_given_by x.deployment (start_world x.known) task c ≡ true → done_status (p.status i) ≡ false → Next c
      → known_now t m c ≡ missing
  hides_next i task c has given undone (inl q) = q ∙ seen.hides i task c has given undone
  hides_next i task c has given undone (inr q) =
      let plain = entry_plain (scopes_of t) (line_at t.lines.items j).spot spot in
      absurd (true≢false (sym (given_or_state x.deployment (start_world x.known) task at
      (subst (λ (d : Cell). is_given_by x.deployment (start_world x.known) task d ≡ true) q.0 given) plain.0) ∙
      plain.1))

  pub entry_seen : IsSeen x p (known_now t m)
  entry_seen = record {
    known_then = λ c o e. known_next c o e (next_is c);
    hides = λ i task c has given undone. hides_next i task c has given undone (next_is c);
  }

-- the value that is told
pub value_seen : (x : Planned) (p : Progress) (t : Table) (l m : Later) (j : ℕ) (v : Value) → x.deployment ≡ whole_of t
    → IsSeen x p (known_now t l) → j < length t.lines.items → IsEntrySpot (line_at t.lines.items j).spot
    → told_now t l (meaning (whole_of t) (cell_of (scopes_of t) (line_at t.lines.items j).spot))
    ≡ value (Some (json v))
    → AddsValue j v l m → IsSeen x p (known_now t m)
value_seen x p t l m j v is seen h spot e adds =
    entry_seen x p t l m j (entry.Value v) (Some (json v)) refl is seen h spot (ap entry_told e) adds

-- that nothing is told
pub absence_seen : (x : Planned) (p : Progress) (t : Table) (l m : Later) (j : ℕ) → x.deployment ≡ whole_of t
    → IsSeen x p (known_now t l) → j < length t.lines.items → IsEntrySpot (line_at t.lines.items j).spot
    → entry_told (told_now t l (meaning (whole_of t) (cell_of (scopes_of t) (line_at t.lines.items j).spot))) ≡ absent
    → AddsEntry j entry.Away l m → IsSeen x p (known_now t m)
absence_seen x p t l m j is seen h spot e adds =
    entry_seen x p t l m j entry.Away None refl is seen h spot e adds
