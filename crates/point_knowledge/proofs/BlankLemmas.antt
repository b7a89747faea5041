-- What the rows of a point have before anything became known: what the table of the start has, without outputs.
use Rattle.std.proofs.Common.{◌≡◌, ℕ, zero, suc, Bool, true, false, List, [], ◌∷◌, ◌++◌, map, Option, Some}
use Rattle.std.proofs.Common.{None}
use Rattle.std.proofs.Common.{refl, sym, ap, subst, ◌∙◌}
use Rattle.std.specs.Prelude.{if◌then◌else◌}
use Rattle.arm_value.specs.Json.{Json}
use Rattle.arm_ids.specs.declared.id.ResourceId.{ResourceId}
use Rattle.reading.specs.Knowledge.{missing}
use Rattle.deploy_cells.specs.Cells.{Cell, parameter, variable, offered, output, count, included, name}
use Rattle.deploy_cells.specs.Cells.{deployments, state, World}
use Rattle.deploy_cells.specs.Same.{same}
use Rattle.plan_cells.specs.Known.{entry_of, IsKnown}
use Rattle.plan_cells.specs.Meaning.{Deployment, meaning}
use Rattle.plan_cells.specs.Desired.{is_state}
use Rattle.plan_cells.specs.Start as start
use Rattle.plan_cells.specs.Start.{start_world}
use Rattle.plan_cells.specs.Tasks.{Task, enter, leave, put, delete}
use Rattle.plan_cells.specs.Reads.{is_given_by, is_state_at, key_in}
use Rattle.plan_filling.specs.Rows as rows
use Rattle.plan_filling.specs.Rows.{Status, Row, status_of, table, known_by}
use Rattle.plan_filling.proofs.RowLemmas.{found_later}
use Rattle.plan_table.specs.declared.line.Line.{Line}
use Rattle.plan_table.specs.declared.line.Spot.{Spot}
use Rattle.plan_table.specs.declared.line.Spot.TheVariants.{Parameter, Variable, Offered, Output, Count, Included}
use Rattle.plan_table.specs.declared.line.Spot.TheVariants.{Name, Deployments}
use Rattle.plan_table.specs.declared.line.State.{State}
use Rattle.plan_table.specs.declared.line.State.TheVariants as how
use Rattle.plan_table.specs.declared.table.Table.{Table}
use Rattle.plan_table.specs.Opened.{Opened}
use Rattle.plan_table.specs.Lines.{cell_of, rows_of, status_in}
use Rattle.plan_table.specs.Whole.{whole_of, scopes_of, rows_in}
use Rattle.plan_sight.specs.Ready.{IsReady}
use Rattle.deploy_histories.specs.Planned.{Planned, IsPlanned}
use Rattle.deploy_histories.specs.Events.{Progress}
use Rattle.point_values.specs.Seen.{IsSeen}
use Rattle.point_rows.specs.declared.later.Entry.{Entry}
use Rattle.point_rows.specs.declared.later.Entry.TheVariants as entry
use Rattle.point_rows.specs.declared.later.Later.{Later}
use Rattle.point_rows.specs.declared.later.StateAt.{StateAt}
use Rattle.point_rows.specs.Rows.{entry_at, state_row, settled, condition_status, output_status, rows_by, line_rows}
use Rattle.point_rows.specs.Rows.{known_now}
use Rattle.point_rows.proofs.RowsNowLemmas.{apart_by, apart_back}
use Rattle.point_rows.proofs.StateLemmas.{no_line}
use Rattle.point_knowledge.specs.Steps.{IsBlank}
use Rattle.deploy_histories.proofs.StartLemmas.{from_start}

-- a condition of an output, or an output
abbrev pub is_given : Cell → Bool
is_given (offered p x) = true
is_given (output p x) = true
is_given _ = false

-- ---- rows of lines without entries

abbrev pub IsMissing : Option Status → Type 0
IsMissing o = known_by o ≡ missing

same_missing : (c d : Cell) (s : Status) (rs : List Row) → known_by (Some s) ≡ missing → IsMissing (status_of rs d)
    → IsMissing (status_of (record { cell = c; status = s } ∷ rs) d)
same_missing c d s rs h i = by_test (same c d)
  where
    by_test : (b : Bool) → IsMissing (if b then Some s else status_of rs d)
    by_test true = h
    by_test false = i

apart_row : (c d : Cell) (s : Status) (rs : List Row) → same c d ≡ false → IsMissing (status_of rs d)
    → IsMissing (status_of (record { cell = c; status = s } ∷ rs) d)
apart_row c d s rs h i = ap known_by (found_later (record { cell = c; status = s }) rs d h) ∙ i

module _ (os : List Opened) where
  -- a row for an output or its condition has nothing
  given_missing : (s : Spot) (x : State) (c : Cell) (rest : List Row) → is_given c ≡ true → IsMissing (status_of rest c)
      → IsMissing (status_of (rows_by os s x entry.Missing ++ rest) c)
  given_missing (Parameter f n) x c rest g i =
      apart_row (cell_of os (Parameter f n)) c (settled x entry.Missing) rest
      (apart_by is_given (cell_of os (Parameter f n)) c refl g) i
  given_missing (Variable f n) x c rest g i =
      apart_row (cell_of os (Variable f n)) c (settled x entry.Missing) rest
      (apart_by is_given (cell_of os (Variable f n)) c refl g) i
  given_missing (Offered f n) x c rest g i =
      same_missing (cell_of os (Offered f n)) c (condition_status entry.Missing)
      (record { cell = cell_of os (Output f n); status = output_status entry.Missing } ∷ rest) refl
      (same_missing (cell_of os (Output f n)) c (output_status entry.Missing) rest refl i)
  given_missing (Output f n) x c rest g i = i
  given_missing (Count f r) x c rest g i =
      apart_row (cell_of os (Count f r)) c (status_in x) rest (apart_by is_given (cell_of os (Count f r)) c refl g) i
  given_missing (Included f r k) x c rest g i =
      apart_row (cell_of os (Included f r k)) c (status_in x) rest
      (apart_by is_given (cell_of os (Included f r k)) c refl g) i
  given_missing (Name f r k) x c rest g i =
      apart_row (cell_of os (Name f r k)) c (status_in x) rest (apart_by is_given (cell_of os (Name f r k)) c refl g) i
  given_missing (Deployments f) x c rest g i =
      apart_row (cell_of os (Deployments f)) c (status_in x) rest
      (apart_by is_given (cell_of os (Deployments f)) c refl g) i

  abbrev AllMissing : List Entry → Type 0
  AllMissing es = (j : ℕ) → entry_at es j ≡ entry.Missing

  no_given : (ls : List Line) (es : List Entry) (c : Cell) → AllMissing es → is_given c ≡ true
      → IsMissing (status_of (line_rows os ls es) c)
  no_given [] es c a g = refl
  no_given (l ∷ ls) [] c a g = given_missing l.spot l.state c (line_rows os ls []) g (no_given ls [] c a g)
  no_given (l ∷ ls) (e ∷ es) c a g =
      subst (λ (z : Entry). IsMissing (status_of (rows_by os l.spot l.state z ++ line_rows os ls es) c)) (sym (a zero))
      (given_missing l.spot l.state c (line_rows os ls es) g (no_given ls es c (λ j. a (suc j)) g))

  -- what a row for another cell has, the start has too
  abbrev Within : Option Status → Option Status → Type 0
  Within s u = (o : Option Json) → known_by s ≡ entry_of o → known_by u ≡ entry_of o

  never : (o : Option Json) → missing ≡ entry_of o → ⊥
  never (Some v) e = cc
  never None e = cc

  settled_within : (x : State) → Within (Some (settled x entry.Missing)) (Some (status_in x))
  settled_within how.New o e = absurd (never o e)
  settled_within how.Open o e = absurd (never o e)
  settled_within (how.Value v) o e = e
  settled_within how.Empty o e = e
  settled_within (how.Late k) o e = absurd (never o e)

  row_within : (c d : Cell) (s u : Status) (rs us : List Row) → Within (Some s) (Some u)
      → Within (status_of rs d) (status_of us d)
      → Within (status_of (record { cell = c; status = s } ∷ rs) d) (status_of (record { cell = c; status = u } ∷ us) d)
  row_within c d s u rs us h i = by_test (same c d)
    where
      by_test : (b : Bool) → Within (if b then Some s else status_of rs d) (if b then Some u else status_of us d)
      by_test true = h
      by_test false = i

  apart_within : (c d : Cell) (u : Status) (o : Option Status) (us : List Row) → same c d ≡ false
      → Within o (status_of us d) → Within o (status_of (record { cell = c; status = u } ∷ us) d)
  apart_within c d u o us h i =
      subst (λ (z : Option Status). Within o z) (sym (found_later (record { cell = c; status = u }) us d h)) i

  spot_within : (s : Spot) (x : State) (c : Cell) (rs us : List Row) → is_given c ≡ false
      → Within (status_of rs c) (status_of us c)
      → Within (status_of (rows_by os s x entry.Missing ++ rs) c)
      (status_of (record { cell = cell_of os s; status = status_in x } ∷ us) c)
  spot_within (Parameter f n) x c rs us g i =
      row_within (cell_of os (Parameter f n)) c (settled x entry.Missing) (status_in x) rs us (settled_within x) i
  spot_within (Variable f n) x c rs us g i =
      row_within (cell_of os (Variable f n)) c (settled x entry.Missing) (status_in x) rs us (settled_within x) i
  spot_within (Offered f n) x c rs us g i =
      subst (λ (z : Option Status). Within z (status_of (record {
        cell = cell_of os (Offered f n);
        status = status_in x;
      } ∷ us) c))
      (sym (found_later (record { cell = cell_of os (Offered f n); status = condition_status entry.Missing })
      (record { cell = cell_of os (Output f n); status = output_status entry.Missing } ∷ rs) c
      (apart_back is_given (cell_of os (Offered f n)) c refl g)
      ∙ found_later (record { cell = cell_of os (Output f n); status = output_status entry.Missing }) rs c
      (apart_back is_given (cell_of os (Output f n)) c refl g)))
      (apart_within (cell_of os (Offered f n)) c (status_in x) (status_of rs c) us
      (apart_back is_given (cell_of os (Offered f n)) c refl g) i)
  spot_within (Output f n) x c rs us g i =
      apart_within (cell_of os (Output f n)) c (status_in x) (status_of rs c) us
      (apart_back is_given (cell_of os (Output f n)) c refl g) i
  spot_within (Count f r) x c rs us g i =
      row_within (cell_of os (Count f r)) c (status_in x) (status_in x) rs us (λ o e. e) i
  spot_within (Included f r k) x c rs us g i =
      row_within (cell_of os (Included f r k)) c (status_in x) (status_in x) rs us (λ o e. e) i
  spot_within (Name f r k) x c rs us g i =
      row_within (cell_of os (Name f r k)) c (status_in x) (status_in x) rs us (λ o e. e) i
  spot_within (Deployments f) x c rs us g i =
      row_within (cell_of os (Deployments f)) c (status_in x) (status_in x) rs us (λ o e. e) i

  lines_within : (ls : List Line) (es : List Entry) (c : Cell) → AllMissing es → is_given c ≡ false
      → Within (status_of (line_rows os ls es) c) (status_of (rows_of os ls) c)
  lines_within [] es c a g = λ o e. absurd (never o e)
  lines_within (l ∷ ls) [] c a g =
      spot_within l.spot l.state c (line_rows os ls []) (rows_of os ls) g (lines_within ls [] c a g)
  lines_within (l ∷ ls) (e ∷ es) c a g =
      subst (λ (z : Entry). Within (status_of (rows_by os l.spot l.state z ++ line_rows os ls es) c)
      (status_of (rows_of os (l ∷ ls)) c)) (sym (a zero))
      (spot_within l.spot l.state c (line_rows os ls es) (rows_of os ls) g (lines_within ls es c (λ j. a (suc j)) g))

-- ---- which cells tasks give

pub given_or_state : (d : Deployment) (w : World) (task : Task) (c : Cell) → is_given_by d w task c ≡ true
    → is_state c ≡ false → is_given c ≡ true
given_or_state d w (put p s) c e n = by_key (key_in d w p s) c e n
  where
    by_key : (o : Option ResourceId) (c : Cell) → is_state_at o c ≡ true → is_state c ≡ false → is_given c ≡ true
    by_key None c e n = absurd (cc)
    by_key (Some k) (parameter q y) e n = absurd (cc)
    by_key (Some k) (variable q y) e n = absurd (cc)
    by_key (Some k) (offered q y) e n = refl
    by_key (Some k) (output q y) e n = refl
    by_key (Some k) (count q r) e n = absurd (cc)
    by_key (Some k) (included q i) e n = absurd (cc)
    by_key (Some k) (name q i) e n = absurd (cc)
    by_key (Some k) (deployments q) e n = absurd (cc)
    by_key (Some k) (state i) e n = absurd (cc)
given_or_state d w (leave p) (parameter q y) e n = absurd (cc)
given_or_state d w (leave p) (variable q y) e n = absurd (cc)
given_or_state d w (leave p) (offered q y) e n = refl
given_or_state d w (leave p) (output q y) e n = refl
given_or_state d w (leave p) (count q r) e n = absurd (cc)
given_or_state d w (leave p) (included q i) e n = absurd (cc)
given_or_state d w (leave p) (name q i) e n = absurd (cc)
given_or_state d w (leave p) (deployments q) e n = absurd (cc)
given_or_state d w (leave p) (state i) e n = absurd (cc)
given_or_state d w (enter p) c e n = absurd (cc)
given_or_state d w (delete k) c e n = absurd (cc)

-- ---- the opening

module _ (x : Planned) (p : Progress) (t : Table) (l : Later) (planned : IsPlanned x) (is : x.deployment ≡ whole_of t)
    (ready : IsReady t) (blank : IsBlank l) where
  abbrev lines : List Row
  lines = line_rows (scopes_of t) t.lines.items l.entries.items

  no_states : (c : Cell) → known_now t l c ≡ table (status_of lines) c
  no_states c = ap (λ (ss : List StateAt). known_by (status_of (map state_row ss ++ lines) c)) blank.no_state

  state_missing : (k : ResourceId) → known_now t l (state k) ≡ missing
  state_missing k =
      no_states (state k) ∙ ap known_by (no_line (scopes_of t) t.lines.items l.entries.items k)

  given_none : (c : Cell) → is_given c ≡ true → known_now t l c ≡ missing
  given_none c g = no_states c ∙ no_given (scopes_of t) t.lines.items l.entries.items c blank.no_entry g

  hidden_by : (c : Cell) (b : Bool) → is_state c ≡ b → (is_state c ≡ false → is_given c ≡ true)
      → known_now t l c ≡ missing
  hidden_by (parameter q y) b e h = given_none (parameter q y) (h refl)
  hidden_by (variable q y) b e h = given_none (variable q y) (h refl)
  hidden_by (offered q y) b e h = given_none (offered q y) (h refl)
  hidden_by (output q y) b e h = given_none (output q y) (h refl)
  hidden_by (count q r) b e h = given_none (count q r) (h refl)
  hidden_by (included q i) b e h = given_none (included q i) (h refl)
  hidden_by (name q i) b e h = given_none (name q i) (h refl)
  hidden_by (deployments q) b e h = given_none (deployments q) (h refl)
  hidden_by (state k) b e h = state_missing k

  at_start : (c : Cell) (o : Option Json) (b : Bool) → is_given c ≡ b → known_now t l c ≡ entry_of o
      → table (status_of (rows_in t)) c ≡ entry_of o
  at_start c o true g e = absurd (never (scopes_of t) o (sym (given_none c g) ∙ e))
  at_start c o false g e =
      lines_within (scopes_of t) t.lines.items l.entries.items c blank.no_entry g o (sym (no_states c) ∙ e)

  by_status : (c : Cell) (o : Option Json) (s : Option Status) → status_of (rows_in t) c ≡ s → known_by s ≡ entry_of o
      → IsKnown (meaning (whole_of t)) start.start c o
  by_status c (Some v) (Some (rows.Value u)) e h =
      subst (λ (z : Json). IsKnown (meaning (whole_of t)) start.start c (Some z)) (let same : u ≡ v = cc in same)
      (ready.sound.good.valued c u e)
  by_status c None (Some rows.Empty) e h = ready.sound.good.empty c e
  by_status c None (Some (rows.Value u)) e h = absurd (cc)
  by_status c (Some v) (Some rows.Empty) e h = absurd (cc)
  by_status c o None e h = absurd (never (scopes_of t) o h)
  by_status c o (Some rows.New) e h = absurd (never (scopes_of t) o h)
  by_status c o (Some rows.Open) e h = absurd (never (scopes_of t) o h)
  by_status c o (Some (rows.Late k)) e h = absurd (never (scopes_of t) o h)

  known_start : (c : Cell) (o : Option Json) → known_now t l c ≡ entry_of o
      → IsKnown (meaning x.deployment) start.start c o
  known_start c o e =
      subst (λ (d : Deployment). IsKnown (meaning d) start.start c o) (sym is)
      (by_status c o (status_of (rows_in t) c) refl (at_start c o (is_given c) refl e))

  pub opening_seen : IsSeen x p (known_now t l)
  opening_seen = record {
    known_then = λ c o e. from_start x planned p.status c o (known_start c o e);
    hides = λ v task c i g u.
        hidden_by c (is_state c) refl (given_or_state x.deployment (start_world x.known) task c g);
  }
