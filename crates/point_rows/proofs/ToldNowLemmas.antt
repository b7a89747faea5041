-- What is told of single cells at a point.
use Rattle.std.proofs.Common.{◌≡◌, ℕ, ◌<◌, Bool, true, false, List, length, get_or, Option, Some, None}
use Rattle.std.proofs.Common.{Result, Ok, Err, refl, sym, ap, subst, ◌∙◌}
use Rattle.std.specs.Prelude.{option_map}
use Rattle.std.proofs.lemmas.List.{get_or_read}
use Rattle.arm_value.specs.Json.{Json}
use Rattle.arm_value.specs.Kinds.{is_true}
use Rattle.arm_value.specs.View.{json}
use Rattle.arm_value.specs.declared.value.Value.{Value}
use Rattle.arm_env.specs.Look.{Fact, a_value}
use Rattle.reading.specs.Reading.{ask, pure, continued}
use Rattle.reading.specs.Knowledge.{Told, value, waits, told, by_entry, and_then}
use Rattle.reading.proofs.Parts.{told-continued}
use Rattle.deploy_cells.specs.Cells.{Position, Cell, parameter, variable, offered, output, count, included, name}
use Rattle.deploy_cells.specs.Cells.{deployments, state}
use Rattle.deploy_cells.specs.Guarded.{Reads}
use Rattle.plan_cells.specs.Desired.{is_state}
use Rattle.plan_cells.specs.Sites.{value_of, declared_value}
use Rattle.plan_filling.specs.Rows.{Status, status_of, table, known_by}
use Rattle.plan_table.specs.declared.table.Table.{Table}
use Rattle.plan_table.specs.declared.line.Spot.{Spot}
use Rattle.plan_table.specs.declared.line.Spot.TheVariants.{Parameter, Variable, Offered, Output, Count, Included}
use Rattle.plan_table.specs.declared.line.Spot.TheVariants.{Name, Deployments}
use Rattle.plan_table.specs.declared.line.State.{State}
use Rattle.plan_table.specs.declared.line.State.TheVariants as how
use Rattle.plan_table.specs.Opened.{Opened}
use Rattle.plan_table.specs.Lines.{cell_of, line_at}
use Rattle.plan_table.specs.Whole.{scopes_of, rows_in}
use Rattle.plan_table.specs.Found.{state_at}
use Rattle.plan_sight.specs.declared.lack.Lack.{Lack}
use Rattle.plan_sight.specs.declared.lack.Lack.TheVariants as lack
use Rattle.plan_sight.specs.Ready.{IsReady}
use Rattle.plan_sight.specs.Seen.{Lacks, Shows, Stops, Yields}
use Rattle.plan_sight.proofs.LookLemmas.{cell_at, IsOpen, listed_row, cell_of_row}
use Rattle.point_rows.specs.declared.later.Entry.{Entry}
use Rattle.point_rows.specs.declared.later.Entry.TheVariants as entry
use Rattle.point_rows.specs.declared.later.Later.{Later}
use Rattle.point_rows.specs.Rows.{entry_at, settled, condition_status, output_status, line_rows, rows_now, known_now}
use Rattle.point_rows.specs.Rows.{told_now, IsEntrySpot}
use Rattle.point_rows.specs.Looked.{IsEntryValue, IsOfferedBy}
use Rattle.point_rows.proofs.RowsNowLemmas.{is_fixed, entry_found, fixed_same, past_states, condition_found}
use Rattle.point_rows.proofs.RowsNowLemmas.{output_found}

-- the entry that was read
pub entry_here : (es : List Entry) (j : ℕ) (e : Entry) → j < length es → e ≡ get_or es j e → entry_at es j ≡ e
entry_here es j e h i = sym (get_or_read es j e h i entry.Missing)

not_state : (os : List Opened) (s : Spot) → IsEntrySpot s → is_state (cell_of os s) ≡ false
not_state os (Parameter f n) i = refl
not_state os (Variable f n) i = refl
not_state os (Offered f n) i = absurd i
not_state os (Output f n) i = absurd i
not_state os (Count f r) i = absurd i
not_state os (Included f r k) i = absurd i
not_state os (Name f r k) i = absurd i
not_state os (Deployments f) i = absurd i

fixed_no_state : (c : Cell) → is_fixed c ≡ true → is_state c ≡ false
fixed_no_state (parameter p x) h = refl
fixed_no_state (variable p x) h = refl
fixed_no_state (offered p x) h = refl
fixed_no_state (output p x) h = refl
fixed_no_state (count p r) h = refl
fixed_no_state (included p s) h = refl
fixed_no_state (name p s) h = refl
fixed_no_state (deployments p) h = refl
fixed_no_state (state k) h = absurd (cc)

module _ (t : Table) (l : Later) where
  -- by the status that is found
  pub told_value : (c : Cell) (s : Status) → status_of (rows_now t l) c ≡ Some s
      → told_now t l (value_of c) ≡ by_entry c (λ v. value (option_map a_value v)) (known_by (Some s))
  unfolding told
  told_value c s e = ap (λ o. by_entry c (λ v. value (option_map a_value v)) (known_by o)) e

  pub told_missing : (c : Cell) → status_of (rows_now t l) c ≡ None → told_now t l (value_of c) ≡ waits c
  unfolding told
  told_missing c e = ap (λ o. by_entry c (λ v. value (option_map a_value v)) (known_by o)) e

  pub told_truth : (c : Cell) (s : Status) → status_of (rows_now t l) c ≡ Some s
      → told_now t l (ask c (λ v. pure (is_true v))) ≡ by_entry c (λ v. value (is_true v)) (known_by (Some s))
  unfolding told
  told_truth c s e = ap (λ o. by_entry c (λ v. value (is_true v)) (known_by o)) e

  pub told_ask : {A : Type 0} (c : Cell) (k : Option Json → Reads A) (s : Status)
      → status_of (rows_now t l) c ≡ Some s
      → told_now t l (ask c k) ≡ by_entry c (λ v. told_now t l (k v)) (known_by (Some s))
  unfolding told
  told_ask c k s e = ap (λ o. by_entry c (λ v. told (known_now t l) (k v)) (known_by o)) e

  pub told_pure : {A : Type 0} (x : A) → told_now t l (pure x) ≡ value x
  unfolding told
  told_pure x = refl

  pub goes : {A B : Type 0} (r : Reads A) (f : A → Reads B)
      → told_now t l (continued r f) ≡ and_then (told_now t l r) (λ x. told_now t l (f x))
  goes {A} {B} r f = told-continued Cell Json A B (known_now t l) r f

  -- counts, conditions of instances, names and lists are known as they are at the start
  pub fixed_known : (c : Cell) → is_fixed c ≡ true → table (status_of (rows_in t)) c ≡ known_now t l c
  fixed_known c h =
      ap known_by (sym (past_states l.states.items (line_rows (scopes_of t) t.lines.items l.entries.items) c
      (fixed_no_state c h) ∙ fixed_same (scopes_of t) t.lines.items l.entries.items c h))

  module _ (j : ℕ) (ready : IsReady t) (h : j < length t.lines.items) where
    -- ---- parameters and variables

    entry_status : IsEntrySpot (line_at t.lines.items j).spot
        → status_of (rows_now t l) (cell_at t j) ≡ Some (settled (state_at t j) (entry_at l.entries.items j))
    entry_status i =
        past_states l.states.items (line_rows (scopes_of t) t.lines.items l.entries.items) (cell_at t j)
        (not_state (scopes_of t) (line_at t.lines.items j).spot i)
        ∙ entry_found (scopes_of t) t.lines.items l.entries.items j ready.sound.distinct h i

    abbrev pub now_told : Told Cell (Option Fact)
    now_told = told_now t l (value_of (cell_at t j))

    abbrev by_status : Status → Told Cell (Option Fact)
    by_status s = by_entry (cell_at t j) (λ v. value (option_map a_value v)) (known_by (Some s))

    by_state : IsEntrySpot (line_at t.lines.items j).spot → (x : State) → state_at t j ≡ x
        → now_told ≡ by_status (settled x (entry_at l.entries.items j))
    by_state i x e =
        told_value (cell_at t j) (settled (state_at t j) (entry_at l.entries.items j)) (entry_status i)
        ∙ ap (λ y. by_status (settled y (entry_at l.entries.items j))) e

    pub has_value : IsEntrySpot (line_at t.lines.items j).spot → (v : Value) → state_at t j ≡ how.Value v
        → now_told ≡ value (Some (a_value (json v)))
    has_value i v e = by_state i (how.Value v) e

    pub has_none : IsEntrySpot (line_at t.lines.items j).spot → state_at t j ≡ how.Empty → now_told ≡ value None
    has_none i e = by_state i how.Empty e

    waits_here : (u : Told Cell (Option Fact)) → u ≡ waits (cell_at t j) → Lacks t (lack.Line j) u
    waits_here u e = (listed_row t j h, e ∙ ap waits (cell_of_row t j h))

    module _ {X : Type 0} (view : X → Value) where
      abbrev Told_as : Result X Lack → Status → Type 0
      Told_as r s = Shows (λ x. a_value (json (view x))) t r (by_status s)

      by_later : (x : State) (e : Entry) (r : Result X Lack) → IsOpen x → IsEntryValue view e j r
          → Told_as r (settled x e)
      by_later how.New (entry.Value v) (Ok y) o q = ap (λ z. value (Some (a_value (json z)))) (sym q)
      by_later how.Open (entry.Value v) (Ok y) o q = ap (λ z. value (Some (a_value (json z)))) (sym q)
      by_later (how.Late k) (entry.Value v) (Ok y) o q = ap (λ z. value (Some (a_value (json z)))) (sym q)
      by_later how.New entry.Missing (Err f) o q =
          subst (λ z. Lacks {A = Fact} t z (waits (cell_at t j))) (sym q) (waits_here (waits (cell_at t j)) refl)
      by_later how.Open entry.Missing (Err f) o q =
          subst (λ z. Lacks {A = Fact} t z (waits (cell_at t j))) (sym q) (waits_here (waits (cell_at t j)) refl)
      by_later (how.Late k) entry.Missing (Err f) o q =
          subst (λ z. Lacks {A = Fact} t z (waits (cell_at t j))) (sym q) (waits_here (waits (cell_at t j)) refl)
      by_later how.New entry.Away (Err f) o q = subst (λ z. Lacks {A = Fact} t z (value None)) (sym q) refl
      by_later how.Open entry.Away (Err f) o q = subst (λ z. Lacks {A = Fact} t z (value None)) (sym q) refl
      by_later (how.Late k) entry.Away (Err f) o q = subst (λ z. Lacks {A = Fact} t z (value None)) (sym q) refl
      by_later how.New (entry.Value v) (Err f) o q = absurd q
      by_later how.Open (entry.Value v) (Err f) o q = absurd q
      by_later (how.Late k) (entry.Value v) (Err f) o q = absurd q
      by_later how.New entry.Missing (Ok y) o q = absurd q
      by_later how.Open entry.Missing (Ok y) o q = absurd q
      by_later (how.Late k) entry.Missing (Ok y) o q = absurd q
      by_later how.New entry.Away (Ok y) o q = absurd q
      by_later how.Open entry.Away (Ok y) o q = absurd q
      by_later (how.Late k) entry.Away (Ok y) o q = absurd q
      by_later (how.Value v) e r o q = absurd o
      by_later how.Empty e r o q = absurd o

      pub entry_shows : IsEntrySpot (line_at t.lines.items j).spot → (x : State) → state_at t j ≡ x → IsOpen x
          → (e : Entry) → entry_at l.entries.items j ≡ e → (r : Result X Lack) → IsEntryValue view e j r
          → Shows (λ x. a_value (json (view x))) t r now_told
      entry_shows i x s o e q r v =
          subst (λ u. Shows (λ x. a_value (json (view x))) t r u) (sym (by_state i x s))
          (subst (λ z. Told_as r (settled x z)) (sym q) (by_later x e r o v))

    -- ---- conditions of outputs, and outputs

    module _ (p : Position) (y : List ℕ) (is : cell_at t j ≡ offered p y) where
      abbrev e : Entry
      e = entry_at l.entries.items j

      pub condition_status_is : status_of (rows_now t l) (offered p y) ≡ Some (condition_status e)
      condition_status_is =
          past_states l.states.items (line_rows (scopes_of t) t.lines.items l.entries.items) (offered p y) refl
          ∙ condition_found (scopes_of t) p y t.lines.items l.entries.items j ready.sound.distinct h is

      pub output_status_is : status_of (rows_now t l) (output p y) ≡ Some (output_status e)
      output_status_is =
          past_states l.states.items (line_rows (scopes_of t) t.lines.items l.entries.items) (output p y) refl
          ∙ output_found (scopes_of t) p y t.lines.items l.entries.items j ready.sound.distinct h is

      pub waits_condition : {A : Type 0} (u : Told Cell A) → u ≡ waits (offered p y) → Stops t (lack.Line j) u
      waits_condition u q = (listed_row t j h, q ∙ ap waits (sym is ∙ cell_of_row t j h))

      truth_by : (b : Entry) → e ≡ b → (r : Result Bool Lack) → IsOfferedBy b j r
          → Yields (λ b. b) t r (told_now t l (ask (offered p y) (λ v. pure (is_true v))))
      truth_by (entry.Value v) q r i =
          subst (λ z. Yields (λ b. b) t z (told_now t l (ask (offered p y) (λ v. pure (is_true v))))) (sym i)
          (told_truth (offered p y) (condition_status e) condition_status_is
          ∙ ap (λ z. by_entry (offered p y) (λ v. value (is_true v)) (known_by (Some (condition_status z)))) q)
      truth_by entry.Away q r i =
          subst (λ z. Yields (λ b. b) t z (told_now t l (ask (offered p y) (λ v. pure (is_true v))))) (sym i)
          (told_truth (offered p y) (condition_status e) condition_status_is
          ∙ ap (λ z. by_entry (offered p y) (λ v. value (is_true v)) (known_by (Some (condition_status z)))) q)
      truth_by entry.Missing q r i =
          subst (λ z. Yields (λ b. b) t z (told_now t l (ask (offered p y) (λ v. pure (is_true v))))) (sym i)
          (waits_condition (told_now t l (ask (offered p y) (λ v. pure (is_true v))))
          (told_truth (offered p y) (condition_status e) condition_status_is
          ∙ ap (λ z. by_entry (offered p y) (λ v. value (is_true v)) (known_by (Some (condition_status z)))) q))

      pub truth_shows : (r : Result Bool Lack) → IsOfferedBy e j r
          → Yields (λ b. b) t r (told_now t l (ask (offered p y) (λ v. pure (is_true v))))
      truth_shows r i = truth_by e refl r i

      abbrev pub asks_output : Reads (Option Fact)
      asks_output = ask (offered p y) (λ v. declared_value (is_true v) (output p y))

      asked : (b : Entry) → e ≡ b
          → told_now t l asks_output
          ≡ by_entry (offered p y) (λ v. told_now t l (declared_value (is_true v) (output p y)))
          (known_by (Some (condition_status b)))
      asked b q =
          told_ask (offered p y) (λ v. declared_value (is_true v) (output p y)) (condition_status e)
          condition_status_is
          ∙ ap (λ z. by_entry (offered p y) (λ v. told_now t l (declared_value (is_true v) (output p y)))
          (known_by (Some (condition_status z)))) q

      pub output_there : (v : Value) → e ≡ entry.Value v → told_now t l asks_output ≡ value (Some (a_value (json v)))
      output_there v q =
          asked (entry.Value v) q ∙ told_value (output p y) (output_status e) output_status_is
          ∙ ap (λ z. by_entry (output p y) (λ v. value (option_map a_value v)) (known_by (Some (output_status z)))) q

      pub output_away : e ≡ entry.Away → told_now t l asks_output ≡ value None
      output_away q = asked entry.Away q ∙ told_pure None

      pub output_waits : e ≡ entry.Missing → Lacks t (lack.Line j) (told_now t l asks_output)
      output_waits q = waits_condition (told_now t l asks_output) (asked entry.Missing q)
