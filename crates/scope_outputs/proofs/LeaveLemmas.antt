-- What is known at a point once an output of a scope that was left is kept.
use Rattle.std.proofs.Common.{◌≡◌, ◌⊎◌, inl, inr, ℕ, ◌<◌, Bool, true, false, true≢false, List, [], ◌∷◌, ◌++◌, map}
use Rattle.std.proofs.Common.{length, Option, Some, None, refl, sym, ap, subst, ◌∙◌}
use Rattle.std.specs.Prelude.{slice_get, slice_set, if◌then◌else◌}
use Rattle.std.proofs.lemmas.Bool.{or_right}
use Rattle.plan_cells.proofs.KnownLemmas.{same_entry}
use Rattle.arm_value.specs.Json.{Json, bool}
use Rattle.arm_value.specs.View.{json}
use Rattle.arm_value.specs.declared.value.Value.{Value}
use Rattle.reading.specs.Knowledge.{Known, known, missing, value, told, by_entry, Stays, Grows, IsThere}
use Rattle.reading.specs.Knowledge.{IsToldStill}
use Rattle.reading.proofs.Growth.{told_still}
use Rattle.deploy_cells.specs.Cells.{Position, Cell, parent, admits, parameter, variable, offered, output, count}
use Rattle.deploy_cells.specs.Cells.{included, name, deployments, state, World}
use Rattle.deploy_cells.specs.Guarded.{told_where}
use Rattle.deploy_cells.specs.Same.{same}
use Rattle.deploy_cells.proofs.CellLemmas.{guarded_told}
use Rattle.deploy_cells.proofs.SameLemmas.{cell_is, cell_same, position_is, position_same}
use Rattle.plan_cells.specs.Known.{by_others, entry_of, entry_told, IsKnown, is_told}
use Rattle.plan_cells.specs.Meaning.{Deployment, meaning, plain}
use Rattle.plan_cells.specs.Start as start
use Rattle.plan_cells.specs.Start.{start_world, at_point, is_there, if_seen}
use Rattle.plan_cells.specs.Tasks.{Task, enter, leave, put, delete}
use Rattle.plan_cells.specs.Reads.{is_given_by, is_output_of, is_state_at, key_in}
use Rattle.arm_ids.specs.declared.id.ResourceId.{ResourceId}
use Rattle.plan_filling.specs.Rows.{Row, status_of, known_by}
use Rattle.plan_table.specs.declared.table.Table.{Table}
use Rattle.plan_table.specs.declared.line.Spot.{Spot}
use Rattle.plan_table.specs.declared.line.Spot.TheVariants.{Parameter, Variable, Offered, Output, Count, Included}
use Rattle.plan_table.specs.declared.line.Spot.TheVariants.{Name, Deployments}
use Rattle.plan_table.specs.Opened.{Opened}
use Rattle.plan_table.specs.Lines.{cell_of, line_at}
use Rattle.plan_table.specs.Whole.{whole_of, scopes_of}
use Rattle.plan_table.specs.Found.{IsLineOf}
use Rattle.plan_sight.specs.Ready.{IsReady}
use Rattle.deploy_histories.specs.Planned.{Planned, is_leave_of, leaver, basis}
use Rattle.deploy_histories.specs.Events.{Progress, done_status}
use Rattle.deploy_histories.specs.Points.{is_done_at, point}
use Rattle.deploy_histories.proofs.ReadinessLemmas.{first_is, none_is}
use Rattle.point_values.specs.Seen.{IsSeen}
use Rattle.point_rows.specs.declared.later.Entry.{Entry}
use Rattle.point_rows.specs.declared.later.Entry.TheVariants as entry
use Rattle.point_rows.specs.declared.later.Later.{Later}
use Rattle.point_rows.specs.declared.later.StateAt.{StateAt}
use Rattle.point_rows.specs.Rows.{entry_at, state_row, condition_status, output_status, line_rows, known_now, told_now}
use Rattle.point_rows.specs.Rows.{IsEntrySpot}
use Rattle.point_rows.proofs.RowsNowLemmas.{condition_found, output_found, past_states, indexed_on}
use Rattle.point_rows.proofs.GrowthLemmas.{stays}
use Rattle.scope_entries.specs.Entries.{line_cell, plain_now, IsToldEntry, AreTold}
use Rattle.scope_entries.proofs.ThereNowLemmas.{line_there}
use Rattle.scope_entries.proofs.GoesLemmas.{told_entry_on, entry_set, length_set}
use Rattle.scope_outputs.specs.Outputs.{position_of, IsOffered, IsLeft, IsKept, Leaves}
use Rattle.scope_outputs.proofs.GivenLemmas.{after_rows, lines_given}

no_entry : (os : List Opened) (s : Spot) (p : Position) (x : List ℕ) → IsEntrySpot s → cell_of os s ≡ offered p x → ⊥
no_entry os (Parameter f n) p x i e = cc
no_entry os (Variable f n) p x i e = cc
no_entry os (Offered f n) p x i e = i
no_entry os (Output f n) p x i e = i
no_entry os (Count f r) p x i e = i
no_entry os (Included f r k) p x i e = i
no_entry os (Name f r k) p x i e = i
no_entry os (Deployments f) p x i e = i

-- ---- which task gives an output

by_key : (o : Option ResourceId) (q : Position) (c : Cell) → is_output_of q c ≡ true → is_state_at o c ≡ true → ⊥
by_key None q c h e = cc
by_key (Some k) q (parameter r y) h e = cc
by_key (Some k) q (variable r y) h e = cc
by_key (Some k) q (offered r y) h e = cc
by_key (Some k) q (output r y) h e = cc
by_key (Some k) q (count r y) h e = cc
by_key (Some k) q (included r y) h e = cc
by_key (Some k) q (name r y) h e = cc
by_key (Some k) q (deployments r) h e = cc
by_key (Some k) q (state l) h e = cc

same_output : (p q : Position) (c : Cell) → is_output_of p c ≡ true → is_output_of q c ≡ true → p ≡ q
same_output p q (offered r y) h g = position_is p r h ∙ sym (position_is q r g)
same_output p q (output r y) h g = position_is p r h ∙ sym (position_is q r g)
same_output p q (parameter r y) h g = absurd (cc)
same_output p q (variable r y) h g = absurd (cc)
same_output p q (count r y) h g = absurd (cc)
same_output p q (included r y) h g = absurd (cc)
same_output p q (name r y) h g = absurd (cc)
same_output p q (deployments r) h g = absurd (cc)
same_output p q (state l) h g = absurd (cc)

giver_leaves : (d : Deployment) (w : World) (task : Task) (q : Position) (c : Cell) → is_output_of q c ≡ true
    → is_given_by d w task c ≡ true → task ≡ leave q
giver_leaves d w (enter p) q c h g = absurd (cc)
giver_leaves d w (put p s) q c h g = absurd (by_key (key_in d w p s) q c h g)
giver_leaves d w (delete k) q c h g = absurd (cc)
giver_leaves d w (leave p) q c h g = ap leave (same_output p q c g h)

-- ---- a scope that was left

leave_of : (q : Position) (t : Task) → is_leave_of q t ≡ true → t ≡ leave q
leave_of q (enter p) e = absurd (cc)
leave_of q (put p s) e = absurd (cc)
leave_of q (delete k) e = absurd (cc)
leave_of q (leave p) e = ap leave (sym (position_is q p e))

module _ (x : Planned) (p : Progress) (q : Position) (left : IsLeft x p q) where
  leaver_done : (o : Option ℕ) → leaver x q ≡ o → is_done_at p.status o ≡ true
  leaver_done None e =
      absurd (true≢false (sym (position_same q)
      ∙ none_is (λ i t. is_leave_of q t) x.tasks e left.number (leave q) left.is_task))
  leaver_done (Some u) e =
      let f = first_is (λ i t. is_leave_of q t) x.tasks u e in
      left.are_done u (f.has ∙ ap Some (leave_of q f.found f.passes))

  seen_left : (r : Position) (c : Cell) → r ≡ q
      → start.output_access (basis x) (point x p.status) r c ≡ by_others
  seen_left [] c e = refl
  seen_left (s ∷ r) c e =
      ap if_seen (or_right (is_there (x.known c)) (is_done_at p.status (leaver x (s ∷ r)))
      (subst (λ (z : Position). is_done_at p.status (leaver x z) ≡ true) (sym e) (leaver_done (leaver x q) refl)))

-- ---- one output

module _ (t : Table) (f : ℕ) (ready : IsReady t) (x : List ℕ) (j : ℕ) (e : Entry)
    (line : IsLineOf t f (offered (position_of t f) x) j) where
  abbrev q : Position
  q = position_of t f

  condition_at : (l : Later)
      → known_now t l (offered q x) ≡ known_by (Some (condition_status (entry_at l.entries.items j)))
  condition_at l =
      ap known_by (past_states l.states.items (line_rows (scopes_of t) t.lines.items l.entries.items) (offered q x) refl
      ∙ condition_found (scopes_of t) q x t.lines.items l.entries.items j ready.sound.distinct line.listed line.is)

  output_at : (l : Later) → known_now t l (output q x) ≡ known_by (Some (output_status (entry_at l.entries.items j)))
  output_at l =
      ap known_by (past_states l.states.items (line_rows (scopes_of t) t.lines.items l.entries.items) (output q x) refl
      ∙ output_found (scopes_of t) q x t.lines.items l.entries.items j ready.sound.distinct line.listed line.is)

  there_by : (b : Entry) → (b ≡ entry.Missing → ⊥)
      → IsThere (known_by (Some (condition_status b))) × IsThere (known_by (Some (output_status b)))
  there_by entry.Missing n = absurd (n refl)
  there_by (entry.Value v) n = (tt, tt)
  there_by entry.Away n = (tt, tt)

  pub kept_by_entry : (l : Later) → (entry_at l.entries.items j ≡ entry.Missing → ⊥) → IsKept t l f x
  kept_by_entry l n =
      let h = there_by (entry_at l.entries.items j) n in
      (subst IsThere (sym (condition_at l)) h.0, subst IsThere (sym (output_at l)) h.1)

  module _ (l m : Later) (offers : IsOffered t l f x e) (within : j < length l.entries.items)
      (none : entry_at l.entries.items j ≡ entry.Missing) (entries : m.entries.items ≡ slice_set l.entries.items j e)
      (states : m.states.items ≡ l.states.items) (places : m.places ≡ l.places) where
    abbrev rows_with : List Entry → List Row
    rows_with es = line_rows (scopes_of t) t.lines.items es

    abbrev Next : Cell → Type 0
    Next c =
        (known_now t m c ≡ known_now t l c)
        ⊎ (((c ≡ offered q x) × (known_now t m c ≡ known_by (Some (condition_status e))))
        ⊎ ((c ≡ output q x) × (known_now t m c ≡ known_by (Some (output_status e)))))

    next_is : (c : Cell) → Next c
    next_is c =
        let rows_are : map state_row m.states.items ++ rows_with m.entries.items
        ≡ map state_row l.states.items ++ rows_with (slice_set l.entries.items j e)
        = ap (λ (ss : List StateAt). map state_row ss ++ rows_with m.entries.items) states
        ∙ ap (λ (es : List Entry). map state_row l.states.items ++ rows_with es) entries in
        subst (λ (rs : List Row). (known_by (status_of rs c)
        ≡ known_by (status_of (map state_row l.states.items ++ rows_with l.entries.items) c))
        ⊎ (((c ≡ offered q x) × (known_by (status_of rs c) ≡ known_by (Some (condition_status e))))
        ⊎ ((c ≡ output q x) × (known_by (status_of rs c) ≡ known_by (Some (output_status e)))))) (sym rows_are)
        (after_rows (scopes_of t) q x c e (map state_row l.states.items) (rows_with (slice_set l.entries.items j e))
        (rows_with l.entries.items)
        (lines_given (scopes_of t) q x c e t.lines.items l.entries.items j within line.listed line.is))

    condition_was : known_now t l (offered q x) ≡ missing
    condition_was = condition_at l ∙ ap (λ (b : Entry). known_by (Some (condition_status b))) none

    output_was : known_now t l (output q x) ≡ missing
    output_was = output_at l ∙ ap (λ (b : Entry). known_by (Some (output_status b))) none

    grows_by : (c : Cell) → Next c → Stays (known_now t l c) (known_now t m c)
    grows_by c (inl h) = subst (λ z. Stays (known_now t l c) z) (sym h) (stays (known_now t l c))
    grows_by c (inr (inl h)) =
        subst (λ z. Stays z (known_now t m c)) (sym (ap (known_now t l) h.0 ∙ condition_was)) tt
    grows_by c (inr (inr h)) =
        subst (λ z. Stays z (known_now t m c)) (sym (ap (known_now t l) h.0 ∙ output_was)) tt

    pub grows : Grows (known_now t l) (known_now t m)
    grows c = grows_by c (next_is c)

    -- ---- what is known at a point

    module _ (y : Planned) (p : Progress) (is : y.deployment ≡ whole_of t) (left : IsLeft y p q)
        (seen : IsSeen y p (known_now t l)) where
      abbrev Knows : Cell → Option Json → Type 0
      Knows c o = IsKnown (meaning y.deployment) (at_point (basis y) (point y p.status)) c o

      told_condition : (b : Json) → plain_now t l (offered q x) ≡ value (Some b)
          → told_now t l (meaning (whole_of t) (offered q x)) ≡ value (Some b)
      told_condition b h =
          subst (λ (c : Cell). told_now t l (meaning (whole_of t) c) ≡ plain_now t l c) line.is
          (line_there t l j q ready line.listed (ap parent line.is)) ∙ h

      knows_condition : (b : Json) → plain_now t l (offered q x) ≡ value (Some b) → Knows (offered q x) (Some b)
      knows_condition b h =
          is_told (offered q x) (Some b) (known_now t l) (seen_left y p q left q (offered q x) refl)
          (λ d u g. seen.known_then d u g)
          (subst (λ (d : Deployment). entry_told (told_now t l (meaning d (offered q x))) ≡ known b) (sym is)
          (ap entry_told (told_condition b h)))

      -- what is known, with the condition
      abbrev with_condition : Json → Cell → Known Json
      with_condition b d = if same (offered q x) d then known b else known_now t l d

      condition_in : (b : Json) → with_condition b (offered q x) ≡ known b
      condition_in b =
          ap (λ z. if z then known b else known_now t l (offered q x))
          (cell_same (offered q x))

      stays_with : (b : Json) (d : Cell) (z : Bool) → same (offered q x) d ≡ z
          → Stays (known_now t l d) (if z then known b else known_now t l d)
      stays_with b d true h =
          subst (λ k. Stays k (known b))
          (sym (ap (known_now t l) (sym (cell_is (offered q x) d h)) ∙ condition_was)) tt
      stays_with b d false h = stays (known_now t l d)

      grows_with : (b : Json) → Grows (known_now t l) (with_condition b)
      grows_with b d = stays_with b d (same (offered q x) d) refl

      all_known : (b : Json) → plain_now t l (offered q x) ≡ value (Some b) → (d : Cell) (u : Option Json) (z : Bool)
          → same (offered q x) d ≡ z → (if z then known b else known_now t l d) ≡ entry_of u → Knows d u
      all_known b h d u true s g =
          subst (λ (c : Cell). Knows c u) (cell_is (offered q x) d s)
          (subst (λ (o : Option Json). Knows (offered q x) o) (same_entry (Some b) u g) (knows_condition b h))
      all_known b h d u false s g = seen.known_then d u g

      -- what is told of the output by what is known with the condition
      guard_is : (b : Json) → told (with_condition b) (meaning (whole_of t) (output q x))
          ≡ told_where (admits (output q x) (Some b)) (told (with_condition b) (plain (whole_of t) (output q x)))
      unfolding meaning
      guard_is b =
          guarded_told (with_condition b) (output q x) (plain (whole_of t) (output q x))
          ∙ ap (λ k. by_entry (offered q x) (λ o. told_where (admits (output q x) o)
          (told (with_condition b) (plain (whole_of t) (output q x)))) k) (condition_in b)

      knows_output : (b : Json) (o : Option Json) → plain_now t l (offered q x) ≡ value (Some b)
          → entry_told (told (with_condition b) (meaning (whole_of t) (output q x))) ≡ entry_of o
          → Knows (output q x) o
      knows_output b o h g =
          is_told (output q x) o (with_condition b) (seen_left y p q left q (output q x) refl)
          (λ d u k. all_known b h d u (same (offered q x) d) refl k)
          (subst (λ (d : Deployment). entry_told (told (with_condition b) (meaning d (output q x))) ≡ entry_of o)
          (sym is) g)

      output_there : (v : Value) → plain_now t l (output q x) ≡ value (Some (json v))
          → told (with_condition (bool true)) (plain (whole_of t) (output q x)) ≡ value (Some (json v))
      output_there v h =
          subst (IsToldStill (with_condition (bool true)) (plain (whole_of t) (output q x))) h
          (told_still Cell Json (Option Json) (known_now t l) (with_condition (bool true)) (grows_with (bool true))
          (plain (whole_of t) (output q x)))

      -- by the entry
      given_condition : (b : Entry) → IsOffered t l f x b → (o : Option Json)
          → known_by (Some (condition_status b)) ≡ entry_of o → Knows (offered q x) o
      given_condition entry.Missing h o g = absurd h
      given_condition (entry.Value v) h o g =
          subst (λ (u : Option Json). Knows (offered q x) u) (same_entry (Some (bool true)) o g)
          (knows_condition (bool true) h.0)
      given_condition entry.Away h o g =
          subst (λ (u : Option Json). Knows (offered q x) u) (same_entry (Some (bool false)) o g)
          (knows_condition (bool false) h)

      given_output : (b : Entry) → IsOffered t l f x b → (o : Option Json)
          → known_by (Some (output_status b)) ≡ entry_of o → Knows (output q x) o
      given_output entry.Missing h o g = absurd h
      given_output (entry.Value v) h o g =
          knows_output (bool true) o h.0 (ap entry_told (guard_is (bool true) ∙ output_there v h.1) ∙ g)
      given_output entry.Away h o g = knows_output (bool false) o h (ap entry_told (guard_is (bool false)) ∙ g)

      knows_next : (c : Cell) (o : Option Json) → known_now t m c ≡ entry_of o → Next c → Knows c o
      knows_next c o g (inl h) = seen.known_then c o (sym h ∙ g)
      knows_next c o g (inr (inl h)) =
          subst (λ (d : Cell). Knows d o) (sym h.0) (given_condition e offers o (sym h.1 ∙ g))
      knows_next c o g (inr (inr h)) =
          subst (λ (d : Cell). Knows d o) (sym h.0) (given_output e offers o (sym h.1 ∙ g))

      not_hidden : (v : ℕ) (task : Task) (c : Cell) → slice_get y.tasks v ≡ Some task
          → is_given_by y.deployment (start_world y.known) task c ≡ true → done_status (p.status v) ≡ false
          → is_output_of q c ≡ true → ⊥
      not_hidden v task c has given undone at =
          let done =
          left.are_done v (has ∙ ap Some (giver_leaves y.deployment (start_world y.known) task q c at given)) in
          true≢false (sym done ∙ undone)

      hides_next : (v : ℕ) (task : Task) (c : Cell) → slice_get y.tasks v ≡ Some task
          → is_given_by y.deployment (start_world y.known) task c ≡ true → done_status (p.status v) ≡ false → Next c
          → known_now t m c ≡ missing
      hides_next v task c has given undone (inl h) = h ∙ seen.hides v task c has given undone
      hides_next v task c has given undone (inr (inl h)) =
          absurd (not_hidden v task c has given undone (ap (is_output_of q) h.0 ∙ position_same q))
      hides_next v task c has given undone (inr (inr h)) =
          absurd (not_hidden v task c has given undone (ap (is_output_of q) h.0 ∙ position_same q))

      still_seen : IsSeen y p (known_now t m)
      still_seen = record {
        known_then = λ c o g. knows_next c o g (next_is c);
        hides = λ v task c has given undone. hides_next v task c has given undone (next_is c);
      }

    -- ---- entries of parameters and variables

    told_by_set : AreTold t l → (i : ℕ) → i < length t.lines.items → IsEntrySpot (line_at t.lines.items i).spot
        → ((i ≡ j) × (entry_at (slice_set l.entries.items j e) i ≡ e))
        ⊎ (entry_at (slice_set l.entries.items j e) i ≡ entry_at l.entries.items i)
        → IsToldEntry t m (line_cell t i) (entry_at m.entries.items i)
    told_by_set a i g s (inl k) =
        absurd (no_entry (scopes_of t) (line_at t.lines.items i).spot q x s
        (subst (λ (n : ℕ). cell_of (scopes_of t) (line_at t.lines.items n).spot ≡ offered q x) (sym k.0) line.is))
    told_by_set a i g s (inr k) =
        subst (λ (z : Entry). IsToldEntry t m (line_cell t i) z)
        (sym (ap (λ (es : List Entry). entry_at es i) entries ∙ k))
        (told_entry_on t l m (line_cell t i) (entry_at l.entries.items i) grows (a i g s))

    pub one_leaves : Leaves t f l m
    one_leaves = record {
      fit = λ h. record {
        entries = ap length entries ∙ length_set l.entries.items j e ∙ h.entries;
        indexed = indexed_on l m states places h.indexed;
      };
      states = states;
      grows = grows;
      seen = λ y p is left seen. still_seen y p is left seen;
      told = λ a i g s. told_by_set a i g s (entry_set l.entries.items i j e within);
    }
