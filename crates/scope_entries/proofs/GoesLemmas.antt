-- What is known at a point once the value of a parameter or a variable is kept.
use Rattle.std.proofs.Common.{◌≡◌, ◌⊎◌, inl, inr, ℕ, zero, suc, ◌<◌, Bool, true, false, List, [], ◌∷◌, ◌++◌, map}
use Rattle.std.proofs.Common.{length, Option, Some, None, refl, sym, ap, subst, ◌∙◌, arith}
use Rattle.std.specs.Prelude.{slice_set}
use Rattle.arm_value.specs.Json.{Json}
use Rattle.arm_value.specs.View.{json}
use Rattle.arm_value.specs.declared.value.Value.{Value}
use Rattle.reading.specs.Knowledge.{Known, known, absent, missing, Told, value, no_value, waits, Stays, Grows, IsThere}
use Rattle.reading.specs.Knowledge.{IsToldStill}
use Rattle.reading.proofs.Growth.{told_still}
use Rattle.deploy_cells.specs.Cells.{Position, Cell, parent, opener}
use Rattle.plan_cells.specs.Desired.{is_state}
use Rattle.plan_cells.specs.Known.{entry_of, entry_told}
use Rattle.plan_cells.specs.Meaning.{meaning, plain}
use Rattle.plan_filling.specs.Rows.{Row, status_of, known_by}
use Rattle.plan_table.specs.declared.table.Table.{Table}
use Rattle.plan_table.specs.declared.line.Spot.{Spot}
use Rattle.plan_table.specs.declared.line.Spot.TheVariants.{Parameter, Variable, Offered, Output, Count, Included}
use Rattle.plan_table.specs.declared.line.Spot.TheVariants.{Name, Deployments}
use Rattle.plan_table.specs.declared.line.State.{State}
use Rattle.plan_table.specs.declared.line.State.TheVariants as how
use Rattle.plan_table.specs.Opened.{Opened, opened_at}
use Rattle.plan_table.specs.Lines.{cell_of, line_at}
use Rattle.plan_table.specs.Whole.{whole_of, scopes_of}
use Rattle.plan_table.specs.Found.{state_at}
use Rattle.plan_sight.specs.Ready.{IsReady}
use Rattle.point_rows.specs.declared.later.Entry.{Entry}
use Rattle.point_rows.specs.declared.later.Entry.TheVariants as entry
use Rattle.point_rows.specs.declared.later.Later.{Later}
use Rattle.point_rows.specs.declared.later.StateAt.{StateAt}
use Rattle.point_rows.specs.Rows.{entry_at, state_row, settled, line_rows, known_now, told_now, IsEntrySpot}
use Rattle.point_rows.proofs.RowsNowLemmas.{entry_found, past_states, indexed_on}
use Rattle.point_rows.proofs.GrowthLemmas.{stays, stays_after}
use Rattle.point_knowledge.specs.Steps.{IsEntryOf, AddsEntry}
use Rattle.point_knowledge.proofs.StepLemmas.{after_rows, lines_more, entry_seen}
use Rattle.scope_entries.specs.Entries.{line_cell, plain_now, IsToldEntry, AreTold, Goes, IsSettled, IsAbsent}
use Rattle.scope_entries.specs.Entries.{IsDecided}
use Rattle.scope_entries.proofs.ThereNowLemmas.{line_there}

-- ---- what stays

pub there_on : (x y : Known Json) → Stays x y → IsThere x → IsThere y
there_on (known v) y s h = subst IsThere (sym s) tt
there_on absent y s h = subst IsThere (sym s) tt
there_on missing y s h = absurd h

pub told_on : (t : Table) (l m : Later) (c : Cell) (o : Option Json) → Grows (known_now t l) (known_now t m)
    → plain_now t l c ≡ value o → plain_now t m c ≡ value o
told_on t l m c o g e =
    subst (IsToldStill (known_now t m) (plain (whole_of t) c)) e
    (told_still Cell Json (Option Json) (known_now t l) (known_now t m) g (plain (whole_of t) c))

pub settled_on : (t : Table) (l m : Later) (c : Cell) → Grows (known_now t l) (known_now t m) → IsSettled t l c
    → IsSettled t m c
settled_on t l m c g s = record {
  has = s.has;
  is_told = told_on t l m c (Some s.has) g s.is_told;
  is_there = there_on (known_now t l c) (known_now t m c) (g c) s.is_there;
}

-- what is told to have no value is told so still
absent_by : (t : Table) (l m : Later) (c : Cell) → Grows (known_now t l) (known_now t m)
    → (u : Told Cell (Option Json)) → plain_now t l c ≡ u → entry_told u ≡ absent
    → entry_told (plain_now t m c) ≡ absent
absent_by t l m c g (value o) e h = ap entry_told (told_on t l m c o g e) ∙ h
absent_by t l m c g no_value e h =
    ap entry_told (subst (IsToldStill (known_now t m) (plain (whole_of t) c)) e
    (told_still Cell Json (Option Json) (known_now t l) (known_now t m) g (plain (whole_of t) c)))
absent_by t l m c g (waits d) e h = absurd (cc)

pub told_entry_on : (t : Table) (l m : Later) (c : Cell) (e : Entry) → Grows (known_now t l) (known_now t m)
    → IsToldEntry t l c e → IsToldEntry t m c e
told_entry_on t l m c (entry.Value v) g h = told_on t l m c (Some (json v)) g h
told_entry_on t l m c entry.Away g h = absent_by t l m c g (plain_now t l c) refl h
told_entry_on t l m c entry.Missing g h = tt

pub decided_on : (on : Bool) (t : Table) (l m : Later) (c : Cell) → Grows (known_now t l) (known_now t m)
    → IsDecided on t l c → IsDecided on t m c
decided_on false t l m c g s = settled_on t l m c g s
decided_on true t l m c g (inl s) = inl (settled_on t l m c g s)
decided_on true t l m c g (inr s) = inr (record {
  is_absent = absent_by t l m c g (plain_now t l c) refl s.is_absent;
  is_there = there_on (known_now t l c) (known_now t m c) (g c) s.is_there;
})

pub decided_there : (on : Bool) (t : Table) (l : Later) (c : Cell) → IsDecided on t l c → IsThere (known_now t l c)
decided_there false t l c s = s.is_there
decided_there true t l c (inl s) = s.is_there
decided_there true t l c (inr s) = s.is_there

pub settled_decided : (on : Bool) (t : Table) (l : Later) (c : Cell) → IsSettled t l c → IsDecided on t l c
settled_decided false t l c s = s
settled_decided true t l c s = inl s

-- entries that are what is told are so still where only states are more
pub told_with_states : (t : Table) (l m : Later) → Grows (known_now t l) (known_now t m)
    → m.entries.items ≡ l.entries.items → AreTold t l → AreTold t m
told_with_states t l m g e a j h s =
    told_entry_on t l m (line_cell t j) (entry_at m.entries.items j) g
    (subst (λ (es : List Entry). IsToldEntry t l (line_cell t j) (entry_at es j)) (sym e) (a j h s))

-- ---- steps one after another

pub goes_nowhere : (t : Table) (l : Later) → Goes t l l
goes_nowhere t l = record {
  fit = λ h. h;
  states = refl;
  grows = λ c. stays (known_now t l c);
  seen = λ x p e s. s;
  told = λ a. a;
}

pub goes_same : (t : Table) (l m : Later) → m ≡ l → Goes t l m
goes_same t l m e = subst (λ z. Goes t l z) (sym e) (goes_nowhere t l)

pub goes_on : (t : Table) (l m n : Later) → Goes t l m → Goes t m n → Goes t l n
goes_on t l m n a b = record {
  fit = λ h. b.fit (a.fit h);
  states = b.states ∙ a.states;
  grows = λ c. stays_after (known_now t l c) (known_now t m c) (known_now t n c) (a.grows c) (b.grows c);
  seen = λ x p e s. b.seen x p e (a.seen x p e s);
  told = λ h. b.told (a.told h);
}

-- ---- entries

pub entry_set : (es : List Entry) (j i : ℕ) (e : Entry) → i < length es
    → ((j ≡ i) × (entry_at (slice_set es i e) j ≡ e)) ⊎ (entry_at (slice_set es i e) j ≡ entry_at es j)
entry_set [] j i e h = absurd (omega (arith, h))
entry_set (x ∷ es) zero zero e h = inl (refl, refl)
entry_set (x ∷ es) (suc j) zero e h = inr refl
entry_set (x ∷ es) zero (suc i) e h = inr refl
entry_set (x ∷ es) (suc j) (suc i) e h = next (entry_set es j i e (omega (arith, h)))
  where
    next : ((j ≡ i) × (entry_at (slice_set es i e) j ≡ e)) ⊎ (entry_at (slice_set es i e) j ≡ entry_at es j)
        → ((suc j ≡ suc i) × (entry_at (slice_set es i e) j ≡ e)) ⊎ (entry_at (slice_set es i e) j ≡ entry_at es j)
    next (inl q) = inl (ap suc q.0, q.1)
    next (inr q) = inr q

pub length_set : (es : List Entry) (i : ℕ) (e : Entry) → length (slice_set es i e) ≡ length es
length_set [] i e = refl
length_set (x ∷ es) zero e = refl
length_set (x ∷ es) (suc i) e = ap suc (length_set es i e)

entry_no_state : (os : List Opened) (s : Spot) → IsEntrySpot s → is_state (cell_of os s) ≡ false
entry_no_state os (Parameter f n) i = refl
entry_no_state os (Variable f n) i = refl
entry_no_state os (Offered f n) i = absurd i
entry_no_state os (Output f n) i = absurd i
entry_no_state os (Count f r) i = absurd i
entry_no_state os (Included f r k) i = absurd i
entry_no_state os (Name f r k) i = absurd i
entry_no_state os (Deployments f) i = absurd i

-- a parameter or a variable is there with its scope
entry_parent : (os : List Opened) (s : Spot) → IsEntrySpot s → (p : Position) × (parent (cell_of os s) ≡ opener p)
entry_parent os (Parameter f n) i = ((opened_at os f).position, refl)
entry_parent os (Variable f n) i = ((opened_at os f).position, refl)
entry_parent os (Offered f n) i = absurd i
entry_parent os (Output f n) i = absurd i
entry_parent os (Count f r) i = absurd i
entry_parent os (Included f r k) i = absurd i
entry_parent os (Name f r k) i = absurd i
entry_parent os (Deployments f) i = absurd i

pub settled_stays : (x : State) (a : Entry)
    → Stays (known_by (Some (settled x entry.Missing))) (known_by (Some (settled x a)))
settled_stays how.New a = tt
settled_stays how.Open a = tt
settled_stays (how.Late k) a = tt
settled_stays (how.Value u) a = refl
settled_stays how.Empty a = refl

pub settled_there : (x : State) (v : Value) → IsThere (known_by (Some (settled x (entry.Value v))))
settled_there how.New v = tt
settled_there how.Open v = tt
settled_there (how.Late k) v = tt
settled_there (how.Value u) v = tt
settled_there how.Empty v = tt

pub absent_there : (x : State) → IsThere (known_by (Some (settled x entry.Away)))
absent_there how.New = tt
absent_there how.Open = tt
absent_there (how.Late k) = tt
absent_there (how.Value u) = tt
absent_there how.Empty = tt

-- ---- the cell of a line that has an entry

module _ (t : Table) (j : ℕ) (ready : IsReady t) (h : j < length t.lines.items)
    (spot : IsEntrySpot (line_at t.lines.items j).spot) where
  abbrev at : Cell
  at = line_cell t j

  pub known_at : (l : Later) → known_now t l at ≡ known_by (Some (settled (state_at t j) (entry_at l.entries.items j)))
  known_at l =
      ap known_by (past_states l.states.items (line_rows (scopes_of t) t.lines.items l.entries.items) at
      (entry_no_state (scopes_of t) (line_at t.lines.items j).spot spot)
      ∙ entry_found (scopes_of t) t.lines.items l.entries.items j ready.sound.distinct h spot)

  kept_there : (l : Later) (v : Value) → entry_at l.entries.items j ≡ entry.Value v → IsThere (known_now t l at)
  kept_there l v e =
      subst IsThere (sym (known_at l ∙ ap (λ (z : Entry). known_by (Some (settled (state_at t j) z))) e))
      (settled_there (state_at t j) v)

  pub kept_settled : (l : Later) → AreTold t l → (v : Value) → entry_at l.entries.items j ≡ entry.Value v
      → IsSettled t l at
  kept_settled l a v e = record {
    has = json v;
    is_told = subst (IsToldEntry t l at) e (a j h spot);
    is_there = kept_there l v e;
  }

  away_there : (l : Later) → entry_at l.entries.items j ≡ entry.Away → IsThere (known_now t l at)
  away_there l e =
      subst IsThere (sym (known_at l ∙ ap (λ (z : Entry). known_by (Some (settled (state_at t j) z))) e))
      (absent_there (state_at t j))

  pub kept_absent : (l : Later) → AreTold t l → entry_at l.entries.items j ≡ entry.Away → IsAbsent t l at
  kept_absent l a e = record {
    is_absent = subst (IsToldEntry t l at) e (a j h spot);
    is_there = away_there l e;
  }

  module _ (l m : Later) (a : Entry) (o : Option Json) (of : IsEntryOf o a) (told : IsToldEntry t l at a)
      (vacant : entry_at l.entries.items j ≡ entry.Missing) (adds : AddsEntry j a l m) (places : m.places ≡ l.places)
    where
      kept : entry_at m.entries.items j ≡ a
      kept = elim (entry_set l.entries.items j j a adds.within) [
        | inl q ↦ ap (λ (es : List Entry). entry_at es j) adds.entries ∙ q.1
        | inr q ↦ ap (λ (es : List Entry). entry_at es j) adds.entries ∙ set_here l.entries.items j adds.within
      ]
        where
          set_here : (es : List Entry) (i : ℕ) → i < length es → entry_at (slice_set es i a) i ≡ a
          set_here [] i h = absurd (omega (arith, h))
          set_here (x ∷ es) zero h = refl
          set_here (x ∷ es) (suc i) h = set_here es i (omega (arith, h))

      entry_fact : (e : Entry) → IsEntryOf o e → IsToldEntry t l at e → entry_told (plain_now t l at) ≡ entry_of o
      entry_fact (entry.Value v) f h = ap entry_told h ∙ ap entry_of (sym f)
      entry_fact entry.Away f h = h ∙ ap entry_of (sym f)
      entry_fact entry.Missing f h = absurd f

      abbrev rows_with : List Entry → List Row
      rows_with es = line_rows (scopes_of t) t.lines.items es

      abbrev Next : Cell → Type 0
      Next c = (known_now t m c ≡ known_now t l c) ⊎ ((c ≡ at) × (known_now t m c ≡ entry_of o))

      next_is : (c : Cell) → Next c
      next_is c =
          let rows_are : map state_row m.states.items ++ rows_with m.entries.items
          ≡ map state_row l.states.items ++ rows_with (slice_set l.entries.items j a)
          = ap (λ (ss : List StateAt). map state_row ss ++ rows_with m.entries.items) adds.states
          ∙ ap (λ (es : List Entry). map state_row l.states.items ++ rows_with es) adds.entries in
          subst (λ (rs : List Row). (known_by (status_of rs c)
          ≡ known_by (status_of (map state_row l.states.items ++ rows_with l.entries.items) c))
          ⊎ ((c ≡ at) × (known_by (status_of rs c) ≡ entry_of o))) (sym rows_are)
          (after_rows at c (entry_of o) (map state_row l.states.items)
          (rows_with (slice_set l.entries.items j a)) (rows_with l.entries.items)
          (lines_more (scopes_of t) c a o of t.lines.items l.entries.items j adds.within h spot))

      grows_at : Stays (known_now t l at) (known_now t m at)
      grows_at =
          subst (λ z. Stays z (known_now t m at))
          (sym (known_at l ∙ ap (λ (z : Entry). known_by (Some (settled (state_at t j) z))) vacant))
          (subst (λ z. Stays (known_by (Some (settled (state_at t j) entry.Missing))) z)
          (sym (known_at m ∙ ap (λ (z : Entry). known_by (Some (settled (state_at t j) z))) kept))
          (settled_stays (state_at t j) a))

      grows_by : (c : Cell) → Next c → Stays (known_now t l c) (known_now t m c)
      grows_by c (inl q) = subst (λ z. Stays (known_now t l c) z) (sym q) (stays (known_now t l c))
      grows_by c (inr q) = subst (λ d. Stays (known_now t l d) (known_now t m d)) (sym q.0) grows_at

      grows : Grows (known_now t l) (known_now t m)
      grows c = grows_by c (next_is c)

      told_of : entry_told (told_now t l (meaning (whole_of t) at)) ≡ entry_of o
      told_of =
          let p = entry_parent (scopes_of t) (line_at t.lines.items j).spot spot in
          ap entry_told (line_there t l j p.0 ready h p.1) ∙ entry_fact a of told

      told_by : AreTold t l → (i : ℕ) → i < length t.lines.items → IsEntrySpot (line_at t.lines.items i).spot
          → ((i ≡ j) × (entry_at (slice_set l.entries.items j a) i ≡ a))
          ⊎ (entry_at (slice_set l.entries.items j a) i ≡ entry_at l.entries.items i)
          → IsToldEntry t m (line_cell t i) (entry_at m.entries.items i)
      told_by all i g s (inl q) =
          subst (λ (e : Entry). IsToldEntry t m (line_cell t i) e)
          (sym (ap (λ (es : List Entry). entry_at es i) adds.entries ∙ q.1))
          (subst (λ k. IsToldEntry t m (line_cell t k) a) (sym q.0) (told_entry_on t l m at a grows told))
      told_by all i g s (inr q) =
          subst (λ (e : Entry). IsToldEntry t m (line_cell t i) e)
          (sym (ap (λ (es : List Entry). entry_at es i) adds.entries ∙ q))
          (told_entry_on t l m (line_cell t i) (entry_at l.entries.items i) grows (all i g s))

      pub kept_goes : Goes t l m
      kept_goes = record {
        fit = λ f. record {
          entries = ap length adds.entries ∙ length_set l.entries.items j a ∙ f.entries;
          indexed = indexed_on l m adds.states places f.indexed;
        };
        states = adds.states;
        grows = grows;
        seen = λ x p e s. entry_seen x p t l m j a o of e s h spot told_of adds;
        told = λ all i g s. told_by all i g s (entry_set l.entries.items i j a adds.within);
      }

  -- the value that is told is kept
  pub kept_is_settled : (l m : Later) (v : Value) → plain_now t l at ≡ value (Some (json v))
      → entry_at l.entries.items j ≡ entry.Missing → AddsEntry j (entry.Value v) l m → m.places ≡ l.places
      → IsSettled t m at
  kept_is_settled l m v told vacant adds places = record {
    has = json v;
    is_told =
        told_on t l m at (Some (json v)) (grows l m (entry.Value v) (Some (json v)) refl told vacant adds places) told;
    is_there = kept_there m v (kept l m (entry.Value v) (Some (json v)) refl told vacant adds places);
  }

  -- that it has none is kept
  pub kept_is_absent : (l m : Later) → entry_told (plain_now t l at) ≡ absent
      → entry_at l.entries.items j ≡ entry.Missing → AddsEntry j entry.Away l m → m.places ≡ l.places → IsAbsent t m at
  kept_is_absent l m told vacant adds places = record {
    is_absent =
        absent_by t l m at (grows l m entry.Away None refl told vacant adds places) (plain_now t l at) refl told;
    is_there = away_there m (kept l m entry.Away None refl told vacant adds places);
  }

  -- where settling goes on, that it has none is kept; else nothing
  pub absence_goes : (l m : Later) (on : Bool) → entry_told (plain_now t l at) ≡ absent
      → entry_at l.entries.items j ≡ entry.Missing → (on ≡ true → AddsEntry j entry.Away l m) → (on ≡ false → m ≡ l)
      → m.places ≡ l.places → Goes t l m
  absence_goes l m true told vacant adds same places =
      kept_goes l m entry.Away None refl told vacant (adds refl) places
  absence_goes l m false told vacant adds same places =
      subst (λ (z : Later). Goes t l z) (sym (same refl)) (goes_nowhere t l)
