-- Entries that are set and taken back, and what is known between.
use Rattle.std.proofs.Common.{◌≡◌, ◌⊎◌, inl, inr, ℕ, zero, suc, ◌+◌, ◌<◌, ◌≤◌, Bool, true, false, List, [], ◌∷◌, ◌++◌}
use Rattle.std.proofs.Common.{map, length, drop, get_or, Option, Some, None, refl, sym, ap, subst, ◌∙◌, arith}
use Rattle.std.proofs.lemmas.List.{drop_all, append_assoc, append-nil}
use Rattle.std.proofs.Math.Seq.{drop-cons}
use Rattle.std.specs.Prelude.{slice_set, if◌then◌else◌, Result, Ok, Err, IfOk}
use Rattle.std.specs.declared.alloc.AllocError.{AllocError}
use Rattle.foundation.proofs.Comparisons.{is_or_lt}
use Rattle.arm_value.specs.Json.{Json}
use Rattle.arm_value.specs.View.{json}
use Rattle.arm_value.specs.declared.value.Value.{Value}
use Rattle.reading.specs.World.{Each}
use Rattle.reading.specs.Knowledge.{Known, known, absent, missing, value, waits, Stays, Grows, IsThere}
use Rattle.deploy_cells.specs.Cells.{Cell}
use Rattle.plan_cells.specs.Children.{Has}
use Rattle.plan_cells.specs.Known.{entry_of, entry_told}
use Rattle.plan_cells.proofs.ListLemmas.{has_map, has_mapped}
use Rattle.plan_filling.specs.Rows.{Row, status_of, known_by}
use Rattle.plan_filling.specs.declared.sheet.Answer.TheVariants as answer
use Rattle.plan_table.specs.declared.table.Table.{Table}
use Rattle.plan_table.specs.declared.line.State.{State}
use Rattle.plan_table.specs.Lines.{line_at}
use Rattle.plan_table.specs.Whole.{scopes_of}
use Rattle.plan_table.specs.Found.{state_at}
use Rattle.plan_sight.specs.declared.lack.Lack.{Lack}
use Rattle.plan_sight.specs.Ready.{IsReady}
use Rattle.point_rows.specs.declared.later.Entry.{Entry}
use Rattle.point_rows.specs.declared.later.Entry.TheVariants as entry
use Rattle.point_rows.specs.declared.later.Later.{Later}
use Rattle.point_rows.specs.declared.later.StateAt.{StateAt}
use Rattle.point_rows.specs.Rows.{entry_at, state_row, settled, line_rows, known_now, IsFit, IsEntrySpot}
use Rattle.point_rows.proofs.RowsNowLemmas.{indexed_on}
use Rattle.point_rows.proofs.GrowthLemmas.{stays}
use Rattle.point_knowledge.proofs.StepLemmas.{after_rows, lines_more}
use Rattle.scope_outputs.specs.Entries.{line_cell, own_of, cells_at, IsOwnLine, AreOwnLines, AreLinesOf}
use Rattle.scope_outputs.specs.Entries.{AreTold, IsToldEntry, IsAnswerNow}
use Rattle.scope_outputs.proofs.GoesLemmas.{entry_set, length_set, settled_stays, settled_there, absent_there, known_at}
use Rattle.scope_outputs.proofs.GoesLemmas.{told_entry_on}
use Rattle.scope_outputs.proofs.OwnLemmas.{own_entry, own_line}
use Rattle.scope_faults.specs.Circles.{is_open, open_of, set_all, AreOpenLines, IsVacated, NeverWaits, IsLineLack}
use Rattle.scope_faults.specs.Circles.{AreLineLacks, IsLackOf, IsCircleLack}

-- ---- lists

pub each_has : (P : ℕ → Type 0) (xs : List ℕ) (x : ℕ) → Each P xs → Has x xs → P x
each_has P [] x e h = absurd h
each_has P (y ∷ ys) x e (inl q) = subst P q e.0
each_has P (y ∷ ys) x e (inr q) = each_has P ys x e.1 q

pub each_at : (P : ℕ → Type 0) (xs : List ℕ) (i : ℕ) → i < length xs → Each P xs → P (get_or xs i 0)
each_at P [] i h e = absurd (omega (arith, h))
each_at P (x ∷ xs) zero h e = e.0
each_at P (x ∷ xs) (suc i) h e = each_at P xs i (omega (arith, h)) e.1

pub each_of : (P : ℕ → Type 0) (xs : List ℕ) → ((k : ℕ) → k < length xs → P (get_or xs k 0)) → Each P xs
each_of P [] f = tt
each_of P (x ∷ xs) f = (f zero (omega arith), each_of P xs (λ k h. f (suc k) (omega (arith, h))))

pub each_map : (P Q : ℕ → Type 0) (xs : List ℕ) → ((x : ℕ) → P x → Q x) → Each P xs → Each Q xs
each_map P Q [] f e = tt
each_map P Q (x ∷ xs) f e = (f x e.0, each_map P Q xs f e.1)

pub has_at : (xs : List ℕ) (i : ℕ) → i < length xs → Has (get_or xs i 0) xs
has_at [] i h = absurd (omega (arith, h))
has_at (x ∷ xs) zero h = inl refl
has_at (x ∷ xs) (suc i) h = inr (has_at xs i (omega (arith, h)))

drop_zero : (xs : List ℕ) → drop 0 xs ≡ xs
drop_zero [] = refl
drop_zero (x ∷ xs) = refl

drop_here : (xs : List ℕ) (i : ℕ) → i < length xs → drop i xs ≡ get_or xs i 0 ∷ drop (i + 1) xs
drop_here xs i h =
    drop-cons xs i 0 h
    ∙ ap (λ (k : ℕ). get_or xs i 0 ∷ drop k xs) (let z : suc i ≡ i + 1 = omega arith in z)

-- ---- lines without an entry

module _ (es : List Entry) (js : List ℕ) where
  -- with those that are left these are the lines without an entry
  abbrev pub OpenLeft : List ℕ → ℕ → Type 0
  OpenLeft vs i = vs ++ open_of es (drop i js) ≡ open_of es js

  pub open_begins : (vs : List ℕ) → vs ≡ [] → OpenLeft vs 0
  open_begins vs e =
      ap (λ (ks : List ℕ). ks ++ open_of es (drop 0 js)) e ∙ ap (open_of es) (drop_zero js)

  by_open : (b : Bool) (i : ℕ) → i < length js → is_open (entry_at es (get_or js i 0)) ≡ b
      → open_of es (drop i js)
      ≡ (if b then get_or js i 0 ∷ open_of es (drop (i + 1) js) else open_of es (drop (i + 1) js))
  by_open b i h e =
      ap (open_of es) (drop_here js i h)
      ∙ ap (λ (a : Bool). if a then get_or js i 0 ∷ open_of es (drop (i + 1) js) else open_of es (drop (i + 1) js)) e

  pub open_more : (vs new : List ℕ) (i : ℕ) → i < length js → new ≡ vs ++ get_or js i 0 ∷ []
      → is_open (entry_at es (get_or js i 0)) ≡ true → OpenLeft vs i → OpenLeft new (i + 1)
  open_more vs new i h e o left =
      ap (λ (ks : List ℕ). ks ++ open_of es (drop (i + 1) js)) e
      ∙ append_assoc vs (get_or js i 0 ∷ []) (open_of es (drop (i + 1) js))
      ∙ ap (λ (ks : List ℕ). vs ++ ks) (sym (by_open true i h o)) ∙ left

  pub open_less : (vs : List ℕ) (i : ℕ) → i < length js → is_open (entry_at es (get_or js i 0)) ≡ false
      → OpenLeft vs i → OpenLeft vs (i + 1)
  open_less vs i h o left = ap (λ (ks : List ℕ). vs ++ ks) (sym (by_open false i h o)) ∙ left

  pub open_ends : (vs : List ℕ) (i : ℕ) → length js ≤ i → OpenLeft vs i → vs ≡ open_of es js
  open_ends vs i h left =
      sym (append-nil vs) ∙ ap (λ (ks : List ℕ). vs ++ open_of es ks) (sym (drop_all i js h)) ∙ left

vacant_by : (e : Entry) → is_open e ≡ true → e ≡ entry.Missing
vacant_by entry.Missing h = refl
vacant_by (entry.Value v) h = absurd (cc)
vacant_by entry.Away h = absurd (cc)

each_open : (P : ℕ → Type 0) (es : List Entry) (js : List ℕ) → Each P js → Each P (open_of es js)
each_open P es [] h = tt
each_open P es (j ∷ js) h = by (is_open (entry_at es j)) (each_open P es js h.1)
  where
    by : (b : Bool) → Each P (open_of es js) → Each P (if b then j ∷ open_of es js else open_of es js)
    by true r = (h.0, r)
    by false r = r

all_vacant : (es : List Entry) (js : List ℕ) → Each (λ j. entry_at es j ≡ entry.Missing) (open_of es js)
all_vacant es [] = tt
all_vacant es (j ∷ js) = by (is_open (entry_at es j)) refl (all_vacant es js)
  where
    by : (b : Bool) → is_open (entry_at es j) ≡ b → Each (λ j. entry_at es j ≡ entry.Missing) (open_of es js)
        → Each (λ j. entry_at es j ≡ entry.Missing) (if b then j ∷ open_of es js else open_of es js)
    by true e r = (vacant_by (entry_at es j) e, r)
    by false e r = r

has_open : (es : List Entry) (js : List ℕ) (j : ℕ) → Has j js → is_open (entry_at es j) ≡ true → Has j (open_of es js)
has_open es [] j h o = absurd h
has_open es (i ∷ is) j (inl e) o = by (is_open (entry_at es i)) (ap (λ (k : ℕ). is_open (entry_at es k)) e ∙ o)
  where
    by : (b : Bool) → b ≡ true → Has j (if b then i ∷ open_of es is else open_of es is)
    by true q = inl e
    by false q = absurd (cc)
has_open es (i ∷ is) j (inr h) o = by (is_open (entry_at es i)) (has_open es is j h o)
  where
    by : (b : Bool) → Has j (open_of es is) → Has j (if b then i ∷ open_of es is else open_of es is)
    by true r = inr r
    by false r = r

-- those of the lines of a scope
pub open_lines : (t : Table) (l : Later) (f : ℕ) (js is : List ℕ) → AreLinesOf t f js
    → is ≡ open_of l.entries.items js → AreOpenLines t l f is
open_lines t l f js is lines e =
    subst (AreOpenLines t l f) (sym e) (record {
      own = each_open (IsOwnLine t f) l.entries.items js lines.own;
      vacant = all_vacant l.entries.items js;
      others = λ c h. by_line c (has_mapped (line_cell t) c js (subst (Has c) (sym lines.cells) h));
    })
  where
    by_entry : (c : Cell) (j : ℕ) → Has j js → line_cell t j ≡ c → (b : Bool)
        → is_open (entry_at l.entries.items j) ≡ b
        → Has c (cells_at t (open_of l.entries.items js))
        ⊎ ((j : ℕ) × (IsOwnLine t f j × ((line_cell t j ≡ c) × (is_open (entry_at l.entries.items j) ≡ false))))
    by_entry c j h q true o =
        inl (subst (λ (d : Cell). Has d (cells_at t (open_of l.entries.items js))) q
        (has_map (line_cell t) j (open_of l.entries.items js) (has_open l.entries.items js j h o)))
    by_entry c j h q false o = inr (j, (each_has (IsOwnLine t f) js j lines.own h, (q, o)))

    by_line : (c : Cell) → (j : ℕ) × (Has j js × (line_cell t j ≡ c))
        → Has c (cells_at t (open_of l.entries.items js))
        ⊎ ((j : ℕ) × (IsOwnLine t f j × ((line_cell t j ≡ c) × (is_open (entry_at l.entries.items j) ≡ false))))
    by_line c j = by_entry c j.0 j.1.0 j.1.1 (is_open (entry_at l.entries.items j.0)) refl

-- the lines are within
pub own_within : (t : Table) (l : Later) (f : ℕ) (js : List ℕ) → IsFit t l → AreOwnLines t f js
    → Each (λ j. j < length l.entries.items) js
own_within t l f js fit own =
    each_map (IsOwnLine t f) (λ j. j < length l.entries.items) js
    (λ j o. subst (λ (n : ℕ). j < n) (sym fit.entries) o.listed) own

-- ---- entries that are set

within_on : (js : List ℕ) (n m : ℕ) → m ≡ n → Each (λ j. j < n) js → Each (λ j. j < m) js
within_on js n m e h = subst (λ (k : ℕ). Each (λ j. j < k) js) (sym e) h

module _ (e : Entry) where
  pub length_all : (js : List ℕ) (es : List Entry) → length (set_all e js es) ≡ length es
  length_all [] es = refl
  length_all (j ∷ js) es = length_all js (slice_set es j e) ∙ length_set es j e

  set_here : (es : List Entry) (i : ℕ) → i < length es → entry_at (slice_set es i e) i ≡ e
  set_here [] i h = absurd (omega (arith, h))
  set_here (x ∷ es) zero h = refl
  set_here (x ∷ es) (suc i) h = set_here es i (omega (arith, h))

  entry_step : (x y z : Entry) (i j : ℕ) (js : List ℕ) → (Has i js × (x ≡ e)) ⊎ (x ≡ y)
      → ((i ≡ j) × (y ≡ e)) ⊎ (y ≡ z) → (Has i (j ∷ js) × (x ≡ e)) ⊎ (x ≡ z)
  entry_step x y z i j js (inl p) q = inl (inr p.0, p.1)
  entry_step x y z i j js (inr r) (inl p) = inl (inl (sym p.0), r ∙ p.1)
  entry_step x y z i j js (inr r) (inr p) = inr (r ∙ p)

  entry_all : (js : List ℕ) (es : List Entry) → Each (λ j. j < length es) js → (i : ℕ)
      → (Has i js × (entry_at (set_all e js es) i ≡ e)) ⊎ (entry_at (set_all e js es) i ≡ entry_at es i)
  entry_all [] es h i = inr refl
  entry_all (j ∷ js) es h i =
      entry_step (entry_at (set_all e js (slice_set es j e)) i) (entry_at (slice_set es j e) i) (entry_at es i) i j js
      (entry_all js (slice_set es j e) (within_on js (length es) _ (length_set es j e) h.1) i)
      (entry_set es i j e h.0)

  has_all : (js : List ℕ) (es : List Entry) → Each (λ j. j < length es) js → (i : ℕ) → Has i js
      → entry_at (set_all e js es) i ≡ e
  has_all [] es h i a = absurd a
  has_all (j ∷ js) es h i (inr a) =
      has_all js (slice_set es j e) (within_on js (length es) _ (length_set es j e) h.1) i a
  has_all (j ∷ js) es h i (inl a) =
      by_rest (entry_all js (slice_set es j e) (within_on js (length es) _ (length_set es j e) h.1) i)
    where
      by_rest : (Has i js × (entry_at (set_all e js (slice_set es j e)) i ≡ e))
          ⊎ (entry_at (set_all e js (slice_set es j e)) i ≡ entry_at (slice_set es j e) i)
          → entry_at (set_all e js (slice_set es j e)) i ≡ e
      by_rest (inl p) = p.1
      by_rest (inr q) =
          q ∙ subst (λ (k : ℕ). entry_at (slice_set es j e) k ≡ e) a (set_here es j h.0)

  -- one after another
  abbrev pub SetLeft : List ℕ → List Entry → List Entry → ℕ → Type 0
  SetLeft js es now i = set_all e (drop i js) now ≡ set_all e js es

  pub set_begins : (js : List ℕ) (es : List Entry) → SetLeft js es es 0
  set_begins js es = ap (λ (ks : List ℕ). set_all e ks es) (drop_zero js)

  pub set_more : (js : List ℕ) (es now new : List Entry) (i : ℕ) → i < length js
      → new ≡ slice_set now (get_or js i 0) e → SetLeft js es now i → SetLeft js es new (i + 1)
  set_more js es now new i h q left =
      ap (λ (xs : List Entry). set_all e (drop (i + 1) js) xs) q
      ∙ ap (λ (ks : List ℕ). set_all e ks now) (sym (drop_here js i h)) ∙ left

  pub set_ends : (js : List ℕ) (es now : List Entry) (i : ℕ) → length js ≤ i → SetLeft js es now i
      → now ≡ set_all e js es
  set_ends js es now i h left = ap (λ (ks : List ℕ). set_all e ks now) (sym (drop_all i js h)) ∙ left

same_entries : (es fs : List Entry) → length es ≡ length fs → ((i : ℕ) → entry_at es i ≡ entry_at fs i) → es ≡ fs
same_entries [] [] n h = refl
same_entries [] (f ∷ fs) n h = absurd (omega (arith, n))
same_entries (e ∷ es) [] n h = absurd (omega (arith, n))
same_entries (e ∷ es) (f ∷ fs) n h =
    ap (λ (x : Entry). x ∷ es) (h zero)
    ∙ ap (λ (xs : List Entry). f ∷ xs) (same_entries es fs (omega (arith, n)) (λ i. h (suc i)))

-- what was set is taken back
module _ (js : List ℕ) (es : List Entry) (h : Each (λ j. j < length es) js)
    (vacant : Each (λ j. entry_at es j ≡ entry.Missing) js) where
  abbrev away : List Entry
  away = set_all entry.Away js es

  away_within : Each (λ j. j < length away) js
  away_within = within_on js (length es) _ (length_all entry.Away js es) h

  abbrev back : ℕ → Entry
  back i = entry_at (set_all entry.Missing js away) i

  was_missing : (i : ℕ) → Has i js → back i ≡ entry_at es i
  was_missing i a =
      has_all entry.Missing js away away_within i a ∙ sym (each_has (λ j. entry_at es j ≡ entry.Missing) js i vacant a)

  by_set : (i : ℕ) → back i ≡ entry_at away i
      → (Has i js × (entry_at away i ≡ entry.Away)) ⊎ (entry_at away i ≡ entry_at es i) → back i ≡ entry_at es i
  by_set i q (inl p) = was_missing i p.0
  by_set i q (inr p) = q ∙ p

  by_back : (i : ℕ) → (Has i js × (back i ≡ entry.Missing)) ⊎ (back i ≡ entry_at away i) → back i ≡ entry_at es i
  by_back i (inl p) = was_missing i p.0
  by_back i (inr q) = by_set i q (entry_all entry.Away js es h i)

  pub taken_back : set_all entry.Missing js away ≡ es
  taken_back =
      same_entries (set_all entry.Missing js away) es
      (length_all entry.Missing js away ∙ length_all entry.Away js es)
      (λ i. by_back i (entry_all entry.Missing js away away_within i))

-- ---- what is known between

absent_known : (k : Known Json) (v : Json) → k ≡ absent → k ≡ known v → ⊥
absent_known k v e f = let no : absent ≡ known v = sym e ∙ f in cc

open_there : (e : Entry) → is_open e ≡ false → (x : State) → IsThere (known_by (Some (settled x e)))
open_there (entry.Value v) h x = settled_there x v
open_there entry.Away h x = absent_there x
open_there entry.Missing h x = absurd (cc)

module _ (t : Table) (l : Later) (f : ℕ) (ready : IsReady t) where
  abbrev rows_with : List Entry → List Row
  rows_with es = line_rows (scopes_of t) t.lines.items es

  -- what is known with other entries
  abbrev with_entries : List Entry → Cell → Known Json
  with_entries es c = known_by (status_of (map state_row l.states.items ++ rows_with es) c)

  known_step : (n o k : Known Json) (c d : Cell) (cs : List Cell) → (n ≡ o) ⊎ (Has c cs × (n ≡ absent))
      → (o ≡ k) ⊎ ((c ≡ d) × (o ≡ absent)) → (n ≡ k) ⊎ (Has c (d ∷ cs) × (n ≡ absent))
  known_step n o k c d cs (inl q) (inl p) = inl (q ∙ p)
  known_step n o k c d cs (inl q) (inr p) = inr (inl (sym p.0), q ∙ p.1)
  known_step n o k c d cs (inr p) q = inr (inr p.0, p.1)

  many : (js : List ℕ) (es : List Entry) → Each (λ j. j < length es) js → AreOwnLines t f js → (c : Cell)
      → (with_entries (set_all entry.Away js es) c ≡ with_entries es c)
      ⊎ (Has c (cells_at t js) × (with_entries (set_all entry.Away js es) c ≡ absent))
  many [] es h own c = inl refl
  many (j ∷ js) es h own c =
      known_step (with_entries (set_all entry.Away js (slice_set es j entry.Away)) c)
      (with_entries (slice_set es j entry.Away) c) (with_entries es c) c (line_cell t j) (cells_at t js)
      (many js (slice_set es j entry.Away) (within_on js (length es) _ (length_set es j entry.Away) h.1) own.1 c)
      (after_rows (line_cell t j) c (entry_of None) (map state_row l.states.items)
      (rows_with (slice_set es j entry.Away)) (rows_with es)
      (lines_more (scopes_of t) c entry.Away None refl t.lines.items es j h.0 own.0.listed
      (own_entry f (line_at t.lines.items j).spot own.0.is_own)))

  module _ (there : f < length t.frames.items) (fit : IsFit t l) (js : List ℕ) (are : AreOpenLines t l f js) (m : Later)
      (entries : m.entries.items ≡ set_all entry.Away js l.entries.items) (states : m.states.items ≡ l.states.items)
    where
      within : Each (λ j. j < length l.entries.items) js
      within = own_within t l f js fit are.own

      known_is : (c : Cell) → known_now t m c ≡ with_entries (set_all entry.Away js l.entries.items) c
      known_is c =
          ap (λ (ss : List StateAt). known_by (status_of (map state_row ss ++ rows_with m.entries.items) c)) states
          ∙ ap (λ (es : List Entry). with_entries es c) entries

      entry_now : (j : ℕ) → Has j js → entry_at m.entries.items j ≡ entry.Away
      entry_now j h =
          ap (λ (es : List Entry). entry_at es j) entries ∙ has_all entry.Away js l.entries.items within j h

      spot_at : (j : ℕ) → IsOwnLine t f j → IsEntrySpot (line_at t.lines.items j).spot
      spot_at j o = own_entry f (line_at t.lines.items j).spot o.is_own

      line_known : (k : Later) (j : ℕ) (e : Entry) → IsOwnLine t f j → entry_at k.entries.items j ≡ e
          → known_now t k (line_cell t j) ≡ known_by (Some (settled (state_at t j) e))
      line_known k j e o q =
          known_at t j ready o.listed (spot_at j o) k
          ∙ ap (λ (z : Entry). known_by (Some (settled (state_at t j) z))) q

      -- of a line without an entry
      line_stays : (j : ℕ) → Has j js → Stays (known_now t l (line_cell t j)) (known_now t m (line_cell t j))
      line_stays j h =
          let o = each_has (IsOwnLine t f) js j are.own h in
          subst (λ z. Stays z (known_now t m (line_cell t j)))
          (sym (line_known l j entry.Missing o
          (each_has (λ j. entry_at l.entries.items j ≡ entry.Missing) js j are.vacant h)))
          (subst (λ z. Stays (known_by (Some (settled (state_at t j) entry.Missing))) z)
          (sym (line_known m j entry.Away o (entry_now j h))) (settled_stays (state_at t j) entry.Away))

      abbrev Between : Cell → Type 0
      Between c = (known_now t m c ≡ known_now t l c)
          ⊎ (Has c (own_of t f) × ((known_now t l c ≡ missing) × (known_now t m c ≡ absent)))

      by_known : (c : Cell) → Has c (own_of t f) → known_now t m c ≡ absent → (k : Known Json) → known_now t l c ≡ k
          → Stays k (known_now t m c) → Between c
      by_known c own a (known v) e s = absurd (absent_known (known_now t m c) v a s)
      by_known c own a absent e s = inl (a ∙ sym e)
      by_known c own a missing e s = inr (own, (e, a))

      by_line : (c : Cell) → (j : ℕ) × (Has j js × (line_cell t j ≡ c)) → known_now t m c ≡ absent → Between c
      by_line c j a =
          by_known c
          (subst (λ (d : Cell). Has d (own_of t f)) j.1.1
          (own_line t f ready there j.0 (each_has (IsOwnLine t f) js j.0 are.own j.1.0))) a (known_now t l c) refl
          (subst (λ (d : Cell). Stays (known_now t l d) (known_now t m d)) j.1.1 (line_stays j.0 j.1.0))

      by_many : (c : Cell) → (with_entries (set_all entry.Away js l.entries.items) c ≡ with_entries l.entries.items c)
          ⊎ (Has c (cells_at t js) × (with_entries (set_all entry.Away js l.entries.items) c ≡ absent)) → Between c
      by_many c (inl q) = inl (known_is c ∙ q)
      by_many c (inr p) = by_line c (has_mapped (line_cell t) c js p.0) (known_is c ∙ p.1)

      between : (c : Cell) → Between c
      between c = by_many c (many js l.entries.items within are.own c)

      there_by : (c : Cell) → Between c → IsThere (known_now t l c) → IsThere (known_now t m c)
      there_by c (inl q) h = subst IsThere (sym q) h
      there_by c (inr p) h = subst IsThere (sym p.1.1) tt

      grows_by : (c : Cell) → Between c → Stays (known_now t l c) (known_now t m c)
      grows_by c (inl q) = subst (λ z. Stays (known_now t l c) z) (sym q) (stays (known_now t l c))
      grows_by c (inr p) = subst (λ z. Stays z (known_now t m c)) (sym p.1.0) tt

      grows : Grows (known_now t l) (known_now t m)
      grows c = grows_by c (between c)

      line_there : (c : Cell) → (j : ℕ) × (Has j js × (line_cell t j ≡ c)) → IsThere (known_now t m c)
      line_there c j =
          subst (λ (d : Cell). IsThere (known_now t m d)) j.1.1
          (subst IsThere
          (sym (line_known m j.0 entry.Away (each_has (IsOwnLine t f) js j.0 are.own j.1.0) (entry_now j.0 j.1.0)))
          (absent_there (state_at t j.0)))

      other_there : (c : Cell) → (j : ℕ) × (IsOwnLine t f j × ((line_cell t j ≡ c)
          × (is_open (entry_at l.entries.items j) ≡ false))) → IsThere (known_now t m c)
      other_there c j =
          there_by c (between c)
          (subst (λ (d : Cell). IsThere (known_now t l d)) j.1.1.0
          (subst IsThere (sym (line_known l j.0 (entry_at l.entries.items j.0) j.1.0 refl))
          (open_there (entry_at l.entries.items j.0) j.1.1.1 (state_at t j.0))))

      pub vacated : IsVacated t f l m
      vacated = record {
        cells = between;
        all = λ c h.
            elim (are.others c h) [
              | inl q ↦ line_there c (has_mapped (line_cell t) c js q)
              | inr q ↦ other_there c q
            ];
      }

      pub fit_between : m.places ≡ l.places → IsFit t m
      fit_between places = record {
        entries = ap length entries ∙ length_all entry.Away js l.entries.items ∙ fit.entries;
        indexed = indexed_on l m states places fit.indexed;
      }

      -- ---- what waits then

      never_by : (c : Cell) (e : Entry) → is_open e ≡ false → IsToldEntry t m c e → NeverWaits t m c
      never_by c (entry.Value v) o h d w = let no : value (Some (json v)) ≡ waits d = sym h ∙ w in cc
      never_by c entry.Away o h d w = let no : missing ≡ absent = sym (ap entry_told w) ∙ h in cc
      never_by c entry.Missing o h d w = absurd (cc)

      module _ (told : AreTold t l) where
        other_never : (c : Cell) → (j : ℕ) × (IsOwnLine t f j × ((line_cell t j ≡ c)
            × (is_open (entry_at l.entries.items j) ≡ false))) → NeverWaits t m c
        other_never c j =
            subst (NeverWaits t m) j.1.1.0
            (never_by (line_cell t j.0) (entry_at l.entries.items j.0) j.1.1.1
            (told_entry_on t l m (line_cell t j.0) (entry_at l.entries.items j.0) grows
            (told j.0 j.1.0.listed (spot_at j.0 j.1.0))))

        line_never : Each (λ j. NeverWaits t m (line_cell t j)) js → (c : Cell)
            → (j : ℕ) × (Has j js × (line_cell t j ≡ c)) → NeverWaits t m c
        line_never e c j =
            subst (NeverWaits t m) j.1.1 (each_has (λ j. NeverWaits t m (line_cell t j)) js j.0 e j.1.0)

        lack_is : (o : Option Lack) → AreLineLacks t m js o → IsLackOf t m f o
        lack_is None e =
            λ c h. elim (are.others c h) [
              | inl q ↦ line_never e c (has_mapped (line_cell t) c js q)
              | inr q ↦ other_never c q
            ]
        lack_is (Some e) j = (
          line_cell t j.0,
          (own_line t f ready there j.0 (each_has (IsOwnLine t f) js j.0 are.own j.1.0), j.1.1),
        )

        pub circle_lack : (o : Option Lack) → AreLineLacks t m js o → IsCircleLack t l f o
        circle_lack o h = (m, (vacated, lack_is o h))

-- ---- one line after another

pub value_lacks : (t : Table) (l : Later) (c : Cell) (v : Value) → IsAnswerNow t l c (answer.Value v)
    → IsLineLack t l c None
value_lacks t l c v h d w = let no : value (Some (json v)) ≡ waits d = sym h ∙ w in cc

pub empty_lacks : (t : Table) (l : Later) (c : Cell) → IsAnswerNow t l c answer.Empty → IsLineLack t l c None
empty_lacks t l c h d w = let no : missing ≡ absent = sym (ap entry_told w) ∙ h in cc

module _ (t : Table) (m : Later) (js : List ℕ) where
  -- none before this one waits
  abbrev pub NoneBefore : ℕ → Type 0
  NoneBefore i = (k : ℕ) → k < i → NeverWaits t m (line_cell t (get_or js k 0))

  pub none_begins : NoneBefore 0
  none_begins k h = absurd (omega (arith, h))

  none_next : (i : ℕ) (o : Option Lack) → IsLineLack t m (line_cell t (get_or js i 0)) o → o ≡ None
      → NeverWaits t m (line_cell t (get_or js i 0))
  none_next i None h e = h
  none_next i (Some x) h e = absurd (cc)

  pub none_more : (i : ℕ) (o : Option Lack) → IsLineLack t m (line_cell t (get_or js i 0)) o → o ≡ None → NoneBefore i
      → NoneBefore (i + 1)
  none_more i o h e before k b =
      elim (is_or_lt k i b) [
        | inl q ↦ subst (λ (n : ℕ). NeverWaits t m (line_cell t (get_or js n 0))) (sym q) (none_next i o h e)
        | inr q ↦ before k q
      ]

  pub none_ends : (i : ℕ) → length js ≤ i → NoneBefore i → Each (λ j. NeverWaits t m (line_cell t j)) js
  none_ends i h before =
      each_of (λ j. NeverWaits t m (line_cell t j)) js (λ k b. before k (omega (arith, b, h)))

  pub one_waits : (i : ℕ) (o : Option Lack) → i < length js → IsLineLack t m (line_cell t (get_or js i 0)) o
      → (o ≡ None → ⊥) → AreLineLacks t m js o
  one_waits i None h w n = absurd (n refl)
  one_waits i (Some e) h w n = (get_or js i 0, (has_at js i h, w))

-- ---- all steps

pub set_is : (e : Entry) (slice js : List ℕ) (es now : List Entry) → slice ≡ js → now ≡ set_all e slice es
    → now ≡ set_all e js es
set_is e slice js es now s h = h ∙ ap (λ (ks : List ℕ). set_all e ks es) s

pub still_within : (t : Table) (l : Later) (f : ℕ) (js slice : List ℕ) (now : List Entry) → IsFit t l
    → AreOwnLines t f js → now ≡ set_all entry.Away js l.entries.items → slice ≡ js → Each (λ j. j < length now) slice
still_within t l f js slice now fit own e s =
    subst (Each (λ j. j < length now)) (sym s)
    (within_on js (length l.entries.items) (length now) (ap length e ∙ length_all entry.Away js l.entries.items)
    (own_within t l f js fit own))

pub all_back : (t : Table) (l : Later) (f : ℕ) (js : List ℕ) (now last : List Entry) → IsFit t l
    → AreOpenLines t l f js → now ≡ set_all entry.Away js l.entries.items → last ≡ set_all entry.Missing js now
    → last ≡ l.entries.items
all_back t l f js now last fit are e g =
    g ∙ ap (λ (es : List Entry). set_all entry.Missing js es) e
    ∙ taken_back js l.entries.items (own_within t l f js fit are.own) are.vacant

pub lack_result : (t : Table) (l : Later) (f : ℕ) (ready : IsReady t) (there : f < length t.frames.items)
    (fit : IsFit t l) (js slice : List ℕ) (are : AreOpenLines t l f js) (m : Later)
    → m.entries.items ≡ set_all entry.Away js l.entries.items → m.states.items ≡ l.states.items → AreTold t l
    → slice ≡ js → (r : Result (Option Lack) AllocError) → IfOk r (AreLineLacks t m slice)
    → IfOk r (IsCircleLack t l f)
lack_result t l f ready there fit js slice are m entries states told s (Ok o) h =
    circle_lack t l f ready there fit js are m entries states told o
    (subst (λ (ks : List ℕ). AreLineLacks t m ks o) s h)
lack_result t l f ready there fit js slice are m entries states told s (Err e) h = tt
