-- A write of a status, with new rows after the others, where that is justified.
use Rattle.std.proofs.Common.{◌≡◌, ◌⊎◌, inl, inr, ℕ, zero, suc, ◌+◌, ◌-◌, ◌*◌, ◌<◌, ◌≤◌, ◌^◌, false, List, [], ◌∷◌}
use Rattle.std.proofs.Common.{◌++◌, map, length, Option, Some, None, refl, sym, ap, subst, ◌∙◌, arith, length-append}
use Rattle.std.proofs.lemmas.List.{length-map, length-set, get_or-set_same, get_or-set_other, append-nil}
use Rattle.std.proofs.Math.ListN.{get_or-append}
use Rattle.std.proofs.lemmas.Bool.{cases_eq}
use Rattle.reading.specs.Knowledge.{known, absent, missing, Told, value, waits, told, Grows}
use Rattle.reading.specs.Knowledge.{IsToldStill, Means}
use Rattle.reading.proofs.Completion.{told_means}
use Rattle.reading.proofs.Growth.{told_still}
use Rattle.plan_cells.specs.Guarded.{Reads}
use Rattle.plan_cells.specs.Known.{Table, entry_told}
use Rattle.plan_cells.specs.Meaning.{Deployment, meaning}
use Rattle.arm_value.specs.Json.{Json}
use Rattle.arm_ids.specs.declared.id.ResourceId.{ResourceId}
use Rattle.plan_cells.specs.Cells.{Cell, state, parent, deployments}
use Rattle.plan_cells.specs.Same.{same}
use Rattle.plan_cells.specs.Children.{children, Has, AreApart}
use Rattle.plan_cells.proofs.SameLemmas.{cell_is}
use Rattle.plan_cells.proofs.ChildLemmas.{child_is, root_is}
use Rattle.plan_cells.proofs.ApartLemmas.{children_apart}
use Rattle.plan_filling.specs.Rows.{Status, New, Open, Value, Empty, Late}
use Rattle.plan_filling.specs.Rows.{Row, fresh, row_at, with_status, status_of, table, weight, weights, AreDistinct}
use Rattle.plan_filling.specs.Rows.{IsUnfinished, IsFinished}
use Rattle.plan_filling.specs.Rows.{known_by, stage_of, IsWaiting}
use Rattle.plan_filling.specs.Sound.{IsOpenedBy, Sound}
use Rattle.plan_filling.specs.Steps.{Keeps, Changes, Touched, Justified, Advanced, WaitsFor, IsDone}
use Rattle.plan_filling.specs.Steps.{IsFirst, IsStuck}
use Rattle.plan_filling.specs.declared.sheet.Stage.TheVariants as stage
use Rattle.plan_filling.proofs.RowLemmas.{by_same, status_found, status_set_same, status_set_other, distinct_set}
use Rattle.plan_filling.proofs.RowLemmas.{joined_some, joined_none, distinct_joined, fresh_has, fresh_only}
use Rattle.plan_filling.proofs.RowLemmas.{distinct_fresh, weights_set, weights_joined, weights_less}
use Rattle.plan_filling.proofs.StepLemmas.{good_after, grows, never_both}

get_second : (xs ys : List Row) (k : ℕ) → row_at (xs ++ ys) (length xs + k) ≡ row_at ys k
get_second [] ys k = ap (row_at ys) (let e : 0 + k ≡ k = omega arith in e)
get_second (x ∷ xs) ys k =
    ap (row_at (x ∷ (xs ++ ys))) (let e : suc (length xs) + k ≡ suc (length xs + k) = omega arith in e)
    ∙ get_second xs ys k

fresh_row : (cs : List Cell) (k : ℕ) → k < length cs → (row_at (map fresh cs) k).status ≡ New
fresh_row [] k h = absurd (omega arith)
fresh_row (c ∷ cs) zero h = refl
fresh_row (c ∷ cs) (suc k) h = fresh_row cs k (omega (arith, h))

module _ (t : Deployment) (rows : List Row) (i : ℕ) (s : Status) (cs : List Cell) (sound : Sound t rows)
    (h : i < length rows) (open0 : IsUnfinished (row_at rows i).status)
    (new : (d : Cell) → Has d cs → status_of rows d ≡ None) (apart : AreApart cs) where
  abbrev c : Cell
  c = (row_at rows i).cell

  abbrev written : List Row
  written = with_status rows i s

  abbrev after : List Row
  after = written ++ map fresh cs

  found : status_of rows c ≡ Some (row_at rows i).status
  found = status_found rows i sound.distinct h

  differ : (d : Cell) → (c ≡ d → ⊥) → same c d ≡ false
  differ d n = elim (by_same c d) [ inl e ↦ absurd (n (cell_is c d e)) | inr e ↦ e ]

  written_other : (d : Cell) → (c ≡ d → ⊥) → status_of written d ≡ status_of rows d
  written_other d n = status_set_other rows i s d (differ d n) h

  not_new : (d : Cell) → Has d cs → c ≡ d → ⊥
  not_new d x e =
      let none : status_of rows d ≡ None = new d x in
      let some : status_of rows d ≡ Some (row_at rows i).status = subst
      (λ (y : Cell). status_of rows y ≡ Some (row_at rows i).status) e found in cc

  written_new : (d : Cell) → Has d cs → status_of written d ≡ None
  written_new d x = written_other d (not_new d x) ∙ new d x

  origin_by : (d : Cell) (u : Status) → status_of after d ≡ Some u → (o : Option Status) → status_of written d ≡ o
      → ((d ≡ c) × (u ≡ s)) ⊎ ((status_of rows d ≡ Some u) ⊎ (Has d cs × (u ≡ New)))
  origin_by d u e None f = inr (inr (fresh_only cs d u (sym (joined_none written (map fresh cs) d f) ∙ e)))
  origin_by d u e (Some v) f =
      let g : status_of after d ≡ Some v = joined_some written (map fresh cs) d v f in
      let is : v ≡ u = cc in
      elim (by_same c d) [
        | inl x ↦ (let at : c ≡ d = cell_is c d x in
            let w : status_of written d ≡ Some s = subst (λ (y : Cell). status_of written y ≡ Some s) at
            (status_set_same rows i s sound.distinct h) in
            let same_s : u ≡ s = cc in inl (sym at, same_s))
        | inr x ↦ inr (inl (sym (status_set_other rows i s d x h) ∙ f ∙ ap Some is))
      ]

  changes : Changes (status_of rows) (status_of after) c s cs
  changes = record {
    old = (row_at rows i).status;
    was = found;
    unfinished = open0;
    is = joined_some written (map fresh cs) c s (status_set_same rows i s sound.distinct h);
    others = λ d u e n. joined_some written (map fresh cs) d u (written_other d n ∙ e);
    added = λ d x. joined_none written (map fresh cs) d (written_new d x) ∙ fresh_has cs d x;
    origin = λ d u e. origin_by d u e (status_of written d) refl;
  }

  distinct_after : AreDistinct after
  distinct_after =
      distinct_joined written (map fresh cs) (distinct_set rows i s sound.distinct) (distinct_fresh cs apart)
      (λ d u e. written_new d (fresh_only cs d u e).0)

  length_after : length after ≡ length rows + length cs
  length_after =
      length-append written (map fresh cs)
      ∙ omega (arith, length-set rows i (record { cell = c; status = s }), length-map cs fresh)

  other_row : (j : ℕ) → j < length rows → (j ≡ i → ⊥) → row_at after j ≡ row_at rows j
  other_row j l n =
      let inside : j < length written = omega (arith, l, length-set rows i (record { cell = c; status = s })) in
      get_or-append written (map fresh cs) (fresh (deployments [])) j inside
      ∙ get_or-set_other rows i j (record { cell = c; status = s }) (fresh (deployments [])) n

  keeps_row : (j : ℕ) → j < length rows → IsFinished (row_at rows j).status → row_at after j ≡ row_at rows j
  keeps_row j l f =
      other_row j l (λ e. never_both (row_at rows i).status open0
      (subst (λ (x : ℕ). IsFinished (row_at rows x).status) e f))

  added_row : (j : ℕ) → length rows ≤ j → j < length after → (row_at after j).status ≡ New
  added_row j l m =
      let e : length written ≡ length rows = length-set rows i (record { cell = c; status = s }) in
      let k : ℕ = j - length written in
      let f : j ≡ length written + k = omega (arith, l, e) in
      let g : k < length cs = omega (arith, m, length_after, f, e) in
      ap (λ (x : ℕ). (row_at after x).status) f
      ∙ ap (λ (r : Row). r.status) (get_second written (map fresh cs) k)
      ∙ fresh_row cs k g

  keeps_after : Keeps rows after
  keeps_after = record { longer = omega (arith, length_after); finished = keeps_row }

  weights_after : weights after + weight (row_at rows i).status ≡ weights rows + weight s
  weights_after =
      let a : weights after ≡ weights written = weights_joined written cs in
      let b : weights written + weight (row_at rows i).status ≡ weights rows + weight s = weights_set rows i s h in
      omega arith

  row_after : row_at after i ≡ record { cell = c; status = s }
  row_after =
      let inside : i < length written = omega (arith, h, length-set rows i (record { cell = c; status = s })) in
      get_or-append written (map fresh cs) (fresh (deployments [])) i inside
      ∙ get_or-set_same rows i (record { cell = c; status = s }) (fresh (deployments [])) h

  pub sound_after : Justified t (status_of rows) c s cs → length after ≤ 2 ^ 32 → Sound t after
  sound_after why few = record {
    good = good_after t (status_of rows) (status_of after) c s cs sound.good changes why;
    distinct = distinct_after;
    few = few;
    names_differ = sound.names_differ;
  }

  pub grows_after : Justified t (status_of rows) c s cs → Grows (table (status_of rows)) (table (status_of after))
  grows_after why = grows t (status_of rows) (status_of after) c s cs sound.good changes why

  pub touched_after : Touched rows after i s
  touched_after = record {
    longer = omega (arith, length_after);
    there = row_after;
    others = other_row;
    added = added_row;
  }

  pub facts_after : Keeps rows after × (weights after + weight (row_at rows i).status ≡ weights rows + weight s)
      × Touched rows after i s
  facts_after = (keeps_after, weights_after, touched_after)

-- what a value opens was not listed
children_new : (t : Deployment) (rows : List Row) (i : ℕ) (v : Json) → Sound t rows → i < length rows
    → IsUnfinished (row_at rows i).status
    → (d : Cell) → Has d (children t (row_at rows i).cell v) → status_of rows d ≡ None
children_new t rows i v sound h open0 d x = by_status (status_of rows d) refl
  where
    is_parent : parent d ≡ Some (row_at rows i).cell
    is_parent = (child_is t (row_at rows i).cell v d x).has_parent

    opened : IsOpenedBy t (status_of rows) d → ⊥
    opened o =
        let p : parent d ≡ Some o.0 = (child_is t o.0 o.1.0 d o.1.1.1).has_parent in
        let at : o.0 ≡ (row_at rows i).cell = cc is_parent in
        let f : status_of rows (row_at rows i).cell ≡ Some
        (row_at rows i).status = status_found rows i sound.distinct h in
        let g : status_of rows (row_at rows i).cell ≡ Some (Value o.1.0) = subst
        (λ (y : Cell). status_of rows y ≡ Some (Value o.1.0)) at o.1.1.0 in
        let is : (row_at rows i).status ≡ Value o.1.0 = cc in
        subst IsUnfinished is open0

    by_status : (o : Option Status) → status_of rows d ≡ o → status_of rows d ≡ None
    by_status None e = e
    by_status (Some u) e =
        elim (sound.good.is_there d u e) [
          | inl r ↦ (let p : parent d ≡ None = (root_is t d r).0 in cc is_parent)
          | inr o ↦ absurd (opened o)
        ]

weight_two : (s : Status) → IsFinished s → weight s ≡ 2
weight_two New f = absurd f
weight_two Open f = absurd f
weight_two (Value v) f = refl
weight_two Empty f = refl
weight_two (Late k) f = refl

weight_below : (u : Status) → IsUnfinished u → weight u < 2
weight_below New o = omega arith
weight_below Open o = omega arith
weight_below (Value w) o = absurd o
weight_below Empty o = absurd o
weight_below (Late k) o = absurd o

before_of : (t : Deployment) (rows : List Row) (i : ℕ) → Sound t rows → i < length rows
    → IsUnfinished (row_at rows i).status → weights rows < 2 ^ 33
before_of t rows i sound h o =
    let less : weights rows < 2 * length rows = weights_less rows i h o in
    let few : length rows ≤ 2 ^ 32 = sound.few in omega arith

module _ (t : Deployment) (rows : List Row) (i : ℕ) (v : Json) (sound : Sound t rows) (h : i < length rows)
    (open0 : IsUnfinished (row_at rows i).status) where
  abbrev opened_cells : List Cell
  opened_cells = children t (row_at rows i).cell v

  abbrev filled_rows : List Row
  filled_rows = with_status rows i (Value v) ++ map fresh opened_cells

  not_listed : (d : Cell) → Has d opened_cells → status_of rows d ≡ None
  not_listed = children_new t rows i v sound h open0

  apart : AreApart opened_cells
  apart = children_apart t sound.names_differ (row_at rows i).cell v

  facts : Keeps rows filled_rows × (weights filled_rows + weight (row_at rows i).status
      ≡ weights rows + weight (Value v))
      × Touched rows filled_rows i (Value v)
  facts = facts_after t rows i (Value v) opened_cells sound h open0 not_listed apart

  advanced_value : (new : List Row) → told (table (status_of rows)) (meaning t (row_at rows i).cell) ≡ value (Some v)
      → new ≡ filled_rows → length new ≤ 2 ^ 32 → Advanced t rows new i (Value v)
  advanced_value new w e few =
      subst (λ (xs : List Row). Advanced t rows xs i (Value v)) (sym e) (record {
        sound = sound_after t rows i (Value v) opened_cells sound h open0 not_listed apart (w, refl)
            (subst (λ (xs : List Row). length xs ≤ 2 ^ 32) e few);
        keeps = facts.0;
        touched = facts.2;
        grows = grows_after t rows i (Value v) opened_cells sound h open0 not_listed apart (w, refl);
        more = (let m : weight (row_at rows i).status < 2 = weight_below (row_at rows i).status open0 in
            let f : weights filled_rows + weight (row_at rows i).status
            ≡ weights rows + 2 = facts.1 in omega (arith, m, f));
        before = before_of t rows i sound h open0;
      })

  pub done_value : (new : List Row) → told (table (status_of rows)) (meaning t (row_at rows i).cell) ≡ value (Some v)
      → new ≡ filled_rows → length new ≤ 2 ^ 32 → IsDone t rows new i
  done_value new w e few =
      record { status = Value v; is_finished = tt; advanced = advanced_value new w e few }

-- a status without new rows
module _ (t : Deployment) (rows : List Row) (i : ℕ) (s : Status) (sound : Sound t rows) (h : i < length rows)
    (open0 : IsUnfinished (row_at rows i).status) (why : Justified t (status_of rows) (row_at rows i).cell s []) where
  no_new : (d : Cell) → Has d [] → status_of rows d ≡ None
  no_new d x = absurd x

  few_written : length (with_status rows i s ++ map fresh []) ≤ 2 ^ 32
  few_written =
      let few : length rows ≤ 2 ^ 32 = sound.few in
      subst (λ (xs : List Row). length xs ≤ 2 ^ 32) (sym (append-nil (with_status rows i s)))
      (omega (arith, length-set rows i (record { cell = (row_at rows i).cell; status = s })))

  abbrev Facts : List Row → Type 0
  Facts xs = Keeps rows xs × (weights xs + weight (row_at rows i).status ≡ weights rows + weight s)
      × Touched rows xs i s

  facts_written : Facts (with_status rows i s)
  facts_written = subst Facts (append-nil (with_status rows i s)) (facts_after t rows i s [] sound h open0 no_new tt)

  pub advanced_by : (new : List Row) → weight (row_at rows i).status < weight s → new ≡ with_status rows i s
      → Advanced t rows new i s
  advanced_by new m e =
      subst (λ (xs : List Row). Advanced t rows xs i s) (sym e) (record {
        sound = subst (λ (xs : List Row). Sound t xs) (append-nil (with_status rows i s))
            (sound_after t rows i s [] sound h open0 no_new tt why few_written);
        keeps = facts_written.0;
        touched = facts_written.2;
        grows = subst (λ (xs : List Row). Grows (table (status_of rows)) (table (status_of xs)))
            (append-nil (with_status rows i s)) (grows_after t rows i s [] sound h open0 no_new tt why);
        more = (let f : weights (with_status rows i s) + weight (row_at rows i).status ≡ weights rows + weight s
            = facts_written.1 in omega (arith, m, f));
        before = before_of t rows i sound h open0;
      })

  pub done_by : IsFinished s → (new : List Row) → new ≡ with_status rows i s → IsDone t rows new i
  done_by f new e =
      let a : weight (row_at rows i).status < 2 = weight_below (row_at rows i).status open0 in
      let b : weight s ≡ 2 = weight_two s f in
      record { status = s; is_finished = f; advanced = advanced_by new (omega (arith, a, b)) e }

pub done_empty : (t : Deployment) (rows new : List Row) (i : ℕ) → Sound t rows → i < length rows
    → IsUnfinished (row_at rows i).status
    → entry_told (told (table (status_of rows)) (meaning t (row_at rows i).cell)) ≡ absent
    → new ≡ with_status rows i Empty → IsDone t rows new i
done_empty t rows new i sound h open0 w e = done_by t rows i Empty sound h open0 (w, refl) tt new e

pub done_state : (t : Deployment) (rows new : List Row) (i : ℕ) (k : ResourceId) → Sound t rows → i < length rows
    → IsUnfinished (row_at rows i).status
    → told (table (status_of rows)) (meaning t (row_at rows i).cell) ≡ waits (state k)
    → new ≡ with_status rows i (Late k) → IsDone t rows new i
done_state t rows new i k sound h open0 w e = done_by t rows i (Late k) sound h open0 (inl w, refl) tt new e

-- a late cell that another waits for
late_as : (t : Deployment) (rows new : List Row) (i j : ℕ) → Sound t rows → i < length rows
    → IsUnfinished (row_at rows i).status → j < length rows → WaitsFor t rows i j → (u : Status)
    → (row_at rows j).status ≡ u → IsWaiting u → new ≡ with_status rows i u → IsDone t rows new i
late_as t rows new i j sound h open0 l w (Late k) u b e =
    done_by t rows i (Late k) sound h open0 (
      inr (
        (row_at rows j).cell,
        (
          w,
          sound.good.late (row_at rows j).cell k
              (status_found rows j sound.distinct l ∙ ap Some u),
        ),
      ),
      refl,
    ) tt new e
late_as t rows new i j sound h open0 l w New u b e = absurd b
late_as t rows new i j sound h open0 l w Open u b e = absurd b
late_as t rows new i j sound h open0 l w (Value v) u b e = absurd b
late_as t rows new i j sound h open0 l w Empty u b e = absurd b

pub done_late : (t : Deployment) (rows new : List Row) (i j : ℕ) → Sound t rows → i < length rows
    → IsUnfinished (row_at rows i).status → j < length rows → WaitsFor t rows i j → IsWaiting (row_at rows j).status
    → new ≡ with_status rows i (row_at rows j).status → IsDone t rows new i
done_late t rows new i j sound h open0 l w b e =
    late_as t rows new i j sound h open0 l w (row_at rows j).status refl b e

-- a cell is begun
pub opened : (t : Deployment) (rows new : List Row) (j : ℕ) → Sound t rows → j < length rows
    → (row_at rows j).status ≡ New → new ≡ with_status rows j Open → Advanced t rows new j Open
opened t rows new j sound l u e =
    let none : weight (row_at rows j).status ≡ 0 = ap weight u in
    advanced_by t rows j Open sound l (subst IsUnfinished (sym u) tt) refl new (omega (arith, none)) e

-- what is known of a cell that is begun
open_missing : (t : Deployment) (rows : List Row) (j : ℕ) → Sound t rows → j < length rows
    → (row_at rows j).status ≡ Open → table (status_of rows) (row_at rows j).cell ≡ missing
open_missing t rows j sound l u =
    ap known_by (status_found rows j sound.distinct l ∙ ap (λ s. Some s) u)

same_cell_by : (old new : List Row) (i : ℕ) (s : Status) → Touched old new i s → (a : ℕ) → a < length old
    → (a ≡ i) ⊎ (a ≡ i → ⊥) → (row_at new a).cell ≡ (row_at old a).cell
same_cell_by old new i s d a l (inl e) =
    subst (λ (x : ℕ). (row_at new x).cell ≡ (row_at old x).cell) (sym e) (ap (λ (r : Row). r.cell) d.there)
same_cell_by old new i s d a l (inr n) = ap (λ (r : Row). r.cell) (d.others a l n)

pub same_cell : (old new : List Row) (i : ℕ) (s : Status) → Touched old new i s → (a : ℕ) → a < length old
    → (row_at new a).cell ≡ (row_at old a).cell
same_cell old new i s d a l = same_cell_by old new i s d a l (cases_eq a i)

-- what waited for a cell that is still begun waits for it
pub waits_on : (t : Deployment) (old new : List Row) (i : ℕ) (s : Status) → Advanced t old new i s → (a j : ℕ)
    → a < length old → j < length old → (row_at new j).status ≡ Open → WaitsFor t old a j → WaitsFor t new a j
waits_on t old new i s v a j l m u w =
    let ca : (row_at new a).cell ≡ (row_at old a).cell = same_cell old new i s v.touched a l in
    let cj : (row_at new j).cell ≡ (row_at old j).cell = same_cell old new i s v.touched j m in
    let n : j < length new = (let g : length old ≤ length new = v.touched.longer in omega (arith, m, g)) in
    let f : IsToldStill (table (status_of new)) (meaning t (row_at old a).cell) (waits (row_at old j).cell)
    = subst (λ (r : Told Cell (Option Json)). IsToldStill (table (status_of new))
    (meaning t (row_at old a).cell) r) w
    (told_still Cell Json (Option Json) (table (status_of old)) (table (status_of new)) v.grows
    (meaning t (row_at old a).cell)) in
    ap (λ (c : Cell). told (table (status_of new)) (meaning t c)) ca
    ∙ f (ap (λ (c : Cell). table (status_of new) c) (sym cj) ∙ open_missing t new j v.sound n u)
    ∙ ap (λ (c : Cell). waits c) (sym cj)

-- the cell that waits, and the one that is begun for it
pub first_of : (t : Deployment) (rows new : List Row) (i j : ℕ) → Sound t rows → i < length rows → j < length rows
    → (row_at rows j).status ≡ New → WaitsFor t rows i j → new ≡ with_status rows j Open → IsFirst t rows new i j
first_of t rows new i j sound h l u w e =
    let v = opened t rows new j sound l u e in record {
      listed = l;
      was_new = u;
      advanced = v;
      waits_for = waits_on t rows new j Open v i j h l (ap (λ (r : Row). r.status) v.touched.there) w;
    }

-- what is waited for is missing
awaited_missing : (q : Table) (r : Reads (Option Json)) (c : Cell) → told q r ≡ waits c → q c ≡ missing
awaited_missing q r c e =
    let m : Means q r (waits c) = subst (λ (x : Told Cell (Option Json)). Means q r x) e
    (told_means Cell Json (Option Json) q r)
    in m.is_missing

finished_there : (t : Deployment) (rows : List Row) (j : ℕ) → Sound t rows → j < length rows → (s : Status)
    → (row_at rows j).status ≡ s → stage_of s ≡ stage.Finished
    → table (status_of rows) (row_at rows j).cell ≡ missing → ⊥
finished_there t rows j sound l (Value v) u e m =
    let f : table (status_of rows) (row_at rows j).cell ≡ known v
    = ap known_by (status_found rows j sound.distinct l ∙ ap (λ s. Some s) u) in
    let g : known v ≡ missing = sym f ∙ m in cc
finished_there t rows j sound l Empty u e m =
    let f : table (status_of rows) (row_at rows j).cell ≡ absent
    = ap known_by (status_found rows j sound.distinct l ∙ ap (λ s. Some s) u) in
    let g : absent ≡ missing = sym f ∙ m in cc
finished_there t rows j sound l New u e m = cc
finished_there t rows j sound l Open u e m = cc
finished_there t rows j sound l (Late k) u e m = cc

-- no cell waits for one that has a value or none
pub not_finished : (t : Deployment) (rows : List Row) (i j : ℕ) → Sound t rows → j < length rows → WaitsFor t rows i j
    → stage_of (row_at rows j).status ≡ stage.Finished → ⊥
not_finished t rows i j sound l w e =
    finished_there t rows j sound l (row_at rows j).status refl e
    (awaited_missing (table (status_of rows)) (meaning t (row_at rows i).cell) (row_at rows j).cell w)

by_new_stage : (s : Status) → stage_of s ≡ stage.New → s ≡ New
by_new_stage New e = refl
by_new_stage Open e = cc
by_new_stage (Value v) e = cc
by_new_stage Empty e = cc
by_new_stage (Late k) e = cc

by_open_stage : (s : Status) → stage_of s ≡ stage.Open → s ≡ Open
by_open_stage Open e = refl
by_open_stage New e = cc
by_open_stage (Value v) e = cc
by_open_stage Empty e = cc
by_open_stage (Late k) e = cc

by_late_stage : (s : Status) → stage_of s ≡ stage.Late → IsWaiting s
by_late_stage (Late k) e = tt
by_late_stage New e = cc
by_late_stage Open e = cc
by_late_stage (Value v) e = cc
by_late_stage Empty e = cc

pub is_new : (rows : List Row) (j : ℕ) → stage_of (row_at rows j).status ≡ stage.New → (row_at rows j).status ≡ New
is_new rows j e = by_new_stage (row_at rows j).status e

pub is_open : (rows : List Row) (j : ℕ) → stage_of (row_at rows j).status ≡ stage.Open → (row_at rows j).status ≡ Open
is_open rows j e = by_open_stage (row_at rows j).status e

pub is_late : (rows : List Row) (j : ℕ) → stage_of (row_at rows j).status ≡ stage.Late
    → IsWaiting (row_at rows j).status
is_late rows j e = by_late_stage (row_at rows j).status e

pub stuck_at : (t : Deployment) (rows : List Row) (i j : ℕ) → j < length rows → WaitsFor t rows i j
    → (row_at rows j).status ≡ Open → IsStuck t rows rows i j
stuck_at t rows i j l w u = record { same = refl; listed = l; was_open = u; waits_for = w }
