-- No limit is exceeded by what is known at a start whose table counts its instances.
use Rattle.std.proofs.Common.{◌≡◌, inl, inr, ℕ, suc, ◌+◌, ◌<◌, ◌≤◌, Bool, true, false, List, [], ◌∷◌, length}
use Rattle.std.proofs.Common.{Some, refl, sym, ap, subst, ◌∙◌, arith}
use Rattle.std.specs.Prelude.{nat_eq, if◌then◌else◌}
use Rattle.std.proofs.lemmas.Option.{none-some}
use Rattle.std.proofs.lemmas.Bool.{cases_eq}
use Rattle.foundation.proofs.Comparisons.{eq_itself}
use Rattle.arm_value.specs.Json.{Json}
use Rattle.reading.specs.Knowledge.{known_value}
use Rattle.template_parts.specs.declared.limit.Which.{Which}
use Rattle.template_parts.specs.declared.limit.Which.TheVariants.{Count as count_limit, Resources, Instances}
use Rattle.deploy_cells.specs.Cells.{Position, Cell, count, deployments, copies}
use Rattle.deploy_cells.specs.Same.{same_position}
use Rattle.deploy_cells.proofs.SameLemmas.{cell_is, cell_same}
use Rattle.plan_cells.specs.Known.{entry_told}
use Rattle.plan_cells.specs.Meaning.{Deployment, meaning}
use Rattle.plan_cells.specs.Start.{IsStart, start}
use Rattle.plan_cells.proofs.KnownLemmas.{has_known}
use Rattle.plan_filling.specs.Rows.{Status, New, Open, Value, Empty, Late, Row, row_at, status_of, table, IsUnfinished}
use Rattle.plan_filling.specs.Limits.{Scopes, everywhere, listed_by, instances_in, tally_of, IsBeyond, IsOverrun}
use Rattle.plan_filling.proofs.RowLemmas.{by_same, found_later}
use Rattle.plan_table.specs.declared.line.Spot.{Spot}
use Rattle.plan_table.specs.declared.line.Spot.TheVariants as spot
use Rattle.plan_table.specs.declared.table.Table.{Table}
use Rattle.plan_table.specs.Counted.{IsCounted, numbers_of, number_at, listed_in, any_scope}
use Rattle.plan_table.specs.Lines.{cell_of, line_at, frame_of}
use Rattle.plan_table.specs.Opened.{Opened, opened_at}
use Rattle.plan_table.specs.Whole.{whole_of, scopes_of, rows_in}
use Rattle.plan_table.proofs.HaltLemmas.{rows_list, one_scope}
use Rattle.plan_table.proofs.CountLemmas.{other_number}
use Rattle.plan_table.proofs.LaidLemmas.{row_here, length_rows}
use Rattle.plan_tasks.specs.Start.{start_of, IsStartTable}
use Rattle.lack_faults.proofs.RowLemmas.{known_rows}
use Rattle.fault_exactness.proofs.GrowLemmas.{told_too}
use Rattle.fault_exactness.proofs.EmptyLemmas.{valued, closed}
use Rattle.fault_exactness.proofs.SumLemmas.{fewer_with, all_in}

-- ---- the line of a count

record IsRow (rows : List Row) (c : Cell) : Type 0 where
  pub at : ℕ
  pub listed : at < length rows
  pub is : (row_at rows at).cell ≡ c

row_of_status : (rows : List Row) (c : Cell) (s : Status) → status_of rows c ≡ Some s → IsRow rows c
row_of_status [] c s e = absurd (none-some s e)
row_of_status (r ∷ rs) c s e =
    elim (by_same r.cell c) [
      | inl g ↦ record { at = 0; listed = omega arith; is = cell_is r.cell c g }
      | inr g ↦ (let more = row_of_status rs c s (sym (found_later r rs c g) ∙ e) in
          record { at = suc more.at; listed = omega (arith, more.listed); is = more.is })
    ]

scope_of : Cell → Position
scope_of (deployments p) = p
scope_of _ = []

record IsCount (os : List Opened) (s : Spot) (p : Position) : Type 0 where
  pub scope : ℕ
  pub resource : ℕ
  pub is : s ≡ spot.Count scope resource
  pub at : (opened_at os scope).position ≡ p

position_of : Cell → Position
position_of (count p r) = p
position_of _ = []

count_spot : (os : List Opened) (s : Spot) (p : Position) (r : ℕ) → cell_of os s ≡ count p r → IsCount os s p
unfolding position_of
count_spot os (spot.Count f n) p r e = record { scope = f; resource = n; is = refl; at = ap position_of e }
count_spot os (spot.Parameter f n) p r e = absurd (cc)
count_spot os (spot.Variable f n) p r e = absurd (cc)
count_spot os (spot.Offered f n) p r e = absurd (cc)
count_spot os (spot.Output f n) p r e = absurd (cc)
count_spot os (spot.Included f n i) p r e = absurd (cc)
count_spot os (spot.Name f n i) p r e = absurd (cc)
count_spot os (spot.Deployments f) p r e = absurd (cc)

record Bounds (rows : List Row) (p : Position) : Type 0 where
  pub of_scope : instances_in (same_position p) rows ≤ 800
  pub of_all : instances_in everywhere rows ≤ 2000

-- ---- sheets

unfinished_lists : (f : Scopes) (s : Status) (c : Cell) → IsUnfinished s → listed_by f s c ≡ 0
unfinished_lists f New c u = refl
unfinished_lists f Open c u = refl
unfinished_lists f (Value v) c u = absurd u
unfinished_lists f Empty c u = absurd u
unfinished_lists f (Late k) c u = absurd u

module _ (t : Table) (start_table : IsStartTable t) (counted : IsCounted t)
    (is_start : IsStart (whole_of t) (start_of t)) where
  abbrev d : Deployment
  d = whole_of t

  abbrev rows : List Row
  rows = rows_in t

  abbrev os : List Opened
  os = scopes_of t

  abbrev at_scope : ℕ → Position
  at_scope f = (opened_at os f).position

  differ : (f g : ℕ) → f < length os → g < length os → (b : Bool) → same_position (at_scope f) (at_scope g) ≡ b
      → (f ≡ g → ⊥) → same_position (at_scope f) (at_scope g) ≡ false
  unfolding scope_of
  differ f g h k false e n = e
  differ f g h k true e n =
      absurd (n (one_scope d os t.index t.lines.items start_table.laid start_table.filled.sound.distinct f g h k
      (ap scope_of (cell_is (deployments (at_scope f)) (deployments (at_scope g)) e))))

  by_number : (f g : ℕ) → f < length os → g < length os → same_position (at_scope f) (at_scope g) ≡ nat_eq f g
  by_number f g h k =
      elim (cases_eq f g) [
        | inl e ↦ ap (λ i. same_position (at_scope f) (at_scope i)) (sym e) ∙ cell_same (deployments (at_scope f))
            ∙ sym (eq_itself f) ∙ ap (nat_eq f) e
        | inr n ↦ differ f g h k (same_position (at_scope f) (at_scope g)) refl n ∙ sym (other_number f g n)
      ]

  scope_lists : (f : ℕ) → f < length os
      → instances_in (same_position (at_scope f)) rows ≡ listed_in (nat_eq f) t.lines.items
  scope_lists f h =
      rows_list os t.lines.items (same_position (at_scope f)) (nat_eq f)
      (λ j k. by_number f (frame_of (line_at t.lines.items j).spot) h (start_table.laid.placed j k).there)

  all_list : instances_in everywhere rows ≡ listed_in any_scope t.lines.items
  all_list = rows_list os t.lines.items everywhere any_scope (λ j k. refl)

  bounds : (p : Position) (r : ℕ) (v : Json) → status_of rows (count p r) ≡ Some (Value v) → Bounds rows p
  bounds p r v e =
      let i = row_of_status rows (count p r) (Value v) e in
      let n = length_rows os t.lines.items in
      let l : i.at < length t.lines.items = omega (arith, n, i.listed) in
      let here : cell_of os (line_at t.lines.items i.at).spot ≡ count p r =
      sym (ap (λ (x : Row). x.cell) (row_here os t.lines.items i.at l)) ∙ i.is in
      let s = count_spot os (line_at t.lines.items i.at).spot p r here in
      let there : s.scope < length os =
      subst (λ (u : Spot). frame_of u < length os) s.is (start_table.laid.placed i.at l).there in
      let few : number_at (numbers_of t) s.scope ≤ 800 = counted.few s.scope there in
      let scope = scope_lists s.scope there ∙ sym (counted.each s.scope there) in
      let all = all_list ∙ sym counted.all in
      let within = counted.within in
      record {
        of_scope =
            subst (λ (q : Position). instances_in (same_position q) rows ≤ 800) s.at (omega (arith, few, scope));
        of_all = omega (arith, all, within);
      }

  module _ (w : Which) (n : ℕ) (o : IsOverrun d w n) where
    abbrev cell : Cell
    cell = count o.position o.resource

    -- the sheet that would overrun knows no more
    valued_too : (c : Cell) (v : Json) → status_of o.rows c ≡ Some (Value v) → status_of rows c ≡ Some (Value v)
    valued_too c v e =
        valued d (status_of rows) start_table.filled.sound.good is_start c v
        (ap known_value (has_known (meaning d) start (start_of t) is_start c (Some v) (o.is_sound.good.valued c v e)))

    number_too : status_of rows cell ≡ Some (Value o.number)
    number_too =
        valued d (status_of rows) start_table.filled.sound.good is_start cell o.number
        (ap known_value (closed d (status_of rows) start_table.filled.sound.good is_start cell refl
        ∙ ap entry_told (told_too d (table (status_of o.rows)) (start_of t) (known_rows d o.rows o.is_sound) is_start
        (meaning d cell) (Some o.number) o.is_told)))

    fewer_here : (f : Scopes) → instances_in f o.rows + listed_by f (Value o.number) cell ≤ instances_in f rows
    fewer_here f =
        fewer_with f cell o.status (Value o.number) o.rows rows o.is_sound.distinct
        (all_in f rows o.rows o.is_sound.distinct valued_too) o.has
        (unfinished_lists f o.status cell o.is_unfinished) number_too

    lists : (b : Bool) → b ≡ true → (if b then copies (Some o.number) else 0) ≡ copies (Some o.number)
    lists true e = refl
    lists false e = absurd (cc)

    scope_same : same_position o.position o.position ≡ true
    scope_same = cell_same (deployments o.position)

    never_beyond : (u : Which) → IsBeyond (tally_of o.rows o.position (copies (Some o.number))) u n → ⊥
    never_beyond count_limit b =
        let less = fewer_here (same_position o.position) in
        let k = lists (same_position o.position o.position) scope_same in
        let most = (bounds o.position o.resource o.number number_too).of_scope in
        let h = b.0 in omega (arith, less, k, most, h)
    never_beyond Resources b =
        let less = fewer_here (same_position o.position) in
        let k = lists (same_position o.position o.position) scope_same in
        let most = (bounds o.position o.resource o.number number_too).of_scope in
        let h = b.0 in omega (arith, less, k, most, h)
    never_beyond Instances b =
        let less = fewer_here everywhere in
        let most = (bounds o.position o.resource o.number number_too).of_all in
        let h = b.0 in omega (arith, less, most, h)
    never_beyond _ b = b

    pub never_overrun : ⊥
    never_overrun = never_beyond w o.is_beyond
