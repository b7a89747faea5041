-- The rows that keep what is held, through look-ups and changes.
use Rattle.std.proofs.Common.{is_ok, Result, ◌≡◌, ◌<◌, ℕ, suc, length, get_or, take, drop, List, [], ◌∷◌, ◌++◌, map}
use Rattle.std.proofs.Common.{refl}
use Rattle.std.proofs.Common.{sym, ap}
use Rattle.std.proofs.Common.{ap₂, ◌∙◌, arith, subst, Some, None, Ok, Err, cond, bytes_eq}
use Rattle.std.proofs.Math.ListN.{set}
use Rattle.std.specs.List.{insert, remove}
use Rattle.std.proofs.lemmas.List.{take-map, drop-map, map-append, map-set, set_split, get_or-map, length-map}
use Rattle.std.proofs.lemmas.List.{get_or_default}
use Rattle.std.specs.List.Sorted.{IsStrictlySortedBy}
use Rattle.arm_ids.specs.Id.{HasKey}
use Rattle.arm_ids.specs.Held.{HeldResource, id_cmp, held_by, find, IsInOrder, HaveKeys, put, without, IsPlaceOf}
use Rattle.arm_ids.specs.Row.{order_of, row_held, AreRows}
use Rattle.arm_ids.specs.declared.row.Row.{Row}
use Rattle.arm_ids.proofs.HeldLemmas.{find_at, put_at, without_at, IsGap, gap, find_gap, put_gap, without_gap}
use Rattle.arm_ids.proofs.HeldLemmas.{IsInOrder-put, IsInOrder-without, IsInOrder-nil, find-put, find-without}
use Rattle.arm_ids.proofs.HeldLemmas.{HaveKeys-put, HaveKeys-without}
use Rattle.foundation.proofs.Lists.{map-insert}

-- the row at the place of an id
record IsAt (id : List ℕ) (rows : List Row) (i : ℕ) (row : Row) : Type 0 where
  pub within : i < length rows
  pub within_held : i < length (map row_held rows)
  pub here : row_held row ≡ get_or (map row_held rows) i (row_held row)
  pub same : held_by (row_held row) ≡ id

at_place : (id : List ℕ) (rows : List Row) (i : ℕ) (row : Row) → AreRows rows
    → IsPlaceOf id (map order_of rows) (Ok i) → row ≡ get_or rows i row → IsAt id rows i row
at_place id rows i row h place is =
    let within : i < length rows = omega (arith, length-map rows order_of, place.0) in
    let within_held : i < length (map row_held rows) = omega (arith, length-map rows row_held, within) in
    let here : get_or (map row_held rows) i (row_held row) ≡ row_held row =
    get_or-map row_held rows i row (row_held row) within ∙ ap row_held (sym is) in
    let order : get_or (map held_by (map row_held rows)) i id ≡ held_by (row_held row) =
    get_or-map held_by (map row_held rows) i (row_held row) id within_held ∙ ap held_by here in
    record {
      within = within;
      within_held = within_held;
      here = sym here;
      same = sym order
          ∙ ap (λ ids. get_or ids i id) (sym h.ordered) ∙ place.1;
    }

pub row_found : (id : List ℕ) (rows : List Row) (i : ℕ) (row : Row) → AreRows rows
    → IsPlaceOf id (map order_of rows) (Ok i) → row ≡ get_or rows i row
    → find id (map row_held rows) ≡ Some (row_held row)
row_found id rows i row h place is =
    let at = at_place id rows i row h place is in
    find_at id (map row_held rows) i (row_held row) h.in_order at.within_held at.here at.same

pub row_missing : (id : List ℕ) (rows : List Row) (i : ℕ) → AreRows rows → IsPlaceOf id (map order_of rows) (Err i)
    → find id (map row_held rows) ≡ None
row_missing id rows i h place =
    find_gap id (map row_held rows) i (gap id (map order_of rows) (map row_held rows) i h.ordered place)

-- rows after a change
pub record Becomes (new : List Row) (rs : List HeldResource) : Type 0 where
  pub rows : AreRows new
  pub held : map row_held new ≡ rs

becomes : (new : List Row) (rs : List HeldResource) → map order_of new ≡ map held_by (map row_held new)
    → map row_held new ≡ rs → IsInOrder rs → HaveKeys rs → Becomes new rs
becomes new rs ordered held in_order named = record {
  rows = record {
    ordered = ordered;
    in_order = subst IsInOrder (sym held) in_order;
    named = subst HaveKeys (sym held) named;
  };
  held = held;
}

pub row_replaced : (rows : List Row) (i : ℕ) (row : Row) → AreRows rows → row.order ≡ held_by (row_held row)
    → HasKey row.entry.id → IsPlaceOf row.order (map order_of rows) (Ok i)
    → Becomes (set rows i row) (put (row_held row) (map row_held rows))
row_replaced rows i row h order key place =
    let rs = map row_held rows in
    let r = row_held row in
    let within : i < length rows = omega (arith, length-map rows order_of, place.0) in
    let old = get_or rows i row in
    let is : old ≡ get_or rows i old = get_or_default rows i row old within in
    let at = at_place row.order rows i old h place is in
    let held : map row_held (set rows i row) ≡ put r rs = map-set row_held rows i row
    ∙ set_split rs i r at.within_held
    ∙ sym (put_at r rs i (row_held old) h.in_order at.within_held at.here (at.same ∙ order)) in
    becomes (set rows i row) (put r rs) (map-set order_of rows i row ∙ ap₂ (λ ids id. set ids i id) h.ordered order
    ∙ sym (map-set held_by rs i r) ∙ ap (map held_by) (sym (map-set row_held rows i row))) held
    (IsInOrder-put r rs h.in_order) (HaveKeys-put r rs key h.named)

map-remove : {A B : Type 0} (f : A → B) (xs : List A) (i : ℕ) → map f (remove xs i) ≡ remove (map f xs) i
map-remove f xs i =
    map-append f (take i xs) (drop (suc i) xs)
    ∙ ap₂ (λ a b. a ++ b) (sym (take-map f i xs)) (sym (drop-map f (suc i) xs))

pub row_added : (rows : List Row) (i : ℕ) (row : Row) → AreRows rows → row.order ≡ held_by (row_held row)
    → HasKey row.entry.id → IsPlaceOf row.order (map order_of rows) (Err i)
    → Becomes (insert rows i row) (put (row_held row) (map row_held rows))
row_added rows i row h order key place =
    let rs = map row_held rows in
    let r = row_held row in
    let here : IsGap (held_by r) rs i =
    subst (λ id. IsGap id rs i) order (gap row.order (map order_of rows) rs i h.ordered place) in
    becomes (insert rows i row) (put r rs) (map-insert order_of rows i row
    ∙ ap₂ (λ ids id. insert ids i id) h.ordered order ∙ sym (map-insert held_by rs i r)
    ∙ ap (map held_by) (sym (map-insert row_held rows i row))) (map-insert row_held rows i row
    ∙ sym (put_gap r rs i here)) (IsInOrder-put r rs h.in_order) (HaveKeys-put r rs key h.named)

-- after an insertion that may have been refused
pub row_added_where : {T E : Type 0} (r : Result T E) (new rows : List Row) (i : ℕ) (row : Row) → AreRows rows
    → row.order ≡ held_by (row_held row) → HasKey row.entry.id → IsPlaceOf row.order (map order_of rows) (Err i)
    → new ≡ cond (is_ok r) (insert rows i row) rows → AreRows new
    × (map row_held new ≡ cond (is_ok r) (put (row_held row) (map row_held rows)) (map row_held rows))
row_added_where (Ok x) new rows i row h order key place e =
    let added = row_added rows i row h order key place in
    (subst AreRows (sym e) added.rows, ap (map row_held) e ∙ added.held)
row_added_where (Err x) new rows i row h order key place e = (subst AreRows (sym e) h, ap (map row_held) e)

pub row_removed : (id : List ℕ) (rows : List Row) (i : ℕ) (row : Row) → AreRows rows
    → IsPlaceOf id (map order_of rows) (Ok i) → row ≡ get_or rows i row
    → Becomes (remove rows i) (without id (map row_held rows))
row_removed id rows i row h place is =
    let rs = map row_held rows in
    let at = at_place id rows i row h place is in
    becomes (remove rows i) (without id rs) (map-remove order_of rows i ∙ ap (λ ids. remove ids i) h.ordered
    ∙ sym (map-remove held_by rs i) ∙ ap (map held_by) (sym (map-remove row_held rows i)))
    (map-remove row_held rows i
    ∙ sym (without_at id rs i (row_held row) h.in_order at.within_held at.here at.same))
    (IsInOrder-without id rs h.in_order) (HaveKeys-without id rs h.named)

pub row_kept : (id : List ℕ) (rows : List Row) (i : ℕ) → AreRows rows → IsPlaceOf id (map order_of rows) (Err i)
    → map row_held rows ≡ without id (map row_held rows)
row_kept id rows i h place =
    sym (without_gap id (map row_held rows) i (gap id (map order_of rows) (map row_held rows) i h.ordered place))

pub no_rows : AreRows []
no_rows = record { ordered = refl; in_order = IsInOrder-nil; named = tt }

pub in_order_by_id : (rows : List Row) → AreRows rows → IsStrictlySortedBy id_cmp (map order_of rows)
in_order_by_id rows h = subst (IsStrictlySortedBy id_cmp) (sym h.ordered) h.in_order

-- what is found after a put and after a removal
pub found_after_put : (new rs old : List HeldResource) (r : HeldResource) → new ≡ put r rs → rs ≡ old
    → (id : List ℕ) → find id new ≡ cond (bytes_eq id (held_by r)) (Some r) (find id old)
found_after_put new rs old r e same id =
    ap (find id) e ∙ find-put id r rs ∙ ap (λ hs. cond (bytes_eq id (held_by r)) (Some r) (find id hs)) same

pub found_after_removal : (new rs old : List HeldResource) (gone key : List ℕ) → new ≡ without gone rs → IsInOrder rs
    → gone ≡ key → rs ≡ old → (id : List ℕ) → find id new ≡ cond (bytes_eq id key) None (find id old)
found_after_removal new rs old gone key e in_order named same id =
    ap (find id) e ∙ find-without gone id rs in_order ∙ ap₂ (λ k hs. cond (bytes_eq id k) None (find id hs)) named same
