-- Outputs that were told are kept one after another.
use Rattle.std.proofs.Common.{◌≡◌, ℕ, zero, suc, ◌<◌, Bool, true, false, true≢false, List, [], ◌∷◌, ◌++◌, map}
use Rattle.std.proofs.Common.{length, drop, get_or, Some, refl, sym, ap, subst, ◌∙◌, arith}
use Rattle.std.specs.Prelude.{slice_set, if◌then◌else◌}
use Rattle.std.proofs.lemmas.List.{drop_all, length-map}
use Rattle.foundation.proofs.Lists.{next_after}
use Rattle.arm_value.specs.Json.{bool}
use Rattle.arm_value.specs.View.{json}
use Rattle.reading.specs.World.{Each}
use Rattle.reading.specs.Knowledge.{Grows}
use Rattle.deploy_cells.specs.Cells.{offered, output}
use Rattle.plan_filling.specs.Rows.{status_of, table}
use Rattle.plan_table.specs.declared.table.Table.{Table}
use Rattle.plan_table.specs.Whole.{scopes_of}
use Rattle.plan_sight.specs.Ready.{IsReady}
use Rattle.point_values.specs.Seen.{IsSeen}
use Rattle.point_rows.specs.declared.later.Entry.{Entry}
use Rattle.point_rows.specs.declared.later.Entry.TheVariants as entry
use Rattle.point_rows.specs.declared.later.Later.{Later}
use Rattle.point_rows.specs.Rows.{entry_at, state_row, line_rows, known_now, IsFit}
use Rattle.point_rows.proofs.RowsNowLemmas.{indexed_on}
use Rattle.point_rows.proofs.GrowthLemmas.{stays, stays_after}
use Rattle.scope_entries.proofs.GoesLemmas.{there_on, told_on, told_with_states, length_set}
use Rattle.scope_outputs.specs.Outputs.{names_of, position_of, is_missing, Keeps, IsOffered, IsNoted}
use Rattle.scope_outputs.specs.Outputs.{AreNoted, IsKept, Leaves}
use Rattle.scope_outputs.specs.declared.telling.Noted.{Noted}
use Rattle.scope_outputs.proofs.LeaveLemmas.{kept_by_entry, one_leaves}

-- ---- steps one after another

leaves_nowhere : (t : Table) (f : ℕ) (l : Later) → Leaves t f l l
leaves_nowhere t f l = record {
  fit = λ h. h;
  states = refl;
  grows = λ c. stays (known_now t l c);
  seen = λ x p e h s. s;
  told = λ a. a;
}

leaves_on : (t : Table) (f : ℕ) (l m n : Later) → Leaves t f l m → Leaves t f m n → Leaves t f l n
leaves_on t f l m n a b = record {
  fit = λ h. b.fit (a.fit h);
  states = b.states ∙ a.states;
  grows = λ c. stays_after (known_now t l c) (known_now t m c) (known_now t n c) (a.grows c) (b.grows c);
  seen = λ x p e h s. b.seen x p e h (a.seen x p e h s);
  told = λ h. b.told (a.told h);
}

-- the same entries and states
module _ (t : Table) (f : ℕ) (l m : Later) (e : m.entries.items ≡ l.entries.items)
    (s : m.states.items ≡ l.states.items) (places : m.places ≡ l.places) where
  known_same : known_now t m ≡ known_now t l
  known_same = λ i. table (status_of (map state_row (s i) ++ line_rows (scopes_of t) t.lines.items (e i)))

  grows_same : Grows (known_now t l) (known_now t m)
  grows_same = subst (λ z. Grows (known_now t l) z) (sym known_same) (λ c. stays (known_now t l c))

  leaves_same : Leaves t f l m
  leaves_same = record {
    fit = λ h. record { entries = ap length e ∙ h.entries; indexed = indexed_on l m s places h.indexed };
    states = s;
    grows = grows_same;
    seen = λ x p is h seen. subst (λ z. IsSeen x p z) (sym known_same) seen;
    told = told_with_states t l m grows_same e;
  }

-- ---- what was told is so still

offered_on : (t : Table) (f : ℕ) (l m : Later) (x : List ℕ) (e : Entry) → Grows (known_now t l) (known_now t m)
    → IsOffered t l f x e → IsOffered t m f x e
offered_on t f l m x entry.Missing g h = absurd h
offered_on t f l m x (entry.Value v) g h = (
  told_on t l m (offered (position_of t f) x) (Some (bool true)) g h.0,
  told_on t l m (output (position_of t f) x) (Some (json v)) g h.1,
)
offered_on t f l m x entry.Away g h = told_on t l m (offered (position_of t f) x) (Some (bool false)) g h

noted_on : (t : Table) (f : ℕ) (l m : Later) (x : List ℕ) (n : Noted) → Grows (known_now t l) (known_now t m)
    → IsNoted t l f x n → IsNoted t m f x n
noted_on t f l m x n g h = record { is_line = h.is_line; is_offered = offered_on t f l m x n.entry g h.is_offered }

pub noted_still : (t : Table) (f : ℕ) (l m : Later) (xs : List (List ℕ)) (ns : List Noted)
    → Grows (known_now t l) (known_now t m) → AreNoted t l f xs ns → AreNoted t m f xs ns
noted_still t f l m [] [] g h = tt
noted_still t f l m [] (n ∷ ns) g h = absurd h
noted_still t f l m (x ∷ xs) [] g h = absurd h
noted_still t f l m (x ∷ xs) (n ∷ ns) g h = (noted_on t f l m x n g h.0, noted_still t f l m xs ns g h.1)

kept_on : (t : Table) (f : ℕ) (l m : Later) (x : List ℕ) → Grows (known_now t l) (known_now t m) → IsKept t l f x
    → IsKept t m f x
kept_on t f l m x g h = (
  there_on (known_now t l (offered (position_of t f) x)) (known_now t m (offered (position_of t f) x))
      (g (offered (position_of t f) x)) h.0,
  there_on (known_now t l (output (position_of t f) x)) (known_now t m (output (position_of t f) x))
      (g (output (position_of t f) x)) h.1,
)

-- the lines of what was told have entries
pub noted_within : (t : Table) (f : ℕ) (l : Later) (xs : List (List ℕ)) (ns : List Noted) → IsFit t l
    → AreNoted t l f xs ns → Each (λ n. n.at < length l.entries.items) ns
noted_within t f l [] [] fit h = tt
noted_within t f l [] (n ∷ ns) fit h = absurd h
noted_within t f l (x ∷ xs) [] fit h = absurd h
noted_within t f l (x ∷ xs) (n ∷ ns) fit h = (
  subst (λ (k : ℕ). n.at < k) (sym fit.entries) h.0.is_line.listed,
  noted_within t f l xs ns fit h.1,
)

-- ---- one output

missing_is : (e : Entry) → is_missing e ≡ true → e ≡ entry.Missing
missing_is entry.Missing h = refl
missing_is (entry.Value v) h = absurd (cc)
missing_is entry.Away h = absurd (cc)

not_missing : (e : Entry) → is_missing e ≡ false → e ≡ entry.Missing → ⊥
not_missing e h q = true≢false (sym (ap is_missing q) ∙ h)

told_entry : (t : Table) (l : Later) (f : ℕ) (x : List ℕ) (e : Entry) → IsOffered t l f x e → e ≡ entry.Missing → ⊥
told_entry t l f x e h q = subst (IsOffered t l f x) q h

set_here : (es : List Entry) (j : ℕ) (e : Entry) → j < length es → entry_at (slice_set es j e) j ≡ e
set_here [] j e h = absurd (omega (arith, h))
set_here (d ∷ es) zero e h = refl
set_here (d ∷ es) (suc j) e h = set_here es j e (omega (arith, h))

module _ (t : Table) (f : ℕ) (ready : IsReady t) (x : List ℕ) (n : Noted) (l m : Later) (noted : IsNoted t l f x n)
    (within : n.at < length l.entries.items) (keeps : Keeps n.at n.entry l m) where
  by_entry : (b : Bool) → is_missing (entry_at l.entries.items n.at) ≡ b
      → m.entries.items ≡ (if b then slice_set l.entries.items n.at n.entry else l.entries.items)
      → Leaves t f l m × IsKept t m f x
  by_entry true h e = (
    one_leaves t f ready x n.at n.entry noted.is_line l m noted.is_offered within
        (missing_is (entry_at l.entries.items n.at) h) e keeps.states keeps.places,
    kept_by_entry t f ready x n.at n.entry noted.is_line m
        (λ q. told_entry t l f x n.entry noted.is_offered
        (sym (ap (λ (es : List Entry). entry_at es n.at) e ∙ set_here l.entries.items n.at n.entry within) ∙ q)),
  )
  by_entry false h e = (
    leaves_same t f l m e keeps.states keeps.places,
    kept_by_entry t f ready x n.at n.entry noted.is_line m
        (λ q. not_missing (entry_at l.entries.items n.at) h
        (sym (ap (λ (es : List Entry). entry_at es n.at) e) ∙ q)),
  )

  one_kept : Leaves t f l m × IsKept t m f x
  one_kept = by_entry (is_missing (entry_at l.entries.items n.at)) refl keeps.entries

-- ---- one output after another

-- the first outputs are kept, and the others were told
abbrev pub Splits : Table → ℕ → Later → List (List ℕ) → List Noted → List Noted → Type 0
Splits t f l xs [] rest = AreNoted t l f xs rest
Splits t f l [] (n ∷ ns) rest = ⊥
Splits t f l (x ∷ xs) (n ∷ ns) rest = IsKept t l f x × Splits t f l xs ns rest

splits_next : (t : Table) (f : ℕ) (ready : IsReady t) (l m : Later) (xs : List (List ℕ)) (ys : List Noted) (n : Noted)
    (rest : List Noted) → n.at < length l.entries.items → Keeps n.at n.entry l m → Splits t f l xs ys (n ∷ rest)
    → Leaves t f l m × Splits t f m xs (ys ++ n ∷ []) rest
splits_next t f ready l m [] [] n rest w k h = absurd h
splits_next t f ready l m (x ∷ xs) [] n rest w k h =
    let one = one_kept t f ready x n l m h.0 w k in
    (one.0, (one.1, noted_still t f l m xs rest one.0.grows h.1))
splits_next t f ready l m [] (y ∷ ys) n rest w k h = absurd h
splits_next t f ready l m (x ∷ xs) (y ∷ ys) n rest w k h =
    let more = splits_next t f ready l m xs ys n rest w k h.1 in
    (more.0, (kept_on t f l m x more.0.grows h.0, more.1))

splits_end : (t : Table) (f : ℕ) (l : Later) (xs : List (List ℕ)) (ys : List Noted) → Splits t f l xs ys []
    → Each (IsKept t l f) xs
splits_end t f l [] [] h = tt
splits_end t f l (x ∷ xs) [] h = absurd h
splits_end t f l [] (y ∷ ys) h = absurd h
splits_end t f l (x ∷ xs) (y ∷ ys) h = (h.0, splits_end t f l xs ys h.1)

-- after some outputs
pub record IsSoFar (l m : Later) (ns ys rest : List Noted) : Type 0 where
  pub long : length m.entries.items ≡ length l.entries.items
  pub leaves : (t : Table) (f : ℕ) → IsReady t → IsFit t l → AreNoted t l f (names_of t f) ns → Leaves t f l m
  pub splits : (t : Table) (f : ℕ) → IsReady t → IsFit t l → AreNoted t l f (names_of t f) ns
      → Splits t f m (names_of t f) ys rest

pub keep_begins : (l : Later) (ns rest : List Noted) → rest ≡ ns → IsSoFar l l ns [] rest
keep_begins l ns rest e = record {
  long = refl;
  leaves = λ t f ready fit h. leaves_nowhere t f l;
  splits = λ t f ready fit h. subst (AreNoted t l f (names_of t f)) (sym e) h;
}

with_length : (b : Bool) (es : List Entry) (j : ℕ) (e : Entry)
    → length (if b then slice_set es j e else es) ≡ length es
with_length true es j e = length_set es j e
with_length false es j e = refl

pub keep_goes : (l m n : Later) (ns ys left rest : List Noted) (y : Noted) → left ≡ y ∷ rest
    → y.at < length l.entries.items → Keeps y.at y.entry m n → IsSoFar l m ns ys left
    → IsSoFar l n ns (ys ++ y ∷ []) rest
keep_goes l m n ns ys left rest y e w k s = record {
  long = ap length k.entries
      ∙ with_length (is_missing (entry_at m.entries.items y.at)) m.entries.items y.at y.entry ∙ s.long;
  leaves = λ t f ready fit h. leaves_on t f l m n (s.leaves t f ready fit h) (next t f ready fit h).0;
  splits = λ t f ready fit h. (next t f ready fit h).1;
}
  where
    next : (t : Table) (f : ℕ) → IsReady t → IsFit t l → AreNoted t l f (names_of t f) ns
        → Leaves t f m n × Splits t f n (names_of t f) (ys ++ y ∷ []) rest
    next t f ready fit h =
        splits_next t f ready m n (names_of t f) ys y rest (subst (λ (k : ℕ). y.at < k) (sym s.long) w) k
        (subst (Splits t f m (names_of t f) ys) e (s.splits t f ready fit h))

pub keep_ends : (l m : Later) (ns ys rest : List Noted) → rest ≡ [] → IsSoFar l m ns ys rest
    → (t : Table) (f : ℕ) → IsReady t → IsFit t l → AreNoted t l f (names_of t f) ns
    → Each (IsKept t m f) (names_of t f)
keep_ends l m ns ys rest e s t f ready fit h =
    splits_end t f m (names_of t f) ys (subst (Splits t f m (names_of t f) ys) e (s.splits t f ready fit h))

-- an item of a list
pub each_item : (P : Noted → Type 0) (ns : List Noted) (i : ℕ) (n : Noted) → i < length ns → n ≡ get_or ns i n
    → Each P ns → P n
each_item P [] i n h e a = absurd (omega (arith, h))
each_item P (y ∷ ys) zero n h e a = subst P (sym e) a.0
each_item P (y ∷ ys) (suc i) n h e a = each_item P ys i n (omega (arith, h)) e a.1

-- ---- what is left of the list

length_more : (ys : List Noted) (n : Noted) → length (ys ++ n ∷ []) ≡ suc (length ys)
length_more [] n = refl
length_more (y ∷ ys) n = ap suc (length_more ys n)

pub left_here : (ns ys : List Noted) (n : Noted) → length ys < length ns → n ≡ get_or ns (length ys) n
    → drop (length ys) ns ≡ n ∷ drop (length (ys ++ n ∷ [])) ns
left_here ns ys n h e =
    next_after ns (length ys) n h e ∙ ap (λ (k : ℕ). n ∷ drop k ns) (sym (length_more ys n))

pub left_gone : (ns ys : List Noted) → map (λ (n : Noted). n) ys ≡ ns → drop (length ys) ns ≡ []
left_gone ns ys e =
    drop_all (length ys) ns (let same = length-map ys (λ (n : Noted). n) in let all = ap length e in omega (
      arith,
      same,
      all,
    ))
