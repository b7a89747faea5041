-- Rows whose tags are shared are those of two instances with one key.
use Rattle.std.proofs.Common.{◌≡◌, ◌⊎◌, inl, inr, ℕ, zero, suc, ◌<◌, Bool, true, false, true≢false}
use Rattle.std.proofs.Common.{List, [], ◌∷◌, map, length}
use Rattle.std.proofs.Common.{Option, Some, None, refl, sym, ap, ap₂, ◌∙◌, arith}
use Rattle.std.specs.Prelude.{slice_get, bytes_eq, option_and_then, if◌then◌else◌}
use Rattle.std.proofs.lemmas.Option.{same_Some}
use Rattle.plan_cells.proofs.TaskLemmas.{some_true}
use Rattle.foundation.proofs.Comparisons.{apart}
use Rattle.foundation.proofs.TruthValues.{or_false_twice}
use Rattle.foundation.proofs.Words.{eq_word, itself}
use Rattle.arm_value.specs.Json.{Json, null, bool, int, text, array, object}
use Rattle.arm_value.specs.Kinds.{is_true}
use Rattle.arm_ids.specs.declared.id.Place.{Place}
use Rattle.arm_ids.specs.declared.id.ResourceId.{ResourceId}
use Rattle.reading.specs.Knowledge.{known_value}
use Rattle.deploy_cells.specs.Cells.{Step, Position, Cell, parameter, variable, offered, output, count, included, name}
use Rattle.deploy_cells.specs.Cells.{deployments, state}
use Rattle.deploy_cells.specs.Puts.{Kind, IsPut, key_at}
use Rattle.deploy_cells.specs.Same as cells
use Rattle.deploy_cells.specs.Same.{same_instance}
use Rattle.deploy_cells.proofs.SameLemmas.{cell_is, cell_same, id_is}
use Rattle.key_tags.specs.KeyCodes.{key_code}
use Rattle.key_tags.proofs.CodeLemmas.{key_eq}
use Rattle.tag_needs.specs.Tags.{Tag, shares, IsShared}
use Rattle.plan_cells.specs.Known as knowing
use Rattle.plan_cells.specs.Meaning.{Deployment}
use Rattle.plan_cells.specs.Desired.{kinds}
use Rattle.plan_cells.specs.Reads.{key_in}
use Rattle.plan_cells.specs.Start.{start_world}
use Rattle.plan_cells.specs.Tasks.{key_by}
use Rattle.plan_filling.specs.Rows.{Status, New, Open, Value, Empty, Late}
use Rattle.plan_filling.specs.Rows.{Row, row_at, status_of, known_by, AreDistinct}
use Rattle.plan_filling.specs.Final.{or_unlisted, final}
use Rattle.plan_filling.proofs.RowLemmas.{by_same, found_later, status_found}
use Rattle.plan_tasks.specs.InOrder.{is_in}
use Rattle.plan_refusals.specs.Keys.{ShareKey}
use Rattle.plan_puts.specs.PutTags.{key_tags, unless_nested, cell_tags, row_tags}

-- ---- an instance that is put, with its key

record IsPutCell (d : Deployment) (q : knowing.Table) (c : Cell) : Type 0 where
  position : Position
  instance : Step
  is : c ≡ included position instance
  kind : Kind
  is_kind : kinds d position instance.resource ≡ Some kind
  is_resource : kind.is_deployment ≡ false
  included : is_in q position instance ≡ true
  key : ResourceId
  has_key : key_in d (start_world q) position instance ≡ Some key
  tags : cell_tags d q c ≡ key_code key ∷ []

module _ (d : Deployment) (q : knowing.Table) where
  by_key : (p : Position) (s : Step) (k : Kind) → is_in q p s ≡ true → kinds d p s.resource ≡ Some k
      → k.is_deployment ≡ false → (o : Option ResourceId) → key_in d (start_world q) p s ≡ o
      → (cell_tags d q (included p s) ≡ []) ⊎ IsPutCell d q (included p s)
  by_key p s k i e n o g =
      let tags : cell_tags d q (included p s) ≡ key_tags o =
      ap (λ b. if b then unless_nested (kinds d p s.resource)
      (key_tags (key_in d (start_world q) p s)) else []) i
      ∙ ap (λ m. unless_nested m (key_tags (key_in d (start_world q) p s))) e
      ∙ ap (λ b. if b then [] else key_tags (key_in d (start_world q) p s)) n ∙ ap key_tags g in
      by_option o tags g
    where
      by_option : (u : Option ResourceId) → cell_tags d q (included p s) ≡ key_tags u
          → key_in d (start_world q) p s ≡ u → (cell_tags d q (included p s) ≡ []) ⊎ IsPutCell d q (included p s)
      by_option None t h = inl t
      by_option (Some key) t h = inr (record {
        position = p;
        instance = s;
        is = refl;
        kind = k;
        is_kind = e;
        is_resource = n;
        included = i;
        key = key;
        has_key = h;
        tags = t;
      })

  by_kind : (p : Position) (s : Step) → is_in q p s ≡ true → (o : Option Kind) → kinds d p s.resource ≡ o
      → (cell_tags d q (included p s) ≡ []) ⊎ IsPutCell d q (included p s)
  by_kind p s i None e =
      inl (ap (λ b. if b then unless_nested (kinds d p s.resource)
      (key_tags (key_in d (start_world q) p s)) else []) i
      ∙ ap (λ m. unless_nested m (key_tags (key_in d (start_world q) p s))) e)
  by_kind p s i (Some k) e = by_deployment k.is_deployment refl
    where
      by_deployment : (b : Bool) → k.is_deployment ≡ b
          → (cell_tags d q (included p s) ≡ []) ⊎ IsPutCell d q (included p s)
      by_deployment true n =
          inl (ap (λ b. if b then unless_nested (kinds d p s.resource)
          (key_tags (key_in d (start_world q) p s)) else [])
          i ∙ ap (λ m. unless_nested m (key_tags (key_in d (start_world q) p s))) e
          ∙ ap (λ b. if b then [] else key_tags (key_in d (start_world q) p s)) n)
      by_deployment false n = by_key p s k i e n (key_in d (start_world q) p s) refl

  by_in : (p : Position) (s : Step) (b : Bool) → is_in q p s ≡ b
      → (cell_tags d q (included p s) ≡ []) ⊎ IsPutCell d q (included p s)
  by_in p s true i = by_kind p s i (kinds d p s.resource) refl
  by_in p s false i =
      inl (ap (λ b. if b then unless_nested (kinds d p s.resource)
      (key_tags (key_in d (start_world q) p s)) else []) i)

  put_of : (c : Cell) → (cell_tags d q c ≡ []) ⊎ IsPutCell d q c
  put_of (included p s) = by_in p s (is_in q p s) refl
  put_of (parameter p x) = inl refl
  put_of (variable p x) = inl refl
  put_of (offered p x) = inl refl
  put_of (output p x) = inl refl
  put_of (count p r) = inl refl
  put_of (name p s) = inl refl
  put_of (deployments p) = inl refl
  put_of (state k) = inl refl

  -- ---- two that share a tag

  none_first : (ts : List Tag) → shares [] ts ≡ true → ⊥
  none_first ts e = true≢false (sym e)

  none_second : (a : Tag) → shares (a ∷ []) [] ≡ true → ⊥
  none_second a e = true≢false (sym e)

  one_key : (k l : ResourceId) → shares (key_code k ∷ []) (key_code l ∷ []) ≡ true → k ≡ l
  one_key k l e =
      let codes : key_code k ≡ key_code l =
      eq_word (key_code k) (key_code l) (sym (or_false_twice (bytes_eq (key_code k) (key_code l))) ∙ e) in
      id_is k l (sym (key_eq k l) ∙ ap (bytes_eq (key_code k)) (sym codes) ∙ itself (key_code k))

  record AreTwo (c e : Cell) : Type 0 where
    first : IsPutCell d q c
    second : IsPutCell d q e
    one : first.key ≡ second.key

  by_second : (c e : Cell) (x : IsPutCell d q c) → (cell_tags d q e ≡ []) ⊎ IsPutCell d q e
      → shares (cell_tags d q c) (cell_tags d q e) ≡ true → AreTwo c e
  by_second c e x (inl n) h =
      absurd (none_second (key_code x.key) (sym (ap₂ shares x.tags n) ∙ h))
  by_second c e x (inr y) h =
      record { first = x; second = y; one = one_key x.key y.key (sym (ap₂ shares x.tags y.tags) ∙ h) }

  by_first : (c e : Cell) → (cell_tags d q c ≡ []) ⊎ IsPutCell d q c
      → shares (cell_tags d q c) (cell_tags d q e) ≡ true → AreTwo c e
  by_first c e (inl n) h =
      absurd (none_first (cell_tags d q e) (sym (ap (λ ts. shares ts (cell_tags d q e)) n) ∙ h))
  by_first c e (inr x) h = by_second c e x (put_of e) h

  two_of : (c e : Cell) → shares (cell_tags d q c) (cell_tags d q e) ≡ true → AreTwo c e
  two_of c e h = by_first c e (put_of c) h

  -- ---- the put of an instance

  record HasTitle (place : Place) (k : Kind) (o : Option Json) (key : ResourceId) : Type 0 where
    title : List ℕ
    has : o ≡ Some (text title)
    is : key_at place k.type title ≡ key

  title_by : (place : Place) (k : Kind) (o : Option Json) (key : ResourceId)
      → option_and_then (key_by place (Some k)) o ≡ Some key → HasTitle place k o key
  title_by place k None key e = absurd (cc)
  title_by place k (Some (text n)) key e =
      record { title = n; has = refl; is = same_Some (key_at place k.type n) key e }
  title_by place k (Some null) key e = absurd (cc)
  title_by place k (Some (bool b)) key e = absurd (cc)
  title_by place k (Some (int z)) key e = absurd (cc)
  title_by place k (Some (array js)) key e = absurd (cc)
  title_by place k (Some (object ms)) key e = absurd (cc)

  record IsKeyedPut (p : Position) (s : Step) (key : ResourceId) : Type 0 where
    kind : Kind
    title : List ℕ
    is_put : IsPut (kinds d) (start_world q) p s kind title
    has_key : key_at d.place kind.type title ≡ key

  keyed_put : (c : Cell) (x : IsPutCell d q c) → IsKeyedPut x.position x.instance x.key
  keyed_put c x =
      let t = title_by d.place x.kind (known_value (q (name x.position x.instance))) x.key
      (ap (λ o. option_and_then (key_by d.place o) (known_value (q (name x.position x.instance)))) (sym x.is_kind)
      ∙ x.has_key) in
      record {
        kind = x.kind;
        title = t.title;
        is_put = record {
          is_included = record {
            is_declared = x.is_kind;
            has_condition = some_true (known_value (q (included x.position x.instance))) x.included;
            has_name = t.has;
          };
          is_resource = x.is_resource;
        };
        has_key = t.is;
      }

  -- ---- rows

  record IsTagged (rows : List Row) (i : ℕ) (ts : List Tag) : Type 0 where
    there : i < length rows
    is : ts ≡ row_tags d q (row_at rows i)

  tagged_at : (rows : List Row) (i : ℕ) (ts : List Tag) → slice_get (map (row_tags d q) rows) i ≡ Some ts
      → IsTagged rows i ts
  tagged_at [] i ts e = let no : None ≡ Some ts = e in absurd (cc)
  tagged_at (r ∷ rows) zero ts e =
      record { there = omega arith; is = sym (same_Some (row_tags d q r) ts e) }
  tagged_at (r ∷ rows) (suc i) ts e =
      let x = tagged_at rows i ts e in record { there = (let l = x.there in omega (arith, l)); is = x.is }

  tags_at : (rows : List Row) (i : ℕ) → i < length rows
      → slice_get (map (row_tags d q) rows) i ≡ Some (row_tags d q (row_at rows i))
  tags_at [] i h = absurd (omega (arith, h))
  tags_at (r ∷ rows) zero h = refl
  tags_at (r ∷ rows) (suc i) h = tags_at rows i (omega (arith, h))

  later_none : (r : Row) (rows : List Row) (j : ℕ) → AreDistinct (r ∷ rows) → j < length rows
      → r.cell ≡ (row_at rows j).cell → ⊥
  later_none r rows j a h e =
      let found = status_found rows j a.1 h in
      let no : None ≡ Some (row_at rows j).status = sym a.0 ∙ ap (status_of rows) e ∙ found in cc

  once : (rows : List Row) (i j : ℕ) → AreDistinct rows → i < length rows → j < length rows
      → (row_at rows i).cell ≡ (row_at rows j).cell → i ≡ j
  once [] i j a h k e = absurd (omega (arith, h))
  once (r ∷ rows) zero zero a h k e = refl
  once (r ∷ rows) zero (suc j) a h k e = absurd (later_none r rows j a (omega (arith, k)) e)
  once (r ∷ rows) (suc i) zero a h k e = absurd (later_none r rows i a (omega (arith, h)) (sym e))
  once (r ∷ rows) (suc i) (suc j) a h k e = ap suc (once rows i j a.1 (omega (arith, h)) (omega (arith, k)) e)

  differ_by : (p : Position) (s : Step) (r : Position) (u : Step) (b : Bool) → same_instance p s r u ≡ b
      → (included p s ≡ included r u → ⊥) → same_instance p s r u ≡ false
  differ_by p s r u false e n = e
  differ_by p s r u true e n = absurd (n (cell_is (included p s) (included r u) e))

  pub record AreSameRows (rows : List Row) (i j : ℕ) : Type 0 where
    pub first_there : i < length rows
    pub second_there : j < length rows
    pub first_at : Position
    pub first : Step
    pub second_at : Position
    pub second : Step
    pub is_first : (row_at rows i).cell ≡ included first_at first
    pub is_second : (row_at rows j).cell ≡ included second_at second
    pub share : ShareKey d (start_world q) first_at first second_at second

  pub are_same : (rows : List Row) (i j : ℕ) → AreDistinct rows → IsShared (map (row_tags d q) rows) i j
      → AreSameRows rows i j
  are_same rows i j a h =
      let x = tagged_at rows i h.first h.is_first in
      let y = tagged_at rows j h.second h.is_second in
      let two = two_of (row_at rows i).cell (row_at rows j).cell (ap₂ shares (sym x.is) (sym y.is) ∙ h.share) in
      let m = keyed_put (row_at rows i).cell two.first in
      let n = keyed_put (row_at rows j).cell two.second in
      let below = h.below in
      record {
        first_there = x.there;
        second_there = y.there;
        first_at = two.first.position;
        first = two.first.instance;
        second_at = two.second.position;
        second = two.second.instance;
        is_first = two.first.is;
        is_second = two.second.is;
        share = record {
          kind = m.kind;
          other_kind = n.kind;
          title = m.title;
          other_title = n.title;
          is_put = m.is_put;
          other_is_put = n.is_put;
          have_one = m.has_key ∙ two.one ∙ sym n.has_key;
          differ = differ_by two.first.position two.first.instance two.second.position two.second.instance
              (same_instance two.first.position two.first.instance two.second.position two.second.instance) refl
              (λ e.
              let same : i ≡ j = once rows i j a x.there y.there (two.first.is ∙ e ∙ sym two.second.is) in
              omega (arith, same, below));
        };
      }

-- ---- no two

record HasRow (rows : List Row) (c : Cell) (s : Status) : Type 0 where
  number : ℕ
  listed : number < length rows
  cell : (row_at rows number).cell ≡ c

row_of_status : (rows : List Row) (c : Cell) (s : Status) → status_of rows c ≡ Some s → HasRow rows c s
row_of_status [] c s e = absurd (cc)
row_of_status (r ∷ rs) c s e =
    elim (by_same r.cell c) [
      | inl x ↦ record { number = 0; listed = omega arith; cell = cell_is r.cell c x }
      | inr x ↦
          (let h = row_of_status rs c s (sym (found_later r rs c x) ∙ e) in record {
            number = suc h.number;
            listed = (let l = h.listed in omega (arith, l));
            cell = h.cell;
          })
    ]

by_known : (o : Option Status) (v : Json) → known_value (known_by o) ≡ Some v → o ≡ Some (Value v)
by_known (Some (Value w)) v e = ap (λ x. Some (Value x)) (same_Some w v e)
by_known (Some New) v e = absurd (cc)
by_known (Some Open) v e = absurd (cc)
by_known (Some Empty) v e = absurd (cc)
by_known (Some (Late k)) v e = absurd (cc)
by_known None v e = absurd (cc)

by_included : (σ : Cell → Option Status) (p : Position) (s : Step) (o : Option Status) (v : Json)
    → known_value (or_unlisted σ (included p s) o) ≡ Some v → o ≡ Some (Value v)
by_included σ p s None v e = absurd (cc)
by_included σ p s (Some u) v e = by_known (Some u) v e

module _ (d : Deployment) (rows : List Row) (a : AreDistinct rows) where
  abbrev q : knowing.Table
  q = final (status_of rows)

  row_there : (p : Position) (s : Step) (k : Kind) (n : List ℕ) → IsPut (kinds d) (start_world q) p s k n
      → HasRow rows (included p s) (Value (bool true))
  row_there p s k n h =
      row_of_status rows (included p s) (Value (bool true))
      (by_included (status_of rows) p s (status_of rows (included p s)) (bool true) h.is_included.has_condition)

  put_tags : (p : Position) (s : Step) (k : Kind) (n : List ℕ) → IsPut (kinds d) (start_world q) p s k n
      → cell_tags d q (included p s) ≡ key_code (key_at d.place k.type n) ∷ []
  put_tags p s k n h =
      let key : key_in d (start_world q) p s ≡ Some (key_at d.place k.type n) =
      ap (λ o. option_and_then (key_by d.place o) (known_value (q (name p s)))) h.is_included.is_declared
      ∙ ap (λ o. option_and_then (key_by d.place (Some k)) o) h.is_included.has_name in
      ap (λ o. if is_true o then unless_nested (kinds d p s.resource)
      (key_tags (key_in d (start_world q) p s)) else [])
      h.is_included.has_condition
      ∙ ap (λ m. unless_nested m (key_tags (key_in d (start_world q) p s))) h.is_included.is_declared
      ∙ ap (λ b. if b then [] else key_tags (key_in d (start_world q) p s)) h.is_resource ∙ ap key_tags key

  shared_at : (i j : ℕ) (tag : Tag) → i < length rows → j < length rows → i < j
      → row_tags d q (row_at rows i) ≡ tag ∷ [] → row_tags d q (row_at rows j) ≡ tag ∷ []
      → IsShared (map (row_tags d q) rows) i j
  shared_at i j tag h k l e f = record {
    below = l;
    first = tag ∷ [];
    second = tag ∷ [];
    is_first = tags_at d q rows i h ∙ ap Some e;
    is_second = tags_at d q rows j k ∙ ap Some f;
    share = or_false_twice (bytes_eq tag tag) ∙ itself tag;
  }

  pub none_same : ((i j : ℕ) → IsShared (map (row_tags d q) rows) i j → ⊥) → (p : Position) (s : Step) (r : Position)
      (u : Step) → ShareKey d (start_world q) p s r u → ⊥
  none_same none p s r u h =
      let x = row_there p s h.kind h.title h.is_put in
      let y = row_there r u h.other_kind h.other_title h.other_is_put in
      let tag : Tag = key_code (key_at d.place h.kind.type h.title) in
      let first : row_tags d q (row_at rows x.number) ≡ tag ∷ [] =
      ap (cell_tags d q) x.cell ∙ put_tags p s h.kind h.title h.is_put in
      let second : row_tags d q (row_at rows y.number) ≡ tag ∷ [] =
      ap (cell_tags d q) y.cell ∙ put_tags r u h.other_kind h.other_title h.other_is_put
      ∙ ap (λ k. key_code k ∷ []) (sym h.have_one) in
      elim (apart x.number y.number (numbers_differ x y)) [
        | inl l ↦ none x.number y.number (shared_at x.number y.number tag x.listed y.listed l first second)
        | inr l ↦ none y.number x.number (shared_at y.number x.number tag y.listed x.listed l second first)
      ]
    where
      cells_same : included p s ≡ included r u → cells.same (included p s) (included p s) ≡ same_instance p s r u
      cells_same e = ap (cells.same (included p s)) e

      numbers_differ : (x : HasRow rows (included p s) (Value (bool true)))
          (y : HasRow rows (included r u) (Value (bool true))) → x.number ≡ y.number → ⊥
      numbers_differ x y e =
          let same : included p s ≡ included r u = sym x.cell ∙ ap (λ n. (row_at rows n).cell) e ∙ y.cell in
          true≢false (sym (cell_same (included p s)) ∙ cells_same same ∙ h.differ)
