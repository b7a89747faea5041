-- Lines that are told once, one after another, and all again until none is left.
use Rattle.std.proofs.Common.{◌≡◌, ◌⊎◌, inl, inr, ℕ, zero, suc, ◌+◌, ◌<◌, ◌≤◌, Bool, List, [], ◌∷◌, ◌++◌, length}
use Rattle.std.proofs.Common.{get_or, Option, Some, None, refl, sym, ap, subst, ◌∙◌, arith}
use Rattle.std.proofs.lemmas.List.{get_or_read}
use Rattle.std.specs.declared.vec.Vec.{Vec}
use Rattle.std.specs.declared.alloc.Global.{Global}
use Rattle.foundation.proofs.Comparisons.{lt_or_is}
use Rattle.arm_value.specs.Json.{Json}
use Rattle.reading.specs.Reading.{done, ask}
use Rattle.reading.specs.World.{Each}
use Rattle.reading.specs.Knowledge.{Known, known, absent, missing, Told, waits, told, finished, by_entry}
use Rattle.reading.specs.Knowledge.{IsThere}
use Rattle.deploy_cells.specs.Cells.{Cell}
use Rattle.deploy_cells.specs.Guarded.{Reads}
use Rattle.plan_cells.specs.Meaning.{plain}
use Rattle.plan_cells.specs.Children.{Has}
use Rattle.plan_cells.proofs.ListLemmas.{has_left, has_right, has_map, has_mapped}
use Rattle.plan_table.specs.declared.table.Table.{Table}
use Rattle.plan_table.specs.Whole.{whole_of}
use Rattle.plan_sight.specs.Ready.{IsReady}
use Rattle.point_rows.specs.declared.later.Later.{Later}
use Rattle.point_rows.specs.Rows.{known_now}
use Rattle.scope_entries.specs.Entries.{line_cell, plain_now, own_of, Goes, IsOwnLine, AreOwnLines, cells_at}
use Rattle.scope_entries.specs.Entries.{IsDecided, IsHeldUp, IsCircle, IsCovered, IsRound, IsRoundOf, AreCovered}
use Rattle.scope_entries.specs.declared.settling.Round.{Round}
use Rattle.scope_entries.specs.declared.settling.Round.TheVariants as round
use Rattle.scope_entries.proofs.GoesLemmas.{decided_on, decided_there, goes_nowhere, goes_on}
use Rattle.scope_entries.proofs.OwnLemmas.{own_line}
use Rattle.scope_entries.proofs.LineLemmas.{each_more}

-- ---- a cell that is waited for is missing

finished_waits : {C A : Type 0} (o : Option A) (c : C) → finished o ≡ waits c → ⊥
finished_waits (Some x) c e = cc
finished_waits None c e = cc

-- the cell that a reading waits for
awaited_by : {A : Type 0} (q : Cell → Known Json) (d : Cell) (k : Option Json → Told Cell A) (u : Known Json) (c : Cell)
    → q d ≡ u → ((v : Option Json) → k v ≡ waits c → q c ≡ missing) → by_entry d k u ≡ waits c → q c ≡ missing
awaited_by q d k (known v) c e f h = f (Some v) h
awaited_by q d k absent c e f h = f None h
awaited_by q d k missing c e f h = let same : d ≡ c = cc in ap q (sym same) ∙ e

awaited : {A : Type 0} (q : Cell → Known Json) (r : Reads A) (c : Cell) → told q r ≡ waits c → q c ≡ missing
unfolding told
awaited q (done o) c h = absurd (finished_waits o c h)
awaited q (ask d k) c h = awaited_by q d (λ v. told q (k v)) (q d) c refl (λ v. awaited q (k v) c) h

-- ---- lists

each_at : (P : ℕ → Type 0) (xs : List ℕ) → ((k : ℕ) → k < length xs → P (get_or xs k 0)) → Each P xs
each_at P [] f = tt
each_at P (x ∷ xs) f = (f zero (omega arith), each_at P xs (λ k h. f (suc k) (omega (arith, h))))

each_has : (P : ℕ → Type 0) (xs : List ℕ) (x : ℕ) → Each P xs → Has x xs → P x
each_has P [] x e h = absurd h
each_has P (y ∷ ys) x e (inl q) = subst P q e.0
each_has P (y ∷ ys) x e (inr q) = each_has P ys x e.1 q

first_has : (xs : List ℕ) → 0 < length xs → Has (get_or xs 0 0) xs
first_has [] h = absurd (omega (arith, h))
first_has (x ∷ xs) h = inl refl

length_more : (xs : List ℕ) (x : ℕ) → length (xs ++ x ∷ []) ≡ length xs + 1
length_more [] x = omega arith
length_more (y ∷ ys) x = let rest = length_more ys x in omega (arith, rest)

-- ---- one round

-- after some lines of a round
pub record IsSoFar (on : Bool) (t : Table) (f : ℕ) (l m : Later) (pending : List ℕ) (i : ℕ) (left : List ℕ)
    : Type 0 where
  pub goes : Goes t l m
  pub inside : i ≤ length pending
  pub few : length left ≤ i
  pub own : AreOwnLines t f left
  pub covered : (k : ℕ) → k < i → IsCovered on t m left (get_or pending k 0)
  pub held : length left ≡ i → Each (λ j. IsHeldUp t m f (line_cell t j)) left

module _ (on : Bool) (t : Table) (f : ℕ) (l : Later) (pending : List ℕ) where
  pub round_begins : (left : List ℕ) → left ≡ [] → IsSoFar on t f l l pending 0 left
  round_begins left e = record {
    goes = goes_nowhere t l;
    inside = omega arith;
    few = subst (λ (xs : List ℕ). length xs ≤ 0) (sym e) (omega arith);
    own = subst (AreOwnLines t f) (sym e) tt;
    covered = λ k h. absurd (omega (arith, h));
    held = λ q. subst (Each (λ j. IsHeldUp t l f (line_cell t j))) (sym e) tt;
  }

  covered_on : (m n : Later) (left : List ℕ) (j : ℕ) → Goes t m n → IsCovered on t m left j → IsCovered on t n left j
  covered_on m n left j g (inl s) = inl (decided_on on t m n (line_cell t j) g.grows s)
  covered_on m n left j g (inr h) = inr h

  -- the next line is settled
  pub round_kept : (m n : Later) (i : ℕ) (left : List ℕ) → i < length pending → IsSoFar on t f l m pending i left
      → Goes t m n → IsDecided on t n (line_cell t (get_or pending i 0)) → IsSoFar on t f l n pending (i + 1) left
  round_kept m n i left h s g k = record {
    goes = goes_on t l m n s.goes g;
    inside = omega (arith, h);
    few = let few = s.few in omega (arith, few);
    own = s.own;
    covered = λ j q. next j (lt_or_is j i q);
    held = λ q. let few = s.few in absurd (omega (arith, few, q));
  }
    where
      next : (j : ℕ) → (j < i) ⊎ (j ≡ i) → IsCovered on t n left (get_or pending j 0)
      next j (inl q) = covered_on m n left (get_or pending j 0) g (s.covered j q)
      next j (inr q) = inl (subst (λ (z : ℕ). IsDecided on t n (line_cell t (get_or pending z 0))) (sym q) k)

  -- the next line is left
  pub round_left : (m n : Later) (i : ℕ) (left more : List ℕ) → i < length pending → IsSoFar on t f l m pending i left
      → Goes t m n → n ≡ m → IsHeldUp t m f (line_cell t (get_or pending i 0))
      → IsOwnLine t f (get_or pending i 0) → more ≡ left ++ get_or pending i 0 ∷ []
      → IsSoFar on t f l n pending (i + 1) more
  round_left m n i left more h s g same held own e = record {
    goes = goes_on t l m n s.goes g;
    inside = omega (arith, h);
    few = let few = s.few in omega (arith, few, long);
    own = subst (AreOwnLines t f) (sym e) (each_more (IsOwnLine t f) left (get_or pending i 0) s.own own);
    covered = λ j q. next j (lt_or_is j i q);
    held = λ q. held_by (omega (arith, q, long));
  }
    where
      long : length more ≡ length left + 1
      long = ap length e ∙ length_more left (get_or pending i 0)

      among : (j : ℕ) → IsCovered on t m left j → IsCovered on t n more j
      among j (inl s) = inl (decided_on on t m n (line_cell t j) g.grows s)
      among j (inr h) = inr (subst (Has j) (sym e) (has_left j left (get_or pending i 0 ∷ []) h))

      next : (j : ℕ) → (j < i) ⊎ (j ≡ i) → IsCovered on t n more (get_or pending j 0)
      next j (inl q) = among (get_or pending j 0) (s.covered j q)
      next j (inr q) =
          inr (subst (Has (get_or pending j 0)) (sym e)
          (has_right (get_or pending j 0) left (get_or pending i 0 ∷ [])
          (inl (ap (λ (z : ℕ). get_or pending z 0) (sym q)))))

      held_by : length left ≡ i → Each (λ j. IsHeldUp t n f (line_cell t j)) more
      held_by q =
          subst (λ (z : Later). Each (λ j. IsHeldUp t z f (line_cell t j)) more) (sym same)
          (subst (Each (λ j. IsHeldUp t m f (line_cell t j))) (sym e)
          (each_more (λ j. IsHeldUp t m f (line_cell t j)) left (get_or pending i 0) (s.held q) held))

  pub round_ends : (m : Later) (i : ℕ) (left : List ℕ) → length pending ≤ i → IsSoFar on t f l m pending i left
      → IsRound on t m f pending left
  round_ends m i left h s =
      let all : i ≡ length pending = let inside = s.inside in omega (arith, inside, h) in
      record {
        few = subst (λ (k : ℕ). length left ≤ k) all s.few;
        own = s.own;
        covered = each_at (IsCovered on t m left) pending
            (λ k q. s.covered k (subst (λ (n : ℕ). k < n) (sym all) q));
        held = λ q. s.held (q ∙ sym all);
      }

-- a line of those that are told
pub own_at : (t : Table) (f : ℕ) (js : List ℕ) (i : ℕ) → i < length js → AreOwnLines t f js
    → IsOwnLine t f (get_or js i 0)
own_at t f [] i h a = absurd (omega (arith, h))
own_at t f (j ∷ js) zero h a = a.0
own_at t f (j ∷ js) (suc i) h a = own_at t f js i (omega (arith, h)) a.1

-- ---- rounds

module _ (on : Bool) (t : Table) (f : ℕ) (m : Later) (pending left : List ℕ) (one : IsRound on t m f pending left) where
  -- what is covered by lines is covered by those that are left
  pub covered_left : (l : Later) → Goes t l m → AreCovered on t l f pending → AreCovered on t m f left
  covered_left l g a c h = by_cover (a c h)
    where
      by_line : (j : ℕ) → line_cell t j ≡ c → IsCovered on t m left j → IsDecided on t m c ⊎ Has c (cells_at t left)
      by_line j e (inl s) = inl (subst (IsDecided on t m) e s)
      by_line j e (inr h) = inr (subst (λ (d : Cell). Has d (cells_at t left)) e (has_map (line_cell t) j left h))

      by_cover : IsDecided on t l c ⊎ Has c (cells_at t pending) → IsDecided on t m c ⊎ Has c (cells_at t left)
      by_cover (inl s) = inl (decided_on on t l m c g.grows s)
      by_cover (inr h) =
          let j = has_mapped (line_cell t) c pending h in
          by_line j.0 j.1.1 (each_has (IsCovered on t m left) pending j.0 one.covered j.1.0)

  module _ (ready : IsReady t) (there : f < length t.frames.items) (covered : AreCovered on t m f left)
      (same : length left ≡ length pending) (some : 0 < length pending) where
    own_in : (e : Cell) → Has e (cells_at t left) → Has e (own_of t f)
    own_in e h =
        let j = has_mapped (line_cell t) e left h in
        subst (λ (d : Cell). Has d (own_of t f)) j.1.1
        (own_line t f ready there j.0 (each_has (IsOwnLine t f) left j.0 one.own j.1.0))

    awaits : (e d : Cell) → Has d (own_of t f) → plain_now t m e ≡ waits d
        → IsDecided on t m d ⊎ Has d (cells_at t left) → Has d (cells_at t left)
    awaits e d o w (inl s) =
        absurd (subst IsThere (awaited (known_now t m) (plain (whole_of t) e) d w) (decided_there on t m d s))
    awaits e d o w (inr h) = h

    pub circle : IsCircle on t m f (line_cell t (get_or left 0 0))
    circle = record {
      cells = cells_at t left;
      has = has_map (line_cell t) (get_or left 0 0) left (first_has left (omega (arith, same, some)));
      own = own_in;
      awaits = λ e h. by_line e (has_mapped (line_cell t) e left h);
      others = covered;
    }
      where
        by_held : (e : Cell) (j : ℕ) → line_cell t j ≡ e → IsHeldUp t m f (line_cell t j)
            → (d : Cell) × (Has d (cells_at t left) × (plain_now t m e ≡ waits d))
        by_held e j q h = (
          h.other,
          (
            awaits (line_cell t j) h.other h.is_own h.is_awaited (covered h.other h.is_own),
            ap (plain_now t m) (sym q) ∙ h.is_awaited,
          ),
        )

        by_line : (e : Cell) → (j : ℕ) × (Has j left × (line_cell t j ≡ e))
            → (d : Cell) × (Has d (cells_at t left) × (plain_now t m e ≡ waits d))
        by_line e j =
            by_held e j.0 j.1.1 (each_has (λ j. IsHeldUp t m f (line_cell t j)) left j.0 (one.held same) j.1.0)

    -- the line that was read
    pub circle_at : (j : ℕ) → j ≡ get_or left 0 j → IsCircle on t m f (line_cell t j)
    circle_at j e =
        subst (λ (k : ℕ). IsCircle on t m f (line_cell t k))
        (sym (get_or_read left 0 j (omega (arith, same, some)) e 0)) circle

-- a round that left lines
pub round_of : (on : Bool) (t : Table) (f : ℕ) (m : Later) (slice pending : List ℕ) (r : Round) (left : Vec ℕ Global)
    → slice ≡ pending → r ≡ round.Left left → IsRoundOf on t m f slice r → IsRound on t m f pending left.items
round_of on t f m slice pending r left e g h =
    subst (λ (js : List ℕ). IsRound on t m f js left.items) e (subst (IsRoundOf on t m f slice) g h)

-- no line is left
pub all_settled : (on : Bool) (t : Table) (f : ℕ) (m : Later) (pending : List ℕ) → length pending ≤ 0
    → AreCovered on t m f pending → (c : Cell) → Has c (own_of t f) → IsDecided on t m c
all_settled on t f m [] h a c o = elim (a c o) [
  | inl s ↦ s
  | inr q ↦ absurd q
]
all_settled on t f m (j ∷ js) h a c o = absurd (omega (arith, h))
