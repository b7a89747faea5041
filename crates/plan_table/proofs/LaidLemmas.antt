-- A table stays laid out as a line gets a state, lines are listed after all that are there, and a scope is opened.
use Rattle.std.proofs.Common.{◌≡◌, inl, inr, ℕ, zero, suc, ◌+◌, ◌-◌, ◌<◌, ◌≤◌, Bool, true, false, List, [], ◌∷◌}
use Rattle.std.proofs.Common.{◌++◌}
use Rattle.std.proofs.Common.{map, length, set, refl, sym, ap, subst, ◌∙◌, arith}
use Rattle.std.proofs.Common.{length-append}
use Rattle.std.proofs.lemmas.List.{length-set, length-map, get_or-set_same, get_or-set_other, get_or-map, map-append, append-nil}
use Rattle.std.proofs.lemmas.Bool.{cases_lt, cases_eq}
use Rattle.reading.specs.World.{Each}
use Rattle.arm_value.specs.declared.value.Value.{Value}
use Rattle.arm_ids.specs.declared.id.ResourceId.{ResourceId}
use Rattle.plan_filling.specs.Cells.{step, Cell, deployments}
use Rattle.plan_filling.specs.Resources.{nested_at}
use Rattle.plan_filling.specs.Meaning.{Deployment}
use Rattle.plan_filling.specs.Children.{Has}
use Rattle.plan_filling.specs.Rows.{Row, fresh, row_at, with_status}
use Rattle.plan_table.specs.declared.line.Line.{Line}
use Rattle.plan_table.specs.declared.line.Spot.{Spot}
use Rattle.plan_table.specs.declared.line.Spot.TheVariants.{Parameter, Variable, Offered, Output, Count, Included}
use Rattle.plan_table.specs.declared.line.Spot.TheVariants.{Name, Deployments}
use Rattle.plan_table.specs.declared.line.State.{State}
use Rattle.plan_table.specs.declared.line.State.TheVariants as how
use Rattle.plan_table.specs.Opened.{Opened, opened_at, IsKept}
use Rattle.plan_table.specs.Lines.{cell_of, IsDeclared, IsPlaced, status_in, row_of, rows_of, new_line}
use Rattle.plan_table.specs.Lines.{line_at}
use Rattle.plan_table.specs.Lines.{IsAt}
use Rattle.plan_table.specs.Keys.{Index, Indexes}
use Rattle.plan_table.specs.Laid.{HasCells, IsOpened, OpensBy, Opens, Laid}
use Rattle.plan_table.proofs.KeyLemmas.{get_after, line_before, spot_set, indexed_set}
use Rattle.plan_table.proofs.ScopeLemmas.{Extends, cell_still, placed_still, kept_still, extends_same}

-- ---- lines after others

pub each_at : (P : Spot → Type 0) (ss : List Spot) → Each P ss → (j : ℕ) → j < length (map new_line ss)
    → P (line_at (map new_line ss) j).spot
each_at P [] e j h = absurd (omega (arith, h))
each_at P (s ∷ ss) e zero h = e.0
each_at P (s ∷ ss) e (suc j) h = each_at P ss e.1 j (omega (arith, h))

pub all_new : (ss : List Spot) (j : ℕ) → j < length (map new_line ss) → (line_at (map new_line ss) j).state ≡ how.New
all_new [] j h = absurd (omega (arith, h))
all_new (s ∷ ss) zero h = refl
all_new (s ∷ ss) (suc j) h = all_new ss j (omega (arith, h))

-- a spot among those that are listed
record IsIn (ss : List Spot) (s : Spot) : Type 0 where
  line : ℕ
  listed : line < length (map new_line ss)
  is : (line_at (map new_line ss) line).spot ≡ s

is_in : (ss : List Spot) (s : Spot) → Has s ss → IsIn ss s
is_in [] s h = absurd h
is_in (t ∷ ss) s (inl e) = record { line = 0; listed = omega arith; is = e }
is_in (t ∷ ss) s (inr h) =
    let r = is_in ss s h in let l = r.listed in record { line = suc r.line; listed = omega (arith, l); is = r.is }

pub at_new : (ls : List Line) (ss : List Spot) (s : Spot) → Has s ss → IsAt (ls ++ map new_line ss) s
at_new ls ss s h =
    let r = is_in ss s h in record {
      line = length ls + r.line;
      listed = (let n = length-append ls (map new_line ss) in let l = r.listed in omega (arith, n, l));
      is = ap (λ x. x.spot) (get_after ls (map new_line ss) r.line (new_line (Deployments 0))) ∙ r.is;
    }

-- lines without a value open nothing
pub opens_new : (os : List Opened) (ls : List Line) (l : Line) → l.state ≡ how.New → Opens os ls l
opens_new os ls l e = subst (λ x. OpensBy os ls l.opened l.spot x) (sym e) (by_spot l.spot)
  where
    by_spot : (s : Spot) → OpensBy os ls l.opened s how.New
    by_spot (Parameter f n) = tt
    by_spot (Variable f n) = tt
    by_spot (Offered f n) = tt
    by_spot (Output f n) = tt
    by_spot (Count f r) = tt
    by_spot (Included f r i) = tt
    by_spot (Name f r i) = tt
    by_spot (Deployments f) = tt

pub opens_open : (os : List Opened) (ls : List Line) (g : ℕ) (s : Spot) → OpensBy os ls g s how.Open
opens_open os ls g (Parameter f n) = tt
opens_open os ls g (Variable f n) = tt
opens_open os ls g (Offered f n) = tt
opens_open os ls g (Output f n) = tt
opens_open os ls g (Count f r) = tt
opens_open os ls g (Included f r i) = tt
opens_open os ls g (Name f r i) = tt
opens_open os ls g (Deployments f) = tt

pub opens_empty : (os : List Opened) (ls : List Line) (g : ℕ) (s : Spot) → OpensBy os ls g s how.Empty
opens_empty os ls g (Parameter f n) = tt
opens_empty os ls g (Variable f n) = tt
opens_empty os ls g (Offered f n) = tt
opens_empty os ls g (Output f n) = tt
opens_empty os ls g (Count f r) = tt
opens_empty os ls g (Included f r i) = tt
opens_empty os ls g (Name f r i) = tt
opens_empty os ls g (Deployments f) = tt

pub opens_late : (os : List Opened) (ls : List Line) (g : ℕ) (k : ResourceId) (s : Spot)
    → OpensBy os ls g s (how.Late k)
opens_late os ls g k (Parameter f n) = tt
opens_late os ls g k (Variable f n) = tt
opens_late os ls g k (Offered f n) = tt
opens_late os ls g k (Output f n) = tt
opens_late os ls g k (Count f r) = tt
opens_late os ls g k (Included f r i) = tt
opens_late os ls g k (Name f r i) = tt
opens_late os ls g k (Deployments f) = tt

-- what is opened stays where more is listed
opened_still : (os us : List Opened) → Extends os us → (g f r i : ℕ) → f < length os → IsOpened os g f r i
    → IsOpened us g f r i
opened_still os us x g f r i h o = record {
  there = (let l = x.longer in let p = o.there in omega (arith, l, p));
  position = ap (λ y. y.position) (x.same g o.there) ∙ o.position
      ∙ ap (λ y. step r i ∷ y.position) (sym (x.same f h));
}

opens_by_still : (os us : List Opened) (ls ms : List Line) → Extends os us → ((s : Spot) → IsAt ls s → IsAt ms s)
    → (g : ℕ) (s : Spot) (x : State) → IsPlaced os s → OpensBy os ls g s x → OpensBy us ms g s x
opens_by_still os us ls ms e a g (Parameter f n) x p o = tt
opens_by_still os us ls ms e a g (Variable f n) x p o = tt
opens_by_still os us ls ms e a g (Output f n) x p o = tt
opens_by_still os us ls ms e a g (Name f r i) x p o = tt
opens_by_still os us ls ms e a g (Deployments f) x p o = tt
opens_by_still os us ls ms e a g (Offered f n) (how.Value v) p o = λ t. a (Output f n) (o t)
opens_by_still os us ls ms e a g (Offered f n) how.New p o = tt
opens_by_still os us ls ms e a g (Offered f n) how.Open p o = tt
opens_by_still os us ls ms e a g (Offered f n) how.Empty p o = tt
opens_by_still os us ls ms e a g (Offered f n) (how.Late k) p o = tt
opens_by_still os us ls ms e a g (Count f r) (how.Value v) p o =
    λ i l. (a (Included f r i) (o i l).0, a (Name f r i) (o i l).1)
opens_by_still os us ls ms e a g (Count f r) how.New p o = tt
opens_by_still os us ls ms e a g (Count f r) how.Open p o = tt
opens_by_still os us ls ms e a g (Count f r) how.Empty p o = tt
opens_by_still os us ls ms e a g (Count f r) (how.Late k) p o = tt
opens_by_still os us ls ms e a g (Included f r i) (how.Value v) p o =
    λ t n q. opened_still os us e g f r i p.there
    (o t n (ap (λ (y : Opened). nested_at y.template r) (sym (e.same f p.there)) ∙ q))
opens_by_still os us ls ms e a g (Included f r i) how.New p o = tt
opens_by_still os us ls ms e a g (Included f r i) how.Open p o = tt
opens_by_still os us ls ms e a g (Included f r i) how.Empty p o = tt
opens_by_still os us ls ms e a g (Included f r i) (how.Late k) p o = tt

module _ (d : Deployment) (os us : List Opened) (ix jx : Index) (ls : List Line) (at : ℕ) (l : Line) (ss : List Spot)
    (laid : Laid d os ix ls) (h : at < length ls) (same : l.spot ≡ (line_at ls at).spot) (ext : Extends os us) where
  abbrev pub after : List Line
  after = set ls at l ++ map new_line ss

  pub length_after : length after ≡ length ls + length (map new_line ss)
  length_after = length-append (set ls at l) (map new_line ss)
      ∙ (let n = length-set ls at l in omega (arith, n))

  line_old : (j : ℕ) → j < length ls → line_at after j ≡ line_at (set ls at l) j
  line_old j i = line_before (set ls at l) (map new_line ss) j (let n = length-set ls at l in omega (arith, i, n))

  line_it : line_at after at ≡ l
  line_it = line_old at h ∙ get_or-set_same ls at l (new_line (Deployments 0)) h

  line_other : (j : ℕ) → j < length ls → (j ≡ at → ⊥) → line_at after j ≡ line_at ls j
  line_other j i n = line_old j i ∙ get_or-set_other ls at j l (new_line (Deployments 0)) n

  spot_old : (j : ℕ) → j < length ls → (line_at after j).spot ≡ (line_at ls j).spot
  spot_old j i = ap (λ x. x.spot) (line_old j i) ∙ spot_set ls at l h same j

  line_new : (j : ℕ) → line_at after (length ls + j) ≡ line_at (map new_line ss) j
  line_new j =
      ap (λ k. line_at after (k + j)) (sym (length-set ls at l))
      ∙ get_after (set ls at l) (map new_line ss) j (new_line (Deployments 0))

  pub at_still : (s : Spot) → IsAt ls s → IsAt after s
  at_still s a = record {
    line = a.line;
    listed = (let i = a.listed in omega (arith, i, length_after));
    is = spot_old a.line a.listed ∙ a.is;
  }

  pub at_listed : (s : Spot) → Has s ss → IsAt after s
  at_listed s a = at_new (set ls at l) ss s a

  module _ (kept_new : (f : ℕ) → length os ≤ f → f < length us → IsKept d us f (opened_at us f))
      (cells_new : (f : ℕ) → length os ≤ f → f < length us → HasCells us after f)
      (placed_new : Each (IsPlaced us) ss) (opens_it : Opens us after l) (indexed : Indexes us jx after) where
    kept_after : (f : ℕ) → f < length us → IsKept d us f (opened_at us f)
    kept_after f i =
        elim (cases_lt f (length os)) [
          | inl k ↦ subst (λ o. IsKept d us f o) (sym (ext.same f k))
              (kept_still d os us ext f (opened_at os f) k (laid.kept f k))
          | inr k ↦ kept_new f k i
        ]

    cells_after : (f : ℕ) → f < length us → HasCells us after f
    cells_after f i =
        elim (cases_lt f (length os)) [
          | inl k ↦ λ s e o q. at_still s (laid.cells f k s e o (subst (λ y. IsDeclared y s) (ext.same f k) q))
          | inr k ↦ cells_new f k i
        ]

    beyond : (j : ℕ) → length ls ≤ j → j < length after
        → ((j - length ls) < length (map new_line ss)) × (length ls + (j - length ls) ≡ j)
    beyond j k i = (omega (arith, k, i, length_after), omega (arith, k))

    placed_after : (j : ℕ) → j < length after → IsPlaced us (line_at after j).spot
    placed_after j i =
        elim (cases_lt j (length ls)) [
          | inl k ↦ subst (λ s. IsPlaced us s) (sym (spot_old j k))
              (placed_still os us ext (line_at ls j).spot (laid.placed j k))
          | inr k ↦ (let b = beyond j k i in
              subst (λ n. IsPlaced us (line_at after n).spot) b.1
              (subst (λ (x : Line). IsPlaced us x.spot) (sym (line_new (j - length ls)))
              (each_at (IsPlaced us) ss placed_new (j - length ls) b.0)))
        ]

    opens_old : (j : ℕ) → j < length ls → (j ≡ at → ⊥) → Opens us after (line_at after j)
    opens_old j k n =
        subst (λ (x : Line). Opens us after x) (sym (line_other j k n))
        (opens_by_still os us ls after ext at_still (line_at ls j).opened (line_at ls j).spot (line_at ls j).state
        (laid.placed j k) (laid.opens j k))

    opens_at_it : (j : ℕ) → j ≡ at → Opens us after (line_at after j)
    opens_at_it j e =
        subst (λ n. Opens us after (line_at after n)) (sym e)
        (subst (λ (x : Line). Opens us after x) (sym line_it) opens_it)

    opens_listed : (j : ℕ) → length ls ≤ j → j < length after → Opens us after (line_at after j)
    opens_listed j k i =
        let b = beyond j k i in
        subst (λ n. Opens us after (line_at after n)) b.1
        (subst (λ (x : Line). Opens us after x) (sym (line_new (j - length ls)))
        (opens_new us after (line_at (map new_line ss) (j - length ls)) (all_new ss (j - length ls) b.0)))

    opens_after : (j : ℕ) → j < length after → Opens us after (line_at after j)
    opens_after j i =
        elim (cases_lt j (length ls)) [
          | inl k ↦ elim (cases_eq j at) [ inl e ↦ opens_at_it j e | inr n ↦ opens_old j k n ]
          | inr k ↦ opens_listed j k i
        ]

    pub laid_after : Laid d us jx after
    laid_after = record {
      some = (let a = laid.some in let b = ext.longer in omega (arith, a, b));
      root = ap (λ y. y.position) (ext.same 0 laid.some) ∙ laid.root;
      kept = kept_after;
      cells = cells_after;
      placed = placed_after;
      opens = opens_after;
      indexed = indexed;
    }

-- ---- rows

-- a line gets a state, and nothing is opened
pub laid_set : (d : Deployment) (os : List Opened) (ix : Index) (ls : List Line) (at : ℕ) (l : Line) → Laid d os ix ls
    → at < length ls → l.spot ≡ (line_at ls at).spot
    → ((ms : List Line) → OpensBy os ms l.opened l.spot l.state) → Laid d os ix (set ls at l)
laid_set d os ix ls at l laid h e o =
    subst (λ (xs : List Line). Laid d os ix xs) (append-nil (set ls at l))
    (laid_after d os os ix ix ls at l [] laid h e (extends_same os) (λ f a b. absurd (omega (arith, a, b)))
    (λ f a b. absurd (omega (arith, a, b))) tt (o (set ls at l ++ []))
    (subst (λ (xs : List Line). Indexes os ix xs) (sym (append-nil (set ls at l)))
    (indexed_set os ix ls at l h e laid.indexed)))

pub row_here : (os : List Opened) (ls : List Line) (j : ℕ) → j < length ls
    → row_at (rows_of os ls) j ≡ row_of os (line_at ls j)
row_here os ls j h = get_or-map (row_of os) ls j (new_line (Deployments 0)) (fresh (deployments [])) h

pub length_rows : (os : List Opened) (ls : List Line) → length (rows_of os ls) ≡ length ls
length_rows os ls = length-map ls (row_of os)

map_set : {A B : Type 0} (f : A → B) (xs : List A) (i : ℕ) (x : A) → map f (set xs i x) ≡ set (map f xs) i (f x)
map_set f [] i x = refl
map_set f (y ∷ ys) zero x = refl
map_set f (y ∷ ys) (suc i) x = ap (λ zs. f y ∷ zs) (map_set f ys i x)

-- a line with another state
pub rows_set : (os : List Opened) (ls : List Line) (at : ℕ) (l : Line) → at < length ls → l.spot ≡ (line_at ls at).spot
    → rows_of os (set ls at l) ≡ with_status (rows_of os ls) at (status_in l.state)
rows_set os ls at l h e =
    map_set (row_of os) ls at l
    ∙ ap (λ (c : Cell). set (rows_of os ls) at (let r : Row = record { cell = c; status = status_in l.state } in r))
    (ap (cell_of os) e ∙ sym (ap (λ (r : Row). r.cell) (row_here os ls at h)))

rows_new : (os : List Opened) (ss : List Spot) → rows_of os (map new_line ss) ≡ map fresh (map (cell_of os) ss)
rows_new os [] = refl
rows_new os (s ∷ ss) = ap (λ rs. fresh (cell_of os s) ∷ rs) (rows_new os ss)

-- of the old lines
rows_still : (os us : List Opened) → Extends os us → (ls : List Line)
    → ((j : ℕ) → j < length ls → IsPlaced os (line_at ls j).spot) → rows_of us ls ≡ rows_of os ls
rows_still os us x [] h = refl
rows_still os us x (l ∷ ls) h =
    ap (λ (c : Cell). (let r : Row = record { cell = c; status = status_in l.state } in r) ∷ rows_of us ls)
    (cell_still os us x l.spot (h 0 (omega arith)))
    ∙ ap (λ rs. row_of os l ∷ rs) (rows_still os us x ls (λ j i. h (suc j) (omega (arith, i))))

pub rows_after : (d : Deployment) (os us : List Opened) (ix : Index) (ls : List Line) (at : ℕ) (l : Line)
    (ss : List Spot) → Laid d os ix ls → at < length ls → l.spot ≡ (line_at ls at).spot → Extends os us
    → rows_of us (set ls at l ++ map new_line ss)
    ≡ with_status (rows_of os ls) at (status_in l.state) ++ map fresh (map (cell_of us) ss)
rows_after d os us ix ls at l ss laid h e x =
    map-append (row_of us) (set ls at l) (map new_line ss)
    ∙ ap (λ rs. rs ++ rows_of us (map new_line ss))
    (rows_set us ls at l h e
    ∙ ap (λ (rs : List Row). with_status rs at (status_in l.state)) (rows_still os us x ls laid.placed))
    ∙ ap (λ rs. with_status (rows_of os ls) at (status_in l.state) ++ rs) (rows_new us ss)

pub rows_of_new : (os : List Opened) (ss : List Spot) → rows_of os (map new_line ss) ≡ map fresh (map (cell_of os) ss)
rows_of_new os ss = rows_new os ss
