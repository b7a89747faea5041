-- The numbers of instances stay those of the lines, as a line gets a state, lines are listed and a scope is opened.
use Rattle.std.proofs.Common.{◌≡◌, ◌⊎◌, inl, inr, ℕ, zero, suc, ◌+◌, ◌<◌, ◌≤◌, Bool, true, false, List, [], ◌∷◌, ◌++◌}
use Rattle.std.proofs.Common.{map, length, get_or, set, Some, Result, Ok, Err, refl, sym, ap, subst, ◌∙◌, arith}
use Rattle.std.proofs.Common.{length-append}
use Rattle.std.proofs.lemmas.List.{length-set, get_or-set_same, get_or-set_other}
use Rattle.std.proofs.Math.ListN.{get_or-append}
use Rattle.std.specs.Prelude.{nat_eq, IfOk, if◌then◌else◌}
use Rattle.std.proofs.lemmas.Bool.{cases_eq}
use Rattle.foundation.proofs.Comparisons.{eq_itself, lt_suc_or_is}
use Rattle.arm_value.specs.View.{json}
use Rattle.arm_value.specs.declared.value.Value.{Value}
use Rattle.plan_filling.specs.Cells.{copies}
use Rattle.plan_filling.specs.Meaning.{Deployment}
use Rattle.plan_filling.specs.Rows as rows
use Rattle.plan_filling.specs.Rows.{Row, row_at, IsUnfinished}
use Rattle.plan_filling.specs.Limits as limits
use Rattle.plan_filling.specs.declared.sheet.Halt.TheVariants as halt
use Rattle.template_parts.specs.declared.limit.Which.TheVariants as which
use Rattle.plan_table.specs.declared.line.Line.{Line}
use Rattle.plan_table.specs.declared.line.Spot.{Spot}
use Rattle.plan_table.specs.declared.line.Spot.TheVariants.{Parameter, Variable, Offered, Output, Count, Included}
use Rattle.plan_table.specs.declared.line.Spot.TheVariants.{Name, Deployments}
use Rattle.plan_table.specs.declared.line.State.{State}
use Rattle.plan_table.specs.declared.line.State.TheVariants as how
use Rattle.plan_table.specs.Opened.{Opened}
use Rattle.plan_table.specs.Lines.{frame_of, status_in, rows_of}
use Rattle.plan_table.specs.Lines.{new_line, line_at, with_state}
use Rattle.plan_table.specs.Keys.{Index}
use Rattle.plan_table.specs.Laid.{Laid, IsAlone}
use Rattle.plan_table.specs.declared.table.Table.{Table}
use Rattle.plan_table.specs.Whole.{scopes_of}
use Rattle.plan_table.specs.Counted.{IsCounted, numbers_of, listed_by, listed_in, any_scope, Numbers}
use Rattle.plan_table.specs.Counted.{number_at, AreNumbers}
use Rattle.plan_table.proofs.LaidLemmas.{row_here, length_rows}

-- ---- what lines list

listed_new : (f : ℕ → Bool) (ss : List Spot) → listed_in f (map new_line ss) ≡ 0
listed_new f [] = refl
listed_new f (s ∷ ss) = let e = listed_new f ss in omega (arith, e)

listed_joined : (f : ℕ → Bool) (xs ys : List Line) → listed_in f (xs ++ ys) ≡ listed_in f xs + listed_in f ys
listed_joined f [] ys = omega arith
listed_joined f (x ∷ xs) ys =
    let rest : listed_in f (xs ++ ys) ≡ listed_in f xs + listed_in f ys = listed_joined f xs ys in omega (arith, rest)

listed_set : (f : ℕ → Bool) (ls : List Line) (j : ℕ) (l : Line) → j < length ls
    → listed_in f (set ls j l) + listed_by f (line_at ls j).state (line_at ls j).spot
    ≡ listed_in f ls + listed_by f l.state l.spot
listed_set f [] j l h = absurd (omega (arith, h))
listed_set f (x ∷ xs) zero l h = omega arith
listed_set f (x ∷ xs) (suc j) l h =
    let rest : listed_in f (set xs j l) + listed_by f (line_at xs j).state (line_at xs j).spot
    ≡ listed_in f xs + listed_by f l.state l.spot = listed_set f xs j l (omega (arith, h)) in omega (arith, rest)

unfinished_none : (f : ℕ → Bool) (x : State) (s : Spot) → IsUnfinished (status_in x) → listed_by f x s ≡ 0
unfinished_none f how.New s u = refl
unfinished_none f how.Open s u = refl
unfinished_none f (how.Value v) s u = absurd u
unfinished_none f how.Empty s u = absurd u
unfinished_none f (how.Late k) s u = absurd u

pub unfinished_line : (os : List Opened) (ls : List Line) (at : ℕ) → at < length ls
    → IsUnfinished (row_at (rows_of os ls) at).status → IsUnfinished (status_in (line_at ls at).state)
unfinished_line os ls at h u = subst (λ (r : Row). IsUnfinished r.status) (row_here os ls at h) u

module _ (ls : List Line) (at : ℕ) (x : State) (g : ℕ) (h : at < length ls)
    (open0 : IsUnfinished (status_in (line_at ls at).state)) where
  -- a cell that is not finished lists nothing
  listed_with : (f : ℕ → Bool) → listed_in f (with_state ls at x g)
      ≡ listed_in f ls + listed_by f x (line_at ls at).spot
  listed_with f =
      let e = listed_set f ls at (record { spot = (line_at ls at).spot; state = x; opened = g }) h in
      let z = unfinished_none f (line_at ls at).state (line_at ls at).spot open0 in
      omega (arith, e, z)

  -- a state that lists nothing
  pub numbers_set : (os : List Opened) (n : Numbers) → ((f : ℕ → Bool) → listed_by f x (line_at ls at).spot ≡ 0)
      → AreNumbers os ls n → AreNumbers os (with_state ls at x g) n
  numbers_set os n z a = record {
    long = a.long;
    each = λ f l. (let e = a.each f l in let w = listed_with (nat_eq f) in let o = z (nat_eq f) in
        omega (arith, e, w, o));
    few = a.few;
    all = (let e = a.all in let w = listed_with any_scope in let o = z any_scope in omega (arith, e, w, o));
    within = a.within;
  }

-- lines are listed after others
pub numbers_joined : (os : List Opened) (ls : List Line) (ss : List Spot) (n : Numbers) → AreNumbers os ls n
    → AreNumbers os (ls ++ map new_line ss) n
numbers_joined os ls ss n a = record {
  long = a.long;
  each = λ f l. (let e = a.each f l in let j = listed_joined (nat_eq f) ls (map new_line ss) in
      let z = listed_new (nat_eq f) ss in omega (arith, e, j, z));
  few = a.few;
  all = (let e = a.all in let j = listed_joined any_scope ls (map new_line ss) in let z = listed_new any_scope ss in
      omega (arith, e, j, z));
  within = a.within;
}

-- ---- a scope is opened

never_same : (a b : ℕ) → b < a → nat_eq a b ≡ false
never_same a b k = grind (arith, k)

none_of_line : (m : ℕ) (x : State) (s : Spot) → frame_of s < m → listed_by (nat_eq m) x s ≡ 0
none_of_line m how.New s k = refl
none_of_line m how.Open s k = refl
none_of_line m how.Empty s k = refl
none_of_line m (how.Late y) s k = refl
none_of_line m (how.Value v) (Count g r) k = let e : nat_eq m g ≡ false = never_same m g k in rw e refl
none_of_line m (how.Value v) (Parameter g r) k = refl
none_of_line m (how.Value v) (Variable g r) k = refl
none_of_line m (how.Value v) (Offered g r) k = refl
none_of_line m (how.Value v) (Output g r) k = refl
none_of_line m (how.Value v) (Included g r i) k = refl
none_of_line m (how.Value v) (Name g r i) k = refl
none_of_line m (how.Value v) (Deployments g) k = refl

none_of_new : (ls : List Line) (m : ℕ) → ((j : ℕ) → j < length ls → frame_of (line_at ls j).spot < m)
    → listed_in (nat_eq m) ls ≡ 0
none_of_new [] m h = refl
none_of_new (l ∷ ls) m h =
    let one = none_of_line m l.state l.spot (h 0 (omega arith)) in
    let rest = none_of_new ls m (λ j k. h (suc j) (omega (arith, k))) in omega (arith, one, rest)

last_number : (xs : List ℕ) (n : ℕ) → get_or (xs ++ n ∷ []) (length xs) 0 ≡ n
last_number [] n = refl
last_number (x ∷ xs) n = last_number xs n

pub numbers_framed : (d : Deployment) (os us : List Opened) (ix : Index) (ls : List Line) (o : Opened) (n : Numbers)
    → Laid d os ix ls → us ≡ os ++ o ∷ [] → AreNumbers os ls n
    → AreNumbers us ls (record { of_scopes = n.of_scopes ++ 0 ∷ []; of_all = n.of_all })
numbers_framed d os us ix ls o n laid e a =
    subst (λ (vs : List Opened). AreNumbers vs ls (record { of_scopes = n.of_scopes ++ 0 ∷ []; of_all = n.of_all }))
    (sym e) (record {
      long = (let k = length-append n.of_scopes (0 ∷ []) in let j = length-append os (o ∷ []) in let l = a.long in
          omega (arith, k, j, l));
      each = λ f h. elim (which f h) [
        | inl l ↦ kept f l ∙ a.each f l
        | inr q ↦ fresh f q ∙ sym (none f q)
      ];
      few = λ f h. elim (which f h) [
        | inl l ↦ (let k = kept f l in let w = a.few f l in omega (arith, k, w))
        | inr q ↦ (let k = fresh f q in omega (arith, k))
      ];
      all = a.all;
      within = a.within;
    })
  where
    which : (f : ℕ) → f < length (os ++ o ∷ []) → (f < length os) ⊎ (f ≡ length os)
    which f h = lt_suc_or_is f (length os) (let j = length-append os (o ∷ []) in omega (arith, j, h))

    kept : (f : ℕ) → f < length os → get_or (n.of_scopes ++ 0 ∷ []) f 0 ≡ get_or n.of_scopes f 0
    kept f l = get_or-append n.of_scopes (0 ∷ []) 0 f (let k = a.long in omega (arith, k, l))

    fresh : (f : ℕ) → f ≡ length os → get_or (n.of_scopes ++ 0 ∷ []) f 0 ≡ 0
    fresh f q =
        ap (λ m. get_or (n.of_scopes ++ 0 ∷ []) m 0) (q ∙ sym a.long) ∙ last_number n.of_scopes 0

    none : (f : ℕ) → f ≡ length os → listed_in (nat_eq f) ls ≡ 0
    none f q =
        ap (λ m. listed_in (nat_eq m) ls) q ∙ none_of_new ls (length os) (λ j h. (laid.placed j h).there)

-- ---- a count lists more

pub other_number : (f g : ℕ) → (f ≡ g → ⊥) → nat_eq f g ≡ false
other_number f g n = grind (arith, n)

module _ (os : List Opened) (ls : List Line) (at f r c : ℕ) (v : Value) (n : Numbers) (h : at < length ls)
    (open0 : IsUnfinished (row_at (rows_of os ls) at).status) (is : (line_at ls at).spot ≡ Count f r)
    (number : c ≡ copies (Some (json v))) (there : f < length os) (a : AreNumbers os ls n) where
  listed_more : (g : ℕ → Bool) → listed_in g (with_state ls at (how.Value v) 0)
      ≡ listed_in g ls + (if g f then copies (Some (json v)) else 0)
  listed_more g =
      listed_with ls at (how.Value v) 0 h (unfinished_line os ls at h open0) g
      ∙ ap (λ (s : Spot). listed_in g ls + listed_by g (how.Value v) s) is

  listed_here : listed_in (nat_eq f) (with_state ls at (how.Value v) 0) ≡ listed_in (nat_eq f) ls + c
  listed_here =
      listed_more (nat_eq f)
      ∙ ap (λ (b : Bool). listed_in (nat_eq f) ls + (if b then copies (Some (json v)) else 0)) (eq_itself f)
      ∙ ap (λ m. listed_in (nat_eq f) ls + m) (sym number)

  listed_there : (g : ℕ) → (g ≡ f → ⊥) → listed_in (nat_eq g) (with_state ls at (how.Value v) 0)
      ≡ listed_in (nat_eq g) ls
  listed_there g d =
      listed_more (nat_eq g)
      ∙ ap (λ (b : Bool). listed_in (nat_eq g) ls + (if b then copies (Some (json v)) else 0)) (other_number g f d)
      ∙ omega arith

  pub numbers_more : (m : Numbers) → m.of_scopes ≡ set n.of_scopes f (number_at n f + c) → number_at n f + c ≤ 800
      → m.of_all ≡ n.of_all + c → n.of_all + c ≤ 2000 → AreNumbers os (with_state ls at (how.Value v) 0) m
  numbers_more m s w t u = record {
    long = ap length s ∙ length-set n.of_scopes f (number_at n f + c) ∙ a.long;
    each = λ g l. elim (cases_eq g f) [
      | inl e ↦ (let k = here g e in let x = a.each f there in let y = listed_here in
          let z : listed_in (nat_eq g) (with_state ls at (how.Value v) 0)
          ≡ listed_in (nat_eq f) (with_state ls at (how.Value v) 0)
          = ap (λ i. listed_in (nat_eq i) (with_state ls at (how.Value v) 0)) e in omega (arith, k, x, y, z))
      | inr d ↦ others g d ∙ a.each g l ∙ sym (listed_there g d)
    ];
    few = λ g l. elim (cases_eq g f) [
      | inl e ↦ (let k = here g e in omega (arith, k, w))
      | inr d ↦ (let k = others g d in let x = a.few g l in omega (arith, k, x))
    ];
    all = t ∙ (let x = a.all in let y = listed_more any_scope in omega (arith, x, y, number));
    within = omega (arith, t, u);
  }
    where
      here : (g : ℕ) → g ≡ f → number_at m g ≡ number_at n f + c
      here g e =
          ap (λ i. get_or m.of_scopes i 0) e ∙ ap (λ (xs : List ℕ). get_or xs f 0) s
          ∙ get_or-set_same n.of_scopes f (number_at n f + c) 0 (let l = a.long in omega (arith, l, there))

      others : (g : ℕ) → (g ≡ f → ⊥) → number_at m g ≡ number_at n g
      others g d =
          ap (λ (xs : List ℕ). get_or xs g 0) s ∙ get_or-set_other n.of_scopes f g (number_at n f + c) 0 d

-- ---- what functions list

module _ (os : List Opened) (ls ms : List Line) (at : ℕ) (n : Numbers) (h : at < length (rows_of os ls))
    (open0 : IsUnfinished (row_at (rows_of os ls) at).status) (a : AreNumbers os ls n) where
  here : at < length ls
  here = let k = length_rows os ls in omega (arith, k, h)

  -- a mark
  pub marked_counted : (x : State) → ((f : ℕ → Bool) (s : Spot) → listed_by f x s ≡ 0) → ms ≡ with_state ls at x 0
      → AreNumbers os ms n
  marked_counted x z e =
      subst (λ (xs : List Line). AreNumbers os xs n) (sym e)
      (numbers_set ls at x 0 here (unfinished_line os ls at here open0) os n (λ f. z f (line_at ls at).spot) a)

  -- a value that opens nothing
  pub alone_counted : (v : Value) → IsAlone os (line_at ls at).spot (json v) → ms ≡ with_state ls at (how.Value v) 0
      → AreNumbers os ms n
  alone_counted v o e =
      subst (λ (xs : List Line). AreNumbers os xs n) (sym e)
      (numbers_set ls at (how.Value v) 0 here (unfinished_line os ls at here open0) os n
      (λ f. lists f (line_at ls at).spot o) a)
    where
      nothing : (b : Bool) → copies (Some (json v)) ≡ 0 → (if b then copies (Some (json v)) else 0) ≡ 0
      nothing true q = q
      nothing false q = refl

      lists : (f : ℕ → Bool) (s : Spot) → IsAlone os s (json v) → listed_by f (how.Value v) s ≡ 0
      lists f (Count g r) q = nothing (f g) q
      lists f (Parameter g r) q = refl
      lists f (Variable g r) q = refl
      lists f (Offered g r) q = refl
      lists f (Output g r) q = refl
      lists f (Included g r i) q = refl
      lists f (Name g r i) q = refl
      lists f (Deployments g) q = refl

pub joined_counted : {X E : Type 0} (o : Result X E) (os : List Opened) (ls ms : List Line) (ss : List Spot)
    (n : Numbers) → AreNumbers os ls n → IfOk o (λ _. ms ≡ ls ++ map new_line ss) → IfOk o (λ _. AreNumbers os ms n)
joined_counted (Ok x) os ls ms ss n a e =
    subst (λ (xs : List Line). AreNumbers os xs n) (sym e) (numbers_joined os ls ss n a)
joined_counted (Err x) os ls ms ss n a e = tt

-- the condition of an output
pub offered_counted : {X E : Type 0} (o : Result X E) (os : List Opened) (ls ms : List Line) (at f k : ℕ) (v : Value)
    (ss : List Spot) (n : Numbers) → at < length ls → IsUnfinished (row_at (rows_of os ls) at).status
    → (line_at ls at).spot ≡ Offered f k → AreNumbers os ls n
    → IfOk o (λ _. ms ≡ with_state ls at (how.Value v) 0 ++ map new_line ss) → IfOk o (λ _. AreNumbers os ms n)
offered_counted o os ls ms at f k v ss n h u is a e =
    joined_counted o os (with_state ls at (how.Value v) 0) ms ss n
    (numbers_set ls at (how.Value v) 0 h (unfinished_line os ls at h u) os n
    (λ g. ap (λ (s : Spot). listed_by g (how.Value v) s) is) a) e

-- a scope
pub scope_counted : {X E : Type 0} (o : Result X E) (d : Deployment) (os us : List Opened) (ix : Index)
    (ls ks ms : List Line) (at f r i g : ℕ) (v : Value) (new : Opened) (ss : List Spot) (n m : Numbers)
    → Laid d os ix ls → at < length ls → IsUnfinished (row_at (rows_of os ls) at).status
    → (line_at ls at).spot ≡ Included f r i → us ≡ os ++ new ∷ [] → ks ≡ ls
    → m.of_scopes ≡ n.of_scopes ++ 0 ∷ [] → m.of_all ≡ n.of_all → AreNumbers os ls n
    → IfOk o (λ _. ms ≡ with_state ks at (how.Value v) g ++ map new_line ss) → IfOk o (λ _. AreNumbers us ms m)
scope_counted o d os us ix ls ks ms at f r i g v new ss n m laid h u is more same s t a e =
    joined_counted o us (with_state ks at (how.Value v) g) ms ss m
    (subst (λ (xs : List Line). AreNumbers us (with_state xs at (how.Value v) g) m) (sym same)
    (numbers_set ls at (how.Value v) g h (unfinished_line os ls at h u) us m
    (λ b. ap (λ (y : Spot). listed_by b (how.Value v) y) is)
    (subst (λ (y : Numbers). AreNumbers us ls y) numbers (numbers_framed d os us ix ls new n laid more a)))) e
  where
    numbers : record { of_scopes = n.of_scopes ++ 0 ∷ []; of_all = n.of_all } ≡ m
    numbers = λ j. record { of_scopes = (sym s) j; of_all = (sym t) j }

abbrev one_zero : List ℕ
one_zero = 0 ∷ []

-- the root
pub begun_counted : {E : Type 0} (r : Result Table E) (tb : Table) (o : Opened) (ts : List Spot)
    → IfOk r (λ t. scopes_of t ≡ scopes_of tb) → scopes_of tb ≡ o ∷ [] → IfOk r (λ t. t.lines.items ≡ map new_line ts)
    → IfOk r (λ t. t.counts.items ≡ tb.counts.items) → IfOk r (λ t. t.instances ≡ tb.instances)
    → tb.counts.items ≡ one_zero → ◌≡◌ {A = ℕ} tb.instances 0 → IfOk r IsCounted
begun_counted (Err x) tb o ts a b c d e f g = tt
begun_counted (Ok t) tb o ts a b c d e f g =
    subst (λ (os : List Opened). AreNumbers os t.lines.items (numbers_of t)) (sym (a ∙ b))
    (subst (λ (ls : List Line). AreNumbers (o ∷ []) ls (numbers_of t)) (sym c)
    (subst (λ (n : Numbers). AreNumbers (o ∷ []) (map new_line ts) n) numbers begun))
  where
    numbers : record { of_scopes = 0 ∷ []; of_all = 0 } ≡ numbers_of t
    numbers = λ i. record { of_scopes = (sym (d ∙ f)) i; of_all = (sym (e ∙ g)) i }

    first : (f : ℕ) → f < 1 → ◌≡◌ {A = ℕ} (get_or one_zero f 0) 0
    first zero h = refl
    first (suc f) h = absurd (omega (arith, h))

    begun : AreNumbers (o ∷ []) (map new_line ts) (record { of_scopes = 0 ∷ []; of_all = 0 })
    begun = record {
      long = refl;
      each = λ f h. first f h ∙ sym (listed_new (nat_eq f) ts);
      few = λ f h. (let k = first f h in omega (arith, k));
      all = sym (listed_new any_scope ts);
      within = omega arith;
    }
