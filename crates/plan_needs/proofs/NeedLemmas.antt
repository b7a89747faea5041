-- The pairs that are listed are the needs of the tasks.
use Rattle.std.proofs.Common.{◌≡◌, inl, inr, ℕ, zero, suc, ◌+◌, ◌<◌, Bool, true, false, List}
use Rattle.std.proofs.Common.{[], ◌∷◌, ◌++◌, map}
use Rattle.std.proofs.Common.{length-append, length, Some, None, refl, ap, subst, ◌∙◌, arith}
use Rattle.std.proofs.lemmas.List.{length-map}
use Rattle.std.specs.Prelude.{slice_get, if◌then◌else◌}
use Rattle.arm_value.specs.Json.{Json}
use Rattle.arm_ids.specs.declared.id.ResourceId.{ResourceId}
use Rattle.reading.specs.World.{Each}
use Rattle.deploy_cells.specs.Cells.{step, Position}
use Rattle.tag_needs.specs.Tags as engine
use Rattle.tag_needs.proofs.PairLemmas.{listed_where_shared}
use Rattle.tag_needs.specs.Tags.{Tag, shares, needed, pairs_of, needs_from}
use Rattle.plan_cells.specs.Known as knowing
use Rattle.plan_cells.specs.Meaning.{Deployment}
use Rattle.plan_cells.specs.Tasks.{Task, enter, leave, delete}
use Rattle.plan_cells.specs.Needs.{started, ended}
use Rattle.plan_cells.specs.Plan.{Need, IsListed, AreNeeds}
use Rattle.name_tags.specs.TaskCodes.{AreDepending, IsNamed, MayBeNamed, IsTaskIn, task_tags, task_asks}
use Rattle.name_tags.proofs.TaskLemmas.{needs_coded}
use Rattle.plan_table.specs.declared.table.Table.{Table}
use Rattle.plan_table.specs.Opened.{Opened, opened_of}
use Rattle.plan_table.specs.Whole.{whole_of, scopes_of}
use Rattle.plan_table.specs.Found.{scope_at}
use Rattle.plan_tasks.specs.declared.task.ScopeTask.{ScopeTask}
use Rattle.plan_tasks.specs.declared.task.ScopeTask.TheVariants.{Enter, Put, Leave}
use Rattle.plan_tasks.specs.Start.{start_of, IsStartTable, IsInstance, IsTaskOf, task_of}
use Rattle.plan_openers.proofs.OpenerLemmas.{around, opener_there}
use Rattle.plan_needs.specs.Numbers.{is_here, number_in}
use Rattle.plan_needs.proofs.NumberLemmas.{numbering, here_at}
use Rattle.plan_needs.proofs.InstanceLemmas.{title, listed_there, name_there}
use Rattle.plan_needs.specs.Needs.{all_tasks, AreElements, IsBeforeAll, AreInOrder, AreWithin}
use Rattle.plan_needs.specs.Lists.{tags_of_task, tags_of_tasks, asks_of_tasks, tags_of_deletes}
use Rattle.plan_needs.specs.Lists.{asks_of_deletes}

-- ---- the pairs, in order

-- each is at or above the number, and below the end
abbrev pub AreFrom : ℕ → ℕ → List ℕ → Type 0
AreFrom j k [] = Unit {0}
AreFrom j k (n ∷ ns) = ((j < suc n) × (n < k)) × AreFrom (suc n) k ns

from_lower : (j m k : ℕ) (ns : List ℕ) → j < suc m → AreFrom m k ns → AreFrom j k ns
from_lower j m k [] h a = tt
from_lower j m k (n ∷ ns) h a = let l = a.0.0 in ((omega (arith, h, l), a.0.1), a.1)

by_share : (j k : ℕ) (ns : List ℕ) (b : Bool) → j < k → AreFrom (suc j) k ns → AreFrom j k (if b then j ∷ ns else ns)
by_share j k ns true h a = ((omega arith, h), a)
by_share j k ns false h a = from_lower j (suc j) k ns (omega arith) a

needed_from : (asks : List Tag) (j k : ℕ) (tags : List (List Tag)) → j + length tags ≡ k
    → AreFrom j k (needed asks j tags)
needed_from asks j k [] e = tt
needed_from asks j k (ts ∷ rest) e =
    by_share j k (needed asks (suc j) rest) (shares asks ts) (omega (arith, e))
    (needed_from asks (suc j) k rest (omega (arith, e)))

-- a pair with a lower first number is before all of these
abbrev pub AreAbove : ℕ → List Need → Type 0
AreAbove i [] = Unit {0}
AreAbove i (n ∷ ns) = i < n.0

before_above : (i j : ℕ) (ns : List Need) → AreAbove i ns → IsBeforeAll (i, j) ns
before_above i j [] h = tt
before_above i j (n ∷ ns) h = inl h

joined_order : (i j k : ℕ) (js : List ℕ) (ns : List Need) → AreFrom j k js → AreAbove i ns → AreInOrder ns
    → AreInOrder (pairs_of i js ++ ns)
joined_order i j k [] ns a h o = o
joined_order i j k (m ∷ []) ns a h o = (before_above i m ns h, o)
joined_order i j k (m ∷ l ∷ js) ns a h o =
    let le = a.1.0.0 in (inr (refl, omega (arith, le)), joined_order i (suc m) k (l ∷ js) ns a.1 h o)

above_joined : (i l : ℕ) (js : List ℕ) (ns : List Need) → i < l → AreAbove i ns → AreAbove i (pairs_of l js ++ ns)
above_joined i l [] ns h a = a
above_joined i l (j ∷ js) ns h a = h

above_lower : (i l : ℕ) (ns : List Need) → i < suc l → AreAbove l ns → AreAbove i ns
above_lower i l [] h a = tt
above_lower i l (n ∷ ns) h a = omega (arith, h, a)

pub listed_above : (i : ℕ) (asks tags : List (List Tag)) → AreAbove i (needs_from (suc i) asks tags)
listed_above i [] tags = tt
listed_above i (a ∷ rest) tags =
    above_joined i (suc i) (needed a 0 tags) (needs_from (suc (suc i)) rest tags) (omega arith)
    (above_lower i (suc i) (needs_from (suc (suc i)) rest tags) (omega arith) (listed_above (suc i) rest tags))

pub listed_in_order : (i : ℕ) (asks tags : List (List Tag)) → AreInOrder (needs_from i asks tags)
listed_in_order i [] tags = tt
listed_in_order i (a ∷ rest) tags =
    joined_order i 0 (length tags) (needed a 0 tags) (needs_from (suc i) rest tags)
    (needed_from a 0 (length tags) tags (omega arith)) (listed_above i rest tags) (listed_in_order (suc i) rest tags)

within_joined : (i j k : ℕ) (js : List ℕ) (ns : List Need) → i < k → AreFrom j k js → AreWithin k ns
    → AreWithin k (pairs_of i js ++ ns)
within_joined i j k [] ns h a w = w
within_joined i j k (m ∷ js) ns h a w = ((h, a.0.1), within_joined i (suc m) k js ns h a.1 w)

pub listed_within : (i k : ℕ) (asks tags : List (List Tag)) → i + length asks ≡ k → length tags ≡ k
    → AreWithin k (needs_from i asks tags)
listed_within i k [] tags e f = tt
listed_within i k (a ∷ rest) tags e f =
    within_joined i 0 k (needed a 0 tags) (needs_from (suc i) rest tags) (omega (arith, e))
    (needed_from a 0 k tags (omega (arith, f))) (listed_within (suc i) k rest tags (omega (arith, e)) f)

-- ---- the lists have one for each task

to_listed : (n : Need) (ns : List Need) → engine.IsListed n ns → IsListed n ns
to_listed n [] h = h
to_listed n (m ∷ ms) (inl e) = inl e
to_listed n (m ∷ ms) (inr h) = inr (to_listed n ms h)

of_listed : (n : Need) (ns : List Need) → IsListed n ns → engine.IsListed n ns
of_listed n [] h = h
of_listed n (m ∷ ms) (inl e) = inl e
of_listed n (m ∷ ms) (inr h) = inr (of_listed n ms h)

module _ (t : Table) (start : IsStartTable t) where
  abbrev pub d : Deployment
  d = whole_of t

  abbrev pub q : knowing.Table
  q = start_of t

  abbrev os : List Opened
  os = scopes_of t

  abbrev pub number : Position → ℕ
  number = number_in (scopes_of t)

  abbrev pub Here : Position → Type 0
  Here p = is_here (scopes_of t) p ≡ true

  scope_here : (f : ℕ) → f < length t.frames.items → Here (scope_at t f).position
  scope_here f h = here_at os f (let n = length-map t.frames.items opened_of in omega (arith, n, h))

  -- of a scope at a position
  entry_here : (g : ℕ) → g < length t.frames.items → (p : Position) → (scope_at t g).position ≡ p
      → IsTaskIn Here (enter p)
  entry_here g h [] e = subst Here e (scope_here g h)
  entry_here g h (s ∷ p) e =
      let a = around t g s p start h e in (
        subst Here e (scope_here g h),
        subst Here a.1 (scope_here (scope_at t g).around (let l = a.0 in omega (arith, l, h))),
      )

  leave_here : (g : ℕ) → g < length t.frames.items → (p : Position) → (scope_at t g).position ≡ p
      → IsTaskIn Here (leave p)
  leave_here g h [] e = subst Here e (scope_here g h)
  leave_here g h (s ∷ p) e = entry_here g h (s ∷ p) e

  task_here : (u : ScopeTask) → IsTaskOf t u → IsTaskIn Here (task_of os u)
  task_here (Enter g) h = entry_here g h (scope_at t g).position refl
  task_here (Put f r i) h = scope_here f h.0.there
  task_here (Leave g) h = leave_here g h (scope_at t g).position refl

  instance_named : (f r i : ℕ) → IsInstance t f r i → IsNamed d q ((scope_at t f).position, step r i)
  instance_named f r i h = record {
    listed = h.number.listed;
    title = title t f r i start h;
    is_listed = listed_there t f r i start h;
    has_name = name_there t f r i start h;
  }

  leave_named : (g : ℕ) → g < length t.frames.items → (p : Position) → (scope_at t g).position ≡ p
      → MayBeNamed d q (ended (leave p))
  leave_named g h [] e = tt
  leave_named g h (s ∷ p) e =
      subst (λ (z : Position). IsNamed d q (z, s)) (around t g s p start h e).1
      (instance_named (scope_at t g).around s.resource s.copy (opener_there t g s p start h e).is_instance)

  enter_named : (p : Position) → MayBeNamed d q (ended (enter p))
  enter_named [] = tt
  enter_named (s ∷ p) = tt

  task_named : (u : ScopeTask) → IsTaskOf t u → MayBeNamed d q (ended (task_of os u))
  task_named (Enter g) h = enter_named (scope_at t g).position
  task_named (Put f r i) h = instance_named f r i h.0
  task_named (Leave g) h = leave_named g h (scope_at t g).position refl

  -- what a task asks for, and what it has
  pub record IsAsking (asks : List (List Tag)) (i : ℕ) (u : Task) : Type 0 where
    pub values : List Json
    pub is_there : slice_get asks i ≡ Some (task_asks d number u values)
    pub depends : AreDepending d q (started u) values
    pub within : IsTaskIn Here u

  pub record IsHaving (tags : List (List Tag)) (j : ℕ) (v : Task) : Type 0 where
    pub is_there : slice_get tags j ≡ Some (task_tags d number q v)
    pub is_named : MayBeNamed d q (ended v)
    pub within : IsTaskIn Here v

  delete_asks : (ks : List ResourceId) (i : ℕ) (u : Task) → slice_get (map delete ks) i ≡ Some u
      → IsAsking (asks_of_deletes t ks) i u
  delete_asks [] i u e = let f : None ≡ Some u = e in absurd (cc)
  delete_asks (k ∷ ks) zero u e =
      let same : delete k ≡ u = cc in
      subst (IsAsking (asks_of_deletes t (k ∷ ks)) 0) same (record {
        values = [];
        is_there = refl;
        depends = refl;
        within = tt;
      })
  delete_asks (k ∷ ks) (suc i) u e =
      let a = delete_asks ks i u e in
      record { values = a.values; is_there = a.is_there; depends = a.depends; within = a.within }

  pub task_asking : (us : List ScopeTask) (vss : List (List Json)) (ks : List ResourceId) (i : ℕ) (u : Task)
      → AreElements t us vss → Each (IsTaskOf t) us → slice_get (map (task_of os) us ++ map delete ks) i ≡ Some u
      → IsAsking (asks_of_tasks t us vss ++ asks_of_deletes t ks) i u
  task_asking [] [] ks i u a o e = delete_asks ks i u e
  task_asking [] (vs ∷ vss) ks i u a o e = absurd a
  task_asking (x ∷ us) [] ks i u a o e = absurd a
  task_asking (x ∷ us) (vs ∷ vss) ks zero u a o e =
      let same : task_of os x ≡ u = cc in
      subst (IsAsking (asks_of_tasks t (x ∷ us) (vs ∷ vss) ++ asks_of_deletes t ks) 0) same (record {
        values = vs;
        is_there = refl;
        depends = a.0;
        within = task_here x o.0;
      })
  task_asking (x ∷ us) (vs ∷ vss) ks (suc i) u a o e =
      let b = task_asking us vss ks i u a.1 o.1 e in
      record { values = b.values; is_there = b.is_there; depends = b.depends; within = b.within }

  delete_has : (ks : List ResourceId) (j : ℕ) (v : Task) → slice_get (map delete ks) j ≡ Some v
      → IsHaving (tags_of_deletes t ks) j v
  delete_has [] j v e = let f : None ≡ Some v = e in absurd (cc)
  delete_has (k ∷ ks) zero v e =
      let same : delete k ≡ v = cc in
      subst (IsHaving (tags_of_deletes t (k ∷ ks)) 0) same
      (record { is_there = refl; is_named = tt; within = tt })
  delete_has (k ∷ ks) (suc j) v e =
      let a = delete_has ks j v e in record { is_there = a.is_there; is_named = a.is_named; within = a.within }

  pub task_having : (us : List ScopeTask) (ks : List ResourceId) (j : ℕ) (v : Task) → Each (IsTaskOf t) us
      → slice_get (map (task_of os) us ++ map delete ks) j ≡ Some v
      → IsHaving (tags_of_tasks t us ++ tags_of_deletes t ks) j v
  task_having [] ks j v o e = delete_has ks j v e
  task_having (x ∷ us) ks zero v o e =
      let same : task_of os x ≡ v = cc in
      subst (IsHaving (tags_of_tasks t (x ∷ us) ++ tags_of_deletes t ks) 0) same
      (record { is_there = refl; is_named = task_named x o.0; within = task_here x o.0 })
  task_having (x ∷ us) ks (suc j) v o e =
      let a = task_having us ks j v o.1 e in
      record { is_there = a.is_there; is_named = a.is_named; within = a.within }

  -- each pair that is listed is a need, and no others are
  pub pairs_are_needs : (us : List ScopeTask) (vss : List (List Json)) (ks : List ResourceId) → AreElements t us vss
      → Each (IsTaskOf t) us
      → AreNeeds d q (all_tasks t us ks) (needs_from 0 (asks_of_tasks t us vss ++ asks_of_deletes t ks)
      (tags_of_tasks t us ++ tags_of_deletes t ks))
  pairs_are_needs us vss ks a o i j u v e h =
      let asks = asks_of_tasks t us vss ++ asks_of_deletes t ks in
      let tags = tags_of_tasks t us ++ tags_of_deletes t ks in
      let x = task_asking us vss ks i u a o e in
      let y = task_having us ks j v o h in
      let mine = task_asks d number u x.values in
      let its = task_tags d number q v in
      let pair = listed_where_shared asks tags i j mine its x.is_there y.is_there in
      record {
        answer = shares mine its;
        is_told = needs_coded d number Here (numbering os) q u v x.values x.within y.within x.depends y.is_named;
        listed = (
          λ s. to_listed (i, j) (needs_from 0 asks tags) (pair.0 s),
          λ l. pair.1 (of_listed (i, j) (needs_from 0 asks tags) l),
        );
      }

  -- how many there are
  asks_length : (us : List ScopeTask) (vss : List (List Json)) → length (asks_of_tasks t us vss) ≡ length us
  asks_length [] vss = refl
  asks_length (x ∷ us) [] = ap suc (asks_length us [])
  asks_length (x ∷ us) (vs ∷ vss) = ap suc (asks_length us vss)

  pub pairs_within : (us : List ScopeTask) (vss : List (List Json)) (ks : List ResourceId)
      → AreWithin (length us + length ks) (needs_from 0 (asks_of_tasks t us vss ++ asks_of_deletes t ks)
      (tags_of_tasks t us ++ tags_of_deletes t ks))
  pairs_within us vss ks =
      listed_within 0 (length us + length ks) (asks_of_tasks t us vss ++ asks_of_deletes t ks)
      (tags_of_tasks t us ++ tags_of_deletes t ks)
      (let a = length-append (asks_of_tasks t us vss) (asks_of_deletes t ks) in
      let b = asks_length us vss in
      let c : length (asks_of_deletes t ks) ≡ length ks = length-map ks (λ k. task_asks d number (delete k) []) in
      omega (arith, a, b, c))
      (let a = length-append (tags_of_tasks t us) (tags_of_deletes t ks) in
      let b : length (tags_of_tasks t us) ≡ length us = length-map us (tags_of_task t) in
      let c : length (tags_of_deletes t ks) ≡ length ks = length-map ks (λ k. task_tags d number q (delete k)) in
      omega (arith, a, b, c))

-- how many values there are
pub elements_length : (t : Table) (us : List ScopeTask) (vss : List (List Json)) → AreElements t us vss
    → length vss ≡ length us
elements_length t [] [] a = refl
elements_length t [] (vs ∷ vss) a = absurd a
elements_length t (u ∷ us) [] a = absurd a
elements_length t (u ∷ us) (vs ∷ vss) a = ap suc (elements_length t us vss a.1)

pub as_listed : (asks tags : List (List Tag)) (A G : List (List Tag)) (ns : List Need) → ns ≡ needs_from 0 A G
    → A ≡ asks → G ≡ tags → ns ≡ needs_from 0 asks tags
as_listed asks tags A G ns e h k = e ∙ ap (λ a. needs_from 0 a G) h ∙ ap (needs_from 0 asks) k
