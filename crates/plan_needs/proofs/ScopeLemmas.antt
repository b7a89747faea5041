-- The tags of tasks that enter and leave scopes, and those for which they ask, by the instances that opened the scopes.
use Rattle.std.proofs.Common.{◌≡◌, ℕ, ◌+◌, ◌<◌, ◌≤◌, zero, suc, List, [], ◌∷◌, ◌++◌, map, length, drop}
use Rattle.std.proofs.Common.{get_or, refl, sym}
use Rattle.std.proofs.Common.{ap, ◌∙◌, arith, append_assoc}
use Rattle.std.proofs.lemmas.List.{length-map, map-append, append-nil}
use Rattle.std.specs.declared.vec.Vec.{Vec}
use Rattle.std.specs.declared.alloc.Global.{Global}
use Rattle.std.proofs.Math.Seq.{drop-cons}
use Rattle.foundation.proofs.Lists.{nothing_left}
use Rattle.arm_value.specs.Json.{Json}
use Rattle.arm_value.specs.View.{json}
use Rattle.arm_value.specs.declared.value.Value.{Value}
use Rattle.reading.specs.World.{Each}
use Rattle.arm_ids.specs.Id.{IsKey}
use Rattle.arm_ids.specs.declared.id.ResourceId.{ResourceId}
use Rattle.deploy_cells.specs.Cells.{step, Position}
use Rattle.key_tags.specs.KeyCodes.{key_code, parent_parts}
use Rattle.tag_needs.specs.Tags.{Tag, tags_of, tags_in}
use Rattle.plan_cells.specs.Known as knowing
use Rattle.plan_cells.specs.Meaning.{Deployment}
use Rattle.plan_cells.specs.Tasks.{enter, leave, put, delete}
use Rattle.name_tags.specs.TaskCodes.{task_tags, task_asks}
use Rattle.plan_table.specs.declared.table.Table.{Table}
use Rattle.plan_table.specs.Opened.{opened_of}
use Rattle.plan_table.specs.Whole.{whole_of, scopes_of}
use Rattle.plan_table.specs.Found.{scope_at}
use Rattle.plan_tasks.specs.declared.task.ScopeTask.{ScopeTask}
use Rattle.plan_tasks.specs.Start.{start_of, IsStartTable}
use Rattle.plan_openers.specs.declared.opener.Opener.{Opener}
use Rattle.plan_openers.specs.Openers.{IsOpener}
use Rattle.plan_needs.specs.Numbers.{number_in}
use Rattle.plan_needs.specs.Order.{entry_code, inside_code, left_code}
use Rattle.plan_needs.specs.Lists.{values_in, asks_of_task, asks_of_tasks}
use Rattle.plan_needs.proofs.NumberLemmas.{number_at}
use Rattle.plan_needs.proofs.OrderLemmas.{delete_is}

module _ (t : Table) (start : IsStartTable t) where
  abbrev d : Deployment
  d = whole_of t

  abbrev q : knowing.Table
  q = start_of t

  abbrev number : Position → ℕ
  number = number_in (scopes_of t)

  number_of : (g : ℕ) → g < length t.frames.items → number (scope_at t g).position ≡ g
  number_of g h =
      number_at d (scopes_of t) t.index t.lines.items start.laid start.filled.sound.distinct g
      (let n = length-map t.frames.items opened_of in omega (arith, n, h))

  -- ---- one scope

  module _ (g : ℕ) (h : g < length t.frames.items) (ts : List Tag) where
    pub enter_made : (x : Opener) → IsOpener t g x → ts ≡ entry_code g ∷ inside_code x.frame ∷ []
        → ts ≡ task_tags d number q (enter (scope_at t g).position)
    enter_made x o e =
        e ∙ ap (λ n. entry_code n ∷ inside_code x.frame ∷ []) (sym (number_of g h))
        ∙ ap (λ n. entry_code (number (scope_at t g).position) ∷ inside_code n ∷ [])
        (sym (number_of x.frame o.is_instance.there))
        ∙ ap (λ z. entry_code (number z) ∷ inside_code (number (scope_at t x.frame).position) ∷ [])
        o.is_scope.position
        ∙ ap (λ z. task_tags d number q (enter z)) (sym o.is_scope.position)

    pub enter_root_made : (scope_at t g).position ≡ [] → ts ≡ entry_code g ∷ []
        → ts ≡ task_tags d number q (enter (scope_at t g).position)
    enter_root_made r e =
        e ∙ ap (λ n. entry_code n ∷ []) (sym (number_of g h)) ∙ ap (λ z. entry_code (number z) ∷ []) r
        ∙ ap (λ z. task_tags d number q (enter z)) (sym r)

    pub leave_made : (x : Opener) → IsOpener t g x
        → ts ≡ task_tags d number q (put (scope_at t x.frame).position (step x.resource x.copy))
        → ts ≡ task_tags d number q (leave (scope_at t g).position)
    leave_made x o e = e ∙ ap (λ z. task_tags d number q (leave z)) (sym o.is_scope.position)

    pub leave_root_made : (scope_at t g).position ≡ [] → ts ≡ left_code ∷ []
        → ts ≡ task_tags d number q (leave (scope_at t g).position)
    leave_root_made r e = e ∙ ap (λ z. task_tags d number q (leave z)) (sym r)

    pub asks_made : (x : Opener) (vs : List Json) → IsOpener t g x
        → ts ≡ task_asks d number (put (scope_at t x.frame).position (step x.resource x.copy)) vs
        → ts ≡ task_asks d number (enter (scope_at t g).position) vs
    asks_made x vs o e = e ∙ ap (λ z. task_asks d number (enter z) vs) (sym o.is_scope.position)

    pub asks_root_made : (vs : List Json) → (scope_at t g).position ≡ [] → ts ≡ []
        → ts ≡ task_asks d number (enter (scope_at t g).position) vs
    asks_root_made vs r e = e ∙ ap (λ z. task_asks d number (enter z) vs) (sym r)

    pub leave_asks_made : (x : Opener) (vs : List Json) → IsOpener t g x
        → ts ≡ entry_code x.frame ∷ inside_code g ∷ entry_code g ∷ []
        → ts ≡ task_asks d number (leave (scope_at t g).position) vs
    leave_asks_made x vs o e =
        e ∙ ap (λ n. entry_code x.frame ∷ inside_code n ∷ entry_code n ∷ []) (sym (number_of g h))
        ∙ ap (λ n. entry_code n ∷ inside_code (number (scope_at t g).position)
        ∷ entry_code (number (scope_at t g).position) ∷ []) (sym (number_of x.frame o.is_instance.there))
        ∙ ap (λ z. entry_code (number (scope_at t x.frame).position) ∷ inside_code (number z) ∷ entry_code (number z)
        ∷ []) o.is_scope.position
        ∙ ap (λ z. task_asks d number (leave z) vs) (sym o.is_scope.position)

    pub leave_asks_root_made : (vs : List Json) → (scope_at t g).position ≡ []
        → ts ≡ inside_code g ∷ entry_code g ∷ [] → ts ≡ task_asks d number (leave (scope_at t g).position) vs
    leave_asks_root_made vs r e =
        e ∙ ap (λ n. inside_code n ∷ entry_code n ∷ []) (sym (number_of g h))
        ∙ ap (λ z. inside_code (number z) ∷ entry_code (number z) ∷ []) r
        ∙ ap (λ z. task_asks d number (leave z) vs) (sym r)

-- ---- the items of lists

pub each_at : (P : ScopeTask → Type 0) (xs : List ScopeTask) (i : ℕ) (d : ScopeTask) → Each P xs → i < length xs
    → P (get_or xs i d)
each_at P [] i d a h = absurd (omega (arith, h))
each_at P (y ∷ ys) zero d a h = a.0
each_at P (y ∷ ys) (suc i) d a h = each_at P ys i d a.1 (omega (arith, h))

-- with those of the tasks from a number on, the list is that of all tasks
abbrev pub AsksLeft : Table → List ScopeTask → List (Vec Value Global) → List (Vec (Vec ℕ Global) Global) → ℕ → Type 0
AsksLeft t us vs all i =
    tags_in all ++ asks_of_tasks t (drop i us) (values_in (drop i vs)) ≡ asks_of_tasks t us (values_in vs)

pub asks_more : (t : Table) (us : List ScopeTask) (vs : List (Vec Value Global)) (i : ℕ) (u : ScopeTask)
    (v : Vec Value Global) (xs : List Json) (all new : List (Vec (Vec ℕ Global) Global))
    (asks : Vec (Vec ℕ Global) Global) → i < length us → length vs ≡ length us → u ≡ get_or us i u
    → v ≡ get_or vs i v → xs ≡ map json v.items → tags_of asks ≡ asks_of_task t u xs → new ≡ all ++ asks ∷ []
    → AsksLeft t us vs all i → AsksLeft t us vs new (i + 1)
asks_more t us vs i u v xs all new asks h n e g x k m c =
    let later = asks_of_tasks t (drop (i + 1) us) (values_in (drop (i + 1) vs)) in
    ap (λ ls. tags_in ls ++ later) m
    ∙ ap (λ ts. ts ++ later) (map-append tags_of all (asks ∷ []))
    ∙ append_assoc (tags_in all) (tags_of asks ∷ []) later
    ∙ ap (λ ts. tags_in all ++ (ts ∷ later)) (k ∙ ap (asks_of_task t u) x)
    ∙ ap (λ (j : ℕ). tags_in all ++ (asks_of_task t u (map json v.items)
    ∷ asks_of_tasks t (drop j us) (values_in (drop j vs)))) (let z : i + 1 ≡ suc i = omega arith in z)
    ∙ ap (λ y. tags_in all ++ (asks_of_task t y (map json v.items)
    ∷ asks_of_tasks t (drop (suc i) us) (values_in (drop (suc i) vs)))) e
    ∙ ap (λ (y : Vec Value Global). tags_in all ++ (asks_of_task t (get_or us i u) (map json y.items)
    ∷ asks_of_tasks t (drop (suc i) us) (values_in (drop (suc i) vs)))) g
    ∙ ap (λ ys. tags_in all ++ asks_of_tasks t ys (values_in (get_or vs i v ∷ drop (suc i) vs)))
    (sym (drop-cons us i u h))
    ∙ ap (λ ys. tags_in all ++ asks_of_tasks t (drop i us) (values_in ys))
    (sym (drop-cons vs i v (omega (arith, h, n))))
    ∙ c

pub asks_end : (t : Table) (us : List ScopeTask) (vs : List (Vec Value Global)) (i : ℕ)
    (all : List (Vec (Vec ℕ Global) Global)) → length us ≤ i → AsksLeft t us vs all i
    → tags_in all ≡ asks_of_tasks t us (values_in vs)
asks_end t us vs i all h c =
    sym (append-nil (tags_in all))
    ∙ ap (λ ys. tags_in all ++ asks_of_tasks t ys (values_in (drop i vs))) (sym (nothing_left us i h)) ∙ c

-- ---- deletes

pub delete_made : (t : Table) (k : ResourceId) (ts : List Tag) → IsKey k
    → ts ≡ (4 ∷ key_code (parent_parts k)) ∷ []
    → ts ≡ task_tags (whole_of t) (number_in (scopes_of t)) (start_of t) (delete k)
delete_made t k ts h e = e ∙ sym (delete_is (whole_of t) (number_in (scopes_of t)) (start_of t) k h)

pub one_more : {A : Type 0} (f : A → List Tag) (ks : List A) (i : ℕ) (k : A) (first : List (List Tag))
    (all new : List (Vec (Vec ℕ Global) Global)) (v : Vec (Vec ℕ Global) Global) → i < length ks → k ≡ get_or ks i k
    → tags_of v ≡ f k → new ≡ all ++ v ∷ [] → tags_in all ++ map f (drop i ks) ≡ first
    → tags_in new ++ map f (drop (i + 1) ks) ≡ first
one_more f ks i k first all new v h e g m c =
    ap (λ vs. tags_in vs ++ map f (drop (i + 1) ks)) m
    ∙ ap (λ ts. ts ++ map f (drop (i + 1) ks)) (map-append tags_of all (v ∷ []))
    ∙ append_assoc (tags_in all) (tags_of v ∷ []) (map f (drop (i + 1) ks))
    ∙ ap (λ ts. tags_in all ++ (ts ∷ map f (drop (i + 1) ks))) (g ∙ ap f e)
    ∙ ap (λ (j : ℕ). tags_in all ++ (f (get_or ks i k) ∷ map f (drop j ks))) (let z : i + 1 ≡ suc i = omega arith in z)
    ∙ ap (λ ys. tags_in all ++ map f ys) (sym (drop-cons ks i k h)) ∙ c
