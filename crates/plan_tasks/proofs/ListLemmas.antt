-- Lists of tasks, as they get more.
use Rattle.std.proofs.Common.{◌≡◌, ℕ, zero, suc, ◌+◌, ◌-◌, ◌<◌, ◌≤◌, Bool, true, false, List, [], ◌∷◌, ◌++◌, map}
use Rattle.std.proofs.Common.{length, drop, Some, None, refl, sym, ap, subst, ◌∙◌, arith, append_assoc}
use Rattle.std.proofs.lemmas.List.{length-map, map-append, append-nil}
use Rattle.std.specs.Prelude.{slice_get, if◌then◌else◌}
use Rattle.reading.specs.World.{Each}
use Rattle.reading.specs.Knowledge.{told, value}
use Rattle.template_tree.specs.Tree.{BodyTree, body_members, deployment, TemplateTree}
use Rattle.deploy_cells.specs.Cells.{step, Position}
use Rattle.plan_cells.specs.Resources.{Listed, Nested, nested_in}
use Rattle.plan_cells.specs.Scopes.{template_at}
use Rattle.plan_cells.specs.Tasks.{Task, enter, leave, put, template_tasks}
use Rattle.plan_table.specs.declared.table.Table.{Table}
use Rattle.plan_table.specs.Opened.{opened_of, opened_at, IsKept}
use Rattle.plan_table.specs.Whole.{whole_of, scopes_of}
use Rattle.plan_table.specs.Found.{scope_at}
use Rattle.plan_tasks.specs.declared.task.ScopeTask.{ScopeTask}
use Rattle.plan_tasks.specs.declared.task.ScopeTask.TheVariants.{Enter, Put, Leave}
use Rattle.plan_tasks.specs.declared.instance.Found.TheVariants.{Resource, Scope}
use Rattle.plan_tasks.specs.InOrder.{copies_in, is_in, instances_in_order, scope_in_order, body_in_order}
use Rattle.plan_tasks.specs.InOrder.{resource_in_order, listed_in_order}
use Rattle.plan_tasks.specs.Start.{start_of, IsStartTable, task_of, copies_of, IsScopeOf, IsFound}
use Rattle.plan_tasks.proofs.OrderLemmas.{scope_flat, next_resource, no_more_resources}
use Rattle.plan_tasks.proofs.AnswerLemmas.{cells_answered}
use Rattle.plan_tasks.proofs.ToldLemmas.{tasks_told}

abbrev pub tasks_in : Table → List ScopeTask → List Task
tasks_in t ts = map (task_of (scopes_of t)) ts

pub each_more : (P : ScopeTask → Type 0) (ts us : List ScopeTask) (x : ScopeTask) → us ≡ ts ++ x ∷ [] → P x → Each P ts
    → Each P us
each_more P ts us x e p h = subst (λ (vs : List ScopeTask). Each P vs) (sym e) (joined ts h)
  where
    joined : (vs : List ScopeTask) → Each P vs → Each P (vs ++ x ∷ [])
    joined [] h = (p, tt)
    joined (v ∷ vs) h = (h.0, joined vs h.1)

-- the tasks of an instance
abbrev pub instance_in_order : Table → ℕ → ℕ → ℕ → Listed → List Task
instance_in_order t f r i x =
    if is_in (start_of t) (scope_at t f).position (step r i)
    then body_in_order (start_of t) (scope_at t f).position (step r i) x.content else []

body_of_put : (t : Table) (f r i : ℕ) (b : BodyTree) → nested_in b ≡ None
    → body_in_order (start_of t) (scope_at t f).position (step r i) b ≡ put (scope_at t f).position (step r i) ∷ []
body_of_put t f r i (body_members ms) e = refl
body_of_put t f r i (deployment sc ps u) e =
    let n : Nested = record { scope = sc; arguments = ps; template = u } in let g : Some n ≡ None = e in absurd (cc)

body_of_scope : (t : Table) (f r i : ℕ) (b : BodyTree) (n : Nested) → nested_in b ≡ Some n
    → body_in_order (start_of t) (scope_at t f).position (step r i) b
    ≡ scope_in_order (start_of t) (step r i ∷ (scope_at t f).position) n.template
body_of_scope t f r i (body_members ms) n e = let g : None ≡ Some n = e in absurd (cc)
body_of_scope t f r i (deployment sc ps u) n e =
    ap (λ m. scope_in_order (start_of t) (step r i ∷ (scope_at t f).position) m) (template_is e)
  where
    template_is : Some (let m : Nested = record { scope = sc; arguments = ps; template = u } in m) ≡ Some n
        → u ≡ n.template
    template_is e = let same : (let m : Nested = record { scope = sc; arguments = ps; template = u } in m) ≡ n = cc in
        ap (λ (m : Nested). m.template) same

-- nothing is listed for an instance that is left away
pub left_away : (t : Table) (f r i : ℕ) (ts : List ScopeTask) (x : Listed)
    → is_in (start_of t) (scope_at t f).position (step r i) ≡ false
    → tasks_in t ts ≡ tasks_in t ts ++ instance_in_order t f r i x
left_away t f r i ts x e =
    sym (append-nil (tasks_in t ts))
    ∙ ap (λ b. tasks_in t ts ++ (if b
    then body_in_order (start_of t) (scope_at t f).position (step r i) x.content else [])) (sym e)

pub pushed : (t : Table) (ts us : List ScopeTask) (x : ScopeTask) → us ≡ ts ++ x ∷ []
    → tasks_in t us ≡ tasks_in t ts ++ task_of (scopes_of t) x ∷ []
pushed t ts us x e = ap (tasks_in t) e ∙ map-append (task_of (scopes_of t)) ts (x ∷ [])

pub put_listed : (t : Table) (f r i : ℕ) (ts us : List ScopeTask) (x : Listed) → us ≡ ts ++ Put f r i ∷ []
    → IsFound t f r i x Resource → tasks_in t us ≡ tasks_in t ts ++ instance_in_order t f r i x
put_listed t f r i ts us x e h =
    pushed t ts us (Put f r i) e
    ∙ ap (λ ys. tasks_in t ts ++ ys) (sym (body_of_put t f r i x.content h.1))
    ∙ ap (λ b. tasks_in t ts ++ (if b
    then body_in_order (start_of t) (scope_at t f).position (step r i) x.content else [])) (sym h.0)

pub scope_listed : (t : Table) (f r i g : ℕ) (ts us : List ScopeTask) (x : Listed) → IsFound t f r i x (Scope g)
    → tasks_in t us ≡ tasks_in t ts ++ scope_in_order (start_of t) (scope_at t g).position (scope_at t g).template
    → tasks_in t us ≡ tasks_in t ts ++ instance_in_order t f r i x
scope_listed t f r i g ts us x h e =
    let n : Nested = h.1.0 in
    let s : IsScopeOf t f r i g n = h.1.1.1 in
    e
    ∙ ap (λ p. tasks_in t ts ++ scope_in_order (start_of t) p (scope_at t g).template) s.position
    ∙ ap (λ u. tasks_in t ts ++ scope_in_order (start_of t) (step r i ∷ (scope_at t f).position) u) s.template
    ∙ ap (λ ys. tasks_in t ts ++ ys) (sym (body_of_scope t f r i x.content n h.1.1.0))
    ∙ ap (λ b. tasks_in t ts ++ (if b
    then body_in_order (start_of t) (scope_at t f).position (step r i) x.content else [])) (sym h.0)

-- ---- instances one after another

-- with the tasks of the instances from index i on, the list is that of the resource
abbrev pub CopiesLeft : Table → ℕ → ℕ → List ScopeTask → List ScopeTask → ℕ → ℕ → Type 0
CopiesLeft t f r all now i n =
    (x : Listed) → slice_get (scope_at t f).resources r ≡ Some x
    → tasks_in t now ++ instances_in_order (start_of t) (scope_at t f).position r
    (λ s. body_in_order (start_of t) (scope_at t f).position s x.content) i n
    ≡ tasks_in t all ++ resource_in_order (start_of t) (scope_at t f).position r x

pub copies_begin : (t : Table) (f r n : ℕ) (ts : List ScopeTask)
    → ((x : Listed) → slice_get (scope_at t f).resources r ≡ Some x → n ≡ copies_of t f r x)
    → CopiesLeft t f r ts ts 0 (n - 0)
copies_begin t f r n ts c x e =
    ap (λ m. tasks_in t ts ++ instances_in_order (start_of t) (scope_at t f).position r
    (λ s. body_in_order (start_of t) (scope_at t f).position s x.content) 0 m)
    (let z : n - 0 ≡ n = omega arith in z ∙ c x e)
    ∙ ap (λ ys. tasks_in t ts ++ ys) (by_test x.declaration.existing)
  where
    by_test : (b : Bool)
        → instances_in_order (start_of t) (scope_at t f).position r
        (λ s. body_in_order (start_of t) (scope_at t f).position s x.content) 0
        (if b then 0 else copies_in (start_of t) (scope_at t f).position r)
        ≡ (if b then [] else instances_in_order (start_of t) (scope_at t f).position r
        (λ s. body_in_order (start_of t) (scope_at t f).position s x.content) 0
        (copies_in (start_of t) (scope_at t f).position r))
    by_test true = refl
    by_test false = refl

pub copies_more : (t : Table) (f r i n : ℕ) (all now new : List ScopeTask) → i < n
    → ((x : Listed) → slice_get (scope_at t f).resources r ≡ Some x
    → tasks_in t new ≡ tasks_in t now ++ instance_in_order t f r i x)
    → CopiesLeft t f r all now i (n - i) → CopiesLeft t f r all new (i + 1) (n - (i + 1))
copies_more t f r i n all now new h a c x e =
    let rest = instances_in_order (start_of t) (scope_at t f).position r
    (λ s. body_in_order (start_of t) (scope_at t f).position s x.content) in
    ap (λ (j : ℕ). tasks_in t new ++ rest j (n - (i + 1))) (let o : i + 1 ≡ suc i = omega arith in o)
    ∙ ap (λ ys. ys ++ rest (suc i) (n - (i + 1))) (a x e)
    ∙ append_assoc (tasks_in t now) (instance_in_order t f r i x) (rest (suc i) (n - (i + 1)))
    ∙ ap (λ m. tasks_in t now ++ rest i m) (let o : suc (n - (i + 1)) ≡ n - i = omega (arith, h) in o)
    ∙ c x e

pub copies_end : (t : Table) (f r i n : ℕ) (all now : List ScopeTask) → n ≤ i → CopiesLeft t f r all now i (n - i)
    → (x : Listed) → slice_get (scope_at t f).resources r ≡ Some x
    → tasks_in t now ≡ tasks_in t all ++ resource_in_order (start_of t) (scope_at t f).position r x
copies_end t f r i n all now h c x e =
    sym (append-nil (tasks_in t now))
    ∙ ap (λ m. tasks_in t now ++ instances_in_order (start_of t) (scope_at t f).position r
    (λ s. body_in_order (start_of t) (scope_at t f).position s x.content) i m)
    (let z : 0 ≡ n - i = omega (arith, h) in z)
    ∙ c x e

-- ---- resources one after another

-- with the tasks of the resources from number r on, the list is that of all
abbrev pub ResourcesLeft : Table → ℕ → List ScopeTask → List ScopeTask → ℕ → Type 0
ResourcesLeft t f all now r =
    tasks_in t now ++ listed_in_order (start_of t) (scope_at t f).position r (drop r (scope_at t f).resources)
    ≡ tasks_in t all ++ listed_in_order (start_of t) (scope_at t f).position 0 (scope_at t f).resources

get_there : (xs : List Listed) (r : ℕ) → r < length xs → (x : Listed) × (slice_get xs r ≡ Some x)
get_there [] r h = absurd (omega (arith, h))
get_there (x ∷ xs) zero h = (x, refl)
get_there (x ∷ xs) (suc r) h = get_there xs r (omega (arith, h))

pub there_at : (t : Table) (f r : ℕ) → r < length (scope_at t f).resources
    → (x : Listed) × (slice_get (scope_at t f).resources r ≡ Some x)
there_at t f r h = get_there (scope_at t f).resources r h

pub resources_more : (t : Table) (f r : ℕ) (all now new : List ScopeTask) → r < length (scope_at t f).resources
    → ((x : Listed) → slice_get (scope_at t f).resources r ≡ Some x
    → tasks_in t new ≡ tasks_in t now ++ resource_in_order (start_of t) (scope_at t f).position r x)
    → ResourcesLeft t f all now r → ResourcesLeft t f all new (r + 1)
resources_more t f r all now new h a c =
    let q = start_of t in
    let p = (scope_at t f).position in
    let xs = (scope_at t f).resources in
    let x = get_there xs r h in
    ap (λ (j : ℕ). tasks_in t new ++ listed_in_order q p j (drop j xs)) (let o : r + 1 ≡ suc r = omega arith in o)
    ∙ ap (λ ys. ys ++ listed_in_order q p (suc r) (drop (suc r) xs)) (a x.0 x.1)
    ∙ append_assoc (tasks_in t now) (resource_in_order q p r x.0) (listed_in_order q p (suc r) (drop (suc r) xs))
    ∙ ap (λ ys. tasks_in t now ++ ys) (sym (next_resource q p xs r x.0 x.1))
    ∙ c

pub resources_end : (t : Table) (f r n : ℕ) (old all now new : List ScopeTask) → IsStartTable t
    → f < length t.frames.items → n ≡ length (scope_at t f).resources → n ≤ r → r ≤ n
    → all ≡ old ++ Enter f ∷ [] → new ≡ now ++ Leave f ∷ [] → ResourcesLeft t f all now r
    → tasks_in t new
    ≡ tasks_in t old ++ scope_in_order (start_of t) (scope_at t f).position (scope_at t f).template
resources_end t f r n old all now new s there size stop most e g c =
    let q = start_of t in
    let p = (scope_at t f).position in
    let xs = (scope_at t f).resources in
    let m = length-map t.frames.items opened_of in
    let kept : IsKept (whole_of t) (scopes_of t) f (opened_at (scopes_of t) f) = s.laid.kept f (omega
    (arith, there, m)) in
    let at : r ≡ length xs = omega (arith, stop, most, size) in
    let all_done : tasks_in t now ≡ tasks_in t all ++ listed_in_order q p 0 xs =
    sym (append-nil (tasks_in t now)) ∙ ap (λ ys. tasks_in t now ++ ys) (sym (no_more_resources q p xs))
    ∙ ap (λ j. tasks_in t now ++ listed_in_order q p j (drop j xs)) (sym at) ∙ c in
    pushed t now new (Leave f) g ∙ ap (λ ys. ys ++ leave p ∷ []) all_done
    ∙ ap (λ ys. (ys ++ listed_in_order q p 0 xs) ++ leave p ∷ []) (pushed t old all (Enter f) e)
    ∙ ap (λ ys. ys ++ leave p ∷ []) (append_assoc (tasks_in t old) (enter p ∷ []) (listed_in_order q p 0 xs))
    ∙ append_assoc (tasks_in t old) (enter p ∷ listed_in_order q p 0 xs) (leave p ∷ [])
    ∙ ap (λ ys. tasks_in t old ++ (enter p ∷ (listed_in_order q p 0 ys ++ leave p ∷ []))) kept.resources
    ∙ ap (λ ys. tasks_in t old ++ ys) (sym (scope_flat q p (scope_at t f).template))

-- ---- all of them

same_template : {a b : TemplateTree} → Some a ≡ Some b → a ≡ b
same_template e = cc

at_root : (u : TemplateTree) (p : Position) → p ≡ [] → template_at u p ≡ Some u
unfolding template_at
at_root u p e = ap (template_at u) e

pub all_listed : (t : Table) (ts : List ScopeTask) → IsStartTable t
    → tasks_in t ts ≡ tasks_in t [] ++ scope_in_order (start_of t) (scope_at t 0).position (scope_at t 0).template
    → told (start_of t) (template_tasks [] (whole_of t).template) ≡ value (tasks_in t ts)
all_listed t ts s e =
    tasks_told (whole_of t) (start_of t) (cells_answered (whole_of t) _ s.filled s.answered)
    ∙ ap value (root ∙ sym e)
  where
    kept : IsKept (whole_of t) (scopes_of t) 0 (opened_at (scopes_of t) 0)
    kept = s.laid.kept 0 s.laid.some

    template_is : (whole_of t).template ≡ (scope_at t 0).template
    template_is = same_template (sym (at_root (whole_of t).template (scope_at t 0).position s.laid.root)
        ∙ kept.template)

    root : scope_in_order (start_of t) [] (whole_of t).template
        ≡ scope_in_order (start_of t) (scope_at t 0).position (scope_at t 0).template
    root =
        ap (scope_in_order (start_of t) []) template_is
        ∙ ap (λ p. scope_in_order (start_of t) p (scope_at t 0).template) (sym s.laid.root)
