-- What is known at the start is known at the end, and which scopes are there.
use Rattle.std.proofs.Common.{◌≡◌, ℕ, ◌<◌, Bool, true, false, true≢false, List, [], ◌∷◌, ◌++◌}
use Rattle.std.proofs.Common.{Option, Some, None, refl, sym, ap, subst, ◌∙◌, arith}
use Rattle.std.specs.Prelude.{nat_lt, option_map, option_and_then}
use Rattle.std.proofs.lemmas.Option.{same_Some}
use Rattle.plan_cells.proofs.TaskLemmas.{some_true}
use Rattle.arm_value.specs.Json.{Json, bool}
use Rattle.arm_value.specs.Kinds.{is_true}
use Rattle.arm_ids.specs.declared.id.ResourceId.{ResourceId}
use Rattle.foundation.proofs.Comparisons.{lt_of_true}
use Rattle.reading.specs.Reading.{pure, continued}
use Rattle.reading.specs.World.{value_in}
use Rattle.reading.specs.Knowledge.{Known, known, Told, value, told, by_entry, known_value, IsFinal, Means}
use Rattle.reading.proofs.Completion.{told_means}
use Rattle.reading.proofs.Parts.{value_in-continued}
use Rattle.template_tree.specs.Tree.{TemplateTree}
use Rattle.deploy_cells.specs.Cells.{Step, Position, Cell, parameter, variable, offered, output, count, included}
use Rattle.deploy_cells.specs.Cells.{name}
use Rattle.deploy_cells.specs.Cells.{deployments, state, World, parent, admits, copies}
use Rattle.deploy_cells.specs.Guarded.{told_where, told_by}
use Rattle.deploy_cells.proofs.CellLemmas.{guarded_told}
use Rattle.plan_cells.specs.Resources.{Nested, nested_at}
use Rattle.plan_cells.specs.Scopes.{template_at, nested_of}
use Rattle.plan_cells.specs.Meaning.{Deployment, meaning, plain}
use Rattle.plan_cells.specs.Known.{Access, by_others, entry_of, entry_by, entry_told, IsKnown}
use Rattle.plan_cells.specs.Known.{is_told}
use Rattle.plan_cells.specs.Start as start
use Rattle.plan_cells.specs.Start.{start_world, at_point}
use Rattle.plan_cells.specs.Tasks.{Task, template_tasks, put_keys, deletes_in, work_of, Work, work}
use Rattle.deploy_histories.specs.Planned.{Planned, IsPlanned, is_asked_first, basis}
use Rattle.deploy_histories.specs.Events.{Status}
use Rattle.deploy_histories.specs.Points.{point}
use Rattle.deploy_histories.proofs.StartLemmas.{from_start}
use Rattle.history_laws.proofs.Included.{first_entry}
use Rattle.history_starts.proofs.Listed.{IsAt, IsThere}

pub value_entry : (o : Option Json) → known_value (entry_of o) ≡ o
value_entry (Some v) = refl
value_entry None = refl

module _ (x : Planned) (planned : IsPlanned x) (f : ℕ → Status) where
  -- what is known at the start is known at the end
  pub sound_start : (c : Cell) (o : Option Json) → x.known c ≡ entry_of o
      → IsKnown (meaning x.deployment) (at_point (basis x) (point x f)) c o
  sound_start c o e = from_start x planned f c o (planned.is_start.is_known c o e)

-- ---- the tasks by what is known at the start

-- the list of tasks of all scopes
pub record HasList (x : Planned) : Type 0 where
  pub scopes : List Task
  pub is_read : value_in (start_world x.known) (template_tasks [] x.deployment.template) ≡ Some scopes
  pub has_keys : value_in (start_world x.known) (put_keys x.deployment scopes) ≡ Some x.keys
  pub joined : x.tasks ≡ scopes ++ deletes_in x.mode x.deployment.place x.keys x.held

module _ (x : Planned) where
  abbrev sw : World
  sw = start_world x.known

  abbrev the_work : Work
  the_work = record { tasks = x.tasks; keys = x.keys }

  by_keys : (ts : List Task) → value_in sw (template_tasks [] x.deployment.template) ≡ Some ts
      → (o : Option (List ResourceId)) → value_in sw (put_keys x.deployment ts) ≡ o
      → option_and_then (λ ks. value_in sw (pure (work_of x.mode x.deployment.place x.held ts ks))) o ≡ Some the_work
      → HasList x
  unfolding value_in
  by_keys ts a None e f = let g : None ≡ Some the_work = f in absurd (cc)
  by_keys ts a (Some ks) e f =
      let g : work_of x.mode x.deployment.place x.held ts ks ≡ the_work
      = same_Some (work_of x.mode x.deployment.place x.held ts ks) the_work f in
      let k : ks ≡ x.keys = ap (λ (v : Work). v.keys) g in
      record {
        scopes = ts;
        is_read = a;
        has_keys = e ∙ ap Some k;
        joined =
            sym (ap (λ (v : Work). v.tasks) g)
            ∙ ap (λ (ls : List ResourceId). ts ++ deletes_in x.mode x.deployment.place ls x.held) k;
      }

  by_list : (o : Option (List Task)) → value_in sw (template_tasks [] x.deployment.template) ≡ o
      → option_and_then (λ us. value_in sw (continued (put_keys x.deployment us) (λ ks.
      pure (work_of x.mode x.deployment.place x.held us ks)))) o ≡ Some the_work → HasList x
  by_list None e f = let g : None ≡ Some the_work = f in absurd (cc)
  by_list (Some ts) e f =
      by_keys ts e (value_in sw (put_keys x.deployment ts)) refl
      (sym (value_in-continued Cell Json (List ResourceId) Work sw (put_keys x.deployment ts)
      (λ ks. pure (work_of x.mode x.deployment.place x.held ts ks))) ∙ f)

  in_order : value_in sw (work x.deployment x.mode x.held) ≡ Some the_work → HasList x
  unfolding work
  in_order e =
      by_list (value_in sw (template_tasks [] x.deployment.template)) refl
      (sym (value_in-continued Cell Json (List Task) Work sw (template_tasks [] x.deployment.template) (λ us.
      continued (put_keys x.deployment us) (λ ks. pure (work_of x.mode x.deployment.place x.held us ks)))) ∙ e)

  final_value : (t : Told Cell Work) → Means x.known (work x.deployment x.mode x.held) t → t ≡ value the_work
      → value_in sw (work x.deployment x.mode x.held) ≡ Some the_work
  final_value t h e =
      let g : IsFinal x.known (work x.deployment x.mode x.held) (Some the_work)
      = subst (λ (z : Told Cell Work). Means x.known (work x.deployment x.mode x.held) z) e h in
      g.here

  pub the_list : IsPlanned x → HasList x
  the_list planned =
      in_order (final_value (told x.known (work x.deployment x.mode x.held))
      (told_means Cell Json Work x.known (work x.deployment x.mode x.held)) planned.has_tasks)

-- ---- which scopes are there

module _ (x : Planned) (planned : IsPlanned x) where
  abbrev d : Deployment
  d = x.deployment

  abbrev w : World
  w = start_world x.known

  -- what is asked first has its entry by what was told
  entry_is : (c : Cell) (o : Option Json) → is_asked_first c ≡ true → x.known c ≡ entry_of o → w c ≡ o
  entry_is c o a e = ap known_value e ∙ value_entry o

  asked_others : (c : Cell) → is_asked_first c ≡ true → start.start c ≡ by_others
  asked_others (count q r) e = refl
  asked_others (included q s) e = refl
  asked_others (name q s) e = refl
  asked_others (parameter q y) e = refl
  asked_others (variable q y) e = refl
  asked_others (offered q y) e = refl
  asked_others (output q y) e = refl
  asked_others (deployments q) e = refl
  asked_others (state k) e = absurd (true≢false (sym e))

  -- the entry of a cell by what is told of it
  pub entry_told_of : (c : Cell) (o : Option Json) → start.start c ≡ by_others
      → told x.known (meaning d c) ≡ value o → x.known c ≡ entry_of o
  entry_told_of c o b e =
      planned.is_start.closed c
      ∙ (ap (λ (q : Access). entry_by q (entry_told (told x.known (meaning d c)))) b ∙ ap entry_told e)

  known_answer : (c : Cell) (a : is_asked_first c ≡ true) → x.known c ≡ entry_of (planned.answered c a).answer
  known_answer c a =
      let z = planned.answered c a in entry_told_of c z.answer (asked_others c a) z.is_told

  same_told : (t : Told Cell (Option Json)) (a b : Option Json) → t ≡ value a → t ≡ value b → a ≡ b
  same_told t a b e f = cc

  none_some : (v : Json) → None ≡ Some v → ⊥
  none_some v e = cc

  by_admission : (c e : Cell) (v : Json) (r : Told Cell (Option Json)) (b : Bool) → told_where b r ≡ value (Some v)
      → b ≡ true
  by_admission c e v r true h = refl
  by_admission c e v r false h = absurd (none_some v (same_told (told_where false r) None (Some v) refl h))

  by_parent : (c e : Cell) (v : Json) (r : Told Cell (Option Json)) (o : Option Json)
      → by_entry e (λ u. told_where (admits c u) r) (entry_of o) ≡ value (Some v) → admits c o ≡ true
  by_parent c e v r (Some u) h = by_admission c e v r (admits c (Some u)) h
  by_parent c e v r None h = by_admission c e v r (admits c None) h

  -- a cell that has a value is there by its parent
  pub admitted_by : (c e : Cell) (v : Json) → is_asked_first c ≡ true → is_asked_first e ≡ true → parent c ≡ Some e
      → w c ≡ Some v → admits c (w e) ≡ true
  unfolding meaning
  admitted_by c e v a b up has =
      let z = planned.answered c a in
      let g = first_entry x planned e b in
      let same : z.answer ≡ Some v = sym (entry_is c z.answer a (known_answer c a)) ∙ has in
      let t : told_by x.known c (Some e) (told x.known (plain d c)) ≡ value (Some v)
      = ap (λ (o : Option Cell). told_by x.known c o (told x.known (plain d c))) (sym up)
      ∙ (sym (guarded_told x.known c (plain d c)) ∙ (z.is_told ∙ ap value same)) in
      let s : by_entry e (λ u. told_where (admits c u) (told x.known (plain d c))) (entry_of g.0) ≡ value (Some v)
      = ap (λ (k : Known Json). by_entry e (λ u. told_where (admits c u) (told x.known (plain d c))) k) (sym g.1)
      ∙ t in
      ap (admits c) (entry_is e g.0 b g.1) ∙ by_parent c e v (told x.known (plain d c)) g.0 s

  -- whether a scope is there by its nested deployment
  abbrev pub opened : Position → Bool
  opened [] = true
  opened (s ∷ q) = is_true (w (included q s))

  some_count : (o : Option Json) (j : ℕ) → nat_lt j (copies o) ≡ true → (v : Json) × (o ≡ Some v)
  some_count None j e = absurd (no_less j (lt_of_true j 0 e))
    where
      no_less : (i : ℕ) → i < 0 → ⊥
      no_less i l = omega (arith, l)
  some_count (Some v) j e = (v, refl)

  -- an instance that is included is one of those that are counted
  pub counted : (q : Position) (s : Step) → w (included q s) ≡ Some (bool true) → IsAt w q s.resource s.copy
  counted q s e =
      let a = admitted_by (included q s) (count q s.resource) (bool true) refl refl refl e in
      let c = some_count (w (count q s.resource)) s.copy a in
      record {
        counts = c.0;
        has_count = c.1;
        within =
            lt_of_true s.copy (copies (Some c.0)) (ap (λ (o : Option Json). nat_lt s.copy (copies o)) (sym c.1) ∙ a);
        has_condition = e;
      }

  -- and its scope is there
  pub around : (q : Position) (s : Step) → w (included q s) ≡ Some (bool true) → opened q ≡ true
  around [] s e = refl
  around (t ∷ q) s e =
      let c = counted (t ∷ q) s e in
      admitted_by (count (t ∷ q) s.resource) (included q t) c.counts refl refl refl c.has_count

  -- a nested deployment and the template around it
  by_nested : (o : Option Nested) (t : TemplateTree) → option_map (λ (n : Nested). n.template) o ≡ Some t
      → (n : Nested) × (o ≡ Some n)
  by_nested None t e = let f : None ≡ Some t = e in absurd (cc)
  by_nested (Some n) t e = (n, refl)

  by_template : (o : Option TemplateTree) (s : Step) (n : Nested)
      → option_and_then (λ u. nested_at u s.resource) o ≡ Some n → (u : TemplateTree) × (o ≡ Some u)
  by_template None s n e = let f : None ≡ Some n = e in absurd (cc)
  by_template (Some u) s n e = (u, refl)

  -- a scope that is there by the values of the start, with all around it
  pub there : (q : Position) (t : TemplateTree) → template_at d.template q ≡ Some t → opened q ≡ true
      → IsThere w d.template q
  unfolding template_at
  there [] t e o = tt
  there (s ∷ q) t e o =
      let n = by_nested (nested_of d.template q s) t e in
      let u = by_template (template_at d.template q) s n.0 n.1 in
      let i = some_true (w (included q s)) o in
      (n.0, (n.1, (counted q s i, there q u.0 u.1 (around q s i))))
