-- What a board keeps when nothing has happened.
use Rattle.std.proofs.Common.{◌≡◌, ◌⊎◌, inl, inr, ℕ, zero, suc, ◌<◌, ◌+◌, Bool, false, true≢false}
use Rattle.std.proofs.Common.{List, [], ◌∷◌, ◌++◌}
use Rattle.std.proofs.Common.{get_or, length, Option, Some, None, refl, sym, ap, subst, ◌∙◌, arith}
use Rattle.std.specs.Prelude.{slice_get, slice_index_or, map, option_map, replicate, take, Result, Ok, Err, OnOk, is_ok}
use Rattle.std.specs.Prelude.{if◌then◌else◌}
use Rattle.std.specs.declared.alloc.AllocError.{AllocError}
use Rattle.std.proofs.lemmas.List.{length-map, map-append, take_more}
use Rattle.std.proofs.lemmas.Option.{get_or_from_slice_get, slice_get_within, same_Some}
use Rattle.depend_graph.specs.Shape as graph
use Rattle.depend_graph.specs.Shape.{Shape, times, with_edge}
use Rattle.depend_graph.proofs.Keeping.{get_or-replicate, length-replicate}
use Rattle.plan_cells.specs.Known.{Table}
use Rattle.plan_cells.specs.Plan.{Need, IsListed}
use Rattle.plan_cells.specs.Tasks as task
use Rattle.plan_cells.specs.Tasks.{Task}
use Rattle.deploy_histories.specs.Planned.{Planned}
use Rattle.deploy_histories.specs.Events.{at_opening}
use Rattle.task_standings.specs.Seen.{IsSeen}
use Rattle.task_standings.specs.declared.standing.Kind.{Kind}
use Rattle.task_standings.specs.Standings.{kind_of}
use Rattle.task_agenda.specs.declared.agenda.Agenda.{Agenda}
use Rattle.task_agenda.specs.Agendas.{count, is_listed, IsSeenTo, HasGraph, Keeps}
use Rattle.task_agenda.specs.Lists as lists
use Rattle.board_dealing.specs.Kept.{enters_or_leaves, kind_of_scope, IsNeeded, IsKept}
use Rattle.deploy_core.specs.Opens.{AreStartNeeds, HasNeeds, IsNeedAdded, IsFilled}
use Rattle.board_dealing.proofs.Edges.{edge_to, edge_from}
use Rattle.board_dealing.proofs.Agendas.{same_listed}

listed_more : (n m : Need) (ns : List Need) → IsListed n ns → IsListed n (ns ++ m ∷ [])
listed_more n m [] l = absurd l
listed_more n m (k ∷ ns) (inl e) = inl e
listed_more n m (k ∷ ns) (inr l) = inr (listed_more n m ns l)

listed_last : (n : Need) (ns : List Need) → IsListed n (ns ++ n ∷ [])
listed_last n [] = inl refl
listed_last n (k ∷ ns) = inr (listed_last n ns)

listed_either : (n m : Need) (ns : List Need) → IsListed n (ns ++ m ∷ []) → IsListed n ns ⊎ (m ≡ n)
listed_either n m [] (inl e) = inr e
listed_either n m [] (inr l) = absurd l
listed_either n m (k ∷ ns) (inl e) = inl (inl e)
listed_either n m (k ∷ ns) (inr l) = elim (listed_either n m ns l) [ inl i ↦ inl (inr i) | inr e ↦ inr e ]

pub none_needed : (n u v : ℕ) (d : List Bool) → graph.Needs (record { needs = replicate n []; done = d }) u v → ⊥
none_needed n u v d e =
    let z : times (get_or (replicate n []) u []) v ≡ 0
    = ap (λ (l : List ℕ). times l v) (get_or-replicate n u []) in
    omega (arith, e, z)

-- an agenda of which nothing was said
pub no_needs : (a : Agenda)
    → a.graph ≡ record { needs = replicate (length a.kinds.items) []; done = replicate (length a.kinds.items) false }
    → ((u : ℕ) → is_listed a u ≡ false) → HasNeeds a a.kinds.items []
no_needs a g l = record {
  kinds_are = refl;
  none_done = ap (λ (s : Shape). s.done) g;
  none_listed = l;
  has_needs = λ u v i j n. absurd n;
  no_others = λ u v n. absurd (none_needed (length a.kinds.items) u v (replicate (length a.kinds.items) false)
      (subst (λ (s : Shape). graph.Needs s u v) g n));
}

-- a pair of numbers of which one is no task changes nothing
pub left_out : (a : Agenda) (n : Need) (kinds : List Bool) (ns : List Need) → HasNeeds a kinds ns
    → (n.0 < count a → n.1 < count a → ⊥) → HasNeeds a kinds (ns ++ n ∷ [])
left_out a n kinds ns h out = record {
  kinds_are = h.kinds_are;
  none_done = h.none_done;
  none_listed = h.none_listed;
  has_needs = λ u v i j l. elim (listed_either (u, v) n ns l) [
    | inl k ↦ h.has_needs u v i j k
    | inr e ↦ absurd (out (first u v e i) (second u v e j))
  ];
  no_others = λ u v m. let o = h.no_others u v m in (o.0, (o.1.0, listed_more (u, v) n ns o.1.1));
}
  where
    size : length kinds ≡ count a
    size = ap (λ (l : List Bool). length l) (sym h.kinds_are)

    first : (u v : ℕ) → n ≡ (u, v) → u < length kinds → n.0 < count a
    first u v e i = let f : n.0 ≡ u = ap (λ (p : Need). p.0) e in let s = size in omega (arith, f, s, i)

    second : (u v : ℕ) → n ≡ (u, v) → v < length kinds → n.1 < count a
    second u v e i = let f : n.1 ≡ v = ap (λ (p : Need). p.1) e in let s = size in omega (arith, f, s, i)

pub need_added : (a b : Agenda) (i j : ℕ) → i < count a → j < count a → HasGraph a b (with_edge a.graph i j)
    → (kinds : List Bool) (ns : List Need) → HasNeeds a kinds ns → HasNeeds b kinds (ns ++ (i, j) ∷ [])
need_added a b i j p q g kinds ns h = record {
  kinds_are = g.kinds ∙ h.kinds_are;
  none_done = ap (λ (s : Shape). s.done) g.is_graph ∙ h.none_done;
  none_listed = λ u. same_listed a b _ g u ∙ h.none_listed u;
  has_needs = λ u v k l m. subst (λ (s : Shape). graph.Needs s u v) (sym g.is_graph)
      (edge_to a.graph i j u v within (either u v k l (listed_either (u, v) (i, j) ns m)));
  no_others = λ u v m. back u v
      (edge_from a.graph i j u v within (subst (λ (s : Shape). graph.Needs s u v) g.is_graph m));
}
  where
    size : length kinds ≡ count a
    size = ap (λ (l : List Bool). length l) (sym h.kinds_are)

    within : i < length a.graph.needs
    within = let s = a.sizes in omega (arith, s, p)

    either : (u v : ℕ) → u < length kinds → v < length kinds → IsListed (u, v) ns ⊎ (◌≡◌ {A = Need} (i, j) (u, v))
        → graph.Needs a.graph u v ⊎ ((u ≡ i) × (v ≡ j))
    either u v k l (inl m) = inl (h.has_needs u v k l m)
    either u v k l (inr e) = inr (sym (ap (λ (n : Need). n.0) e), sym (ap (λ (n : Need). n.1) e))

    pair_is : (u v : ℕ) → (u ≡ i) × (v ≡ j) → ◌≡◌ {A = Need} (i, j) (u, v)
    pair_is u v e = ap {B = Need} (λ (n : ℕ). (n, j)) (sym e.0) ∙ ap {B = Need} (λ (n : ℕ). (u, n)) (sym e.1)

    back : (u v : ℕ) → graph.Needs a.graph u v ⊎ ((u ≡ i) × (v ≡ j))
        → (u < length kinds) × ((v < length kinds) × IsListed (u, v) (ns ++ (i, j) ∷ []))
    back u v (inl m) = let o = h.no_others u v m in (o.0, (o.1.0, listed_more (u, v) (i, j) ns o.1.1))
    back u v (inr e) =
        let s = size in let f = e.0 in let g = e.1 in (
          omega (arith, s, f, p),
          (
            omega (arith, s, g, q),
            subst (λ (n : Need). IsListed n (ns ++ (i, j) ∷ [])) (pair_is u v e) (listed_last (i, j) ns),
          ),
        )

scope_at : (ts : List Task) (u : ℕ) (one : Task) → slice_get ts u ≡ Some one
    → slice_index_or (map enters_or_leaves ts) u false ≡ enters_or_leaves one
scope_at [] u one e = let f : None ≡ Some one = e in absurd (cc)
scope_at (k ∷ ts) zero one e = ap enters_or_leaves (same_Some k one e)
scope_at (k ∷ ts) (suc u) one e = scope_at ts u one e

pub there : (ts : List Task) (u : ℕ) → u < length ts → (one : Task) × (slice_get ts u ≡ Some one)
there [] u l = absurd (omega (arith, l))
there (k ∷ ts) zero l = (k, refl)
there (k ∷ ts) (suc u) l = there ts u (omega (arith, l))

-- nothing has happened, and every task is listed that needs nothing
pub kept_first : (x : Planned) (t : Table) (tasks : ℕ) (ns : List Need) (a : Agenda) → tasks ≡ length x.tasks
    → IsSeen x at_opening t → AreStartNeeds x ns → IsFilled (map enters_or_leaves x.tasks) ns a
    → IsKept x t tasks [] a 0
kept_first x t tasks ns a size seen starts f = record {
  is_legal = tt;
  is_seen = seen;
  scopes = λ u d. absurd (true≢false (sym d));
  tasks_are = size;
  agenda_of = counts;
  kinds_are = λ u one i. ap (λ (l : List Bool). lists.is_scope l u) kinds ∙ scope_at x.tasks u one i;
  sized = ap (λ (s : Shape). length s.done) f.keeps.same.graph ∙ ap (λ (l : List Bool). length l) f.has_needs.none_done
      ∙ length-replicate (length (map enters_or_leaves x.tasks)) false ∙ length-map x.tasks enters_or_leaves;
  done_are = λ u l. ap (λ (s : Shape). graph.is_done s u) f.keeps.same.graph
      ∙ ap (λ (d : List Bool). slice_index_or d u false) f.has_needs.none_done
      ∙ get_or-replicate (length (map enters_or_leaves x.tasks)) u false;
  start_needs = λ u v one other i j n. subst (λ (s : Shape). graph.Needs s u v) (sym f.keeps.same.graph)
      (f.has_needs.has_needs u v (inside u one i) (inside v other j) ((starts u v one other i j).0 n));
  needs_are = λ u v n. needed u v (subst (λ (s : Shape). graph.Needs s u v) f.keeps.same.graph n);
  within = omega arith;
  covered = λ u l w. inl (f.seen_to u (let c = counts in omega (arith, c, l)));
}
  where
    kinds : a.kinds.items ≡ map enters_or_leaves x.tasks
    kinds = f.keeps.same.kinds ∙ f.has_needs.kinds_are

    counts : count a ≡ length x.tasks
    counts = ap (λ (l : List Bool). length l) kinds ∙ length-map x.tasks enters_or_leaves

    inside : (u : ℕ) (one : Task) → slice_get x.tasks u ≡ Some one → u < length (map enters_or_leaves x.tasks)
    inside u one i =
        let l = slice_get_within x.tasks u one i in
        let m = length-map x.tasks enters_or_leaves in omega (arith, l, m)

    outside : (u : ℕ) → u < length (map enters_or_leaves x.tasks) → u < length x.tasks
    outside u l = let m = length-map x.tasks enters_or_leaves in omega (arith, l, m)

    needed : (u v : ℕ) → graph.Needs f.before.graph u v → IsNeeded x [] a u v
    needed u v n =
        let o = f.has_needs.no_others u v n in
        let p = there x.tasks u (outside u o.0) in
        let q = there x.tasks v (outside v o.1.0) in
        record {
          task = p.0;
          is_task = p.1;
          other = q.0;
          is_other = q.1;
          needs = inl ((starts u v p.0 q.0 p.1 q.1).1 o.1.1);
        }

-- the need is added where the call returns Ok
pub added_on : (a b : Agenda) (n : Need) (t o : ℕ) (r : Result (Unit {0}) AllocError) → t ≡ n.0 → o ≡ n.1
    → HasGraph a b (if is_ok r then with_edge a.graph t o else a.graph) → n.0 < count a → n.1 < count a
    → OnOk r (IsNeedAdded a b n)
added_on a b n t o (Ok d) e f g p q =
    need_added a b n.0 n.1 p q (subst (λ (i : ℕ). HasGraph a b (with_edge a.graph i n.1)) e
    (subst (λ (j : ℕ). HasGraph a b (with_edge a.graph t j)) f g))
added_on a b n t o (Err d) e f g p q = tt

-- ---- the kinds of the tasks

scope_kind : (one : Task) → kind_of_scope (kind_of one) ≡ enters_or_leaves one
scope_kind (task.enter q) = refl
scope_kind (task.leave q) = refl
scope_kind (task.put p s) = refl
scope_kind (task.delete k) = refl

kinds_by : (ts : List Task) (i : ℕ) (k : Kind) (o : Option Task) → slice_get ts i ≡ o → option_map kind_of o ≡ Some k
    → map enters_or_leaves (take (i + 1) ts) ≡ map enters_or_leaves (take i ts) ++ kind_of_scope k ∷ []
kinds_by ts i k None s e = let f : None ≡ Some k = e in absurd (cc)
kinds_by ts i k (Some one) s e =
    ap (λ (l : List Task). map enters_or_leaves l) (take_more ts i one (slice_get_within ts i one s))
    ∙ map-append enters_or_leaves (take i ts) (get_or ts i one ∷ [])
    ∙ ap (λ (b : Bool). map enters_or_leaves (take i ts) ++ b ∷ [])
    (ap enters_or_leaves (get_or_from_slice_get ts i one one s) ∙ sym (scope_kind one)
    ∙ ap kind_of_scope (same_Some (kind_of one) k e))

-- one task more of which the kind is known
pub kinds_more : (ts : List Task) (i : ℕ) (k : Kind) → option_map kind_of (slice_get ts i) ≡ Some k
    → map enters_or_leaves (take (i + 1) ts) ≡ map enters_or_leaves (take i ts) ++ kind_of_scope k ∷ []
kinds_more ts i k e = kinds_by ts i k (slice_get ts i) refl e

-- what needs nothing is listed where the call returns Ok
pub filled_on : (kinds : List Bool) (ns : List Need) (a b : Agenda) (r : Result (Unit {0}) AllocError)
    → HasNeeds a kinds ns → Keeps a b → OnOk r ((u : ℕ) → u < count a → IsSeenTo b u) → OnOk r (IsFilled kinds ns b)
filled_on kinds ns a b (Ok d) h k s = record {
  before = a;
  has_needs = h;
  keeps = k;
  seen_to = λ u l. s u (let e = ap (λ (l : List Bool). length l) k.same.kinds in omega (arith, e, l));
}
filled_on kinds ns a b (Err e) h k s = tt
