-- Nodes that are marked as done one after another: what a search that does so has come to.
use Rattle.std.proofs.Common.{◌≡◌, ◌<◌, ◌≤◌, ◌+◌, ◌==◌, ◌&&◌, ◌⊎◌, inl, inr, ℕ, zero, suc, Bool, true, false}
use Rattle.std.proofs.Common.{true≢false, not, List, [], ◌∷◌, ◌++◌, length, get_or, refl, sym, ap, ◌∙◌, arith, cond}
use Rattle.std.proofs.Common.{subst, length-append, ◌↔◌}
use Rattle.std.proofs.Math.ListN.{set}
use Rattle.std.specs.Prelude.{filter}
use Rattle.std.proofs.lemmas.Bool.{cases_eq}
use Rattle.std.proofs.lemmas.Bool.Decides.{nat_tests}
use Rattle.std.proofs.lemmas.List.{get_or-set_other}
use Rattle.std.proofs.lemmas.Grind.{get_or-set_at}
use Rattle.depend_graph.specs.Shape.{Shape, times, undone, needs_of, is_done, Needs, Chain, IsCircle}
use Rattle.depend_graph.specs.Kept.{IsKept}
use Rattle.depend_graph.specs.Circles.{can_start, HasCome, KeepsCircles, work}
use Rattle.depend_graph.proofs.Counts.{times-append, is_there}
use Rattle.depend_graph.proofs.Keeping.{kept_done, length-filter_cons, same_test, other_test, undone_less}
use Rattle.foundation.proofs.TruthValues.{both, of_not}

-- ---- circles and nodes without an undone need

differ : (w v : ℕ) → (w ≡ v → ⊥) → ◌≡◌ {A = ℕ} (cond (w == v) 1 0) 0
differ w v n = rw (other_test w v (λ e. n (sym e))) refl

undone_cons : (done : List Bool) (w : ℕ) (ws : List ℕ)
    → length (undone done (w ∷ ws)) ≡ cond (not (get_or done w false)) 1 0 + length (undone done ws)
undone_cons done w ws = length-filter_cons (λ x. not (get_or done x false)) w ws

undone_some_by : (done : List Bool) (w v : ℕ) (ws : List ℕ) → (w ≡ v) ⊎ (w ≡ v → ⊥) → 1 ≤ times (w ∷ ws) v
    → get_or done v false ≡ false → (1 ≤ times ws v → 1 ≤ length (undone done ws)) → 1 ≤ length (undone done (w ∷ ws))
undone_some_by done w v ws (inl e) h f more =
    let here : get_or done w false ≡ false = ap (λ (n : ℕ). get_or done n false) e ∙ f in
    rw (undone_cons done w ws, here) (omega arith)
undone_some_by done w v ws (inr n) h f more = let rest = more (omega (arith, h, differ w v n)) in
    omega (arith, undone_cons done w ws, rest)

undone_some : (done : List Bool) (ws : List ℕ) (v : ℕ) → 1 ≤ times ws v → get_or done v false ≡ false
    → 1 ≤ length (undone done ws)
undone_some done [] v h f = absurd (omega arith)
undone_some done (w ∷ ws) v h f = undone_some_by done w v ws (cases_eq w v) h f (λ m. undone_some done ws v m f)

pub chain_head : (g : Shape) (n : ℕ) (rest : List ℕ) (end : ℕ) → Chain g (n ∷ rest) end → is_done g n ≡ false
chain_head g n [] end c = c.0
chain_head g n (m ∷ rest) end c = c.0

-- a node is at the head or after it
at_head_or_after : (n x : ℕ) (rest : List ℕ) → 1 ≤ times (n ∷ rest) x → (n ≡ x) ⊎ (1 ≤ times rest x)
at_head_or_after n x rest h = by (cases_eq n x)
  where
    by : (n ≡ x) ⊎ (n ≡ x → ⊥) → (n ≡ x) ⊎ (1 ≤ times rest x)
    by (inl e) = inl e
    by (inr d) = inr (omega (arith, differ n x d))

-- a node that is undone and has an undone need
abbrev Waits : Shape → ℕ → Type 0
Waits g x = (is_done g x ≡ false) × (1 ≤ length (undone g.done (needs_of g x)))

chain_node_by : (g : Shape) (n x m : ℕ) (rest : List ℕ) → (n ≡ x) ⊎ (1 ≤ times rest x) → is_done g n ≡ false
    → Needs g n m → is_done g m ≡ false → (1 ≤ times rest x → Waits g x) → Waits g x
chain_node_by g n x m rest (inl e) f need free more =
    subst (Waits g) e (f, undone_some g.done (needs_of g n) m need free)
chain_node_by g n x m rest (inr there) f need free more = more there

-- each node of a chain waits, where the end is undone
chain_node : (g : Shape) (xs : List ℕ) (end x : ℕ) → Chain g xs end → is_done g end ≡ false → 1 ≤ times xs x → Waits g x
chain_node g [] end x c f h = absurd c
chain_node g (n ∷ []) end x c f h =
    chain_node_by g n x end [] (at_head_or_after n x [] h) c.0 c.1 f (λ none. absurd (omega arith))
chain_node g (n ∷ m ∷ rest) end x c f h =
    chain_node_by g n x m (m ∷ rest) (at_head_or_after n x (m ∷ rest) h) c.0 c.1 (chain_head g m rest end c.2)
    (λ there. chain_node g (m ∷ rest) end x c.2 f there)

undone_still : (done : List Bool) (n node : ℕ) → get_or done n false ≡ false → (n ≡ node → ⊥)
    → get_or (set done node true) n false ≡ false
undone_still done n node f d = get_or-set_other done node n true false d ∙ f

apart : (n node : ℕ) (rest : List ℕ) → times (n ∷ rest) node ≡ 0 → n ≡ node → ⊥
apart n node rest h e = let one = same_test n node (sym e) in
    absurd (omega (arith, ap {B = ℕ} (λ (b : Bool). cond b 1 0) one, h))

-- where a node that is in no chain is done, the chain stays
chain_stays : (g : Shape) (xs : List ℕ) (end node : ℕ) → Chain g xs end → times xs node ≡ 0
    → Chain (record { needs = g.needs; done = set g.done node true }) xs end
chain_stays g [] end node c h = c
chain_stays g (n ∷ []) end node c h = (undone_still g.done n node c.0 (apart n node [] h), c.1)
chain_stays g (n ∷ m ∷ rest) end node c h = (
  undone_still g.done n node c.0 (apart n node (m ∷ rest) h),
  c.1,
  chain_stays g (m ∷ rest) end node c.2 (omega arith),
)

none_where : (t : ℕ) → (1 ≤ t → ⊥) → t ≡ 0
none_where zero h = refl
none_where (suc t) h = absurd (h (omega arith))

-- a node without an undone need is in no circle, so each circle stays where it is done
circle_stays : (g : Shape) (xs : List ℕ) (node : ℕ) → IsCircle g xs → length (undone g.done (needs_of g node)) ≡ 0
    → IsCircle (record { needs = g.needs; done = set g.done node true }) xs
circle_stays g [] node c none = c
circle_stays g (n ∷ rest) node c none =
    chain_stays g (n ∷ rest) n node c
    (none_where _
    (λ some. absurd (omega (arith, none, (chain_node g (n ∷ rest) n node c (chain_head g n rest n c) some).1))))

keeps_circles : (g : Shape) (done : List Bool) (node : ℕ) → KeepsCircles g done
    → length (undone done (get_or g.needs node [])) ≡ 0 → KeepsCircles g (set done node true)
keeps_circles g done node k none = λ xs c. circle_stays (record { needs = g.needs; done = done }) xs node (k xs c) none

-- ---- how far the search has come

-- what is listed of a graph's nodes below a bound
pub record Lists (done : List Bool) (unmet ready : List ℕ) (bound : ℕ) : Type 0 where
  pub listed : (u : ℕ) → u < bound → can_start done unmet u ≡ true → 1 ≤ times ready u
  pub startable : (u : ℕ) → 1 ≤ times ready u → (u < bound) × (get_or unmet u 0 ≡ 0)

no_need : (unmet : List ℕ) (done : List Bool) (u : ℕ) → can_start done unmet u ≡ true → get_or unmet u 0 ≡ 0
no_need unmet done u e = zero_test (get_or unmet u 0) (both (not (get_or done u false)) (get_or unmet u 0 == 0) e).1
  where
    zero_test : (n : ℕ) → (n == 0) ≡ true → n ≡ 0
    zero_test n h = grind (arith, nat_tests)

lists_more_by : (b : Bool) (done : List Bool) (unmet ready : List ℕ) (node : ℕ) → can_start done unmet node ≡ b
    → Lists done unmet ready node → Lists done unmet (ready ++ cond b (node ∷ []) []) (node + 1)
lists_more_by true done unmet ready node e l = record {
  listed = λ u h can. below_or u h can (cases_eq u node);
  startable = λ u some. from u (omega (arith, times-append ready (node ∷ []) u, some));
}
  where
    below_or : (u : ℕ) → u < node + 1 → can_start done unmet u ≡ true → (u ≡ node) ⊎ (u ≡ node → ⊥)
        → 1 ≤ times (ready ++ node ∷ []) u
    below_or u h can (inl same) =
        omega (arith, times-append ready (node ∷ []) u, ap {B = ℕ} (λ (b : Bool). cond b 1 0) (same_test node u same))
    below_or u h can (inr other) = omega (arith, times-append ready (node ∷ []) u, l.listed u (below u h other) can)
      where
        below : (u : ℕ) → u < node + 1 → (u ≡ node → ⊥) → u < node
        below u h other = omega (arith, other)

    from : (u : ℕ) → 1 ≤ times ready u + (cond (node == u) 1 0 + 0) → (u < node + 1) × (get_or unmet u 0 ≡ 0)
    from u some = by (cases_eq node u)
      where
        by : (node ≡ u) ⊎ (node ≡ u → ⊥) → (u < node + 1) × (get_or unmet u 0 ≡ 0)
        by (inl same) = (omega arith, subst (λ (v : ℕ). get_or unmet v 0 ≡ 0) same (no_need unmet done node e))
        by (inr other) = let old = l.startable u (omega (arith, some, differ node u other)) in
            (omega (arith, old.0), old.1)
lists_more_by false done unmet ready node e l = record {
  listed = λ u h can. below_or u h can (cases_eq u node);
  startable = λ u some. let old = l.startable u (omega (arith, times-append ready [] u, some)) in
      (omega (arith, old.0), old.1);
}
  where
    below_or : (u : ℕ) → u < node + 1 → can_start done unmet u ≡ true → (u ≡ node) ⊎ (u ≡ node → ⊥)
        → 1 ≤ times (ready ++ []) u
    below_or u h can (inl same) = absurd (true≢false (sym can ∙ ap (can_start done unmet) same ∙ e))
    below_or u h can (inr other) = omega (arith, times-append ready [] u, l.listed u (below u h other) can)
      where
        below : (u : ℕ) → u < node + 1 → (u ≡ node → ⊥) → u < node
        below u h other = omega (arith, other)

pub lists_more : (done : List Bool) (unmet ready new : List ℕ) (node : ℕ)
    → new ≡ ready ++ cond (can_start done unmet node) (node ∷ []) [] → Lists done unmet ready node
    → Lists done unmet new (node + 1)
lists_more done unmet ready new node n l =
    subst (λ r. Lists done unmet r (node + 1)) (sym n)
    (lists_more_by (can_start done unmet node) done unmet ready node refl l)

-- ---- the search, step by step

-- at the start
pub begun : (g : Shape) (dependents : List (List ℕ)) (unmet ready : List ℕ) → IsKept g.needs dependents g.done unmet
    → Lists g.done unmet ready (length g.needs) → HasCome g g.done unmet ready
begun g dependents unmet ready k l = record {
  done_size = k.done_size;
  unmet_size = k.unmet_size;
  counted = k.counted;
  circles = λ xs c. c;
  later = λ u e. e;
  listed = l.listed;
  startable = l.startable;
}

-- a node that is done already is taken from the list
pub passed : (g : Shape) (done : List Bool) (unmet ready left : List ℕ) (node : ℕ) → HasCome g done unmet ready
    → ready ≡ left ++ node ∷ [] → get_or done node false ≡ true → HasCome g done unmet left
passed g done unmet ready left node h popped is = record {
  done_size = h.done_size;
  unmet_size = h.unmet_size;
  counted = h.counted;
  circles = h.circles;
  later = h.later;
  listed = λ u within can. still u (cases_eq node u) can (subst (λ r. 1 ≤ times r u) popped (h.listed u within can));
  startable =
      λ u some. h.startable u
      (subst (λ r. 1 ≤ times r u) (sym popped) (omega (arith, times-append left (node ∷ []) u, some)));
}
  where
    still : (u : ℕ) → (node ≡ u) ⊎ (node ≡ u → ⊥) → can_start done unmet u ≡ true → 1 ≤ times (left ++ node ∷ []) u
        → 1 ≤ times left u
    still u (inl same) can there =
        absurd
        (true≢false (sym can ∙ ap (can_start done unmet) (sym same)
        ∙ ap (λ b. not b && (get_or unmet node 0 == 0)) is))
    still u (inr other) can there = omega (arith, times-append left (node ∷ []) u, there, differ node u other)

-- the node on top of the list
pub top : (g : Shape) (done : List Bool) (unmet ready left : List ℕ) (node : ℕ) → HasCome g done unmet ready
    → ready ≡ left ++ node ∷ [] → (node < length g.needs) × (get_or unmet node 0 ≡ 0)
top g done unmet ready left node h popped =
    h.startable node
    (subst (λ r. 1 ≤ times r node) (sym popped) (omega (arith, times-append left (node ∷ []) node, is_there node 0)))

times-filter : (p : ℕ → Bool) (xs : List ℕ) (u : ℕ) → p u ≡ true → times (filter p xs) u ≡ times xs u
times-filter p [] u e = refl
times-filter p (x ∷ xs) u e = by (p x) refl (cases_eq x u) (times-filter p xs u e)
  where
    by : (b : Bool) → p x ≡ b → (x ≡ u) ⊎ (x ≡ u → ⊥) → times (filter p xs) u ≡ times xs u
        → times (cond b (x ∷ filter p xs) (filter p xs)) u ≡ times (x ∷ xs) u
    by true is same rest = omega (arith, rest)
    by false is (inl same) rest = absurd (true≢false (sym e ∙ ap p (sym same) ∙ is))
    by false is (inr other) rest = omega (arith, rest, differ x u other)

times-filter-le : (p : ℕ → Bool) (xs : List ℕ) (u : ℕ) → times (filter p xs) u ≤ times xs u
times-filter-le p [] u = omega arith
times-filter-le p (x ∷ xs) u = by (p x) (times-filter-le p xs u)
  where
    by : (b : Bool) → times (filter p xs) u ≤ times xs u
        → times (cond b (x ∷ filter p xs) (filter p xs)) u ≤ times (x ∷ xs) u
    by true rest = omega (arith, rest)
    by false rest = omega (arith, rest)

filter_passes : (p : ℕ → Bool) (xs : List ℕ) (u : ℕ) → 1 ≤ times (filter p xs) u → p u ≡ true
filter_passes p [] u some = absurd (omega arith)
filter_passes p (x ∷ xs) u some = by (p x) refl some (filter_passes p xs u)
  where
    by : (b : Bool) → p x ≡ b → 1 ≤ times (cond b (x ∷ filter p xs) (filter p xs)) u
        → (1 ≤ times (filter p xs) u → p u ≡ true) → p u ≡ true
    by true is there rest = among (at_head_or_after x u (filter p xs) there)
      where
        among : (x ≡ u) ⊎ (1 ≤ times (filter p xs) u) → p u ≡ true
        among (inl same) = ap p (sym same) ∙ is
        among (inr more) = rest more
    by false is there rest = rest there

pub has_needs : (needs : List (List ℕ)) (u v : ℕ) → 1 ≤ times (get_or needs u []) v → u < length needs
has_needs [] u v some = absurd (omega arith)
has_needs (ws ∷ needs) zero v some = omega arith
has_needs (ws ∷ needs) (suc u) v some = omega (arith, has_needs needs u v some)

can_start_from : (done : List Bool) (unmet : List ℕ) (u : ℕ) → get_or done u false ≡ false → get_or unmet u 0 ≡ 0
    → can_start done unmet u ≡ true
can_start_from done unmet u f z = rw (f, z) refl

done_still : (done : List Bool) (node u : ℕ) → node < length done → get_or done u false ≡ true
    → get_or (set done node true) u false ≡ true
done_still done node u h e = by (cases_eq u node)
  where
    by : (u ≡ node) ⊎ (u ≡ node → ⊥) → get_or (set done node true) u false ≡ true
    by (inl same) = get_or-set_at done node u true false same h
    by (inr other) = get_or-set_other done node u true false other ∙ e

-- a node is marked: those that need it are counted down, and listed where they have no undone need left
pub marked_next : (g : Shape) (dependents : List (List ℕ)) (first : List ℕ) (done : List Bool)
    (unmet fewer ready left new : List ℕ) (node : ℕ)
    → IsKept g.needs dependents g.done first → HasCome g done unmet ready → ready ≡ left ++ node ∷ []
    → get_or done node false ≡ false
    → length fewer ≡ length unmet
    → ((u : ℕ) → get_or fewer u 0 + times (get_or dependents node []) u ≡ get_or unmet u 0)
    → new ≡ left ++ filter (can_start (set done node true) fewer) (get_or dependents node [])
    → HasCome g (set done node true) fewer new
marked_next g dependents first done unmet fewer ready left new node k h popped free size counts n =
    let here = top g done unmet ready left node h popped in
    let now : IsKept g.needs dependents done unmet = record {
      listed_size = k.listed_size;
      done_size = h.done_size;
      unmet_size = h.unmet_size;
      few = k.few;
      rising = k.rising;
      below = k.below;
      listed = k.listed;
      counted = h.counted;
    } in
    let then = kept_done g.needs dependents done unmet fewer node now free here.0 size counts in
    record {
      done_size = then.done_size;
      unmet_size = then.unmet_size;
      counted = then.counted;
      circles = keeps_circles g done node h.circles (sym (h.counted node) ∙ here.1);
      later = λ u e. done_still done node u (omega (arith, h.done_size, here.0)) (h.later u e);
      listed = λ u within can. subst (λ r. 1 ≤ times r u) (sym n) (either u within can (get_or unmet u 0) refl);
      startable = λ u some. from u (subst (λ r. 1 ≤ times r u) n some);
    }
  where
    starts : List ℕ
    starts = filter (can_start (set done node true) fewer) (get_or dependents node [])

    still_free : (u : ℕ) → can_start (set done node true) fewer u ≡ true → (node ≡ u → ⊥)
        × (get_or done u false ≡ false)
    still_free u can = by (cases_eq node u)
      where
        undone_now : get_or (set done node true) u false ≡ false
        undone_now =
            of_not (get_or (set done node true) u false)
            (both (not (get_or (set done node true) u false)) (get_or fewer u 0 == 0) can).0

        by : (node ≡ u) ⊎ (node ≡ u → ⊥) → (node ≡ u → ⊥) × (get_or done u false ≡ false)
        by (inl same) =
            absurd
            (true≢false
            (sym
            (get_or-set_at done node u true false (sym same)
            (omega (arith, h.done_size, (top g done unmet ready left node h popped).0))) ∙ undone_now))
        by (inr other) = (other, sym (get_or-set_other done node u true false (λ e. other (sym e))) ∙ undone_now)

    either : (u : ℕ) → u < length g.needs → can_start (set done node true) fewer u ≡ true → (m : ℕ)
        → get_or unmet u 0 ≡ m → 1 ≤ times (left ++ starts) u
    either u within can zero e =
        let free_now = still_free u can in
        let old = subst (λ r. 1 ≤ times r u) popped (h.listed u within (can_start_from done unmet u free_now.1 e)) in
        omega (arith, times-append left (node ∷ []) u, old, differ node u free_now.0, times-append left starts u)
    either u within can (suc m) e =
        let none = no_need fewer (set done node true) u can in
        omega (
          arith,
          times-append left starts u,
          times-filter (can_start (set done node true) fewer) (get_or dependents node []) u can,
          counts u,
          none,
          e,
        )

    from : (u : ℕ) → 1 ≤ times (left ++ starts) u → (u < length g.needs) × (get_or fewer u 0 ≡ 0)
    from u some = by (times left u) refl
      where
        by : (m : ℕ) → times left u ≡ m → (u < length g.needs) × (get_or fewer u 0 ≡ 0)
        by zero e =
            let there : 1 ≤ times starts u = omega (arith, times-append left starts u, some, e) in
            let can = filter_passes (can_start (set done node true) fewer) (get_or dependents node []) u there in
            let needs : 1 ≤ times (get_or g.needs u []) node =
            omega (
              arith,
              there,
              times-filter-le (can_start (set done node true) fewer) (get_or dependents node []) u,
              k.listed u node,
            )
            in
            (has_needs g.needs u node needs, no_need fewer (set done node true) u can)
        by (suc m) e =
            let old =
            h.startable u
            (subst (λ r. 1 ≤ times r u) (sym popped) (omega (arith, times-append left (node ∷ []) u, e))) in
            (old.0, omega (arith, counts u, old.1))

-- what a marked node's dependents are counted down by is there
pub counts_down : (g : Shape) (dependents : List (List ℕ)) (first : List ℕ) (done : List Bool) (unmet ready : List ℕ)
    (node : ℕ) → IsKept g.needs dependents g.done first → HasCome g done unmet ready → node < length g.needs
    → get_or done node false ≡ false
    → (u : ℕ) → times (get_or dependents node []) u ≤ get_or unmet u 0
counts_down g dependents first done unmet ready node k h within free u =
    omega (
      arith,
      k.listed u node,
      h.counted u,
      undone_less done node (get_or g.needs u []) free (omega (arith, h.done_size)),
    )

-- those that need a node are nodes
pub dependents_are_nodes : (g : Shape) (dependents : List (List ℕ)) (first : List ℕ) (node u : ℕ)
    → IsKept g.needs dependents g.done first → 1 ≤ times (get_or dependents node []) u → u < length g.needs
dependents_are_nodes g dependents first node u k some = has_needs g.needs u node (omega (arith, k.listed u node))

work-set : (done : List Bool) (dependents : List (List ℕ)) (node : ℕ) → node < length done → node < length dependents
    → get_or done node false ≡ false
    → work done dependents ≡ 1 + length (get_or dependents node []) + work (set done node true) dependents
work-set [] ds node h g f = absurd (omega arith)
work-set (b ∷ bs) [] node h g f = absurd (omega arith)
work-set (true ∷ bs) (d ∷ ds) zero h g f = absurd (true≢false f)
work-set (false ∷ bs) (d ∷ ds) zero h g f = refl
work-set (true ∷ bs) (d ∷ ds) (suc node) h g f = work-set bs ds node (omega arith) (omega arith) f
work-set (false ∷ bs) (d ∷ ds) (suc node) h g f = omega (arith, work-set bs ds node (omega arith) (omega arith) f)

length-filter-le : (p : ℕ → Bool) (xs : List ℕ) → length (filter p xs) ≤ length xs
length-filter-le p [] = omega arith
length-filter-le p (x ∷ xs) = by (p x) (length-filter-le p xs)
  where
    by : (b : Bool) → length (filter p xs) ≤ length xs
        → length (cond b (x ∷ filter p xs) (filter p xs)) ≤ length (x ∷ xs)
    by true rest = omega (arith, rest)
    by false rest = omega (arith, rest)

-- each marked node leaves less to do
pub less_to_do : (done : List Bool) (dependents : List (List ℕ)) (p : ℕ → Bool) (ready left new : List ℕ) (node : ℕ)
    → node < length done → node < length dependents → get_or done node false ≡ false → ready ≡ left ++ node ∷ []
    → new ≡ left ++ filter p (get_or dependents node [])
    → work (set done node true) dependents + length new < work done dependents + length ready
less_to_do done dependents p ready left new node h g f popped n =
    omega (
      arith,
      work-set done dependents node h g f,
      ap length popped,
      ap length n,
      length-append left (node ∷ []),
      length-append left (filter p (get_or dependents node [])),
      length-filter-le p (get_or dependents node []),
    )

all_done_empty : (done : List Bool) (ws : List ℕ) → ((v : ℕ) → 1 ≤ times ws v → get_or done v false ≡ true)
    → length (undone done ws) ≡ 0
all_done_empty done [] all = refl
all_done_empty done (w ∷ ws) all =
    let here : not (get_or done w false) ≡ false = ap not (all w (is_there w (times ws w))) in
    omega (
      arith,
      undone_cons done w ws,
      ap {B = ℕ} (λ (b : Bool). cond b 1 0) here,
      all_done_empty done ws (λ v some. all v (omega (arith, some))),
    )

pub empty_all_done : (done : List Bool) (ws : List ℕ) (v : ℕ) (b : Bool) → get_or done v false ≡ b
    → length (undone done ws) ≡ 0 → 1 ≤ times ws v → get_or done v false ≡ true
empty_all_done done ws v true e none some = e
empty_all_done done ws v false e none some = absurd (omega (arith, undone_some done ws v some e))

-- a node has no undone need exactly where each of its needs is done
pub none_undone : (ready : Bool) (done : List Bool) (ws : List ℕ) → (ready ≡ true → length (undone done ws) ≡ 0)
    → (length (undone done ws) ≡ 0 → ready ≡ true)
    → (ready ≡ true) ↔ ((v : ℕ) → 1 ≤ times ws v → get_or done v false ≡ true)
none_undone ready done ws f g =
    (λ r v some. empty_all_done done ws v _ refl (f r) some, λ all. g (all_done_empty done ws all))
