-- What the graph of the files of a program says.
use Rattle.std.proofs.Common.{◌≡◌, ◌<◌, ◌≤◌, ◌+◌, ◌==◌, ◌⊎◌, inl, inr, ℕ, zero, suc, Bool, false, List, [], ◌∷◌}
use Rattle.std.proofs.Common.{length, get_or, refl, sym, ap, ◌∙◌, arith, cond, subst, Ordering, Less, Equal, Greater}
use Rattle.std.proofs.Common.{nat_cmp}
use Rattle.std.specs.Prelude.{Contains}
use Rattle.std.specs.BTreeSet.{insert_key}
use Rattle.std.specs.Ordering.{match_ordering}
use Rattle.std.specs.List.{AllByRecursion}
use Rattle.std.proofs.lemmas.Bool.Decides.{nat_tests}
use Rattle.std.proofs.lemmas.List.{get_or-set_other, length-set}
use Rattle.std.proofs.lemmas.Grind.{get_or-set_at}
use Rattle.std.proofs.lemmas.Bool.{cases_eq}
use Rattle.depend_graph.specs.Shape.{Shape, times, Needs, with_edge, is_done}
use Rattle.depend_graph.specs.Shape as graph
use Rattle.depend_graph.proofs.Keeping.{same_test, other_test, get_or-replicate, length-replicate}
use Rattle.bicep_program.specs.Circles.{IsCircle, Chain, Links}
use Rattle.bicep_program.specs.Graphs.{with_needs, with_links, unlinked, AreWithin}
use Rattle.foundation.proofs.Lists.{contained_further}

-- a number that is put in order: nothing is lost, at most this number is new, and it is there
least_by : (o : Ordering) (w v : ℕ) (ws : List ℕ) (x : ℕ) → times ws x ≤ times (insert_key nat_cmp ws v) x
    → times (w ∷ ws) x ≤ times (match_ordering o (v ∷ w ∷ ws) (w ∷ ws) (w ∷ insert_key nat_cmp ws v)) x
least_by Less w v ws x h = omega arith
least_by Equal w v ws x h = omega arith
least_by Greater w v ws x h = omega (arith, h)

least : (ws : List ℕ) (v x : ℕ) → times ws x ≤ times (insert_key nat_cmp ws v) x
least [] v x = omega arith
least (w ∷ ws) v x = least_by (nat_cmp v w) w v ws x (least ws v x)

most_by : (o : Ordering) (w v : ℕ) (ws : List ℕ) (x : ℕ)
    → times (insert_key nat_cmp ws v) x ≤ times ws x + cond (v == x) 1 0
    → times (match_ordering o (v ∷ w ∷ ws) (w ∷ ws) (w ∷ insert_key nat_cmp ws v)) x
    ≤ times (w ∷ ws) x + cond (v == x) 1 0
most_by Less w v ws x h = omega arith
most_by Equal w v ws x h = omega arith
most_by Greater w v ws x h = omega (arith, h)

most : (ws : List ℕ) (v x : ℕ) → times (insert_key nat_cmp ws v) x ≤ times ws x + cond (v == x) 1 0
most [] v x = omega arith
most (w ∷ ws) v x = most_by (nat_cmp v w) w v ws x (most ws v x)

counts_itself : (v : ℕ) (ws : List ℕ) → 1 ≤ times (v ∷ ws) v
counts_itself v ws = rw (same_test v v refl) (omega arith)

there_by : (o : Ordering) (w v : ℕ) (ws : List ℕ) → nat_cmp v w ≡ o → 1 ≤ times (insert_key nat_cmp ws v) v
    → 1 ≤ times (match_ordering o (v ∷ w ∷ ws) (w ∷ ws) (w ∷ insert_key nat_cmp ws v)) v
there_by Less w v ws e h = counts_itself v (w ∷ ws)
there_by Equal w v ws e h = let s : v ≡ w = grind (arith, nat_tests) in
    subst (λ y. 1 ≤ times (y ∷ ws) v) s (counts_itself v ws)
there_by Greater w v ws e h = omega (arith, h)

there : (ws : List ℕ) (v : ℕ) → 1 ≤ times (insert_key nat_cmp ws v) v
there [] v = counts_itself v []
there (w ∷ ws) v = there_by (nat_cmp v w) w v ws refl (there ws v)

-- what is counted in a list is in it
pub contained : (xs : List ℕ) (v : ℕ) → Contains xs v → 1 ≤ times xs v
contained [] v h = absurd (omega (arith, h.1))
contained (x ∷ xs) v (zero, within, here) = subst (λ y. 1 ≤ times (y ∷ xs) v) (sym here) (counts_itself v xs)
contained (x ∷ xs) v (suc k, within, here) = omega (arith, contained xs v (k, omega arith, here))

-- the needs of a node with one need more
edge_by : (g : Shape) (a b u v : ℕ) → (u ≡ a) ⊎ (u ≡ a → ⊥) → a < length g.needs
    → Needs g u v ⊎ ((u ≡ a) × (v ≡ b)) → Needs (with_edge g a b) u v
edge_by g a b u v (inl e) h (inl n) =
    rw (get_or-set_at g.needs a u (insert_key nat_cmp (get_or g.needs a []) b) [] e h)
    (let s : times (get_or g.needs a []) v ≡ times (get_or g.needs u []) v = rw e refl in
    omega (arith, least (get_or g.needs a []) b v, n))
edge_by g a b u v (inl e) h (inr p) =
    rw (get_or-set_at g.needs a u (insert_key nat_cmp (get_or g.needs a []) b) [] e h)
    (subst (λ y. 1 ≤ times (insert_key nat_cmp (get_or g.needs a []) b) y) (sym p.1) (there (get_or g.needs a []) b))
edge_by g a b u v (inr ne) h (inl n) =
    rw (get_or-set_other g.needs a u (insert_key nat_cmp (get_or g.needs a []) b) [] ne) n
edge_by g a b u v (inr ne) h (inr p) = absurd (ne p.0)

pub edge_to : (g : Shape) (a b u v : ℕ) → a < length g.needs → Needs g u v ⊎ ((u ≡ a) × (v ≡ b))
    → Needs (with_edge g a b) u v
edge_to g a b u v h n = edge_by g a b u v (cases_eq u a) h n

edge_from_by : (g : Shape) (a b u v : ℕ) → (u ≡ a) ⊎ (u ≡ a → ⊥) → (v ≡ b) ⊎ (v ≡ b → ⊥) → a < length g.needs
    → Needs (with_edge g a b) u v → Needs g u v ⊎ ((u ≡ a) × (v ≡ b))
edge_from_by g a b u v (inl e) (inl f) h n = inr (e, f)
edge_from_by g a b u v (inl e) (inr f) h n = inl (
    let m = rw (get_or-set_at g.needs a u (insert_key nat_cmp (get_or g.needs a []) b) [] e h) at n in
    let z : ◌≡◌ {A = ℕ} (cond (b == v) 1 0) 0 = ap {A = Bool} {B = ℕ} (λ t. cond t 1 0) (other_test b v f) in
    let s : times (get_or g.needs a []) v ≡ times (get_or g.needs u []) v =
    ap (λ y. times (get_or g.needs y []) v) (sym e) in
    omega (arith, most (get_or g.needs a []) b v, m, z, s))
edge_from_by g a b u v (inr ne) f h n =
    inl (rw (get_or-set_other g.needs a u (insert_key nat_cmp (get_or g.needs a []) b) [] ne) at n)

pub edge_from : (g : Shape) (a b u v : ℕ) → a < length g.needs → Needs (with_edge g a b) u v
    → Needs g u v ⊎ ((u ≡ a) × (v ≡ b))
edge_from g a b u v h n = edge_from_by g a b u v (cases_eq u a) (cases_eq v b) h n

-- the needs of a node with several more
pub needs_to : (g : Shape) (a : ℕ) (bs : List ℕ) (u v : ℕ) → a < length g.needs
    → Needs g u v ⊎ ((u ≡ a) × Contains bs v) → Needs (with_needs g a bs) u v
needs_to g a [] u v h (inl n) = n
needs_to g a [] u v h (inr (e, (k, within, here))) = absurd (omega (arith, within))
needs_to g a (b ∷ bs) u v h (inl n) =
    needs_to (with_edge g a b) a bs u v (rw length-set h) (inl (edge_to g a b u v h (inl n)))
needs_to g a (b ∷ bs) u v h (inr (e, (zero, within, here))) =
    needs_to (with_edge g a b) a bs u v (rw length-set h) (inl (edge_to g a b u v h (inr (e, sym here))))
needs_to g a (b ∷ bs) u v h (inr (e, (suc k, within, here))) =
    needs_to (with_edge g a b) a bs u v (rw length-set h) (inr (e, (k, omega arith, here)))

needs_from_by : (g : Shape) (a b : ℕ) (bs : List ℕ) (u v : ℕ) → a < length g.needs
    → Needs (with_edge g a b) u v ⊎ ((u ≡ a) × Contains bs v) → Needs g u v ⊎ ((u ≡ a) × Contains (b ∷ bs) v)
needs_from_by g a b bs u v h (inr p) = inr (p.0, contained_further b bs v p.1)
needs_from_by g a b bs u v h (inl n) = by (edge_from g a b u v h n)
  where
    by : Needs g u v ⊎ ((u ≡ a) × (v ≡ b)) → Needs g u v ⊎ ((u ≡ a) × Contains (b ∷ bs) v)
    by (inl m) = inl m
    by (inr p) = inr (p.0, (zero, omega arith, sym p.1))

pub needs_from : (g : Shape) (a : ℕ) (bs : List ℕ) (u v : ℕ) → a < length g.needs → Needs (with_needs g a bs) u v
    → Needs g u v ⊎ ((u ≡ a) × Contains bs v)
needs_from g a [] u v h n = inl n
needs_from g a (b ∷ bs) u v h n =
    needs_from_by g a b bs u v h (needs_from (with_edge g a b) a bs u v (rw length-set h) n)

pub size_needs : (g : Shape) (a : ℕ) (bs : List ℕ) → length (with_needs g a bs).needs ≡ length g.needs
size_needs g a [] = refl
size_needs g a (b ∷ bs) = size_needs (with_edge g a b) a bs
    ∙ length-set g.needs a (insert_key nat_cmp (get_or g.needs a []) b)

-- the needs of all nodes from one on
keeps_links : (g : Shape) (node : ℕ) (lists : List (List ℕ)) (u v : ℕ) → node + length lists ≤ length g.needs
    → Needs g u v → Needs (with_links g node lists) u v
keeps_links g node [] u v h n = n
keeps_links g node (l ∷ lists) u v h n = keeps_links (with_needs g node l) (node + 1) lists u v
    (rw (size_needs g node l) (omega arith)) (needs_to g node l u v (omega arith) (inl n))

pub links_to : (g : Shape) (node : ℕ) (lists : List (List ℕ)) (k v : ℕ) → node + length lists ≤ length g.needs
    → Links lists k v → Needs (with_links g node lists) (node + k) v
links_to g node [] k v h (i, within, here) = absurd (omega (arith, within))
links_to g node (l ∷ lists) zero v h c = keeps_links (with_needs g node l) (node + 1) lists (node + zero) v
    (rw (size_needs g node l) (omega arith)) (needs_to g node l (node + zero) v (omega arith) (inr (omega arith, c)))
links_to g node (l ∷ lists) (suc k) v h c =
    let e : node + suc k ≡ (node + 1) + k = omega arith in
    rw e (links_to (with_needs g node l) (node + 1) lists k v (rw (size_needs g node l) (omega arith)) c)

-- the node is one of these, and its list has the need
LinksFrom : List (List ℕ) → ℕ → ℕ → ℕ → Type 0
LinksFrom lists node u v = (k : ℕ) × (u ≡ node + k) × Links lists k v

links_from_by : (g : Shape) (node : ℕ) (l : List ℕ) (lists : List (List ℕ)) (u v : ℕ) → node < length g.needs
    → Needs (with_needs g node l) u v ⊎ LinksFrom lists (node + 1) u v
    → Needs g u v ⊎ LinksFrom (l ∷ lists) node u v
unfolding LinksFrom
links_from_by g node l lists u v h (inr (k, e, c)) = inr (suc k, omega (arith, e), c)
links_from_by g node l lists u v h (inl n) = by (needs_from g node l u v h n)
  where
    by : Needs g u v ⊎ ((u ≡ node) × Contains l v) → Needs g u v ⊎ LinksFrom (l ∷ lists) node u v
    by (inl m) = inl m
    by (inr p) = inr (zero, omega (arith, p.0), p.1)

links_from : (g : Shape) (node : ℕ) (lists : List (List ℕ)) (u v : ℕ) → node + length lists ≤ length g.needs
    → Needs (with_links g node lists) u v → Needs g u v ⊎ LinksFrom lists node u v
links_from g node [] u v h n = inl n
links_from g node (l ∷ lists) u v h n = links_from_by g node l lists u v (omega arith)
    (links_from (with_needs g node l) (node + 1) lists u v (rw (size_needs g node l) (omega arith)) n)

-- no node is done
pub done_needs : (g : Shape) (a : ℕ) (bs : List ℕ) → (with_needs g a bs).done ≡ g.done
done_needs g a [] = refl
done_needs g a (b ∷ bs) = done_needs (with_edge g a b) a bs

pub done_links : (g : Shape) (node : ℕ) (lists : List (List ℕ)) → (with_links g node lists).done ≡ g.done
done_links g node [] = refl
done_links g node (l ∷ lists) = done_links (with_needs g node l) (node + 1) lists ∙ done_needs g node l

-- the graph of these lists
unfoldable pub graph_of_lists : List (List ℕ) → Shape
graph_of_lists lists = with_links (unlinked (length lists)) 0 lists

pub none_done : (lists : List (List ℕ)) (u : ℕ) → is_done (graph_of_lists lists) u ≡ false
unfolding graph_of_lists
none_done lists u = ap (λ d. get_or d u false) (done_links (unlinked (length lists)) 0 lists)
    ∙ get_or-replicate {A = Bool} (length lists) u false

pub need_of_link : (lists : List (List ℕ)) (u v : ℕ) → Links lists u v → Needs (graph_of_lists lists) u v
unfolding graph_of_lists
need_of_link lists u v c = let e : 0 + u ≡ u = omega arith in
    rw e at (links_to (unlinked (length lists)) 0 lists u v (rw length-replicate (omega arith)) c)

link_of_need : (lists : List (List ℕ)) (u v : ℕ) → Needs (graph_of_lists lists) u v → Links lists u v
unfolding graph_of_lists LinksFrom
link_of_need lists u v n = by (links_from (unlinked (length lists)) 0 lists u v (rw length-replicate (omega arith)) n)
  where
    by : Needs (unlinked (length lists)) u v ⊎ LinksFrom lists 0 u v → Links lists u v
    by (inl m) = absurd (let z = rw (get_or-replicate {A = List ℕ} (length lists) u []) at m in omega (arith, z))
    by (inr (k, e, c)) = let s : k ≡ u = omega (arith, e) in subst (λ x. Links lists x v) s c

chain_to : (lists : List (List ℕ)) (xs : List ℕ) (end : ℕ) → Chain (Links lists) xs end
    → graph.Chain (graph_of_lists lists) xs end
chain_to lists [] end h = h
chain_to lists (x ∷ []) end h = (none_done lists x, need_of_link lists x end h)
chain_to lists (x ∷ y ∷ xs) end h =
    (none_done lists x, need_of_link lists x y h.0, chain_to lists (y ∷ xs) end h.1)

chain_from : (lists : List (List ℕ)) (xs : List ℕ) (end : ℕ) → graph.Chain (graph_of_lists lists) xs end
    → Chain (Links lists) xs end
chain_from lists [] end h = h
chain_from lists (x ∷ []) end h = link_of_need lists x end h.1
chain_from lists (x ∷ y ∷ xs) end h = (link_of_need lists x y h.1, chain_from lists (y ∷ xs) end h.2)

-- circles of the lists are circles of the graph, and the other way round
pub circle_to : (lists : List (List ℕ)) (xs : List ℕ) → IsCircle (Links lists) xs
    → graph.IsCircle (graph_of_lists lists) xs
circle_to lists [] h = h
circle_to lists (x ∷ xs) h = chain_to lists (x ∷ xs) x h

pub circle_from : (lists : List (List ℕ)) (xs : List ℕ) → graph.IsCircle (graph_of_lists lists) xs
    → IsCircle (Links lists) xs
circle_from lists [] h = h
circle_from lists (x ∷ xs) h = chain_from lists (x ∷ xs) x h

-- all numbers of a circle are within the bound
chain_within : (n : ℕ) (lists : List (List ℕ)) → AreWithin n lists → (x y : ℕ) → Links lists x y → y < n
chain_within n [] w x y (i, within, here) = absurd (omega (arith, within))
chain_within n (l ∷ lists) w zero y c = in_list l w.0 c
  where
    in_list : (ks : List ℕ) → AllByRecursion (λ k. k < n) ks → Contains ks y → y < n
    in_list [] a (i, within, here) = absurd (omega (arith, within))
    in_list (k ∷ ks) a (zero, within, here) = subst (λ z. z < n) here a.0
    in_list (k ∷ ks) a (suc i, within, here) = in_list ks a.1 (i, omega arith, here)
chain_within n (l ∷ lists) w (suc x) y c = chain_within n lists w.1 x y c

rest_within : (n : ℕ) (lists : List (List ℕ)) → AreWithin n lists → (x : ℕ) (xs : List ℕ) (end : ℕ)
    → Chain (Links lists) (x ∷ xs) end → (end < n) × AllByRecursion (λ k. k < n) xs
rest_within n lists w x [] end h = (chain_within n lists w x end h, tt)
rest_within n lists w x (y ∷ xs) end h = let r = rest_within n lists w y xs end h.1 in
    (r.0, (chain_within n lists w x y h.0, r.1))

pub circle_within : (n : ℕ) (lists : List (List ℕ)) (xs : List ℕ) → AreWithin n lists → IsCircle (Links lists) xs
    → AllByRecursion (λ k. k < n) xs
circle_within n lists [] w h = tt
circle_within n lists (x ∷ xs) w h = rest_within n lists w x xs x h
