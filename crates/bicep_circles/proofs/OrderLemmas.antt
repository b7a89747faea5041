-- Orders of the graph of lists are orders of the lists.
use Rattle.std.proofs.Common.{◌≡◌, ◌+◌, ◌⊎◌, inl, inr, ℕ, true, true≢false, List, []}
use Rattle.std.proofs.Common.{◌∷◌, length, refl, sym, subst, ◌∙◌, arith}
use Rattle.std.specs.Prelude.{Result, Ok, Err, IfOk}
use Rattle.std.proofs.lemmas.List.{length-map}
use Rattle.depend_graph.specs.Shape.{Shape, is_done}
use Rattle.depend_graph.specs.Orders.{IsOrder, IsSorted, IsAmong, marked}
use Rattle.depend_graph.specs.declared.order.Sorted.{Sorted}
use Rattle.depend_graph.specs.declared.order.Sorted.TheVariants as sorted
use Rattle.depend_graph.proofs.Keeping.{length-replicate}
use Rattle.depend_graph.proofs.Walking.{none_marked}
use Rattle.bicep_program.specs.Graphs.{with_needs, with_links, unlinked}
use Rattle.bicep_program.proofs.GraphLemmas.{graph_of_lists, size_needs, circle_from}
use Rattle.bicep_program.proofs.GraphLemmas.{need_of_link, none_done}
use Rattle.bicep_circles.specs.Nodes.{below, all_below}
use Rattle.bicep_circles.specs.Orders.{IsLinkOrder, AreSorted}
use Rattle.bicep_circles.proofs.LinkLemmas.{circle_was, link_left}

size_links : (g : Shape) (node : ℕ) (lists : List (List ℕ)) → length (with_links g node lists).needs ≡ length g.needs
size_links g node [] = refl
size_links g node (l ∷ lists) = size_links (with_needs g node l) (node + 1) lists ∙ size_needs g node l

size_of_graph : (lists : List (List ℕ)) → length (graph_of_lists lists).needs ≡ length lists
unfolding graph_of_lists
size_of_graph lists = size_links (unlinked (length lists)) 0 lists ∙ length-replicate {A = List ℕ} (length lists) []

-- what is done or among these is among these, since nothing is done
among : (lists : List (List ℕ)) (order : List ℕ) (count u : ℕ)
    → (is_done (graph_of_lists lists) u ≡ true) ⊎ IsAmong order count u → IsAmong order count u
among lists order count u (inl e) = absurd (true≢false (sym e ∙ none_done lists u))
among lists order count u (inr p) = p

order_is : (lists : List (List ℕ)) (order : List ℕ) → IsOrder (graph_of_lists (all_below lists)) order
    → IsLinkOrder lists order
order_is lists order o = record {
  counted = omega (arith, size, o.counted, unmarked);
  nodes = λ i h. let node = o.nodes i h in omega (arith, size, node);
  in_turn = λ i m h c w.
      among (all_below lists) order i m
      (o.in_turn i m h (need_of_link (all_below lists) _ m (link_left (length lists) lists _ m w c)));
  all = λ u h. among (all_below lists) order (length order) u (o.all u (omega (arith, size, h)));
}
  where
    size : length (graph_of_lists (all_below lists)).needs ≡ length lists
    size = size_of_graph (all_below lists) ∙ length-map lists (below (length lists))

    unmarked : marked (graph_of_lists (all_below lists)).done ≡ 0
    unmarked = none_marked 0 (graph_of_lists (all_below lists)).done (none_done (all_below lists))

sorted_is : (lists : List (List ℕ)) (s : Sorted) → IsSorted (graph_of_lists (all_below lists)) s → AreSorted lists s
sorted_is lists (sorted.Order xs) h = order_is lists xs.items h
sorted_is lists (sorted.Circle xs) h =
    (circle_was lists xs.items (circle_from (all_below lists) xs.items h.0), h.1, h.2)

pub all_sorted : {E : Type 0} (r : Result Sorted E) (g : Shape) (now lists : List (List ℕ)) → now ≡ all_below lists
    → g ≡ graph_of_lists now → IfOk r (IsSorted g) → IfOk r (AreSorted lists)
all_sorted (Ok s) g now lists e f h =
    sorted_is lists s (subst (λ ls. IsSorted (graph_of_lists ls) s) e (subst (λ x. IsSorted x s) f h))
all_sorted (Err x) g now lists e f h = h
