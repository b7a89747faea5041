-- Numbers below a count, and lists of these.
use Rattle.std.proofs.Common.{◌≡◌, ◌<◌, ℕ, zero, suc, Bool, true, false, List, [], ◌∷◌, length, map, get_or, cond}
use Rattle.std.proofs.Common.{refl, sym, ap, subst, ◌∙◌, arith, nat_lt}
use Rattle.std.specs.Prelude.{Contains}
use Rattle.std.specs.declared.vec.Vec.{Vec}
use Rattle.std.specs.declared.alloc.Global.{Global}
use Rattle.std.specs.List.{AllByRecursion}
use Rattle.std.proofs.lemmas.List.{length-map}
use Rattle.foundation.proofs.Comparisons.{lt_of_true, le_of_false}
use Rattle.depend_graph.specs.Shape.{Shape}
use Rattle.bicep_program.specs.Circles.{IsCircle, Chain, Links}
use Rattle.bicep_program.specs.Graphs.{AreWithin, with_links, unlinked}
use Rattle.bicep_program.proofs.GraphLemmas.{graph_of_lists}
use Rattle.bicep_circles.specs.Nodes.{below, all_below}
use Rattle.foundation.proofs.Lists.{contained_further}

abbrev pub items_of : Vec ℕ Global → List ℕ
items_of v = v.items

kept : (n x : ℕ) (ms : List ℕ) (b : Bool) → nat_lt x n ≡ b → AllByRecursion (λ k. k < n) ms
    → AllByRecursion (λ k. k < n) (cond b (x ∷ ms) ms)
kept n x ms true e h = (lt_of_true x n e, h)
kept n x ms false e h = h

-- what is left is below the count
pub below_within : (n : ℕ) (ms : List ℕ) → AllByRecursion (λ k. k < n) (below n ms)
below_within n [] = tt
below_within n (x ∷ ms) = kept n x (below n ms) (nat_lt x n) refl (below_within n ms)

lists_within : (n : ℕ) (lists : List (List ℕ)) → AreWithin n (map (below n) lists)
lists_within n [] = tt
lists_within n (l ∷ lists) = (below_within n l, lists_within n lists)

-- lists of numbers below their count
pub all_within : (vs : List (Vec ℕ Global)) (lists : List (List ℕ)) → map items_of vs ≡ all_below lists
    → AreWithin (length vs) (map items_of vs)
all_within vs lists e =
    let size : length vs ≡ length lists =
    sym (length-map vs items_of) ∙ ap length e ∙ length-map lists (below (length lists)) in
    subst (λ n. AreWithin n (map items_of vs)) (sym size)
    (subst (AreWithin (length lists)) (sym e) (lists_within (length lists) lists))

-- the list at a place
pub within_at : (n : ℕ) (vs : List (Vec ℕ Global)) (i : ℕ) (v : Vec ℕ Global) → i < length vs → v ≡ get_or vs i v
    → AreWithin n (map items_of vs) → AllByRecursion (λ k. k < n) v.items
within_at n [] i v h e w = absurd (omega (arith, h))
within_at n (x ∷ vs) zero v h e w = subst (λ y. AllByRecursion (λ k. k < n) y.items) (sym e) w.0
within_at n (x ∷ vs) (suc i) v h e w = within_at n vs i v (omega (arith, h)) e w.1

-- the graph is that of the lists
pub graph_is : (vs : List (Vec ℕ Global)) (g : Shape) → g ≡ with_links (unlinked (length vs)) 0 (map items_of vs)
    → g ≡ graph_of_lists (map items_of vs)
unfolding graph_of_lists
graph_is vs g h = h ∙ ap (λ n. with_links (unlinked n) 0 (map items_of vs)) (sym (length-map vs items_of))

-- ---- circles stay

listed_by : (b : Bool) (x : ℕ) (ms rest : List ℕ) (y : ℕ) → (Contains rest y → Contains ms y)
    → Contains (cond b (x ∷ rest) rest) y → Contains (x ∷ ms) y
listed_by true x ms rest y f (zero, within, here) = (zero, omega arith, here)
listed_by true x ms rest y f (suc k, within, here) = contained_further x ms y (f (k, omega (arith, within), here))
listed_by false x ms rest y f c = contained_further x ms y (f c)

-- what is left was in the list
listed : (n : ℕ) (ms : List ℕ) (y : ℕ) → Contains (below n ms) y → Contains ms y
listed n [] y c = c
listed n (x ∷ ms) y c = listed_by (nat_lt x n) x ms (below n ms) y (listed n ms y) c

left_by : (b : Bool) (n x : ℕ) (ms rest : List ℕ) (y : ℕ) → nat_lt x n ≡ b → y < n
    → (Contains ms y → Contains rest y) → Contains (x ∷ ms) y → Contains (cond b (x ∷ rest) rest) y
left_by true n x ms rest y e h f (zero, within, here) = (zero, omega arith, here)
left_by true n x ms rest y e h f (suc k, within, here) = contained_further x rest y (f (k, omega (arith, within), here))
left_by false n x ms rest y e h f (zero, within, here) =
    let large = le_of_false x n e in let same : x ≡ y = here in absurd (omega (arith, h, large, same))
left_by false n x ms rest y e h f (suc k, within, here) = f (k, omega (arith, within), here)

-- what is below the count is left
left : (n : ℕ) (ms : List ℕ) (y : ℕ) → y < n → Contains ms y → Contains (below n ms) y
left n [] y h c = c
left n (x ∷ ms) y h c = left_by (nat_lt x n) n x ms (below n ms) y refl h (left n ms y h) c

link_was : (n : ℕ) (lists : List (List ℕ)) (x y : ℕ) → Links (map (below n) lists) x y → Links lists x y
link_was n [] x y c = c
link_was n (l ∷ lists) zero y c = listed n l y c
link_was n (l ∷ lists) (suc x) y c = link_was n lists x y c

pub link_left : (n : ℕ) (lists : List (List ℕ)) (x y : ℕ) → y < n → Links lists x y → Links (map (below n) lists) x y
link_left n [] x y h c = c
link_left n (l ∷ lists) zero y h c = left n l y h c
link_left n (l ∷ lists) (suc x) y h c = link_left n lists x y h c

-- what leads somewhere is a symbol
pub source_within : (lists : List (List ℕ)) (x y : ℕ) → Links lists x y → x < length lists
source_within [] x y (k, within, here) = absurd (omega (arith, within))
source_within (l ∷ lists) zero y c = omega arith
source_within (l ∷ lists) (suc x) y c = let h = source_within lists x y c in omega (arith, h)

pub first_within : (lists : List (List ℕ)) (x : ℕ) (xs : List ℕ) (end : ℕ) → Chain (Links lists) (x ∷ xs) end
    → x < length lists
first_within lists x [] end c = source_within lists x end c
first_within lists x (y ∷ xs) end c = source_within lists x y c.0

chain_was : (n : ℕ) (lists : List (List ℕ)) (xs : List ℕ) (end : ℕ) → Chain (Links (map (below n) lists)) xs end
    → Chain (Links lists) xs end
chain_was n lists [] end c = c
chain_was n lists (x ∷ []) end c = link_was n lists x end c
chain_was n lists (x ∷ y ∷ xs) end c = (link_was n lists x y c.0, chain_was n lists (y ∷ xs) end c.1)

-- circles are the same without the numbers that are too large
pub circle_was : (lists : List (List ℕ)) (xs : List ℕ) → IsCircle (Links (all_below lists)) xs
    → IsCircle (Links lists) xs
circle_was lists [] c = c
circle_was lists (x ∷ xs) c = chain_was (length lists) lists (x ∷ xs) x c
