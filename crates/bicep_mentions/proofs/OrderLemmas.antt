-- An order of the symbols gives each a rank.
use Rattle.std.proofs.Common.{◌≡◌, ◌<◌, ◌≤◌, ℕ, List, [], ◌∷◌, length, get_or, arith}
use Rattle.bicep_circles.specs.Kind.{Kind}
use Rattle.bicep_circles.specs.Declarations.{DeclaredTree}
use Rattle.bicep_circles.specs.Links.{links}
use Rattle.bicep_circles.specs.Orders.{IsLinkOrder}
use Rattle.bicep_circles.proofs.PlaceLemmas.{place, link_falls, place_within}
use Rattle.bicep_mentions.specs.Agreement.{IsKnown}
use Rattle.bicep_mentions.specs.Entries.{state_step, state_reads}
use Rattle.bicep_mentions.specs.Through.{mentioning, mentioning_step}
use Rattle.bicep_mentions.proofs.ThroughLemmas.{is_closed}
use Rattle.bicep_mentions.proofs.RankLemmas.{IsRanked, is_settled}

-- there are no more symbols than declarations
pub links_few : (xs : List Kind) (ds : List DeclaredTree) → length (links xs ds) ≤ length ds
links_few [] ds = omega arith
links_few (x ∷ xs) [] = omega arith
links_few (x ∷ xs) (d ∷ ds) = let h = links_few xs ds in omega (arith, h)

-- the next symbol of an order has a place in a list that is as long as the declarations
pub has_place : (xs : List Kind) (ds : List DeclaredTree) (order : List ℕ) → IsLinkOrder (links xs ds) order
    → (i n : ℕ) → i < length order → n ≡ length ds → get_or order i 0 < n
has_place xs ds order o i n h same =
    let node = o.nodes i h in let few = links_few xs ds in omega (arith, node, few, same)

ranks : (xs : List Kind) (ds : List DeclaredTree) (order : List ℕ) → IsLinkOrder (links xs ds) order
    → IsRanked xs ds (place order)
ranks xs ds order o = record { falls = link_falls (links xs ds) order o; few = few }
  where
    few : (n : ℕ) → n < length (links xs ds) → place order n < length ds
    few n here =
        let within = place_within (links xs ds) order o n here in
        let all = links_few xs ds in
        let count = o.counted in
        omega (arith, within, all, count)

-- the declarations say of each symbol what is known of it, and what it mentions
pub states_settle : (xs : List Kind) (ds : List DeclaredTree) (order : List ℕ) → IsLinkOrder (links xs ds) order
    → IsKnown (state_reads xs ds) (state_step xs ds (state_reads xs ds))
states_settle xs ds order o = is_settled xs ds (place order) (ranks xs ds order o)

pub mentions_settle : (xs : List Kind) (ds : List DeclaredTree) (order : List ℕ) → IsLinkOrder (links xs ds) order
    → (k n : ℕ) → mentioning xs ds k n ≡ mentioning_step xs ds (mentioning xs ds) k n
mentions_settle xs ds order o = is_closed xs ds (place order) (ranks xs ds order o)
