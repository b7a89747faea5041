-- Lists of dependencies that are filled in an order of the symbols.
use Rattle.std.proofs.Common.{◌≡◌, ◌<◌, ◌≤◌, ◌+◌, ◌&&◌, ℕ, List, [], length, get_or, refl, sym, ap, ◌∙◌, arith}
use Rattle.std.specs.Prelude.{replicate, slice_get}
use Rattle.std.proofs.Math.ListN.{set}
use Rattle.std.proofs.lemmas.Grind.{get_or-set_at}
use Rattle.std.proofs.lemmas.List.{get_or-set_other, length-set}
use Rattle.depend_graph.proofs.Keeping.{get_or-replicate, length-replicate}
use Rattle.bicep_declared.specs.Kind.{Kind}
use Rattle.bicep_declared.specs.Declarations.{DeclaredTree}
use Rattle.bicep_mentions.specs.Links.{links}
use Rattle.bicep_mentions.specs.Orders.{IsLinkOrder}
use Rattle.bicep_mentions.proofs.FillLemmas as fill
use Rattle.bicep_mentions.specs.Through.{mentioning}
use Rattle.bicep_mentions.proofs.ThroughLemmas.{nothing}
use Rattle.bicep_mentions.proofs.OrderLemmas.{mentions_settle, has_place}
use Rattle.bicep_dependencies.specs.Dependencies.{is_target, depends_on, has, AreDependencies}
use Rattle.bicep_dependencies.specs.Steps.{any_leads}
use Rattle.bicep_dependencies.proofs.LeadLemmas.{any_leads_as}
use Rattle.foundation.proofs.TruthValues.{and_false_is}

-- the list of that number has the dependencies of the symbol
abbrev IsRight : List Kind → List DeclaredTree → List (List ℕ) → ℕ → Type 0
IsRight xs ds lists k = (n : ℕ) → has (get_or lists k []) n ≡ depends_on xs ds k n

-- there is a list for each declaration, and those of the first symbols of the order are right
pub record IsFilled (xs : List Kind) (ds : List DeclaredTree) (order : List ℕ) (lists : List (List ℕ)) (i : ℕ)
    : Type 0 where
  pub size : length lists ≡ length ds
  pub right : fill.IsFilled (links xs ds) order (List (List ℕ)) (IsRight xs ds) lists i

module _ (xs : List Kind) (ds : List DeclaredTree) (order : List ℕ) where
  -- empty lists
  pub filled_begun : (lists : List (List ℕ)) → lists ≡ replicate (length ds) [] → IsFilled xs ds order lists 0
  filled_begun lists e = record {
    size = ap length e ∙ length-replicate (length ds) [];
    right = record { far = far; same = λ j h. absurd (omega (arith, h)) };
  }
    where
      far : (m : ℕ) → length (links xs ds) ≤ m → IsRight xs ds lists m
      far m h n =
          ap (λ ls. has (get_or ls m []) n) e
          ∙ ap (λ l. has l n) (get_or-replicate {A = List ℕ} (length ds) m [])
          ∙ sym (ap (λ b. is_target (slice_get ds n) && b) (nothing xs ds (length ds) m n h)
          ∙ and_false_is (is_target (slice_get ds n)))

  module _ (o : IsLinkOrder (links xs ds) order) where
    -- what the mentions of the next symbol lead to is what it depends on
    next_right : (lists : List (List ℕ)) (i : ℕ) → i < length order → IsFilled xs ds order lists i → (n : ℕ)
        → any_leads ds lists n (get_or (links xs ds) (get_or order i 0) []) ≡ depends_on xs ds (get_or order i 0) n
    next_right lists i h f n =
        any_leads_as ds (mentioning xs ds) n lists (get_or (links xs ds) (get_or order i 0) [])
        (λ m c.
        fill.known_before (links xs ds) order o (List (List ℕ)) (IsRight xs ds) lists i m h f.right c n)
        ∙ ap (λ b. is_target (slice_get ds n) && b) (sym (mentions_settle xs ds order o (get_or order i 0) n))

    -- one symbol more
    pub filled_after : (lists new : List (List ℕ)) (i : ℕ) (list mentions : List ℕ) → i < length order
        → IsFilled xs ds order lists i → mentions ≡ get_or (links xs ds) (get_or order i 0) []
        → ((n : ℕ) → has list n ≡ any_leads ds lists n mentions) → new ≡ set lists (get_or order i 0) list
        → IsFilled xs ds order new (i + 1)
    filled_after lists new i list mentions h f e g becomes = record {
      size = ap length becomes ∙ length-set lists (get_or order i 0) list ∙ f.size;
      right = fill.filled_next (links xs ds) order o (List (List ℕ)) (IsRight xs ds) lists new i h f.right here others;
    }
      where
        here : IsRight xs ds new (get_or order i 0)
        here n =
            ap (λ ls. has (get_or ls (get_or order i 0) []) n) becomes
            ∙ ap (λ l. has l n) (get_or-set_at lists (get_or order i 0) (get_or order i 0) list [] refl
            (has_place xs ds order o i (length lists) h f.size))
            ∙ g n ∙ ap (any_leads ds lists n) e ∙ next_right lists i h f n

        others : (m : ℕ) → (m ≡ get_or order i 0 → ⊥) → IsRight xs ds lists m → IsRight xs ds new m
        others m ne old n =
            ap (λ ls. has (get_or ls m []) n) becomes
            ∙ ap (λ l. has l n) (get_or-set_other lists (get_or order i 0) m list [] ne) ∙ old n

    -- all symbols are filled
    pub filled_all : (lists : List (List ℕ)) (i : ℕ) → length order ≤ i → IsFilled xs ds order lists i
        → AreDependencies xs ds lists
    filled_all lists i h f k n =
        fill.filled_all (links xs ds) order o (List (List ℕ)) (IsRight xs ds) lists i h f.right k n
