-- Readings of counts, conditions and names alone, among them the list of the nested deployments of a scope.
use Rattle.std.proofs.Common.{◌≡◌, ℕ, zero, suc, true, List, [], ◌∷◌, Option, Some, None, refl, ap, ◌∙◌}
use Rattle.arm_value.specs.Json.{Json}
use Rattle.reading.specs.Reading.{done, ask, pure, read, continued, onward}
use Rattle.reading.specs.World.{value_in}
use Rattle.deploy_cells.specs.Cells.{Step, step, Position, Cell, count, included, name, copies, World}
use Rattle.deploy_cells.specs.Guarded.{Reads}
use Rattle.deploy_cells.specs.Listing.{named_by, one_named, instances_named, resource_named, all_named}
use Rattle.deploy_cells.specs.Listing.{listing_value, listing_json}
use Rattle.deploy_histories.specs.Planned.{is_asked_first}

-- every cell that is asked is a count, a condition or a name
abbrev pub AsksFirst : {A : Type 0} → Reads A → Type 0
AsksFirst (done o) = Unit {0}
AsksFirst (ask c k) = (is_asked_first c ≡ true) × ((v : Option Json) → AsksFirst (k v))

module _ {A B : Type 0} where
  onward_first : (o : Option A) (f : A → Reads B) → ((a : A) → AsksFirst (f a)) → AsksFirst (onward o f)
  onward_first None f h = tt
  onward_first (Some a) f h = h a

  pub continued_first : (r : Reads A) (f : A → Reads B) → AsksFirst r → ((a : A) → AsksFirst (f a))
      → AsksFirst (continued r f)
  unfolding continued
  continued_first (done o) f a h = onward_first o f h
  continued_first (ask c k) f a h = (a.0, λ v. continued_first (k v) f (a.1 v) h)

-- worlds that have the same counts, conditions and names have one value of such a reading
pub same_first : {A : Type 0} (w v : World) → ((c : Cell) → is_asked_first c ≡ true → w c ≡ v c) → (r : Reads A)
    → AsksFirst r → value_in w r ≡ value_in v r
unfolding value_in
same_first w v same (done o) a = refl
same_first w v same (ask c k) a =
    same_first w v same (k (w c)) (a.1 (w c)) ∙ ap (λ o. value_in v (k o)) (same c a.0)

read_first : (c : Cell) → is_asked_first c ≡ true → AsksFirst (read c)
read_first c e = (e, λ v. tt)

one_first : (p : Position) (s : Step) → AsksFirst (one_named p s)
one_first p s =
    continued_first (read (name p s)) (λ n. continued (read (included p s)) (λ b. done (named_by n b)))
    (read_first (name p s) refl)
    (λ n. continued_first (read (included p s)) (λ b. done (named_by n b)) (read_first (included p s) refl) (λ b. tt))

instances_first : (p : Position) (r i n : ℕ) → AsksFirst (instances_named p r i n)
instances_first p r i zero = tt
instances_first p r i (suc n) =
    continued_first (one_named p (step r i)) (λ x. continued (instances_named p r (suc i) n) (λ xs. pure (x ∷ xs)))
    (one_first p (step r i))
    (λ x. continued_first (instances_named p r (suc i) n) (λ xs. pure (x ∷ xs)) (instances_first p r (suc i) n)
    (λ xs. tt))

resource_first : (p : Position) (r : ℕ) → AsksFirst (resource_named p r)
resource_first p r =
    continued_first (read (count p r)) (λ v. instances_named p r 0 (copies (Some v))) (read_first (count p r) refl)
    (λ v. instances_first p r 0 (copies (Some v)))

all_first : (p : Position) (rs : List ℕ) → AsksFirst (all_named p rs)
all_first p [] = tt
all_first p (r ∷ rs) =
    continued_first (resource_named p r) (λ x. continued (all_named p rs) (λ xs. pure (x ∷ xs))) (resource_first p r)
    (λ x. continued_first (all_named p rs) (λ xs. pure (x ∷ xs)) (all_first p rs) (λ xs. tt))

pub listing_first : (p : Position) (rs : List ℕ) → AsksFirst (listing_value p rs)
unfolding listing_value
listing_first p rs = continued_first (all_named p rs) (λ xs. pure (listing_json xs)) (all_first p rs) (λ xs. tt)
