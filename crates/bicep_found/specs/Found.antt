-- What is found of names, or the first name that means nothing.
use Rattle.std.specs.Prelude.{◌≡◌, ℕ, List, [], ◌∷◌, ◌++◌, Result, Ok, Err}
use Rattle.bicep_found.specs.declared.stop.Stop.{Stop}
use Rattle.bicep_found.specs.declared.stop.Stop.TheVariants as stop

pub data Found (A : Type 0) : Type 0 where
  found : A → Found A
  -- the offset of the first name that means nothing
  unknown : ℕ → Found A

unfoldable pub mapped : {A B : Type 0} → (A → B) → Found A → Found B
mapped f (found x) = found (f x)
mapped f (unknown at) = unknown at

-- what follows from what is found
unfoldable pub then_found : {A B : Type 0} → (A → Found B) → Found A → Found B
then_found f (found x) = f x
then_found f (unknown at) = unknown at

abbrev pub beside : {A B : Type 0} → A → Found B → Found (A × B)
beside x (found y) = found (x, y)
beside x (unknown at) = unknown at

-- both, or the first that is unknown
unfoldable pub both : {A B : Type 0} → Found A → Found B → Found (A × B)
both (found x) g = beside x g
both (unknown at) g = unknown at

-- all of these one after another, or the first that is unknown
unfoldable pub all_found : {A : Type 0} → List (Found (List A)) → Found (List A)
all_found [] = found []
all_found (f ∷ fs) = mapped (λ p. p.0 ++ p.1) (both f (all_found fs))

-- what an answer says of what is found, where `view` says what its value represents
abbrev pub Gives : {A B : Type 0} → (A → B) → Result A Stop → Found B → Type 0
Gives view (Ok x) f = f ≡ found (view x)
Gives view (Err (stop.Unknown at)) f = f ≡ unknown at
Gives view (Err stop.OutOfMemory) f = Unit {0}
