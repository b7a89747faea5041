-- Readings of a program and of its template that are both there and alike, or are both absent.
use Rattle.std.proofs.Common.{◌≡◌, Bool, Option, Some, None, refl, sym, ap, ◌∙◌}
use Rattle.std.specs.Prelude.{option_map, option_and_then}
use Rattle.arm_value.specs.Json.{Json}
use Rattle.reading.specs.World.{value_in}
use Rattle.deploy_cells.specs.Cells.{Cell, World}
use Rattle.deploy_cells.specs.Guarded.{Reads}
use Rattle.deploy_cells.specs.Puts.{body_in}
use Rattle.bicep_emission.specs.Alike.{Seen, seen_in}
use Rattle.bicep_emission.proofs.SeenLemmas.{value-seen}
use Rattle.emitted_sites.specs.Values.{AreBoth}

-- a world and its marked cells
pub record Side : Type 0 where
  pub world : World
  pub marks : Cell → Bool

abbrev pub sees : {A : Type 0} → Side → Reads A → Seen A
sees x r = seen_in x.world x.marks r

pub value_seen : {A : Type 0} (v w : Side) (r s : Reads A) → sees v r ≡ sees w s
    → value_in v.world r ≡ value_in w.world s
value_seen v w r s h = sym (value-seen v.world v.marks r) ∙ ap (λ s. s.0) h ∙ value-seen w.world w.marks s

-- what the template reads, and what the program reads
abbrev pub Same : Side → Side → Option (Reads Json) → Option (Reads Json) → Type 0
Same v w a b = AreBoth (λ r s. sees v r ≡ sees w s) a b

pub same_bodies : (v w : Side) (a b : Option (Reads Json)) → Same v w a b
    → body_in v.world a ≡ body_in w.world b
same_bodies v w None None h = refl
same_bodies v w None (Some s) h = absurd h
same_bodies v w (Some r) None h = absurd h
same_bodies v w (Some r) (Some s) h = value_seen v w r s h

-- what both make of two things that belong together
pub same_map : {A B : Type 0} (v w : Side) (R : A → B → Type 0) (f : B → Reads Json) (g : A → Reads Json)
    (o : Option A) (u : Option B) → AreBoth R o u
    → ((a : A) (b : B) → o ≡ Some a → u ≡ Some b → R a b → sees v (f b) ≡ sees w (g a))
    → Same v w (option_map f u) (option_map g o)
same_map v w R f g None None h k = tt
same_map v w R f g None (Some b) h k = absurd h
same_map v w R f g (Some a) None h k = absurd h
same_map v w R f g (Some a) (Some b) h k = k a b refl refl h

pub map_then : {A B C : Type 0} (f : A → Option B) (g : B → C) (o : Option A)
    → option_and_then (λ x. option_map g (f x)) o ≡ option_map g (option_and_then f o)
map_then f g None = refl
map_then f g (Some x) = refl

pub then_some : {A B : Type 0} (g : A → B) (o : Option A) → option_and_then (λ x. Some (g x)) o ≡ option_map g o
then_some g None = refl
then_some g (Some x) = refl

pub both_none : {A B : Type 0} (R : A → B → Type 0) (u : Option B) → AreBoth R None u → u ≡ None
both_none R None h = refl
both_none R (Some b) h = absurd h

pub record Other {A B : Type 0} (R : A → B → Type 0) (a : A) (u : Option B) : Type 0 where
  pub other : B
  pub is : u ≡ Some other
  pub both : R a other

pub other_of : {A B : Type 0} (R : A → B → Type 0) (a : A) (u : Option B) → AreBoth R (Some a) u → Other R a u
other_of R a None h = absurd h
other_of R a (Some b) h = record { other = b; is = refl; both = h }
