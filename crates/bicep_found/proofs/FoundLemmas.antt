-- What answers that are made of others give.
use Rattle.std.proofs.Common.{◌≡◌, inl, inr, ℕ, refl, sym, ap, subst, ◌∙◌}
use Rattle.std.specs.Prelude.{Result, Ok, Err}
use Rattle.std.specs.declared.boxed.Box.{Box}
use Rattle.std.specs.declared.alloc.Global.{Global}
use Rattle.bicep_found.specs.declared.stop.Stop.{Stop}
use Rattle.bicep_found.specs.declared.stop.Stop.TheVariants as stop
use Rattle.bicep_found.specs.Found.{Found, found, unknown, mapped, both, then_found, Gives}
use Rattle.bicep_found.specs.Joins.{Joins, Joins3, Boxes, Pairs}

module _ {A B : Type 0} where
  pub mapped-found : (f : A → B) (x : A) → mapped f (found x) ≡ found (f x)
  unfolding mapped
  mapped-found f x = refl

  pub mapped-unknown : (f : A → B) (at : ℕ) → mapped f (unknown at) ≡ unknown at
  unfolding mapped
  mapped-unknown f at = refl

  pub then-found : (f : A → Found B) (x : A) → then_found f (found x) ≡ f x
  unfolding then_found
  then-found f x = refl

  pub then-unknown : (f : A → Found B) (at : ℕ) → then_found f (unknown at) ≡ unknown at
  unfolding then_found
  then-unknown f at = refl

  pub both-found : (x : A) (y : B) → both (found x) (found y) ≡ found (x, y)
  unfolding both
  both-found x y = refl

  pub both-unknown : (at : ℕ) (g : Found B) → both {A = A} {B = B} (unknown at) g ≡ unknown at
  unfolding both
  both-unknown at g = refl

  pub both-second : (x : A) (at : ℕ) → both {A = A} {B = B} (found x) (unknown at) ≡ unknown at
  unfolding both
  both-second x at = refl

pub ruleset founds = (
  mapped-found,
  mapped-unknown,
  then-found,
  then-unknown,
  both-found,
  both-unknown,
  both-second,
)

-- what an answer gives, where it is known
module _ {A C : Type 0} (v : A → C) where
  pub gives_ok : (x : A) (a : Result A Stop) (f : Found C) → a ≡ Ok x → Gives v a f → f ≡ found (v x)
  gives_ok x a f is g = subst (λ (r : Result A Stop). Gives v r f) is g

  pub gives_unknown : (at : ℕ) (a : Result A Stop) (f : Found C) → a ≡ Err (stop.Unknown at) → Gives v a f
      → f ≡ unknown at
  gives_unknown at a f is g = subst (λ (r : Result A Stop). Gives v r f) is g

  pub boxes_give : (a : Result A Stop) (r : Result (Box A Global) Stop) (f : Found C) → Boxes a r → Gives v a f
      → Gives (λ b. v b.value) r f
  boxes_give a (Ok b) f is g = gives_ok b.value a f is g
  boxes_give a (Err (stop.Unknown at)) f is g = gives_unknown at a f is g
  boxes_give a (Err stop.OutOfMemory) f is g = tt

-- what the boxes hold
abbrev pub held : {A B C D : Type 0} → (A → C) → (B → D) → Box A Global × Box B Global → C × D
held v w p = (v p.0.value, w p.1.value)

module _ {A B C D : Type 0} (v : A → C) (w : B → D) where
  -- both are there
  both_ok : (a : Result A Stop) (b : Result B Stop) (x : A) (y : B) (f : Found C) (g : Found D) → a ≡ Ok x → b ≡ Ok y
      → Gives v a f → Gives w b g → both f g ≡ found (v x, w y)
  both_ok a b x y f g is js h k =
      ap (λ z. both z g) (gives_ok v x a f is h) ∙ ap (both (found (v x))) (gives_ok w y b g js k)
      ∙ both-found (v x) (w y)

  -- the first is unknown
  first : (a : Result A Stop) (f : Found C) (g : Found D) (at : ℕ) → a ≡ Err (stop.Unknown at) → Gives v a f
      → both f g ≡ unknown at
  first a f g at is h = ap (λ x. both x g) (gives_unknown v at a f is h) ∙ both-unknown at g

  -- the second is unknown
  second : (a : Result A Stop) (b : Result B Stop) (f : Found C) (g : Found D) (at : ℕ) (x : A) → a ≡ Ok x
      → b ≡ Err (stop.Unknown at) → Gives v a f → Gives w b g → both f g ≡ unknown at
  second a b f g at x is js p q =
      ap (λ h. both h g) (gives_ok v x a f is p) ∙ ap (both (found (v x))) (gives_unknown w at b g js q)
      ∙ both-second (v x) at

  pub joins_give : (a : Result A Stop) (b : Result B Stop) (r : Result (Box A Global × Box B Global) Stop) (f : Found C)
      (g : Found D) → Joins a b r → Gives v a f → Gives w b g → Gives (held v w) r (both f g)
  joins_give a b (Ok p) f g is h k = both_ok a b p.0.value p.1.value f g is.0 is.1 h k
  joins_give a b (Err (stop.Unknown at)) f g (inl is) h k = first a f g at is h
  joins_give a b (Err (stop.Unknown at)) f g (inr s) h k = second a b f g at s.0 s.1 s.2 h k
  joins_give a b (Err stop.OutOfMemory) f g is h k = tt

  pub pairs_give : (a : Result A Stop) (b : Result B Stop) (r : Result (A × B) Stop) (f : Found C) (g : Found D)
      → Pairs a b r → Gives v a f → Gives w b g → Gives (λ p. (v p.0, w p.1)) r (both f g)
  pairs_give a b (Ok p) f g is h k = both_ok a b p.0 p.1 f g is.0 is.1 h k
  pairs_give a b (Err (stop.Unknown at)) f g (inl is) h k = first a f g at is h
  pairs_give a b (Err (stop.Unknown at)) f g (inr s) h k = second a b f g at s.0 s.1 s.2 h k
  pairs_give a b (Err stop.OutOfMemory) f g is h k = tt

-- a whole that is built of two parts
module _ {A B C D E F : Type 0} (v : A → C) (w : B → D) (u : F → E) (build : C × D → E) where
  pub made_ok : (a : Result A Stop) (b : Result B Stop) (x : Box A Global) (y : Box B Global) (f : Found C)
      (g : Found D) (r : E) → Joins a b (Ok (x, y)) → Gives v a f → Gives w b g → r ≡ build (v x.value, w y.value)
      → mapped build (both f g) ≡ found r
  made_ok a b x y f g r is h k e =
      ap (mapped build) (joins_give v w a b (Ok (x, y)) f g is h k) ∙ mapped-found build (held v w (x, y))
      ∙ ap (λ x. found x) (sym e)

  pub made_err : (a : Result A Stop) (b : Result B Stop) (stop : Stop) (f : Found C) (g : Found D)
      → Joins a b (Err stop) → Gives v a f → Gives w b g → Gives u (Err stop) (mapped build (both f g))
  made_err a b (stop.Unknown at) f g is h k =
      ap (mapped build) (joins_give v w a b (Err (stop.Unknown at)) f g is h k) ∙ mapped-unknown build at
  made_err a b stop.OutOfMemory f g is h k = tt

  pub pair_gives : (a : Result A Stop) (b : Result B Stop) (x : A) (y : B) (f : Found C) (g : Found D)
      (r : Result F Stop) → Pairs a b (Ok (x, y)) → Gives v a f → Gives w b g → Gives u r (found (build (v x, w y)))
      → Gives u r (mapped build (both f g))
  pair_gives a b x y f g r is h k e =
      subst (Gives u r)
      (sym (ap (mapped build) (pairs_give v w a b (Ok (x, y)) f g is h k) ∙ mapped-found build (v x, w y))) e

  pub pair_err : (a : Result A Stop) (b : Result B Stop) (stop : Stop) (f : Found C) (g : Found D)
      → Pairs a b (Err stop) → Gives v a f → Gives w b g → Gives u (Err stop) (mapped build (both f g))
  pair_err a b (stop.Unknown at) f g is h k =
      ap (mapped build) (pairs_give v w a b (Err (stop.Unknown at)) f g is h k) ∙ mapped-unknown build at
  pair_err a b stop.OutOfMemory f g is h k = tt

-- a whole that is built of one part
module _ {A C E F : Type 0} (v : A → C) (u : F → E) (build : C → E) where
  pub one_ok : (a : Result A Stop) (x : A) (f : Found C) (r : E) → a ≡ Ok x → Gives v a f → r ≡ build (v x)
      → mapped build f ≡ found r
  one_ok a x f r is h e =
      ap (mapped build) (gives_ok v x a f is h) ∙ mapped-found build (v x) ∙ ap (λ x. found x) (sym e)

  pub one_err : (a : Result A Stop) (stop : Stop) (f : Found C) → a ≡ Err stop → Gives v a f
      → Gives u (Err stop) (mapped build f)
  one_err a (stop.Unknown at) f is h =
      ap (mapped build) (gives_unknown v at a f is h) ∙ mapped-unknown build at
  one_err a stop.OutOfMemory f is h = tt

  pub one_gives : (a : Result A Stop) (x : A) (f : Found C) (r : Result F Stop) → a ≡ Ok x → Gives v a f
      → Gives u r (found (build (v x))) → Gives u r (mapped build f)
  one_gives a x f r is h e = subst (Gives u r) (sym (one_ok a x f (build (v x)) is h refl)) e

  pub box_ok : (a : Result A Stop) (x : Box A Global) (f : Found C) (r : E) → Boxes a (Ok x) → Gives v a f
      → r ≡ build (v x.value) → mapped build f ≡ found r
  box_ok a x f r is h e = one_ok a x.value f r is h e

  pub box_err : (a : Result A Stop) (stop : Stop) (f : Found C) → Boxes a (Err stop) → Gives v a f
      → Gives u (Err stop) (mapped build f)
  box_err a (stop.Unknown at) f is h = one_err a (stop.Unknown at) f is h
  box_err a stop.OutOfMemory f is h = tt

-- what follows from one part
module _ {A C E F : Type 0} (v : A → C) (u : F → E) (next : C → Found E) where
  pub then_gives : (a : Result A Stop) (x : A) (f : Found C) (r : Result F Stop) → a ≡ Ok x → Gives v a f
      → Gives u r (next (v x)) → Gives u r (then_found next f)
  then_gives a x f r is h e =
      subst (Gives u r) (sym (ap (then_found next) (gives_ok v x a f is h) ∙ then-found next (v x))) e

  pub then_err : (a : Result A Stop) (stop : Stop) (f : Found C) → a ≡ Err stop → Gives v a f
      → Gives u (Err stop) (then_found next f)
  then_err a (stop.Unknown at) f is h =
      ap (then_found next) (gives_unknown v at a f is h) ∙ then-unknown next at
  then_err a stop.OutOfMemory f is h = tt

-- a whole that is built of three parts
module _ {A C E F : Type 0} (v : A → C) (u : F → E) (build : C × (C × C) → E) where
  third : (a b c : Result A Stop) (r : Result (Box A Global × Box A Global × Box A Global) Stop) (f g h : Found C)
      → Joins3 a b c r → Gives v a f → Gives v b g → Gives v c h
      → Gives (λ p. (v p.0.value, (v p.1.value, v p.2.value))) r (both f (both g h))
  third a b c (Ok p) f g h is k l m =
      ap (λ x. both x (both g h)) (gives_ok v p.0.value a f is.0 k)
      ∙ ap (λ x. both (found (v p.0.value)) (both x h)) (gives_ok v p.1.value b g is.1 l)
      ∙ ap (λ x. both (found (v p.0.value)) (both (found (v p.1.value)) x)) (gives_ok v p.2.value c h is.2 m)
      ∙ ap (both (found (v p.0.value))) (both-found (v p.1.value) (v p.2.value))
      ∙ both-found (v p.0.value) (v p.1.value, v p.2.value)
  third a b c (Err (stop.Unknown at)) f g h (inl is) k l m =
      ap (λ x. both x (both g h)) (gives_unknown v at a f is k) ∙ both-unknown at (both g h)
  third a b c (Err (stop.Unknown at)) f g h (inr (inl is)) k l m =
      ap (λ x. both x (both g h)) (gives_ok v is.0 a f is.1 k)
      ∙ ap (λ x. both (found (v is.0)) (both x h)) (gives_unknown v at b g is.2 l)
      ∙ ap (both (found (v is.0))) (both-unknown at h) ∙ both-second (v is.0) at
  third a b c (Err (stop.Unknown at)) f g h (inr (inr is)) k l m =
      ap (λ x. both x (both g h)) (gives_ok v is.0 a f is.2 k)
      ∙ ap (λ x. both (found (v is.0)) (both x h)) (gives_ok v is.1 b g is.3 l)
      ∙ ap (λ x. both (found (v is.0)) (both (found (v is.1)) x)) (gives_unknown v at c h is.4 m)
      ∙ ap (both (found (v is.0))) (both-second (v is.1) at) ∙ both-second (v is.0) at
  third a b c (Err stop.OutOfMemory) f g h is k l m = tt

  pub three_ok : (a b c : Result A Stop) (x y z : Box A Global) (f g h : Found C) (r : E)
      → Joins3 a b c (Ok (x, y, z)) → Gives v a f → Gives v b g → Gives v c h
      → r ≡ build (v x.value, (v y.value, v z.value)) → mapped build (both f (both g h)) ≡ found r
  three_ok a b c x y z f g h r is k l m e =
      ap (mapped build) (third a b c (Ok (x, y, z)) f g h is k l m) ∙ mapped-found build _ ∙ ap (λ x. found x) (sym e)

  pub three_err : (a b c : Result A Stop) (stop : Stop) (f g h : Found C) → Joins3 a b c (Err stop) → Gives v a f
      → Gives v b g → Gives v c h → Gives u (Err stop) (mapped build (both f (both g h)))
  three_err a b c (stop.Unknown at) f g h is k l m =
      ap (mapped build) (third a b c (Err (stop.Unknown at)) f g h is k l m) ∙ mapped-unknown build at
  three_err a b c stop.OutOfMemory f g h is k l m = tt
