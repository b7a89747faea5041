-- What is held, and the outputs of nested deployments.
use Rattle.std.proofs.Common.{◌≡◌, ℕ, List, [], ◌∷◌, codes, map, Option, Some, None}
use Rattle.std.proofs.Common.{option_map, true, Result, Ok, Err, refl, sym, ap, ◌∙◌, subst}
use Rattle.std.specs.Str.{chars}
use Rattle.arm_value.specs.Json.{Json, object, pairs, Member, put, put_each}
use Rattle.arm_ids.specs.declared.id.ResourceId.{ResourceId}
use Rattle.reading.specs.Reading.{done, pure}
use Rattle.reading.specs.Knowledge.{Known, Told, value, no_value, waits, told, finished, and_then}
use Rattle.arm_env.specs.Look.{Look, Fact, Looking, Declared}
use Rattle.arm_env.specs.Held.{OutputOf, output_value, output_member, shown, members, listing, all_outputs, among}
use Rattle.arm_env.specs.Held.{output_declared}
use Rattle.arm_env.specs.Find.{output_named}
use Rattle.arm_env.specs.Answer.{outcome_told, gathered, Stops, Gives, Sees}
use Rattle.arm_env.specs.declared.stop.Stop.{Stop}
use Rattle.arm_env.specs.declared.stop.Stop.TheVariants as stop
use Rattle.arm_env.proofs.Answers.{told-done, told-continued, goes, stops}
use Rattle.arm_env.specs.Object.{object_of, group_members}
use Rattle.arm_env.specs.Sight.{declared_of}
use Rattle.arm_env.specs.declared.entries.Declared as code
use Rattle.arm_env.proofs.Words.{word_type, word_value, word_id, word_subscriptionId}
use Rattle.arm_env.proofs.Words.{word_location, word_name}

pub typed_put : (k v : Json) (ms ns : List Member) → ms ≡ put (chars (codes "type")) k []
    → ns ≡ put (chars (codes "value")) v ms
    → object (pairs ns) ≡ object_of ((codes "type", k) ∷ (codes "value", v) ∷ [])
typed_put k v ms ns a b =
    let all : ns ≡ put (codes "value") v (put (codes "type") k []) =
    b ∙ (λ i. put (word_value i) v (a i))
    ∙ (λ i. put (codes "value") v (put (word_type i) k [])) in
    ap (λ ns. object (pairs ns)) all

-- a member is there where its value is
member_told : (p : Look → Known Fact) (k : ResourceId) (x : Declared) (t : Told Look Json)
    → told p (output_value k x) ≡ t
    → told p (output_member k x) ≡ and_then t (λ j. value (shown x j))
member_told p k x t e = told-continued p (output_value k x) _
    ∙ ap (λ t. and_then t (λ j. told p (pure (shown x j)))) e ∙ named t
  where
    named : (t : Told Look Json)
        → and_then t (λ j. told p (pure (shown x j))) ≡ and_then t (λ j. value (shown x j))
    named (value j) = told-done p (Some (shown x j))
    named no_value = refl
    named (waits k) = refl

outcome_next : (x : Declared) (t : Told Look Json) (o : Option Json) → outcome_told t ≡ value o
    → outcome_told (and_then t (λ j. value (shown x j))) ≡ value (option_map (shown x) o)
outcome_next x (value j) o e = let same : Some j ≡ o = cc in ap (λ o. value (option_map (shown x) o)) same
outcome_next x no_value o e = let same : None ≡ o = cc in ap (λ o. value (option_map (shown x) o)) same
outcome_next x (waits k) o e = absurd cc

pub member_outcome : (p : Look → Known Fact) (k : ResourceId) (x : Declared) (o : Option Json)
    → outcome_told (told p (output_value k x)) ≡ value o
    → outcome_told (told p (output_member k x)) ≡ value (option_map (shown x) o)
member_outcome p k x o e =
    ap outcome_told (member_told p k x (told p (output_value k x)) refl)
    ∙ outcome_next x (told p (output_value k x)) o e

stops_next : (s : Stop) (x : Declared) (t : Told Look Json) → Stops s (outcome_told t)
    → Stops s (outcome_told (and_then t (λ j. value (shown x j))))
stops_next stop.NoValue x (value j) e = absurd cc
stops_next stop.NoValue x no_value e = absurd cc
stops_next stop.NoValue x (waits k) e = absurd cc
stops_next (stop.Waits k) x (value j) e = absurd cc
stops_next (stop.Waits k) x no_value e = absurd cc
stops_next (stop.Waits k) x (waits l) e = cc
stops_next stop.OutOfMemory x t e = tt

pub member_stops : (s : Stop) (p : Look → Known Fact) (k : ResourceId) (x : Declared)
    → Stops s (outcome_told (told p (output_value k x)))
    → Stops s (outcome_told (told p (output_member k x)))
member_stops s p k x e =
    let P : Told Look (Option Member) → Type 0 = Stops s in
    subst P (sym (ap outcome_told (member_told p k x (told p (output_value k x)) refl)))
    (stops_next s x (told p (output_value k x)) e)

sees_ok : (A : Type 0) (t : Told Look A) → and_then t (λ x. value true) ≡ value true → (x : A) × (t ≡ value x)
sees_ok A (value x) e = (x, refl)
sees_ok A no_value e = absurd cc
sees_ok A (waits k) e = absurd cc

sees_err : (A : Type 0) (s : Stop) (t : Told Look A) → Stops s (and_then t (λ x. value true)) → Stops s t
sees_err A stop.NoValue (value x) e = absurd cc
sees_err A stop.NoValue no_value e = refl
sees_err A stop.NoValue (waits k) e = absurd cc
sees_err A (stop.Waits k) (value x) e = absurd cc
sees_err A (stop.Waits k) no_value e = absurd cc
sees_err A (stop.Waits k) (waits l) e = cc
sees_err A stop.OutOfMemory t e = tt

-- what only says whether all have values
pub sees : (A : Type 0) (r : Result (Unit {0}) Stop) (t : Told Look A)
    → Gives (λ _. true) r (and_then t (λ x. value true)) → Sees r t
sees A (Ok u) t e = sees_ok A t e
sees A (Err s) t e = sees_err A s t e

fuse : (k : ResourceId) (xs : List code.Declared)
    → map (output_member k) (map declared_of xs) ≡ map (λ x. output_member k (declared_of x)) xs
fuse k [] = refl
fuse k (x ∷ xs) = ap (λ os. output_member k (declared_of x) ∷ os) (fuse k xs)

-- what is told of all outputs, once it is known which there are
pub outputs_told : (p : Look → Known Fact) (k : ResourceId) (xs : List Declared)
    → told p (listing k) ≡ value xs → told p (all_outputs k) ≡ told p (members k xs)
unfolding all_outputs
outputs_told p k xs e = goes p (listing k) (members k) xs e

pub outputs_stop : (s : Stop) (p : Look → Known Fact) (k : ResourceId)
    → Stops s (told p (listing k)) → Stops s (told p (all_outputs k))
unfolding all_outputs
outputs_stop s p k h = stops s p (listing k) (members k) h

-- what a loop over these outputs sees of them
pub looked : (p : Look → Known Fact) (k : ResourceId) (xs : List code.Declared)
    (r : Result (Unit {0}) Stop)
    → Gives (λ _. true) r (gathered (λ _. true) p (map (λ x. output_member k (declared_of x)) xs))
    → Sees r (told p (members k (map declared_of xs)))
looked p k xs r h =
    let P : List (Looking Member) → Type 0 = λ os. Gives (λ _. true) r (gathered (λ _. true) p os) in
    sees (List Member) r _ (subst P (sym (fuse k xs)) h)

-- and puts together
pub put_together : (p : Look → Known Fact) (k : ResourceId) (xs : List code.Declared)
    (r : Result (List Member) Stop)
    → Gives (λ f. f) r (gathered (put_each []) p (map (λ x. output_member k (declared_of x)) xs))
    → Gives (λ f. f) r (gathered (put_each []) p (map (output_member k) (map declared_of xs)))
put_together p k xs r h =
    let P : List (Looking Member) → Type 0 = λ os. Gives (λ f. f) r (gathered (put_each []) p os) in
    subst P (sym (fuse k xs)) h

-- one of these outputs, where all have values
pub among_told : (p : Look → Known Fact) (o : OutputOf) (xs : List code.Declared) (x : Option Declared)
    → gathered (λ _. true) p (map (λ x. output_member o.key (declared_of x)) xs) ≡ value true
    → x ≡ output_named o.name (map declared_of xs) → told p (among o (map declared_of xs)) ≡ finished x
among_told p o xs x h e =
    let all : (ms : List Member) × (told p (members o.key (map declared_of xs)) ≡ value ms) =
    looked p o.key xs (Ok tt) h in
    goes p (members o.key (map declared_of xs)) (λ ms. done (output_named o.name (map declared_of xs))) all.0 all.1
    ∙ told-done p (output_named o.name (map declared_of xs)) ∙ ap finished (sym e)

pub among_stops : (s : Stop) (p : Look → Known Fact) (o : OutputOf) (xs : List code.Declared)
    → Stops s (gathered (λ _. true) p (map (λ x. output_member o.key (declared_of x)) xs))
    → Stops s (told p (among o (map declared_of xs)))
among_stops s p o xs h =
    let seen : Stops s (told p (members o.key (map declared_of xs))) = looked p o.key xs (Err s) h in
    stops s p (members o.key (map declared_of xs)) (λ ms. done (output_named o.name (map declared_of xs))) seen

pub declared_told : (p : Look → Known Fact) (o : OutputOf) (xs : List Declared)
    → told p (listing o.key) ≡ value xs → told p (output_declared o) ≡ told p (among o xs)
unfolding output_declared
declared_told p o xs e = goes p (listing o.key) (among o) xs e

pub declared_stops : (s : Stop) (p : Look → Known Fact) (o : OutputOf)
    → Stops s (told p (listing o.key)) → Stops s (told p (output_declared o))
unfolding output_declared
declared_stops s p o h = stops s p (listing o.key) (among o) h

pub subscription_put : (i s : Json) (f₀ f₁ f₂ : List Member) → f₀ ≡ []
    → f₁ ≡ put (chars (codes "id")) i f₀ → f₂ ≡ put (chars (codes "subscriptionId")) s f₁
    → object (pairs f₂) ≡ object_of ((codes "id", i) ∷ (codes "subscriptionId", s) ∷ [])
subscription_put i s f₀ f₁ f₂ e₀ e₁ e₂ =
    let one : f₁ ≡ put (codes "id") i [] = e₁ ∙ (λ k. put (word_id k) i (e₀ k)) in
    ap (λ ms. object (pairs ms)) (e₂ ∙ (λ k. put (word_subscriptionId k) s (one k)))

pub group_put : (i l n : Json) (f₀ f₁ f₂ f₃ f₄ : List Member) → f₀ ≡ []
    → f₁ ≡ put (chars (codes "id")) i f₀ → f₂ ≡ put (chars (codes "location")) l f₁
    → f₃ ≡ put (chars (codes "name")) n f₂ → f₄ ≡ put_each f₃ group_members
    → object (pairs f₄)
    ≡ object_of ((codes "id", i) ∷ (codes "location", l) ∷ (codes "name", n) ∷ group_members)
group_put i l n f₀ f₁ f₂ f₃ f₄ e₀ e₁ e₂ e₃ e₄ =
    let m₁ : f₁ ≡ put (codes "id") i [] = e₁ ∙ (λ j. put (word_id j) i (e₀ j)) in
    let m₂ : f₂ ≡ put (codes "location") l (put (codes "id") i []) =
    e₂ ∙ (λ j. put (word_location j) l (m₁ j)) in
    let m₃ : f₃ ≡ put (codes "name") n (put (codes "location") l (put (codes "id") i [])) =
    e₃ ∙ (λ j. put (word_name j) n (m₂ j)) in
    ap (λ ms. object (pairs ms)) (e₄ ∙ (λ j. put_each (m₃ j) group_members))
