-- Each value that a reading may have.
use Rattle.std.proofs.Common.{◌≡◌, ℕ, Bool, true, false, ◌&&◌, List, ◌++◌, Option, Some, None, refl, subst}
use Rattle.std.specs.Prelude.{nat_le, option_map, option_and_then, if◌then◌else◌}
use Rattle.foundation.proofs.Comparisons.{le_of_true}
use Rattle.arm_value.specs.Json.{Json, null, bool, int, text, array, object, Pairs, pairs, Member, pair_keys, nesting}
use Rattle.arm_ids.specs.declared.id.Place.{Place}
use Rattle.template_tree.specs.Tree.{TemplateTree}
use Rattle.arm_env.specs.Held.{capped}
use Rattle.arm_env.specs.Look.{Looking, Surroundings, all}
use Rattle.arm_env.specs.Object.{object_of}
use Rattle.arm_env.specs.Part.{kept}
use Rattle.arm_eval.specs.Titles.{titled}
use Rattle.arm_eval.specs.Trees.{tree_value, joined, concat, own_members, given_members, are_new}
use Rattle.arm_eval.specs.Trees.{differ, names_of}
use Rattle.reading.specs.Reading.{Reading, done, ask, pure, onward, continued, through, both}
use Rattle.reading.specs.Knowledge.{Known, known, absent, missing, value, finished, by_entry, told}
use Rattle.provider_trait.specs.Act.{FitsAct}
use Rattle.provider_trait.specs.declared.act.Act.TheVariants.{Put}
use Rattle.deploy_cells.specs.Cells.{Step, Position, Cell}
use Rattle.deploy_cells.specs.Followed.{followed}
use Rattle.deploy_cells.specs.Guarded.{Reads, there_if}
use Rattle.plan_cells.specs.Known.{Table}
use Rattle.plan_cells.specs.Meaning.{Deployment, body_value}
use Rattle.plan_cells.specs.Resources.{Listed, members_in}
use Rattle.plan_cells.specs.Scopes.{resource_of, own_place, owner}
use Rattle.plan_cells.specs.Sites.{Texts, ids_alone, names, symbols, titles_at, looked_up, by_texts, reading_in}
use Rattle.plan_cells.specs.Sites.{reading_at, body_site}
use Rattle.deploy_histories.specs.Values.{body_reading}

module _ {C J : Type 0} where
  -- it holds of each value that the reading may have
  abbrev Gives : {A : Type 0} → (A → Type 0) → Reading C J A → Type 0
  Gives {A} Q (done o) = (a : A) → o ≡ Some a → Q a
  Gives {A} Q (ask c k) = (v : Option J) → Gives Q (k v)

  onward_gives : {A B : Type 0} (P : A → Type 0) (Q : B → Type 0) (o : Option A) (f : A → Reading C J B)
      → ((a : A) → o ≡ Some a → P a) → ((a : A) → P a → Gives Q (f a)) → Gives Q (onward o f)
  onward_gives P Q None f h g = λ b e. (let n : None ≡ Some b = e in absurd (cc))
  onward_gives P Q (Some a) f h g = g a (h a refl)

  continued_gives : {A B : Type 0} (P : A → Type 0) (Q : B → Type 0) (r : Reading C J A) (f : A → Reading C J B)
      → Gives P r → ((a : A) → P a → Gives Q (f a)) → Gives Q (continued r f)
  unfolding continued
  continued_gives P Q (done o) f h g = onward_gives P Q o f h g
  continued_gives P Q (ask c k) f h g = λ v. continued_gives P Q (k v) f (h v) g

  all_given : {A : Type 0} (r : Reading C J A) → Gives (λ a. Unit {0}) r
  all_given (done o) = λ a e. tt
  all_given (ask c k) = λ v. all_given (k v)

  -- after any reading
  after_gives : {A B : Type 0} (Q : B → Type 0) (r : Reading C J A) (f : A → Reading C J B)
      → ((a : A) → Gives Q (f a)) → Gives Q (continued r f)
  after_gives Q r f g = continued_gives (λ a. Unit {0}) Q r f (all_given r) (λ a u. g a)

module _ {C D J K A : Type 0} (Q : A → Type 0) (h : C → Reading D K (Option J)) where
  followed_gives : (r : Reading C J A) → Gives Q r → Gives Q (followed h r)
  unfolding followed
  followed_gives (done o) g = g
  followed_gives (ask c k) g =
      after_gives Q (h c) (λ v. followed h (k v)) (λ v. followed_gives (k v) (g v))

module _ {C D J A : Type 0} (Q : A → Type 0) (h : C → Reading D J (Option J)) where
  through_gives : (r : Reading C J A) → Gives Q r → Gives Q (through h r)
  unfolding through
  through_gives (done o) g = g
  through_gives (ask c k) g =
      after_gives Q (h c) (λ v. through h (k v)) (λ v. through_gives (k v) (g v))

module _ {A : Type 0} (Q : A → Type 0) (t : Table) where
  finished_gives : (o : Option A) (a : A) → ((b : A) → o ≡ Some b → Q b) → finished {C = Cell} o ≡ value a → Q a
  finished_gives None a h e = cc
  finished_gives (Some b) a h e = let q : b ≡ a = cc in subst Q q (h b refl)

  by_known : (c : Cell) (k : Option Json → Reads A) (a : A) (e : Known Json)
      → ((v : Option Json) → told t (k v) ≡ value a → Q a) → by_entry c (λ v. told t (k v)) e ≡ value a → Q a
  by_known c k a (known v) f e = f (Some v) e
  by_known c k a absent f e = f None e
  by_known c k a missing f e = cc

  -- it holds of the value that the reading is told to have
  told_gives : (r : Reads A) (a : A) → Gives Q r → told t r ≡ value a → Q a
  unfolding told
  told_gives (done o) a g e = finished_gives o a g e
  told_gives (ask c k) a g e = by_known c k a (t c) (λ v. told_gives (k v) a (g v)) e

-- ---- an object that nests at most 100

abbrev IsBody : Json → Type 0
IsBody j = FitsAct Put j

abbrev IsObject : Json → Type 0
IsObject (object ms) = Unit {0}
IsObject _ = ⊥

-- an object that is kept
kept_body : (ms : Pairs) (k : Json) (b : Bool) → nat_le (nesting (object ms)) 100 ≡ b
    → (if b then Some (object ms) else None) ≡ Some k → IsBody k
kept_body ms k true n e =
    let q : object ms ≡ k = (let f : Some (object ms) ≡ Some k = e in cc) in
    subst IsBody q (le_of_true (nesting (object ms)) 100 n)
kept_body ms k false n e = let f : None ≡ Some k = e in absurd (cc)

kept_object : (j k : Json) → IsObject j → kept j ≡ Some k → IsBody k
kept_object (object ms) k i e = kept_body ms k (nat_le (nesting (object ms)) 100) refl e
kept_object null k i e = absurd i
kept_object (bool b) k i e = absurd i
kept_object (int z) k i e = absurd i
kept_object (text t) k i e = absurd i
kept_object (array js) k i e = absurd i

capped_body : (r : Looking Json) → Gives IsObject r → Gives IsBody (capped r)
unfolding capped
capped_body r g =
    continued_gives IsObject IsBody r (λ j. done (kept j)) g (λ j i. λ k e. kept_object j k i e)

joined_object : (ns : List (List ℕ)) (own given : List Member) (j : Json) → joined ns own given ≡ Some j → IsObject j
joined_object ns own given j e = by_test (are_new ns (names_of given) && differ (names_of given)) e
  where
    by_test : (b : Bool) → (if b then Some (object_of (own ++ given)) else None) ≡ Some j → IsObject j
    by_test true e =
        let q : object_of (own ++ given) ≡ j = (let f : Some (object_of (own ++ given)) ≡ Some j = e in cc) in
        subst IsObject q tt
    by_test false e = let f : None ≡ Some j = e in absurd (cc)

tree_body : (ms : Pairs) (here : Surroundings) → Gives IsBody (tree_value (object ms) here)
tree_body ms here =
    capped_body (continued (both (all (own_members ms here)) (given_members ms here)) (λ p.
    done (joined (pair_keys ms) (concat p.0) p.1)))
    (after_gives IsObject (both (all (own_members ms here)) (given_members ms here))
    (λ p. done (joined (pair_keys ms) (concat p.0) p.1))
    (λ p. λ j e. joined_object (pair_keys ms) (concat p.0) p.1 j e))

by_kind : (x : Texts) (t : TemplateTree) (place : Place) (p : Position) (r : Looking Json) → Gives IsBody r
    → Gives IsBody (by_texts x t place p r)
by_kind ids_alone t place p r g = g
by_kind names t place p r g = g
by_kind symbols t place p r g = through_gives IsBody (titled (titles_at t p) place) r g

module _ (d : Deployment) (p : Position) (s : Step) where
  site_body : (ms : Pairs) → Gives IsBody (reading_at d.template d.place (body_site d.template p s)
      (tree_value (object ms)))
  unfolding reading_at
  site_body ms =
      after_gives IsBody (own_place d.place (owner d.template p))
      (reading_in d.template (body_site d.template p s) (tree_value (object ms)))
      (λ place. followed_gives IsBody (looked_up d.template place (body_site d.template p s))
      (by_texts (body_site d.template p s).texts d.template place p (tree_value (object ms)
      (record { loops = (body_site d.template p s).loops; place = place })))
      (by_kind (body_site d.template p s).texts d.template place p
      (tree_value (object ms) (record { loops = (body_site d.template p s).loops; place = place }))
      (tree_body ms (record { loops = (body_site d.template p s).loops; place = place }))))

  abbrev IsThereBody : Option Json → Type 0
  IsThereBody None = Unit {0}
  IsThereBody (Some j) = IsBody j

  there_body : (r : Reads Json) → Gives IsBody r → Gives IsThereBody (there_if (Some r))
  there_body r g = continued_gives IsBody IsThereBody r (λ v. pure (Some v)) g (λ j b. λ o e. given j o b e)
    where
      given : (j : Json) (o : Option Json) → IsBody j → Some (Some j) ≡ Some o → IsThereBody o
      given j o b e = let q : Some j ≡ o = cc in subst IsThereBody q b

  no_body : Gives IsThereBody (there_if None)
  no_body = λ o e. (let q : None ≡ o = (let f : Some None ≡ Some o = e in cc) in subst IsThereBody q tt)

  by_members : (o : Option (List Member)) → Gives IsThereBody (there_if (option_map (λ ms. reading_at d.template d.place
      (body_site d.template p s) (tree_value (object (pairs ms)))) o))
  by_members None = no_body
  by_members (Some ms) = there_body (reading_at d.template d.place (body_site d.template p s)
      (tree_value (object (pairs ms)))) (site_body (pairs ms))

  by_resource : (o : Option Listed) → Gives IsThereBody (there_if (option_and_then (body_value d p s) o))
  by_resource None = no_body
  by_resource (Some r) = by_members (members_in r.content)

pub fits : (d : Deployment) (t : Table) (p : Position) (s : Step) (j : Json)
    → told t (body_reading d p s) ≡ value (Some j) → FitsAct Put j
fits d t p s j e =
    told_gives (IsThereBody d p s) t (body_reading d p s) (Some j)
    (by_resource d p s (resource_of d.template p s.resource)) e
