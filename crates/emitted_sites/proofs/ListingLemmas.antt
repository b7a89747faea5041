-- What is sought among the nested deployments of a scope.
use Rattle.std.proofs.Common.{◌≡◌, ℕ, zero, suc, Bool, true, false, length, List, [], ◌∷◌, map, Option, Some, None}
use Rattle.std.proofs.Common.{refl, sym, ap, ◌∙◌}
use Rattle.std.specs.Prelude.{option_map, slice_get}
use Rattle.std.proofs.lemmas.Option.{slice_get-map}
use Rattle.foundation.proofs.Options.{same_some}
use Rattle.arm_value.specs.Json.{Json}
use Rattle.arm_ids.specs.Members.{deployment_type}
use Rattle.arm_ids.specs.declared.id.Place.{Place}
use Rattle.arm_ids.specs.declared.id.ResourceId.{ResourceId}
use Rattle.arm_ids.proofs.SegmentLemmas.{segments-fold}
use Rattle.reading.specs.Reading.{done, pure, continued}
use Rattle.template_tree.specs.Tree.{TemplateTree}
use Rattle.deploy_cells.specs.Cells.{Position, Cell, World, deployments}
use Rattle.deploy_cells.specs.Listing.{Named, Sought, found, left_away, not_here, sought, IsSought}
use Rattle.deploy_cells.specs.Puts.{key_at}
use Rattle.deploy_cells.proofs.SameLemmas.{id_is}
use Rattle.plan_cells.specs.Sites.{Found, instance_of, is_left_away, is_nowhere, found_or, seek, nested_numbers_at}
use Rattle.bicep_emission.specs.Alike.{Seen, seen_in, after}
use Rattle.bicep_emission.specs.Answered.{deployment_types}
use Rattle.bicep_meaning.specs.Meaning.{has_key}

-- what is found, of a scope that sees itself alone
abbrev pub found_by : Position → List ℕ → Sought → Found
found_by q rs (found k i) = instance_of q (slice_get rs k) i
found_by q rs left_away = is_left_away
found_by q rs not_here = is_nowhere

module _ (v : World) (n : Cell → Bool) (u : TemplateTree) (test : List ℕ → Bool) (q : Position) where
  abbrev found_seen : Found → Seen Found
  found_seen o = (Some o, false)

  found_sees : (rs : List ℕ) (s : Sought)
      → seen_in v n (found_or q rs s (pure is_nowhere)) ≡ found_seen (found_by q rs s)
  unfolding seen_in
  found_sees rs (found k i) = refl
  found_sees rs left_away = refl
  found_sees rs not_here = refl

  by_listing : (o : Option Json) (j : Json) → o ≡ Some j
      → seen_in v n
      (continued (done o) (λ j. found_or q (nested_numbers_at u q) (sought test j) (pure is_nowhere)))
      ≡ found_seen (found_by q (nested_numbers_at u q) (sought test j))
  unfolding continued
  by_listing None j e = absurd cc
  by_listing (Some i) j e =
      found_sees (nested_numbers_at u q) (sought test i)
      ∙ ap (λ j. found_seen (found_by q (nested_numbers_at u q) (sought test j))) (same_some e)

  pub seek_sees : (j : Json) → v (deployments q) ≡ Some j → n (deployments q) ≡ false
      → seen_in v n (seek u test (q ∷ [])) ≡ found_seen (found_by q (nested_numbers_at u q) (sought test j))
  unfolding seen_in continued
  seek_sees j e h =
      ap
      (λ b. after b
      (seen_in v n
      (continued (done (v (deployments q)))
      (λ j. found_or q (nested_numbers_at u q) (sought test j) (pure is_nowhere)))))
      h
      ∙ ap (after false) (by_listing (v (deployments q)) j e)

-- ---- keys of other types

pub deployment_key_types : (place : Place) (n : List ℕ) → (key_at place deployment_type n).types ≡ deployment_types
deployment_key_types place n = sym (segments-fold deployment_type)

pub of_deployment : (place : Place) (k : ResourceId) (n : List ℕ) → has_key place k n ≡ true
    → k.types ≡ deployment_types
of_deployment place k n e =
    ap (λ (i : ResourceId). i.types) (id_is k (key_at place deployment_type n) e) ∙ deployment_key_types place n

pub nothing_sought : (place : Place) (k : ResourceId) (q : Position) (rs : List ℕ) (nss : List (List Named))
    (s : Sought) → IsSought (has_key place k) nss s → (k.types ≡ deployment_types → ⊥)
    → found_by q rs s ≡ is_nowhere
nothing_sought place k q rs nss (found a i) g other = absurd (other (of_deployment place k g.0.name g.1.2))
nothing_sought place k q rs nss left_away g other =
    absurd (other (of_deployment place k g.1.1.1.0.name g.1.1.1.1.1))
nothing_sought place k q rs nss not_here g other = refl

-- ---- the nested deployment of a module

pub same_index : {A B : Type 0} (xs : List A) (ys : List B) (k : ℕ) (x : A) → slice_get xs k ≡ Some x
    → length xs ≡ length ys → (y : B) × (slice_get ys k ≡ Some y)
same_index [] ys k x e l = absurd cc
same_index (a ∷ xs) [] k x e l = absurd cc
same_index (a ∷ xs) (b ∷ ys) zero x e l = (b, refl)
same_index (a ∷ xs) (b ∷ ys) (suc k) x e l = same_index xs ys k x e cc

some_of : (o : Option ℕ) (a : Option ℕ) → Some a ≡ option_map (λ m. Some m) o → (m : ℕ) × ((o ≡ Some m) × (a ≡ Some m))
some_of None a e = absurd cc
some_of (Some m) a e = (m, (refl, same_some e))

pub module_number : (f : ℕ → Option ℕ) (ns ms : List ℕ) (k n : ℕ) → map f ns ≡ map (λ m. Some m) ms
    → slice_get ns k ≡ Some n → (m : ℕ) × ((slice_get ms k ≡ Some m) × (f n ≡ Some m))
module_number f ns ms k n h e =
    some_of (slice_get ms k) (f n)
    (sym (ap (option_map f) e) ∙ sym (slice_get-map f ns k) ∙ ap (λ os. slice_get os k) h
    ∙ slice_get-map (λ m. Some m) ms k)
