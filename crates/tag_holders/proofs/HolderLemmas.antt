-- Of which things something is true, as more things and more tags are looked at.
use Rattle.std.proofs.Common.{◌≡◌, ◌⊎◌, inl, inr, ℕ, zero, suc, ◌+◌, ◌≤◌, Bool, true, false, true≢false, ◌||◌}
use Rattle.std.proofs.Common.{List, [], ◌∷◌, map, drop, length, bytes_eq, cond, Option, Some, None}
use Rattle.std.proofs.Common.{refl, sym, ap, subst, ◌∙◌, arith}
use Rattle.std.specs.Prelude.{if◌then◌else◌}
use Rattle.std.specs.List.{list_any}
use Rattle.std.specs.declared.vec.Vec.{Vec}
use Rattle.std.specs.declared.alloc.Global.{Global}
use Rattle.std.specs.Ordering.{nat_cmp}
use Rattle.std.specs.Cmp.Lexicographic.{slice_cmp}
use Rattle.std.specs.BTreeMap as map
use denote.Ref.{Bor}
use Rattle.std.proofs.lemmas.List.{drop_all}
use Rattle.std.proofs.lemmas.Map.Text.{btree_map_updates_str}
use Rattle.std.proofs.lemmas.Slice.Eq.{bytes_eq-Decides}
use Rattle.std.proofs.lemmas.Bool.{or_cases, or_left, or_right}
use Rattle.foundation.proofs.TruthValues.{first_alone}
use Rattle.foundation.proofs.Words.{swapped}
use Rattle.foundation.proofs.Options.{same_some}
use Rattle.tag_needs.specs.Tags.{Tag, shares, tags_in}
use Rattle.tag_holders.specs.declared.holders.Found.{Found}
use Rattle.tag_holders.specs.declared.holders.Found.TheVariants.{Alike, Differing}
use Rattle.tag_holders.specs.Holders.{class_at, IsHolder, IsTrueOf, AreHolders, Holders, found_at, AreKept}
use Rattle.tag_holders.specs.Holders.{found_by, joined, found_with, found_among, found_asked}

-- the thing of a number, from the number n on, has the tag
abbrev HasFrom : Tag → ℕ → List (List Tag) → ℕ → Type 0
HasFrom t n [] j = ⊥
HasFrom t n (us ∷ rest) j = ((j ≡ n) × (list_any (bytes_eq t) us ≡ true)) ⊎ HasFrom t (suc n) rest j

-- ---- things

module _ (cs : List Tag) where
  moved : (P Q : ℕ → Type 0) → ((j : ℕ) → P j → Q j) → ((j : ℕ) → Q j → P j) → (f : Option Found)
      → IsTrueOf cs P f → IsTrueOf cs Q f
  moved P Q to back None h = λ j q. h j (back j q)
  moved P Q to back (Some (Alike i)) h = (to i h.0, λ j q. h.1 j (back j q))
  moved P Q to back (Some (Differing i j)) h = (to i h.0, (to j h.1.0, h.1.1))

  of_two : (P Q : ℕ → Type 0) (i j : ℕ) → IsTrueOf cs P (Some (Alike i)) → IsTrueOf cs Q (Some (Alike j)) → (b : Bool)
      → bytes_eq (class_at cs i) (class_at cs j) ≡ b → IsTrueOf cs (λ k. P k ⊎ Q k) (Some (found_by b i j))
  of_two P Q i j h g true e =
      let same : class_at cs i ≡ class_at cs j = (bytes_eq-Decides (class_at cs i) (class_at cs j)).0 e in
      (inl h.0, λ k s. elim s [ inl p ↦ h.1 k p | inr q ↦ g.1 k q ∙ sym same ])
  of_two P Q i j h g false e = (
    inl h.0,
    (
      inr g.0,
      λ same. true≢false (sym ((bytes_eq-Decides (class_at cs i) (class_at cs j)).1 same) ∙ e),
    ),
  )

  joined_is : (P Q : ℕ → Type 0) (f g : Option Found) → IsTrueOf cs P f → IsTrueOf cs Q g
      → IsTrueOf cs (λ j. P j ⊎ Q j) (joined cs f g)
  joined_is P Q None g h k =
      moved Q (λ j. P j ⊎ Q j) (λ j q. inr q) (λ j s. elim s [ inl p ↦ absurd (h j p) | inr q ↦ q ]) g k
  joined_is P Q (Some (Differing i j)) g h k = (inl h.0, (inl h.1.0, h.1.1))
  joined_is P Q (Some (Alike i)) None h k =
      (inl h.0, λ j s. elim s [ inl p ↦ h.1 j p | inr q ↦ absurd (k j q) ])
  joined_is P Q (Some (Alike i)) (Some (Differing a b)) h k = (inr k.0, (inr k.1.0, k.1.1))
  joined_is P Q (Some (Alike i)) (Some (Alike a)) h k =
      of_two P Q i a h k (bytes_eq (class_at cs i) (class_at cs a)) refl

  -- ---- the tags of one thing

  module _ (t : Tag) where
    abbrev Own : ℕ → List Tag → ℕ → Type 0
    Own n us j = (j ≡ n) × (list_any (bytes_eq t) us ≡ true)

    alone : (n : ℕ) → IsTrueOf cs (λ j. j ≡ n) (Some (Alike n))
    alone n = (refl, λ j e. ap (class_at cs) e)

    with_is : (P : ℕ → Type 0) (f : Option Found) (n : ℕ) (us : List Tag) → IsTrueOf cs P f
        → IsTrueOf cs (λ j. P j ⊎ Own n us j) (found_with cs t f n us)
    with_is P f n [] h =
        moved P (λ j. P j ⊎ Own n [] j) (λ j p. inl p)
        (λ j s. elim s [ inl p ↦ p | inr o ↦ absurd (true≢false (sym o.1)) ]) f h
    with_is P f n (u ∷ us) h =
        by_test (with_is (λ j. P j ⊎ (j ≡ n)) (joined cs f (Some (Alike n))) n us
        (joined_is P (λ j. j ≡ n) f (Some (Alike n)) h (alone n))) (with_is P f n us h) (bytes_eq t u) refl
      where
        by_test : IsTrueOf cs (λ j. (P j ⊎ (j ≡ n)) ⊎ Own n us j) (found_with cs t (joined cs f (Some (Alike n))) n us)
            → IsTrueOf cs (λ j. P j ⊎ Own n us j) (found_with cs t f n us) → (b : Bool) → bytes_eq t u ≡ b
            → IsTrueOf cs (λ j. P j ⊎ Own n (u ∷ us) j)
            (found_with cs t (if b then joined cs f (Some (Alike n)) else f) n us)
        by_test here there true e =
            moved (λ j. (P j ⊎ (j ≡ n)) ⊎ Own n us j) (λ j. P j ⊎ Own n (u ∷ us) j)
            (λ j s. elim s [
              | inl l ↦ elim l [
                | inl p ↦ inl p
                | inr m ↦ inr (m, or_left (bytes_eq t u) (list_any (bytes_eq t) us) e)
              ]
              | inr o ↦ inr (o.0, or_right (bytes_eq t u) (list_any (bytes_eq t) us) o.1)
            ])
            (λ j s. elim s [ inl p ↦ inl (inl p) | inr o ↦ inl (inr o.0) ])
            (found_with cs t (joined cs f (Some (Alike n))) n us) here
        by_test here there false e =
            moved (λ j. P j ⊎ Own n us j) (λ j. P j ⊎ Own n (u ∷ us) j)
            (λ j s. elim s [
              | inl p ↦ inl p
              | inr o ↦ inr (o.0, or_right (bytes_eq t u) (list_any (bytes_eq t) us) o.1)
            ])
            (λ j s. elim s [ inl p ↦ inl p | inr o ↦ inr (o.0, ap (λ b. b || list_any (bytes_eq t) us) (sym e) ∙ o.1) ])
            (found_with cs t f n us) there

    among_is : (P : ℕ → Type 0) (f : Option Found) (n : ℕ) (tags : List (List Tag)) → IsTrueOf cs P f
        → IsTrueOf cs (λ j. P j ⊎ HasFrom t n tags j) (found_among cs t f n tags)
    among_is P f n [] h =
        moved P (λ j. P j ⊎ ⊥) (λ j p. inl p) (λ j s. elim s [ inl p ↦ p | inr x ↦ absurd x ]) f h
    among_is P f n (us ∷ rest) h =
        moved (λ j. (P j ⊎ Own n us j) ⊎ HasFrom t (suc n) rest j)
        (λ j. P j ⊎ (Own n us j ⊎ HasFrom t (suc n) rest j))
        (λ j s. elim s [
          | inl l ↦ elim l [ inl p ↦ inl p | inr o ↦ inr (inl o) ]
          | inr r ↦ inr (inr r)
        ])
        (λ j s. elim s [
          | inl p ↦ inl (inl p)
          | inr l ↦ elim l [ inl o ↦ inl (inr o) | inr r ↦ inr r ]
        ])
        (found_among cs t (found_with cs t f n us) (suc n) rest)
        (among_is (λ j. P j ⊎ Own n us j) (found_with cs t f n us) (suc n) rest (with_is P f n us h))

-- ---- who has a tag

record HolderAt (t : Tag) (n : ℕ) (tags : List (List Tag)) (j : ℕ) : Type 0 where
  place : ℕ
  is : j ≡ n + place
  holder : IsHolder tags (t ∷ []) place

has_holder : (t : Tag) (n : ℕ) (tags : List (List Tag)) (j : ℕ) → HasFrom t n tags j → HolderAt t n tags j
has_holder t n [] j h = absurd h
has_holder t n (us ∷ rest) j h =
    elim h [
      | inl o ↦ record {
        place = 0;
        is = (let e = o.0 in omega (arith, e));
        holder = record { own = us; is_own = refl; share = or_left (list_any (bytes_eq t) us) false o.1 };
      }
      | inr r ↦ (let x = has_holder t (suc n) rest j r in record {
        place = suc x.place;
        is = (let e = x.is in omega (arith, e));
        holder = record { own = x.holder.own; is_own = x.holder.is_own; share = x.holder.share };
      })
    ]

holder_has : (t : Tag) (n : ℕ) (tags : List (List Tag)) (k : ℕ) → IsHolder tags (t ∷ []) k → HasFrom t n tags (n + k)
holder_has t n [] k h = let no : None ≡ Some h.own = h.is_own in absurd (cc)
holder_has t n (us ∷ rest) zero h =
    inl (
      (let e : n + 0 ≡ n = omega arith in e),
      ap (list_any (bytes_eq t)) (same_some h.is_own) ∙ first_alone (list_any (bytes_eq t) h.own) h.share,
    )
holder_has t n (us ∷ rest) (suc k) h =
    inr (subst (λ (m : ℕ). HasFrom t (suc n) rest m) (let e : suc n + k ≡ n + suc k = omega arith in e)
    (holder_has t (suc n) rest k (record { own = h.own; is_own = h.is_own; share = h.share })))

-- all that have a tag
all_holders : (cs : List Tag) (tags : List (List Tag)) (t : Tag)
    → AreHolders tags cs (t ∷ []) (found_among cs t None 0 tags)
all_holders cs tags t =
    moved cs (λ j. ⊥ ⊎ HasFrom t 0 tags j) (IsHolder tags (t ∷ []))
    (λ j s. elim s [
      | inl x ↦ absurd x
      | inr h ↦ (let y = has_holder t 0 tags j h in subst (IsHolder tags (t ∷ []))
          (let e : y.place ≡ j = (let i = y.is in omega (arith, i)) in e) y.holder)
    ])
    (λ j h. inr (subst (λ (m : ℕ). HasFrom t 0 tags m) (let e : 0 + j ≡ j = omega arith in e)
    (holder_has t 0 tags j h)))
    (found_among cs t None 0 tags) (among_is cs t (λ j. ⊥) None 0 tags (λ j x. x))

-- ---- those for which is asked

module _ (cs : List Tag) (m : Holders) (tags : List (List Tag)) (kept : AreKept m tags cs) where
  asked_is : (P : ℕ → Type 0) (f : Option Found) (asks : List Tag) → IsTrueOf cs P f
      → IsTrueOf cs (λ j. P j ⊎ IsHolder tags asks j) (found_asked cs m f asks)
  asked_is P f [] h =
      moved cs P (λ j. P j ⊎ IsHolder tags [] j) (λ j p. inl p)
      (λ j s. elim s [ inl p ↦ p | inr o ↦ absurd (true≢false (sym o.share)) ]) f h
  asked_is P f (a ∷ asks) h =
      moved cs (λ j. (P j ⊎ IsHolder tags (a ∷ []) j) ⊎ IsHolder tags asks j)
      (λ j. P j ⊎ IsHolder tags (a ∷ asks) j)
      (λ j s. elim s [
        | inl l ↦ elim l [
          | inl p ↦ inl p
          | inr o ↦ inr (record {
            own = o.own;
            is_own = o.is_own;
            share = or_left (list_any (bytes_eq a) o.own) (shares asks o.own)
                (first_alone (list_any (bytes_eq a) o.own) o.share);
          })
        ]
        | inr o ↦ inr (record {
          own = o.own;
          is_own = o.is_own;
          share = or_right (list_any (bytes_eq a) o.own) (shares asks o.own) o.share;
        })
      ])
      (λ j s. elim s [ inl p ↦ inl (inl p) | inr o ↦ apart j o ])
      (found_asked cs m (joined cs f (found_at m a)) asks)
      (asked_is (λ j. P j ⊎ IsHolder tags (a ∷ []) j) (joined cs f (found_at m a)) asks
      (joined_is cs P (IsHolder tags (a ∷ [])) f (found_at m a) h (kept a)))
    where
      apart : (j : ℕ) → IsHolder tags (a ∷ asks) j → (P j ⊎ IsHolder tags (a ∷ []) j) ⊎ IsHolder tags asks j
      apart j o =
          elim (or_cases (list_any (bytes_eq a) o.own) (shares asks o.own) o.share) [
            | inl e ↦ inl (inr (record {
              own = o.own;
              is_own = o.is_own;
              share = or_left (list_any (bytes_eq a) o.own) false e;
            }))
            | inr e ↦ inr (record { own = o.own; is_own = o.is_own; share = e })
          ]

  asked_holders : (asks : List Tag) → AreHolders tags cs asks (found_asked cs m None asks)
  asked_holders asks =
      moved cs (λ j. ⊥ ⊎ IsHolder tags asks j) (IsHolder tags asks)
      (λ j s. elim s [ inl x ↦ absurd x | inr o ↦ o ]) (λ j o. inr o)
      (found_asked cs m None asks) (asked_is (λ j. ⊥) None asks (λ j x. x))

-- ---- as the map is filled

pub one_more : (old new : Holders) (tag : Bor (List ℕ)) (found : Found)
    → map.UpdatesBy (λ s u. slice_cmp nat_cmp s.now u.now) (λ k. slice_cmp nat_cmp tag.now k.now) old new (Some found)
    → (t : Tag) (f : Option Found) → (tag.now ≡ t → f ≡ Some found)
    → found_at new t ≡ (if bytes_eq t tag.now then f else found_at old t)
one_more old new tag found u t f e =
    btree_map_updates_str tag.now old new (Some found) u t
    ∙ by_test (bytes_eq tag.now t) (λ h. (bytes_eq-Decides tag.now t).0 h)
    ∙ ap (λ b. if b then f else found_at old t) (swapped tag.now t)
  where
    by_test : (b : Bool) → (b ≡ true → tag.now ≡ t)
        → cond b (Some found) (found_at old t) ≡ (if b then f else found_at old t)
    by_test true h = sym (e (h refl))
    by_test false h = refl

abbrev pub TagsLeft : List Tag → Holders → Holders → ℕ → List (Vec ℕ Global) → List (Vec ℕ Global) → Type 0
TagsLeft cs now first n rest all = (t : Tag) → found_with cs t (found_at now t) n (map (λ v. v.items) rest)
    ≡ found_with cs t (found_at first t) n (map (λ v. v.items) all)

abbrev pub ThingsLeft : List Tag → Holders → ℕ → List (Vec (Vec ℕ Global) Global) → List (Vec (Vec ℕ Global) Global)
    → Type 0
ThingsLeft cs now n rest all =
    (t : Tag) → found_among cs t (found_at now t) n (tags_in rest) ≡ found_among cs t None 0 (tags_in all)

abbrev pub AsksLeft : List Tag → Holders → Option Found → List (Vec ℕ Global) → List (Vec ℕ Global) → Type 0
AsksLeft cs m found rest all =
    found_asked cs m found (map (λ v. v.items) rest) ≡ found_asked cs m None (map (λ v. v.items) all)

-- ---- once all were looked at

pub all_kept : (cs : List Tag) (m : Holders) (n : ℕ) (all : List (Vec (Vec ℕ Global) Global)) → length all ≤ n
    → ThingsLeft cs m n (drop n all) all → AreKept m (tags_in all) cs
all_kept cs m n all h c t =
    subst (AreHolders (tags_in all) cs (t ∷ []))
    (sym (c t) ∙ ap (λ vs. found_among cs t (found_at m t) n (tags_in vs)) (drop_all n all h))
    (all_holders cs (tags_in all) t)

pub all_asked : (cs : List Tag) (m : Holders) (tags : List (List Tag)) (found : Option Found) (i : ℕ)
    (all : List (Vec ℕ Global)) → AreKept m tags cs → length all ≤ i → AsksLeft cs m found (drop i all) all
    → AreHolders tags cs (map (λ v. v.items) all) found
all_asked cs m tags found i all kept h c =
    subst (AreHolders tags cs (map (λ v. v.items) all))
    (sym c ∙ ap (λ vs. found_asked cs m found (map (λ v. v.items) vs)) (drop_all i all h))
    (asked_holders cs m tags kept (map (λ v. v.items) all))
