-- Scopes whose tags are shared are those of nested deployments with one key.
use Rattle.std.proofs.Common.{◌≡◌, inl, inr, ℕ, zero, suc, ◌<◌, Bool, true, false, true≢false, List, [], ◌∷◌}
use Rattle.std.proofs.Common.{◌++◌, ◌+◌, ◌≤◌, map, length, drop, Option, Some, None, refl, sym, ap, ap₂, subst, ◌∙◌}
use Rattle.std.proofs.Common.{arith, append_assoc}
use Rattle.std.proofs.lemmas.List.{length-map, map-append}
use Rattle.std.specs.declared.vec.Vec.{Vec}
use Rattle.std.specs.declared.alloc.Global.{Global}
use Rattle.std.specs.Prelude.{slice_get, bytes_eq, option_and_then, MatchOption}
use Rattle.std.proofs.lemmas.Option.{same_Some}
use Rattle.foundation.proofs.Lists.{nothing_left}
use Rattle.foundation.proofs.Comparisons.{apart}
use Rattle.foundation.proofs.TruthValues.{or_false_twice}
use Rattle.foundation.proofs.Words.{eq_word, itself}
use Rattle.arm_ids.specs.declared.id.ResourceId.{ResourceId}
use Rattle.reading.specs.Knowledge.{known_value}
use Rattle.deploy_cells.specs.Cells.{Step, step, Position, name}
use Rattle.deploy_cells.specs.Same.{same_step}
use Rattle.deploy_cells.specs.Puts.{Kind, IsNested, key_at}
use Rattle.deploy_cells.proofs.SameLemmas.{id_is, step_is, step_same}
use Rattle.key_tags.specs.KeyCodes.{key_code}
use Rattle.key_tags.proofs.CodeLemmas.{key_eq}
use Rattle.tag_needs.specs.Tags.{Tag, tags_of, tags_in, shares, IsShared}
use Rattle.plan_cells.specs.Known as knowing
use Rattle.plan_cells.specs.Meaning.{Deployment}
use Rattle.plan_cells.specs.Desired.{kinds}
use Rattle.plan_cells.specs.Reads.{key_in}
use Rattle.plan_cells.specs.Start.{start_world}
use Rattle.plan_cells.specs.Tasks.{key_by}
use Rattle.plan_table.specs.declared.table.Table.{Table}
use Rattle.plan_table.specs.Opened.{Opened, opened_of, opened_at}
use Rattle.plan_table.specs.Whole.{whole_of, scopes_of}
use Rattle.plan_table.specs.Found.{scope_at}
use Rattle.plan_table.proofs.HaltLemmas.{one_scope}
use Rattle.plan_refusals.specs.Start.{start_of, IsStartTable}
use Rattle.plan_refusals.specs.Keys.{ShareNestedKey}
use Rattle.plan_openers.specs.declared.opener.Opener.{Opener}
use Rattle.plan_openers.specs.Openers.{IsOpener}
use Rattle.plan_openers.specs.SameNested.{keyed_tags, position_tags, scope_tags, AreSameNested}
use Rattle.plan_openers.proofs.OpenerLemmas.{around, opener_there}
use Rattle.plan_openers.proofs.NestedLemmas.{IsKeyed, opener_keyed, HasScope, nested_scope}

first_of : (f g : ℕ) (xs ys : List ℕ) → f ∷ xs ≡ g ∷ ys → f ≡ g
first_of f g xs ys e = cc

rest_of : (f g : ℕ) (xs ys : List ℕ) → f ∷ xs ≡ g ∷ ys → xs ≡ ys
rest_of f g xs ys e = cc

-- ---- tags that are shared

record AreKeyed (d : Deployment) (q : knowing.Table) (f g : ℕ) (P Q : Position) : Type 0 where
  first : Step
  second : Step
  p : Position
  r : Position
  key : ResourceId
  is_first : P ≡ first ∷ p
  is_second : Q ≡ second ∷ r
  has_first : key_in d (start_world q) p first ≡ Some key
  has_second : key_in d (start_world q) r second ≡ Some key
  one : f ≡ g

by_keys : (d : Deployment) (q : knowing.Table) (f g : ℕ) (s u : Step) (p r : Position) (a b : Option ResourceId)
    → key_in d (start_world q) p s ≡ a → key_in d (start_world q) r u ≡ b
    → shares (keyed_tags f a) (keyed_tags g b) ≡ true → AreKeyed d q f g (s ∷ p) (u ∷ r)
by_keys d q f g s u p r None b e h i = absurd (true≢false (sym i))
by_keys d q f g s u p r (Some k) None e h i = absurd (true≢false (sym i))
by_keys d q f g s u p r (Some k) (Some l) e h i =
    let same : f ∷ key_code k ≡ g ∷ key_code l =
    eq_word (f ∷ key_code k) (g ∷ key_code l) (sym (or_false_twice (bytes_eq (f ∷ key_code k) (g ∷ key_code l))) ∙ i) in
    let codes : key_code k ≡ key_code l = rest_of f g (key_code k) (key_code l) same in
    let keys : k ≡ l =
    id_is k l (sym (key_eq k l) ∙ ap (bytes_eq (key_code k)) (sym codes) ∙ itself (key_code k)) in
    record {
      first = s;
      second = u;
      p = p;
      r = r;
      key = k;
      is_first = refl;
      is_second = refl;
      has_first = e;
      has_second = h ∙ ap Some (sym keys);
      one = first_of f g (key_code k) (key_code l) same;
    }

none_shared : (d : Deployment) (q : knowing.Table) (f g : ℕ) (s : Step) (p : Position) (a : Option ResourceId)
    → shares (keyed_tags f a) [] ≡ true → AreKeyed d q f g (s ∷ p) []
none_shared d q f g s p None e = absurd (true≢false (sym e))
none_shared d q f g s p (Some k) e = absurd (true≢false (sym e))

keyed_by : (d : Deployment) (q : knowing.Table) (f g : ℕ) (P Q : Position)
    → shares (position_tags d q f P) (position_tags d q g Q) ≡ true → AreKeyed d q f g P Q
keyed_by d q f g [] Q e = absurd (true≢false (sym e))
keyed_by d q f g (s ∷ p) [] e = none_shared d q f g s p (key_in d (start_world q) p s) e
keyed_by d q f g (s ∷ p) (u ∷ r) e =
    by_keys d q f g s u p r (key_in d (start_world q) p s) (key_in d (start_world q) r u) refl refl e

-- ---- the tags of scopes in their list

record IsTagged (os : List Opened) (f : Opened → List Tag) (i : ℕ) (ts : List Tag) : Type 0 where
  there : i < length os
  is : ts ≡ f (opened_at os i)

tagged_at : (os : List Opened) (f : Opened → List Tag) (i : ℕ) (ts : List Tag) → slice_get (map f os) i ≡ Some ts
    → IsTagged os f i ts
tagged_at [] f i ts e = let no : None ≡ Some ts = e in absurd (cc)
tagged_at (o ∷ os) f zero ts e = record { there = omega arith; is = sym (same_Some (f o) ts e) }
tagged_at (o ∷ os) f (suc i) ts e =
    let r = tagged_at os f i ts e in record { there = (let l = r.there in omega (arith, l)); is = r.is }

tags_at : (os : List Opened) (f : Opened → List Tag) (i : ℕ) → i < length os
    → slice_get (map f os) i ≡ Some (f (opened_at os i))
tags_at [] f i h = absurd (omega (arith, h))
tags_at (o ∷ os) f zero h = refl
tags_at (o ∷ os) f (suc i) h = tags_at os f i (omega (arith, h))

module _ (t : Table) (start : IsStartTable t) where
  abbrev d : Deployment
  d = whole_of t

  abbrev q : knowing.Table
  q = start_of t

  abbrev os : List Opened
  os = scopes_of t

  abbrev tags : Opened → List Tag
  tags = scope_tags (whole_of t) (start_of t)

  frames_there : (i : ℕ) → i < length os → i < length t.frames.items
  frames_there i h = let n = length-map t.frames.items opened_of in omega (arith, n, h)

  one_number : (i j : ℕ) → i < length os → j < length os → (scope_at t i).position ≡ (scope_at t j).position → i ≡ j
  one_number i j h k e = one_scope d os t.index t.lines.items start.laid start.filled.sound.distinct i j h k e

  -- a scope with a key is that of a nested deployment
  keyed_at : (i : ℕ) (s : Step) (p : Position) (key : ResourceId) → i < length os → (scope_at t i).position ≡ s ∷ p
      → key_in d (start_world q) p s ≡ Some key → IsKeyed d q p s key
  keyed_at i s p key h e k =
      let l = frames_there i h in
      let a = around t i s p start l e in
      subst (λ (z : Position). IsKeyed d q z s key) a.1
      (opener_keyed t i (record { frame = (scope_at t i).around; resource = s.resource; copy = s.copy }) key start
      (opener_there t i s p start l e)
      (ap (λ z. key_in d (start_world q) z s) a.1 ∙ k))

  differ_by : (s u : Step) (b : Bool) → same_step s u ≡ b → (s ≡ u → ⊥) → same_step s u ≡ false
  differ_by s u false e n = e
  differ_by s u true e n = absurd (n (step_is s u e))

  are_same : (i j : ℕ) → IsShared (map tags os) i j → AreSameNested t i j
  are_same i j h =
      let x = tagged_at os tags i h.first h.is_first in
      let y = tagged_at os tags j h.second h.is_second in
      let k = keyed_by d q (scope_at t i).around (scope_at t j).around (scope_at t i).position (scope_at t j).position
      (ap₂ shares (sym x.is) (sym y.is) ∙ h.share) in
      let a = around t i k.first k.p start (frames_there i x.there) k.is_first in
      let b = around t j k.second k.r start (frames_there j y.there) k.is_second in
      let one : k.r ≡ k.p = sym b.1 ∙ ap (λ n. (opened_at os n).position) (sym k.one) ∙ a.1 in
      let second : (scope_at t j).position ≡ k.second ∷ k.p = k.is_second ∙ ap (λ z. k.second ∷ z) one in
      let m = keyed_at i k.first k.p k.key x.there k.is_first k.has_first in
      let n = keyed_at j k.second k.p k.key y.there second
      (ap (λ z. key_in d (start_world q) z k.second) (sym one) ∙ k.has_second) in
      let below = h.below in
      record {
        around = k.p;
        first = k.first;
        second = k.second;
        is_first = k.is_first;
        is_second = second;
        share = record {
          kind = m.kind;
          other_kind = n.kind;
          title = m.title;
          other_title = n.title;
          is_nested = m.is_nested;
          other_is_nested = n.is_nested;
          have_one = m.has_key ∙ sym n.has_key;
          differ = differ_by k.first k.second (same_step k.first k.second) refl (λ e.
              let same : i ≡ j = one_number i j x.there y.there (k.is_first ∙ ap (λ z. z ∷ k.p) e ∙ sym second) in
              omega (arith, same, below));
        };
      }

  -- the tags of the scope of a nested deployment
  key_there : (p : Position) (s : Step) (k : Kind) (n : List ℕ) → IsNested (kinds d) (start_world q) p s k n
      → key_in d (start_world q) p s ≡ Some (key_at d.place k.type n)
  key_there p s k n h =
      ap (λ o. option_and_then (key_by d.place o) (known_value (q (name p s)))) h.is_included.is_declared
      ∙ ap (λ o. option_and_then (key_by d.place (Some k)) o) h.is_included.has_name

  nested_tags : (p : Position) (s : Step) (k : Kind) (n : List ℕ) → IsNested (kinds d) (start_world q) p s k n
      → (x : HasScope t p s)
      → tags (opened_at os x.number) ≡ ((scope_at t x.number).around ∷ key_code (key_at d.place k.type n)) ∷ []
  nested_tags p s k n h x =
      ap (position_tags d q (scope_at t x.number).around) x.is
      ∙ ap (keyed_tags (scope_at t x.number).around) (key_there p s k n h)

  around_there : (i : ℕ) (s : Step) (p : Position) → i < length os → (scope_at t i).position ≡ s ∷ p
      → ((scope_at t i).around < length os) × ((opened_at os (scope_at t i).around).position ≡ p)
  around_there i s p h e =
      let a = around t i s p start (frames_there i h) e in (let l = a.0 in omega (arith, l, h), a.1)

  shared_at : (i j : ℕ) (tag : Tag) → i < length os → j < length os → i < j → tags (opened_at os i) ≡ tag ∷ []
      → tags (opened_at os j) ≡ tag ∷ [] → IsShared (map tags os) i j
  shared_at i j tag h k l e f = record {
    below = l;
    first = tag ∷ [];
    second = tag ∷ [];
    is_first = tags_at os tags i h ∙ ap Some e;
    is_second = tags_at os tags j k ∙ ap Some f;
    share = or_false_twice (bytes_eq tag tag) ∙ itself tag;
  }

  none_same : ((i j : ℕ) → IsShared (map tags os) i j → ⊥) → (p : Position) (s u : Step)
      → ShareNestedKey d (start_world q) p s u → ⊥
  none_same none p s u h =
      let x = nested_scope t p s h.kind h.title start h.is_nested in
      let y = nested_scope t p u h.other_kind h.other_title start h.other_is_nested in
      let a = around_there x.number s p x.there x.is in
      let b = around_there y.number u p y.there y.is in
      let one : (scope_at t y.number).around ≡ (scope_at t x.number).around =
      one_number (scope_at t y.number).around (scope_at t x.number).around b.0 a.0 (b.1 ∙ sym a.1) in
      let tag : Tag = (scope_at t x.number).around ∷ key_code (key_at d.place h.kind.type h.title) in
      let first : tags (opened_at os x.number) ≡ tag ∷ [] = nested_tags p s h.kind h.title h.is_nested x in
      let second : tags (opened_at os y.number) ≡ tag ∷ [] =
      nested_tags p u h.other_kind h.other_title h.other_is_nested y
      ∙ ap (λ k. ((scope_at t y.number).around ∷ key_code k) ∷ []) (sym h.have_one)
      ∙ ap (λ n. (n ∷ key_code (key_at d.place h.kind.type h.title)) ∷ []) one in
      elim (apart x.number y.number (numbers_differ x y)) [
        | inl l ↦ none x.number y.number (shared_at x.number y.number tag x.there y.there l first second)
        | inr l ↦ none y.number x.number (shared_at y.number x.number tag y.there x.there l second first)
      ]
    where
      head_is : (a b : Step) (z : Position) → a ∷ z ≡ b ∷ z → a ≡ b
      head_is a b z e = cc

      numbers_differ : (x : HasScope t p s) (y : HasScope t p u) → x.number ≡ y.number → ⊥
      numbers_differ x y e =
          let same : s ≡ u = head_is s u p (sym x.is ∙ ap (λ n. (scope_at t n).position) e ∙ y.is) in
          true≢false (sym (step_same s) ∙ ap (same_step s) same ∙ h.differ)

  pub same_found : (all : List (List Tag)) (o : Option (ℕ × ℕ)) → all ≡ map tags os
      → MatchOption o (Unit {0}) (λ p. IsShared all p.0 p.1) → MatchOption o (Unit {0}) (λ p. AreSameNested t p.0 p.1)
  same_found all None e h = tt
  same_found all (Some p) e h = are_same p.0 p.1 (subst (λ ts. IsShared ts p.0 p.1) e h)

  pub none_found : (all : List (List Tag)) (o : Option (ℕ × ℕ)) → all ≡ map tags os
      → MatchOption o ((i j : ℕ) → IsShared all i j → ⊥) (λ _. Unit {0})
      → MatchOption o ((p : Position) (s u : Step) → ShareNestedKey d (start_world q) p s u → ⊥) (λ _. Unit {0})
  none_found all None e h = none_same (λ i j s. h i j (subst (λ ts. IsShared ts i j) (sym e) s))
  none_found all (Some p) e h = tt

  -- ---- what the code lists

  pub opened_tags : (g : ℕ) (x : Opener) (ts : List Tag) → g < length t.frames.items → IsOpener t g x
      → ts ≡ keyed_tags x.frame (key_in d (start_world q) (scope_at t x.frame).position (step x.resource x.copy))
      → ts ≡ tags (scope_at t g)
  opened_tags g x ts h o e =
      let s = step x.resource x.copy in
      let p = (scope_at t x.frame).position in
      let at = o.is_scope.position in
      let a = around t g s p start h at in
      let n = length-map t.frames.items opened_of in
      let less = a.0 in
      let there = o.is_instance.there in
      let one : (scope_at t g).around ≡ x.frame =
      one_number (scope_at t g).around x.frame (omega (arith, less, h, n)) (omega (arith, there, n)) a.1 in
      e ∙ ap (λ f. keyed_tags f (key_in d (start_world q) p s)) (sym one)
      ∙ ap (position_tags d q (scope_at t g).around) (sym at)

  pub root_tags : (g : ℕ) (ts : List Tag) → (scope_at t g).position ≡ [] → ts ≡ [] → ts ≡ tags (scope_at t g)
  root_tags g ts e h = h ∙ ap (position_tags d q (scope_at t g).around) (sym e)

  drop_here : (us : List Opened) (i : ℕ) → i < length us → drop i us ≡ opened_at us i ∷ drop (suc i) us
  drop_here [] i h = absurd (omega (arith, h))
  drop_here (u ∷ us) zero h = refl
  drop_here (u ∷ us) (suc i) h = drop_here us i (omega (arith, h))

  pub list_more : (i : ℕ) (all new : List (Vec (Vec ℕ Global) Global)) (v : Vec (Vec ℕ Global) Global)
      → i < length t.frames.items → new ≡ all ++ v ∷ [] → tags_of v ≡ tags (scope_at t i)
      → tags_in all ++ map tags (drop i os) ≡ map tags os → tags_in new ++ map tags (drop (i + 1) os) ≡ map tags os
  list_more i all new v h e g c =
      let n = length-map t.frames.items opened_of in
      ap (λ vs. tags_in vs ++ map tags (drop (i + 1) os)) e
      ∙ ap (λ xs. xs ++ map tags (drop (i + 1) os)) (map-append tags_of all (v ∷ []))
      ∙ append_assoc (tags_in all) (tags_of v ∷ []) (map tags (drop (i + 1) os))
      ∙ ap (λ ts. tags_in all ++ (ts ∷ map tags (drop (i + 1) os))) g
      ∙ ap (λ (j : ℕ). tags_in all ++ (tags (scope_at t i) ∷ map tags (drop j os)))
      (let z : i + 1 ≡ suc i = omega arith in z)
      ∙ ap (λ us. tags_in all ++ map tags us) (sym (drop_here os i (omega (arith, h, n))))
      ∙ c

  nil_right : (xs : List (List Tag)) → xs ++ [] ≡ xs
  nil_right [] = refl
  nil_right (x ∷ xs) = ap (λ ys. x ∷ ys) (nil_right xs)

  pub list_end : (i : ℕ) (all : List (Vec (Vec ℕ Global) Global)) → length t.frames.items ≤ i
      → tags_in all ++ map tags (drop i os) ≡ map tags os → tags_in all ≡ map tags os
  list_end i all h c =
      let n = length-map t.frames.items opened_of in
      sym (nil_right (tags_in all))
      ∙ ap (λ us. tags_in all ++ map tags us) (sym (nothing_left os i (omega (arith, h, n)))) ∙ c
