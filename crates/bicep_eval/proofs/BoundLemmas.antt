-- The values and members of a list of parts nest at most 100 deep, since each part is capped.
use Rattle.std.proofs.Common.{◌≡◌, ◌≤◌, ℕ, zero, suc, List, [], ◌∷◌, Option, Some, None}
use Rattle.std.proofs.Common.{refl, sym, ap, ◌∙◌, subst, arith}
use Rattle.arm_value.specs.Json.{Json, Member, nesting, items_nesting, members_nesting}
use Rattle.arm_env.specs.Part.{kept}
use Rattle.reading.specs.Knowledge.{Known, Told, value, no_value, waits, told, finished, and_then}
use Rattle.deploy_cells.specs.Cells.{Cell}
use Rattle.deploy_cells.specs.Guarded.{Reads}
use Rattle.bicep_resolved.specs.Source.{SourceTree, SourceTrees, PropertyTrees}
use Rattle.bicep_resolved.specs.Source as s
use Rattle.bicep_meaning.specs.Rows.{capped, all}
use Rattle.bicep_meaning.specs.Around.{Here, Frame, Around, runs}
use Rattle.bicep_meaning.specs.Meaning as m
use Rattle.bicep_outcomes.proofs.OutcomeLemmas.{told-then}
use Rattle.bicep_outcomes.proofs.ListLemmas.{all-nil, all-cons, before}
use Rattle.bicep_meaning.proofs.CappedLemmas.{kept_nests}

-- where a value came from
record CameFrom {A B : Type 0} (t : Told Cell A) (f : A → Option B) (y : B) : Type 0 where
  first : A
  was : t ≡ value first
  gave : f first ≡ Some y

finished_some : {B : Type 0} (o : Option B) (y : B) → ◌≡◌ {A = Told Cell B} (finished o) (value y) → o ≡ Some y
finished_some (Some x) y e = cc
finished_some None y e = absurd cc

came : {A B : Type 0} (t : Told Cell A) (f : A → Option B) (y : B) → and_then t (λ x. finished (f x)) ≡ value y
    → CameFrom t f y
came (value x) f y e = record { first = x; was = refl; gave = finished_some (f x) y e }
came no_value f y e = absurd cc
came (waits k) f y e = absurd cc

-- where the values of a list came from
record Split {A : Type 0} (t : Told Cell A) (u : Told Cell (List A)) (ys : List A) : Type 0 where
  first : A
  others : List A
  was : t ≡ value first
  were : u ≡ value others
  are : ys ≡ first ∷ others

split : {A : Type 0} (t : Told Cell A) (u : Told Cell (List A)) (ys : List A) → before t u ≡ value ys → Split t u ys
split (value x) (value xs) ys e = record { first = x; others = xs; was = refl; were = refl; are = cc }
split (value x) no_value ys e = absurd cc
split (value x) (waits k) ys e = absurd cc
split no_value (value xs) ys e = absurd cc
split no_value no_value ys e = absurd cc
split no_value (waits k) ys e = absurd cc
split (waits k) u ys e = absurd cc

some_is : {A : Type 0} (x y : A) → ◌≡◌ {A = Option A} (Some x) (Some y) → x ≡ y
some_is x y e = cc

none_left : {A : Type 0} (ys : List A) → ◌≡◌ {A = Told Cell (List A)} (value []) (value ys) → ys ≡ []
none_left ys e = cc

module _ (p : Cell → Known Json) where
  capped_nests : (q : Reads Json) (j : Json) → told p (capped q) ≡ value j → nesting j ≤ 100
  unfolding capped
  capped_nests q j e =
      let c = came (told p q) kept j (sym (told-then p q kept) ∙ e) in
      kept_nests c.first j c.gave

  -- each reading of a list gives values that nest at most 100 deep
  abbrev AreSmall : List (Reads Json) → Type 0
  AreSmall [] = Unit {0}
  AreSmall (r ∷ rs) = ((j : Json) → told p r ≡ value j → nesting j ≤ 100) × AreSmall rs

  all_small : (rs : List (Reads Json)) (js : List Json) → AreSmall rs → told p (all rs) ≡ value js
      → items_nesting js ≤ 100
  all_small [] js h e =
      subst (λ (l : List Json). items_nesting l ≤ 100) (sym (none_left js (sym (all-nil p) ∙ e))) (omega arith)
  all_small (r ∷ rs) js h e =
      let c = split (told p r) (told p (all rs)) js (sym (all-cons p r rs) ∙ e) in
      let one : nesting c.first ≤ 100 = h.0 c.first c.was in
      let more : items_nesting c.others ≤ 100 = all_small rs c.others h.1 c.were in
      subst (λ (l : List Json). items_nesting l ≤ 100) (sym c.are) (omega arith)

  abbrev AreSmallMembers : List (Reads Member) → Type 0
  AreSmallMembers [] = Unit {0}
  AreSmallMembers (r ∷ rs) = ((x : Member) → told p r ≡ value x → nesting x.1 ≤ 100) × AreSmallMembers rs

  all_small_members : (rs : List (Reads Member)) (xs : List Member) → AreSmallMembers rs → told p (all rs) ≡ value xs
      → members_nesting xs ≤ 100
  all_small_members [] xs h e =
      subst (λ (l : List Member). members_nesting l ≤ 100) (sym (none_left xs (sym (all-nil p) ∙ e))) (omega arith)
  all_small_members (r ∷ rs) xs h e =
      let c = split (told p r) (told p (all rs)) xs (sym (all-cons p r rs) ∙ e) in
      let one : nesting c.first.1 ≤ 100 = h.0 c.first c.was in
      let more : members_nesting c.others ≤ 100 = all_small_members rs c.others h.1 c.were in
      subst (λ (l : List Member). members_nesting l ≤ 100) (sym c.are) (omega arith)

  member_nests : (name : List ℕ) (q : Reads Json) (x : Member) → told p (m.member_of name (capped q)) ≡ value x
      → nesting x.1 ≤ 100
  member_nests name q x e =
      let c = came (told p (capped q)) (λ j. Some (name, j)) x (sym (told-then p (capped q) (λ j. Some (name, j)))
      ∙ e) in
      let same = ap (λ (y : Member). y.1) (some_is {A = Member} (name, c.first) x c.gave) in
      subst (λ (v : Json). nesting v ≤ 100) same (capped_nests q c.first c.was)

  module _ (here : Here) (a : Around) where
    values_small : (es : SourceTrees) (fs : List Frame) → AreSmall (m.values here a es fs)
    values_small s.none fs = tt
    values_small (s.more e es) fs = (λ j h. capped_nests (m.bare here a e fs) j h, values_small es fs)

    members_small : (ps : PropertyTrees) (fs : List Frame) → AreSmallMembers (m.members here a ps fs)
    members_small s.no_property fs = tt
    members_small (s.property at name v ps) fs =
        (λ x h. member_nests name (m.bare_value here a v fs) x h, members_small ps fs)

    runs_small : (body : SourceTree) (fs : List Frame) (xs : Reads Json) (i n : ℕ)
        → AreSmall (runs (λ f. m.value here a body (f ∷ fs)) xs i n)
    runs_small body fs xs i zero = tt
    runs_small body fs xs i (suc n) =
        (λ j h. capped_nests (m.bare here a body _) j h, runs_small body fs xs (suc i) n)

    pub values_nest : (es : SourceTrees) (fs : List Frame) (js : List Json)
        → told p (all (m.values here a es fs)) ≡ value js → items_nesting js ≤ 119
    values_nest es fs js e =
        let small = all_small (m.values here a es fs) js (values_small es fs) e in omega arith

    pub members_nest : (ps : PropertyTrees) (fs : List Frame) (xs : List Member)
        → told p (all (m.members here a ps fs)) ≡ value xs → members_nesting xs ≤ 119
    members_nest ps fs xs e =
        let small = all_small_members (m.members here a ps fs) xs (members_small ps fs) e in omega arith

    pub runs_nest : (body : SourceTree) (fs : List Frame) (xs : Reads Json) (n : ℕ) (js : List Json)
        → told p (all (runs (λ f. m.value here a body (f ∷ fs)) xs 0 n)) ≡ value js → items_nesting js ≤ 119
    runs_nest body fs xs n js e =
        let small = all_small (runs (λ f. m.value here a body (f ∷ fs)) xs 0 n) js (runs_small body fs xs 0 n) e in
        omega arith
