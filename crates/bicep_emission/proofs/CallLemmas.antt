-- Calls of template functions, by what their arguments are alike to.
use Rattle.std.proofs.Common.{◌≡◌, ℕ, List, [], ◌∷◌, Option, Some, None, false, refl, sym, ap, ◌∙◌, subst}
use Rattle.std.specs.Prelude.{◌||◌}
use Rattle.arm_value.specs.Json.{Json}
use Rattle.expression_values.specs.Tree.{Tree, Trees, call}
use Rattle.bicep_meaning.specs.Values.{function_value}
use Rattle.reading.specs.Reading.{done, pure, continued, both}
use Rattle.expression_values.specs.Look as look
use Rattle.expression_values.specs.Look.{Looking, Surroundings}
use Rattle.expression_values.specs.Names.{lazy_named, strict_named}
use Rattle.expression_values.specs.Part.{kept}
use Rattle.expression_values.specs.Held as held
use Rattle.expression_values.specs.Meaning.{value, values}
use Rattle.expression_values.proofs.Equations.{plain_call}
use Rattle.bicep_meaning.specs.Guarded.{Reads}
use Rattle.bicep_meaning.specs.Rows.{all, capped, by_both}
use Rattle.bicep_emission.specs.Alike.{Seen, seen_in, Alike}
use Rattle.bicep_emission.specs.Answered.{Sides}
use Rattle.bicep_emission.specs.Emitted.{one, two}
use Rattle.bicep_emission.proofs.SeenLemmas.{then_seen, both_seen, done_seen, seen-done, seen-continued, seen-both}
use Rattle.bicep_emission.proofs.SeenLemmas.{seen-twice, seen-same}
use Rattle.bicep_emission.proofs.KeptLemmas.{kept_of, kept_again}
use Rattle.bicep_emission.proofs.AlikeLemmas.{alike_done, alike_continued, alike_on, alike_both}

-- the list of what one more is
abbrev pub front_seen : Seen Json → Seen (List Json) → Seen (List Json)
front_seen s t = then_seen (both_seen s t) (λ p. done_seen (Some (p.0 ∷ p.1)))

module _ (x : Sides) where
  -- the same value, and both or neither read a marked cell
  abbrev pub Like : {A : Type 0} → Looking A → Reads A → Type 0
  Like r s = Alike x.template x.template_marks x.source x.source_marks r s

  abbrev pub seen : {A : Type 0} → Reads A → Seen A
  seen r = seen_in x.source x.source_marks r

  pub like_done : {A : Type 0} (o : Option A) → Like (done o) (done o)
  like_done o = alike_done x.template x.template_marks x.source x.source_marks o

  pub like_continued : {A B : Type 0} (r : Looking A) (s : Reads A) (f : A → Looking B) (g : A → Reads B) → Like r s
      → ((v : A) → Like (f v) (g v)) → Like (continued r f) (continued s g)
  like_continued r s f g h q = alike_continued x.template x.template_marks x.source x.source_marks r s f g h q

  pub like_on : {A B : Type 0} (r : Looking A) (s : Reads A) (f : A → Option B) → Like r s
      → Like (continued r (λ v. done (f v))) (continued s (λ v. done (f v)))
  like_on r s f h = alike_on x.template x.template_marks x.source x.source_marks r s f h

  pub like_both : {A B : Type 0} (r : Looking A) (s : Reads A) (t : Looking B) (u : Reads B) → Like r s → Like t u
      → Like (both r t) (both s u)
  like_both r s t u h q = alike_both x.template x.template_marks x.source x.source_marks r s t u h q

  pub like_capped : (r : Looking Json) (s : Reads Json) → Like r s → Like (held.capped r) (capped s)
  unfolding held.capped capped
  like_capped r s h = like_on r s kept h

  -- ---- lists

  abbrev pub AllLike : {A : Type 0} → List (Looking A) → List (Reads A) → Type 0
  AllLike [] [] = Unit {0}
  AllLike [] (r ∷ rs) = ⊥
  AllLike (o ∷ os) [] = ⊥
  AllLike (o ∷ os) (r ∷ rs) = Like o r × AllLike os rs

  pub like_all : {A : Type 0} (os : List (Looking A)) (rs : List (Reads A)) → AllLike os rs
      → Like (look.all os) (all rs)
  unfolding look.all all
  like_all [] [] h = like_done (Some [])
  like_all [] (r ∷ rs) h = absurd h
  like_all (o ∷ os) [] h = absurd h
  like_all (o ∷ os) (r ∷ rs) h =
      like_continued (both o (look.all os)) (both r (all rs)) (λ p. pure (p.0 ∷ p.1)) (λ p. pure (p.0 ∷ p.1))
      (like_both o r (look.all os) (all rs) h.0 (like_all os rs h.1)) (λ p. like_done (Some (p.0 ∷ p.1)))

  -- ---- the cap in the program

  -- a cap after what goes on
  pub seen-capped : {A : Type 0} (r : Reads A) (f : A → Reads Json)
      → seen (capped (continued r f)) ≡ seen (continued r (λ v. capped (f v)))
  unfolding capped
  seen-capped r f = seen-twice x.source x.source_marks r f (λ j. done (kept j))

  kept_done : (o : Option Json) → seen (capped (done o)) ≡ (kept_of o, false)
  unfolding capped continued seen_in
  kept_done (Some j) = refl
  kept_done None = refl

  -- of what a function gives
  pub seen-capped-on : {A : Type 0} (r : Reads A) (f : A → Option Json)
      → seen (capped (continued r (λ v. done (f v)))) ≡ seen (continued r (λ v. done (kept_of (f v))))
  seen-capped-on r f = seen-capped r (λ v. done (f v))
      ∙ seen-same x.source x.source_marks r (λ v. capped (done (f v))) (λ v. done (kept_of (f v)))
      (λ v. kept_done (f v) ∙ sym (seen-done x.source x.source_marks (kept_of (f v))))

  pub seen-capped-twice : (r : Reads Json) → seen (capped (capped r)) ≡ seen (capped r)
  unfolding capped
  seen-capped-twice r = seen-capped-on r kept
      ∙ seen-same x.source x.source_marks r (λ j. done (kept_of (kept j))) (λ j. done (kept j))
      (λ j. ap (λ o. seen (done o)) (kept_again j))

  -- ---- calls

  -- what goes on with what a function gives, capped
  pub like_capped_on : {A : Type 0} (r : Looking A) (s : Reads A) (g f : A → Option Json) → Like r s
      → ((v : A) → g v ≡ kept_of (f v)) → Like (continued r (λ v. done (g v))) (capped (continued s (λ v. done (f v))))
  like_capped_on r s g f h q =
      like_continued r s (λ v. done (g v)) (λ v. done (kept_of (f v))) h
      (λ v. subst (λ o. Like (done (g v)) (done o)) (q v) (like_done (g v)))
      ∙ sym (seen-capped-on s f)

  -- a function of the values of all its arguments
  pub like_plain : (here : Surroundings) (name : List ℕ) (es : Trees) (rs : List (Reads Json)) → lazy_named name ≡ None
      → strict_named name ≡ None → AllLike (values here es) rs
      → Like (value here (call name es)) (continued (all rs) (λ vs. done (kept_of (function_value name vs))))
  like_plain here name es rs e h q =
      subst (λ r. Like r (continued (all rs) (λ vs. done (kept_of (function_value name vs)))))
      (sym (plain_call here name es e h))
      (like_on (look.all (values here es)) (all rs) (λ vs. kept_of (function_value name vs))
      (like_all (values here es) rs q))

  pub like_call : (here : Surroundings) (name : List ℕ) (es : Trees) (rs : List (Reads Json))
      (f : List Json → Option Json) → lazy_named name ≡ None → strict_named name ≡ None
      → AllLike (values here es) rs → ((vs : List Json) → kept_of (function_value name vs) ≡ kept_of (f vs))
      → Like (value here (call name es)) (capped (continued (all rs) (λ vs. done (f vs))))
  like_call here name es rs f e h q g =
      like_plain here name es rs e h q
      ∙ seen-same x.source x.source_marks (all rs) (λ vs. done (kept_of (function_value name vs))) (λ vs. done
      (kept_of (f vs)))
      (λ vs. ap (λ o. seen (done o)) (g vs))
      ∙ sym (seen-capped-on (all rs) f)

  pub seen-front : (r : Reads Json) (rs : List (Reads Json)) → seen (all (r ∷ rs)) ≡ front_seen (seen r) (seen (all rs))
  unfolding all seen_in
  seen-front r rs = seen-continued x.source x.source_marks (both r (all rs)) (λ p. pure (p.0 ∷ p.1))
      ∙ ap (λ s. then_seen s (λ p. done_seen (Some (p.0 ∷ p.1)))) (seen-both x.source x.source_marks r (all rs))

  pub seen-empty : seen (all {A = Json} []) ≡ done_seen (Some [])
  unfolding all seen_in
  seen-empty = refl

  two_seen : (s t : Seen Json) (f : Json → Json → Option Json) (g : List Json → Option Json)
      → ((a b : Json) → kept_of (g (a ∷ b ∷ [])) ≡ kept_of (f a b))
      → then_seen (front_seen s (front_seen t (done_seen (Some [])))) (λ vs. done_seen (kept_of (g vs)))
      ≡ then_seen (both_seen s t) (λ p. done_seen (kept_of (f p.0 p.1)))
  two_seen (Some a, b) (Some c, d) f g e = ap (λ (o : Option Json). let r : Seen Json = (o, d || b) in r) (e a c)
  two_seen (Some a, b) (None, d) f g e = refl
  two_seen (None, b) (Some c, d) f g e = refl
  two_seen (None, b) (None, d) f g e = refl

  one_seen : (s : Seen Json) (f : Json → Option Json) (g : List Json → Option Json)
      → ((a : Json) → kept_of (g (a ∷ [])) ≡ kept_of (f a))
      → then_seen (front_seen s (done_seen (Some []))) (λ vs. done_seen (kept_of (g vs)))
      ≡ then_seen s (λ a. done_seen (kept_of (f a)))
  one_seen (Some a, b) f g e = ap (λ (o : Option Json). let r : Seen Json = (o, b) in r) (e a)
  one_seen (None, b) f g e = refl

  -- what goes on with a function that is done
  pub seen-on : {A : Type 0} (r : Reads A) (f : A → Option Json)
      → seen (continued r (λ v. done (f v))) ≡ then_seen (seen r) (λ v. done_seen (f v))
  unfolding seen_in
  seen-on r f = seen-continued x.source x.source_marks r (λ v. done (f v))

  -- a function of the value of one argument
  pub like_one : (here : Surroundings) (name : List ℕ) (a : Tree) (r : Reads Json) (f : Json → Option Json)
      → lazy_named name ≡ None → strict_named name ≡ None → ((v : Json)
      → kept_of (function_value name (v ∷ [])) ≡ kept_of (f v))
      → Like (value here a) r → Like (value here (call name (one a))) (capped (continued r (λ v. done (f v))))
  like_one here name a r f e h q i =
      like_plain here name (one a) (r ∷ []) e h (i, tt)
      ∙ seen-on (all (r ∷ [])) (λ vs. kept_of (function_value name vs))
      ∙ ap (λ s. then_seen s (λ vs. done_seen (kept_of (function_value name vs))))
      (seen-front r [] ∙ ap (front_seen (seen r)) seen-empty)
      ∙ one_seen (seen r) f (λ vs. function_value name vs) q
      ∙ sym (seen-on r (λ v. kept_of (f v))) ∙ sym (seen-capped-on r f)

  -- a function of the values of two arguments
  pub like_two : (here : Surroundings) (name : List ℕ) (a b : Tree) (r s : Reads Json) (f : Json → Json → Option Json)
      → lazy_named name ≡ None → strict_named name ≡ None
      → ((v w : Json) → kept_of (function_value name (v ∷ w ∷ [])) ≡ kept_of (f v w))
      → Like (value here a) r → Like (value here b) s → Like (value here (call name (two a b))) (capped (by_both f r s))
  unfolding by_both
  like_two here name a b r s f e h q i j =
      like_plain here name (two a b) (r ∷ s ∷ []) e h (i, (j, tt))
      ∙ seen-on (all (r ∷ s ∷ [])) (λ vs. kept_of (function_value name vs))
      ∙ ap (λ s. then_seen s (λ vs. done_seen (kept_of (function_value name vs))))
      (seen-front r (s ∷ []) ∙ ap (front_seen (seen r)) (seen-front s [] ∙ ap (front_seen (seen s)) seen-empty))
      ∙ two_seen (seen r) (seen s) f (λ vs. function_value name vs) q
      ∙ ap (λ t. then_seen t (λ p. done_seen (kept_of (f p.0 p.1)))) (sym (seen-both x.source x.source_marks r s))
      ∙ sym (seen-on (both r s) (λ p. kept_of (f p.0 p.1))) ∙ sym (seen-capped-on (both r s) (λ p. f p.0 p.1))
