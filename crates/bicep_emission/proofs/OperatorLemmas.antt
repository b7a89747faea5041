-- Operators and accesses.
use Rattle.std.proofs.Common.{◌≡◌, List, [], ◌∷◌, Option, Some, None, Bool, true, false, codes, refl, sym, ap, ap₂}
use Rattle.std.proofs.Common.{◌∙◌, subst}
use Rattle.std.specs.Prelude.{◌||◌, option_map, option_and_then, if◌then◌else◌}
use Rattle.arm_value.specs.Json.{Json, null, bool, int, text, array, object}
use Rattle.expression_values.specs.Tree.{Tree, call}
use Rattle.expression_values.specs.Kinds.{truth_of}
use Rattle.expression_values.specs.Logic as logic
use Rattle.bicep_meaning.specs.Letters.{to_lower}
use Rattle.reading.specs.Reading.{done, pure, none, continued, both, joined}
use Rattle.expression_values.specs.Look.{Looking, Surroundings}
use Rattle.expression_values.specs.Names.{lazy_named}
use Rattle.expression_values.specs.Lazy.TheVariants as lazy
use Rattle.expression_values.specs.Part.{kept}
use Rattle.expression_values.specs.Row as row
use Rattle.expression_values.specs.Meaning.{value}
use Rattle.expression_values.proofs.Equations.{lazy_call, choice}
use Rattle.bicep_meaning.specs.Guarded.{Reads}
use Rattle.bicep_meaning.specs.Rows as rows
use Rattle.bicep_meaning.specs.Rows.{all, capped, by_both, operator_value, conditional_value, and_value, or_value, coalesce_value, truth, operated, chosen, or_if_null, same_folded, opposite, prefix_value, literal_value}
use Rattle.bicep_emission.specs.Alike.{Seen, seen_in}
use Rattle.bicep_emission.specs.Answered.{Sides}
use Rattle.bicep_emission.specs.Emitted.{two, three}
use Rattle.bicep_emission.proofs.SeenLemmas.{then_seen, both_seen, done_seen, then-then, then-same, seen-continued}
use Rattle.bicep_emission.proofs.SeenLemmas.{seen-both, seen-same}
use Rattle.bicep_emission.proofs.KeptLemmas.{kept_of}
use Rattle.bicep_emission.proofs.CallLemmas.{Like, AllLike, seen, like_done, like_continued, like_capped}
use Rattle.bicep_emission.proofs.CallLemmas.{seen-on, seen-capped, seen-capped-on}

-- ---- what is done at once

done_then : (o : Option Json) (g : Json → Option Json)
    → then_seen (done_seen o) (λ v. done_seen (kept_of (g v))) ≡ done_seen (kept_of (option_and_then g o))
done_then (Some v) g = refl
done_then None g = refl

joined_left : {A B : Type 0} (p : Option B) → joined {A = A} None p ≡ None
joined_left (Some y) = refl
joined_left None = refl

joined_right : {A B : Type 0} (o : Option A) → joined {B = B} o None ≡ None
joined_right (Some y) = refl
joined_right None = refl

abbrev pub lower : Json → Option Json
lower v = to_lower (v ∷ [])

abbrev pub equal : Json → Json → Option Json
equal v w = logic.equals (v ∷ w ∷ [])

abbrev lowered : Json → Json → Option Json
lowered v w = option_and_then (λ p. kept_of (equal p.0 p.1)) (joined (kept_of (lower v)) (kept_of (lower w)))

left_none : (v w : Json) → kept_of (lower v) ≡ None → same_folded v w ≡ None → lowered v w ≡ kept_of (same_folded v w)
left_none v w e h = ap (λ o. option_and_then (λ p. kept_of (equal p.0 p.1)) (joined o (kept_of (lower w)))) e
    ∙ ap (λ o. option_and_then (λ p. kept_of (equal p.0 p.1)) o) (joined_left (kept_of (lower w)))
    ∙ sym (ap kept_of h)

right_none : (v w : Json) → kept_of (lower w) ≡ None → same_folded v w ≡ None → lowered v w ≡ kept_of (same_folded v w)
right_none v w e h = ap (λ o. option_and_then (λ p. kept_of (equal p.0 p.1)) (joined (kept_of (lower v)) o)) e
    ∙ ap (λ o. option_and_then (λ p. kept_of (equal p.0 p.1)) o) (joined_right (kept_of (lower v)))
    ∙ sym (ap kept_of h)

-- equality of texts in small letters is equality whatever their case
lowered_same : (v w : Json) → lowered v w ≡ kept_of (same_folded v w)
lowered_same (text s) (text t) = refl
lowered_same (text s) null = right_none (text s) null refl refl
lowered_same (text s) (bool b) = right_none (text s) (bool b) refl refl
lowered_same (text s) (int z) = right_none (text s) (int z) refl refl
lowered_same (text s) (array js) = right_none (text s) (array js) refl refl
lowered_same (text s) (object ms) = right_none (text s) (object ms) refl refl
lowered_same null w = left_none null w refl refl
lowered_same (bool b) w = left_none (bool b) w refl refl
lowered_same (int z) w = left_none (int z) w refl refl
lowered_same (array js) w = left_none (array js) w refl refl
lowered_same (object ms) w = left_none (object ms) w refl refl

-- the value in small letters
abbrev pub lowered_of : Reads Json → Reads Json
lowered_of r = capped (continued r (λ v. done (lower v)))

pair_seen : {A : Type 0} (o : Option A) (m : Bool) (f : A → Option Json)
    → then_seen (let s : Seen A = (o, m) in s) (λ p. done_seen (f p)) ≡ (option_and_then f o, m)
pair_seen (Some p) m f = refl
pair_seen None m f = refl

abbrev small_seen : Seen Json → Seen Json
small_seen s = then_seen s (λ v. done_seen (kept_of (lower v)))

both_small : (s t : Seen Json)
    → then_seen (both_seen (small_seen s) (small_seen t)) (λ p. done_seen (kept_of (equal p.0 p.1)))
    ≡ then_seen (both_seen s t) (λ p. done_seen (kept_of (same_folded p.0 p.1)))
both_small (Some v, b) (Some w, c) =
    pair_seen (joined (kept_of (lower v)) (kept_of (lower w))) (c || b) (λ p. kept_of (equal p.0 p.1))
    ∙ ap (λ (o : Option Json). let r : Seen Json = (o, c || b) in r) (lowered_same v w)
both_small (Some v, b) (None, c) =
    ap (λ (o : Option (Json × Json)). then_seen (let r : Seen (Json × Json) = (o, c || b) in r) (λ p. done_seen
    (kept_of (equal p.0 p.1))))
    (joined_right (kept_of (lower v)))
both_small (None, b) (Some w, c) =
    ap (λ (o : Option (Json × Json)). then_seen (let r : Seen (Json × Json) = (o, c || b) in r) (λ p. done_seen
    (kept_of (equal p.0 p.1))))
    (joined_left (kept_of (lower w)))
both_small (None, b) (None, c) = refl

module _ (x : Sides) where
  -- ---- a function after two values

  pub after_two : (f h : Json → Json → Option Json) (g : Json → Option Json) (r s : Reads Json)
      → ((v w : Json) → kept_of (option_and_then g (kept_of (f v w))) ≡ kept_of (h v w))
      → seen x (capped (continued (capped (by_both f r s)) (λ v. done (g v)))) ≡ seen x (capped (by_both h r s))
  unfolding by_both
  after_two f h g r s e =
      seen-capped-on x (capped (by_both f r s)) g
      ∙ seen-on x (capped (by_both f r s)) (λ v. kept_of (g v))
      ∙ ap (λ t. then_seen t (λ v. done_seen (kept_of (g v))))
      (seen-capped-on x (both r s) (λ p. f p.0 p.1) ∙ seen-on x (both r s) (λ p. kept_of (f p.0 p.1)))
      ∙ then-then (seen x (both r s)) (λ p. done_seen (kept_of (f p.0 p.1))) (λ v. done_seen (kept_of (g v)))
      ∙ then-same (seen x (both r s)) (λ p. then_seen (done_seen (kept_of (f p.0 p.1))) (λ v. done_seen (kept_of
      (g v))))
      (λ p. done_seen (kept_of (h p.0 p.1)))
      (λ p. done_then (kept_of (f p.0 p.1)) g ∙ ap (λ (o : Option Json). let r : Seen Json = done_seen o in r)
      (e p.0 p.1))
      ∙ sym (seen-on x (both r s) (λ p. kept_of (h p.0 p.1))) ∙ sym (seen-capped-on x (both r s) (λ p. h p.0 p.1))

  lowered_seen : (r : Reads Json) → seen x (lowered_of r) ≡ small_seen (seen x r)
  lowered_seen r = seen-capped-on x r lower ∙ seen-on x r (λ v. kept_of (lower v))

  pub by_both_seen : (f : Json → Json → Option Json) (r s : Reads Json)
      → seen x (capped (by_both f r s)) ≡ then_seen (both_seen (seen x r) (seen x s)) (λ p. done_seen (kept_of
      (f p.0 p.1)))
  unfolding by_both
  by_both_seen f r s = seen-capped-on x (both r s) (λ p. f p.0 p.1) ∙ seen-on x (both r s) (λ p. kept_of (f p.0 p.1))
      ∙ ap (λ t. then_seen t (λ p. done_seen (kept_of (f p.0 p.1)))) (seen-both x.source x.source_marks r s)

  pub small_two : (r s : Reads Json)
      → seen x (capped (by_both equal (lowered_of r) (lowered_of s))) ≡ seen x (capped (by_both same_folded r s))
  small_two r s = by_both_seen equal (lowered_of r) (lowered_of s)
      ∙ ap₂ (λ s t. then_seen (both_seen s t) (λ p. done_seen (kept_of (equal p.0 p.1)))) (lowered_seen r)
      (lowered_seen s)
      ∙ both_small (seen x r) (seen x s) ∙ sym (by_both_seen same_folded r s)

  capped_none : seen x (capped none) ≡ seen x none
  unfolding capped continued
  capped_none = refl

  -- a choice between readings that are capped
  chosen_capped : (t : Option Bool) (r s : Reads Json) → seen x (capped r) ≡ seen x r → seen x (capped s) ≡ seen x s
      → seen x (capped (chosen t r s)) ≡ seen x (chosen t r s)
  chosen_capped (Some true) r s e h = e
  chosen_capped (Some false) r s e h = h
  chosen_capped None r s e h = capped_none

  chosen_like : (t : Option Bool) (a b : Looking Json) (r s : Reads Json) → Like x a r → Like x b s
      → Like x (row.chosen t a b) (chosen t r s)
  chosen_like (Some true) a b r s i j = i
  chosen_like (Some false) a b r s i j = j
  chosen_like None a b r s i j = like_done x None

  pub like_conditional : (here : Surroundings) (c a b : Tree) (q r s : Reads Json) → seen x (capped r) ≡ seen x r
      → seen x (capped s) ≡ seen x s → Like x (value here c) q → Like x (value here a) r → Like x (value here b) s
      → Like x (value here (call (codes "if") (three c a b))) (capped (conditional_value q r s))
  unfolding lazy_named conditional_value
  like_conditional here c a b q r s e h i j k =
      subst (λ u. Like x u (capped (conditional_value q r s))) (sym (choice here (codes "if") c a b refl))
      (like_continued x (value here c) q (λ v. row.chosen (truth_of v) (value here a) (value here b))
      (λ v. chosen (truth_of v) r s) i
      (λ v. chosen_like (truth_of v) (value here a) (value here b) r s j k)
      ∙ sym (seen-capped x q (λ v. chosen (truth_of v) r s)
      ∙ seen-same x.source x.source_marks q (λ v. capped (chosen (truth_of v) r s)) (λ v. chosen (truth_of v) r s)
      (λ v. chosen_capped (truth_of v) r s e h)))

  -- ---- `&&`, `||` and `??`

  last_true : (t : Option Bool) → Like x (row.unless_false t (pure (bool true))) (done (option_map bool t))
  last_true (Some true) = like_done x (Some (bool true))
  last_true (Some false) = like_done x (Some (bool false))
  last_true None = like_done x None

  last_false : (t : Option Bool) → Like x (row.unless_true t (pure (bool false))) (done (option_map bool t))
  last_false (Some true) = like_done x (Some (bool true))
  last_false (Some false) = like_done x (Some (bool false))
  last_false None = like_done x None

  and_like : (t : Option Bool) (b : Looking Json) (s : Reads Json) → Like x b s
      → Like x (row.unless_false t (row.all_true (b ∷ []))) (chosen t (truth s) (pure (bool false)))
  unfolding truth
  and_like (Some true) b s i = like_continued x b s (λ v. row.unless_false (truth_of v) (pure (bool true)))
      (λ v. done (option_map bool (truth_of v))) i (λ v. last_true (truth_of v))
  and_like (Some false) b s i = like_done x (Some (bool false))
  and_like None b s i = like_done x None

  or_like : (t : Option Bool) (b : Looking Json) (s : Reads Json) → Like x b s
      → Like x (row.unless_true t (row.one_true (b ∷ []))) (chosen t (pure (bool true)) (truth s))
  unfolding truth
  or_like (Some false) b s i = like_continued x b s (λ v. row.unless_true (truth_of v) (pure (bool false)))
      (λ v. done (option_map bool (truth_of v))) i (λ v. last_false (truth_of v))
  or_like (Some true) b s i = like_done x (Some (bool true))
  or_like None b s i = like_done x None

  pub like_and : (here : Surroundings) (a b : Tree) (r s : Reads Json) → Like x (value here a) r
      → Like x (value here b) s
      → Like x (value here (call (codes "and") (two a b))) (capped (and_value r s))
  unfolding lazy_named and_value conditional_value
  like_and here a b r s i j =
      subst (λ u. Like x u (capped (and_value r s))) (sym (lazy_call here (codes "and") (two a b) lazy.And refl))
      (like_capped x (row.all_true (value here a ∷ value here b ∷ [])) (and_value r s)
      (like_continued x (value here a) r (λ v. row.unless_false (truth_of v) (row.all_true (value here b ∷ [])))
      (λ v. chosen (truth_of v) (truth s) (pure (bool false))) i
      (λ v. and_like (truth_of v) (value here b) s j)))

  pub like_or : (here : Surroundings) (a b : Tree) (r s : Reads Json) → Like x (value here a) r
      → Like x (value here b) s
      → Like x (value here (call (codes "or") (two a b))) (capped (or_value r s))
  unfolding lazy_named or_value conditional_value
  like_or here a b r s i j =
      subst (λ u. Like x u (capped (or_value r s))) (sym (lazy_call here (codes "or") (two a b) lazy.Or refl))
      (like_capped x (row.one_true (value here a ∷ value here b ∷ [])) (or_value r s)
      (like_continued x (value here a) r (λ v. row.unless_true (truth_of v) (row.one_true (value here b ∷ [])))
      (λ v. chosen (truth_of v) (pure (bool true)) (truth s)) i
      (λ v. or_like (truth_of v) (value here b) s j)))

  -- the rest of `coalesce` where there is a value
  if_null_like : (v : Json) (a : Looking Json) (r : Reads Json) → Like x a r
      → Like x (if row.is_null v then a else pure v) (or_if_null v r)
  if_null_like null a r i = i
  if_null_like (bool b) a r i = like_done x (Some (bool b))
  if_null_like (int z) a r i = like_done x (Some (int z))
  if_null_like (text t) a r i = like_done x (Some (text t))
  if_null_like (array js) a r i = like_done x (Some (array js))
  if_null_like (object ms) a r i = like_done x (Some (object ms))

  pub first_like : (os : List (Looking Json)) (rs : List (Reads Json)) → AllLike x os rs
      → Like x (row.first_there os) (rows.first_there rs)
  unfolding rows.first_there coalesce_value
  first_like [] [] h = like_done x (Some null)
  first_like [] (r ∷ rs) h = absurd h
  first_like (a ∷ os) [] h = absurd h
  first_like (a ∷ os) (r ∷ rs) h =
      like_continued x a r (λ v. if row.is_null v then row.first_there os else pure v)
      (λ v. or_if_null v (rows.first_there rs)) h.0
      (λ v. if_null_like v (row.first_there os) (rows.first_there rs) (first_like os rs h.1))

  -- a value after which nothing is left
  or_null : (v : Json) → seen x (or_if_null v (pure null)) ≡ done_seen (Some v)
  unfolding seen_in
  or_null null = refl
  or_null (bool b) = refl
  or_null (int z) = refl
  or_null (text t) = refl
  or_null (array js) = refl
  or_null (object ms) = refl

  then_done : {A : Type 0} (s : Seen A) → then_seen s (λ v. done_seen (Some v)) ≡ s
  then_done (Some v, true) = refl
  then_done (Some v, false) = refl
  then_done (None, b) = refl

  last_there : (s : Reads Json) → seen x (coalesce_value s (pure null)) ≡ seen x s
  unfolding coalesce_value
  last_there s = seen-continued x.source x.source_marks s (λ v. or_if_null v (pure null))
      ∙ then-same (seen x s) (λ v. seen x (or_if_null v (pure null))) (λ v. done_seen (Some v)) or_null
      ∙ then_done (seen x s)

  or_if_null_same : (v : Json) (r s : Reads Json) → seen x r ≡ seen x s
      → seen x (or_if_null v r) ≡ seen x (or_if_null v s)
  or_if_null_same null r s e = e
  or_if_null_same (bool b) r s e = refl
  or_if_null_same (int z) r s e = refl
  or_if_null_same (text t) r s e = refl
  or_if_null_same (array js) r s e = refl
  or_if_null_same (object ms) r s e = refl

  two_there : (r s : Reads Json) → seen x (rows.first_there (r ∷ s ∷ [])) ≡ seen x (coalesce_value r s)
  unfolding rows.first_there coalesce_value
  two_there r s = seen-same x.source x.source_marks r (λ v. or_if_null v (coalesce_value s (pure null)))
      (λ v. or_if_null v s)
      (λ v. or_if_null_same v (coalesce_value s (pure null)) s (last_there s))

  capped_same : (r s : Reads Json) → seen x r ≡ seen x s → seen x (capped r) ≡ seen x (capped s)
  unfolding capped
  capped_same r s e = seen-continued x.source x.source_marks r (λ j. done (kept j))
      ∙ ap (λ t. then_seen t (λ j. seen x (done (kept j)))) e
      ∙ sym (seen-continued x.source x.source_marks s (λ j. done (kept j)))

  pub like_coalesce : (here : Surroundings) (a b : Tree) (r s : Reads Json) → Like x (value here a) r
      → Like x (value here b) s → Like x (value here (call (codes "coalesce") (two a b))) (capped (coalesce_value r s))
  unfolding lazy_named
  like_coalesce here a b r s i j =
      subst (λ u. Like x u (capped (rows.first_there (r ∷ s ∷ []))))
      (sym (lazy_call here (codes "coalesce") (two a b) lazy.Coalesce refl))
      (like_capped x (row.first_there (value here a ∷ value here b ∷ [])) (rows.first_there (r ∷ s ∷ []))
      (first_like (value here a ∷ value here b ∷ []) (r ∷ s ∷ []) (i, (j, tt))))
      ∙ capped_same (rows.first_there (r ∷ s ∷ [])) (coalesce_value r s) (two_there r s)
