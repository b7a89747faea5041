-- Accesses to parts of plain values: what an emitted expression gives to an access is its value.
use Rattle.std.proofs.Common.{◌≡◌, ℕ, List, Option, Some, None, Bool, true, false, refl, sym, ap, ap₂, ◌∙◌, subst}
use Rattle.std.specs.Prelude.{◌||◌}
use Rattle.arm_value.specs.Json.{Json, text}
use Rattle.expression_values.specs.Tree.{Tree, Trees, call, member, index}
use Rattle.bicep_meaning.specs.Values.{function_value}
use Rattle.reading.specs.Reading.{done, ask, pure, none, continued, both}
use Rattle.expression_values.specs.Look as look
use Rattle.expression_values.specs.Look.{Look, Fact, Looking, Surroundings}
use Rattle.expression_values.specs.Names.{lazy_named, strict_named}
use Rattle.expression_values.specs.Lazy.{Lazy}
use Rattle.expression_values.specs.Part.{kept, part_of}
use Rattle.expression_values.specs.Held.{Held, plain, capped, held_value, forced, access, access_by}
use Rattle.expression_values.specs.Row.{lazy_row}
use Rattle.expression_values.specs.Meaning.{held, value, values, used, outcome, indexed, called, call_by, strict_call}
use Rattle.expression_values.proofs.Equations.{by_member, by_index, capped_twice}
use Rattle.bicep_emission.specs.Alike.{Seen, after, seen_in}
use Rattle.bicep_emission.proofs.SeenLemmas.{then_seen, both_seen, done_seen, then-then, then-same, seen-continued}
use Rattle.bicep_emission.proofs.SeenLemmas.{seen-both}
use Rattle.bicep_emission.proofs.KeptLemmas.{kept_of}

-- a value as an access sees it
abbrev pub plainly : Seen Json → Seen Held
plainly s = then_seen s (λ j. done_seen (Some (plain j)))

module _ (w : Look → Option Fact) (m : Look → Bool) where
  abbrev seen : {A : Type 0} → Looking A → Seen A
  seen r = seen_in w m r

  -- what is held is the value of what is used
  abbrev pub IsPlain : Looking Held → Type 0
  IsPlain r = seen r ≡ plainly (seen (used r))

  -- ---- the cap

  pub keep_done : (o : Option Json) → seen (capped (done o)) ≡ done_seen (kept_of o)
  unfolding capped continued seen_in
  keep_done (Some j) = refl
  keep_done None = refl

  capped_seen : (r : Looking Json) → seen (capped r) ≡ then_seen (seen r) (λ j. done_seen (kept j))
  unfolding capped seen_in
  capped_seen r = seen-continued w m r (λ j. done (kept j))

  pub held_seen : (r : Looking Json) → seen (held_value r) ≡ plainly (seen (capped r))
  unfolding held_value seen_in
  held_seen r = seen-continued w m (capped r) (λ j. pure (plain j))

  plain_forced : (j : Json) → seen (forced (plain j)) ≡ done_seen (Some j)
  unfolding seen_in
  plain_forced j = refl

  then_done : {A : Type 0} (s : Seen A) → then_seen s (λ v. done_seen (Some v)) ≡ s
  then_done (Some v, true) = refl
  then_done (Some v, false) = refl
  then_done (None, b) = refl

  after_false : {A : Type 0} (o : Option A) → after false (done_seen o) ≡ done_seen o
  after_false o = refl

  pub used_seen : (r : Looking Held) → seen (used r)
      ≡ then_seen (then_seen (seen r) (λ h. seen (forced h))) (λ j. done_seen (kept j))
  unfolding used
  used_seen r = capped_seen (continued r forced)
      ∙ ap (λ s. then_seen s (λ j. done_seen (kept j))) (seen-continued w m r forced)

  pub used_held : (r : Looking Json) → seen (used (held_value r)) ≡ seen (capped r)
  used_held r = used_seen (held_value r)
      ∙ ap (λ s. then_seen (then_seen s (λ h. seen (forced h))) (λ j. done_seen (kept j))) (held_seen r)
      ∙ ap (λ s. then_seen s (λ j. done_seen (kept j)))
      (then-then (seen (capped r)) (λ j. done_seen (Some (plain j))) (λ h. seen (forced h))
      ∙ then-same (seen (capped r)) (λ j. then_seen (done_seen (Some (plain j))) (λ h. seen (forced h)))
      (λ j. done_seen (Some j)) (λ j. ap (after false) (plain_forced j)) ∙ then_done (seen (capped r)))
      ∙ sym (capped_seen (capped r)) ∙ ap seen (capped_twice r)

  pub used_continued : {A : Type 0} (r : Looking A) (f : A → Looking Held)
      → seen (used (continued r f)) ≡ then_seen (seen r) (λ v. seen (used (f v)))
  used_continued r f = used_seen (continued r f)
      ∙ ap (λ s. then_seen (then_seen s (λ h. seen (forced h))) (λ j. done_seen (kept j))) (seen-continued w m r f)
      ∙ ap (λ s. then_seen s (λ j. done_seen (kept j))) (then-then (seen r) (λ v. seen (f v)) (λ h. seen (forced h)))
      ∙ then-then (seen r) (λ v. then_seen (seen (f v)) (λ h. seen (forced h))) (λ j. done_seen (kept j))
      ∙ then-same (seen r) (λ v. then_seen (then_seen (seen (f v)) (λ h. seen (forced h))) (λ j. done_seen (kept j)))
      (λ v. seen (used (f v))) (λ v. sym (used_seen (f v)))

  -- ---- what is plain

  pub plain_value : (r : Looking Json) → IsPlain (held_value r)
  plain_value r = held_seen r ∙ ap plainly (sym (used_held r))

  pub plain_continued : {A : Type 0} (r : Looking A) (f : A → Looking Held) → ((v : A) → IsPlain (f v))
      → IsPlain (continued r f)
  plain_continued r f h = seen-continued w m r f
      ∙ then-same (seen r) (λ v. seen (f v)) (λ v. plainly (seen (used (f v)))) h
      ∙ sym (then-then (seen r) (λ v. seen (used (f v))) (λ j. done_seen (Some (plain j))))
      ∙ ap plainly (sym (used_continued r f))

  module _ (here : Surroundings) where
    -- a function of the values of all its arguments that needs nothing else
    pub plain_function : (name : List ℕ) (es : Trees) → lazy_named name ≡ None → strict_named name ≡ None
        → IsPlain (held here (call name es))
    unfolding called
    plain_function name es e h =
        subst (λ l. IsPlain (call_by here name l (values here es))) (sym e)
        (subst (λ s. IsPlain (continued (look.all (values here es)) (strict_call here name s))) (sym h)
        (plain_continued (look.all (values here es)) (strict_call here name None)
        (λ vs. plain_value (done (function_value name vs)))))

    pub plain_lazy : (name : List ℕ) (es : Trees) (f : Lazy) → lazy_named name ≡ Some f
        → IsPlain (held here (call name es))
    unfolding called
    plain_lazy name es f e =
        subst (λ l. IsPlain (call_by here name l (values here es))) (sym e) (plain_value (lazy_row f (values here es)))

    -- ---- parts

    part_used : (j i : Json) → seen (used (access (plain j) i)) ≡ done_seen (kept_of (part_of j i))
    part_used j i = used_held (done (part_of j i)) ∙ keep_done (part_of j i)

    pub member_seen : (e : Tree) (name : List ℕ) → IsPlain (held here e)
        → seen (value here (member e name)) ≡ then_seen (seen (value here e)) (λ j. done_seen (kept_of (part_of j
        (text name))))
    member_seen e name p =
        ap seen (by_member here e name)
        ∙ seen-continued w m (held here e) (λ h. used (access h (text name)))
        ∙ ap (λ s. then_seen s (λ h. seen (used (access h (text name))))) p
        ∙ then-then (seen (value here e)) (λ j. done_seen (Some (plain j))) (λ h. seen (used (access h (text name))))
        ∙ then-same (seen (value here e)) (λ j. then_seen (done_seen (Some (plain j))) (λ h. seen (used (access h
        (text name)))))
        (λ j. done_seen (kept_of (part_of j (text name)))) (λ j. ap (after false) (part_used j (text name)))

    pub plain_member : (e : Tree) (name : List ℕ) → IsPlain (held here e) → IsPlain (held here (member e name))
    plain_member e name p =
        seen-continued w m (held here e) (λ h. access h (text name))
        ∙ ap (λ s. then_seen s (λ h. seen (access h (text name)))) p
        ∙ then-then (seen (value here e)) (λ j. done_seen (Some (plain j))) (λ h. seen (access h (text name)))
        ∙ then-same (seen (value here e)) (λ j. then_seen (done_seen (Some (plain j))) (λ h. seen (access h
        (text name))))
        (λ j. plainly (done_seen (kept_of (part_of j (text name)))))
        (λ j. ap (after false) (held_seen (done (part_of j (text name)))
        ∙ ap plainly (keep_done (part_of j (text name))))
        ∙ after_plainly (kept_of (part_of j (text name))))
        ∙ sym (then-then (seen (value here e)) (λ j. done_seen (kept_of (part_of j (text name)))) (λ j. done_seen
        (Some (plain j))))
        ∙ ap plainly (sym (member_seen e name p))
      where
        after_plainly : (o : Option Json) → after false (plainly (done_seen o)) ≡ plainly (done_seen o)
        after_plainly (Some j) = refl
        after_plainly None = refl

    -- ---- items

    abbrev outcome_seen : {A : Type 0} → Seen A → Seen (Option A)
    outcome_seen s = (Some s.0, s.1)

    seen-outcome : {A : Type 0} (r : Looking A) → seen (outcome r) ≡ outcome_seen (seen r)
    unfolding outcome seen_in
    seen-outcome (done o) = refl
    seen-outcome (ask c k) = ap (after (m c)) (seen-outcome (k (w c)))

    none_used : seen (used none) ≡ done_seen None
    unfolding used capped continued seen_in
    none_used = refl

    without_index : (j : Json) → seen (used (access_by (plain j) None)) ≡ done_seen None
    unfolding used capped continued seen_in
    without_index j = refl

    abbrev part_seen : Seen Json → Seen Json → Seen Json
    part_seen s t = then_seen (both_seen s t) (λ p. done_seen (kept_of (part_of p.0 p.1)))

    index_by : (s t : Seen Json)
        → then_seen (both_seen (outcome_seen (plainly s)) (outcome_seen t)) (λ p. seen (used (indexed p.0 p.1)))
        ≡ part_seen s t
    index_by (Some j, b) (Some i, c) = ap (after (c || b)) (part_used j i)
    index_by (Some j, b) (None, c) = ap (after (c || b)) (without_index j)
    index_by (None, b) (Some i, c) = ap (after (c || b)) none_used
    index_by (None, b) (None, c) = ap (after (c || b)) none_used

    pub index_seen : (e i : Tree) → IsPlain (held here e)
        → seen (value here (index e i)) ≡ part_seen (seen (value here e)) (seen (value here i))
    index_seen e i p =
        ap seen (by_index here e i)
        ∙ seen-continued w m (both (outcome (held here e)) (outcome (value here i))) (λ p. used (indexed p.0 p.1))
        ∙ ap (λ s. then_seen s (λ p. seen (used (indexed p.0 p.1))))
        (seen-both w m (outcome (held here e)) (outcome (value here i))
        ∙ ap₂ both_seen (seen-outcome (held here e) ∙ ap outcome_seen p) (seen-outcome (value here i)))
        ∙ index_by (seen (value here e)) (seen (value here i))

    none_held : seen (none {A = Held}) ≡ done_seen None
    unfolding seen_in
    none_held = refl

    part_held : (j i : Json) → seen (access (plain j) i) ≡ plainly (done_seen (kept_of (part_of j i)))
    part_held j i = held_seen (done (part_of j i)) ∙ ap plainly (keep_done (part_of j i))

    without_index_held : (j : Json) → seen (access_by (plain j) None) ≡ done_seen None
    unfolding continued seen_in
    without_index_held j = refl

    after_plainly : (b : Bool) (o : Option Json) → after b (plainly (done_seen o)) ≡ plainly (after b (done_seen o))
    after_plainly b (Some j) = refl
    after_plainly b None = refl

    held_by : (s t : Seen Json)
        → then_seen (both_seen (outcome_seen (plainly s)) (outcome_seen t)) (λ p. seen (indexed p.0 p.1))
        ≡ plainly (part_seen s t)
    held_by (Some j, b) (Some i, c) = ap (after (c || b)) (part_held j i)
        ∙ after_plainly (c || b) (kept_of (part_of j i))
    held_by (Some j, b) (None, c) = ap (after (c || b)) (without_index_held j)
    held_by (None, b) (Some i, c) = ap (after (c || b)) none_held
    held_by (None, b) (None, c) = ap (after (c || b)) none_held

    pub plain_index : (e i : Tree) → IsPlain (held here e) → IsPlain (held here (index e i))
    plain_index e i p =
        seen-continued w m (both (outcome (held here e)) (outcome (value here i))) (λ p. indexed p.0 p.1)
        ∙ ap (λ s. then_seen s (λ p. seen (indexed p.0 p.1)))
        (seen-both w m (outcome (held here e)) (outcome (value here i))
        ∙ ap₂ both_seen (seen-outcome (held here e) ∙ ap outcome_seen p) (seen-outcome (value here i)))
        ∙ held_by (seen (value here e)) (seen (value here i))
        ∙ ap plainly (sym (index_seen e i p))
