-- Arrays, objects, texts with holes, and calls of functions.
use Rattle.std.proofs.Common.{◌≡◌, ◌≤◌, ◌+◌, ◌^◌, ℕ, suc, length, nat_le, List, [], ◌∷◌, ◌++◌, Option, Some, None}
use Rattle.std.proofs.Common.{Bool, true, false, true≢false, codes, refl, sym, ap, ap₂, ◌∙◌, subst, arith}
use Rattle.std.specs.Prelude.{◌||◌, option_map, option_and_then, if◌then◌else◌}
use Rattle.std.proofs.lemmas.Option.{none-some}
use Rattle.foundation.proofs.TruthValues.{or_false}
use Rattle.foundation.proofs.Comparisons.{le_true, le_of_true}
use Rattle.arm_value.specs.Json.{Json, text, array, object, row, pairs, put_each, nesting, Member}
use Rattle.expression_values.specs.Tree.{Trees, call, more}
use Rattle.expression_values.specs.Tree as tree
use Rattle.bicep_meaning.specs.Table.{table, row_in}
use Rattle.bicep_meaning.specs.Values.{function_value, value_of, of_lists, of_prints}
use Rattle.function_lists.specs.Items.{create_array}
use Rattle.function_lists.specs.Members.{create_object, paired}
use Rattle.function_lists.specs.Values as lists
use Rattle.bicep_meaning.specs.Format.{format}
use Rattle.bicep_meaning.specs.Printed.{printed}
use Rattle.reading.specs.Reading.{pure, continued, both as both_read}
use Rattle.expression_values.specs.Look.{Surroundings}
use Rattle.expression_values.specs.Names.{lazy_named, strict_named, placed_named}
use Rattle.expression_values.specs.Object.{object_of}
use Rattle.expression_values.specs.Part.{kept}
use Rattle.expression_values.specs.Meaning.{value, values}
use Rattle.expression_values.proofs.Equations.{texts}
use Rattle.bicep_meaning.specs.Guarded.{Reads}
use Rattle.bicep_resolved.specs.Source.{SourceTree, PieceTrees}
use Rattle.bicep_resolved.specs.Source as s
use Rattle.bicep_meaning.specs.Rows.{all, capped, array_of}
use Rattle.bicep_meaning.specs.Meaning.{printed_before, member_of}
use Rattle.bicep_meaning.specs.Meaning as meaning
use Rattle.bicep_emission.specs.Alike.{Seen, seen_in}
use Rattle.bicep_emission.specs.Answered.{Sides}
use Rattle.bicep_emission.specs.Texts.{format_text}
use Rattle.bicep_emission.specs.Emittable.{count}
use Rattle.bicep_emission.proofs.SeenLemmas.{then_seen, both_seen, done_seen, then-then, then-same, then-at}
use Rattle.bicep_emission.proofs.SeenLemmas.{seen-continued, seen-both}
use Rattle.bicep_emission.proofs.KeptLemmas.{kept_of}
use Rattle.bicep_emission.proofs.FormatLemmas.{afters, AreFor, format_filled}
use Rattle.bicep_emission.proofs.CallLemmas.{Like, AllLike, seen, front_seen, seen-front, seen-empty, seen-on}
use Rattle.bicep_emission.proofs.CallLemmas.{seen-capped-on, like_done, like_plain, like_call}

-- ---- values that functions make nest at most 120

kept_within : (a b : Bool) (j : Json) → nat_le (nesting j) 100 ≡ a → (a ≡ true → b ≡ true)
    → kept_of (if b then Some j else None) ≡ kept j
kept_within a true j e h = refl
kept_within true false j e h = absurd (true≢false (sym (h refl)))
kept_within false false j e h = ap (λ b. if b then Some j else None) (sym e)

kept_capped : (j : Json) → kept_of (lists.capped j) ≡ kept j
kept_capped j = kept_within (nat_le (nesting j) 100) (nat_le (nesting j) 120) j refl
    (λ e. le_true (nesting j) 120 (further (le_of_true (nesting j) 100 e)))
  where
    further : nesting j ≤ 100 → nesting j ≤ 120
    further h = omega arith

-- ---- arrays

-- a function that takes any number of arguments, or one at least
any_number : (n : ℕ) → nat_le 0 n ≡ true
any_number n = le_true 0 n (omega arith)

array_made : (vs : List Json) → kept_of (function_value (codes "createArray") vs) ≡ kept_of (Some (array_of vs))
unfolding table row_in value_of of_lists lists.array_of
array_made vs =
    ap (λ b. kept_of (if b then create_array vs else None)) (any_number (length vs)) ∙ kept_capped (array (row vs))

-- ---- objects

-- names and values by turns
abbrev by_turns : List Member → List Json
by_turns [] = []
by_turns (m ∷ ms) = text m.0 ∷ m.1 ∷ by_turns ms

paired_again : (ms : List Member) → paired (by_turns ms) ≡ Some ms
unfolding paired
paired_again [] = refl
paired_again (m ∷ ms) = ap (λ o. option_map (λ ms. (m.0, m.1) ∷ ms) o) (paired_again ms)

object_made : (ms : List Member)
    → kept_of (function_value (codes "createObject") (by_turns ms)) ≡ kept_of (Some (object_of ms))
unfolding table row_in value_of of_lists lists.object_of
object_made ms =
    ap (λ b. kept_of (if b then create_object (by_turns ms) else None)) (any_number (length (by_turns ms)))
    ∙ ap (λ o. kept_of (option_and_then lists.object_of o)) (paired_again ms)
    ∙ kept_capped (object (pairs (put_each [] ms)))

module _ (x : Sides) where
  -- readings of members: names, and readings of values
  abbrev pub named_readings : List (List ℕ × Reads Json) → List (Reads Json)
  named_readings [] = []
  named_readings (m ∷ ms) = pure (text m.0) ∷ m.1 ∷ named_readings ms

  abbrev pub member_readings : List (List ℕ × Reads Json) → List (Reads Member)
  member_readings [] = []
  member_readings (m ∷ ms) = member_of m.0 m.1 ∷ member_readings ms

  pure_seen : {A : Type 0} (v : A) → seen x (pure v) ≡ done_seen (Some v)
  unfolding seen_in
  pure_seen v = refl

  abbrev turned : Seen (List Member) → Seen (List Json)
  turned s = then_seen s (λ ms. done_seen (Some (by_turns ms)))

  abbrev with_mark : List Json → Bool → Seen (List Json)
  with_mark vs b = (Some vs, b)

  turn_seen : (name : List ℕ) (s : Seen Json) (t : Seen (List Member))
      → front_seen (done_seen (Some (text name))) (front_seen s (turned t))
      ≡ turned (then_seen (both_seen (then_seen s (λ j. done_seen (Some (name, j)))) t) (λ p. done_seen (Some (p.0
      ∷ p.1))))
  turn_seen name (Some j, b) (Some ms, c) = ap (with_mark (text name ∷ j ∷ by_turns ms)) (or_false (c || b))
  turn_seen name (Some j, b) (None, c) = ap (λ (m : Bool). let r : Seen (List Json) = (None, m) in r) (or_false
      (c || b))
  turn_seen name (None, b) (Some ms, c) = ap (λ (m : Bool). let r : Seen (List Json) = (None, m) in r) (or_false
      (c || b))
  turn_seen name (None, b) (None, c) = ap (λ (m : Bool). let r : Seen (List Json) = (None, m) in r) (or_false (c || b))

  seen-members : (ms : List (List ℕ × Reads Json))
      → seen x (all (named_readings ms)) ≡ turned (seen x (all (member_readings ms)))
  unfolding all seen_in
  seen-members [] = refl
  seen-members (m ∷ ms) =
      seen-front x (pure (text m.0)) (m.1 ∷ named_readings ms)
      ∙ ap₂ front_seen (pure_seen (text m.0))
      (seen-front x m.1 (named_readings ms) ∙ ap (front_seen (seen x m.1)) (seen-members ms))
      ∙ turn_seen m.0 (seen x m.1) (seen x (all (member_readings ms)))
      ∙ ap turned (sym (seen-continued x.source x.source_marks (both_read (member_of m.0 m.1) (all
      (member_readings ms)))
      (λ p. pure (p.0 ∷ p.1))
      ∙ ap (λ t. then_seen t (λ p. done_seen (Some (p.0 ∷ p.1))))
      (seen-both x.source x.source_marks (member_of m.0 m.1) (all (member_readings ms))
      ∙ ap (λ t. both_seen t (seen x (all (member_readings ms))))
      (seen-continued x.source x.source_marks m.1 (λ j. pure (m.0, j))))))

  pub like_object : (here : Surroundings) (es : Trees) (ms : List (List ℕ × Reads Json))
      → AllLike x (values here es) (named_readings ms)
      → Like x (value here (call (codes "createObject") es)) (capped (continued (all (member_readings ms))
      (λ ms. pure (object_of ms))))
  unfolding lazy_named strict_named placed_named
  like_object here es ms h =
      like_plain x here (codes "createObject") es (named_readings ms) refl refl h
      ∙ seen-on x (all (named_readings ms)) (λ vs. kept_of (function_value (codes "createObject") vs))
      ∙ ap (λ s. then_seen s (λ vs. done_seen (kept_of (function_value (codes "createObject") vs)))) (seen-members ms)
      ∙ then-then (seen x (all (member_readings ms))) (λ ms. done_seen (Some (by_turns ms)))
      (λ vs. done_seen (kept_of (function_value (codes "createObject") vs)))
      ∙ then-same (seen x (all (member_readings ms)))
      (λ ms. then_seen (done_seen (Some (by_turns ms))) (λ vs. done_seen (kept_of (function_value
      (codes "createObject") vs))))
      (λ ms. done_seen (kept_of (Some (object_of ms))))
      (λ ms. ap (λ (o : Option Json). let r : Seen Json = done_seen o in r) (object_made ms))
      ∙ sym (seen-on x (all (member_readings ms)) (λ ms. kept_of (Some (object_of ms))))
      ∙ sym (seen-capped-on x (all (member_readings ms)) (λ ms. Some (object_of ms)))

  pub like_array : (here : Surroundings) (es : Trees) (rs : List (Reads Json)) → AllLike x (values here es) rs
      → Like x (value here (call (codes "createArray") es)) (capped (continued (all rs) (λ vs. pure (array_of vs))))
  unfolding lazy_named strict_named placed_named
  like_array here es rs h =
      like_call x here (codes "createArray") es rs (λ vs. Some (array_of vs)) refl refl h array_made

  -- ---- texts with holes

  -- the readings of holes
  abbrev pub after_readings : PieceTrees → List (Reads Json) → List (Reads (List ℕ))
  after_readings s.no_piece rs = []
  after_readings (s.piece e after ps) [] = []
  after_readings (s.piece e after ps) (r ∷ rs) = printed_before after r ∷ after_readings ps rs

  abbrev pub AreReadings : PieceTrees → List (Reads Json) → Type 0
  AreReadings s.no_piece [] = Unit {0}
  AreReadings s.no_piece (r ∷ rs) = ⊥
  AreReadings (s.piece e after ps) [] = ⊥
  AreReadings (s.piece e after ps) (r ∷ rs) = AreReadings ps rs

  abbrev printed_seen : PieceTrees → Seen (List Json) → Seen (List (List ℕ))
  printed_seen ps u = then_seen u (λ js. done_seen (Some (afters ps js)))

  piece_seen : (e : SourceTree) (after : List ℕ) (ps : PieceTrees) (u : Seen Json) (t : Seen (List Json))
      → printed_seen (s.piece e after ps) (front_seen u t)
      ≡ then_seen (both_seen (then_seen u (λ j. done_seen (Some (printed j ++ after)))) (printed_seen ps t))
      (λ p. done_seen (Some (p.0 ∷ p.1)))
  piece_seen e after ps (Some j, b) (Some js, c) = refl
  piece_seen e after ps (Some j, b) (None, c) = refl
  piece_seen e after ps (None, b) (Some js, c) = refl
  piece_seen e after ps (None, b) (None, c) = refl

  seen-pieces : (ps : PieceTrees) (rs : List (Reads Json)) → AreReadings ps rs
      → seen x (all (after_readings ps rs)) ≡ printed_seen ps (seen x (all rs))
  unfolding all seen_in
  seen-pieces s.no_piece [] h = refl
  seen-pieces s.no_piece (r ∷ rs) h = absurd h
  seen-pieces (s.piece e after ps) [] h = absurd h
  seen-pieces (s.piece e after ps) (r ∷ rs) h =
      seen-continued x.source x.source_marks (both_read (printed_before after r) (all (after_readings ps rs)))
      (λ p. pure (p.0 ∷ p.1))
      ∙ ap (λ t. then_seen t (λ p. done_seen (Some (p.0 ∷ p.1))))
      (seen-both x.source x.source_marks (printed_before after r) (all (after_readings ps rs))
      ∙ ap₂ both_seen (seen-continued x.source x.source_marks r (λ j. pure (printed j ++ after))) (seen-pieces ps rs h))
      ∙ sym (piece_seen e after ps (seen x r) (seen x (all rs)))
      ∙ ap (printed_seen (s.piece e after ps)) (sym (seen-front x r rs))

  -- as many values as readings
  front_is : (u : Seen Json) (t : Seen (List Json)) (js : List Json) → (front_seen u t).0 ≡ Some js
      → (j : Json) × ((ks : List Json) × ((t.0 ≡ Some ks) × (j ∷ ks ≡ js)))
  front_is (Some j, b) (Some ks, c) js e = (j, (ks, (refl, cc)))
  front_is (Some j, b) (None, c) js e = absurd (none-some js e)
  front_is (None, b) (Some ks, c) js e = absurd (none-some js e)
  front_is (None, b) (None, c) js e = absurd (none-some js e)

  all_for : (ps : PieceTrees) (rs : List (Reads Json)) (js : List Json) → AreReadings ps rs
      → (seen x (all rs)).0 ≡ Some js → AreFor ps js
  all_for s.no_piece [] js h e = subst (AreFor s.no_piece) (some_is e) tt
    where
      some_is : (seen x (all [])).0 ≡ Some js → [] ≡ js
      some_is e = some_same (ap (λ u. u.0) (sym (seen-empty x)) ∙ e)
        where
          some_same : (let o : Option (List Json) = Some [] in o) ≡ Some js → [] ≡ js
          some_same e = cc
  all_for s.no_piece (r ∷ rs) js h e = absurd h
  all_for (s.piece a after ps) [] js h e = absurd h
  all_for (s.piece a after ps) (r ∷ rs) js h e =
      let q = front_is (seen x r) (seen x (all rs)) js (ap (λ u. u.0) (sym (seen-front x r rs)) ∙ e) in
      subst (AreFor (s.piece a after ps)) q.1.1.1 (all_for ps rs q.1.0 h q.1.1.0)

length_for : (ps : PieceTrees) (js : List Json) → AreFor ps js → length js ≡ count ps
length_for s.no_piece [] h = refl
length_for s.no_piece (j ∷ js) h = absurd h
length_for (s.piece e after ps) [] h = absurd h
length_for (s.piece e after ps) (j ∷ js) h = ap suc (length_for ps js h)

text_made : (first : List ℕ) (ps : PieceTrees) (js : List Json) → AreFor ps js → count ps ≤ 2 ^ 64
    → kept_of (function_value (codes "format") (text (format_text 0 first ps) ∷ js))
    ≡ kept_of (Some (text (first ++ meaning.joined (afters ps js))))
unfolding table row_in value_of of_prints
text_made first ps js h l =
    ap (λ b. kept_of (if b then format (text (format_text 0 first ps)
    ∷ js) else None)) (le_true 1 (suc (length js)) (omega arith))
    ∙ ap (λ o. kept_of (option_map text o))
    (format_filled js 0 first ps js refl h (few (length_for ps js h)))
  where
    few : length js ≡ count ps → 0 + length js ≤ 2 ^ 64
    few e = omega arith

module _ (x : Sides) (here : Surroundings) where
  pub whole_seen : (f : Json) (u : Seen (List Json)) (k : List Json → Seen Json)
      → then_seen (front_seen (done_seen (Some f)) u) k ≡ then_seen u (λ js. k (f ∷ js))
  whole_seen f (Some js, true) k = refl
  whole_seen f (Some js, false) k = refl
  whole_seen f (None, true) k = refl
  whole_seen f (None, false) k = refl

  pub like_text : (first : List ℕ) (ps : PieceTrees) (es : Trees) (rs : List (Reads Json)) → AreReadings x ps rs
      → count ps ≤ 2 ^ 64 → AllLike x (values here es) rs
      → Like x (value here (call (codes "format") (more (tree.text (format_text 0 first ps)) es)))
      (capped (continued (all (after_readings x ps rs)) (λ ts. pure (text (first ++ meaning.joined ts)))))
  unfolding lazy_named strict_named placed_named
  like_text first ps es rs h l i =
      let fmt : Json = text (format_text 0 first ps) in
      like_plain x here (codes "format") (more (tree.text (format_text 0 first ps)) es) (pure fmt ∷ rs) refl refl (
        ap (λ u. seen_in x.template x.template_marks u) (texts here (format_text 0 first ps))
            ∙ like_done x (Some fmt),
        i,
      )
      ∙ seen-on x (all (pure fmt ∷ rs)) (λ vs. kept_of (function_value (codes "format") vs))
      ∙ ap (λ u. then_seen u (λ vs. done_seen (kept_of (function_value (codes "format") vs))))
      (seen-front x (pure fmt) rs ∙ ap (λ u. front_seen u (seen x (all rs))) (pure_seen x fmt))
      ∙ whole_seen fmt (seen x (all rs)) (λ vs. done_seen (kept_of (function_value (codes "format") vs)))
      ∙ then-at (seen x (all rs)) (λ js. done_seen (kept_of (function_value (codes "format") (fmt ∷ js))))
      (λ js. then_seen (done_seen (Some (afters ps js))) (λ ts. done_seen (kept_of (Some (text
      (first ++ meaning.joined ts))))))
      (λ js e. ap (λ (o : Option Json). let r : Seen Json = done_seen o in r) (text_made first ps js
      (all_for x ps rs js h e) l))
      ∙ sym (then-then (seen x (all rs)) (λ js. done_seen (Some (afters ps js)))
      (λ ts. done_seen (kept_of (Some (text (first ++ meaning.joined ts))))))
      ∙ ap (λ u. then_seen u (λ ts. done_seen (kept_of (Some (text (first ++ meaning.joined ts))))))
      (sym (seen-pieces x ps rs h))
      ∙ sym (seen-on x (all (after_readings x ps rs)) (λ ts. kept_of (Some (text (first ++ meaning.joined ts)))))
      ∙ sym (seen-capped-on x (all (after_readings x ps rs)) (λ ts. Some (text (first ++ meaning.joined ts))))
