-- The turns of the loops over trees, members and loops of the code.
use Rattle.reading.specs.Knowledge as knowledge
use Rattle.reading.specs.Knowledge.{told, finished}
use Rattle.std.proofs.Common.{◌≡◌, ◌<◌, ◌≤◌, ◌+◌, ◌++◌, ◌∷◌, [], ℕ, List, map, take, length, get_or, Option, Some}
use Rattle.std.proofs.Common.{refl, sym, ap, ◌∙◌, subst, arith}
use Rattle.std.proofs.lemmas.List.FromFn.{length-range_with_len, get_or-range_with_len}
use Rattle.std.specs.List.{range_with_len}
use Rattle.arm_value.specs.Json.{Json, Member, put_each}
use Rattle.arm_value.specs.View.{json}
use Rattle.arm_value.specs.declared.value.Value.{Value}
use Rattle.arm_value.specs.declared.value.Field.{Field}
use Rattle.reading.specs.Knowledge.{Known}
use Rattle.arm_env.specs.Look.{Look, Fact, Looking, Surroundings}
use Rattle.arm_eval.specs.Trees.{Copy, tree_value, own_member, copied, copy_in, turns}
use Rattle.arm_eval.specs.Words.{values_of, owns_of, copies_of, put_all, with_each}
use Rattle.arm_env.specs.Answer.{gathered, outcome_told, with_last, Stops}
use Rattle.arm_env.specs.declared.stop.Stop.{Stop}
use Rattle.arm_env.proofs.Gather.{gathered-nil}
use Rattle.arm_eval.proofs.TurnLemmas.{turn_at}
use Rattle.arm_env.proofs.Turns.{turned, turn_stops, all_turned}
use Rattle.arm_eval.proofs.ObjectLemmas.{put_all-more, turns_are}

module _ (p : Look → Known Fact) (here : Surroundings) where
  pub no_value_yet : (o : Option (List Json)) → o ≡ Some [] → gathered (λ vs. vs) p (values_of here []) ≡ finished o
  no_value_yet o e = gathered-nil Json p (List Json) (λ vs. vs) ∙ ap finished (sym e)

  pub value_turn : (vs : List Value) (i : ℕ) (v : Value) (o : Option (List Json)) (a : Option Json) → i < length vs
      → v ≡ get_or vs i v → gathered (λ vs. vs) p (values_of here (take i vs)) ≡ finished o
      → outcome_told (told p (tree_value (json v) here)) ≡ knowledge.value a
      → gathered (λ vs. vs) p (values_of here (take (i + 1) vs)) ≡ finished (with_last o a)
  value_turn vs i v o a l e g found = turned Json p (List Json) (λ vs. vs) Value (λ v. tree_value (json v) here)
      (λ xs x. xs ++ x ∷ []) (λ xs x. refl) vs i v o a l e g found

  pub value_stops : (s : Stop) (vs : List Value) (i : ℕ) (v : Value) (o : Option (List Json)) → i < length vs
      → v ≡ get_or vs i v → gathered (λ vs. vs) p (values_of here (take i vs)) ≡ finished o
      → Stops s (outcome_told (told p (tree_value (json v) here)))
      → Stops s (outcome_told (gathered (λ vs. vs) p (values_of here vs)))
  value_stops s vs i v o l e g h =
      turn_stops Json p (List Json) (λ vs. vs) Value (λ v. tree_value (json v) here) s vs i v o l e g h

  pub all_values : (vs : List Value) (i : ℕ) (o : Option (List Json)) → length vs ≤ i
      → gathered (λ vs. vs) p (values_of here (take i vs)) ≡ finished o
      → outcome_told (gathered (λ vs. vs) p (values_of here vs)) ≡ knowledge.value o
  all_values vs i o l g = all_turned Json p (List Json) (λ vs. vs) Value (λ v. tree_value (json v) here) vs i o l g

  pub no_own_yet : (o : Option (List Member)) → o ≡ Some [] → gathered put_all p (owns_of here []) ≡ finished o
  no_own_yet o e = gathered-nil (List Member) p (List Member) put_all ∙ ap finished (sym e)

  pub own_turn : (fs : List Field) (i : ℕ) (f : Field) (o : Option (List Member)) (a : Option (List Member))
      → i < length fs → f ≡ get_or fs i f → gathered put_all p (owns_of here (take i fs)) ≡ finished o
      → outcome_told (told p (own_member f.name (tree_value (json f.value) here))) ≡ knowledge.value a
      → gathered put_all p (owns_of here (take (i + 1) fs)) ≡ finished (with_each o a)
  own_turn fs i f o a l e g found =
      turned (List Member) p (List Member) put_all Field (λ f. own_member f.name (tree_value (json f.value) here))
      (λ ms ns. put_each ms ns) put_all-more fs i f o a l e g found

  pub own_turn_stops : (s : Stop) (fs : List Field) (i : ℕ) (f : Field) (o : Option (List Member)) → i < length fs
      → f ≡ get_or fs i f → gathered put_all p (owns_of here (take i fs)) ≡ finished o
      → Stops s (outcome_told (told p (own_member f.name (tree_value (json f.value) here))))
      → Stops s (outcome_told (gathered put_all p (owns_of here fs)))
  own_turn_stops s fs i f o l e g h =
      turn_stops (List Member) p (List Member) put_all Field (λ f. own_member f.name (tree_value (json f.value) here))
      s fs i f o l e g h

  pub all_own : (fs : List Field) (i : ℕ) (o : Option (List Member)) → length fs ≤ i
      → gathered put_all p (owns_of here (take i fs)) ≡ finished o
      → outcome_told (gathered put_all p (owns_of here fs)) ≡ knowledge.value o
  all_own fs i o l g =
      all_turned (List Member) p (List Member) put_all Field (λ f. own_member f.name (tree_value (json f.value) here))
      fs i o l g

  pub no_copy_yet : (o : Option (List Member)) → o ≡ Some [] → gathered (λ ms. ms) p (copies_of here []) ≡ finished o
  no_copy_yet o e = gathered-nil Member p (List Member) (λ ms. ms) ∙ ap finished (sym e)

  pub copy_turn : (vs : List Value) (i : ℕ) (v : Value) (o : Option (List Member)) (a : Option Member) → i < length vs
      → v ≡ get_or vs i v → gathered (λ ms. ms) p (copies_of here (take i vs)) ≡ finished o
      → outcome_told (told p (copied here (copy_in (json v)))) ≡ knowledge.value a
      → gathered (λ ms. ms) p (copies_of here (take (i + 1) vs)) ≡ finished (with_last o a)
  copy_turn vs i v o a l e g found =
      turned Member p (List Member) (λ ms. ms) Value (λ v. copied here (copy_in (json v))) (λ xs x. xs ++ x ∷ [])
      (λ xs x. refl) vs i v o a l e g found

  pub copy_stops : (s : Stop) (vs : List Value) (i : ℕ) (v : Value) (o : Option (List Member)) → i < length vs
      → v ≡ get_or vs i v → gathered (λ ms. ms) p (copies_of here (take i vs)) ≡ finished o
      → Stops s (outcome_told (told p (copied here (copy_in (json v)))))
      → Stops s (outcome_told (gathered (λ ms. ms) p (copies_of here vs)))
  copy_stops s vs i v o l e g h =
      turn_stops Member p (List Member) (λ ms. ms) Value (λ v. copied here (copy_in (json v))) s vs i v o l e g h

  pub all_copied : (vs : List Value) (i : ℕ) (o : Option (List Member)) → length vs ≤ i
      → gathered (λ ms. ms) p (copies_of here (take i vs)) ≡ finished o
      → outcome_told (gathered (λ ms. ms) p (copies_of here vs)) ≡ knowledge.value o
  all_copied vs i o l g = all_turned Member p (List Member) (λ ms. ms) Value (λ v. copied here (copy_in (json v))) vs
      i o l g

-- the indices below n
abbrev pub below : ℕ → List ℕ
below n = range_with_len 0 n

module _ (p : Look → Known Fact) (c : Copy) (here : Surroundings) where
  at_index : (n i : ℕ) → i < n → i ≡ get_or (below n) i i
  at_index n i l = omega (arith, get_or-range_with_len 0 n i i l)

  in_range : (n i : ℕ) → i < n → i < length (below n)
  in_range n i l = omega (arith, l, length-range_with_len 0 n)

  pub no_turn_yet : (o : Option (List Json)) → o ≡ Some [] → gathered (λ vs. vs) p (map (turn_at c here) [])
      ≡ finished o
  no_turn_yet o e = gathered-nil Json p (List Json) (λ vs. vs) ∙ ap finished (sym e)

  pub index_turn : (n i : ℕ) (o : Option (List Json)) (a : Option Json) → i < n
      → gathered (λ vs. vs) p (map (turn_at c here) (take i (below n))) ≡ finished o
      → outcome_told (told p (turn_at c here i)) ≡ knowledge.value a
      → gathered (λ vs. vs) p (map (turn_at c here) (take (i + 1) (below n))) ≡ finished (with_last o a)
  index_turn n i o a l g found = turned Json p (List Json) (λ vs. vs) ℕ (turn_at c here) (λ xs x. xs ++ x ∷ [])
      (λ xs x. refl) (below n) i i o a (in_range n i l) (at_index n i l) g found

  pub index_stops : (s : Stop) (n i : ℕ) (o : Option (List Json)) → i < n
      → gathered (λ vs. vs) p (map (turn_at c here) (take i (below n))) ≡ finished o
      → Stops s (outcome_told (told p (turn_at c here i)))
      → Stops s (outcome_told (gathered (λ vs. vs) p (turns c here 0 n)))
  index_stops s n i o l g h =
      let P : List (Looking Json) → Type 0 = λ os. Stops s (outcome_told (gathered (λ vs. vs) p os)) in
      subst P (sym (turns_are c here n))
      (turn_stops Json p (List Json) (λ vs. vs) ℕ (turn_at c here) s (below n) i i o (in_range n i l)
      (at_index n i l) g h)

  pub all_turns : (n i : ℕ) (o : Option (List Json)) → n ≤ i
      → gathered (λ vs. vs) p (map (turn_at c here) (take i (below n))) ≡ finished o
      → outcome_told (gathered (λ vs. vs) p (turns c here 0 n)) ≡ knowledge.value o
  all_turns n i o l g =
      ap (λ os. outcome_told (gathered (λ vs. vs) p os)) (turns_are c here n)
      ∙ all_turned Json p (List Json) (λ vs. vs) ℕ (turn_at c here) (below n) i o
      (omega (arith, l, length-range_with_len 0 n)) g
