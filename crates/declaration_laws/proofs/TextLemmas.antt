-- Names that are printed after others.
use Rattle.std.proofs.Common.{◌≡◌, ◌≤◌, ◌^◌, ℕ, List, [], ◌∷◌, ◌++◌, Some, None, Bool, codes}
use Rattle.std.proofs.Common.{refl, sym, ap, ap₂, ◌∙◌, append-nil, append_assoc, arith}
use Rattle.std.specs.Prelude.{◌||◌}
use Rattle.arm_value.specs.Json.{Json, text}
use Rattle.arm_expr.specs.Tree.{Tree, call, more}
use Rattle.arm_expr.specs.Tree as tree
use Rattle.emitted_declarations.specs.Printed.{printed}
use Rattle.reading.specs.Reading.{pure, continued, both}
use Rattle.arm_env.specs.Look.{Surroundings}
use Rattle.emitted_declarations.specs.Meaning.{value}
use Rattle.deploy_cells.specs.Guarded.{Reads}
use Rattle.bicep_emission.specs.Rows.{all, capped}
use Rattle.bicep_emission.specs.Meaning.{printed_before, joined}
use Rattle.bicep_emission.specs.Declared.{name_after}
use Rattle.bicep_emission.specs.Alike.{Seen, seen_in}
use Rattle.bicep_emission.specs.Answered.{Sides}
use Rattle.bicep_emission.specs.Emitted.{one, two}
use Rattle.bicep_emission.specs.Stands.{Like, IsCapped}
use Rattle.bicep_emission.specs.Texts.{format_text}
use Rattle.bicep_emission.proofs.SeenLemmas.{then_seen, both_seen, done_seen, seen-continued, seen-both}
use Rattle.bicep_emission.proofs.CallLemmas.{seen, seen-on, seen-capped-on}
use Rattle.bicep_emission.proofs.ListLemmas.{like_text}
use Rattle.emitted_declarations.specs.Declared.{one_hole, two_holes, with_slash}

-- ---- lists

after_two : (u j : List ℕ) → (u ++ 47 ∷ []) ++ ((j ++ []) ++ []) ≡ u ++ 47 ∷ j
after_two u j = ap (λ r. (u ++ 47 ∷ []) ++ r) (append-nil (j ++ []) ∙ append-nil j) ∙ append_assoc u (47 ∷ []) j

after_one : (t i : List ℕ) → (t ++ 45 ∷ []) ++ ((i ++ []) ++ []) ≡ t ++ 45 ∷ i
after_one t i = ap (λ r. (t ++ 45 ∷ []) ++ r) (append-nil (i ++ []) ∙ append-nil i) ∙ append_assoc t (45 ∷ []) i

module _ (x : Sides) where
  -- ---- lists of one reading and of two

  first_of : {A : Type 0} (s : Seen A)
      → then_seen (both_seen s (done_seen (Some []))) (λ p. done_seen (Some (p.0 ∷ p.1)))
      ≡ then_seen s (λ v. done_seen (Some (v ∷ [])))
  first_of (Some v, b) = refl
  first_of (None, b) = refl

  pub all_one : {A : Type 0} (q : Reads A)
      → seen x (all (q ∷ [])) ≡ then_seen (seen x q) (λ v. done_seen (Some (v ∷ [])))
  unfolding all seen_in
  all_one q = seen-continued x.source x.source_marks (both q (all [])) (λ p. pure (p.0 ∷ p.1))
      ∙ ap (λ s. then_seen s (λ p. done_seen (Some (p.0 ∷ p.1)))) (seen-both x.source x.source_marks q (all []))
      ∙ first_of (seen x q)

  two_of : {A : Type 0} (s t : Seen A)
      → then_seen (both_seen s (then_seen t (λ v. done_seen (Some (v ∷ []))))) (λ p. done_seen (Some (p.0 ∷ p.1)))
      ≡ then_seen (both_seen s t) (λ p. done_seen (Some (p.0 ∷ p.1 ∷ [])))
  two_of (Some v, b) (Some w, c) = refl
  two_of (Some v, b) (None, c) = refl
  two_of (None, b) (Some w, c) = refl
  two_of (None, b) (None, c) = refl

  all_two : {A : Type 0} (q r : Reads A)
      → seen x (all (q ∷ r ∷ [])) ≡ then_seen (both_seen (seen x q) (seen x r)) (λ p. done_seen (Some (p.0 ∷ p.1 ∷ [])))
  unfolding all seen_in
  all_two q r = seen-continued x.source x.source_marks (both q (all (r ∷ []))) (λ p. pure (p.0 ∷ p.1))
      ∙ ap (λ s. then_seen s (λ p. done_seen (Some (p.0 ∷ p.1))))
      (seen-both x.source x.source_marks q (all (r ∷ [])) ∙ ap (both_seen (seen x q)) (all_one r))
      ∙ two_of (seen x q) (seen x r)

  -- ---- one name after another

  abbrev printed_seen : List ℕ → Seen Json → Seen (List ℕ)
  printed_seen after s = then_seen s (λ j. done_seen (Some (printed j ++ after)))

  seen-printed : (after : List ℕ) (r : Reads Json) → seen x (printed_before after r) ≡ printed_seen after (seen x r)
  unfolding seen_in
  seen-printed after r = seen-continued x.source x.source_marks r (λ j. pure (printed j ++ after))

  abbrev some_text : Bool → List ℕ → Seen Json
  some_text b t = (Some (text t), b)

  both_printed : (s t : Seen Json)
      → then_seen (then_seen (both_seen (printed_seen (47 ∷ []) s) (printed_seen [] t))
      (λ p. done_seen (Some (p.0 ∷ p.1 ∷ [])))) (λ ts. done_seen (Some (text ([] ++ joined ts))))
      ≡ then_seen (both_seen s t) (λ p. done_seen (Some (name_after p.0 p.1)))
  both_printed (Some u, b) (Some j, c) = ap (some_text (c || b)) (after_two (printed u) (printed j))
  both_printed (Some u, b) (None, c) = refl
  both_printed (None, b) (Some j, c) = refl
  both_printed (None, b) (None, c) = refl

  after_capped : (r q : Reads Json)
      → IsCapped x (continued (both r q) (λ p. pure (name_after p.0 p.1)))
  after_capped r q = seen-capped-on x (both r q) (λ p. Some (name_after p.0 p.1))

  two_printed : (r q : Reads Json)
      → seen x (capped (continued (all (printed_before (47 ∷ []) r ∷ printed_before [] q ∷ []))
      (λ ts. pure (text ([] ++ joined ts)))))
      ≡ seen x (capped (continued (both r q) (λ p. pure (name_after p.0 p.1))))
  two_printed r q =
      seen-capped-on x (all (printed_before (47 ∷ []) r ∷ printed_before [] q ∷ []))
      (λ ts. Some (text ([] ++ joined ts)))
      ∙ seen-on x (all (printed_before (47 ∷ []) r ∷ printed_before [] q ∷ [])) (λ ts. Some (text ([] ++ joined ts)))
      ∙ ap (λ s. then_seen s (λ ts. done_seen (Some (text ([] ++ joined ts)))))
      (all_two (printed_before (47 ∷ []) r) (printed_before [] q)
      ∙ ap₂ (λ s t. then_seen (both_seen s t) (λ p. done_seen (Some (p.0 ∷ p.1 ∷ []))))
      (seen-printed (47 ∷ []) r) (seen-printed [] q))
      ∙ both_printed (seen x r) (seen x q)
      ∙ sym (ap (λ s. then_seen s (λ p. done_seen (Some (name_after p.0 p.1))))
      (seen-both x.source x.source_marks r q))
      ∙ sym (seen-on x (both r q) (λ p. Some (name_after p.0 p.1)))
      ∙ sym (after_capped r q)

  few_holes : 2 ≤ 2 ^ 64
  few_holes = omega arith

  pub slash_like : (around : Surroundings) (a b : Tree) (r q : Reads Json) → Like x (value around a) r
      → Like x (value around b) q
      → Like x (value around (with_slash a b)) (capped (continued (both r q) (λ p. pure (name_after p.0 p.1))))
  slash_like around a b r q i j =
      like_text x around [] (two_holes (47 ∷ [])) (two a b) (r ∷ q ∷ []) tt few_holes (i, (j, tt)) ∙ two_printed r q

  -- ---- the name of a module by its symbol

  one_printed : (t : List ℕ) (s : Seen Json)
      → then_seen (then_seen (printed_seen [] s) (λ v. done_seen (Some (v ∷ []))))
      (λ ts. done_seen (Some (text ((t ++ 45 ∷ []) ++ joined ts))))
      ≡ then_seen s (λ i. done_seen (Some (text (t ++ 45 ∷ printed i))))
  one_printed t (Some i, b) = ap (some_text b) (after_one t (printed i))
  one_printed t (None, b) = refl

  pub index_capped : (t : List ℕ) (r : Reads Json)
      → IsCapped x (continued r (λ i. pure (text (t ++ 45 ∷ printed i))))
  index_capped t r = seen-capped-on x r (λ i. Some (text (t ++ 45 ∷ printed i)))

  index_printed : (t : List ℕ) (r : Reads Json)
      → seen x (capped (continued (all (printed_before [] r ∷ [])) (λ ts. pure (text ((t ++ 45 ∷ []) ++ joined ts)))))
      ≡ seen x (capped (continued r (λ i. pure (text (t ++ 45 ∷ printed i)))))
  index_printed t r =
      seen-capped-on x (all (printed_before [] r ∷ [])) (λ ts. Some (text ((t ++ 45 ∷ []) ++ joined ts)))
      ∙ seen-on x (all (printed_before [] r ∷ [])) (λ ts. Some (text ((t ++ 45 ∷ []) ++ joined ts)))
      ∙ ap (λ s. then_seen s (λ ts. done_seen (Some (text ((t ++ 45 ∷ []) ++ joined ts)))))
      (all_one (printed_before [] r)
      ∙ ap (λ s. then_seen s (λ v. done_seen (Some (v ∷ [])))) (seen-printed [] r))
      ∙ one_printed t (seen x r)
      ∙ sym (seen-on x r (λ i. Some (text (t ++ 45 ∷ printed i))))
      ∙ sym (index_capped t r)

  one_hole_fits : 1 ≤ 2 ^ 64
  one_hole_fits = omega arith

  pub index_like : (around : Surroundings) (t : List ℕ) (e : Tree) (r : Reads Json) → Like x (value around e) r
      → Like x (value around (call (codes "format") (more (tree.text (format_text 0 (t ++ 45 ∷ []) one_hole)) (one e))))
      (capped (continued r (λ i. pure (text (t ++ 45 ∷ printed i)))))
  index_like around t e r i =
      like_text x around (t ++ 45 ∷ []) one_hole (one e) (r ∷ []) tt one_hole_fits (i, tt) ∙ index_printed t r
