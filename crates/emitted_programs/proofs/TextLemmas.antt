-- Texts of a template that are written for expressions: counts, conditions and names.
use Rattle.std.proofs.Common.{◌≡◌, ℕ, ℤ, true, List, [], ◌∷◌, Option, Some, None, codes, refl, sym, ap, ◌∙◌}
use Rattle.std.specs.Prelude.{option_map, option_and_then}
use Rattle.arm_value.specs.Json.{Json, bool, int}
use Rattle.arm_expr.specs.Brackets.{escaped}
use Rattle.arm_expr.specs.Tree.{Tree}
use Rattle.arm_expr.specs.Tree as tree
use Rattle.arm_expr.proofs.BracketLemmas.{meaning-escaped}
use Rattle.function_lists.specs.Sizes.{size, size_of}
use Rattle.function_numbers.specs.Numbers.{from_zero}
use Rattle.reading.specs.Reading.{done, pure, continued}
use Rattle.arm_env.specs.Look.{Looking, Surroundings}
use Rattle.arm_env.specs.Names.{lazy_named, strict_named, placed_named}
use Rattle.arm_eval.specs.Trees.{tree_value, said_value}
use Rattle.expression_values.specs.Meaning.{value}
use Rattle.deploy_cells.specs.Guarded.{Reads}
use Rattle.bicep_tree.specs.declared.leaf.Literal.TheVariants as l
use Rattle.bicep_meaning.specs.Rows.{capped}
use Rattle.bicep_emission.specs.Alike.{Seen, seen_in}
use Rattle.bicep_emission.specs.Answered.{Sides}
use Rattle.bicep_emission.specs.Stands.{Like, IsCapped, Stands}
use Rattle.bicep_emission.proofs.SeenLemmas.{seen-same}
use Rattle.bicep_emission.proofs.KeptLemmas.{kept_of}
use Rattle.bicep_emission.proofs.CallLemmas.{seen, seen-capped-on, like_one}
use Rattle.bicep_emission.proofs.BinaryLemmas.{text_like, like_literal}
use Rattle.emitted_trees.proofs.LoopLemmas.{size_json, size_made}
use Rattle.emitted_trees.proofs.TreeLemmas.{written_value}
use Rattle.emitted_trees.specs.EmittedTrees.{count_of}
use Rattle.emitted_trees.specs.Written.{tree_json, literal_json, IsWithin}
use Rattle.emitted_sites.specs.Values.{IsTree, IsExpression, plain_or_expression}

int_kept : (o : Option ℤ) → kept_of (option_map int o) ≡ option_map int o
int_kept None = refl
int_kept (Some z) = refl

size_kept : (j : Json) → kept_of (size_json j) ≡ size (j ∷ [])
size_kept j = int_kept (option_and_then from_zero (size_of j))

module _ (x : Sides) (around : Surroundings) where
  abbrev sees : Looking Json → Seen Json
  sees r = seen_in x.template x.template_marks r

  -- an expression that stands for a reading
  pub expression_like : (e : Tree) (j : Json) (r : Reads Json) → IsExpression e j → Stands x around e r
      → IsCapped x r → Like x (tree_value j around) r
  expression_like e j r h st c =
      ap (λ j. sees (tree_value j around)) h.is ∙ ap sees (written_value around e h.is_writable) ∙ st.alike ∙ c

  -- the count of a resource
  pub count_like : (xs : Tree) (j : Json) (r : Reads Json) → IsExpression (count_of xs) j
      → Like x (value around xs) r → Like x (tree_value j around) (continued r (λ j. done (size (j ∷ []))))
  unfolding lazy_named strict_named placed_named
  count_like xs j r h k =
      ap (λ j. sees (tree_value j around)) h.is ∙ ap sees (written_value around (count_of xs) h.is_writable)
      ∙ like_one x around (codes "length") xs r size_json refl refl size_made k
      ∙ seen-capped-on x r size_json
      ∙ seen-same x.source x.source_marks r (λ j. done (kept_of (size_json j))) (λ j. done (size (j ∷ [])))
      (λ j. ap (λ o. seen x (done o)) (size_kept j))

  -- a name
  text_read : (t : List ℕ) → sees (tree_value (literal_json (l.Text t)) around) ≡ sees (value around (tree.text t))
  unfolding seen_in
  text_read t =
      ap sees (ap (said_value around (escaped t)) (meaning-escaped t)) ∙ sym (text_like x around t)

  name_read : (e : Tree) → IsWithin (plain_or_expression e)
      → sees (tree_value (tree_json (plain_or_expression e)) around) ≡ sees (value around e)
  name_read (tree.text t) h = text_read t
  name_read (tree.int z) h = ap sees (written_value around (tree.int z) h)
  name_read (tree.call f es) h = ap sees (written_value around (tree.call f es) h)
  name_read (tree.member e k) h = ap sees (written_value around (tree.member e k) h)
  name_read (tree.index e i) h = ap sees (written_value around (tree.index e i) h)

  pub name_like : (e : Tree) (j : Json) (r : Reads Json) → IsTree (plain_or_expression e) j → Stands x around e r
      → IsCapped x r → Like x (tree_value j around) r
  name_like e j r h st c =
      ap (λ j. sees (tree_value j around)) h.is ∙ name_read e h.is_within ∙ st.alike ∙ c

  true_capped : seen x (capped (pure (bool true))) ≡ seen x (pure (bool true))
  unfolding capped continued seen_in
  true_capped = refl

  -- a condition that is left out
  pub always_like : (r : Reads Json) → Stands x around (tree.call (codes "true") tree.none) r → IsCapped x r
      → seen x r ≡ seen x (pure (bool true))
  always_like r st c = sym c ∙ sym st.alike ∙ like_literal x around l.True ∙ true_capped
