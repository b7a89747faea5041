-- The values of texts in trees.
use Rattle.reading.specs.Knowledge as knowledge
use Rattle.reading.specs.Knowledge.{told, finished, and_then}
use Rattle.std.proofs.Common.{◌≡◌, ℕ, suc, List, [], ◌∷◌, length, codes, Bool, true, false, Option, Some, None}
use Rattle.std.proofs.Common.{option_map, refl, sym, ap, ◌∙◌, arith}
use Rattle.std.specs.Prelude.{if◌then◌else◌, ◌==◌}
use Rattle.std.proofs.lemmas.Bool.Decides.{nat_tests}
use Rattle.arm_value.specs.Json.{Json, text, Member, pairs}
use Rattle.arm_value.specs.Look.{is_same_folded}
use Rattle.arm_env.specs.Kinds.{text_of}
use Rattle.arm_eval.specs.Words.{tree_in}
use Rattle.arm_expr.specs.Tree.{Tree}
use Rattle.reading.specs.Reading.{done}
use Rattle.reading.specs.Knowledge.{Known}
use Rattle.arm_env.specs.Look.{Look, Fact, Surroundings}
use Rattle.arm_expr.specs.Brackets.{plain, an_expression, meaning as text_meaning}
use Rattle.arm_eval.specs.Text.{expression_of}
use Rattle.arm_eval.specs.Trees.{said_value, Part, part_named, parts, tree_value, with_name, part_text, copy_by}
use Rattle.arm_eval.specs.Trees.{copy_of}
use Rattle.expression_values.specs.Meaning.{value}
use Rattle.arm_env.proofs.Answers.{told-done, told-continued, goes}

pub said_plain : (p : Look → Known Fact) (here : Surroundings) (t s : List ℕ) → text_meaning t ≡ plain s
    → told p (said_value here t (text_meaning t)) ≡ knowledge.value (text s)
said_plain p here t s e = ap (λ u. told p (said_value here t u)) e ∙ told-done p (Some (text s))

pub said_some : (p : Look → Known Fact) (here : Surroundings) (t : List ℕ) (e : Tree) → text_meaning t ≡ an_expression
    → Some e ≡ expression_of t → told p (said_value here t (text_meaning t)) ≡ told p (value here e)
said_some p here t e s h = ap (λ u. told p (said_value here t u)) s
    ∙ goes p (done (expression_of t)) (value here) e (told-done p (expression_of t) ∙ ap finished (sym h))

pub said_none : (p : Look → Known Fact) (here : Surroundings) (t : List ℕ) → text_meaning t ≡ an_expression
    → None ≡ expression_of t → told p (said_value here t (text_meaning t)) ≡ knowledge.no_value
said_none p here t s h =
    ap (λ u. told p (said_value here t u)) s ∙ told-continued p (done (expression_of t)) (value here)
    ∙ ap (λ a. and_then a (λ e. told p (value here e))) (told-done p (expression_of t) ∙ ap finished (sym h))

-- a member whose value is that of its tree
record IsPart (o : Option Part) (v : Json) : Type 0 where
  part : Part
  is : o ≡ Some part
  tree : part.tree ≡ v
  value : part.value ≡ tree_value v

module _ (name : List ℕ) (v : Json) where
  part_if : (b : Bool) (k : List ℕ) (j : Json) (o : Option Part) → (Some v ≡ option_map tree_in o → IsPart o v)
      → Some v ≡ option_map tree_in (if b then Some (record { name = k; tree = j; value = tree_value j }) else o)
      → IsPart (if b then Some (record { name = k; tree = j; value = tree_value j }) else o) v
  part_if true k j o h e =
      let same : j ≡ v = cc in
      record {
        part = record { name = k; tree = j; value = tree_value j };
        is = refl;
        tree = same;
        value =
            ap tree_value same;
      }
  part_if false k j o h e = h e

  part_found : (ms : List Member) → Some v ≡ option_map tree_in (part_named name (parts (pairs ms)))
      → IsPart (part_named name (parts (pairs ms))) v
  part_found [] e = absurd cc
  part_found (m ∷ ms) e = part_if (is_same_folded name m.0) m.0 m.1 (part_named name (parts (pairs ms)))
      (part_found ms) e

part_missing : (o : Option Part) → None ≡ option_map tree_in o → o ≡ None
part_missing None e = refl
part_missing (Some p) e = absurd cc

pub name_is : (ms : List Member) (v : Json)
    → Some v ≡ option_map tree_in (part_named (codes "name") (parts (pairs ms)))
    → part_text (part_named (codes "name") (parts (pairs ms))) ≡ text_of v
name_is ms v e = let f = part_found (codes "name") v ms e in ap part_text f.is ∙ ap text_of f.tree

pub name_missing : (o : Option Part) → None ≡ option_map tree_in o → part_text o ≡ None
name_missing o e = ap part_text (part_missing o e)

pub both_parts : (name : List ℕ) (ms : List Member) (c i : Json)
    → Some c ≡ option_map tree_in (part_named (codes "count") (parts (pairs ms)))
    → Some i ≡ option_map tree_in (part_named (codes "input") (parts (pairs ms)))
    → Some (record { name = name; count = tree_value c; input = tree_value i }) ≡ with_name name
    (part_named (codes "count") (parts (pairs ms))) (part_named (codes "input") (parts (pairs ms)))
both_parts name ms c i e f =
    let p = part_found (codes "count") c ms e in
    let q = part_found (codes "input") i ms f in
    sym ((λ k. with_name name (p.is k) (q.is k))
    ∙ (λ k. Some (record { name = name; count = p.value k; input = q.value k })))

pub no_count : (name : List ℕ) (o u : Option Part) → None ≡ option_map tree_in o → None ≡ with_name name o u
no_count name o u e = sym (ap (λ o. with_name name o u) (part_missing o e))

no_second : (name : List ℕ) (o : Option Part) → with_name name o None ≡ None
no_second name None = refl
no_second name (Some p) = refl

pub no_input : (name : List ℕ) (o u : Option Part) → None ≡ option_map tree_in u → None ≡ with_name name o u
no_input name o u e = sym (ap (with_name name o) (part_missing u e) ∙ no_second name o)

pub length-parts : (ms : List Member) → length (parts (pairs ms)) ≡ length ms
length-parts [] = refl
length-parts (m ∷ ms) = ap suc (length-parts ms)

is_three : (n : ℕ) → n ≡ 3 → (n == 3) ≡ true
is_three n e = grind (arith, nat_tests)

no_three : (n : ℕ) → (n ≡ 3 → ⊥) → (n == 3) ≡ false
no_three n e = grind (arith, nat_tests)

pub three_parts : (ms : List Member) → length ms ≡ 3 → copy_of (parts (pairs ms)) ≡ copy_by (parts (pairs ms))
three_parts ms e =
    ap (λ b. if b then copy_by (parts (pairs ms)) else None)
    (is_three (length (parts (pairs ms))) (length-parts ms ∙ e))

pub other_parts : (ms : List Member) → (length ms ≡ 3 → ⊥) → copy_of (parts (pairs ms)) ≡ None
other_parts ms e =
    ap (λ b. if b then copy_by (parts (pairs ms)) else None)
    (no_three (length (parts (pairs ms))) (λ h. e (sym (length-parts ms) ∙ h)))
