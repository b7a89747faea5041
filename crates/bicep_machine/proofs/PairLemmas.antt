-- Two names between parentheses.
use Rattle.std.proofs.Common.{◌≡◌, ℕ, ◌+◌, List, [], ◌∷◌, ◌++◌, map, refl, ap, sym, ◌∙◌, Option, Some, None}
use Rattle.std.proofs.Common.{option_to_list, MatchOption, length, arith}
use Rattle.bicep_tree.specs.declared.leaf.Name.{Name}
use Rattle.bicep_tree.specs.declared.leaf.Function.TheVariants as f
use Rattle.bicep_tree.specs.declared.expr.Expr.{Expr}
use Rattle.bicep_tree.specs.Tree.{name, call, Trees, none, more, trees}
use Rattle.bicep_tree.specs.View.{tree_of}
use Rattle.bicep_machine.specs.Closing.{pair_of}
use Rattle.bicep_machine.specs.Folding.{word_before, two_names}

pub pair_of-call : (w : Name) (es : Trees) → pair_of (call (f.Plain w) es) ≡ word_before w (two_names es)
pair_of-call w none = refl
pair_of-call w (more (name n) none) = refl
pair_of-call w (more a none) = refl
pair_of-call w (more (name n) (more (name m) none)) = refl
pair_of-call w (more (name n) (more b none)) = refl
pair_of-call w (more a (more b none)) = refl
pair_of-call w (more (name n) (more (name m) (more c es))) = refl
pair_of-call w (more (name n) (more b (more c es))) = refl
pair_of-call w (more a (more b (more c es))) = refl

pub ruleset pairs = (pair_of-call)

three : (x : Expr) (xs : List Expr) (a b : Expr) → two_names (trees (map tree_of (((x ∷ xs) ++ a ∷ []) ++ b ∷ [])))
    ≡ None
three x [] a b = refl
three x (y ∷ []) a b = refl
three x (y ∷ z ∷ zs) a b = refl

-- more than two expressions are no two names
pub no_pair : (first second : Option Expr) (i0 i1 i2 : List Expr) (n0 n1 n2 : ℕ) → i0 ≡ i1 ++ option_to_list second
    → i1 ≡ i2 ++ option_to_list first → MatchOption second ((n0 ≡ 0) × (n1 ≡ 0)) (λ _. n1 + 1 ≡ n0)
    → MatchOption first ((n1 ≡ 0) × (n2 ≡ 0)) (λ _. n2 + 1 ≡ n1) → n2 ≡ length i2 → (n2 ≡ 0 → ⊥)
    → ◌≡◌ {A = Option (Name × Name)} None (two_names (trees (map tree_of i0)))
no_pair None second i0 i1 i2 n0 n1 n2 e1 e2 c1 c2 l h = absurd (h c2.1)
no_pair (Some a) None i0 i1 i2 n0 n1 n2 e1 e2 c1 c2 l h = absurd (omega (arith, c1.1, c2))
no_pair (Some a) (Some b) i0 i1 [] n0 n1 n2 e1 e2 c1 c2 l h = absurd (h l)
no_pair (Some a) (Some b) i0 i1 (x ∷ xs) n0 n1 n2 e1 e2 c1 c2 l h =
    sym (ap (λ es. two_names (trees (map tree_of es))) (e1 ∙ ap (λ es. es ++ b ∷ []) e2) ∙ three x xs a b)
