-- The level of a word.
use Rattle.std.proofs.Common.{◌≡◌, ℕ, Bool, true, false, List, Some, None, cond, codes, chars, sym, ap, ◌∙◌}
use Rattle.arm_value.specs.Look.{is_same_folded}
use Rattle.lock_rules.specs.Levels.{level_of}
use Rattle.lock_rules.specs.declared.level.Level.TheVariants.{CanNotDelete, ReadOnly}
use Rattle.lock_rules.proofs.WordLemmas.{chars_can_not_delete, chars_read_only}

first_is : (word : List ℕ) (b : Bool) → is_same_folded (chars (codes "CanNotDelete")) word ≡ b
    → is_same_folded (codes "CanNotDelete") word ≡ b
first_is word b e = ap (λ w. is_same_folded w word) (sym chars_can_not_delete) ∙ e

second_is : (word : List ℕ) (b : Bool) → is_same_folded (chars (codes "ReadOnly")) word ≡ b
    → is_same_folded (codes "ReadOnly") word ≡ b
second_is word b e = ap (λ w. is_same_folded w word) (sym chars_read_only) ∙ e

pub level_first : (word : List ℕ) → is_same_folded (chars (codes "CanNotDelete")) word ≡ true
    → level_of word ≡ Some CanNotDelete
level_first word e =
    ap (λ b. cond b (Some CanNotDelete) (cond (is_same_folded (codes "ReadOnly") word) (Some ReadOnly) None))
    (first_is word true e)

pub level_rest : (word : List ℕ) (b : Bool) → is_same_folded (chars (codes "CanNotDelete")) word ≡ false
    → is_same_folded (chars (codes "ReadOnly")) word ≡ b → level_of word ≡ cond b (Some ReadOnly) None
level_rest word b e f =
    ap (λ b. cond b (Some CanNotDelete) (cond (is_same_folded (codes "ReadOnly") word) (Some ReadOnly) None))
    (first_is word false e) ∙ ap (λ b. cond b (Some ReadOnly) None) (second_is word b f)
