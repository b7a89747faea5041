-- The levels of locks.
use Rattle.std.specs.Prelude.{ℕ, Bool, true, false, List, Option, Some, None, codes, if◌then◌else◌}
use Rattle.arm_value.specs.Look.{is_same_folded}
use Rattle.lock_rules.specs.declared.level.Level.{Level}
use Rattle.lock_rules.specs.declared.level.Level.TheVariants.{CanNotDelete, ReadOnly}

-- the word of a level
abbrev pub word_of : Level → List ℕ
word_of CanNotDelete = codes "CanNotDelete"
word_of ReadOnly = codes "ReadOnly"

-- the level of a word, in letters of any case
abbrev pub level_of : List ℕ → Option Level
level_of word =
    if is_same_folded (codes "CanNotDelete") word then Some CanNotDelete else
    (if is_same_folded (codes "ReadOnly") word then Some ReadOnly else None)

-- whether a level forbids a put
abbrev pub forbids_put : Level → Bool
forbids_put CanNotDelete = false
forbids_put ReadOnly = true

-- whether a level forbids a deletion: each does
abbrev pub forbids_deletion : Level → Bool
forbids_deletion CanNotDelete = true
forbids_deletion ReadOnly = true
