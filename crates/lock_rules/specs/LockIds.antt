-- The ids of locks.
use Rattle.std.specs.Prelude.{ℕ, ◌++◌, List, codes}
use Rattle.arm_ids.specs.ScopeId.{scope_id}
use Rattle.lock_rules.specs.declared.lock.Lock.{Lock}

-- the id of a lock: the id of its scope, the fixed words, and its name
abbrev pub lock_id : Lock → List ℕ
lock_id lock = scope_id lock.scope ++ (codes "/providers/Microsoft.Authorization/locks/" ++ lock.name)
