-- The positions of scopes in the names of tasks.
use Rattle.std.specs.Prelude.{ℕ, List, codes, if◌then◌else◌}
use Rattle.arm_ids.specs.Segments.{is_empty}
use Rattle.deploy_cells.specs.Cells.{Position}
use Rattle.deploy_histories.specs.Planned.{Planned}
use Rattle.plan_paths.specs.Texts.{a_position, scope_text}

-- `/` in the place of the empty text, which is that of the root
abbrev pub or_root : List ℕ → List ℕ
or_root text = if is_empty text then codes "/" else text

-- the position of a scope: `/` for the root
abbrev pub title : Planned → Position → List ℕ
title x q = or_root (scope_text a_position x.deployment.template q)
