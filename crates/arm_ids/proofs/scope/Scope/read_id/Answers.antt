use Rattle.std.proofs.Common.{chars, sym, ap, ◌∙◌}
use Rattle.arm_ids.specs.ScopeId.{container_of}
use Rattle.arm_ids.proofs.ScopeIdLemmas.{found_scope, only_scope}
use Rattle.arm_ids.proofs.scope.Scope.read_id.Goals as goal

pub returns-in-Some-clause-ok : goal.returns-in-Some-clause-ok
returns-in-Some-clause-ok c =
    found_scope (chars c.args.id.now) _ c.in-Some.scope
    (sym c.in_ok-segments.ensures ∙ sym c.as_slice.ensures)
    (sym c.in_ok-scope.ensures ∙ c.in-Some.is)

pub returns-in-Some-clause-only : goal.returns-in-Some-clause-only
returns-in-Some-clause-only c =
    only_scope (chars c.args.id.now) c.in-Some.scope
    (ap container_of (sym c.in_ok-segments.ensures ∙ sym c.as_slice.ensures)
    ∙ sym c.in_ok-scope.ensures ∙ c.in-Some.is)

pub resource-requires : goal.resource-requires
resource-requires c =
    ap container_of (sym c.in_ok-segments.ensures ∙ sym c.as_slice.ensures)
    ∙ sym c.in_ok-scope.ensures ∙ c.in-None.is
