use Rattle.std.proofs.Common.{◌≡◌, sym, subst}
use Rattle.std.specs.Prelude.{Result, Err}
use Rattle.bicep_found.specs.declared.stop.Stop.{Stop}
use Rattle.bicep_found.specs.Found.{Found, Gives}
use Rattle.bicep_found.proofs.FoundLemmas.{one_gives, one_err}
use Rattle.bicep_declared.specs.View.{file_tree}
use Rattle.resolved_program.specs.Programs.{ResolvedFileTree}
use Rattle.resolved_program.specs.declared.resolved.ResolvedFile.{ResolvedFile}
use Rattle.resolved_program.specs.View.{file_view}
use Rattle.resolved_program.proofs.resolving.resolved_by.Goals as goal

pub returns-in-Ok : goal.returns-in-Ok
returns-in-Ok c = λ f p. one_gives file_tree file_view _ _ c.in-Ok.declared f _ c.in-Ok.is p c.with_declared.ensures

by_fault : (r : Result ResolvedFile Stop) (why : Stop) (g : Found ResolvedFileTree) → r ≡ Err why
    → Gives file_view (Err why) g → Gives file_view r g
by_fault r why g e h = subst (λ (x : Result ResolvedFile Stop). Gives file_view x g) (sym e) h

pub returns-in-Err : goal.returns-in-Err
returns-in-Err c =
    λ f p. by_fault _ _ _ c.lacks.ensures (one_err file_tree file_view _ _ c.in-Err.stop f c.in-Err.is p)
