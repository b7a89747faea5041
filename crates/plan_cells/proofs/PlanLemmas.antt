-- What is told at the start is so in each desired state.
use Rattle.std.proofs.Common.{◌≡◌, List, Option, Some, subst}
use Rattle.template_parameters.specs.Json.{Json}
use Rattle.deploy_cells.specs.Held.{HeldResource}
use Rattle.reading.specs.World.{value_in}
use Rattle.reading.specs.Knowledge.{told, value, Completes}
use Rattle.template_parameters.specs.Mode.{Mode}
use Rattle.deploy_cells.specs.Cells.{Cell, parameter, variable, offered, output, count, included, name, deployments, state, World}
use Rattle.plan_cells.specs.Known.{outright, Table, IsTrueIn}
use Rattle.plan_cells.specs.Meaning.{Deployment, meaning}
use Rattle.plan_cells.specs.Desired.{Satisfies}
use Rattle.plan_cells.specs.Start.{start, IsStart, IsSo}
use Rattle.plan_cells.specs.Tasks.{Task, Work, work}
use Rattle.plan_cells.specs.Needs.{needs}
use Rattle.plan_cells.proofs.KnownLemmas.{completes, told_so}

-- at the start nothing is known outright
nothing : (c : Cell) (o : Option Json) → start c ≡ outright o → ⊥
nothing (parameter p x) o e = cc
nothing (variable p x) o e = cc
nothing (offered p x) o e = cc
nothing (output p x) o e = cc
nothing (count p r) o e = cc
nothing (included p s) o e = cc
nothing (name p s) o e = cc
nothing (deployments p) o e = cc
nothing (state k) o e = cc

pub true_at_start : (w : World) → IsTrueIn w start
true_at_start w c o e = absurd (nothing c o e)

module _ (d : Deployment) (held : List HeldResource) (q : Table) (s : IsStart d q) (w : World)
    (h : Satisfies d held w) where
  all : Completes q w
  all = completes (meaning d) start w h.is_world (true_at_start w) q s

  pub same_work : (mode : Mode) (x : Work) → told q (work d mode held) ≡ value x
      → value_in w (work d mode held) ≡ Some x
  same_work mode x e = subst (IsSo w (work d mode held)) e (told_so Work w q all (work d mode held))

  pub same_needs : (u v : Task) → IsSo w (needs d u v) (told q (needs d u v))
  same_needs u v = told_so _ w q all (needs d u v)
