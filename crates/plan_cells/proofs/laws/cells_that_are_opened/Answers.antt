use Rattle.plan_cells.proofs.ApartLemmas.{roots_apart, children_apart}
use Rattle.plan_cells.proofs.ChildLemmas.{root_is, child_is}
use Rattle.plan_cells.proofs.UndeclaredLemmas.{undeclared, undeclared_root}
use Rattle.plan_cells.proofs.laws.cells_that_are_opened.Goals as goal

pub returns : goal.returns
returns c = record {
  roots = root_is;
  children = λ d c v e h. let i = child_is d c v e h in (i.has_parent, (i.admitted, i.no_state));
  once = λ d n. (roots_apart d n, λ c v. children_apart d n c v);
  all_roots = undeclared_root;
  all_children = undeclared;
}
