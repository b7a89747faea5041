use Rattle.std.proofs.Common.{◌∷◌, []}
use Rattle.emitted_expressions.specs.Emitted.{no_value}
use Rattle.ordered_emissions.specs.Holes.{fill, holes, nearest}
use Rattle.emitted_sizes.specs.Extent.{IsOf}
use Rattle.declared_table.specs.Seen.{whole_in, is_known}
use Rattle.declared_table.proofs.PartLemmas.{part_there, part_absent}
use Rattle.declared_table.proofs.sizes.TableSizes.name.Goals as goal

pub returns-in-Some : goal.returns-in-Some
returns-in-Some c = λ fs h.
    let s = c.args.self.now in
    let n = c.args.number in
    let own = (whole_in s).scope.name n (holes ∷ []) in
    part_there (λ t. IsOf t c.filled.result) (is_known s n) (fill (nearest fs) own) no_value c.in-Some.ensures.known
    (c.filled.ensures own (nearest fs) c.in-Some.ensures.entry.name.grows (c.run_of.ensures fs h))

pub returns-in-None : goal.returns-in-None
returns-in-None c = λ fs h.
    let s = c.args.self.now in
    let n = c.args.number in
    part_absent (λ t. IsOf t c.no_value.result) (is_known s n)
    (fill (nearest fs) ((whole_in s).scope.name n (holes ∷ []))) no_value c.in-None.ensures.known c.no_value.ensures
