use Rattle.std.proofs.Common.{map, take, Bor, List, ℕ}
use Rattle.module_links.proofs.StepLemmas.{adds_more, path_in, paths_taken, link_next, linked_as, unlinked_any}
use Rattle.module_links.specs.Links.{entry_names}
use Rattle.module_links.proofs.links.link.Goals as goal

pub returns-in-Ok-None-clause-adds : goal.returns-in-Ok-None-clause-adds
returns-in-Ok-None-clause-adds c =
    adds_more c.args.file.now c.path-item.result.now (map (λ (p : Bor (List ℕ)). p.now) c.args.paths.now)
    c.args.entries.now.items c.loop-path.entries.items c.link_path.new.entries.items
    (path_in c.args.paths.now c.loop-path.path-index c.path-item.result c.loop-path-test.true c.path-item.is)
    c.loop-path.invariant.adds c.in-Ok-None.ensures.adds

pub returns-in-Err-clause-unlinked : goal.returns-in-Err-clause-unlinked
returns-in-Err-clause-unlinked c =
    unlinked_any c.args.file.now c.path-item.result.now (map (λ (p : Bor (List ℕ)). p.now) c.args.paths.now)
    c.in-Err.fault
    (path_in c.args.paths.now c.loop-path.path-index c.path-item.result c.loop-path-test.true c.path-item.is)
    c.in-Err.ensures.unlinked

pub loop-path-preserved : goal.loop-path-preserved
loop-path-preserved c = record {
  few = rw c.in-Ok-Some.field-0-is at c.in-Ok-Some.ensures.few;
  linked = linked_as (entry_names c.link_path.new.entries.items) c.args.file.now _ _ _ _
      (paths_taken c.args.paths.now c.loop-path.path-index c.path-item.result c.loop-path-test.true c.path-item.is)
      c.in-Ok.ensures.items
      (link_next c.args.file.now c.path-item.result.now
      (map (λ (p : Bor (List ℕ)). p.now) (take c.loop-path.path-index c.args.paths.now)) c.loop-path.entries.items
      c.link_path.new.entries.items c.loop-path.numbers.items c.in-Ok-Some.number c.loop-path.invariant.linked
      c.in-Ok-Some.ensures.adds (rw c.in-Ok-Some.field-0-is at c.in-Ok-Some.ensures.linked));
  adds = adds_more c.args.file.now c.path-item.result.now (map (λ (p : Bor (List ℕ)). p.now) c.args.paths.now)
      c.args.entries.now.items c.loop-path.entries.items c.link_path.new.entries.items
      (path_in c.args.paths.now c.loop-path.path-index c.path-item.result c.loop-path-test.true c.path-item.is)
      c.loop-path.invariant.adds c.in-Ok-Some.ensures.adds;
}
