use Rattle.std.proofs.Common.{◌≤◌, length, map, take, Bor, List, ℕ}
use Rattle.module_links.specs.Links.{entry_names, AreLinked, Adds}
use Rattle.module_links.proofs.links.link.Given as goal

abbrev pub invariant-loop-path : goal.invariant-loop-path
invariant-loop-path l = record {
  few : length l.entries.items ≤ 65;
  linked : AreLinked (entry_names l.entries.items) l.file
      (map (λ (p : Bor (List ℕ)). p.now) (take l.path-index l.paths)) l.numbers.items;
  adds : Adds l.file (map (λ (p : Bor (List ℕ)). p.now) l.paths) l.initial.entries.items l.entries.items;
}
