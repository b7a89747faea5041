use Rattle.std.proofs.Common.{◌≡◌, ◌∙◌, subst, length, map, chars, refl, arith}
use Rattle.std.proofs.lemmas.List.{length-map}
use Rattle.bicep_program.specs.Sources.{folder_of}
use Rattle.bicep_program.specs.Program.{links_of, program_file}
use Rattle.bicep_program.specs.Graphs.{AreWithin}
use Rattle.bicep_program.proofs.EndLemmas.{all_within, program_ok, circle_err}
use Rattle.bicep_program.proofs.program.load.Goals as goal

pub returns-in-Err-clause-fault : goal.returns-in-Err-clause-fault
returns-in-Err-clause-fault g c =
    c.in-Err.ensures.fault (folder_of g.T.Tree.tells_files (g.T.Tree.file c.args.tree.now))

pub returns-in-Err-clause-count : goal.returns-in-Err-clause-count
returns-in-Err-clause-count g c = c.in-Err.ensures.count (g.T.Tree.faults c.args.tree.now)

pub loop-tree-init : goal.loop-tree-init
loop-tree-init g c = record {
  come = rw c.new-files.ensures.items
      (c.in-Ok.ensures.come (folder_of g.T.Tree.tells_files (g.T.Tree.file c.args.tree.now)));
  few = omega (arith, c.in-Ok.ensures.one);
  within = rw c.new-files.ensures.items (omega arith);
  file = refl;
  faults = refl;
}

pub program_of-requires-clause-within : goal.program_of-requires-clause-within
program_of-requires-clause-within g c =
    let all : length c.loop-tree.files.items ≡ length c.loop-tree.entries.items =
    omega (
      arith,
      c.loop-tree-test.false,
      c.loop-tree.invariant.within,
      c.len.ensures,
      c.len-in-loop-tree.ensures,
      c.loop-tree.files.ok.0,
      c.loop-tree.entries.ok.0,
    ) in
    subst (λ n. AreWithin n (links_of (map program_file c.loop-tree.files.items)))
    (length-map c.loop-tree.files.items program_file)
    (all_within (folder_of g.T.Tree.tells_files (g.T.Tree.file c.args.tree.now)) (chars c.args.main.now)
    c.loop-tree.entries.items (map program_file c.loop-tree.files.items) c.loop-tree.invariant.come
    (length-map c.loop-tree.files.items program_file ∙ all))

pub returns-clause-program : goal.returns-clause-program
returns-clause-program g c =
    let all : length c.loop-tree.files.items ≡ length c.loop-tree.entries.items =
    omega (
      arith,
      c.loop-tree-test.false,
      c.loop-tree.invariant.within,
      c.len.ensures,
      c.len-in-loop-tree.ensures,
      c.loop-tree.files.ok.0,
      c.loop-tree.entries.ok.0,
    ) in
    program_ok c.program_of.result (folder_of g.T.Tree.tells_files (g.T.Tree.file c.args.tree.now))
    (chars c.args.main.now) c.loop-tree.entries.items (map program_file c.loop-tree.files.items)
    c.loop-tree.invariant.come (length-map c.loop-tree.files.items program_file ∙ all)
    (rw length-map (omega (arith, all, c.loop-tree.invariant.few))) c.program_of.ensures.files
    c.program_of.ensures.circle_free

pub returns-clause-fault : goal.returns-clause-fault
returns-clause-fault g c =
    let all : length c.loop-tree.files.items ≡ length c.loop-tree.entries.items =
    omega (
      arith,
      c.loop-tree-test.false,
      c.loop-tree.invariant.within,
      c.len.ensures,
      c.len-in-loop-tree.ensures,
      c.loop-tree.files.ok.0,
      c.loop-tree.entries.ok.0,
    ) in
    circle_err c.program_of.result (folder_of g.T.Tree.tells_files (g.T.Tree.file c.args.tree.now))
    (chars c.args.main.now) c.loop-tree.entries.items (map program_file c.loop-tree.files.items)
    c.loop-tree.invariant.come (length-map c.loop-tree.files.items program_file ∙ all) c.program_of.ensures.fault
