use Rattle.std.proofs.Common.{inl, chars}
use Rattle.bicep_program.specs.Sources.{folder_of}
use Rattle.source_builds.proofs.BuildLemmas.{of_loaded, load_refused, tells_tree, untroubled}
use Rattle.source_builds.proofs.building.build_source.Goals as goal

pub build_program-built-requires : goal.build_program-built-requires
build_program-built-requires g c =
    (folder_of g.T.Tree.tells_files (g.T.Tree.file c.args.tree.now), (chars c.args.main.now, c.in-Ok.ensures.program))

pub returns-in-Ok-clause-built : goal.returns-in-Ok-clause-built
returns-in-Ok-clause-built g c =
    of_loaded (folder_of g.T.Tree.tells_files (g.T.Tree.file c.args.tree.now)) c.in-Ok.program c.args.main.now
    c.args.form c.build_program-built.result c.letting_go.result c.letting_go.ensures c.in-Ok.ensures.program
    c.build_program-built.ensures

pub returns-in-Ok-clause-tree : goal.returns-in-Ok-clause-tree
returns-in-Ok-clause-tree g c =
    inl (
      c.in-Ok.ensures.uncounted,
      untroubled (folder_of g.T.Tree.tells_files (g.T.Tree.file c.args.tree.now)) c.in-Ok.program c.args.main.now
          c.args.form c.build_program-built.result c.letting_go.result c.letting_go.ensures c.in-Ok.ensures.program
          c.build_program-built.ensures,
    )

pub returns-in-Err-clause-built : goal.returns-in-Err-clause-built
returns-in-Err-clause-built g c =
    load_refused (folder_of g.T.Tree.tells_files (g.T.Tree.file c.args.tree.now)) c.args.main.now c.args.form
    c.in-Err.fault c.load_report-report.result c.letting_go-in-Err.result c.refused.result c.in-Err.ensures.fault
    c.load_report-report.ensures c.letting_go-in-Err.ensures c.refused.ensures

pub returns-in-Err-clause-tree : goal.returns-in-Err-clause-tree
returns-in-Err-clause-tree g c =
    tells_tree _ _ c.args.main.now c.in-Err.fault c.load_report-report.result c.letting_go-in-Err.result
    c.refused.result c.in-Err.ensures.count c.load_report-report.ensures c.letting_go-in-Err.ensures
    c.refused.ensures
