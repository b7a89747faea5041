use Rattle.std.proofs.Common.{inl, refl, sym, subst, ap}
use Rattle.command_refusals.specs.Requests.{parameter_report}
use Rattle.command_words.specs.Commands.{deploy_asked}
use Rattle.command_words.specs.Reading.{text_of}
use Rattle.request_deployments.proofs.RequestLemmas.{of_words, down, tells_file, untroubled}
use Rattle.request_deployments.specs.Requested.{AreGiven}
use Rattle.request_deployments.proofs.deploying.deploy_bytes.Goals as goal

pub returns-in-Ok-clause-came : goal.returns-in-Ok-clause-came
returns-in-Ok-clause-came g c =
    of_words g.P.Provider.may g.P.Provider.tells g.P.Provider.faults g.P.Provider.calls c.args.seats.now
    c.deploy_given.new.seats c.deploy_given.result
    (record { told = g.T.Tree.tells_files; file = g.T.Tree.file c.args.tree.now }) (deploy_asked c.args.deploy.now)
    c.args.bytes.now c.in-Ok.given
    (subst (λ o. AreGiven (record { told = g.T.Tree.tells_files; file = g.T.Tree.file c.args.tree.now }) (text_of o)
    c.in-Ok.given) (sym c.in-Some.is) c.in-Ok.ensures.answer) c.deploy_given.ensures

pub returns-in-Ok-clause-tree : goal.returns-in-Ok-clause-tree
returns-in-Ok-clause-tree g c =
    inl (
      c.in-Ok.ensures.counts,
      untroubled g.P.Provider.may g.P.Provider.tells g.P.Provider.faults g.P.Provider.calls c.args.seats.now
          c.deploy_given.new.seats c.deploy_given.result (deploy_asked c.args.deploy.now) c.args.bytes.now c.in-Ok.given
          c.deploy_given.ensures,
    )

pub returns-in-Err-clause-came : goal.returns-in-Err-clause-came
returns-in-Err-clause-came g c =
    down g.P.Provider.may g.P.Provider.tells g.P.Provider.faults g.P.Provider.calls c.args.seats.now
    c.refused.result c.refused.result c.parameter_report.result _
    (parameter_report c.in-Some.file.now c.in-Err.fault) _ _ refl c.requires.ready c.refused.ensures
    c.parameter_report.ensures
    (inl (record {
      file = c.in-Some.file.now;
      named = ap text_of c.in-Some.is;
      fault = c.in-Err.fault;
      answer = c.in-Err.ensures.answer;
      report = refl;
    }))

pub returns-in-Err-clause-tree : goal.returns-in-Err-clause-tree
returns-in-Err-clause-tree g c =
    tells_file _ _ c.in-Some.file.now c.in-Err.fault c.parameter_report.result c.refused.result
    c.in-Err.ensures.counts c.parameter_report.ensures c.refused.ensures

pub returns-in-None-clause-came : goal.returns-in-None-clause-came
returns-in-None-clause-came g c =
    of_words g.P.Provider.may g.P.Provider.tells g.P.Provider.faults g.P.Provider.calls c.args.seats.now
    c.deploy_given-in-None.new.seats c.deploy_given-in-None.result
    (record { told = g.T.Tree.tells_files; file = g.T.Tree.file c.args.tree.now }) (deploy_asked c.args.deploy.now)
    c.args.bytes.now c.new.result
    (subst (λ o. AreGiven (record { told = g.T.Tree.tells_files; file = g.T.Tree.file c.args.tree.now }) (text_of o)
    c.new.result) (sym c.in-None.is) c.new.ensures) c.deploy_given-in-None.ensures

pub returns-in-None-clause-tree : goal.returns-in-None-clause-tree
returns-in-None-clause-tree g c =
    inl (
      refl,
      untroubled g.P.Provider.may g.P.Provider.tells g.P.Provider.faults g.P.Provider.calls c.args.seats.now
          c.deploy_given-in-None.new.seats c.deploy_given-in-None.result (deploy_asked c.args.deploy.now)
          c.args.bytes.now c.new.result c.deploy_given-in-None.ensures,
    )
