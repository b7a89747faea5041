use Rattle.std.proofs.Common.{◌≡◌, ◌<◌, Ok, Err, subst, vec_items}
use Rattle.deploy_core.specs.Endings.{IsTrueEnding}
use Rattle.deploy_core.specs.Names.{name_of}
use Rattle.deploy_histories.specs.Events.{progress}
use Rattle.deploy_histories.specs.Legal.{HasEnded}
use Rattle.deployment_runs.specs.declared.fault.RunFault.TheVariants.{Provider, OutOfMemory}
use Rattle.run_reports.proofs.RunLemmas.{reported_run, only_ended, not_ended, never_by, memory_by, says_ended}
use Rattle.run_reports.proofs.RunLemmas.{says_failed, none_before, failed_as, says_nothing}
use Rattle.run_reports.specs.Reported.{SaysRun}
use Rattle.run_reports.proofs.running.run_board.Goals as goal

pub returns-in-Ok-clause-reported : goal.returns-in-Ok-clause-reported
returns-in-Ok-clause-reported g c =
    let x = g.S.Standings.planned c.args.board.0 in
    let h = c.run_to_end.new.board.1.events in
    let e = c.run_to_end.ensures in
    reported_run g.P.Provider.may g.P.Provider.tells g.P.Provider.calls g.P.Provider.faults g.S.Standings.tells
    (vec_items c.args.seats.now) (vec_items c.run_to_end.new.seats) x h (Ok c.in-Ok.ending)
    (name_of g.S.Standings.titled x) c.args.name.now c.outcome.result c.outcome.ensures.history e.legal e.run
    (c.answers_were_given.ensures x h (vec_items c.args.seats.now) (vec_items c.run_to_end.new.seats) e.legal
    (none_before h c.args.board.1.events e.past c.requires.nothing) e.run)
    (only_ended (λ d. HasEnded x (progress h) × IsTrueEnding g.S.Standings.tells x (progress h) d) c.in-Ok.ending
    c.in-Ok.ensures.ending)
    (λ k i. never_by c.in-Ok.ending k _ i)
    (says_ended g.S.Standings.titled x (g.S.Standings.planned c.run_to_end.new.board.0) c.args.name.now c.in-Ok.ending
    c.report-report.result c.outcome.result.report e.planned c.outcome.ensures.report
    c.report-report.ensures.says c.report-report.ensures.status)

pub returns-in-Err-Provider-clause-reported : goal.returns-in-Err-Provider-clause-reported
returns-in-Err-Provider-clause-reported g c =
    let is = c.in-Err-Provider.field-0-is in
    let same : c.in-Err-Provider.field-0 ≡ Provider c.in-Err-Provider.seat = cc in
    let x = g.S.Standings.planned c.args.board.0 in
    let h = c.run_to_end.new.board.1.events in
    let e = c.run_to_end.ensures in
    reported_run g.P.Provider.may g.P.Provider.tells g.P.Provider.calls g.P.Provider.faults g.S.Standings.tells
    (vec_items c.args.seats.now) (vec_items c.run_to_end.new.seats) x h (Err (Provider c.in-Err-Provider.seat))
    (name_of g.S.Standings.titled x) c.args.name.now c.outcome-in-Err-Provider.result
    c.outcome-in-Err-Provider.ensures.history e.legal e.run
    (c.answers_were_given.ensures x h (vec_items c.args.seats.now) (vec_items c.run_to_end.new.seats) e.legal
    (none_before h c.args.board.1.events e.past c.requires.nothing) e.run)
    (not_ended (λ d. HasEnded x (progress h) × IsTrueEnding g.S.Standings.tells x (progress h) d)
    (Provider c.in-Err-Provider.seat))
    (λ k i.
    let f = c.in-Err-Provider.ensures.failed k
    (failed_as c.in-Err-Provider.field-0 (Provider c.in-Err-Provider.seat) k same i) in
    (subst (λ n. k < n) c.args.seats.now.ok.0 f.0, f.1))
    (says_failed (name_of g.S.Standings.titled x) c.args.name.now c.in-Err-Provider.seat c.fault_report.result
    c.outcome-in-Err-Provider.result.report c.outcome-in-Err-Provider.ensures.report c.fault_report.ensures)

pub returns-in-Err-OutOfMemory-clause-reported : goal.returns-in-Err-OutOfMemory-clause-reported
returns-in-Err-OutOfMemory-clause-reported g c =
    let x = g.S.Standings.planned c.args.board.0 in
    let h = c.run_to_end.new.board.1.events in
    let e = c.run_to_end.ensures in
    reported_run g.P.Provider.may g.P.Provider.tells g.P.Provider.calls g.P.Provider.faults g.S.Standings.tells
    (vec_items c.args.seats.now) (vec_items c.run_to_end.new.seats) x h (Err OutOfMemory)
    (name_of g.S.Standings.titled x) c.args.name.now c.outcome-in-Err-OutOfMemory.result
    c.outcome-in-Err-OutOfMemory.ensures.history e.legal e.run
    (c.answers_were_given.ensures x h (vec_items c.args.seats.now) (vec_items c.run_to_end.new.seats) e.legal
    (none_before h c.args.board.1.events e.past c.requires.nothing) e.run)
    (not_ended (λ d. HasEnded x (progress h) × IsTrueEnding g.S.Standings.tells x (progress h) d) OutOfMemory)
    (λ k i. memory_by k _ i)
    (says_nothing (SaysRun (name_of g.S.Standings.titled x) c.args.name.now (Err OutOfMemory))
    c.outcome-in-Err-OutOfMemory.result.report _ c.outcome-in-Err-OutOfMemory.ensures.report)
