use Rattle.command_reports.proofs.PrintLemmas.{reported, sent_so}
use Rattle.command_reports.proofs.printing.print.Goals as goal

pub returns : goal.returns
returns g c = reported
    (record {
      tells = g.O.Sink.tells_written;
      written = g.O.Sink.written c.args.out.now;
      faults = g.O.Sink.faults c.args.out.now;
    })
    (record {
      tells = g.O.Sink.tells_written;
      written = g.O.Sink.written c.send_all-printed.new.sink;
      faults = g.O.Sink.faults c.send_all-printed.new.sink;
    })
    c.args.report.now c.exit_status.result c.send_all-printed.result
    (sent_so g.O.Sink.tells_written _ _ _ _ c.send_all-printed.result c.as_slice.ensures
    c.send_all-printed.ensures.sent)
    c.send_all-printed.ensures.cause c.exit_status.ensures
