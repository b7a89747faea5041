use Rattle.command_reports.specs.Faults.{fault_report}
use Rattle.command_reports.specs.declared.faults.Fault.TheVariants.{Memory}
use Rattle.command_reports.proofs.PrintLemmas.{reported}
use Rattle.command_reports.proofs.printing.print_out_of_memory.Goals as goal

pub returns : goal.returns
returns g c = reported
    (record {
      tells = g.O.Sink.tells_written;
      written = g.O.Sink.written c.args.out.now;
      faults = g.O.Sink.faults c.args.out.now;
    })
    (record {
      tells = g.O.Sink.tells_written;
      written = g.O.Sink.written c.send_all-printed.new.sink;
      faults = g.O.Sink.faults c.send_all-printed.new.sink;
    })
    (fault_report Memory) c.exit_status.result c.send_all-printed.result c.send_all-printed.ensures.sent
    c.send_all-printed.ensures.cause c.exit_status.ensures
