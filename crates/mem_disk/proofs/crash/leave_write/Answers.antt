use Rattle.std.proofs.Common.{length, take, arith}
use Rattle.std.proofs.lemmas.List.{length-take}
use Rattle.mem_disk.proofs.Tears.{torn_by}
use Rattle.mem_disk.proofs.crash.leave_write.Goals as goal

pub returns-in_ok-overwrite-in-Front : goal.returns-in_ok-overwrite-in-Front
returns-in_ok-overwrite-in-Front c =
    torn_by c.args.at (length c.args.bytes.now) (take c.min.result c.args.bytes.now) c.args.file.now.items
    c.overwrite-in-Front.new.file.items c.in_ok-overwrite-in-Front.ensures.ok
    (omega (arith, length-take c.min.result c.args.bytes.now))
