use Rattle.std.proofs.Common.{ap}
use Rattle.reading.specs.Knowledge.{told}
use Rattle.arm_env.specs.Look.{named}
use Rattle.arm_eval.specs.Titles.{held_back, key_sought, title_of}
use Rattle.arm_eval.specs.Words.{titles_in}
use Rattle.arm_eval.proofs.CellLemmas.{titled_named}
use Rattle.arm_eval.proofs.titles.TitledEntries.named.Goals as goal

pub returns-in-Ok : goal.returns-in-Ok
returns-in-Ok g c =
    let ts = titles_in c.args.self.now.titles.now in
    let p = g.K.Entries.known c.args.self.now.entries.now in
    rw (titled_named p ts c.args.self.now.place.now c.args.text.now)
    (ap (held_back (named c.args.text.now)) c.in-Ok.ensures)

pub returns-in-Err : goal.returns-in-Err
returns-in-Err g c =
    let ts = titles_in c.args.self.now.titles.now in
    let p = g.K.Entries.known c.args.self.now.entries.now in
    rw (titled_named p ts c.args.self.now.place.now c.args.text.now)
    (c.held_back.ensures
    (told p (key_sought ts c.args.self.now.place.now (title_of ts.symbols c.args.text.now))) c.in-Err.ensures)
