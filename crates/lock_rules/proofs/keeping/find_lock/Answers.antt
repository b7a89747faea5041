use Rattle.std.proofs.Common.{sym}
use Rattle.lock_rules.proofs.KeepingLemmas.{within, lock_found, lock_missing}
use Rattle.lock_rules.proofs.keeping.find_lock.Goals as goal

pub bounds-locks-i : goal.bounds-locks-i
bounds-locks-i c =
    within c.args.place.now c.args.places.now c.args.locks.now c.requires.places_are c.in-Ok.i c.in-Ok.ensures

pub returns-in-Ok : goal.returns-in-Ok
returns-in-Ok c =
    sym (lock_found c.args.place.now c.args.places.now c.args.locks.now c.requires.places_are c.in-Ok.i
    c.index-locks-i.result c.in-Ok.ensures c.index-locks-i.is)

pub returns-in-Err : goal.returns-in-Err
returns-in-Err c =
    sym (lock_missing c.args.place.now c.args.places.now c.args.locks.now c.requires.places_are c.in-Err.field-0
    c.in-Err.ensures)
