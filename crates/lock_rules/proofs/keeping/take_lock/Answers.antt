use Rattle.std.proofs.Common.{◌∙◌, Ok, Err, List, sym, subst}
use Rattle.std.specs.List.{remove}
use Rattle.lock_rules.specs.Searches.{IsFound, AreKept}
use Rattle.lock_rules.specs.declared.lock.Lock.{Lock}
use Rattle.lock_rules.specs.declared.place.Place.{Place}
use Rattle.lock_rules.proofs.KeepingLemmas.{within, within_places, lock_found, lock_missing, removed, kept}
use Rattle.lock_rules.proofs.keeping.take_lock.Goals as goal

pub take-requires : goal.take-requires
take-requires c =
    let P : List Place → Type 0 = λ places. IsFound c.args.place.now places (Ok c.in-Ok.i) in
    let found = subst P c.as_slice.ensures.value c.in-Ok.ensures in
    let same = c.requires.places_are in
    record {
      locks = within c.args.place.now c.args.places.now.items c.args.locks.now.items same c.in-Ok.i found;
      places = within_places c.args.place.now c.args.places.now.items c.args.locks.now.items same c.in-Ok.i found;
    }

pub returns-in-Ok-clause-kept : goal.returns-in-Ok-clause-kept
returns-in-Ok-clause-kept c =
    let P : List Place → Type 0 = λ places. IsFound c.args.place.now places (Ok c.in-Ok.i) in
    let found = subst P c.as_slice.ensures.value c.in-Ok.ensures in
    let r = removed c.args.place.now c.args.places.now.items c.args.locks.now.items c.requires.places_are c.in-Ok.i
    found c.requires.in_order in
    let Q : List Place → Type 0 = λ places. AreKept c.take.new.locks.items places in
    let R : List Lock → Type 0 = λ locks. AreKept locks (remove c.args.places.now.items c.in-Ok.i) in
    subst Q (sym c.take.ensures.places) (subst R (sym c.take.ensures.locks) r.kept)

pub returns-in-Ok-clause-taken : goal.returns-in-Ok-clause-taken
returns-in-Ok-clause-taken c =
    let P : List Place → Type 0 = λ places. IsFound c.args.place.now places (Ok c.in-Ok.i) in
    let found = subst P c.as_slice.ensures.value c.in-Ok.ensures in
    sym (lock_found c.args.place.now c.args.places.now.items c.args.locks.now.items c.requires.places_are c.in-Ok.i
    c.take.result found c.take.ensures.lock)

pub returns-in-Ok-clause-locks : goal.returns-in-Ok-clause-locks
returns-in-Ok-clause-locks c =
    let P : List Place → Type 0 = λ places. IsFound c.args.place.now places (Ok c.in-Ok.i) in
    let found = subst P c.as_slice.ensures.value c.in-Ok.ensures in
    c.take.ensures.locks
    ∙ (removed c.args.place.now c.args.places.now.items c.args.locks.now.items c.requires.places_are c.in-Ok.i found
    c.requires.in_order).locks_are

pub returns-in-Err-clause-taken : goal.returns-in-Err-clause-taken
returns-in-Err-clause-taken c =
    let P : List Place → Type 0 = λ places. IsFound c.args.place.now places (Err c.in-Err.field-0) in
    let found = subst P c.as_slice.ensures.value c.in-Err.ensures in
    sym (lock_missing c.args.place.now c.args.places.now.items c.args.locks.now.items c.requires.places_are
    c.in-Err.field-0 found)

pub returns-in-Err-clause-locks : goal.returns-in-Err-clause-locks
returns-in-Err-clause-locks c =
    let P : List Place → Type 0 = λ places. IsFound c.args.place.now places (Err c.in-Err.field-0) in
    let found = subst P c.as_slice.ensures.value c.in-Err.ensures in
    kept c.args.place.now c.args.places.now.items c.args.locks.now.items c.requires.places_are c.in-Err.field-0 found
