use Rattle.std.proofs.Common.{◌∙◌, Ok, Err, List, sym, subst}
use Rattle.std.specs.Prelude.{slice_set}
use Rattle.lock_rules.specs.Searches.{IsFound, AreKept}
use Rattle.lock_rules.specs.declared.lock.Lock.{Lock}
use Rattle.lock_rules.specs.declared.place.Place.{Place}
use Rattle.lock_rules.proofs.KeepingLemmas.{within, within_places, up_to, up_to_places, replaced, added_where}
use Rattle.lock_rules.proofs.keeping.put_lock.Goals as goal

pub replace-requires : goal.replace-requires
replace-requires c =
    let P : List Place → Type 0 = λ places. IsFound c.args.place places (Ok c.in-Ok.i) in
    let found = subst P c.as_slice.ensures.value c.in-Ok.ensures in
    let kept = c.requires.kept in
    record {
      locks = within c.args.place c.args.places.now.items c.args.locks.now.items kept.places_are c.in-Ok.i found;
      places =
          within_places c.args.place c.args.places.now.items c.args.locks.now.items kept.places_are c.in-Ok.i found;
    }

pub returns-in-Ok-clause-kept : goal.returns-in-Ok-clause-kept
returns-in-Ok-clause-kept c =
    let P : List Place → Type 0 = λ places. IsFound c.args.place places (Ok c.in-Ok.i) in
    let found = subst P c.as_slice.ensures.value c.in-Ok.ensures in
    let kept = c.requires.kept in
    let r = replaced c.args.lock c.args.place c.args.places.now.items c.args.locks.now.items kept.places_are
    c.requires.its kept.in_order c.in-Ok.i found in
    let Q : List Place → Type 0 = λ places. AreKept c.replace.new.locks.items places in
    let R : List Lock → Type 0 = λ locks. AreKept locks (slice_set c.args.places.now.items c.in-Ok.i c.args.place) in
    subst Q (sym c.replace.ensures.places) (subst R (sym c.replace.ensures.locks) r.kept)

pub returns-in-Ok-clause-locks : goal.returns-in-Ok-clause-locks
returns-in-Ok-clause-locks c =
    let P : List Place → Type 0 = λ places. IsFound c.args.place places (Ok c.in-Ok.i) in
    let found = subst P c.as_slice.ensures.value c.in-Ok.ensures in
    let kept = c.requires.kept in
    c.replace.ensures.locks
    ∙ (replaced c.args.lock c.args.place c.args.places.now.items c.args.locks.now.items kept.places_are
    c.requires.its kept.in_order c.in-Ok.i found).locks_are

pub add-requires : goal.add-requires
add-requires c =
    let P : List Place → Type 0 = λ places. IsFound c.args.place places (Err c.in-Err.i) in
    let found = subst P c.as_slice.ensures.value c.in-Err.ensures in
    let kept = c.requires.kept in
    record {
      locks = up_to c.args.place c.args.places.now.items c.args.locks.now.items kept.places_are c.in-Err.i found;
      places =
          up_to_places c.args.place c.args.places.now.items c.args.locks.now.items kept.places_are c.in-Err.i found;
    }

pub returns-in-Err-clause-kept : goal.returns-in-Err-clause-kept
returns-in-Err-clause-kept c =
    let P : List Place → Type 0 = λ places. IsFound c.args.place places (Err c.in-Err.i) in
    let found = subst P c.as_slice.ensures.value c.in-Err.ensures in
    let kept = c.requires.kept in
    (added_where c.args.lock c.args.place c.args.places.now.items c.args.locks.now.items kept.places_are c.requires.its
    kept.in_order c.add.result c.in-Err.i _ _ found c.add.ensures.locks c.add.ensures.places).kept

pub returns-in-Err-clause-locks : goal.returns-in-Err-clause-locks
returns-in-Err-clause-locks c =
    let P : List Place → Type 0 = λ places. IsFound c.args.place places (Err c.in-Err.i) in
    let found = subst P c.as_slice.ensures.value c.in-Err.ensures in
    let kept = c.requires.kept in
    (added_where c.args.lock c.args.place c.args.places.now.items c.args.locks.now.items kept.places_are c.requires.its
    kept.in_order c.add.result c.in-Err.i _ _ found c.add.ensures.locks c.add.ensures.places).locks_are
