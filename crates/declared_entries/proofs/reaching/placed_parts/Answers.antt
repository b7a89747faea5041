use Rattle.std.proofs.Common.{◌∷◌, [], map, sym, subst}
use Rattle.emission_laws.specs.Holes.{fill, holes}
use Rattle.kept_expressions.specs.Kept.{AreKeptHoles}
use Rattle.declared_table.specs.Seen.{whole_in, is_known}
use Rattle.declared_entries.proofs.KnownLemmas.{list_known}
use Rattle.declared_entries.proofs.reaching.placed_parts.Goals as goal

pub returns-in-Some : goal.returns-in-Some
returns-in-Some c = λ f h.
    let s = c.args.table.now in
    let n = c.args.number in
    let own = (whole_in s).parts n (holes ∷ []) in
    list_known c.placed_all.result (is_known s n) (map (fill f) own) c.in-Some.ensures.known
    (c.placed_all.ensures own f
    (subst (λ ks. AreKeptHoles own ks) (sym c.as_slice.ensures.value) c.in-Some.ensures.entry.parts) h)
