use Rattle.std.proofs.Common.{◌∷◌, [], map, sym, subst}
use Rattle.ordered_emissions.specs.Holes.{fill, holes, nearest}
use Rattle.kept_parts.specs.Declared.{id_of_parts}
use Rattle.emitted_expressions.specs.Built.{Is}
use Rattle.emitted_expressions.specs.Sight.{frames_of}
use Rattle.kept_parts.specs.Kept.{AreKeptHoles}
use Rattle.declared_table.specs.Seen.{file_in, whole_in}
use Rattle.declared_table.proofs.RunLemmas.{id_built, no_id_built}
use Rattle.declared_table.proofs.table.Table.id_of.Goals as goal

pub returns-in_ok-kind : goal.returns-in_ok-kind
returns-in_ok-kind c =
    let s = c.args.self.now in
    let n = c.args.number in
    let f = nearest (frames_of c.args.turns.now) in
    let parts = (whole_in s).parts n (holes ∷ []) in
    id_built (file_in s) (whole_in s) n f c.id_in.result c.args.entry.now.is_resource c.if-entry.true c.requires.id
    (subst (λ k. Is (id_of_parts k (map (fill f) parts)) c.id_in.result) c.in_ok-kind.ensures
    (c.id_in.ensures parts (subst (AreKeptHoles parts) (sym c.as_slice.ensures.value) c.requires.parts)))

pub returns-else-entry : goal.returns-else-entry
returns-else-entry c =
    let s = c.args.self.now in
    no_id_built (file_in s) (whole_in s) c.args.number (nearest (frames_of c.args.turns.now)) c.no_value.result
    c.args.entry.now.is_resource c.if-entry.false c.requires.id c.no_value.ensures
