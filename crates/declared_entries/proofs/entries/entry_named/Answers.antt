use Rattle.std.proofs.Common.{◌∷◌, [], sym, subst}
use Rattle.std.specs.Prelude.{IfOk, Ok, option_map, option_and_then}
use Rattle.bicep_declared.specs.View.{declared_tree}
use Rattle.bicep_meaning.specs.Declared.{body_of}
use Rattle.bicep_meaning.specs.Files.{parent}
use Rattle.emission_laws.specs.Holes.{holes}
use Rattle.emitted_declarations.specs.Declared.{variable_of, over, name_by, full_name_by, condition_of, parts_at}
use Rattle.kept_expressions.specs.Kept.{IsKept, IsKeptHoles, AreKeptHoles}
use Rattle.declared_table.specs.Seen.{file_in, files_in, emission_in}
use Rattle.declared_entries.specs.Parents.{parent_of}
use Rattle.declared_entries.proofs.PairLemmas.{both_are}
use Rattle.declared_entries.proofs.SoundLemmas.{has_parent}
use Rattle.declared_entries.proofs.entries.entry_named.Goals as goal

pub full_name-requires-clause-parent : goal.full_name-requires-clause-parent
full_name-requires-clause-parent c =
    has_parent (file_in c.args.table.now) c.args.number (parent_of c.up_of-up.result) c.requires.sound
    c.up_of-up.ensures

pub returns : goal.returns
returns c =
    let s = c.args.table.now in
    let file = file_in s in
    let files = files_in s in
    let b = emission_in s in
    let n = c.args.number in
    let o = option_map (λ d. declared_tree d.now) c.args.declared in
    let own = name_by file files b n o (holes ∷ []) in
    c.entry_with.ensures file files b n o
    (both_are (IsKept (variable_of file files b n o))
    (IsKept (over file files b (option_and_then (λ x. x.each) (option_and_then body_of o)))) c.variable.result
    c.items.result c.both-used.result c.both-used.ensures c.variable.ensures c.items.ensures)
    (both_are (IsKeptHoles own) (λ ps. AreKeptHoles (parts_at file files b n o (holes ∷ [])) ps.items) (Ok c.args.own)
    c.parts-parts.result c.both.result c.both.ensures c.requires.own
    (c.parts-parts.ensures
    (subst (λ d. IsKeptHoles (name_by file files b n d (holes ∷ [])) c.args.own) (sym c.requires.declared)
    c.requires.own)))
    (both_are (IsKeptHoles (full_name_by file files b (parent file n) own (holes ∷ [])))
    (IsKeptHoles (condition_of file files b n (option_and_then body_of o) (holes ∷ []))) c.full_name.result
    c.condition.result c.both-headed.result c.both-headed.ensures
    (subst (λ p. IfOk c.full_name.result (IsKeptHoles (full_name_by file files b p own (holes ∷ []))))
    c.up_of-up.ensures (c.full_name.ensures own c.requires.own)) c.condition.ensures)
    (c.is_resource.ensures file files b n)
