use Rattle.std.proofs.Common.{◌≡◌, ◌++◌, [], ◌∷◌, length, arith, length-append, append_assoc, ap, ◌∙◌}
use Rattle.std.proofs.lemmas.Grind.{common_steps}
use Rattle.driver_fakes.specs.Kept.{notes_in, size_of}
use Rattle.driver_fakes.proofs.KeptLemmas.{entry, size_of-push, notes_in-push}
use Rattle.driver_fakes.proofs.notes.keep.Goals as goal

pub returns-clause-notes : goal.returns-clause-notes
returns-clause-notes c =
    let e = entry c.args.kind c.args.first.now c.args.second.now in
    let entries : c.push.new.self.items ≡ c.args.entries.now.items ++ e ∷ [] = grind (arith, common_steps) in
    let one : c.extend_from_slice.new.self.items ≡ c.args.bytes.now.items ++ c.args.first.now =
    grind (arith, common_steps) in
    let two : c.extend_from_slice-2.new.self.items ≡ c.extend_from_slice.new.self.items ++ c.args.second.now =
    grind (arith, common_steps) in
    let both = two ∙ ap (λ b. b ++ c.args.second.now) one
    ∙ append_assoc c.args.bytes.now.items c.args.first.now c.args.second.now in
    (λ i. notes_in (entries i) (both i))
    ∙ notes_in-push c.args.entries.now.items c.args.bytes.now.items c.args.kind c.args.first.now c.args.second.now
    c.requires.lengths

pub returns-clause-lengths : goal.returns-clause-lengths
returns-clause-lengths c =
    let e = entry c.args.kind c.args.first.now c.args.second.now in
    let entries : c.push.new.self.items ≡ c.args.entries.now.items ++ e ∷ [] = grind (arith, common_steps) in
    let one : c.extend_from_slice.new.self.items ≡ c.args.bytes.now.items ++ c.args.first.now =
    grind (arith, common_steps) in
    let two : c.extend_from_slice-2.new.self.items ≡ c.extend_from_slice.new.self.items ++ c.args.second.now =
    grind (arith, common_steps) in
    omega (
      arith,
      ap size_of entries,
      size_of-push c.args.entries.now.items e,
      ap length two,
      length-append c.extend_from_slice.new.self.items c.args.second.now,
      ap length one,
      length-append c.args.bytes.now.items c.args.first.now,
      c.requires.lengths,
    )
