use Rattle.std.proofs.Common.{◌≡◌, ◌++◌, [], ◌∷◌, length, arith, length-append, ap, ◌∙◌}
use Rattle.std.proofs.lemmas.Grind.{common_steps}
use Rattle.mem_disk.specs.Log.{steps_of, total}
use Rattle.mem_disk.specs.declared.change.Entry.{Entry}
use Rattle.mem_disk.proofs.LogLemmas.{total-push, steps-push}
use Rattle.mem_disk.proofs.log.Log.push.Goals as goal

pub invariant_of-self : goal.invariant_of-self
invariant_of-self c =
    let entry : Entry = record { part = c.args.part; change = c.args.change } in
    let entries : c.push.new.self.items ≡ c.args.self.now.entries.items ++ entry ∷ [] = grind (arith, common_steps) in
    let bytes : c.extend_from_slice.new.self.items ≡ c.args.self.now.bytes.items ++ c.args.bytes.now =
    grind (arith, common_steps) in
    record {
      whole = omega (
        arith,
        ap total entries,
        total-push c.args.self.now.entries.items entry,
        ap length bytes,
        length-append c.args.self.now.bytes.items c.args.bytes.now,
        c.args.self.now.whole,
        c.requires.size,
      );
    }

pub returns-clause-steps : goal.returns-clause-steps
returns-clause-steps c =
    let entry : Entry = record { part = c.args.part; change = c.args.change } in
    let entries : c.push.new.self.items ≡ c.args.self.now.entries.items ++ entry ∷ [] = grind (arith, common_steps) in
    let bytes : c.extend_from_slice.new.self.items ≡ c.args.self.now.bytes.items ++ c.args.bytes.now =
    grind (arith, common_steps) in
    (λ i. steps_of (bytes i) (entries i))
    ∙ steps-push c.args.self.now.entries.items entry c.args.self.now.bytes.items c.args.bytes.now
    c.args.self.now.whole c.requires.size
