use Rattle.emitted_parts.proofs.BuiltLemmas.{word_made}
use Rattle.emitted_parts.proofs.accesses.word_member.Goals as goal

pub returns : goal.returns
returns c = λ h a i.
    c.member_by.ensures a c.args.name.now (c.boxed.ensures a i) (word_made c.args.name.now c.of.result h c.of.ensures)
