use Rattle.std.proofs.Common.{◌≡◌, ◌∙◌, sym, ap, Some}
use Rattle.tag_holders.specs.Holders.{classes_in, found_at, joined}
use Rattle.tag_holders.specs.declared.holders.Found.TheVariants.{Alike}
use Rattle.tag_holders.proofs.HolderLemmas.{one_more}
use Rattle.tag_holders.proofs.holders.note_tag.Goals as goal

pub returns-in_ok-insert-in-Some : goal.returns-in_ok-insert-in-Some
returns-in_ok-insert-in-Some c = λ t.
    let cs = classes_in c.args.classes.now in
    let known : c.copied-known.result ≡ found_at c.args.holders.now c.args.tag.now =
    c.copied-known.ensures ∙ c.get.ensures.value in
    one_more c.args.holders.now c.insert.new.self c.args.tag c.in-Some.found
    c.in_ok-insert-in-Some.ensures.updates t (joined cs (found_at c.args.holders.now t) (Some (Alike c.args.number)))
    (λ e. ap (λ s. joined cs (found_at c.args.holders.now s) (Some (Alike c.args.number))) (sym e)
    ∙ ap (λ o. joined cs o (Some (Alike c.args.number))) (sym known) ∙ sym c.joined.ensures ∙ c.in-Some.is)
