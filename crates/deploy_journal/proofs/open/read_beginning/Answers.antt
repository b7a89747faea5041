use Rattle.std.proofs.Common.{ℕ, List, ◌++◌, take, drop, ap, sym, ◌∙◌, arith, take-append-drop}
use Rattle.std.proofs.lemmas.Slice.Eq.{slice_eq-Decides}
use Rattle.std.proofs.lemmas.Bool.Decides.{Decides-eqb, not_from_Decides}
use Rattle.deploy_journal.specs.Records.{beginning}
use Rattle.deploy_journal.proofs.open.read_beginning.Goals as goal

pub returns-clause-begins : goal.returns-clause-begins
returns-clause-begins g c = λ t is.
    let file = (g.D.Disk.reads c.args.disk.now).a in
    let same = (c.in-Ok-true.ensures.filled t (omega (arith, is, c.if-size-lt16.false))).1 in
    let d = slice_eq-Decides Decides-eqb c.read_full.new.buf beginning c.eq.result c.eq.ensures in (
      λ yes. sym (take-append-drop 16 file) ∙ ap (λ (l : List ℕ). l ++ drop 16 file) (sym same ∙ d.0 yes),
      λ no rest starts. not_from_Decides c.eq.result d no (same ∙ ap (λ (l : List ℕ). take 16 l) starts),
    )
