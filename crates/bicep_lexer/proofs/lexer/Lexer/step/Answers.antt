use Rattle.std.proofs.Common.{Ok, Err, map, sym, arith}
use Rattle.std.proofs.lemmas.List.{length-drop}
use Rattle.bicep_lexer.specs.declared.front.Front.TheVariants as front
use Rattle.bicep_lexer.specs.Reading.{standing}
use Rattle.bicep_lexer.proofs.Steps.{step_is, whole_same, whole_same_at}
use Rattle.bicep_lexer.proofs.lexer.Lexer.step.Goals as goal

pub returns-in-Err-clause-fault : goal.returns-in-Err-clause-fault
returns-in-Err-clause-fault c ne =
    let s = c.args.self.now in
    step_is s.text.now s.at s.opened.items s.line (map standing s.found.items) (Err c.in-Err.fault) c.requires
    c.in-Err.ensures.value

pub overflow_add-self : goal.overflow_add-self
overflow_add-self c =
    let h = rw c.in-Ok-Skipped.field-0-is at c.in-Ok-Skipped.ensures.span in
    let s = c.args.self.now in
    omega (arith, h.1, length-drop s.at s.text.now, c.in-Ok-Skipped.ensures.bound)

pub returns-in-Ok-Skipped-clause-reading : goal.returns-in-Ok-Skipped-clause-reading
returns-in-Ok-Skipped-clause-reading c =
    let s = c.args.self.now in
    let is = rw c.in-Ok-Skipped.field-0-is at c.in-Ok-Skipped.ensures.value in
    sym (step_is s.text.now s.at s.opened.items s.line (map standing s.found.items)
    (Ok (front.Skipped c.in-Ok-Skipped.count c.in-Ok-Skipped.line)) c.requires is)

pub push-requires : goal.push-requires
push-requires c = rw c.in-Ok-Newline.field-0-is at c.in-Ok-Newline.ensures.span

pub returns-in_ok-push-in-Ok-Newline-clause-reading : goal.returns-in_ok-push-in-Ok-Newline-clause-reading
returns-in_ok-push-in-Ok-Newline-clause-reading c =
    let s = c.args.self.now in
    let p = c.in_ok-push-in-Ok-Newline.ensures in
    let is = rw c.in-Ok-Newline.field-0-is at c.in-Ok-Newline.ensures.value in
    whole_same _ _ _ _ _ _ _ _ _ _ p.rest.0 p.at p.rest.1 p.found
    (sym (step_is s.text.now s.at s.opened.items s.line (map standing s.found.items)
    (Ok (front.Newline c.in-Ok-Newline.count)) c.requires is))

pub word-requires : goal.word-requires
word-requires c = rw c.in-Ok-Word.field-0-is at c.in-Ok-Word.ensures.span

pub returns-in_ok-word-in-Ok-Word-clause-reading : goal.returns-in_ok-word-in-Ok-Word-clause-reading
returns-in_ok-word-in-Ok-Word-clause-reading c =
    let s = c.args.self.now in
    let is = rw c.in-Ok-Word.field-0-is at c.in-Ok-Word.ensures.value in
    let w = c.in_ok-word-in-Ok-Word.ensures in
    whole_same_at _ _ _ _ _ _ _ _ _ _ _ w.text w.at w.opened w.line w.found
    (sym (step_is s.text.now s.at s.opened.items s.line (map standing s.found.items)
    (Ok (front.Word c.in-Ok-Word.kind c.in-Ok-Word.count c.in-Ok-Word.turn)) c.requires is))
