use Rattle.std.proofs.Common.{◌+◌, [], get_or, drop, map}
use Rattle.std.specs.Str.{chars}
use Rattle.arm_value.proofs.TextLemmas.{is_folded}
use Rattle.emitted_parts.proofs.NameLemmas.{Word, letters, word_apart, no_word_left, word_found, word_passed, no_word}
use Rattle.emitted_parts.proofs.functions.spelling.Goals as goal

pub returns-then-folded_eq : goal.returns-then-folded_eq
returns-then-folded_eq c =
    let words = c.args.words.now in
    let i = c.loop-word.word-index in
    let d : Word = record { ref_ptr = (0, 0); now = [] } in
    word_found (chars c.args.name.now) (letters (get_or words i d)) (map letters (drop (i + 1) words))
    (map letters (drop i words)) _ (word_apart words i d c.loop-word-test.true)
    (is_folded _ _ _ c.if-folded_eq.ensures.0 c.if-folded_eq.ensures.1) c.loop-word.invariant

pub loop-word-preserved : goal.loop-word-preserved
loop-word-preserved c =
    let words = c.args.words.now in
    let i = c.loop-word.word-index in
    let d : Word = record { ref_ptr = (0, 0); now = [] } in
    word_passed (chars c.args.name.now) (letters (get_or words i d)) (map letters (drop (i + 1) words))
    (map letters (drop i words)) _ (word_apart words i d c.loop-word-test.true)
    (is_folded _ _ _ c.if-folded_eq.ensures.0 c.if-folded_eq.ensures.1) c.loop-word.invariant

pub returns : goal.returns
returns c =
    no_word (chars c.args.name.now) (map letters (drop c.loop-word.word-index c.args.words.now)) _
    (no_word_left c.args.words.now c.loop-word.word-index c.loop-word-test.false) c.loop-word.invariant
