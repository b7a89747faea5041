use Rattle.std.proofs.Common.{◌∙◌, sym, Bool, List, subst}
use Rattle.std.specs.Prelude.{if◌then◌else◌}
use Rattle.arm_value.specs.View.{json}
use Rattle.reading.specs.Reading.{through}
use Rattle.reading.specs.Knowledge.{told}
use Rattle.arm_env.specs.Answer.{Gives}
use Rattle.arm_env.specs.Known.{known_in, around}
use Rattle.arm_env.specs.declared.env.Looping.{Looping}
use Rattle.arm_eval.specs.Trees.{tree_value}
use Rattle.arm_eval.specs.Titles.{titled, titles_of}
use Rattle.arm_eval.proofs.got.found_tree.Goals as goal

pub returns-then-has_symbols : goal.returns-then-has_symbols
returns-then-has_symbols c =
    let p = known_in c.args.env.now in
    let read = tree_value (json c.args.tree.now) in
    let h = titled (titles_of c.args.env.now) c.args.env.now.place.now in
    subst (λ (b : Bool). Gives json c.tree_by_symbols.result
    (told p (if b then through h (read (around c.args.env.now)) else (read (around c.args.env.now)))))
    (sym c.if-has_symbols.true ∙ c.has_symbols.ensures)
    (subst
    (λ (ls : List Looping). Gives json c.tree_by_symbols.result
    (told p (through h (read (record (around c.args.env.now) { loops = ls })))))
    c.as_slice.ensures.value c.tree_by_symbols.ensures)

pub returns-else-has_symbols : goal.returns-else-has_symbols
returns-else-has_symbols c =
    let p = known_in c.args.env.now in
    let read = tree_value (json c.args.tree.now) in
    let h = titled (titles_of c.args.env.now) c.args.env.now.place.now in
    subst (λ (b : Bool). Gives json c.tree_value.result
    (told p (if b then through h (read (around c.args.env.now)) else (read (around c.args.env.now)))))
    (sym c.if-has_symbols.false ∙ c.has_symbols.ensures)
    (subst
    (λ (ls : List Looping). Gives json c.tree_value.result
    (told p (read (record (around c.args.env.now) { loops = ls }))))
    c.as_slice.ensures.value c.tree_value.ensures)
