use Rattle.std.proofs.Common.{◌≡◌, ◌-◌, map, ap, sym, subst, ◌∙◌, arith}
use Rattle.std.specs.Prelude.{slice_get, IfOk}
use Rattle.std.proofs.lemmas.Str.{chars-nil}
use Rattle.bicep_symbols.specs.Entries.{symbol_of}
use Rattle.bicep_declared.specs.View.{declared_tree}
use Rattle.bicep_meaning.specs.Files.{read_type, nested_type, type_text, type_by, type_within}
use Rattle.declared_types.specs.Types.{typed_of}
use Rattle.declared_types.proofs.TypeLemmas.{within_is}
use Rattle.declared_types.proofs.resources.+type_within.Goals as goal

pub returns-in_ok-up-in-Some : goal.returns-in_ok-up-in-Some
returns-in_ok-up-in-Some t c = λ f h.
    let k = c.args.depth - 1 in
    let text = type_text (slice_get (map declared_tree c.args.declarations.now) c.args.number) in
    let up = c.in_ok-up-in-Some.ensures f h in
    let own = c.text_at-text.ensures in
    subst (λ w. IfOk c.nested_type.result (λ r. typed_of r ≡ w))
    ((λ i. nested_type (up i) (own i))
    ∙ ap (λ o. type_by (λ m. type_within f k m) o text) c.in-Some.ensures
    ∙ sym (within_is f (map symbol_of c.args.entries.now) (map declared_tree c.args.declarations.now) h c.args.depth k
    c.args.number (omega (arith, c.if-depth-eq0.false))))
    c.nested_type.ensures

pub returns-in-None : goal.returns-in-None
returns-in-None t c = λ f h.
    let k = c.args.depth - 1 in
    let text = type_text (slice_get (map declared_tree c.args.declarations.now) c.args.number) in
    let own = c.text_at-text.ensures in
    subst (λ w. IfOk c.read_type.result (λ r. typed_of r ≡ w))
    ((λ i. read_type (own i) (chars-nil i))
    ∙ ap (λ o. type_by (λ m. type_within f k m) o text) c.in-None.ensures
    ∙ sym (within_is f (map symbol_of c.args.entries.now) (map declared_tree c.args.declarations.now) h c.args.depth k
    c.args.number (omega (arith, c.if-depth-eq0.false))))
    c.read_type.ensures
