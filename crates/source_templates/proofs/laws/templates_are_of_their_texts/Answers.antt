use Rattle.std.proofs.Common.{◌≡◌, refl, sym, ap, ◌∙◌, subst}
use Rattle.resolved_program.specs.View.{file_view}
use Rattle.source_worlds.specs.Numbers.{in_template}
use Rattle.agreeing_files.specs.Agreeing.{Agree}
use Rattle.parameter_rules.specs.Files.{IsParameterAt}
use Rattle.parameter_rules.specs.Rules.{HasRules}
use Rattle.source_files.specs.Seen.{file_in, files_in}
use Rattle.alike_files.specs.Alike.{AreAlike}
use Rattle.alike_files.specs.Rest.{HasParameters, HasModules}
use Rattle.alike_files.proofs.NumberLemmas.{with_rest, in_template_same}
use Rattle.source_files.specs.Sources.{source_file, without_modules}
use Rattle.source_templates.proofs.PartLemmas.{is_second, rest_of, modules_alike, parameters_of, modules_of}
use Rattle.source_templates.proofs.laws.templates_are_of_their_texts.Goals as goal

pub returns : goal.returns
returns c = λ z t r s rs fs u m same h.
    let f = file_in s in
    let g = source_file z t (file_view r) in
    let alike : AreAlike f g =
    subst (λ x. AreAlike x g) (sym m.file) (c.tables_are_of_source_files.ensures z t r m.marks m.names m.batches) in
    let k = with_rest f g in
    let to : k ≡ g = is_second f g alike in
    let agree : Agree f k = record { symbols = refl; declared = refl; has_entry = λ n. refl } in
    let w = without_modules t (file_view r) in
    let first : in_template z w ≡ in_template z g =
    in_template_same w g
    (c.types_are_the_same.ensures w g record { symbols = refl; declared = refl; has_entry = λ n. refl }) z in
    let numbers : in_template z w ≡ in_template z f =
    first ∙ ap (in_template z) (sym to) ∙ sym (in_template_same f g (c.types_are_the_same.ensures f k agree) z) in
    let has_rules : HasRules t k =
    subst (HasRules t) (sym to) (c.source_files_are_of_texts.ensures.rules z t (file_view r)) in
    let rest = c.alike_files_have_the_same_rest.ensures f g (files_in s) fs alike same z u (rest_of z s rs u h) in
    let parameters : HasParameters fs k z u =
    parameters_of z s rs u h g fs (c.defaults_become_the_same.ensures f k (files_in s) fs agree same)
    (λ n p is. c.parameters_have_the_rules.ensures t k has_rules n p
    (subst (λ o. IsParameterAt t f n o) is (m.rules n))) in
    let modules : HasModules fs k z u =
    modules_of z s rs u h g fs (c.types_are_the_same.ensures f k agree)
    (modules_alike z w f numbers (sym alike.agree.declared)) in
    c.files_are_their_parts.ensures g fs z u rest (subst (λ x. HasParameters fs x z u) to parameters)
    (subst (λ x. HasModules fs x z u) to modules)
