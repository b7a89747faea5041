use Rattle.std.proofs.Common.{sym, ap, ◌∙◌, chars, Some}
use Rattle.std.specs.Prelude.{option_map}
use Rattle.plan_sight.specs.Sites.{deployment_key}
use Rattle.plan_names.proofs.around.key_listed.Goals as goal

pub returns-in_ok-key-in-Some : goal.returns-in_ok-key-in-Some
returns-in_ok-key-in-Some c =
    ap Some c.in_ok-key-in-Some.ensures
    ∙ ap (option_map (deployment_key c.args.place.now))
    (sym (ap (option_map (λ n. chars n.now)) c.in-Some.is) ∙ c.in_ok-name.ensures)

pub returns-in-None : goal.returns-in-None
returns-in-None c =
    ap (option_map (deployment_key c.args.place.now))
    (sym (ap (option_map (λ n. chars n.now)) c.in-None.is) ∙ c.in_ok-name.ensures)
