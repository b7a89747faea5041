-- Variables of a template that are divided by whether loops give them.
use Rattle.std.proofs.Common.{◌≡◌, ℕ, true, false, List, [], ◌∷◌, ◌++◌, map, None, refl, sym, ap, ◌∙◌, subst}
use Rattle.arm_value.specs.Json.{Member, keys}
use Rattle.template_parts.specs.declared.content.Content.{Content}
use Rattle.template_parts.specs.declared.content.Content.TheVariants as content
use Rattle.template_parts.specs.declared.variable.Variable.{Variable}
use Rattle.template_meaning.specs.Parts.{is_copy}
use Rattle.template_written.specs.Keeps.{AreInOrder, NoneLoops, LoopsLast, KeepsVariables, by_content}
use Rattle.template_written.specs.Keeps as keeps
use Rattle.template_written.specs.Parts.{plain_before, plain_variables}
use Rattle.named_parts.specs.Found.{found}
use Rattle.counted_templates.specs.Lists.{is_loop, AllLoop, AreDivided, variable_name}
use Rattle.kept_templates.proofs.NameLemmas.{copy, first_is_other}

plain_key : (x : List ℕ) (c : Content) (ms : List Member) → is_loop c ≡ false
    → keys (plain_before x c ms) ≡ x ∷ keys ms
plain_key x (content.Value v) ms e = refl
plain_key x (content.Copy count input) ms e = absurd cc

loop_key : (x : List ℕ) (c : Content) (ms : List Member) → is_loop c ≡ true → keys (plain_before x c ms) ≡ keys ms
loop_key x (content.Value v) ms e = absurd cc
loop_key x (content.Copy count input) ms e = refl

no_keys : (ls : List Variable) → AllLoop true ls → keys (plain_variables ls) ≡ []
no_keys [] h = refl
no_keys (v ∷ ls) h = loop_key v.name v.content (plain_variables ls) h.0 ∙ no_keys ls h.1

-- the names of the variables that no loop gives
keys_are : (ps ls : List Variable) → AllLoop false ps → AllLoop true ls
    → keys (plain_variables (ps ++ ls)) ≡ map variable_name ps
keys_are [] ls h k = no_keys ls k
keys_are (v ∷ ps) ls h k =
    plain_key v.name v.content (plain_variables (ps ++ ls)) h.0 ∙ ap (λ ns. v.name ∷ ns) (keys_are ps ls h.1 k)

-- ---- none is named `copy`

none_before : (x : List ℕ) (c : Content) (ms : List Member) → is_copy x ≡ false → NoneLoops (keys ms)
    → NoneLoops (keys (plain_before x c ms))
none_before x (content.Value v) ms e h = (e, h)
none_before x (content.Copy count input) ms e h = h

none_copies : (vs : List Variable) → found variable_name copy vs ≡ None → NoneLoops (keys (plain_variables vs))
none_copies [] h = tt
none_copies (v ∷ vs) h =
    let p = first_is_other variable_name v vs h in
    none_before v.name v.content (plain_variables vs) p.0 (none_copies vs p.1)

-- ---- loops are last

loop_then : (c : Content) (P Q : Type 0) → is_loop c ≡ true → Q → by_content c P Q
loop_then (content.Value v) P Q e h = absurd cc
loop_then (content.Copy count input) P Q e h = h

value_then : (c : Content) (P Q : Type 0) → is_loop c ≡ false → P → by_content c P Q
value_then (content.Value v) P Q e h = h
value_then (content.Copy count input) P Q e h = absurd cc

all_loops : (ls : List Variable) → AllLoop true ls → keeps.AllLoop ls
all_loops [] h = tt
all_loops (v ∷ ls) h = loop_then v.content ⊥ (keeps.AllLoop ls) h.0 (all_loops ls h.1)

only_loops : (ls : List Variable) → AllLoop true ls → LoopsLast ls
only_loops [] h = tt
only_loops (v ∷ ls) h = loop_then v.content (LoopsLast ls) (keeps.AllLoop ls) h.0 (all_loops ls h.1)

loops_last : (ps ls : List Variable) → AllLoop false ps → AllLoop true ls → LoopsLast (ps ++ ls)
loops_last [] ls h k = only_loops ls k
loops_last (v ∷ ps) ls h k =
    value_then v.content (LoopsLast (ps ++ ls)) (keeps.AllLoop (ps ++ ls)) h.0 (loops_last ps ls h.1 k)

pub variables_kept : (vs : List Variable) → AreDivided vs → found variable_name copy vs ≡ None → KeepsVariables vs
variables_kept vs d n = record {
  order = subst (λ ws. AreInOrder (keys (plain_variables ws))) (sym d.whole)
      (subst AreInOrder (sym (keys_are d.plain d.loops d.no_loop d.all_loop)) d.order);
  named = none_copies vs n;
  loops = subst LoopsLast (sym d.whole) (loops_last d.plain d.loops d.no_loop d.all_loop);
}
