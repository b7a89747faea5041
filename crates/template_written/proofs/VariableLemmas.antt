-- What the variables of a template are, once they are written.
use Rattle.std.proofs.Common.{◌≡◌, ℕ, ◌++◌, chars, codes, true, List, [], ◌∷◌, map, Option, Some, None}
use Rattle.std.proofs.Common.{Ordering, Less, Equal, Greater, if◌then◌else◌, refl, sym, ap, ap₂, ◌∙◌}
use Rattle.std.specs.Ordering.{match_ordering}
use Rattle.arm_value.specs.Json.{Json, text, Member, pairs, keys, put, key_cmp}
use Rattle.arm_value.specs.Look.{first_by}
use Rattle.arm_value.specs.View.{json}
use Rattle.arm_value.specs.declared.value.Value.{Value}
use Rattle.arm_value.proofs.SetLemmas.{equal_keys}
use Rattle.template_parts.specs.declared.content.Content.{Content}
use Rattle.template_parts.specs.declared.content.Content.TheVariants as content
use Rattle.template_parts.specs.declared.variable.Variable.{Variable}
use Rattle.template_meaning.specs.Values.{text_in, items_in}
use Rattle.template_meaning.specs.Parts.{is_copy, unlooped, copies_in, variable_of, looped_variable, variables_of}
use Rattle.template_meaning.proofs.ValueLemmas.{value_back}
use Rattle.template_written.specs.Slots.{Slot, put_slot, array_unless_empty}
use Rattle.template_written.specs.Parts.{loop_slots, named_loop, plain_variables, variable_loops, written_variables}
use Rattle.template_written.specs.Keeps.{NoneLoops, by_content, AllLoop, LoopsLast, KeepsVariables}
use Rattle.template_written.proofs.SlotLemmas.{first_put_here, look_slot}
use Rattle.template_written.proofs.BackLemmas.{copy_word, items_unless, named_loop_back}

unlooped_by : (k : List ℕ) (j : Json) (m : Member) (ms : List Member) (o : Ordering) → key_cmp k m.0 ≡ o
    → is_copy k ≡ true → unlooped (put k j ms) ≡ unlooped ms
    → unlooped (match_ordering o ((k, j) ∷ m ∷ ms) ((k, j) ∷ ms) (m ∷ put k j ms)) ≡ unlooped (m ∷ ms)
unlooped_by k j m ms Less e c h = ap (λ b. if b then unlooped (m ∷ ms) else (k, j) ∷ unlooped (m ∷ ms)) c
unlooped_by k j m ms Equal e c h =
    ap (λ b. if b then unlooped ms else (k, j) ∷ unlooped ms) c
    ∙ sym (ap (λ b. if b then unlooped ms else m ∷ unlooped ms) (ap is_copy (sym (equal_keys k m.0 e)) ∙ c))
unlooped_by k j m ms Greater e c h = ap (λ r. if is_copy m.0 then r else m ∷ r) h

-- a member that makes loops is no other member
unlooped_put : (k : List ℕ) (j : Json) (ms : List Member) → is_copy k ≡ true → unlooped (put k j ms) ≡ unlooped ms
unlooped_put k j [] c = ap (λ b. if b then [] else (k, j) ∷ []) c
unlooped_put k j (m ∷ ms) c = unlooped_by k j m ms (key_cmp k m.0) refl c (unlooped_put k j ms c)

pub all_unlooped : (ms : List Member) → NoneLoops (keys ms) → unlooped ms ≡ ms
all_unlooped [] h = refl
all_unlooped (m ∷ ms) h =
    ap (λ b. if b then unlooped ms else m ∷ unlooped ms) h.0 ∙ ap (λ r. m ∷ r) (all_unlooped ms h.1)

copies_first : (ms : List Member) → copies_in ms ≡ first_by is_copy (pairs ms)
copies_first [] = refl
copies_first (m ∷ ms) = ap (λ r. if is_copy m.0 then Some m.1 else r) (copies_first ms)

no_copies : (ms : List Member) → NoneLoops (keys ms) → first_by is_copy (pairs ms) ≡ None
no_copies [] h = refl
no_copies (m ∷ ms) h =
    ap (λ b. if b then Some m.1 else first_by is_copy (pairs ms)) h.0 ∙ no_copies ms h.1

plain_slot : (o : Option Json) (ms : List Member) → NoneLoops (keys ms) → unlooped (put_slot (codes "copy") o ms) ≡ ms
unfolding put_slot
plain_slot None ms h = all_unlooped ms h
plain_slot (Some j) ms h = unlooped_put (chars (codes "copy")) j ms copy_word ∙ all_unlooped ms h

copy_slot : (o : Option Json) (ms : List Member) → NoneLoops (keys ms) → copies_in (put_slot (codes "copy") o ms) ≡ o
unfolding put_slot
copy_slot None ms h = copies_first ms ∙ no_copies ms h
copy_slot (Some j) ms h =
    copies_first (put (chars (codes "copy")) j ms)
    ∙ first_put_here is_copy (chars (codes "copy")) j ms copy_word (no_copies ms h)

looped_back : (name : List ℕ) (count input : Value)
    → looped_variable (named_loop name (json count) (json input))
    ≡ record { name = name; content = content.Copy count input }
looped_back name count input =
    let ss : List Slot = (codes "name", Some (text name)) ∷ loop_slots (json count) (json input) in
    λ x. record {
      name = ap text_in (look_slot (codes "name") ss [] refl refl refl) x;
      content = named_loop_back name count input x;
    }

-- loops alone are what they give
abbrev Looped : List Variable → Type 0
Looped vs = (plain_variables vs ≡ []) × (map looped_variable (variable_loops vs) ≡ vs)

one_loop : (name : List ℕ) (c : Content) (vs : List Variable) → by_content c ⊥ (AllLoop vs)
    → (AllLoop vs → Looped vs) → Looped (record { name = name; content = c } ∷ vs)
one_loop name (content.Value v) vs h rest = absurd h
one_loop name (content.Copy count input) vs h rest =
    let r = rest h in (r.0, ap₂ (λ v l. v ∷ l) (looped_back name count input) r.1)

all_loops : (vs : List Variable) → AllLoop vs → Looped vs
all_loops [] h = (refl, refl)
all_loops (v ∷ vs) h = one_loop v.name v.content vs h (all_loops vs)

-- variables of which those that loops give come last
abbrev Back : List Variable → Type 0
Back vs = map variable_of (plain_variables vs) ++ map looped_variable (variable_loops vs) ≡ vs

one_back : (name : List ℕ) (c : Content) (vs : List Variable) → by_content c (LoopsLast vs) (AllLoop vs)
    → (LoopsLast vs → Back vs) → Back (record { name = name; content = c } ∷ vs)
one_back name (content.Value v) vs h rest =
    ap₂ (λ w (l : List Variable). record { name = name; content = content.Value w } ∷ l) (value_back v) (rest h)
one_back name (content.Copy count input) vs h rest =
    let r = all_loops vs h in
    ap (λ ms. map variable_of ms
    ++ looped_variable (named_loop name (json count) (json input)) ∷ map looped_variable (variable_loops vs)) r.0
    ∙ ap₂ (λ v l. v ∷ l) (looped_back name count input) r.1

all_back : (vs : List Variable) → LoopsLast vs → Back vs
all_back [] h = refl
all_back (v ∷ vs) h = one_back v.name v.content vs h (all_back vs)

pub variables_back : (vs : List Variable) → KeepsVariables vs → variables_of (written_variables vs) ≡ vs
variables_back vs h =
    ap₂ (λ ms o. map variable_of ms ++ map looped_variable (items_in o))
    (plain_slot (array_unless_empty (variable_loops vs)) (plain_variables vs) h.named)
    (copy_slot (array_unless_empty (variable_loops vs)) (plain_variables vs) h.named)
    ∙ ap (λ js. map variable_of (plain_variables vs) ++ map looped_variable js) (items_unless (variable_loops vs))
    ∙ all_back vs h.loops
