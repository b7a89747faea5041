-- Equations of readings.
use Rattle.std.proofs.Common.{◌≡◌, ℕ, ℤ, List, Bool, true, false, Option, Some, None, nat_le, codes, refl, sym, ap, ◌∙◌}
use Rattle.std.proofs.lemmas.Slice.Eq.{bytes_eq-Decides}
use Rattle.std.specs.Prelude.{if◌then◌else◌, option_and_then}
use Rattle.arm_env.specs.TheConstants.{MAX_VALUE_NESTING}
use Rattle.arm_value.specs.Json.{Json, text, int, nesting}
use Rattle.arm_value.specs.Look.{fold}
use Rattle.arm_ids.specs.declared.id.ResourceId.{ResourceId}
use Rattle.arm_expr.specs.Tree as tree
use Rattle.arm_expr.specs.Tree.{Tree, Trees}
use Rattle.arm_functions.specs.Values.{function_value}
use Rattle.arm_functions.specs.Kinds.{truth_of}
use Rattle.arm_env.specs.Reading.{Reading, done, ask, onward, pure, none, continued, both}
use Rattle.arm_env.specs.Look.{Looking, Surroundings, all}
use Rattle.arm_env.specs.Names.{lazy_named, strict_named}
use Rattle.arm_env.specs.Part.{kept, part_of}
use Rattle.arm_env.specs.Held.{Held, OutputOf, plain, deployment, outputs, one_output, capped, held_value, forced, access, is_word, value_named, no_part, kind_of_output}
use Rattle.arm_env.specs.declared.function.Lazy.{Lazy}
use Rattle.arm_env.specs.declared.function.Lazy.TheVariants.{If}
use Rattle.expression_values.specs.Row.{lazy_row, chosen}
use Rattle.expression_values.specs.Meaning.{held, value, values, used, outcome, indexed, called, call_by, strict_call}

assoc : {A B C : Type 0} (r : Looking A) (f : A → Looking B) (g : B → Looking C)
    → continued (continued r f) g ≡ continued r (λ x. continued (f x) g)
unfolding continued
assoc (done (Some x)) f g = refl
assoc (done None) f g = refl
assoc (ask c k) f g = λ i. ask c (λ v. assoc (k v) f g i)

continued-pure : {A : Type 0} (r : Looking A) → continued r (λ x. pure x) ≡ r
unfolding continued
continued-pure (done (Some x)) = refl
continued-pure (done None) = refl
continued-pure (ask c k) = λ i. ask c (λ v. continued-pure (k v) i)

-- what goes on alike
same : {A B : Type 0} (r : Looking A) (f g : A → Looking B) → ((x : A) → f x ≡ g x)
    → continued r f ≡ continued r g
same r f g h = λ i. continued r (λ x. h x i)

-- what the cap keeps
abbrev keep : Json → Looking Json
keep j = done (kept j)

abbrev only_if : Bool → Json → Looking Json
only_if b j = done (if b then Some j else None)

kept_by : (b : Bool) (j : Json) → nat_le (nesting j) MAX_VALUE_NESTING ≡ b → continued (only_if b j) keep ≡ only_if b j
unfolding continued
kept_by true j e = ap (λ b. only_if b j) e
kept_by false j e = refl

kept_again : (j : Json) → continued (keep j) keep ≡ keep j
kept_again j = kept_by (nat_le (nesting j) MAX_VALUE_NESTING) j refl

abbrev kept_of : Option Json → Looking Json
kept_of o = done (option_and_then kept o)

capped-done : (o : Option Json) → capped (done o) ≡ kept_of o
unfolding capped continued
capped-done (Some j) = refl
capped-done None = refl

pub capped_twice : (o : Looking Json) → capped (capped o) ≡ capped o
unfolding capped
capped_twice o = assoc o keep keep ∙ same o (λ j. continued (keep j) keep) keep kept_again

capped-continued : {A : Type 0} (r : Looking A) (f : A → Looking Json)
    → capped (continued r f) ≡ continued r (λ x. capped (f x))
unfolding capped
capped-continued r f = assoc r f keep

used-continued : {A : Type 0} (r : Looking A) (f : A → Looking Held)
    → used (continued r f) ≡ continued r (λ x. used (f x))
unfolding used
used-continued r f = ap capped (assoc r f forced) ∙ capped-continued r (λ x. continued (f x) forced)

plain_forced : (j : Json) → continued (pure (plain j)) forced ≡ pure j
unfolding continued
plain_forced j = refl

used-plain : (o : Looking Json) → used (held_value o) ≡ capped o
unfolding used held_value
used-plain o = ap capped
    (assoc (capped o) (λ j. pure (plain j)) forced
    ∙ same (capped o) (λ j. continued (pure (plain j)) forced) (λ j. pure j) plain_forced
    ∙ continued-pure (capped o)) ∙ capped_twice o

value_kept : (here : Surroundings) (e : Tree) → capped (value here e) ≡ value here e
unfolding used
value_kept here e = capped_twice (continued (held here e) forced)

pub texts : (here : Surroundings) (t : List ℕ) → value here (tree.text t) ≡ pure (text t)
texts here t = used-plain (pure (text t)) ∙ capped-done (Some (text t))

pub numbers : (here : Surroundings) (z : ℤ) → value here (tree.int z) ≡ pure (int z)
numbers here z = used-plain (pure (int z)) ∙ capped-done (Some (int z))

plain_row : (name : List ℕ) (vs : List Json) → used (held_value (done (function_value name vs)))
    ≡ kept_of (function_value name vs)
plain_row name vs = used-plain (done (function_value name vs)) ∙ capped-done (function_value name vs)

pub plain_call : (here : Surroundings) (name : List ℕ) (es : Trees) → lazy_named name ≡ None
    → strict_named name ≡ None → value here (tree.call name es)
    ≡ continued (all (values here es)) (λ vs. kept_of (function_value name vs))
unfolding called
plain_call here name es e h =
    ap (λ l. used (call_by here name l (values here es))) e
    ∙ ap (λ s. used (continued (all (values here es)) (strict_call here name s))) h
    ∙ used-continued (all (values here es)) (strict_call here name None)
    ∙ same (all (values here es)) (λ vs. used (held_value (done (function_value name vs))))
    (λ vs. kept_of (function_value name vs)) (plain_row name)

pub lazy_call : (here : Surroundings) (name : List ℕ) (es : Trees) (f : Lazy) → lazy_named name ≡ Some f
    → value here (tree.call name es) ≡ capped (lazy_row f (values here es))
unfolding called
lazy_call here name es f e =
    ap (λ l. used (call_by here name l (values here es))) e ∙ used-plain (lazy_row f (values here es))

chosen_kept : (here : Surroundings) (a b : Tree) (t : Option Bool)
    → capped (chosen t (value here a) (value here b)) ≡ chosen t (value here a) (value here b)
chosen_kept here a b (Some true) = value_kept here a
chosen_kept here a b (Some false) = value_kept here b
chosen_kept here a b None = capped-done None

pub choice : (here : Surroundings) (name : List ℕ) (c a b : Tree) → lazy_named name ≡ Some If
    → value here (tree.call name (tree.more c (tree.more a (tree.more b tree.none))))
    ≡ continued (value here c) (λ v. chosen (truth_of v) (value here a) (value here b))
choice here name c a b e =
    lazy_call here name (tree.more c (tree.more a (tree.more b tree.none))) If e
    ∙ capped-continued (value here c) (λ v. chosen (truth_of v) (value here a) (value here b))
    ∙ same (value here c) (λ v. capped (chosen (truth_of v) (value here a) (value here b)))
    (λ v. chosen (truth_of v) (value here a) (value here b)) (λ v. chosen_kept here a b (truth_of v))

pub by_member : (here : Surroundings) (e : Tree) (name : List ℕ) → value here (tree.member e name)
    ≡ continued (held here e) (λ h. used (access h (text name)))
by_member here e name = used-continued (held here e) (λ h. access h (text name))

pub by_index : (here : Surroundings) (e i : Tree) → value here (tree.index e i)
    ≡ continued (both (outcome (held here e)) (outcome (value here i))) (λ p. used (indexed p.0 p.1))
by_index here e i =
    used-continued (both (outcome (held here e)) (outcome (value here i))) (λ p. indexed p.0 p.1)

-- what goes on after a plain value
after_plain : {A : Type 0} (j : Json) (f : Held → Looking A) → continued (pure (plain j)) f ≡ f (plain j)
unfolding continued
after_plain j f = refl

held-then : {A : Type 0} (o : Looking Json) (f : Held → Looking A)
    → continued (held_value o) f ≡ continued (capped o) (λ j. f (plain j))
unfolding held_value
held-then o f = assoc (capped o) (λ j. pure (plain j)) f
    ∙ same (capped o) (λ j. continued (pure (plain j)) f) (λ j. f (plain j)) (λ j. after_plain j f)

part_row : (i : Json) (j : Json) → used (access (plain j) i) ≡ kept_of (part_of j i)
part_row i j = used-plain (done (part_of j i)) ∙ capped-done (part_of j i)

pub part_of_plain : (here : Surroundings) (e : Tree) (name : List ℕ) → held here e ≡ held_value (value here e)
    → value here (tree.member e name) ≡ continued (value here e) (λ j. kept_of (part_of j (text name)))
part_of_plain here e name h =
    by_member here e name
    ∙ ap (λ r. continued r (λ h. used (access h (text name)))) h
    ∙ held-then (value here e) (λ h. used (access h (text name)))
    ∙ ap (λ r. continued r (λ j. used (access (plain j) (text name)))) (value_kept here e)
    ∙ same (value here e) (λ j. used (access (plain j) (text name))) (λ j. kept_of (part_of j (text name)))
    (part_row (text name))

held_value-continued : {A : Type 0} (r : Looking A) (f : A → Looking Json)
    → held_value (continued r f) ≡ continued r (λ x. held_value (f x))
unfolding held_value
held_value-continued r f = ap (λ o. continued o (λ j. pure (plain j))) (capped-continued r f)
    ∙ assoc r (λ x. capped (f x)) (λ j. pure (plain j))

held_kept : (o : Looking Json) → held_value (capped o) ≡ held_value o
unfolding held_value
held_kept o = ap (λ q. continued q (λ j. pure (plain j))) (capped_twice o)

part_held : (i : Json) (j : Json) → access (plain j) i ≡ held_value (kept_of (part_of j i))
part_held i j = sym (held_kept (done (part_of j i))) ∙ ap held_value (capped-done (part_of j i))

pub plain_part : (here : Surroundings) (e : Tree) (name : List ℕ) → held here e ≡ held_value (value here e)
    → held here (tree.member e name) ≡ held_value (value here (tree.member e name))
plain_part here e name h =
    ap (λ r. continued r (λ h. access h (text name))) h
    ∙ held-then (value here e) (λ h. access h (text name))
    ∙ ap (λ r. continued r (λ j. access (plain j) (text name))) (value_kept here e)
    ∙ same (value here e) (λ j. access (plain j) (text name)) (λ j. held_value (kept_of (part_of j (text name))))
    (part_held (text name))
    ∙ sym (held_value-continued (value here e) (λ j. kept_of (part_of j (text name))))
    ∙ ap held_value (sym (part_of_plain here e name h))

-- a word is itself
same_word : (w : List ℕ) → is_word w (text w) ≡ true
same_word w = (bytes_eq-Decides (fold w) (fold w)).1 refl

after_pure : {A B : Type 0} (x : A) (f : A → Looking B) → continued (pure x) f ≡ f x
unfolding continued
after_pure x f = refl

abbrev output_of : ResourceId → List ℕ → OutputOf
output_of k x = record { key = k; name = x }

pub value_of_output : (here : Surroundings) (e : Tree) (k : ResourceId) (x : List ℕ)
    → held here e ≡ pure (deployment k)
    → value here (tree.member (tree.member (tree.member e (codes "outputs")) x) (codes "value")) ≡ value_named k x
value_of_output here e k x h =
    let all : held here (tree.member e (codes "outputs")) ≡ pure (outputs k) =
    ap (λ r. continued r (λ h. access h (text (codes "outputs")))) h
    ∙ after_pure (deployment k) (λ h. access h (text (codes "outputs")))
    ∙ ap (λ b. if b then pure (outputs k) else no_part k) (same_word (codes "outputs")) in
    let one : held here (tree.member (tree.member e (codes "outputs")) x) ≡ pure (one_output (output_of k x)) =
    ap (λ r. continued r (λ h. access h (text x))) all ∙ after_pure (outputs k) (λ h. access h (text x)) in
    by_member here (tree.member (tree.member e (codes "outputs")) x) (codes "value")
    ∙ ap (λ r. continued r (λ h. used (access h (text (codes "value"))))) one
    ∙ after_pure (one_output (output_of k x)) (λ h. used (access h (text (codes "value"))))
    ∙ ap (λ b. used (if b then held_value (value_named k x)
    else if is_word (codes "type") (text (codes "value")) then kind_of_output (output_of k x) else no_part k))
    (same_word (codes "value"))
    ∙ used-plain (value_named k x) ∙ capped_twice _
