-- The templates that values describe keep the rules by which they are written.
use Rattle.std.proofs.Common.{◌≡◌, ℕ, ℤ, pos, negsuc, nat_le, ◌++◌, chars, codes, bytes_eq, Bool, true, false}
use Rattle.std.proofs.Common.{List, [], ◌∷◌, map, Option, Some, None, is_some, ◌&&◌, if◌then◌else◌, refl, sym, ap, ap₂}
use Rattle.std.proofs.Common.{◌∙◌, subst, Less}
use Rattle.std.specs.List.{AllByRecursion}
use Rattle.std.specs.List.Sorted.{IsStrictlySortedBy}
use Rattle.arm_value.specs.Json.{Json, null, bool, int, text, array, object, Pairs, no_pairs, pair}
use Rattle.arm_value.specs.Json.{Member, row, pairs, keys, pair_keys, key_cmp, IsInOrder, IsOrderly}
use Rattle.arm_value.specs.Json.{RowIsOrderly, PairsAreOrderly}
use Rattle.arm_value.specs.Look.{is_same_folded, first_by, or_else}
use Rattle.arm_value.proofs.JsonLemmas.{IsInOrder-nil}
use Rattle.arm_value.proofs.TreeLemmas.{row-items, pairs-members}
use Rattle.foundation.proofs.AsciiWords as ascii
use Rattle.template_parts.specs.declared.declaration.Declaration.{Declaration}
use Rattle.template_parts.specs.declared.looping.Batches.TheVariants.{Parallel, Serial}
use Rattle.template_parts.specs.declared.mode.Form.{Form}
use Rattle.template_parts.specs.declared.mode.Form.TheVariants.{One, Two}
use Rattle.template_meaning.specs.Values.{Place, inside, text_in, number_in, is_true, is_word, items_in, members_in}
use Rattle.template_meaning.specs.Parts.{is_copy, unlooped, copies_in, parameter_of, variable_of, looped_variable}
use Rattle.template_meaning.specs.Parts.{variables_of, output_of, argument_of}
use Rattle.template_meaning.specs.Resources.{Listed, unnamed, listed, batch_size, copy_in}
use Rattle.template_meaning.specs.Resources.{declaration_of, is_outside, body_of}
use Rattle.template_meaning.specs.Describes.{form_of, header_by, DescribesTemplate, DescribesResource, DescribesBody}
use Rattle.template_meaning.specs.Describes.{DescribesResources}
use Rattle.template_tree.specs.Tree.{Header, TemplateTree, template, ResourceTree, resource, BodyTree, body_members}
use Rattle.template_tree.specs.Tree.{deployment, Trees, no_resources, a_resource}
use Rattle.template_written.specs.Parts.{plain_variables}
use Rattle.template_written.specs.Written.{name_or_none}
use Rattle.template_written.specs.Keeps.{AreInOrder, NoneLoops, AllLoop, LoopsLast, KeepsVariables, KeepsHeader}
use Rattle.template_written.specs.Keeps.{KeepsSymbol, KeepsBatches, KeepsCopy, AllInside, deployments, symbols}
use Rattle.template_written.specs.Keeps.{KeepsSymbols, Keeps, KeepEach, KeepsResource, KeepsBody}

-- ---- what is found in an orderly value is orderly

abbrev PlaceIsOrderly : Place → Type 0
PlaceIsOrderly None = Unit {0}
PlaceIsOrderly (Some j) = IsOrderly j

first_by_orderly : (b : Bool) (j : Json) (o : Place) → IsOrderly j → PlaceIsOrderly o
    → PlaceIsOrderly (if b then Some j else o)
first_by_orderly true j o h g = h
first_by_orderly false j o h g = g

first_orderly : (p : List ℕ → Bool) (ms : Pairs) → PairsAreOrderly ms → PlaceIsOrderly (first_by p ms)
first_orderly p no_pairs h = tt
first_orderly p (pair k j ms) h = first_by_orderly (p k) j (first_by p ms) h.0 (first_orderly p ms h.1)

either_orderly : (a b : Place) → PlaceIsOrderly a → PlaceIsOrderly b → PlaceIsOrderly (or_else a b)
either_orderly None b h g = g
either_orderly (Some j) b h g = h

inside_orderly : (name : List ℕ) (o : Place) → PlaceIsOrderly o → PlaceIsOrderly (inside name o)
inside_orderly name None h = tt
inside_orderly name (Some null) h = tt
inside_orderly name (Some (bool b)) h = tt
inside_orderly name (Some (int z)) h = tt
inside_orderly name (Some (text t)) h = tt
inside_orderly name (Some (array js)) h = tt
inside_orderly name (Some (object ms)) h =
    either_orderly (first_by (bytes_eq (chars name)) ms) (first_by (is_same_folded (chars name)) ms)
    (first_orderly (bytes_eq (chars name)) ms h.1) (first_orderly (is_same_folded (chars name)) ms h.1)

members_order : (o : Place) → PlaceIsOrderly o → IsInOrder (members_in o)
members_order None h = IsInOrder-nil
members_order (Some null) h = IsInOrder-nil
members_order (Some (bool b)) h = IsInOrder-nil
members_order (Some (int z)) h = IsInOrder-nil
members_order (Some (text t)) h = IsInOrder-nil
members_order (Some (array js)) h = IsInOrder-nil
members_order (Some (object ms)) h =
    subst (λ ps. IsStrictlySortedBy key_cmp (pair_keys ps)) (sym (pairs-members ms)) h.0

members_orderly : (o : Place) → PlaceIsOrderly o → PairsAreOrderly (pairs (members_in o))
members_orderly None h = tt
members_orderly (Some null) h = tt
members_orderly (Some (bool b)) h = tt
members_orderly (Some (int z)) h = tt
members_orderly (Some (text t)) h = tt
members_orderly (Some (array js)) h = tt
members_orderly (Some (object ms)) h = subst PairsAreOrderly (sym (pairs-members ms)) h.1

items_orderly : (o : Place) → PlaceIsOrderly o → RowIsOrderly (row (items_in o))
items_orderly None h = tt
items_orderly (Some null) h = tt
items_orderly (Some (bool b)) h = tt
items_orderly (Some (int z)) h = tt
items_orderly (Some (text t)) h = tt
items_orderly (Some (array js)) h = subst RowIsOrderly (sym (row-items js)) h
items_orderly (Some (object ms)) h = tt

-- ---- names in order

names_of : {T : Type 0} (f : Member → T) (name : T → List ℕ) (ms : List Member) → ((m : Member) → name (f m) ≡ m.0)
    → keys ms ≡ map name (map f ms)
names_of f name [] same = refl
names_of f name (m ∷ ms) same = ap₂ (λ n ns. n ∷ ns) (sym (same m)) (names_of f name ms same)

names_order : {T : Type 0} (f : Member → T) (name : T → List ℕ) (ms : List Member)
    → ((m : Member) → name (f m) ≡ m.0) → IsInOrder ms → AreInOrder (map name (map f ms))
names_order f name ms same o = subst (IsStrictlySortedBy key_cmp) (names_of f name ms same) o

all_by : (P : List ℕ → Type 0) (b : Bool) (m : Member) (ms : List Member) → P m.0 → AllByRecursion P (keys ms)
    → AllByRecursion P (keys (if b then ms else m ∷ ms))
all_by P true m ms p h = h
all_by P false m ms p h = (p, h)

all_unlooped : (P : List ℕ → Type 0) (ms : List Member) → AllByRecursion P (keys ms)
    → AllByRecursion P (keys (unlooped ms))
all_unlooped P [] h = h
all_unlooped P (m ∷ ms) h = all_by P (is_copy m.0) m (unlooped ms) h.0 (all_unlooped P ms h.1)

order_by : (b : Bool) (m : Member) (ms : List Member) → AllByRecursion (λ y. key_cmp m.0 y ≡ Less) (keys ms)
    → IsInOrder ms → IsInOrder (if b then ms else m ∷ ms)
unfolding IsStrictlySortedBy
order_by true m ms h o = o
order_by false m ms h o = (h, o)

unlooped_order : (ms : List Member) → IsInOrder ms → IsInOrder (unlooped ms)
unfolding IsStrictlySortedBy
unlooped_order [] o = o
unlooped_order (m ∷ ms) o =
    order_by (is_copy m.0) m (unlooped ms) (all_unlooped _ ms o.0) (unlooped_order ms o.1)

none_by : (b : Bool) (m : Member) (ms : List Member) → is_copy m.0 ≡ b → NoneLoops (keys ms)
    → NoneLoops (keys (if b then ms else m ∷ ms))
none_by true m ms e h = h
none_by false m ms e h = (e, h)

none_unlooped : (ms : List Member) → NoneLoops (keys (unlooped ms))
none_unlooped [] = tt
none_unlooped (m ∷ ms) = none_by (is_copy m.0) m (unlooped ms) refl (none_unlooped ms)

-- ---- variables

all_looped : (js : List Json) → AllLoop (map looped_variable js)
all_looped [] = tt
all_looped (j ∷ js) = all_looped js

loops_last : (ms : List Member) (js : List Json) → LoopsLast (map variable_of ms ++ map looped_variable js)
loops_last [] [] = tt
loops_last [] (j ∷ js) = all_looped js
loops_last (m ∷ ms) js = loops_last ms js

pub plain_none : (js : List Json) → plain_variables (map looped_variable js) ≡ []
plain_none [] = refl
plain_none (j ∷ js) = plain_none js

plain_keys : (ms : List Member) (js : List Json)
    → keys ms ≡ keys (plain_variables (map variable_of ms ++ map looped_variable js))
plain_keys [] js = sym (ap keys (plain_none js))
plain_keys (m ∷ ms) js = ap (λ ns. m.0 ∷ ns) (plain_keys ms js)

variables_keep : (ms : List Member) → IsInOrder ms → KeepsVariables (variables_of ms)
variables_keep ms o =
    let js = items_in (copies_in ms) in
    record {
      order = subst AreInOrder (plain_keys (unlooped ms) js) (unlooped_order ms o);
      named = subst NoneLoops (plain_keys (unlooped ms) js) (none_unlooped ms);
      loops = loops_last (unlooped ms) js;
    }

header_keeps : (o : Place) → PlaceIsOrderly o → KeepsHeader (header_by o)
header_keeps o h = record {
  parameters = names_order parameter_of (λ p. p.name) (members_in (inside (codes "parameters") o)) (λ m. refl)
      (members_order (inside (codes "parameters") o) (inside_orderly (codes "parameters") o h));
  variables = variables_keep (members_in (inside (codes "variables") o))
      (members_order (inside (codes "variables") o) (inside_orderly (codes "variables") o h));
  outputs = names_order output_of (λ p. p.name) (members_in (inside (codes "outputs") o)) (λ m. refl)
      (members_order (inside (codes "outputs") o) (inside_orderly (codes "outputs") o h));
}

-- ---- what declares a resource

size_kept : (o : Option ℤ) → nat_le (batch_size o) 800 ≡ true
size_kept None = refl
size_kept (Some (pos n)) = by_size (nat_le n 800) refl
  where
    by_size : (b : Bool) → nat_le n 800 ≡ b → nat_le (if b then n else 1) 800 ≡ true
    by_size true e = e
    by_size false e = refl
size_kept (Some (negsuc n)) = refl

batches_kept : (b : Bool) (n : ℕ) → nat_le n 800 ≡ true → KeepsBatches (if b then Serial n else Parallel)
batches_kept true n h = h
batches_kept false n h = tt

copy_kept : (o : Place) → KeepsCopy (copy_in o)
copy_kept None = tt
copy_kept (Some j) =
    batches_kept (is_word (codes "serial") (inside (codes "mode") (Some j)))
    (batch_size (number_in (inside (codes "batchSize") (Some j))))
    (size_kept (number_in (inside (codes "batchSize") (Some j))))

-- how a resource is listed in a template of the form
abbrev ListedIn : Form → Option (List ℕ) → Type 0
ListedIn One s = s ≡ None
ListedIn Two s = is_some s ≡ true

exists_none : (s : Option (List ℕ)) (b : Bool) → s ≡ None → (is_some s && b) ≡ false
exists_none None b e = refl
exists_none (Some n) b e = cc

symbol_kept : (f : Form) (s : Option (List ℕ)) (o : Place) → ListedIn f s → KeepsSymbol f (declaration_of s o)
symbol_kept One s o h = (h, exists_none s (is_true (inside (codes "existing") o)) h)
symbol_kept Two s o h = h

-- a text that is the word, or none
none_is_word : is_same_folded (chars deployments) [] ≡ false
none_is_word = ap (λ w. is_same_folded w []) (ascii.word deployments refl)

word_kept : (o : Place) (b : Bool) → is_word deployments o ≡ b → is_same_folded (chars deployments) (text_in o) ≡ b
word_kept None b e = none_is_word ∙ e
word_kept (Some null) b e = none_is_word ∙ e
word_kept (Some (bool c)) b e = none_is_word ∙ e
word_kept (Some (int z)) b e = none_is_word ∙ e
word_kept (Some (text t)) b e = e
word_kept (Some (array js)) b e = none_is_word ∙ e
word_kept (Some (object ms)) b e = none_is_word ∙ e

inside_by : (s : Option (List ℕ)) (b : Bool) (m : Member) (ms : List Member) → is_outside s m.0 ≡ b
    → AllInside s (keys ms) → AllInside s (keys (if b then ms else m ∷ ms))
inside_by s true m ms e h = h
inside_by s false m ms e h = (e, h)

body_kept : (s : Option (List ℕ)) (ms : List Member) → AllInside s (keys (body_of s ms))
body_kept s [] = tt
body_kept s (m ∷ ms) = inside_by s (is_outside s m.0) m (body_of s ms) refl (body_kept s ms)

-- ---- lists of resources

abbrev AllListed : Form → List Listed → Type 0
AllListed f [] = Unit {0}
AllListed f (l ∷ ls) = (ListedIn f l.0 × IsOrderly l.1) × AllListed f ls

all_items : (js : List Json) → RowIsOrderly (row js) → AllListed One (map (λ j. (None, j)) js)
all_items [] h = tt
all_items (j ∷ js) h = ((refl, h.0), all_items js h.1)

all_members : (ms : List Member) → PairsAreOrderly (pairs ms) → AllListed Two (map (λ m. (Some m.0, m.1)) ms)
all_members [] h = tt
all_members (m ∷ ms) h = ((refl, h.0), all_members ms h.1)

all_listed : (f : Form) (o : Place) → PlaceIsOrderly o → AllListed f (listed f o)
all_listed One o h = all_items (items_in o) (items_orderly o h)
all_listed Two o h = all_members (members_in o) (members_orderly o h)

symbols_of : (ms : List Member) (rs : Trees) → DescribesResources (map (λ m. (Some m.0, m.1)) ms) rs
    → keys ms ≡ symbols rs
symbols_of [] no_resources d = refl
symbols_of [] (a_resource r rs) d = absurd d
symbols_of (m ∷ ms) no_resources d = cc
symbols_of (m ∷ ms) (a_resource (resource c b cs) rs) d =
    ap₂ (λ n ns. n ∷ ns) (sym (ap (λ (x : Declaration). name_or_none x.symbol) d.0.0)) (symbols_of ms rs d.1)

symbols_kept : (f : Form) (o : Place) (rs : Trees) → PlaceIsOrderly o → DescribesResources (listed f o) rs
    → KeepsSymbols f rs
symbols_kept One o rs h d = tt
symbols_kept Two o rs h d = subst AreInOrder (symbols_of (members_in o) rs d) (members_order o h)

-- ---- templates

mutual
  pub described_keep : (o : Place) (t : TemplateTree) → PlaceIsOrderly o → DescribesTemplate o t → Keeps t
  described_keep o (template h rs) p d =
      let q = inside_orderly (codes "resources") o p in
      let form = ap (λ (x : Header). x.form) d.0 in (
        subst KeepsHeader (sym d.0) (header_keeps o p),
        subst (λ f. KeepsSymbols f rs) (sym form)
            (symbols_kept (form_of o) (inside (codes "resources") o) rs q d.1),
        subst (λ f. KeepEach f rs) (sym form)
            (each_keep (form_of o) (listed (form_of o) (inside (codes "resources") o)) rs
            (all_listed (form_of o) (inside (codes "resources") o) q) d.1),
      )

  each_keep : (f : Form) (ls : List Listed) (rs : Trees) → AllListed f ls → DescribesResources ls rs → KeepEach f rs
  each_keep f ls no_resources a d = tt
  each_keep f [] (a_resource r rs) a d = absurd d
  each_keep f (l ∷ ls) (a_resource r rs) a d = (resource_keeps f l r a.0.0 a.0.1 d.0, each_keep f ls rs a.1 d.1)

  resource_keeps : (f : Form) (l : Listed) (r : ResourceTree) → ListedIn f l.0 → IsOrderly l.1
      → DescribesResource l r → KeepsResource f r
  resource_keeps f l (resource d b cs) s o h =
      let q = inside_orderly (codes "resources") (Some l.1) o in (
        subst (KeepsSymbol f) (sym h.0) (symbol_kept f l.0 (Some l.1) s),
        subst (λ (x : Declaration). KeepsCopy x.copy) (sym h.0) (copy_kept (inside (codes "copy") (Some l.1))),
        body_keeps l d b o h.0 h.1,
        each_keep One (unnamed (inside (codes "resources") (Some l.1))) cs
            (all_items (items_in (inside (codes "resources") (Some l.1)))
            (items_orderly (inside (codes "resources") (Some l.1)) q)) h.2,
      )

  body_keeps : (l : Listed) (d : Declaration) (b : BodyTree) → IsOrderly l.1 → d ≡ declaration_of l.0 (Some l.1)
      → DescribesBody l b → KeepsBody d b
  body_keeps l d (body_members ms) o e h =
      subst (λ (x : Declaration). KeepsBody x (body_members ms)) (sym e) (
        word_kept (inside (codes "type") (Some l.1)) false h.0,
        subst (λ ns. AllInside l.0 (keys ns)) (sym h.1) (body_kept l.0 (members_in (Some l.1))),
      )
  body_keeps l d (deployment s ps t) o e h =
      let q = inside_orderly (codes "properties") (Some l.1) o in
      let ms = members_in (inside (codes "parameters") (inside (codes "properties") (Some l.1))) in
      let r = inside_orderly (codes "parameters") (inside (codes "properties") (Some l.1)) q in
      subst (λ (x : Declaration). KeepsBody x (deployment s ps t)) (sym e) (
        word_kept (inside (codes "type") (Some l.1)) true h.0,
        subst (λ qs. AreInOrder (map (λ a. a.name) qs)) (sym h.2)
            (names_order argument_of (λ a. a.name) (unlooped ms) (λ m. refl)
            (unlooped_order ms
            (members_order (inside (codes "parameters") (inside (codes "properties") (Some l.1))) r))),
        subst (λ qs. NoneLoops (map (λ a. a.name) qs)) (sym h.2)
            (subst NoneLoops (names_of argument_of (λ a. a.name) (unlooped ms) (λ m. refl)) (none_unlooped ms)),
        described_keep (inside (codes "template") (inside (codes "properties") (Some l.1))) t
            (inside_orderly (codes "template") (inside (codes "properties") (Some l.1)) q) h.3,
      )
