-- Titles that are looked up, and those of resources.
use Rattle.std.proofs.Common.{◌≡◌, ℕ, Bool, true, false, ◌||◌, ◌&&◌, List, [], ◌∷◌, ◌++◌, bytes_eq}
use Rattle.std.proofs.Common.{Option, Some, None, refl, sym, ap, ap₂, ◌∙◌}
use Rattle.std.specs.Prelude.{is_some, if◌then◌else◌}
use Rattle.std.specs.List.{list_any}
use Rattle.foundation.proofs.TruthValues.{or_crossed}
use Rattle.arm_eval.specs.Titles.{number_from}
use Rattle.arm_value.specs.Look.{is_same_folded}
use Rattle.name_set.specs.Names.{is_listed, is_named}
use Rattle.template_parts.specs.declared.declaration.Declaration.{Declaration}
use Rattle.template_parts.specs.declared.looping.ResourceCopy.{ResourceCopy}
use Rattle.template_parts.specs.declared.mode.Form.TheVariants.{One}
use Rattle.template_tree.specs.Tree.{TemplateTree}
use Rattle.plan_cells.specs.Needs.{is_symbol, has_loop}
use Rattle.plan_cells.specs.Resources.{Listed, resources_in}
use Rattle.name_tags.specs.Loops.{loop_title, loop_titles}
use Rattle.plan_faults.specs.Dependencies.{is_indexed, has_symbol, is_title}
use Rattle.dependency_titles.specs.Titles.{symbol_title, symbol_titles, looped_titles, is_any_indexed}

any_same : {A : Type 0} (f g : A → Bool) → ((x : A) → f x ≡ g x) → (xs : List A) → list_any f xs ≡ list_any g xs
any_same f g h [] = refl
any_same f g h (x ∷ xs) = ap₂ (λ a b. a || b) (h x) (any_same f g h xs)

none_any : {A : Type 0} (f : A → Bool) → ((x : A) → f x ≡ false) → (xs : List A) → false ≡ list_any f xs
none_any f h [] = refl
none_any f h (x ∷ xs) = none_any f h xs ∙ ap (λ b. b || list_any f xs) (sym (h x))

any_or : {A : Type 0} (f g : A → Bool) (xs : List A)
    → list_any (λ x. f x || g x) xs ≡ (list_any f xs || list_any g xs)
any_or f g [] = refl
any_or f g (x ∷ xs) = ap (λ b. (f x || g x) || b) (any_or f g xs) ∙ or_crossed (f x) (g x) (list_any f xs) (list_any g xs)

-- ---- symbolic names

one_symbol : (t : List ℕ) (o : Option (List ℕ)) (ys : List (List ℕ))
    → is_listed (symbol_title o ++ ys) t ≡ (is_symbol t o || is_listed ys t)
one_symbol t None ys = refl
one_symbol t (Some x) ys = refl

symbols_listed : (t : List ℕ) (rs : List Listed)
    → is_listed (symbol_titles rs) t ≡ list_any (λ (r : Listed). is_symbol t r.declaration.symbol) rs
symbols_listed t [] = refl
symbols_listed t (r ∷ rs) =
    one_symbol t r.declaration.symbol (symbol_titles rs)
    ∙ ap (λ b. is_symbol t r.declaration.symbol || b) (symbols_listed t rs)

none_indexed : (t : List ℕ) (n : Option ℕ) → is_indexed t n None ≡ false
none_indexed t None = refl
none_indexed t (Some i) = refl

one_looped : (t : List ℕ) (b c : Bool) (o : Option (List ℕ)) (ys : List (List ℕ))
    → is_any_indexed ((if b && c then symbol_title o else []) ++ ys) t
    ≡ ((b && (c && is_indexed t (number_from None t) o)) || is_any_indexed ys t)
one_looped t true true None ys = ap (λ z. z || is_any_indexed ys t) (sym (none_indexed t (number_from None t)))
one_looped t true true (Some x) ys = refl
one_looped t true false o ys = refl
one_looped t false c o ys = refl

abbrev is_looped_by : List ℕ → Declaration → Bool
is_looped_by t d = d.existing && (is_some d.copy && is_indexed t (number_from None t) d.symbol)

looped_listed : (t : List ℕ) (rs : List Listed)
    → is_any_indexed (looped_titles rs) t ≡ list_any (λ (r : Listed). is_looped_by t r.declaration) rs
looped_listed t [] = refl
looped_listed t (r ∷ rs) =
    one_looped t r.declaration.existing (is_some r.declaration.copy) r.declaration.symbol (looped_titles rs)
    ∙ ap (λ b. is_looped_by t r.declaration || b) (looped_listed t rs)

pub symbol_there : (t : List ℕ) (u : TemplateTree) (symbols looped : List (List ℕ))
    → symbols ≡ symbol_titles (resources_in u) → looped ≡ looped_titles (resources_in u)
    → (is_listed symbols t || is_any_indexed looped t) ≡ has_symbol t (Some u)
symbol_there t u symbols looped e h =
    ap₂ (λ a b. is_listed a t || is_any_indexed b t) e h
    ∙ ap₂ (λ a b. a || b) (symbols_listed t (resources_in u)) (looped_listed t (resources_in u))
    ∙ sym (any_or (λ (r : Listed). is_symbol t r.declaration.symbol) (λ (r : Listed). is_looped_by t r.declaration)
    (resources_in u))

-- ---- names with an index

pub indexed_there : (t base : List ℕ) (xs : List (List ℕ))
    → ((x : List ℕ) → is_indexed t (number_from None t) (Some x) ≡ bytes_eq base x)
    → is_listed xs base ≡ is_any_indexed xs t
indexed_there t base xs h =
    any_same (bytes_eq base) (λ x. is_indexed t (number_from None t) (Some x)) (λ x. sym (h x)) xs

pub indexed_nowhere : (t : List ℕ) (xs : List (List ℕ))
    → ((x : List ℕ) → is_indexed t (number_from None t) (Some x) ≡ false) → false ≡ is_any_indexed xs t
indexed_nowhere t xs h = none_any (λ x. is_indexed t (number_from None t) (Some x)) h xs

-- ---- names of loops

abbrev loop_by : List ℕ → Option ResourceCopy → Bool
loop_by x None = false
loop_by x (Some c) = is_same_folded x c.name

has_loop_by : (x : List ℕ) (r : Listed) (o : Option ResourceCopy) → r.declaration.copy ≡ o
    → has_loop x r ≡ loop_by x o
has_loop_by x r None e = rw e refl
has_loop_by x r (Some c) e = rw e refl

one_loop : (x : List ℕ) (o : Option ResourceCopy) (ys : List (List ℕ))
    → is_named (loop_title o ++ ys) x ≡ (loop_by x o || is_named ys x)
one_loop x None ys = refl
one_loop x (Some c) ys = refl

loops_named : (x : List ℕ) (rs : List Listed) → is_named (loop_titles rs) x ≡ list_any (has_loop x) rs
loops_named x [] = refl
loops_named x (r ∷ rs) =
    one_loop x r.declaration.copy (loop_titles rs)
    ∙ ap₂ (λ a b. a || b) (sym (has_loop_by x r r.declaration.copy refl)) (loops_named x rs)

pub loop_there : (x : List ℕ) (u : TemplateTree) (loops : List (List ℕ)) → loops ≡ loop_titles (resources_in u)
    → is_named loops x ≡ is_title One (Some u) x
loop_there x u loops e = ap (λ ls. is_named ls x) e ∙ loops_named x (resources_in u)
