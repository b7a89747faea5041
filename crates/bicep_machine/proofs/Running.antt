-- What a reading that succeeds is before its tokens.
use Rattle.std.proofs.Common.{◌≡◌, ℕ, ◌&&◌, ◌<◌, ◌≤◌, nat_le, List, [], ◌∷◌, ◌++◌, Bool, true, false, true≢false}
use Rattle.std.proofs.Common.{Option, Some, None, option_and_then, cond, refl, ap, sym, ◌∙◌, arith, subst}
use Rattle.std.specs.List.{AllByRecursion}
use Rattle.std.proofs.lemmas.Bool.Decides.{nat_tests}
use Rattle.bicep_tree.specs.declared.leaf.Name.{Name}
use Rattle.bicep_tree.specs.declared.leaf.Namespace.{Namespace}
use Rattle.bicep_tree.specs.declared.leaf.Access.TheVariants as a
use Rattle.bicep_tree.specs.declared.leaf.Operator.{Operator}
use Rattle.bicep_tree.specs.declared.leaf.Operator.TheVariants as o
use Rattle.bicep_tree.specs.declared.terminal.Terminal.{Terminal}
use Rattle.bicep_tree.specs.declared.terminal.Terminal.TheVariants as t
use Rattle.bicep_tree.specs.Tree.{Tree, name, prefixed, binary, conditional, FileTree}
use Rattle.bicep_tree.specs.Precedence.{level, rank, Groups, IsUnary}
use Rattle.bicep_tree.specs.Terminals.{Placed}
use Rattle.bicep_tree.specs.Forms.{is_newline, skipped, sign, sign_at, token_at, token}
use Rattle.bicep_tree.specs.Expressions.{expression}
use Rattle.bicep_machine.specs.Kept.{Kept, put, flat, of_access, of_binary, of_conditional}
use Rattle.bicep_machine.specs.Stack.{Frame, opened, in_array, in_object, prefixing, left, chosen, valued, assigned}
use Rattle.bicep_machine.specs.Stack.{bodied, in_file, State, wanted, first, named, qualifying, qualified, dotted}
use Rattle.bicep_machine.specs.Stack.{done, paused, item, member, between, Next}
use Rattle.bicep_machine.specs.Closing.{Closed, of_statement, with_expression, closed, pair_on, newline_on}
use Rattle.bicep_machine.specs.Machine.{namespace_of, is_in, space_on, ended_by, begun, rejoined, transition}
use Rattle.bicep_machine.specs.Machine.{finished, run}
use Rattle.bicep_machine.proofs.Keeping.{keep}
use Rattle.bicep_machine.proofs.Building.{keep_binary, keep_conditional, keep_prefixed}
use Rattle.foundation.proofs.Comparisons.{le_false, le_true}

-- ---- what may stand on the stack

-- an expression that binds so may be read there
abbrev pub Fits : List Frame → ℕ → Type 0
Fits [] n = Unit {0}
Fits (prefixing at p ∷ S) n = 8 ≤ n
Fits (left op a ∷ S) n = level op < n
Fits (bodied h g ∷ S) n = ⊥
Fits (F ∷ S) n = Unit {0}

pub Fits-mono : (S : List Frame) (m n : ℕ) → m ≤ n → Fits S m → Fits S n
Fits-mono [] m n le h = tt
Fits-mono (prefixing at p ∷ S) m n le h = omega arith
Fits-mono (left op a ∷ S) m n le h = omega arith
Fits-mono (bodied b g ∷ S) m n le h = absurd h
Fits-mono (F ∷ S) m n le h = tt

pub level_bounds : (p : Operator) → (1 ≤ level p) × (level p ≤ 7)
level_bounds o.Coalesce = (omega arith, omega arith)
level_bounds o.Or = (omega arith, omega arith)
level_bounds o.And = (omega arith, omega arith)
level_bounds o.Equals = (omega arith, omega arith)
level_bounds o.NotEquals = (omega arith, omega arith)
level_bounds o.EqualsInsensitive = (omega arith, omega arith)
level_bounds o.NotEqualsInsensitive = (omega arith, omega arith)
level_bounds o.Less = (omega arith, omega arith)
level_bounds o.LessOrEqual = (omega arith, omega arith)
level_bounds o.Greater = (omega arith, omega arith)
level_bounds o.GreaterOrEqual = (omega arith, omega arith)
level_bounds o.Add = (omega arith, omega arith)
level_bounds o.Subtract = (omega arith, omega arith)
level_bounds o.Multiply = (omega arith, omega arith)
level_bounds o.Divide = (omega arith, omega arith)
level_bounds o.Remainder = (omega arith, omega arith)

-- ---- the end of an expression

-- what is at the end of an expression
abbrev pub last : Tree → Tree
last (prefixed at p e) = last e
last (binary op a b) = last b
last (conditional c a b) = last b
last e = e

-- the operators at its end bind as the grammar says
abbrev pub Spined : Tree → Type 0
Spined (prefixed at p e) = IsUnary e × Spined e
Spined (binary op a b) = Groups op a b × Spined b
Spined (conditional c a b) = Spined b
Spined e = Unit {0}

pub spined : (e : Tree) (i : Bool) (ts ks : List Placed) → expression i e ts ks → Spined e
spined (prefixed at p e) i ts ks (g, (m, tok, inner)) = (g, spined e i m ks inner)
spined (binary op a b) i ts ks (g, (m1, l1, (m2, tok, (m3, skip, l2)))) = (g, spined b i m3 ks l2)
spined (conditional c a b) i ts ks (g, (m1, l1, (m2, q, (m3, s, (m4, l2, (m5, colon, (m6, u, l3))))))) =
    spined b i m6 ks l3
spined e i ts ks h = tt

pub last-primary : (e : Tree) → 9 ≤ rank e → last e ≡ e
last-primary (prefixed at p e) h = absurd (omega arith)
last-primary (binary op a b) h = absurd (omega (arith, (level_bounds op).1))
last-primary (conditional c a b) h = absurd (omega arith)
last-primary e h = refl

module _ (most : ℕ) where
  -- the operators before the end, above what is open
  abbrev pub spine : Tree → List Frame → List Frame
  spine (prefixed at p e) S = spine e (prefixing at p ∷ S)
  spine (binary op a b) S = spine b (left op (keep most a) ∷ S)
  spine (conditional c a b) S = spine b (chosen (keep most c) (keep most a) ∷ S)
  spine e S = S

  pub spine-primary : (e : Tree) (S : List Frame) → 9 ≤ rank e → spine e S ≡ S
  spine-primary (prefixed at p e) S h = absurd (omega arith)
  spine-primary (binary op a b) S h = absurd (omega (arith, (level_bounds op).1))
  spine-primary (conditional c a b) S h = absurd (omega arith)
  spine-primary e S h = refl

  -- nothing closes below what fits
  pub stops : (S : List Frame) (n : ℕ) (x : Kept Tree) → 1 ≤ n → n ≤ 7 → Fits S n → closed most n x S ≡ (x, S)
  stops [] n x low high h = refl
  stops (prefixing at p ∷ S) n x low high h = absurd (omega arith)
  stops (left op a ∷ S) n x low high h = ap (λ b. cond b (closed most n (of_binary most op a x) S) (x, left op a ∷ S))
      (le_false n (level op) h)
  stops (chosen c a ∷ S) n x low high h =
      ap (λ b. cond b (closed most n (of_conditional most c a x) S) (x, chosen c a ∷ S)) (le_false n 0 low)
  stops (F ∷ S) n x low high h = refl

  -- what was read last is closed into the whole
  pub closes : (e : Tree) (n : ℕ) (S : List Frame) → Spined e → n ≤ rank e
      → closed most n (keep most (last e)) (spine e S) ≡ closed most n (keep most e) S
  closes (prefixed at p e) n S g le = closes e n (prefixing at p ∷ S) g.1 (omega (arith, g.0))
      ∙ ap (λ k. closed most n k S) (keep_prefixed most at p e)
  closes (binary op a b) n S g le =
      closes b n (left op (keep most a) ∷ S) g.1 (omega (arith, g.0.1))
      ∙ ap (λ v. cond v (closed most n (of_binary most op (keep most a) (keep most b)) S) (
        keep most b,
        left op (keep most a) ∷ S,
      )) (le_true n (level op) le)
      ∙ ap (λ k. closed most n k S) (keep_binary most op a b)
  closes (conditional c a b) n S g le =
      closes b n (chosen (keep most c) (keep most a) ∷ S) g (omega arith)
      ∙ ap (λ v. cond v (closed most n (of_conditional most (keep most c) (keep most a) (keep most b)) S)
      (keep most b, chosen (keep most c) (keep most a) ∷ S)) (le_true n 0 le)
      ∙ ap (λ k. closed most n k S) (keep_conditional most c a b)
  closes e n S g le = refl

  -- ---- readings that give r

  module _ (r : Kept FileTree) where
    abbrev pub Reads : State → Bool → List Frame → List Placed → Type 0
    Reads s i S ts = run most s i S ts ≡ Some r

    -- after a step
    abbrev pub Goes : Next → List Placed → Type 0
    Goes n ts = option_and_then (λ q. run most q.0 q.1 q.2 ts) n ≡ Some r

    pub none_goes : {P : Type 0} (ts : List Placed) → Goes None ts → P
    none_goes ts h = absurd cc

    -- a token that is no newline
    pub moves : (s : State) (i : Bool) (S : List Frame) (at : ℕ) (x : Terminal) (m : List Placed) (n : Next)
        → is_newline x ≡ false → transition most s i S at x ≡ n → Goes n m → Reads s i S ((at, x) ∷ m)
    moves s true S at x m n ne e h =
        ap (λ b. option_and_then (λ q. run most q.0 q.1 q.2 m)
        (cond b (Some (s, true, S)) (transition most s true S at x))) ne
        ∙ ap (λ p. option_and_then (λ q. run most q.0 q.1 q.2 m) p) e ∙ h
    moves s false S at x m n ne e h = ap (λ p. option_and_then (λ q. run most q.0 q.1 q.2 m) p) e ∙ h

    -- skipped newlines
    pub passed_over : (s : State) (i : Bool) (S : List Frame) (passed m : List Placed)
        → AllByRecursion (λ t. (i && is_newline t.1) ≡ true) passed → Reads s i S m → Reads s i S (passed ++ m)
    passed_over s i S [] m all h = h
    passed_over s i S (t ∷ passed) m all h =
        ap (λ b. option_and_then (λ q. run most q.0 q.1 q.2 (passed ++ m))
        (cond b (Some (s, i, S)) (transition most s i S t.0 t.1))) all.0 ∙ passed_over s i S passed m all.1 h

    pub skips : (s : State) (i : Bool) (S : List Frame) (ts m : List Placed) → skipped i ts m → Reads s i S m
        → Reads s i S ts
    skips s i S ts m k h = ap (run most s i S) k.2 ∙ passed_over s i S k.0 m k.1 h

    -- a token after skipped newlines
    pub takes_at : (s : State) (i : Bool) (S : List Frame) (at : ℕ) (x : Terminal) (ts m : List Placed) (n : Next)
        → token_at i at x ts m → is_newline x ≡ false → transition most s i S at x ≡ n → Goes n m → Reads s i S ts
    takes_at s i S at x ts m n k ne e h = skips s i S ts k.0 k.1 (ap (run most s i S) k.2 ∙ moves s i S at x m n ne e h)

    pub takes : (s : State) (i : Bool) (S : List Frame) (x : Terminal) (ts m : List Placed) (n : Next)
        → token i x ts m → is_newline x ≡ false → ((at : ℕ) → transition most s i S at x ≡ n) → Goes n m
        → Reads s i S ts
    takes s i S x ts m n k ne e h =
        skips s i S ts k.0 k.1 (ap (run most s i S) k.2.1 ∙ moves s i S k.2.0 x m n ne (e k.2.0) h)

    -- a token where nothing is skipped
    pub goes_at : (s : State) (S : List Frame) (at : ℕ) (x : Terminal) (ts m : List Placed) (n : Next)
        → sign_at at x ts m → transition most s false S at x ≡ n → Goes n m → Reads s false S ts
    goes_at s S at x ts m n k e h = ap (run most s false S) k
        ∙ ap (λ p. option_and_then (λ q. run most q.0 q.1 q.2 m) p) e ∙ h

    pub goes : (s : State) (S : List Frame) (x : Terminal) (ts m : List Placed) (n : Next) → sign x ts m
        → ((at : ℕ) → transition most s false S at x ≡ n) → Goes n m → Reads s false S ts
    goes s S x ts m n k e h = goes_at s S k.0 x ts m n k.1 (e k.0) h

    -- ---- where an expression may begin

    abbrev pub Begins : State → Bool → Type 0
    Begins (wanted w) i = Unit {0}
    Begins first i = Unit {0}
    Begins item i = i ≡ false
    Begins s i = ⊥

    starts : (s : State) (i : Bool) (S : List Frame) (at : ℕ) (x : Terminal) (q : State × Bool × List Frame)
        → Begins s i → is_newline x ≡ false → begun i S at x ≡ Some q → transition most s i S at x ≡ Some q
    starts (wanted true) i S at t.Newline q b ne e = absurd (true≢false ne)
    starts (wanted true) i S at x q b ne e = e
    starts (wanted false) i S at x q b ne e = e
    starts first i S at t.CloseParen q b ne e = absurd cc
    starts first i S at x q b ne e = e
    starts item true S at x q b ne e = absurd (true≢false b)
    starts item false S at t.Newline q b ne e = absurd (true≢false ne)
    starts item false S at t.Comma q b ne e = absurd cc
    starts item false S at t.CloseBracket q b ne e = absurd cc
    starts item false S at x q b ne e = e
    starts s i S at x q b ne e = absurd b

    pub begins : (s : State) (i : Bool) (S : List Frame) (at : ℕ) (x : Terminal) (ts m : List Placed) (q : State
        × Bool × List Frame) → Begins s i → token_at i at x ts m → is_newline x ≡ false → begun i S at x ≡ Some q
        → Goes (Some q) m → Reads s i S ts
    begins s i S at x ts m q b k ne e h = takes_at s i S at x ts m (Some q) k ne (starts s i S at x q b ne e) h

    -- newlines after an operator
    lines_passed : (i : Bool) (S : List Frame) (passed m : List Placed)
        → AllByRecursion (λ t. (true && is_newline t.1) ≡ true) passed → Reads (wanted true) i S m
        → Reads (wanted true) i S (passed ++ m)
    lines_passed i S [] m all h = h
    lines_passed true S (t ∷ passed) m all h = passed_over (wanted true) true S (t ∷ passed) m all h
    lines_passed false S ((at, t.Newline) ∷ passed) m all h = lines_passed false S passed m all.1 h
    lines_passed false S ((at, x) ∷ passed) m all h = absurd (true≢false (sym all.0))

    pub skips_after : (i : Bool) (S : List Frame) (ts m : List Placed) → skipped true ts m
        → Reads (wanted true) i S m → Reads (wanted true) i S ts
    skips_after i S ts m k h = ap (run most (wanted true) i S) k.2 ∙ lines_passed i S k.0 m k.1 h

    -- ---- a name is an expression, unless something makes more of it

    pub qualified_reads : (z : Namespace) (n m : Name) (i : Bool) (S : List Frame) (ts : List Placed)
        → Reads (done (of_access most (flat (name n)) a.Member m)) i S ts → Reads (qualified z n m) i S ts
    qualified_reads z n m i S [] h = h
    qualified_reads z n m true S ((at, t.Newline) ∷ ts) h = qualified_reads z n m true S ts h
    qualified_reads z n m false S ((at, t.Newline) ∷ ts) h = h
    qualified_reads z n m true S ((at, t.OpenParen) ∷ ts) h = absurd cc
    qualified_reads z n m false S ((at, t.OpenParen) ∷ ts) h = absurd cc
    qualified_reads z n m true S ((at, x) ∷ ts) h = h
    qualified_reads z n m false S ((at, x) ∷ ts) h = h

    pub qualifying_reads : (z : Namespace) (n : Name) (i : Bool) (S : List Frame) (ts : List Placed)
        → Reads (dotted a.Member (flat (name n))) i S ts → Reads (qualifying z n) i S ts
    qualifying_reads z n i S [] h = h
    qualifying_reads z n true S ((at, t.Newline) ∷ ts) h = qualifying_reads z n true S ts h
    qualifying_reads z n false S ((at, t.Newline) ∷ ts) h = h
    qualifying_reads z n true S ((at, t.Name s) ∷ ts) h = qualified_reads z n _ true S ts h
    qualifying_reads z n false S ((at, t.Name s) ∷ ts) h = qualified_reads z n _ false S ts h
    qualifying_reads z n true S ((at, x) ∷ ts) h = h
    qualifying_reads z n false S ((at, x) ∷ ts) h = h

    space_reads : (z : Option Namespace) (n : Name) (i : Bool) (S : List Frame) (ts : List Placed)
        → Reads (dotted a.Member (flat (name n))) i S ts → Goes (space_on most z n i S) ts
    space_reads None n i S ts h = h
    space_reads (Some z) n i S ts h = qualifying_reads z n i S ts h

    word_reads : {P : Type 0} (b : Bool) (S : List Frame) (ts : List Placed) → Goes (cond b (pair_on None S) None) ts
        → P
    word_reads true S ts h = absurd cc
    word_reads false S ts h = absurd cc

    pub named_reads : (n : Name) (i : Bool) (S : List Frame) (ts : List Placed) → Reads (done (flat (name n))) i S ts
        → Reads (named n) i S ts
    named_reads n i S [] h = h
    named_reads n true S ((at, t.Newline) ∷ ts) h = named_reads n true S ts h
    named_reads n false S ((at, t.Newline) ∷ ts) h = h
    named_reads n true S ((at, t.OpenParen) ∷ ts) h = absurd cc
    named_reads n false S ((at, t.OpenParen) ∷ ts) h = absurd cc
    named_reads n true S ((at, t.Access a.Member) ∷ ts) h = space_reads (namespace_of n.text) n true S ts h
    named_reads n false S ((at, t.Access a.Member) ∷ ts) h = space_reads (namespace_of n.text) n false S ts h
    named_reads n true S ((at, t.Name s) ∷ ts) h = word_reads (is_in s) S ts h
    named_reads n false S ((at, t.Name s) ∷ ts) h = word_reads (is_in s) S ts h
    named_reads n true S ((at, x) ∷ ts) h = h
    named_reads n false S ((at, x) ∷ ts) h = h

    -- ---- after an expression

    -- a token to which all operators are closed
    pub ends : (e : Tree) (i : Bool) (S : List Frame) (x : Terminal) (ts m : List Placed) (g : Closed → Next)
        → Spined e → token i x ts m → is_newline x ≡ false
        → ((k : Kept Tree) (U : List Frame) (at : ℕ) → transition most (done k) i U at x ≡ g (closed most 0 k U))
        → Goes (g (closed most 0 (keep most e) S)) m
        → Reads (done (keep most (last e))) i (spine e S) ts
    ends e i S x ts m g sp k ne is h =
        takes (done (keep most (last e))) i (spine e S) x ts m (g (closed most 0 (keep most e) S)) k ne
        (λ at. is (keep most (last e)) (spine e S) at ∙ ap g (closes e 0 S sp (omega arith))) h

    -- a newline that ends it, and what follows
    abbrev pub Rejoins : State × Bool × List Frame → Type 0
    Rejoins (item, false, in_array at was es ∷ S) = Unit {0}
    Rejoins (member, false, S) = Unit {0}
    Rejoins (between, false, S) = Unit {0}
    Rejoins q = ⊥

    the_state : Next → State
    the_state None = between
    the_state (Some q) = q.0

    item_apart : {P : Type 0} (i j : Bool) (S T : List Frame)
        → ◌≡◌ {A = Next} (Some (item, i, S)) (Some (between, j, T)) → P
    unfolding the_state
    item_apart i j S T e = let z : item ≡ between = ap the_state e in absurd cc

    member_apart : {P : Type 0} (i j : Bool) (S T : List Frame)
        → ◌≡◌ {A = Next} (Some (member, i, S)) (Some (between, j, T)) → P
    unfolding the_state
    member_apart i j S T e = let z : member ≡ between = ap the_state e in absurd cc

    the_stack : Next → List Frame
    the_stack None = []
    the_stack (Some q) = q.2

    filed_end : (p : Closed) (S : List Frame) → newline_on most p ≡ Some (between, false, S)
        → finished most between S ≡ Some r → ended_by most p ≡ Some r
    unfolding the_stack
    filed_end (x, []) S e h = absurd cc
    filed_end (x, opened at was ∷ U) S e h = item_apart _ _ _ _ e
    filed_end (x, in_array at was es ∷ U) S e h = item_apart _ _ _ _ e
    filed_end (x, valued l ∷ (in_object at was ms ∷ U)) S e h = member_apart _ _ _ _ e
    filed_end (x, valued l ∷ U) S e h = absurd cc
    filed_end (x, assigned ds d ∷ (in_file ss ∷ [])) S e h =
        let same : in_file (put ss (of_statement ds (with_expression d x))) ∷ [] ≡ S = ap the_stack e in
        subst (λ T. finished most between T ≡ Some r) (sym same) h
    filed_end (x, assigned ds d ∷ (in_file ss ∷ (F ∷ U))) S e h =
        let same : in_file (put ss (of_statement ds (with_expression d x))) ∷ (F ∷ U) ≡ S = ap the_stack e in
        absurd (none_is (subst (λ T. finished most between T ≡ Some r) (sym same) h))
      where
        none_is : ◌≡◌ {A = Option (Kept FileTree)} None (Some r) → ⊥
        none_is z = absurd cc
    filed_end (x, assigned ds d ∷ U) S e h = absurd cc
    filed_end (x, F ∷ U) S e h = absurd cc

    rejoin_end : (k : Kept Tree) (U : List Frame) (q : State × Bool × List Frame) → Rejoins q
        → newline_on most (closed most 0 k U) ≡ Some q → Reads q.0 q.1 q.2 [] → Reads (paused k) false U []
    rejoin_end k U (item, false, in_array at was es ∷ S) j e h = absurd cc
    rejoin_end k U (member, false, S) j e h = absurd cc
    rejoin_end k U (between, false, S) j e h = filed_end (closed most 0 k U) S e h
    rejoin_end k U q j e h = absurd j

    -- after the newline comes what may come there, since `?` and `:` may not
    pub rejoins : (k : Kept Tree) (U : List Frame) (q : State × Bool × List Frame) (ts : List Placed) → Rejoins q
        → newline_on most (closed most 0 k U) ≡ Some q → Reads q.0 q.1 q.2 ts → Reads (paused k) false U ts
    rejoins k U q [] j e h = rejoin_end k U q j e h
    rejoins k U (item, false, in_array o was es ∷ S) ((at, t.Newline) ∷ ts) j e h =
        rejoins k U (item, false, in_array o was es ∷ S) ts j e h
    rejoins k U (item, false, in_array o was es ∷ S) ((at, t.Question) ∷ ts) j e h = absurd cc
    rejoins k U (item, false, in_array o was es ∷ S) ((at, t.Colon) ∷ ts) j e h = absurd cc
    rejoins k U (item, false, in_array o was es ∷ S) ((at, x) ∷ ts) j e h =
        ap (λ n. option_and_then (λ q. run most q.0 q.1 q.2 ts) (option_and_then (λ q. rejoined most q at x) n)) e ∙ h
    rejoins k U (member, false, S) ((at, t.Newline) ∷ ts) j e h = rejoins k U (member, false, S) ts j e h
    rejoins k U (member, false, S) ((at, t.Question) ∷ ts) j e h = absurd cc
    rejoins k U (member, false, S) ((at, t.Colon) ∷ ts) j e h = absurd cc
    rejoins k U (member, false, S) ((at, x) ∷ ts) j e h =
        ap (λ n. option_and_then (λ q. run most q.0 q.1 q.2 ts) (option_and_then (λ q. rejoined most q at x) n)) e ∙ h
    rejoins k U (between, false, S) ((at, t.Newline) ∷ ts) j e h = rejoins k U (between, false, S) ts j e h
    rejoins k U (between, false, S) ((at, t.Question) ∷ ts) j e h = absurd cc
    rejoins k U (between, false, S) ((at, t.Colon) ∷ ts) j e h = absurd cc
    rejoins k U (between, false, S) ((at, x) ∷ ts) j e h =
        ap (λ n. option_and_then (λ q. run most q.0 q.1 q.2 ts) (option_and_then (λ q. rejoined most q at x) n)) e ∙ h
    rejoins k U q ((at, x) ∷ ts) j e h = absurd j
