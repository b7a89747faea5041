-- How far tokens are read, and where they break.
use Rattle.std.proofs.Common.{◌≡◌, ℕ, zero, suc, ◌-◌, ◌+◌, ◌<◌, ◌≤◌, nat_le, nat_lt, ◌&&◌, List, [], ◌∷◌, ◌++◌, map}
use Rattle.std.proofs.Common.{drop, length, Bool, true, false, true≢false, Option, Some, None, MatchOption}
use Rattle.std.proofs.Common.{option_and_then, unwrap_or, ◌⊎◌, inl, inr, refl, sym, ap, ◌∙◌, subst, arith}
use Rattle.std.specs.List.{slice_get}
use Rattle.std.proofs.lemmas.Bool.Decides.{nat_tests}
use Rattle.std.proofs.lemmas.List.{drop_all, append-nil}
use Rattle.bicep_lexer.specs.declared.token.Token.{Token}
use Rattle.bicep_lexer.specs.Reading.{Standing, standing}
use Rattle.bicep_tree.specs.declared.terminal.Terminal.{Terminal}
use Rattle.bicep_tree.specs.declared.terminal.Terminal.TheVariants as t
use Rattle.bicep_tree.specs.Tree.{FileTree}
use Rattle.bicep_tree.specs.Nesting.{file_nesting}
use Rattle.bicep_tree.specs.Declarations.{Spells}
use Rattle.bicep_tree.specs.Forms.{is_newline}
use Rattle.bicep_tree.specs.Terminals.{Placed, placed, terminal_of}
use Rattle.bicep_machine.specs.Kept.{Kept, empty}
use Rattle.bicep_machine.specs.Stack.{State, Frame, between, in_file}
use Rattle.bicep_machine.specs.Machine.{transition, step, run, finished, parsed}
use Rattle.bicep_machine.specs.Spelled.{IsKept}
use Rattle.foundation.specs.declared.stop.Stop.{Stop}
use Rattle.foundation.specs.declared.stop.Stop.TheVariants as stop
use Rattle.bicep_machine.specs.declared.frame.Frame as frames
use Rattle.bicep_machine.specs.declared.state.Next as nexts
use Rattle.foundation.specs.Stopping.{Stops}
use Rattle.bicep_machine.specs.Views.{frames_of, next_of}
use Rattle.bicep_parser.specs.declared.fault.ParseFault.TheVariants as fault
use Rattle.bicep_parser.specs.Answers.{fault_at}
use Rattle.bicep_parser.specs.Depth.{stack_depth, deepest, top_depth, at_hand, noted}
use Rattle.bicep_parser.specs.Refused.{BeginNoFile, BeginAFile, BreaksAt, DeepAt, end_of_token, EndsAt}
use Rattle.bicep_parser.specs.Refused.{BeginsAStatement}
use Rattle.bicep_parser.specs.Refused.{EarlierWithin, TellsPlace}
use Rattle.bicep_machine.proofs.Spelling.{spelled_is_read, read_is_spelled}
use Rattle.bicep_parser.proofs.Answering.{none_spelled}
use Rattle.bicep_parser.proofs.AtHand.{kept_low}
use Rattle.bicep_parser.proofs.Deepening.{Marked, Keeps}
use Rattle.bicep_parser.proofs.DeepeningSteps.{step_keeps}
use Rattle.bicep_parser.proofs.Deepest.{file_deep}
use Rattle.bicep_parser.proofs.Fitting.{Stands, Follows}
use Rattle.foundation.proofs.Choices.{if_else}
use Rattle.bicep_parser.proofs.FollowingSteps.{step_follows}
use Rattle.bicep_parser.proofs.EndingStates.{state_ends}

-- what was read of the tokens, and that it leads here
pub record Progress (ts rest : List Standing) (s : State) (i : Bool) (S : List Frame) : Type 0 where
  pub before : List Standing
  pub split : ts ≡ before ++ rest
  pub leads : (more : List Placed) → run 64 s i S more ≡ parsed 64 (map placed before ++ more)
  pub stands : Stands s i S
  pub marked : Marked s

begins : (ts : List Standing) → Progress ts ts between false (in_file empty ∷ [])
begins ts = record { before = []; split = refl; leads = λ more. refl; stands = tt; marked = tt }

one_more : (before : List Standing) (t : Standing) (more : List Placed)
    → map placed before ++ placed t ∷ more ≡ map placed (before ++ t ∷ []) ++ more
one_more [] t more = refl
one_more (b ∷ before) t more = ap (λ xs. placed b ∷ xs) (one_more before t more)

split_more : (before : List Standing) (t : Standing) (rest : List Standing)
    → before ++ t ∷ rest ≡ (before ++ t ∷ []) ++ rest
split_more [] t rest = refl
split_more (b ∷ before) t rest = ap (λ xs. b ∷ xs) (split_more before t rest)

all_mapped : (xs ys : List Standing) → map placed (xs ++ ys) ≡ map placed xs ++ map placed ys
all_mapped [] ys = refl
all_mapped (x ∷ xs) ys = ap (λ zs. placed x ∷ zs) (all_mapped xs ys)

-- what a token leads to
leads_on : (ts rest : List Standing) (t : Standing) (s : State) (i : Bool) (S : List Frame) (q : State × Bool
    × List Frame) (p : Progress ts (t ∷ rest) s i S) → step 64 s i S (placed t) ≡ Some q → (more : List Placed)
    → run 64 q.0 q.1 q.2 more ≡ parsed 64 (map placed (p.before ++ t ∷ []) ++ more)
leads_on ts rest t s i S q p e more = sym (ap (λ n. option_and_then (λ r. run 64 r.0 r.1 r.2 more) n) e)
    ∙ p.leads (placed t ∷ more) ∙ ap (parsed 64) (one_more p.before t more)

marked_on : (t : Standing) (s : State) (i : Bool) (S : List Frame) (q : State × Bool × List Frame) → Marked s
    → step 64 s i S (placed t) ≡ Some q → Marked q.0
marked_on t s i S q m e =
    let k : Keeps (deepest s S) (Some q) = subst (Keeps (deepest s S)) e (step_keeps s i S (placed t) m) in
    k.0

-- a token is read
pub goes_on : (ts rest : List Standing) (t : Standing) (s : State) (i : Bool) (S : List Frame) (q : State × Bool
    × List Frame) → Progress ts (t ∷ rest) s i S → step 64 s i S (placed t) ≡ Some q → Progress ts rest q.0 q.1 q.2
goes_on ts rest t s i S q p e =
    record {
      before = p.before ++ t ∷ [];
      split = p.split ∙ split_more p.before t rest;
      leads = leads_on ts rest t s i S q p e;
      stands = subst Follows e (step_follows s i S (placed t) p.stands);
      marked = marked_on t s i S q p.marked e;
    }

-- a file begins with what was read
begun_by : (ts rest : List Standing) (s : State) (i : Bool) (S : List Frame) (p : Progress ts rest s i S)
    → BeginAFile p.before
begun_by ts rest s i S p =
    let c = state_ends s i S p.stands in
    let read =
    read_is_spelled 64 (map placed (p.before ++ c.more)) c.kept (ap (parsed 64) (all_mapped p.before c.more)
    ∙ sym (p.leads (map placed c.more)) ∙ c.reads) in
    (c.more, read.0, read.1)

-- a token with which the machine does not go on
pub breaks : (ts rest : List Standing) (t : Standing) (s : State) (i : Bool) (S : List Frame)
    → Progress ts (t ∷ rest) s i S → step 64 s i S (placed t) ≡ None → BreaksAt ts t.1
breaks ts rest t s i S p e =
    record {
      before = p.before;
      token = t;
      after = rest;
      split = p.split;
      place = refl;
      begun =
          begun_by ts (t ∷ rest) s i S p;
      none = none;
    }
  where
    none : BeginNoFile (p.before ++ t ∷ [])
    none more f h =
        none_spelled ((p.before ++ t ∷ []) ++ more)
        (ap (parsed 64) (all_mapped (p.before ++ t ∷ []) more ∙ sym (one_more p.before t (map placed more)))
        ∙ sym (p.leads (placed t ∷ map placed more))
        ∙ ap (λ n. option_and_then (λ r. run 64 r.0 r.1 r.2 (map placed more)) n) e) f h

-- a token after which something nests too deep
deep_at : (ts rest : List Standing) (t : Standing) (s : State) (i : Bool) (S : List Frame) (q : State × Bool
    × List Frame) → Progress ts (t ∷ rest) s i S → step 64 s i S (placed t) ≡ Some q → 64 < deepest q.0 q.2
    → DeepAt ts t.1
deep_at ts rest t s i S q p e h =
    record { before = p.before; token = t; after = rest; split = p.split; place = refl; deep = deep }
  where
    deep : (more : List Standing) (f : FileTree) → Spells f ((p.before ++ t ∷ []) ++ more) → 64 < file_nesting f
    deep more f sp = file_deep ((p.before ++ t ∷ []) ++ more) (map placed more) q.0 q.1 q.2
        (leads_on ts rest t s i S q p e (map placed more)
        ∙ sym (ap (parsed 64) (all_mapped (p.before ++ t ∷ []) more))) (marked_on t s i S q p.marked e) h f sp

no_newline : (i : Bool) (y : Terminal) → BeginsAStatement y → (i && is_newline y) ≡ true → ⊥
no_newline false y o e = true≢false (sym e)
no_newline true (t.Name u) o e = true≢false (sym e)
no_newline true t.At o e = true≢false (sym e)
no_newline true y o e = absurd o

-- ---- while nothing that nests too deep is noted

-- what is at hand is within the limit, and so are the statements that were read before the last
pub record Settled (before : List Standing) (s : State) (S : List Frame) : Type 0 where
  pub low : at_hand s S ≤ 64
  pub earlier : EarlierWithin before

no_tokens : (before : List Standing) (t : Standing) (after : List Standing) → [] ≡ before ++ t ∷ after → ⊥
no_tokens [] t after e = absurd cc
no_tokens (b ∷ before) t after e = absurd cc

pub settled_first : Settled [] between (in_file empty ∷ [])
settled_first = record { low = omega arith; earlier = λ before t after f e o sp. absurd (no_tokens before t after e) }

-- a token among those with one more at their end is that one, or one of them
among_more : (xs before : List Standing) (x t : Standing) (after : List Standing) → xs ++ x ∷ [] ≡ before ++ t ∷ after
    → ((before ≡ xs) × (t ≡ x)) ⊎ ((rest : List Standing) × (xs ≡ before ++ t ∷ rest))
among_more [] [] x t after e = inl (refl, cc)
among_more [] (b ∷ before) x t after e = absurd (no_tokens before t after cc)
among_more (y ∷ xs) [] x t after e = let same : y ≡ t = cc in inr (xs, ap (λ z. z ∷ xs) same)
among_more (y ∷ xs) (b ∷ before) x t after e = by (among_more xs before x t after cc)
  where
    same : y ≡ b
    same = cc

    by : ((before ≡ xs) × (t ≡ x)) ⊎ ((rest : List Standing) × (xs ≡ before ++ t ∷ rest))
        → ((b ∷ before ≡ y ∷ xs) × (t ≡ x)) ⊎ ((rest : List Standing) × (y ∷ xs ≡ (b ∷ before) ++ t ∷ rest))
    by (inl h) = inl (cc, h.1)
    by (inr h) = inr (h.0, cc)

-- a file that was read, where the next statement begins with the token
read_within : (ts rest : List Standing) (t : Standing) (s : State) (i : Bool) (S : List Frame) (q : State × Bool
    × List Frame) (p : Progress ts (t ∷ rest) s i S) → step 64 s i S (placed t) ≡ Some q → at_hand s S ≤ 64
    → at_hand q.0 q.2 ≤ 64 → BeginsAStatement (terminal_of t) → (f : FileTree) → Spells f p.before
    → file_nesting f ≤ 64
read_within ts rest t s i S q p e low next o f sp = by (nat_le (file_nesting f) 64) refl
  where
    read : (k : Kept FileTree) × (parsed 64 (map placed p.before) ≡ Some k) × IsKept 64 f k
    read = spelled_is_read 64 f (map placed p.before) (omega arith) sp

    ends_so : finished 64 s S ≡ Some read.0
    ends_so = p.leads [] ∙ ap (parsed 64) (append-nil (map placed p.before)) ∙ read.1

    by : (b : Bool) → nat_le (file_nesting f) 64 ≡ b → file_nesting f ≤ 64
    by true h = grind (arith, nat_tests)
    by false h =
        let lt : 64 < file_nesting f = grind (arith, nat_tests) in
        let deep : 64 < read.0.1 = read.2.deep lt in
        let le = kept_low s i S t.1 (terminal_of t) q read.0 o ends_so (moved_so (terminal_of t) o e) in
        absurd (omega arith)
      where
        moved_so : (y : Terminal) → BeginsAStatement y → step 64 s i S (t.1, y) ≡ Some q
            → transition 64 s i S t.1 y ≡ Some q
        moved_so y o e = if_else (λ n. n ≡ Some q → transition 64 s i S t.1 y ≡ Some q) (i && is_newline y)
            (Some (s, i, S))
            (transition 64 s i S t.1 y) (λ b h. absurd (no_newline i y o b)) (λ b h. h) e

-- a token is read, and nothing too deep is at hand after it
pub settles : (ts rest : List Standing) (t : Standing) (s : State) (i : Bool) (S : List Frame) (q : State × Bool
    × List Frame) (p : Progress ts (t ∷ rest) s i S) → step 64 s i S (placed t) ≡ Some q → Settled p.before s S
    → at_hand q.0 q.2 ≤ 64 → Settled (p.before ++ t ∷ []) q.0 q.2
settles ts rest t s i S q p e h low = record { low = low; earlier = earlier }
  where
    earlier : EarlierWithin (p.before ++ t ∷ [])
    earlier before u after f is o sp = by (among_more p.before before t u after is)
      where
        by : ((before ≡ p.before) × (u ≡ t)) ⊎ ((more : List Standing) × (p.before ≡ before ++ u ∷ more))
            → file_nesting f ≤ 64
        by (inl g) = read_within ts rest t s i S q p e h.low low (subst (λ x. BeginsAStatement (terminal_of x)) g.1 o)
            f (subst (Spells f) g.0 sp)
        by (inr g) = h.earlier before u g.0 f g.1 o sp

-- what was read, and where a part that nests too deep was first at hand
abbrev pub Noted : List Standing → List Standing → State → Bool → List Frame → Option ℕ → Type 0
Noted ts rest s i S deep = (p : Progress ts rest s i S) × MatchOption deep (Settled p.before s S) (DeepAt ts)

top_low : (S : List Frame) → top_depth S ≤ stack_depth S
top_low [] = omega arith
top_low (F ∷ S) = omega arith

pub goes_on_noted : (ts rest : List Standing) (t : Standing) (s : State) (i : Bool) (S : List Frame) (q : State × Bool
    × List Frame) (deep : Option ℕ) → Noted ts (t ∷ rest) s i S deep → step 64 s i S (placed t) ≡ Some q
    → Noted ts rest q.0 q.1 q.2 (noted deep q.0 q.2 t.1)
unfolding goes_on
goes_on_noted ts rest t s i S q (Some d) n e = (goes_on ts rest t s i S q n.0 e, n.1)
goes_on_noted ts rest t s i S q None n e = (
  goes_on ts rest t s i S q n.0 e,
  if_else (λ o. MatchOption o (Settled (n.0.before ++ t ∷ []) q.0 q.2) (DeepAt ts))
      (nat_lt 64 (at_hand q.0 q.2)) (Some t.1) None deep low,
)
  where
    deep : nat_lt 64 (at_hand q.0 q.2) ≡ true → DeepAt ts t.1
    deep h =
        let high : 64 < at_hand q.0 q.2 = grind (arith, nat_tests) in
        let le = top_low q.2 in
        deep_at ts rest t s i S q n.0 e (omega arith)

    low : nat_lt 64 (at_hand q.0 q.2) ≡ false → Settled (n.0.before ++ t ∷ []) q.0 q.2
    low h = settles ts rest t s i S q n.0 e n.1 (grind (arith, nat_tests))

-- where all tokens are read
pub deep_has_place : (ts : List Standing) (s : State) (i : Bool) (S : List Frame) (deep : Option ℕ) (at : ℕ)
    → Noted ts [] s i S deep → EndsAt ts at → TellsPlace ts (fault.TooDeep (unwrap_or deep at))
deep_has_place ts s i S (Some d) at n e = inl n.1
deep_has_place ts s i S None at n e =
    inr (e, subst EarlierWithin (sym (n.0.split ∙ append-nil n.0.before)) n.1.earlier)

pub begins_noted : (ts : List Standing) → Noted ts ts between false (in_file empty ∷ []) None
unfolding begins
begins_noted ts = (begins ts, settled_first)

-- all tokens are read
pub ends : (ts : List Standing) (s : State) (i : Bool) (S : List Frame) → Progress ts [] s i S
    → finished 64 s S ≡ parsed 64 (map placed ts)
ends ts s i S p = p.leads []
    ∙ ap (parsed 64) (append-nil (map placed p.before) ∙ ap (map placed) (sym (p.split ∙ append-nil p.before)))

-- where all tokens are read, a file begins with them
begun_whole : (ts : List Standing) (s : State) (i : Bool) (S : List Frame) → Progress ts [] s i S → BeginAFile ts
begun_whole ts s i S p = subst BeginAFile (sym (p.split ∙ append-nil p.before)) (begun_by ts [] s i S p)

-- the machine does not end a file after the tokens
breaks_end : (ts : List Standing) (s : State) (i : Bool) (S : List Frame) (why : Stop) (at : ℕ) → Progress ts [] s i S
    → EndsAt ts at → TellsPlace ts (fault_at why at)
breaks_end ts s i S stop.Refused at p e = inr (e, begun_whole ts s i S p)
breaks_end ts s i S stop.OutOfMemory at p e = tt

-- ---- over the tokens of the code

-- the next token is read
pub reads_token : (xs : List Token) (i : ℕ) (t : Token) (x : Terminal) (s : State) (f : Bool) (S : List Frame)
    (q : State × Bool × List Frame) (deep next : Option ℕ) → drop i xs ≡ t ∷ drop (i + 1) xs
    → x ≡ terminal_of (standing t) → Noted (map standing xs) (map standing (drop i xs)) s f S deep
    → step 64 s f S (t.at, x) ≡ Some q → next ≡ noted deep q.0 q.2 t.at
    → Noted (map standing xs) (map standing (drop (i + 1) xs)) q.0 q.1 q.2 next
reads_token xs i t x s f S q deep next is has n e so =
    subst (λ o. Noted (map standing xs) (map standing (drop (i + 1) xs)) q.0 q.1 q.2 o) (sym so)
    (goes_on_noted (map standing xs) (map standing (drop (i + 1) xs)) (standing t) s f S q deep
    (subst (λ ys. Noted (map standing xs) (map standing ys) s f S deep) is n)
    (subst (λ y. step 64 s f S (t.at, y) ≡ Some q) has e))

-- the stack as a slice
pub noted_so : (next deep : Option ℕ) (s : State) (fs gs : List frames.Frame) (at : ℕ) → fs ≡ gs
    → next ≡ noted deep s (frames_of fs) at → next ≡ noted deep s (frames_of gs) at
noted_so next deep s fs gs at e h = subst (λ xs. next ≡ noted deep s (frames_of xs) at) e h

-- where a token leads, by the fields of what is returned
pub leads_to : (o : Option (State × Bool × List Frame)) (n m : nexts.Next) (fs : List frames.Frame) → m ≡ n
    → o ≡ Some (next_of n fs) → o ≡ Some (next_of m fs)
leads_to o n m fs e h = subst (λ k. o ≡ Some (next_of k fs)) (sym e) h

-- the next token is not read
pub breaks_token : (xs : List Token) (i : ℕ) (t : Token) (x : Terminal) (s : State) (f : Bool) (S : List Frame)
    (why : Stop) → drop i xs ≡ t ∷ drop (i + 1) xs → x ≡ terminal_of (standing t)
    → Progress (map standing xs) (map standing (drop i xs)) s f S → Stops why (step 64 s f S (t.at, x))
    → TellsPlace (map standing xs) (fault_at why t.at)
breaks_token xs i t x s f S stop.Refused next is p e =
    inl (breaks (map standing xs) (map standing (drop (i + 1) xs)) (standing t) s f S
    (subst (λ ys. Progress (map standing xs) (map standing ys) s f S) next p)
    (subst (λ y. step 64 s f S (t.at, y) ≡ None) is e))
breaks_token xs i t x s f S stop.OutOfMemory next is p e = tt

-- all tokens are read, and no file ends after them
pub breaks_at_end : (xs : List Token) (i : ℕ) (s : State) (f : Bool) (S : List Frame) (why : Stop) (at : ℕ)
    → length xs ≤ i → Progress (map standing xs) (map standing (drop i xs)) s f S → EndsAt (map standing xs) at
    → TellsPlace (map standing xs) (fault_at why at)
breaks_at_end xs i s f S why at le p e =
    breaks_end (map standing xs) s f S why at
    (subst (λ ys. Progress (map standing xs) (map standing ys) s f S) (drop_all i xs le) p) e

-- all tokens are read, and a file ends after them
pub deep_at_end : (xs : List Token) (i : ℕ) (s : State) (f : Bool) (S : List Frame) (deep : Option ℕ) (at : ℕ)
    → length xs ≤ i → Noted (map standing xs) (map standing (drop i xs)) s f S deep → EndsAt (map standing xs) at
    → TellsPlace (map standing xs) (fault.TooDeep (unwrap_or deep at))
deep_at_end xs i s f S deep at le n e =
    deep_has_place (map standing xs) s f S deep at
    (subst (λ ys. Noted (map standing xs) (map standing ys) s f S deep) (drop_all i xs le) n) e

-- the last token
last_at : (ts : List Token) (n : ℕ) (t : Token) → length ts ≡ suc n → slice_get ts n ≡ Some t
    → EndsAt (map standing ts) (end_of_token (standing t))
last_at [] n t l e = absurd cc
last_at (u ∷ []) zero t l e = let same : u ≡ t = cc in ap (λ x. end_of_token (standing x)) (sym same)
last_at (u ∷ []) (suc n) t l e = absurd cc
last_at (u ∷ (v ∷ ts)) zero t l e = absurd (omega arith)
last_at (u ∷ (v ∷ ts)) (suc n) t l e = last_at (v ∷ ts) n t (omega arith) e

pub last_ends : (ts : List Token) (t : Token) → slice_get ts (length ts - 1) ≡ Some t
    → EndsAt (map standing ts) (end_of_token (standing t))
last_ends [] t e = absurd cc
last_ends (u ∷ ts) t e = last_at (u ∷ ts) (length (u ∷ ts) - 1) t (omega arith) e
