-- What is read is spelled: each step keeps what was read so far.
use Rattle.std.proofs.Common.{◌≡◌, suc, ℕ, ◌&&◌, ◌≤◌, nat_le, List, [], ◌∷◌, ◌++◌, Bool, true, false}
use Rattle.std.proofs.Common.{Option, Some, None, option_and_then, cond, codes, bytes_eq, refl, ap, sym, ◌∙◌, arith}
use Rattle.std.proofs.Common.{subst}
use Rattle.std.specs.List.{AllByRecursion}
use Rattle.foundation.proofs.TruthValues.{first_fails_alone}
use Rattle.bicep_tree.specs.declared.leaf.Name.{Name}
use Rattle.bicep_tree.specs.declared.leaf.Label.{Label}
use Rattle.bicep_tree.specs.declared.leaf.Label.TheVariants as label
use Rattle.bicep_tree.specs.declared.leaf.Literal.TheVariants as l
use Rattle.bicep_tree.specs.declared.leaf.LoopNames.{LoopNames}
use Rattle.bicep_tree.specs.declared.leaf.LoopNames.TheVariants as ns
use Rattle.bicep_tree.specs.declared.leaf.Namespace.{Namespace}
use Rattle.bicep_tree.specs.declared.leaf.Namespace.TheVariants as z
use Rattle.bicep_tree.specs.declared.leaf.Function.{Function}
use Rattle.bicep_tree.specs.declared.leaf.Function.TheVariants as f
use Rattle.bicep_tree.specs.declared.leaf.Access.{Access}
use Rattle.bicep_tree.specs.declared.leaf.Access.TheVariants as a
use Rattle.bicep_tree.specs.declared.leaf.Operator.{Operator}
use Rattle.bicep_tree.specs.declared.leaf.Operator.TheVariants as o
use Rattle.bicep_tree.specs.declared.leaf.TypeName.{TypeName}
use Rattle.bicep_tree.specs.declared.terminal.Terminal.{Terminal}
use Rattle.bicep_tree.specs.declared.terminal.Terminal.TheVariants as t
use Rattle.bicep_tree.specs.Tree.{body_each, body_each_if, Tree, name, literal, object, call, access, not_null, none}
use Rattle.bicep_tree.specs.Tree.{more, MemberTree, BodyTree, param, StatementTree, statement, FileTree, decorators}
use Rattle.bicep_tree.specs.Nesting.{nesting}
use Rattle.bicep_tree.specs.Precedence.{level, rank}
use Rattle.bicep_tree.specs.Terminals.{Placed}
use Rattle.bicep_tree.specs.Forms.{◌▹◌, nothing, is_newline, is_separator, one, any, skipped, sign, token_at, token}
use Rattle.bicep_tree.specs.Forms.{named, word, namespace_word}
use Rattle.bicep_tree.specs.Expressions.{expression}
use Rattle.bicep_tree.specs.Expressions as grammar
use Rattle.bicep_tree.specs.Declarations.{type_word, a_statement, a_file}
use Rattle.bicep_machine.specs.declared.word.Word.{Word}
use Rattle.bicep_machine.specs.declared.word.Word.TheVariants as w
use Rattle.bicep_machine.specs.declared.word.Owner.TheVariants as owner
use Rattle.bicep_machine.specs.Kept.{Kept, flat, put, empty, of_access, of_not_null}
use Rattle.bicep_machine.specs.Stack as s
use Rattle.bicep_machine.specs.Stack.{Decorators, Header, header, nothing_before}
use Rattle.bicep_machine.specs.Stack.{Frame, calling}
use Rattle.bicep_machine.specs.Stack.{opened, in_array, in_object, left, asked, chosen}
use Rattle.bicep_machine.specs.Stack.{valued, assigned, in_names, bodied}
use Rattle.bicep_machine.specs.Stack.{in_file, State, wanted, qualifying, qualified, dotted, done, paused, item}
use Rattle.bicep_machine.specs.Stack.{for_wanted, names_wanted, one_wanted, one_named, other_wanted, both_named}
use Rattle.bicep_machine.specs.Stack.{member, labelled, past_member, among, looped_body, condition, guarded, body_end}
use Rattle.bicep_machine.specs.Stack.{at_sign, decorator_named, decorator_spaced, decorator_ready, decorated}
use Rattle.bicep_machine.specs.Stack.{past_decorators, declaring, declared, typed, headed, existed, between}
use Rattle.bicep_machine.specs.Stack.{past_statement}
use Rattle.bicep_machine.specs.Stack.{Next}
use Rattle.bicep_machine.specs.Closing.{Closed, of_statement, with_expression, over_on, is_for, pair_of, pair_on}
use Rattle.bicep_machine.specs.Closing.{holds_loops, named_on, item_on, item_parted, closed, newline_on}
use Rattle.bicep_machine.specs.Machine.{is_in, is_if, is_sys, is_resource, is_existing, namespace_of, type_of}
use Rattle.bicep_machine.specs.Machine.{word_of, begun, wanted_step, word_on, child_on, decorated_word, type_on}
use Rattle.bicep_machine.specs.Machine.{made_existing, existing_on, with_operator, with_question, gone_on, space_on}
use Rattle.bicep_machine.specs.Machine.{named_step, rejoined, transition, step, ended, ended_by, ended_between}
use Rattle.bicep_machine.specs.Machine.{finished}
use Rattle.bicep_machine.specs.Machine.{run, parsed}
use Rattle.bicep_machine.proofs.Keeping.{fits, keep, lost_of, keep_file}
use Rattle.bicep_machine.proofs.Building.{keep_leaf, keep_not_null, keep_access, statements_put}
use Rattle.bicep_machine.proofs.Running.{level_bounds}
use Rattle.bicep_machine.proofs.Reading.{ItemsRead, any_put, some_put, some_one, not_skipped, plain_token, parts_more}
use Rattle.bicep_machine.proofs.Reading.{parts_put, parts_last, parts_end, decorated_put, whole_statements}
use Rattle.bicep_machine.proofs.ReadSoFar.{flag, IsObject, IsArray, IsFile, IsBody, IsNames, IsOperator, IsNew}
use Rattle.bicep_machine.proofs.ReadSoFar.{Beginning, word_text, Decorated, Headed, Open, IsFirst, open_body, At}
use Rattle.bicep_machine.proofs.ReadSoFar.{Holds}
use Rattle.bicep_machine.proofs.SoundClosing.{takes_high, takes_least, to_token, plain_sign, Ended}
use Rattle.bicep_machine.proofs.SoundClosing.{object_flag, statement_kept, member_closes, members_close}
use Rattle.bicep_machine.proofs.SoundClosing.{member_stands, items_close, no_argument, paren_stands, bracket_stands}
use Rattle.bicep_machine.proofs.SoundClosing.{comma_stands, brace_stands, colon_stands, late_colon_stands}
use Rattle.bicep_machine.proofs.SoundClosing.{middle_stands, right_stands, statement_filed, Declared, declared_with}
use Rattle.bicep_machine.proofs.SoundClosing.{newline_stands, over_stands}
use Rattle.bicep_machine.proofs.SoundClosing as closing
use Rattle.foundation.proofs.Choices.{if_else}
use Rattle.foundation.proofs.Words.{eq_word}

-- ---- words

for_text : (u : List ℕ) → is_for u ≡ true → u ≡ codes "for"
unfolding is_for
for_text u e = eq_word u (codes "for") e

in_text_is : (u : List ℕ) → is_in u ≡ true → u ≡ codes "in"
unfolding is_in
in_text_is u e = eq_word u (codes "in") e

if_text : (u : List ℕ) → is_if u ≡ true → u ≡ codes "if"
unfolding is_if
if_text u e = eq_word u (codes "if") e

sys_text : (u : List ℕ) → is_sys u ≡ true → u ≡ codes "sys"
unfolding is_sys
sys_text u e = eq_word u (codes "sys") e

resource_text : (u : List ℕ) → is_resource u ≡ true → u ≡ codes "resource"
unfolding is_resource
resource_text u e = eq_word u (codes "resource") e

existing_text : (u : List ℕ) → is_existing u ≡ true → u ≡ codes "existing"
unfolding is_existing
existing_text u e = eq_word u (codes "existing") e

-- which name space a word is
abbrev IsSpace : List ℕ → Option Namespace → Type 0
IsSpace u None = Unit {0}
IsSpace u (Some y) = u ≡ namespace_word y

space_text : (u : List ℕ) → IsSpace u (namespace_of u)
unfolding namespace_of
space_text u =
    if_else (IsSpace u) (bytes_eq u (codes "sys")) (Some z.Sys) (cond (bytes_eq u (codes "az")) (Some z.Az) None)
    (λ e. eq_word u (codes "sys") e)
    (λ ne. if_else (IsSpace u) (bytes_eq u (codes "az")) (Some z.Az) None (λ e. eq_word u (codes "az") e) (λ e. tt))

abbrev IsTypeName : List ℕ → Option TypeName → Type 0
IsTypeName u None = Unit {0}
IsTypeName u (Some ty) = u ≡ type_word ty

type_text : (u : List ℕ) → IsTypeName u (type_of u)
unfolding type_of
type_text u =
    if_else (IsTypeName u) (bytes_eq u (codes "string")) _ _ (λ e. eq_word u (codes "string") e)
    (λ n1. if_else (IsTypeName u) (bytes_eq u (codes "int")) _ _ (λ e. eq_word u (codes "int") e)
    (λ n2. if_else (IsTypeName u) (bytes_eq u (codes "bool")) _ _ (λ e. eq_word u (codes "bool") e)
    (λ n3. if_else (IsTypeName u) (bytes_eq u (codes "object")) _ _ (λ e. eq_word u (codes "object") e)
    (λ n4. if_else (IsTypeName u) (bytes_eq u (codes "array")) _ _ (λ e. eq_word u (codes "array") e) (λ n5. tt)))))

-- what a word begins, and that it is none of an object
abbrev IsBeginning : List ℕ → Option Word → Type 0
IsBeginning u None = Unit {0}
IsBeginning u (Some v) = (u ≡ word_text v) × ((S : List Frame) → Beginning v S)

beginning_text : (u : List ℕ) → IsBeginning u (word_of u)
unfolding word_of
beginning_text u =
    if_else (IsBeginning u) (bytes_eq u (codes "metadata")) _ _ (λ e. (eq_word u (codes "metadata") e, λ S. tt))
    (λ n1. if_else (IsBeginning u) (bytes_eq u (codes "targetScope")) _ _
    (λ e. (eq_word u (codes "targetScope") e, λ S. tt))
    (λ n2. if_else (IsBeginning u) (bytes_eq u (codes "param")) _ _ (λ e. (eq_word u (codes "param") e, λ S. tt))
    (λ n3. if_else (IsBeginning u) (bytes_eq u (codes "var")) _ _ (λ e. (eq_word u (codes "var") e, λ S. tt))
    (λ n4. if_else (IsBeginning u) (bytes_eq u (codes "output")) _ _ (λ e. (eq_word u (codes "output") e, λ S. tt))
    (λ n5. if_else (IsBeginning u) (bytes_eq u (codes "resource")) _ _ (λ e. (eq_word u (codes "resource") e, λ S. tt))
    (λ n6. if_else (IsBeginning u) (bytes_eq u (codes "module")) _ _ (λ e. (eq_word u (codes "module") e, λ S. tt))
    (λ n7. tt)))))))

-- ---- tokens

weaker : (i : Bool) (m m1 : List Placed) → skipped i m m1 → skipped true m m1
weaker true m m1 h = h
weaker false m m1 h = subst (λ x. skipped true x m1) (sym (not_skipped m m1 h)) ([], tt, refl)

late_token : (i : Bool) (y : Terminal) (m ts : List Placed) → token i y m ts → token true y m ts
late_token i y m ts h = (h.0, weaker i m h.0 h.1, h.2)

lines_true : (ps : List Placed) → AllByRecursion (λ t. is_newline t.1 ≡ true) ps
    → AllByRecursion (λ t. (true && is_newline t.1) ≡ true) ps
lines_true [] h = tt
lines_true (p ∷ ps) h = (h.0, lines_true ps h.1)

-- newlines, and then a token
lines_token : (y : Terminal) (m m1 ts : List Placed) → (one is_newline ▹ any is_newline) m m1 → sign y m1 ts
    → token true y m ts
lines_token y m m1 ts (m2, (at, x, is, e), (ps, all, ps_is)) h =
    (m1, ((at, x) ∷ ps, (e, lines_true ps all), is ∙ ap (λ q. (at, x) ∷ q) ps_is), h)

module _ (most : ℕ) where
  -- ---- the two names of a loop

  pair_inverse : (e : Tree) (p : Name × Name × Name) → pair_of e ≡ Some p
      → e ≡ call (f.Plain p.0) (more (name p.1) (more (name p.2) none))
  pair_inverse (call (f.Plain v) (more (name b) (more (name c) none))) p h =
      let e : (v, b, c) ≡ p = cc in
      ap (λ q. call (f.Plain q.0) (more (name q.1) (more (name q.2) none))) e
  pair_inverse e p h = absurd cc

  lost_is_none : (e : Tree) → pair_of (lost_of most e) ≡ None
  lost_is_none (object b) = refl
  lost_is_none e = refl

  pair_kept : (e : Tree) (p : Name × Name × Name) → pair_of (keep most e).0 ≡ Some p
      → e ≡ call (f.Plain p.0) (more (name p.1) (more (name p.2) none))
  unfolding fits
  pair_kept e p h = by (nat_le (nesting e) most) h
    where
      by : (b : Bool) → pair_of (cond {A = Kept Tree} b (e, nesting e) (lost_of most e, suc most)).0 ≡ Some p
          → e ≡ call (f.Plain p.0) (more (name p.1) (more (name p.2) none))
      by true g = pair_inverse e p g
      by false g = let no_pair = lost_is_none e in absurd cc

  -- ---- an expression begins

  begun_stands : (S : List Frame) (at : ℕ) (y : Terminal) (all m ts : List Placed) → Open most S all m
      → token_at (flag S) at y m ts → Holds most (begun (flag S) S at y) all ts
  begun_stands S at (t.Name u) all m ts op tok = (refl, (m, op, tok))
  begun_stands S at (t.Literal v) all m ts op tok =
      (refl, (literal at v, keep_leaf most (literal at v) refl, omega arith, (m, op, tok)))
  begun_stands S at (t.LeftPiece u) all m ts op tok = (refl, ([], refl, (m, op, (ts, tok, refl))))
  begun_stands S at t.OpenBrace all m ts op tok = (refl, (tt, ([], refl, refl, (m, op, (ts, tok, ([], tt, refl))))))
  begun_stands S at t.OpenBracket all m ts op tok = (refl, (tt, (refl, (m, op, tok))))
  begun_stands S at t.OpenParen all m ts op tok = (refl, (refl, (m, op, tok)))
  begun_stands S at t.Not all m ts op tok = (refl, (m, op, tok))
  begun_stands S at (t.Operator o.Subtract) all m ts op tok = (refl, (m, op, tok))
  begun_stands S at y all m ts op tok = tt

  -- a newline after an operator
  operator_line : (S : List Frame) (at : ℕ) (all ts : List Placed) → IsOperator S
      → Open most S all ((at, t.Newline) ∷ ts) → Open most S all ts
  operator_line [] at all ts h op = absurd h
  operator_line (left q j ∷ S) at all ts h (e, is, lv, tk, (m0, op, (m1, ex, (m2, tok, sk)))) = (
    e,
    is,
    lv,
    tk,
    (m0, op, (m1, ex, (m2, tok, any_put (λ s. true && is_newline s) m2 (at, t.Newline) ts refl sk))),
  )
  operator_line (asked j ∷ S) at all ts h (e, is, oc, tk, (m0, op, (m1, ex, (m2, tok, sk)))) = (
    e,
    is,
    oc,
    tk,
    (m0, op, (m1, ex, (m2, tok, any_put (λ s. true && is_newline s) m2 (at, t.Newline) ts refl sk))),
  )
  operator_line (chosen j k ∷ S) at all ts h (
    c,
    e,
    cs,
    is,
    oc,
    tk,
    (m0, op, (m1, ex, (m2, qu, (m3, sk, (m4, ex2, (m5, co, sl)))))),
  ) = (
    c,
    e,
    cs,
    is,
    oc,
    tk,
    (
      m0,
      op,
      (
        m1,
        ex,
        (m2, qu, (m3, sk, (m4, ex2, (m5, co, any_put (λ s. true && is_newline s) m5 (at, t.Newline) ts refl sl)))),
      ),
    ),
  )
  operator_line (F ∷ S) at all ts h op = absurd h

  -- ---- after an expression

  operator_stands : (p : Closed) (i : Bool) (q : Operator) (all m ts : List Placed) → Ended most (level q) i all m p
      → token i (t.Operator q) m ts → Holds most (with_operator most i q p) all ts
  operator_stands (k, U) i q all m ts h tok = (
    h.same,
    (
      tt,
      (
        h.whole,
        h.is,
        h.least,
        h.stopped,
        (h.from, h.before, (m, h.text, (ts, subst (λ b. token b (t.Operator q) m ts) h.same tok, ([], tt, refl)))),
      ),
    ),
  )

  question_stands : (p : Closed) (i : Bool) (all m ts : List Placed) → Ended most 1 i all m p
      → token true t.Question m ts → Holds most (with_question most i p) all ts
  question_stands (k, U) i all m ts h tok = (
    h.same,
    (
      tt,
      (h.whole, h.is, h.least, takes_least U h.stopped, (h.from, h.before, (m, h.text, (ts, tok, ([], tt, refl))))),
    ),
  )

  pair_stands : (r : Option (Name × Name × Name)) (e : Tree) (S : List Frame) (all m1 m ts : List Placed)
      → pair_of (keep most e).0 ≡ r → Open most S all m1 → expression (flag S) e m1 m → word (codes "in") m ts
      → Holds most (pair_on r S) all ts
  pair_stands None e S all m1 m ts h op ex within = tt
  pair_stands (Some p) e [] all m1 m ts h op ex within = tt
  pair_stands (Some p) e (opened at was ∷ S) all m1 m ts h (same, (m0, op, tok)) ex within =
      let (m2, fo, (m3, pr, (m4, na, (m5, co, (m6, nb, cl))))) =
      subst (λ x. expression false x m1 m) (pair_kept e p h) ex in
      if_else (λ n. Holds most n all ts) (is_for p.0.text) (over_on at (ns.Both p.1 p.2) S) None
      (λ y. over_stands most at (ns.Both p.1 p.2) S all m0 m ts op (
        m1,
        tok,
        (
          m2,
          (
            p.0.at,
            subst (λ u. m1 ≡ (p.0.at, t.Name u) ∷ m2) (for_text p.0.text y)
                (plain_token p.0.at (t.Name p.0.text) m1 m2 fo),
          ),
          (m3, plain_sign t.OpenParen m2 m3 pr, (m4, na, (m5, co, (m6, nb, cl)))),
        ),
      ) within) (λ y. tt)
  pair_stands (Some p) e (F ∷ S) all m1 m ts h op ex within = tt

  gone_stands : (k : Kept Tree) (S : List Frame) (at : ℕ) (y : Terminal) (all m ts : List Placed)
      → (flag S && is_newline y) ≡ false → At most (done k) S all m → token_at (flag S) at y m ts
      → Holds most (gone_on most k (flag S) S y) all ts
  gone_stands k S at (t.Access c) all m ts ne (e, is, pr, (m1, op, ex)) tok =
      (refl, (e, is, pr, (m1, op, (m, ex, to_token (flag S) at (t.Access c) m ts tok))))
  gone_stands k S at t.OpenBracket all m ts ne (e, is, pr, (m1, op, ex)) tok =
      (refl, (e, is, pr, (m1, op, (m, ex, to_token (flag S) at t.OpenBracket m ts tok))))
  gone_stands k S at t.SafeBracket all m ts ne (e, is, pr, (m1, op, ex)) tok =
      (refl, (e, is, pr, (m1, op, (m, ex, to_token (flag S) at t.SafeBracket m ts tok))))
  gone_stands k S at t.Not all m ts ne (e, is, pr, (m1, op, ex)) tok = (
    refl,
    (
      not_null e,
      ap (of_not_null most) is ∙ keep_not_null most e,
      omega arith,
      (m1, op, (pr, (m, ex, to_token (flag S) at t.Not m ts tok))),
    ),
  )
  gone_stands k S at (t.Operator q) all m ts ne (e, is, pr, (m1, op, ex)) tok =
      operator_stands (closed most (level q) k S) (flag S) q all m ts
      (closing.ended most S (level q) k e (flag S) all m1 m (level_bounds q).1 is refl
      (omega (arith, (level_bounds q).1, pr)) (takes_high S (rank e) (omega (arith, pr))) op ex)
      (to_token (flag S) at (t.Operator q) m ts tok)
  gone_stands k S at t.Question all m ts ne (e, is, pr, (m1, op, ex)) tok =
      question_stands (closed most 1 k S) (flag S) all m ts
      (closing.ended most S 1 k e (flag S) all m1 m (omega arith) is refl (omega (arith, pr))
      (takes_high S (rank e) (omega (arith, pr))) op ex)
      (late_token (flag S) t.Question m ts (to_token (flag S) at t.Question m ts tok))
  gone_stands k S at t.Colon all m ts ne (e, is, pr, (m1, op, ex)) tok =
      colon_stands most (closed most 0 k S) (flag S) all m ts
      (closing.ended most S 0 k e (flag S) all m1 m (omega arith) is refl (omega arith)
      (takes_high S (rank e) (omega (arith, pr))) op ex) (to_token (flag S) at t.Colon m ts tok)
      (late_token (flag S) t.Colon m ts (to_token (flag S) at t.Colon m ts tok))
  gone_stands k S at t.CloseParen all m ts ne (e, is, pr, (m1, op, ex)) tok =
      paren_stands most (closed most 0 k S) (flag S) all m ts
      (closing.ended most S 0 k e (flag S) all m1 m (omega arith) is refl (omega arith)
      (takes_high S (rank e) (omega (arith, pr))) op ex) (to_token (flag S) at t.CloseParen m ts tok)
  gone_stands k S at t.CloseBracket all m ts ne (e, is, pr, (m1, op, ex)) tok =
      bracket_stands most (closed most 0 k S) (flag S) all m ts
      (closing.ended most S 0 k e (flag S) all m1 m (omega arith) is refl (omega arith)
      (takes_high S (rank e) (omega (arith, pr))) op ex) (to_token (flag S) at t.CloseBracket m ts tok)
  gone_stands k S at t.Comma all m ts ne (e, is, pr, (m1, op, ex)) tok =
      comma_stands most (closed most 0 k S) (flag S) all m ts
      (closing.ended most S 0 k e (flag S) all m1 m (omega arith) is refl (omega arith)
      (takes_high S (rank e) (omega (arith, pr))) op ex) (to_token (flag S) at t.Comma m ts tok)
  gone_stands k S at t.CloseBrace all m ts ne (e, is, pr, (m1, op, ex)) tok =
      brace_stands most (closed most 0 k S) (flag S) all m ts
      (closing.ended most S 0 k e (flag S) all m1 m (omega arith) is refl (omega arith)
      (takes_high S (rank e) (omega (arith, pr))) op ex) (to_token (flag S) at t.CloseBrace m ts tok)
  gone_stands k S at (t.MiddlePiece u) all m ts ne (e, is, pr, (m1, op, ex)) tok =
      middle_stands most (closed most 0 k S) (flag S) u all m ts
      (closing.ended most S 0 k e (flag S) all m1 m (omega arith) is refl (omega arith)
      (takes_high S (rank e) (omega (arith, pr))) op ex) (to_token (flag S) at (t.MiddlePiece u) m ts tok)
  gone_stands k S at (t.RightPiece u) all m ts ne (e, is, pr, (m1, op, ex)) tok =
      right_stands most (closed most 0 k S) (flag S) u all m ts
      (closing.ended most S 0 k e (flag S) all m1 m (omega arith) is refl (omega arith)
      (takes_high S (rank e) (omega (arith, pr))) op ex) (to_token (flag S) at (t.RightPiece u) m ts tok)
  gone_stands k S at t.Newline all m ts ne (e, is, pr, (m1, op, ex)) tok =
      let fl = first_fails_alone (flag S) ne in
      let line : m ≡ (at, t.Newline) ∷ ts =
      plain_token at t.Newline m ts (subst (λ b. token_at b at t.Newline m ts) fl tok) in (
        refl,
        (
          e,
          is,
          pr,
          fl,
          (
            m1,
            op,
            (
              m,
              subst (λ b. expression b e m1 m) fl ex,
              subst (λ y. (one is_newline ▹ any is_newline) y ts) (sym line)
                  (some_one is_newline (at, t.Newline) ts refl),
            ),
          ),
        ),
      )
  gone_stands k S at (t.Name u) all m ts ne (e, is, pr, (m1, op, ex)) tok =
      if_else (λ n. Holds most n all ts) (is_in u) (pair_on (pair_of k.0) S) None (λ y. in_stands S op ex tok y)
      (λ y. tt)
    where
      in_stands : (S : List Frame) → Open most S all m1 → expression (flag S) e m1 m
          → token_at (flag S) at (t.Name u) m ts → is_in u ≡ true → Holds most (pair_on (pair_of k.0) S) all ts
      in_stands S op ex tok y = by (pair_of k.0) (ap (λ j. pair_of j.0) (sym is)) S op ex tok
        where
          by : (r : Option (Name × Name × Name)) → pair_of (keep most e).0 ≡ r → (S : List Frame) → Open most S all m1
              → expression (flag S) e m1 m → token_at (flag S) at (t.Name u) m ts → Holds most (pair_on r S) all ts
          by None h S op ex tok = tt
          by (Some p) h [] op ex tok = tt
          by (Some p) h (opened o was ∷ S) op ex tok =
              pair_stands (Some p) e (opened o was ∷ S) all m1 m ts h op ex
              (at, subst (λ v. m ≡ (at, t.Name v) ∷ ts) (in_text_is u y) (plain_token at (t.Name u) m ts tok))
          by (Some p) h (F ∷ S) op ex tok = tt
  gone_stands k S at y all m ts ne at_done tok = tt

  -- ---- the other states, token by token

  wanted_stands : (b : Bool) (S : List Frame) (at : ℕ) (y : Terminal) (all m ts : List Placed)
      → (flag S && is_newline y) ≡ false → At most (wanted b) S all m → token_at (flag S) at y m ts
      → Holds most (wanted_step b (flag S) S at y) all ts
  wanted_stands true S at t.Newline all m ts ne (io, op) tok =
      let line : m ≡ (at, t.Newline) ∷ ts =
      plain_token at t.Newline m ts (subst (λ b. token_at b at t.Newline m ts) (first_fails_alone (flag S) ne) tok) in
      (refl, (io, operator_line S at all ts io (subst (Open most S all) line op)))
  wanted_stands true S at y all m ts ne (io, op) tok = begun_stands S at y all m ts op tok
  wanted_stands false S at y all m ts ne op tok = begun_stands S at y all m ts op tok

  first_stands : (S : List Frame) (at : ℕ) (y : Terminal) (all m ts : List Placed) → At most s.first S all m
      → token_at (flag S) at y m ts → Holds most (transition most s.first (flag S) S at y) all ts
  first_stands S at t.CloseParen all m ts (fi, op) tok =
      no_argument most S all m ts fi op (first_token S fi (to_token (flag S) at t.CloseParen m ts tok))
    where
      first_token : (S : List Frame) → IsFirst most S → token (flag S) t.CloseParen m ts → token true t.CloseParen m ts
      first_token [] fi h = absurd fi
      first_token (calling c was k ∷ S) fi h = h
      first_token (F ∷ S) fi h = absurd fi
  first_stands S at y all m ts (fi, op) tok = begun_stands S at y all m ts op tok

  space_stands : (r : Option Namespace) (n : Name) (S : List Frame) (at : ℕ) (all m1 m ts : List Placed)
      → IsSpace n.text r → Open most S all m1 → named (flag S) n m1 m → token_at (flag S) at (t.Access a.Member) m ts
      → Holds most (space_on most r n (flag S) S) all ts
  space_stands None n S at all m1 m ts h op nm tok = (
    refl,
    (
      name n,
      keep_leaf most (name n) refl,
      omega arith,
      (m1, op, (m, nm, to_token (flag S) at (t.Access a.Member) m ts tok)),
    ),
  )
  space_stands (Some y) n S at all m1 m ts h op nm tok =
      (refl, (h, (m1, op, (m, nm, to_token (flag S) at (t.Access a.Member) m ts tok))))

  -- `[for x`, where a for-expression may stand
  placed_stands : (at : ℕ) (was : Bool) (x : Name) (S : List Frame) (all ts : List Placed) → was ≡ flag S
      → At most (among at (ns.Item x)) S all ts → Holds most (named_on at was x S) all ts
  placed_stands at was x [] all ts same h = tt
  placed_stands at was x (F ∷ S) all ts same h =
      if_else (λ q. Holds most q all ts) (holds_loops F) (Some (among at (ns.Item x), was, F ∷ S)) None
      (λ y. (same, h)) (λ y. tt)

  item_name_stands : (n x : Name) (S : List Frame) (all m1 m ts : List Placed) → Open most S all m1
      → named (flag S) n m1 m → named (flag S) x m ts → Holds most (item_on n x S) all ts
  item_name_stands n x [] all m1 m ts op nm tok = tt
  item_name_stands n x (opened at was ∷ S) all m1 m ts (same, (m0, op, opn)) nm tok =
      if_else (λ q. Holds most q all ts) (is_for n.text) (named_on at was x S) None
      (λ y. placed_stands at was x S all ts same (
        m0,
        op,
        (
          m1,
          opn,
          (
            m,
            (
              n.at,
              subst (λ u. m1 ≡ (n.at, t.Name u) ∷ m) (for_text n.text y) (plain_token n.at (t.Name n.text) m1 m nm),
            ),
            tok,
          ),
        ),
      )) (λ y. tt)
  item_name_stands n x (F ∷ S) all m1 m ts op nm tok = tt

  named_at : (n : Name) (S : List Frame) (all m : List Placed) → At most (s.named n) S all m
      → At most (done (flat (name n))) S all m
  named_at n S all m (m1, op, nm) = (name n, keep_leaf most (name n) refl, omega arith, (m1, op, nm))

  named_stands : (n : Name) (S : List Frame) (at : ℕ) (y : Terminal) (all m ts : List Placed)
      → (flag S && is_newline y) ≡ false → At most (s.named n) S all m → token_at (flag S) at y m ts
      → Holds most (named_step most n (flag S) S at y) all ts
  named_stands n S at t.OpenParen all m ts ne (m1, op, nm) tok =
      (refl, (refl, ([], refl, refl, (m1, op, (ts, (m, nm, to_token (flag S) at t.OpenParen m ts tok), refl)))))
  named_stands n S at (t.Access a.Member) all m ts ne (m1, op, nm) tok =
      space_stands (namespace_of n.text) n S at all m1 m ts (space_text n.text) op nm tok
  named_stands n S at (t.Name u) all m ts ne (m1, op, nm) tok =
      item_name_stands n (record { at = at; text = u }) S all m1 m ts op nm tok
  named_stands n S at y all m ts ne h tok = gone_stands (flat (name n)) S at y all m ts ne (named_at n S all m h) tok

  qualifying_stands : (q : Namespace) (n : Name) (S : List Frame) (at : ℕ) (y : Terminal) (all m ts : List Placed)
      → At most (qualifying q n) S all m → token_at (flag S) at y m ts
      → Holds most (transition most (qualifying q n) (flag S) S at y) all ts
  qualifying_stands q n S at (t.Name u) all m ts (is, (m1, op, (m2, nm, dot))) tok =
      (refl, (is, (m1, op, (m2, nm, (m, dot, tok)))))
  qualifying_stands q n S at y all m ts h tok = tt

  qualified_at : (q : Namespace) (n x : Name) (S : List Frame) (all m : List Placed)
      → At most (qualified q n x) S all m → At most (done (of_access most (flat (name n)) a.Member x)) S all m
  qualified_at q n x S all m (is, (m1, op, (m2, nm, (m3, dot, nx)))) = (
    access (name n) a.Member x,
    ap (λ k. of_access most k a.Member x) (keep_leaf most (name n) refl)
        ∙ keep_access most (name n) a.Member x,
    omega arith,
    (m1, op, (omega arith, (m2, nm, (m3, dot, nx)))),
  )

  qualified_stands : (q : Namespace) (n x : Name) (S : List Frame) (at : ℕ) (y : Terminal) (all m ts : List Placed)
      → (flag S && is_newline y) ≡ false → At most (qualified q n x) S all m → token_at (flag S) at y m ts
      → Holds most (transition most (qualified q n x) (flag S) S at y) all ts
  qualified_stands q n x S at t.OpenParen all m ts ne (is, (m1, op, (m2, nm, (m3, dot, nx)))) tok = (
    refl,
    (
      refl,
      (
        [],
        refl,
        refl,
        (
          m1,
          op,
          (
            ts,
            (
              m,
              (m2, subst (λ u. token_at (flag S) n.at (t.Name u) m1 m2) is nm, (m3, dot, nx)),
              to_token (flag S) at t.OpenParen m ts tok,
            ),
            refl,
          ),
        ),
      ),
    ),
  )
  qualified_stands q n x S at y all m ts ne h tok =
      gone_stands (of_access most (flat (name n)) a.Member x) S at y all m ts ne (qualified_at q n x S all m h) tok

  dotted_stands : (c : Access) (k : Kept Tree) (S : List Frame) (at : ℕ) (y : Terminal) (all m ts : List Placed)
      → At most (dotted c k) S all m → token_at (flag S) at y m ts
      → Holds most (transition most (dotted c k) (flag S) S at y) all ts
  dotted_stands c k S at (t.Name u) all m ts (e, is, pr, (m1, op, (m2, ex, dot))) tok =
      let x : Name = record { at = at; text = u } in (
        refl,
        (
          access e c x,
          ap (λ j. of_access most j c x) is ∙ keep_access most e c x,
          omega arith,
          (m1, op, (pr, (m2, ex, (m, dot, tok)))),
        ),
      )
  dotted_stands c k S at y all m ts h tok = tt

  -- a separator in an array
  items_parted : (S : List Frame) (at : ℕ) (y : Terminal) (all m ts : List Placed) → is_separator y ≡ true → IsArray S
      → Open most S all m → token_at (flag S) at y m ts → Holds most (item_parted S) all ts
  items_parted [] at y all m ts is ia op tok = tt
  items_parted (opened o was ∷ S) at y all m ts is ia (same, (m0, op, opn)) tok = (
    refl,
    (
      tt,
      (
        [],
        refl,
        same,
        (
          m0,
          op,
          (
            m,
            opn,
            subst (λ q. any is_separator q ts) (sym (plain_token at y m ts tok)) (
              (at, y) ∷ [],
              (is, tt),
              refl,
            ),
          ),
        ),
      ),
    ),
  )
  items_parted (in_array o was k ∷ S) at y all m ts is ia (es, ks, same, (m0, op, (mb, opn, rd))) tok = (
    refl,
    (
      tt,
      (
        es,
        ks,
        same,
        (
          m0,
          op,
          (
            mb,
            opn,
            parts_more is_separator (expression false) es mb (at, y) ts is
                (subst (ItemsRead es mb) (plain_token at y m ts tok) rd),
          ),
        ),
      ),
    ),
  )
  items_parted (F ∷ S) at y all m ts is ia op tok = tt

  array_flag : (S : List Frame) → IsArray S → false ≡ flag S
  array_flag [] h = absurd h
  array_flag (opened at was ∷ S) h = refl
  array_flag (in_array at was es ∷ S) h = refl
  array_flag (F ∷ S) h = absurd h

  plain_at : (S : List Frame) (at : ℕ) (y : Terminal) (m ts : List Placed) → false ≡ flag S
      → token_at (flag S) at y m ts → m ≡ (at, y) ∷ ts
  plain_at S at y m ts e tok = plain_token at y m ts (subst (λ b. token_at b at y m ts) (sym e) tok)

  begun_plain : (S : List Frame) (at : ℕ) (y : Terminal) (all m ts : List Placed) → false ≡ flag S → Open most S all m
      → token_at (flag S) at y m ts → Holds most (begun false S at y) all ts
  begun_plain S at y all m ts e op tok =
      subst (λ b. Holds most (begun b S at y) all ts) (sym e) (begun_stands S at y all m ts op tok)

  item_stands : (S : List Frame) (at : ℕ) (y : Terminal) (all m ts : List Placed) → At most item S all m
      → token_at (flag S) at y m ts → Holds most (transition most item (flag S) S at y) all ts
  item_stands S at t.Newline all m ts (ia, op) tok = items_parted S at t.Newline all m ts refl ia op tok
  item_stands S at t.Comma all m ts (ia, op) tok = items_parted S at t.Comma all m ts refl ia op tok
  item_stands S at t.CloseBracket all m ts (ia, op) tok =
      items_close most S all m ts op (at, plain_at S at t.CloseBracket m ts (array_flag S ia) tok)
  item_stands S at y all m ts (ia, op) tok = begun_plain S at y all m ts (array_flag S ia) op tok

  -- a separator in an object
  members_parted : (S : List Frame) (at : ℕ) (y : Terminal) (all ts : List Placed) → is_separator y ≡ true
      → IsObject S → Open most S all ((at, y) ∷ ts) → Open most S all ts
  members_parted [] at y all ts is ob op = absurd op
  members_parted (in_object o was k ∷ S) at y all ts is ob (ms, ks, same, (m0, op, (mb, opn, rd))) =
      (ms, ks, same, (m0, op, (mb, opn, parts_more is_separator grammar.a_member ms mb (at, y) ts is rd)))
  members_parted (F ∷ S) at y all ts is ob op = absurd ob

  member_stands_at : (S : List Frame) (at : ℕ) (y : Terminal) (all m ts : List Placed) → At most member S all m
      → token_at (flag S) at y m ts → Holds most (transition most member (flag S) S at y) all ts
  member_stands_at S at t.Newline all m ts (ob, op) tok = (
    object_flag most S ob,
    (
      ob,
      members_parted S at t.Newline all ts refl ob
          (subst (Open most S all) (plain_at S at t.Newline m ts (object_flag most S ob) tok) op),
    ),
  )
  member_stands_at S at t.Comma all m ts (ob, op) tok = (
    object_flag most S ob,
    (
      ob,
      members_parted S at t.Comma all ts refl ob
          (subst (Open most S all) (plain_at S at t.Comma m ts (object_flag most S ob) tok) op),
    ),
  )
  member_stands_at S at t.CloseBrace all m ts (ob, op) tok =
      members_close most S all m ts op (at, plain_at S at t.CloseBrace m ts (object_flag most S ob) tok)
  member_stands_at S at t.At all m ts (ob, op) tok = (
    object_flag most S ob,
    (m, (sym (object_flag most S ob), [], m, refl, op, refl), plain_at S at t.At m ts (object_flag most S ob) tok),
  )
  member_stands_at S at (t.Name u) all m ts (ob, op) tok = (
    object_flag most S ob,
    (ob, (m, op, subst (λ b. token_at b at (t.Name u) m ts) (sym (object_flag most S ob)) tok)),
  )
  member_stands_at S at (t.Literal (l.Text u)) all m ts (ob, op) tok =
      (object_flag most S ob, (ob, (m, op, plain_at S at (t.Literal (l.Text u)) m ts (object_flag most S ob) tok)))
  member_stands_at S at y all m ts h tok = tt

  labelled_stands : (n : Label) (S : List Frame) (at : ℕ) (y : Terminal) (all m ts : List Placed)
      → At most (labelled n) S all m → token_at (flag S) at y m ts
      → Holds most (transition most (labelled n) (flag S) S at y) all ts
  labelled_stands (label.Name n) S at t.Colon all m ts (ob, (m1, op, lab)) tok =
      (refl, (ob, (m1, op, (m, lab, (at, plain_at S at t.Colon m ts (object_flag most S ob) tok)))))
  labelled_stands (label.Quoted q) S at t.Colon all m ts (ob, (m1, op, lab)) tok =
      (refl, (ob, (m1, op, (m, lab, (at, plain_at S at t.Colon m ts (object_flag most S ob) tok)))))
  labelled_stands (label.Name n) S at (t.Name u) all m ts (ob, (m1, op, lab)) tok =
      if_else (λ q. Holds most q all ts) (is_resource n.text) _ None
      (λ y. (
        object_flag most S ob,
        (
          ob,
          (
            m1,
            (sym (object_flag most S ob), [], m1, refl, op, refl),
            (
              m,
              subst (λ v. m1 ≡ (n.at, t.Name v) ∷ m) (resource_text n.text y)
                  (plain_token n.at (t.Name n.text) m1 m lab),
              subst (λ b. token_at b at (t.Name u) m ts) (sym (object_flag most S ob)) tok,
            ),
          ),
        ),
      )) (λ y. tt)
  labelled_stands (label.Name n) S at y all m ts h tok = tt
  labelled_stands (label.Quoted q) S at y all m ts h tok = tt

  past_member_stands : (j : Kept MemberTree) (S : List Frame) (at : ℕ) (y : Terminal) (all m ts : List Placed)
      → At most (past_member j) S all m → token_at (flag S) at y m ts
      → Holds most (transition most (past_member j) (flag S) S at y) all ts
  past_member_stands j S at t.Newline all m ts (ob, d, is, (m1, op, mem)) tok =
      member_stands most j d S all m1 m ts is op mem
      (subst (λ q. (one is_separator ▹ any is_separator) q ts)
      (sym (plain_at S at t.Newline m ts (object_flag most S ob) tok))
      (some_one is_separator (at, t.Newline) ts refl))
  past_member_stands j S at t.Comma all m ts (ob, d, is, (m1, op, mem)) tok =
      member_stands most j d S all m1 m ts is op mem
      (subst (λ q. (one is_separator ▹ any is_separator) q ts)
      (sym (plain_at S at t.Comma m ts (object_flag most S ob) tok)) (some_one is_separator (at, t.Comma) ts refl))
  past_member_stands j S at t.CloseBrace all m ts (ob, d, is, (m1, op, mem)) tok =
      member_closes most j d S all m1 m ts is op mem (at, plain_at S at t.CloseBrace m ts (object_flag most S ob) tok)
  past_member_stands j S at y all m ts h tok = tt

  among_stands : (from : ℕ) (ns : LoopNames) (S : List Frame) (at : ℕ) (y : Terminal) (all m ts : List Placed)
      → At most (among from ns) S all m → token_at (flag S) at y m ts
      → Holds most (transition most (among from ns) (flag S) S at y) all ts
  among_stands from ns S at (t.Name u) all m ts (m1, op, rd) tok =
      if_else (λ n. Holds most n all ts) (is_in u) (over_on from ns S) None (λ y. by S op rd tok y) (λ y. tt)
    where
      by : (S : List Frame) → Open most S all m1
          → (token_at (flag S) from t.OpenBracket ▹ word (codes "for") ▹ grammar.loop_names ns) m1 m
          → token_at (flag S) at (t.Name u) m ts → is_in u ≡ true → Holds most (over_on from ns S) all ts
      by [] op rd tok y = tt
      by (valued n ∷ S) op rd tok y =
          over_stands most from ns (valued n ∷ S) all m1 m ts op rd
          (at, subst (λ v. m ≡ (at, t.Name v) ∷ ts) (in_text_is u y) (plain_token at (t.Name u) m ts tok))
      by (assigned ds d ∷ S) op rd tok y =
          over_stands most from ns (assigned ds d ∷ S) all m1 m ts op rd
          (at, subst (λ v. m ≡ (at, t.Name v) ∷ ts) (in_text_is u y) (plain_token at (t.Name u) m ts tok))
      by (bodied h g ∷ S) op rd tok y =
          over_stands most from ns (bodied h g ∷ S) all m1 m ts op rd
          (at, subst (λ v. m ≡ (at, t.Name v) ∷ ts) (in_text_is u y) (plain_token at (t.Name u) m ts tok))
      by (F ∷ S) op rd tok y = tt
  among_stands from ns S at y all m ts h tok = tt

  -- ---- bodies

  body_flag : (S : List Frame) → IsBody S → false ≡ flag S
  body_flag [] h = absurd h
  body_flag (bodied b g ∷ S) h = refl
  body_flag (F ∷ S) h = absurd h

  -- an object begins in a body
  braces_stand : (S : List Frame) (at : ℕ) (all m ts : List Placed) → IsBody S → Open most S all m
      → token_at (flag S) at t.OpenBrace m ts → Holds most (Some (member, false, in_object at false empty ∷ S)) all ts
  braces_stand S at all m ts ib op tok = (refl, (tt, ([], refl, body_flag S ib, (m, op, (ts, tok, ([], tt, refl))))))

  if_stands : (S : List Frame) (at : ℕ) (u : List ℕ) (all m ts : List Placed) → IsBody S → Open most S all m
      → token_at (flag S) at (t.Name u) m ts → Holds most (cond (is_if u) (Some (condition at, false, S)) None) all ts
  if_stands S at u all m ts ib op tok =
      if_else (λ n. Holds most n all ts) (is_if u) (Some (condition at, false, S)) None
      (λ y. (
        body_flag S ib,
        (
          ib,
          (
            m,
            op,
            subst (λ v. m ≡ (at, t.Name v) ∷ ts) (if_text u y) (plain_at S at (t.Name u) m ts (body_flag S ib) tok),
          ),
        ),
      ))
      (λ y. tt)

  body_stands_at : (S : List Frame) (at : ℕ) (y : Terminal) (all m ts : List Placed) → At most s.body S all m
      → token_at (flag S) at y m ts → Holds most (transition most s.body (flag S) S at y) all ts
  body_stands_at S at t.OpenBrace all m ts (ib, op) tok = braces_stand S at all m ts ib op tok
  body_stands_at S at t.OpenBracket all m ts (ib, op) tok = (body_flag S ib, (ib, (m, op, tok)))
  body_stands_at S at (t.Name u) all m ts (ib, op) tok = if_stands S at u all m ts ib op tok
  body_stands_at S at y all m ts h tok = tt

  looped_body_stands : (S : List Frame) (at : ℕ) (y : Terminal) (all m ts : List Placed) → At most looped_body S all m
      → token_at (flag S) at y m ts → Holds most (transition most looped_body (flag S) S at y) all ts
  looped_body_stands S at t.OpenBrace all m ts (ib, op) tok = braces_stand S at all m ts ib op tok
  looped_body_stands S at (t.Name u) all m ts (ib, op) tok = if_stands S at u all m ts ib op tok
  looped_body_stands S at y all m ts h tok = tt

  -- ---- the names of a body's loop

  for_wanted_stands : (from : ℕ) (S : List Frame) (at : ℕ) (y : Terminal) (all m ts : List Placed)
      → At most (for_wanted from) S all m → token_at (flag S) at y m ts
      → Holds most (transition most (for_wanted from) (flag S) S at y) all ts
  for_wanted_stands from S at (t.Name u) all m ts (ib, (m1, op, opn)) tok =
      if_else (λ n. Holds most n all ts) (is_for u) (Some (names_wanted from, false, S)) None
      (λ y. (
        body_flag S ib,
        (
          ib,
          (
            m1,
            op,
            (
              m,
              opn,
              (
                at,
                subst (λ v. m ≡ (at, t.Name v) ∷ ts) (for_text u y)
                    (plain_at S at (t.Name u) m ts (body_flag S ib) tok),
              ),
            ),
          ),
        ),
      )) (λ y. tt)
  for_wanted_stands from S at y all m ts h tok = tt

  names_wanted_stands : (from : ℕ) (S : List Frame) (at : ℕ) (y : Terminal) (all m ts : List Placed)
      → At most (names_wanted from) S all m → token_at (flag S) at y m ts
      → Holds most (transition most (names_wanted from) (flag S) S at y) all ts
  names_wanted_stands from S at (t.Name u) all m ts (ib, (m1, op, (m2, opn, fo))) tok = (
    body_flag S ib,
    (m1, op, (m2, opn, (m, fo, subst (λ b. token_at b at (t.Name u) m ts) (sym (body_flag S ib)) tok))),
  )
  names_wanted_stands from S at t.OpenParen all m ts (ib, (m1, op, (m2, opn, fo))) tok =
      (refl, (tt, (ib, (m1, op, (m2, opn, (m, fo, (at, plain_at S at t.OpenParen m ts (body_flag S ib) tok)))))))
  names_wanted_stands from S at y all m ts h tok = tt

  names_flag : (S : List Frame) → IsNames S → true ≡ flag S
  names_flag [] h = absurd h
  names_flag (in_names at ∷ S) h = refl
  names_flag (F ∷ S) h = absurd h

  name_within : (S : List Frame) (at : ℕ) (y : Terminal) (m ts : List Placed) → IsNames S
      → token_at (flag S) at y m ts → token_at true at y m ts
  name_within S at y m ts is tok = subst (λ b. token_at b at y m ts) (sym (names_flag S is)) tok

  one_wanted_stands : (S : List Frame) (at : ℕ) (y : Terminal) (all m ts : List Placed) → At most one_wanted S all m
      → token_at (flag S) at y m ts → Holds most (transition most one_wanted (flag S) S at y) all ts
  one_wanted_stands S at (t.Name u) all m ts (is, op) tok =
      (names_flag S is, (is, (m, op, name_within S at (t.Name u) m ts is tok)))
  one_wanted_stands S at y all m ts h tok = tt

  one_named_stands : (n : Name) (S : List Frame) (at : ℕ) (y : Terminal) (all m ts : List Placed)
      → At most (one_named n) S all m → token_at (flag S) at y m ts
      → Holds most (transition most (one_named n) (flag S) S at y) all ts
  one_named_stands n S at t.Comma all m ts (is, (m1, op, nm)) tok =
      (names_flag S is, (is, (m1, op, (m, nm, to_token true at t.Comma m ts (name_within S at t.Comma m ts is tok)))))
  one_named_stands n S at y all m ts h tok = tt

  other_wanted_stands : (n : Name) (S : List Frame) (at : ℕ) (y : Terminal) (all m ts : List Placed)
      → At most (other_wanted n) S all m → token_at (flag S) at y m ts
      → Holds most (transition most (other_wanted n) (flag S) S at y) all ts
  other_wanted_stands n S at (t.Name u) all m ts (is, (m1, op, (m2, nm, co))) tok =
      (names_flag S is, (is, (m1, op, (m2, nm, (m, co, name_within S at (t.Name u) m ts is tok)))))
  other_wanted_stands n S at y all m ts h tok = tt

  both_named_stands : (n i : Name) (S : List Frame) (at : ℕ) (y : Terminal) (all m ts : List Placed)
      → At most (both_named n i) S all m → token_at (flag S) at y m ts
      → Holds most (transition most (both_named n i) (flag S) S at y) all ts
  both_named_stands n i [] at y all m ts (is, h) tok = absurd is
  both_named_stands n i (in_names from ∷ S) at t.CloseParen all m ts
      (is, (m1, (ib, (m0, op, (x1, opn, (x2, fo, pr)))), (m2, nm, (m3, co, ni)))) tok = (
        body_flag S ib,
        (
          m0,
          op,
          (x1, opn, (x2, fo, (m1, pr, (m2, nm, (m3, co, (m, ni, to_token true at t.CloseParen m ts tok)))))),
        ),
      )
  both_named_stands n i (in_names from ∷ S) at y all m ts h tok = tt
  both_named_stands n i (F ∷ S) at y all m ts (is, h) tok = absurd is

  -- ---- conditions and ends of bodies

  condition_stands : (from : ℕ) (S : List Frame) (at : ℕ) (y : Terminal) (all m ts : List Placed)
      → At most (condition from) S all m → token_at (flag S) at y m ts
      → Holds most (transition most (condition from) (flag S) S at y) all ts
  condition_stands from [] at y all m ts (ib, h) tok = absurd ib
  condition_stands from (bodied h g ∷ S) at t.OpenParen all m ts (ib, (m1, (m0, hd, fr), iff)) tok =
      (refl, (m0, hd, (m1, fr, (m, iff, (at, plain_token at t.OpenParen m ts tok)))))
  condition_stands from (bodied h g ∷ S) at y all m ts (ib, hh) tok = tt
  condition_stands from (F ∷ S) at y all m ts (ib, h) tok = absurd ib

  guarded_stands : (S : List Frame) (at : ℕ) (y : Terminal) (all m ts : List Placed) → At most guarded S all m
      → token_at (flag S) at y m ts → Holds most (transition most guarded (flag S) S at y) all ts
  guarded_stands S at t.OpenBrace all m ts (ib, op) tok = braces_stand S at all m ts ib op tok
  guarded_stands S at y all m ts h tok = tt

  close_body : (b : BodyTree) (at : ℕ) (m0 m ts : List Placed) → open_body most b m0 m → m ≡ (at, t.CloseBracket) ∷ ts
      → grammar.body b m0 ts
  close_body (body_each lt ob) at m0 m ts (m1, lp, o) e = (m1, lp, (m, o, (at, e)))
  close_body (body_each_if lt q c ob) at m0 m ts (m1, lp, (m2, und, o)) e = (m1, lp, (m2, und, (m, o, (at, e))))
  close_body b at m0 m ts h e = absurd h

  body_end_stands : (h : Header) (j : Kept BodyTree) (S : List Frame) (at : ℕ) (y : Terminal) (all m ts : List Placed)
      → At most (body_end h j) S all m → token_at (flag S) at y m ts
      → Holds most (transition most (body_end h j) (flag S) S at y) all ts
  body_end_stands h j S at t.CloseBracket all m ts (b, is, (m0, hd, ob)) tok =
      closing.body_stands most h S j b all m0 ts is hd
      (close_body b at m0 m ts ob
      (plain_at S at t.CloseBracket m ts (closing.headed_flag most S (Open most S all) h (sign t.Assign) m0 hd)
      tok))
  body_end_stands h j S at y all m ts g tok = tt

  -- ---- decorators

  at_sign_stands : (ds : Decorators) (from : ℕ) (S : List Frame) (at : ℕ) (y : Terminal) (all m ts : List Placed)
      → At most (at_sign ds from) S all m → token_at (flag S) at y m ts
      → Holds most (transition most (at_sign ds from) (flag S) S at y) all ts
  at_sign_stands ds from S at (t.Name u) all m ts (m1, dec, sg) tok =
      (sym dec.0, (m1, dec, (m, sg, subst (λ b. token_at b at (t.Name u) m ts) dec.0 tok)))
  at_sign_stands ds from S at y all m ts h tok = tt

  decorator_named_stands : (ds : Decorators) (from : ℕ) (n : Name) (S : List Frame) (at : ℕ) (y : Terminal)
      (all m ts : List Placed) → At most (decorator_named ds from n) S all m → token_at (flag S) at y m ts
      → Holds most (transition most (decorator_named ds from n) (flag S) S at y) all ts
  decorator_named_stands ds from n S at t.OpenParen all m ts (m1, dec, (m2, sg, nm)) tok = (
    refl,
    (
      refl,
      (
        [],
        refl,
        sym dec.0,
        (m1, dec, (ts, (m2, sg, (m, nm, (at, plain_at S at t.OpenParen m ts (sym dec.0) tok))), refl)),
      ),
    ),
  )
  decorator_named_stands ds from n S at (t.Access a.Member) all m ts (m1, dec, (m2, sg, nm)) tok =
      if_else (λ q. Holds most q all ts) (is_sys n.text) (Some (decorator_spaced ds from n.at, false, S)) None
      (λ y. (
        sym dec.0,
        (
          m1,
          dec,
          (
            m2,
            sg,
            (
              m,
              subst (λ v. m2 ≡ (n.at, t.Name v) ∷ m) (sys_text n.text y) (plain_token n.at (t.Name n.text) m2 m nm),
              (at, plain_at S at (t.Access a.Member) m ts (sym dec.0) tok),
            ),
          ),
        ),
      )) (λ y. tt)
  decorator_named_stands ds from n S at y all m ts h tok = tt

  decorator_spaced_stands : (ds : Decorators) (sg_at from : ℕ) (S : List Frame) (at : ℕ) (y : Terminal)
      (all m ts : List Placed) → At most (decorator_spaced ds sg_at from) S all m → token_at (flag S) at y m ts
      → Holds most (transition most (decorator_spaced ds sg_at from) (flag S) S at y) all ts
  decorator_spaced_stands ds sg_at from S at (t.Name u) all m ts (m1, dec, (m2, sg, (m3, sp, dot))) tok =
      (sym dec.0, (m1, dec, (m2, sg, (m3, sp, (m, dot, subst (λ b. token_at b at (t.Name u) m ts) dec.0 tok)))))
  decorator_spaced_stands ds sg_at from S at y all m ts h tok = tt

  decorator_ready_stands : (ds : Decorators) (from : ℕ) (g : Function) (S : List Frame) (at : ℕ) (y : Terminal)
      (all m ts : List Placed) → At most (decorator_ready ds from g) S all m → token_at (flag S) at y m ts
      → Holds most (transition most (decorator_ready ds from g) (flag S) S at y) all ts
  decorator_ready_stands ds from g S at t.OpenParen all m ts (m1, dec, (m2, sg, fn)) tok = (
    refl,
    (
      refl,
      (
        [],
        refl,
        sym dec.0,
        (m1, dec, (ts, (m2, sg, (m, fn, (at, plain_at S at t.OpenParen m ts (sym dec.0) tok))), refl)),
      ),
    ),
  )
  decorator_ready_stands ds from g S at y all m ts h tok = tt

  decorated_stands : (ds : Decorators) (S : List Frame) (at : ℕ) (y : Terminal) (all m ts : List Placed)
      → At most (decorated ds) S all m → token_at (flag S) at y m ts
      → Holds most (transition most (decorated ds) (flag S) S at y) all ts
  decorated_stands ds S at t.Newline all m ts (fl, dts, d, m1, is, op, (m2, decs, dec)) tok = (
    sym fl,
    (
      fl,
      dts ++ d ∷ [],
      m1,
      is,
      op,
      decorated_put dts d m1 m2 m ts decs dec (at, plain_at S at t.Newline m ts (sym fl) tok),
    ),
  )
  decorated_stands ds S at y all m ts h tok = tt

  word_stands : (ds : Decorators) (at : ℕ) (u : List ℕ) (r : Option Word) (S : List Frame) (all m ts : List Placed)
      → IsBeginning u r → Decorated most S (Open most S all) ds m → m ≡ (at, t.Name u) ∷ ts
      → Holds most (word_on ds at r S) all ts
  word_stands ds at u None S all m ts h dec e = tt
  word_stands ds at u (Some v) S all m ts h dec e =
      (sym dec.0, (h.1 S, (m, dec, subst (λ q. m ≡ (at, t.Name q) ∷ ts) h.0 e)))

  decorated_word_stands : (ds : Decorators) (at : ℕ) (u : List ℕ) (S : List Frame) (all m ts : List Placed)
      → Decorated most S (Open most S all) ds m → m ≡ (at, t.Name u) ∷ ts
      → Holds most (decorated_word ds at u S) all ts
  decorated_word_stands ds at u [] all m ts dec e = tt
  decorated_word_stands ds at u (in_object q was ms ∷ S) all m ts dec e = by (is_resource u) refl
    where
      by : (b : Bool) → is_resource u ≡ b → Holds most (child_on ds at b (in_object q was ms ∷ S)) all ts
      by true y = (refl, (tt, (m, dec, subst (λ v. m ≡ (at, t.Name v) ∷ ts) (resource_text u y) e)))
      by false y = tt
  decorated_word_stands ds at u (in_file ss ∷ S) all m ts dec e =
      word_stands ds at u (word_of u) (in_file ss ∷ S) all m ts (beginning_text u) dec e
  decorated_word_stands ds at u (F ∷ S) all m ts dec e = tt

  past_decorators_stands : (ds : Decorators) (S : List Frame) (at : ℕ) (y : Terminal) (all m ts : List Placed)
      → At most (past_decorators ds) S all m → token_at (flag S) at y m ts
      → Holds most (transition most (past_decorators ds) (flag S) S at y) all ts
  past_decorators_stands ds S at t.At all m ts dec tok = (sym dec.0, (m, dec, plain_at S at t.At m ts (sym dec.0) tok))
  past_decorators_stands ds S at (t.Name u) all m ts dec tok =
      decorated_word_stands ds at u S all m ts dec (plain_at S at (t.Name u) m ts (sym dec.0) tok)
  past_decorators_stands ds S at y all m ts dec tok = tt

  -- ---- declarations

  name_declared : (ds : Decorators) (from : ℕ) (v : Word) (S : List Frame) (at : ℕ) (u : List ℕ)
      (all m ts : List Placed) → At most (declaring ds from v) S all m → token_at (flag S) at (t.Name u) m ts
      → Holds most (Some (declared ds from v (record { at = at; text = u }), false, S)) all ts
  name_declared ds from v S at u all m ts (bg, (m1, dec, wd)) tok =
      (sym dec.0, (bg, (m1, dec, (m, wd, subst (λ b. token_at b at (t.Name u) m ts) dec.0 tok))))

  declaring_stands : (ds : Decorators) (from : ℕ) (v : Word) (S : List Frame) (at : ℕ) (y : Terminal)
      (all m ts : List Placed) → At most (declaring ds from v) S all m → token_at (flag S) at y m ts
      → Holds most (transition most (declaring ds from v) (flag S) S at y) all ts
  declaring_stands ds from w.TargetScope S at t.Assign all m ts (bg, (m1, dec, wd)) tok =
      (refl, (m1, dec, (m, wd, (at, plain_at S at t.Assign m ts (sym dec.0) tok))))
  declaring_stands ds from w.TargetScope S at y all m ts h tok = tt
  declaring_stands ds from w.Metadata S at (t.Name u) all m ts h tok =
      name_declared ds from w.Metadata S at u all m ts h tok
  declaring_stands ds from w.Param S at (t.Name u) all m ts h tok = name_declared ds from w.Param S at u all m ts h tok
  declaring_stands ds from w.Var S at (t.Name u) all m ts h tok = name_declared ds from w.Var S at u all m ts h tok
  declaring_stands ds from w.Output S at (t.Name u) all m ts h tok =
      name_declared ds from w.Output S at u all m ts h tok
  declaring_stands ds from w.Resource S at (t.Name u) all m ts h tok =
      name_declared ds from w.Resource S at u all m ts h tok
  declaring_stands ds from w.Child S at (t.Name u) all m ts h tok = name_declared ds from w.Child S at u all m ts h tok
  declaring_stands ds from w.Module S at (t.Name u) all m ts h tok =
      name_declared ds from w.Module S at u all m ts h tok
  declaring_stands ds from v S at y all m ts h tok = tt

  type_stands : (ds : Decorators) (from : ℕ) (v : Word) (n : Name) (u : List ℕ) (r : Option TypeName) (S : List Frame)
      (at : ℕ) (all m ts : List Placed) → IsTypeName u r → At most (declared ds from v n) S all m
      → token_at (flag S) at (t.Name u) m ts → Holds most (type_on ds from v n r S) all ts
  type_stands ds from v n u None S at all m ts h g tok = tt
  type_stands ds from v n u (Some ty) S at all m ts h (bg, (m1, dec, (m2, wd, nm))) tok = (
    sym dec.0,
    (
      bg,
      (
        m1,
        dec,
        (
          m2,
          wd,
          (m, nm, (at, subst (λ q. m ≡ (at, t.Name q) ∷ ts) h (plain_at S at (t.Name u) m ts (sym dec.0) tok))),
        ),
      ),
    ),
  )

  declared_stands : (ds : Decorators) (from : ℕ) (v : Word) (n : Name) (S : List Frame) (at : ℕ) (y : Terminal)
      (all m ts : List Placed) → At most (declared ds from v n) S all m → token_at (flag S) at y m ts
      → Holds most (transition most (declared ds from v n) (flag S) S at y) all ts
  declared_stands ds from w.Metadata n S at t.Assign all m ts (bg, (m1, dec, (m2, wd, nm))) tok =
      (refl, (m1, dec, (m2, wd, (m, nm, (at, plain_at S at t.Assign m ts (sym dec.0) tok)))))
  declared_stands ds from w.Var n S at t.Assign all m ts (bg, (m1, dec, (m2, wd, nm))) tok =
      (refl, (m1, dec, (m2, wd, (m, nm, (at, plain_at S at t.Assign m ts (sym dec.0) tok)))))
  declared_stands ds from w.Param n S at (t.Name u) all m ts h tok =
      type_stands ds from w.Param n u (type_of u) S at all m ts (type_text u) h tok
  declared_stands ds from w.Output n S at (t.Name u) all m ts h tok =
      type_stands ds from w.Output n u (type_of u) S at all m ts (type_text u) h tok
  declared_stands ds from w.Resource n S at (t.Literal (l.Text u)) all m ts (bg, (m1, dec, (m2, wd, nm))) tok = (
    sym dec.0,
    (
      refl,
      (
        tt,
        (
          m1,
          dec,
          (m2, wd, (m, nm, (ts, plain_at S at (t.Literal (l.Text u)) m ts (sym dec.0) tok, (ts, refl, refl)))),
        ),
      ),
    ),
  )
  declared_stands ds from w.Child n S at (t.Literal (l.Text u)) all m ts (bg, (m1, dec, (m2, wd, nm))) tok = (
    sym dec.0,
    (
      refl,
      (
        bg,
        (
          m1,
          dec,
          (m2, wd, (m, nm, (ts, plain_at S at (t.Literal (l.Text u)) m ts (sym dec.0) tok, (ts, refl, refl)))),
        ),
      ),
    ),
  )
  declared_stands ds from w.Module n S at (t.Literal (l.Text u)) all m ts (bg, (m1, dec, (m2, wd, nm))) tok = (
    sym dec.0,
    (tt, (tt, (m1, dec, (m2, wd, (m, nm, (ts, plain_at S at (t.Literal (l.Text u)) m ts (sym dec.0) tok, refl)))))),
  )
  declared_stands ds from v n S at y all m ts h tok = tt

  param_declared : (ds : Decorators) (from : ℕ) (n : Name) (ty : TypeName) (S : List Frame) (all m : List Placed)
      → At most (typed ds from w.Param n ty) S all m
      → Declared most (of_statement ds (flat (param from n ty))) S all m
  param_declared ds from n ty S all m (bg, (m1, (fl, dts, mm, dsk, op, decs), (m2, wd, (m3, nm, kd)))) =
      record {
        made_of = statement (decorators dts) (param from n ty);
        kept_is =
            statement_kept most ds dts (flat (param from n ty)) (param from n ty) dsk refl;
        begins_at = mm;
        opens =
            op;
        spelled = (m1, decs, (m2, wd, (m3, nm, kd)));
      }

  typed_stands : (ds : Decorators) (from : ℕ) (v : Word) (n : Name) (ty : TypeName) (S : List Frame) (at : ℕ)
      (y : Terminal) (all m ts : List Placed) → At most (typed ds from v n ty) S all m → token_at (flag S) at y m ts
      → Holds most (transition most (typed ds from v n ty) (flag S) S at y) all ts
  typed_stands ds from w.Param n ty S at t.Assign all m ts (bg, (m1, dec, (m2, wd, (m3, nm, kd)))) tok =
      (refl, (m1, dec, (m2, wd, (m3, nm, (m, kd, (at, plain_at S at t.Assign m ts (sym dec.0) tok))))))
  typed_stands ds from w.Param n ty S at t.Newline all m ts (bg, (m1, dec, fm)) tok =
      let d = param_declared ds from n ty S all m (bg, (m1, dec, fm)) in
      statement_filed most (of_statement ds (flat (param from n ty))) d.made_of S all d.begins_at m ts d.kept_is
      d.opens d.spelled
      (subst (λ q. (one is_newline ▹ any is_newline) q ts) (sym (plain_at S at t.Newline m ts (sym dec.0) tok))
      (some_one is_newline (at, t.Newline) ts refl))
  typed_stands ds from w.Output n ty S at t.Assign all m ts (bg, (m1, dec, (m2, wd, (m3, nm, kd)))) tok =
      (refl, (m1, dec, (m2, wd, (m3, nm, (m, kd, (at, plain_at S at t.Assign m ts (sym dec.0) tok))))))
  typed_stands ds from v n ty S at y all m ts h tok = tt

  -- `=` after a header
  header_assigned : (h : Header) (S : List Frame) (P : List Placed → Type 0) (at : ℕ) (m ts : List Placed)
      → Headed most S P h nothing m → m ≡ (at, t.Assign) ∷ ts → Headed most S P h (sign t.Assign) ts
  header_assigned (header ds o (owner.Resource x) n q) S P at m ts
      (pl, (m1, dec, (m2, wd, (m3, nm, (m4, qu, (m5, ex, no_more)))))) e =
      (pl, (m1, dec, (m2, wd, (m3, nm, (m4, qu, (m5, ex, (at, no_more ∙ e)))))))
  header_assigned (header ds o (owner.Child x) n q) S P at m ts
      (pl, (m1, dec, (m2, wd, (m3, nm, (m4, qu, (m5, ex, no_more)))))) e =
      (pl, (m1, dec, (m2, wd, (m3, nm, (m4, qu, (m5, ex, (at, no_more ∙ e)))))))
  header_assigned (header ds o owner.Module n q) S P at m ts (pl, (m1, dec, (m2, wd, (m3, nm, (m4, qu, no_more)))))
      e = (pl, (m1, dec, (m2, wd, (m3, nm, (m4, qu, (at, no_more ∙ e))))))

  body_opens : (h : Header) (S : List Frame) (at : ℕ) (all m ts : List Placed)
      → Headed most S (Open most S all) h nothing m → token_at (flag S) at t.Assign m ts
      → Holds most (Some (s.body, false, bodied h nothing_before ∷ S)) all ts
  body_opens h S at all m ts hd tok = (
    refl,
    (
      tt,
      (
        ts,
        header_assigned h S (Open most S all) at m ts hd
            (plain_at S at t.Assign m ts (closing.headed_flag most S (Open most S all) h nothing m hd) tok),
        refl,
      ),
    ),
  )

  existing_stands : (h : Header) (S : List Frame) (at : ℕ) (all m ts : List Placed) → IsNew h
      → Headed most S (Open most S all) h nothing m → m ≡ (at, t.Name (codes "existing")) ∷ ts
      → Holds most (existing_on (made_existing h) S) all ts
  existing_stands (header ds o (owner.Resource x) n q) S at all m ts new
      (pl, (m1, dec, (m2, wd, (m3, nm, (m4, qu, (m5, ex, no_more)))))) e = (
        sym dec.0,
        (
          pl,
          (
            m1,
            dec,
            (
              m2,
              wd,
              (m3, nm, (m4, qu, (ts, (at, subst (λ b. grammar.existing b m4 m5) new ex ∙ no_more ∙ e), refl))),
            ),
          ),
        ),
      )
  existing_stands (header ds o (owner.Child x) n q) S at all m ts new
      (pl, (m1, dec, (m2, wd, (m3, nm, (m4, qu, (m5, ex, no_more)))))) e = (
        sym dec.0,
        (
          pl,
          (
            m1,
            dec,
            (
              m2,
              wd,
              (m3, nm, (m4, qu, (ts, (at, subst (λ b. grammar.existing b m4 m5) new ex ∙ no_more ∙ e), refl))),
            ),
          ),
        ),
      )
  existing_stands (header ds o owner.Module n q) S at all m ts new hd e = tt

  headed_stands : (h : Header) (S : List Frame) (at : ℕ) (y : Terminal) (all m ts : List Placed)
      → At most (headed h) S all m → token_at (flag S) at y m ts
      → Holds most (transition most (headed h) (flag S) S at y) all ts
  headed_stands h S at t.Assign all m ts (new, hd) tok = body_opens h S at all m ts hd tok
  headed_stands h S at (t.Name u) all m ts (new, hd) tok =
      if_else (λ n. Holds most n all ts) (is_existing u) (existing_on (made_existing h) S) None
      (λ y. existing_stands h S at all m ts new hd
      (subst (λ v. m ≡ (at, t.Name v) ∷ ts) (existing_text u y)
      (plain_at S at (t.Name u) m ts (closing.headed_flag most S (Open most S all) h nothing m hd) tok)))
      (λ y. tt)
  headed_stands h S at y all m ts g tok = tt

  existed_stands : (h : Header) (S : List Frame) (at : ℕ) (y : Terminal) (all m ts : List Placed)
      → At most (existed h) S all m → token_at (flag S) at y m ts
      → Holds most (transition most (existed h) (flag S) S at y) all ts
  existed_stands h S at t.Assign all m ts hd tok = body_opens h S at all m ts hd tok
  existed_stands h S at y all m ts g tok = tt

  -- ---- files

  file_flag : (S : List Frame) → IsFile S → false ≡ flag S
  file_flag [] h = absurd h
  file_flag (in_file ss ∷ S) h = refl
  file_flag (F ∷ S) h = absurd h

  statements_parted : (S : List Frame) (at : ℕ) (all ts : List Placed) → IsFile S
      → Open most S all ((at, t.Newline) ∷ ts) → Open most S all ts
  statements_parted [] at all ts h op = absurd op
  statements_parted (in_file k ∷ []) at all ts h (ss, ks, rd) =
      (ss, ks, parts_more is_newline a_statement ss all (at, t.Newline) ts refl rd)
  statements_parted (in_file k ∷ (F ∷ S)) at all ts h op = absurd op
  statements_parted (F ∷ S) at all ts h op = absurd h

  between_stands : (S : List Frame) (at : ℕ) (y : Terminal) (all m ts : List Placed) → At most between S all m
      → token_at (flag S) at y m ts → Holds most (transition most between (flag S) S at y) all ts
  between_stands S at t.Newline all m ts (fi, op) tok = (
    file_flag S fi,
    (
      fi,
      statements_parted S at all ts fi
          (subst (Open most S all) (plain_at S at t.Newline m ts (file_flag S fi) tok) op),
    ),
  )
  between_stands S at t.At all m ts (fi, op) tok = (
    file_flag S fi,
    (m, (sym (file_flag S fi), [], m, refl, op, refl), plain_at S at t.At m ts (file_flag S fi) tok),
  )
  between_stands S at (t.Name u) all m ts (fi, op) tok =
      word_stands empty at u (word_of u) S all m ts (beginning_text u) (sym (file_flag S fi), [], m, refl, op, refl)
      (plain_at S at (t.Name u) m ts (file_flag S fi) tok)
  between_stands S at y all m ts h tok = tt

  past_statement_stands : (j : Kept StatementTree) (S : List Frame) (at : ℕ) (y : Terminal) (all m ts : List Placed)
      → (flag S && is_newline y) ≡ false → At most (past_statement j) S all m → token_at (flag S) at y m ts
      → Holds most (transition most (past_statement j) (flag S) S at y) all ts
  past_statement_stands j S at t.Newline all m ts ne (st, is, (m1, op, sm)) tok =
      statement_filed most j st S all m1 m ts is op sm
      (subst (λ q. (one is_newline ▹ any is_newline) q ts)
      (sym (plain_at S at t.Newline m ts (sym (first_fails_alone (flag S) ne)) tok))
      (some_one is_newline (at, t.Newline) ts refl))
  past_statement_stands j S at y all m ts ne h tok = tt

  -- ---- after a newline that ended an expression

  rejoin_stands : (n : Next) (at : ℕ) (y : Terminal) (all m ts : List Placed) → Holds most n all m → m ≡ (at, y) ∷ ts
      → Holds most (option_and_then (λ q. rejoined most q at y) n) all ts
  rejoin_stands None at y all m ts h e = tt
  rejoin_stands (Some (item, i, S)) at y all m ts h e = item_stands S at y all m ts h.1 (m, ([], tt, refl), e)
  rejoin_stands (Some (member, i, S)) at y all m ts h e = member_stands_at S at y all m ts h.1 (m, ([], tt, refl), e)
  rejoin_stands (Some (between, i, S)) at y all m ts h e = between_stands S at y all m ts h.1 (m, ([], tt, refl), e)
  rejoin_stands (Some q) at y all m ts h e = tt

  paused_end : (k : Kept Tree) (e : Tree) (S : List Frame) (n : ℕ) (all m1 m2 : List Placed) → n ≤ 1 → k ≡ keep most e
      → 9 ≤ rank e → flag S ≡ false → Open most S all m1 → expression false e m1 m2
      → Ended most n false all m2 (closed most n k S)
  paused_end k e S n all m1 m2 low is pr fl op ex =
      closing.ended most S n k e false all m1 m2 (omega arith) is (sym fl) (omega arith)
      (takes_high S (rank e) (omega arith)) op (subst (λ b. expression b e m1 m2) (sym fl) ex)

  paused_stands : (k : Kept Tree) (S : List Frame) (at : ℕ) (y : Terminal) (all m ts : List Placed)
      → At most (paused k) S all m → token_at (flag S) at y m ts
      → Holds most (transition most (paused k) (flag S) S at y) all ts
  paused_stands k S at t.Newline all m ts (e, is, pr, fl, (m1, op, (m2, ex, ln))) tok = (
    sym fl,
    (
      e,
      is,
      pr,
      fl,
      (
        m1,
        op,
        (
          m2,
          ex,
          some_put is_newline m2 (at, t.Newline) ts refl
              (subst ((one is_newline ▹ any is_newline) m2) (plain_at S at t.Newline m ts (sym fl) tok) ln),
        ),
      ),
    ),
  )
  paused_stands k S at t.Question all m ts (e, is, pr, fl, (m1, op, (m2, ex, ln))) tok =
      question_stands (closed most 1 k S) false all m2 ts (paused_end k e S 1 all m1 m2 (omega arith) is pr fl op ex)
      (lines_token t.Question m2 m ts ln (at, plain_at S at t.Question m ts (sym fl) tok))
  paused_stands k S at t.Colon all m ts (e, is, pr, fl, (m1, op, (m2, ex, ln))) tok =
      late_colon_stands most (closed most 0 k S) all m2 ts (paused_end k e S 0 all m1 m2 (omega arith) is pr fl op ex)
      (lines_token t.Colon m2 m ts ln (at, plain_at S at t.Colon m ts (sym fl) tok))
  paused_stands k S at y all m ts (e, is, pr, fl, (m1, op, (m2, ex, ln))) tok =
      rejoin_stands (newline_on most (closed most 0 k S)) at y all m ts
      (newline_stands most (closed most 0 k S) all m2 m
      (paused_end k e S 0 all m1 m2 (omega arith) is pr fl op ex) ln) (plain_at S at y m ts (sym fl) tok)

  -- ---- a step

  moved_stands : (st : State) (S : List Frame) (at : ℕ) (y : Terminal) (all m ts : List Placed)
      → (flag S && is_newline y) ≡ false → At most st S all m → token_at (flag S) at y m ts
      → Holds most (transition most st (flag S) S at y) all ts
  moved_stands (wanted b) S at y all m ts ne h tok = wanted_stands b S at y all m ts ne h tok
  moved_stands s.first S at y all m ts ne h tok = first_stands S at y all m ts h tok
  moved_stands (s.named n) S at y all m ts ne h tok = named_stands n S at y all m ts ne h tok
  moved_stands (qualifying q n) S at y all m ts ne h tok = qualifying_stands q n S at y all m ts h tok
  moved_stands (qualified q n x) S at y all m ts ne h tok = qualified_stands q n x S at y all m ts ne h tok
  moved_stands (dotted c k) S at y all m ts ne h tok = dotted_stands c k S at y all m ts h tok
  moved_stands (done k) S at y all m ts ne h tok = gone_stands k S at y all m ts ne h tok
  moved_stands (paused k) S at y all m ts ne h tok = paused_stands k S at y all m ts h tok
  moved_stands item S at y all m ts ne h tok = item_stands S at y all m ts h tok
  moved_stands (for_wanted q) S at y all m ts ne h tok = for_wanted_stands q S at y all m ts h tok
  moved_stands (names_wanted q) S at y all m ts ne h tok = names_wanted_stands q S at y all m ts h tok
  moved_stands one_wanted S at y all m ts ne h tok = one_wanted_stands S at y all m ts h tok
  moved_stands (one_named n) S at y all m ts ne h tok = one_named_stands n S at y all m ts h tok
  moved_stands (other_wanted n) S at y all m ts ne h tok = other_wanted_stands n S at y all m ts h tok
  moved_stands (both_named n i) S at y all m ts ne h tok = both_named_stands n i S at y all m ts h tok
  moved_stands member S at y all m ts ne h tok = member_stands_at S at y all m ts h tok
  moved_stands (labelled n) S at y all m ts ne h tok = labelled_stands n S at y all m ts h tok
  moved_stands (past_member j) S at y all m ts ne h tok = past_member_stands j S at y all m ts h tok
  moved_stands (among q ns) S at y all m ts ne h tok = among_stands q ns S at y all m ts h tok
  moved_stands s.body S at y all m ts ne h tok = body_stands_at S at y all m ts h tok
  moved_stands looped_body S at y all m ts ne h tok = looped_body_stands S at y all m ts h tok
  moved_stands (condition q) S at y all m ts ne h tok = condition_stands q S at y all m ts h tok
  moved_stands guarded S at y all m ts ne h tok = guarded_stands S at y all m ts h tok
  moved_stands (body_end hd j) S at y all m ts ne h tok = body_end_stands hd j S at y all m ts h tok
  moved_stands (at_sign ds q) S at y all m ts ne h tok = at_sign_stands ds q S at y all m ts h tok
  moved_stands (decorator_named ds q n) S at y all m ts ne h tok = decorator_named_stands ds q n S at y all m ts h tok
  moved_stands (decorator_spaced ds q n) S at y all m ts ne h tok = decorator_spaced_stands ds q n S at y all m ts h tok
  moved_stands (decorator_ready ds q g) S at y all m ts ne h tok = decorator_ready_stands ds q g S at y all m ts h tok
  moved_stands (decorated ds) S at y all m ts ne h tok = decorated_stands ds S at y all m ts h tok
  moved_stands (past_decorators ds) S at y all m ts ne h tok = past_decorators_stands ds S at y all m ts h tok
  moved_stands (declaring ds q v) S at y all m ts ne h tok = declaring_stands ds q v S at y all m ts h tok
  moved_stands (declared ds q v n) S at y all m ts ne h tok = declared_stands ds q v n S at y all m ts h tok
  moved_stands (typed ds q v n ty) S at y all m ts ne h tok = typed_stands ds q v n ty S at y all m ts h tok
  moved_stands (headed hd) S at y all m ts ne h tok = headed_stands hd S at y all m ts h tok
  moved_stands (existed hd) S at y all m ts ne h tok = existed_stands hd S at y all m ts h tok
  moved_stands between S at y all m ts ne h tok = between_stands S at y all m ts h tok
  moved_stands (past_statement j) S at y all m ts ne h tok = past_statement_stands j S at y all m ts ne h tok

  -- where a reading is, after newlines that are skipped
  record Where (st : State) (i : Bool) (S : List Frame) (all ts : List Placed) : Type 0 where
    flag_is : i ≡ flag S
    left_at : List Placed
    stands : At most st S all left_at
    skips : skipped i left_at ts

  abbrev OnNext : Next → List Placed → List Placed → Type 0
  OnNext None all ts = Unit {0}
  OnNext (Some q) all ts = Where q.0 q.1 q.2 all ts

  here : (n : Next) (all ts : List Placed) → Holds most n all ts → OnNext n all ts
  here None all ts h = tt
  here (Some q) all ts h = record { flag_is = h.0; left_at = ts; stands = h.1; skips = ([], tt, refl) }

  step_stands : (st : State) (i : Bool) (S : List Frame) (at : ℕ) (y : Terminal) (all ts : List Placed)
      → Where st i S all ((at, y) ∷ ts) → OnNext (step most st i S (at, y)) all ts
  step_stands st i S at y all ts h =
      if_else (λ n. OnNext n all ts) (i && is_newline y) (Some (st, i, S)) (transition most st i S at y)
      (λ e. record {
        flag_is = h.flag_is;
        left_at = h.left_at;
        stands = h.stands;
        skips =
            any_put (λ s. i && is_newline s) h.left_at (at, y) ts e h.skips;
      })
      (λ e. here (transition most st i S at y) all ts
      (subst (λ b. Holds most (transition most st b S at y) all ts) (sym h.flag_is)
      (moved_stands st S at y all h.left_at ts (subst (λ b. (b && is_newline y) ≡ false) h.flag_is e) h.stands
      ((at, y) ∷ ts, subst (λ b. skipped b h.left_at ((at, y) ∷ ts)) h.flag_is h.skips, refl))))

  -- ---- the end

  pub record IsSpelled (k : Kept FileTree) (all : List Placed) : Type 0 where
    pub file : FileTree
    pub text : a_file file all []
    pub kept_is : k ≡ keep_file most file

  abbrev OnEnd : Option (Kept FileTree) → List Placed → Type 0
  OnEnd None all = Unit {0}
  OnEnd (Some k) all = IsSpelled k all

  -- a last statement, and perhaps newlines
  last_spelled : (j : Kept StatementTree) (S : List Frame) (all m : List Placed) → Declared most j S all m → m ≡ []
      → OnEnd (ended most j S) all
  last_spelled j [] all m d e = tt
  last_spelled j (in_file k ∷ []) all m d e =
      let (ss, ks, rd) = d.opens in
      record {
        file = ss ++ d.made_of ∷ [];
        text =
            whole_statements (ss ++ d.made_of ∷ []) all []
            (parts_last is_newline a_statement nothing ss d.made_of all d.begins_at m [] rd d.spelled e);
        kept_is = ap (λ y. put y j) ks ∙ ap (put (keep_file most ss)) d.kept_is ∙ statements_put most ss d.made_of;
      }
  last_spelled j (in_file k ∷ (F ∷ S)) all m d e = tt
  last_spelled j (F ∷ S) all m d e = tt

  lines_spelled : (j : Kept StatementTree) (S : List Frame) (all m1 m : List Placed) → Declared most j S all m1
      → (one is_newline ▹ any is_newline) m1 m → m ≡ [] → OnEnd (ended most j S) all
  lines_spelled j [] all m1 m d ln e = tt
  lines_spelled j (in_file k ∷ []) all m1 m d ln e =
      let (ss, ks, rd) = d.opens in
      record {
        file = ss ++ d.made_of ∷ [];
        text =
            whole_statements (ss ++ d.made_of ∷ []) all []
            (parts_end is_newline a_statement nothing (ss ++ d.made_of ∷ []) all m []
            (parts_put is_newline a_statement ss d.made_of all d.begins_at m1 m rd d.spelled ln) e);
        kept_is = ap (λ y. put y j) ks ∙ ap (put (keep_file most ss)) d.kept_is ∙ statements_put most ss d.made_of;
      }
  lines_spelled j (in_file k ∷ (F ∷ S)) all m1 m d ln e = tt
  lines_spelled j (F ∷ S) all m1 m d ln e = tt

  -- an expression at the end
  end_spelled : (p : Closed) (i : Bool) (all m : List Placed) → Ended most 0 i all m p → skipped i m []
      → OnEnd (ended_by most p) all
  end_spelled (k, []) i all m h sk = tt
  end_spelled (k, assigned ds d ∷ S) i all m h sk =
      last_spelled (of_statement ds (with_expression d k)) S all m
      (declared_with most ds d k h.whole S all h.from m h.is h.before h.text)
      (not_skipped m [] (subst (λ b. skipped b m []) h.same sk))
  end_spelled (k, F ∷ S) i all m h sk = tt

  late_end_spelled : (p : Closed) (all m1 m : List Placed) → Ended most 0 false all m1 p
      → (one is_newline ▹ any is_newline) m1 m → m ≡ [] → OnEnd (ended_by most p) all
  late_end_spelled (k, []) all m1 m h ln e = tt
  late_end_spelled (k, assigned ds d ∷ S) all m1 m h ln e =
      lines_spelled (of_statement ds (with_expression d k)) S all m1 m
      (declared_with most ds d k h.whole S all h.from m1 h.is h.before h.text) ln e
  late_end_spelled (k, F ∷ S) all m1 m h ln e = tt

  done_spelled : (k : Kept Tree) (S : List Frame) (i : Bool) (all m : List Placed) → i ≡ flag S
      → At most (done k) S all m → skipped i m [] → OnEnd (ended_by most (closed most 0 k S)) all
  done_spelled k S i all m same (e, is, pr, (m1, op, ex)) sk =
      end_spelled (closed most 0 k S) i all m
      (closing.ended most S 0 k e i all m1 m (omega arith) is same (omega arith)
      (takes_high S (rank e) (omega (arith, pr))) op ex) sk

  between_spelled : (S : List Frame) (i : Bool) (all m : List Placed) → i ≡ flag S → At most between S all m
      → skipped i m [] → OnEnd (ended_between most S) all
  between_spelled [] i all m same (fi, op) sk = tt
  between_spelled (in_file k ∷ []) i all m same (fi, (ss, ks, rd)) sk =
      record {
        file = ss;
        text =
            whole_statements ss all []
            (parts_end is_newline a_statement nothing ss all m [] rd
            (not_skipped m [] (subst (λ b. skipped b m []) same sk)));
        kept_is = ks;
      }
  between_spelled (in_file k ∷ (F ∷ S)) i all m same h sk = tt
  between_spelled (F ∷ S) i all m same h sk = tt

  past_statement_spelled : (j : Kept StatementTree) (S : List Frame) (i : Bool) (all m : List Placed) → i ≡ flag S
      → Declared most j S all m → skipped i m [] → OnEnd (ended most j S) all
  past_statement_spelled j [] i all m same d sk = tt
  past_statement_spelled j (in_file k ∷ []) i all m same d sk =
      last_spelled j (in_file k ∷ []) all m d (not_skipped m [] (subst (λ b. skipped b m []) same sk))
  past_statement_spelled j (in_file k ∷ (F ∷ S)) i all m same d sk = tt
  past_statement_spelled j (F ∷ S) i all m same d sk = tt

  finished_spelled : (st : State) (i : Bool) (S : List Frame) (all : List Placed) → Where st i S all []
      → OnEnd (finished most st S) all
  finished_spelled between i S all h = between_spelled S i all h.left_at h.flag_is h.stands h.skips
  finished_spelled (past_statement j) i S all h =
      let (st, is, (m1, op, sm)) = h.stands in
      past_statement_spelled j S i all h.left_at h.flag_is
      (record { made_of = st; kept_is = is; begins_at = m1; opens = op; spelled = sm }) h.skips
  finished_spelled (typed ds q w.Param n ty) i S all h =
      past_statement_spelled (of_statement ds (flat (param q n ty))) S i all h.left_at h.flag_is
      (param_declared ds q n ty S all h.left_at h.stands) h.skips
  finished_spelled (s.named n) i S all h =
      done_spelled (flat (name n)) S i all h.left_at h.flag_is (named_at n S all h.left_at h.stands) h.skips
  finished_spelled (qualified y n x) i S all h =
      done_spelled (of_access most (flat (name n)) a.Member x) S i all h.left_at h.flag_is
      (qualified_at y n x S all h.left_at h.stands) h.skips
  finished_spelled (done k) i S all h = done_spelled k S i all h.left_at h.flag_is h.stands h.skips
  finished_spelled (paused k) i S all h =
      let (e, is, pr, fl, (m1, op, (m2, ex, ln))) = h.stands in
      late_end_spelled (closed most 0 k S) all m2 h.left_at
      (paused_end k e S 0 all m1 m2 (omega arith) is pr fl op ex) ln
      (not_skipped h.left_at [] (subst (λ b. skipped b h.left_at []) (h.flag_is ∙ fl) h.skips))
  finished_spelled st i S all h = tt

  sound : (ts all : List Placed) (st : State) (i : Bool) (S : List Frame) → Where st i S all ts
      → OnEnd (run most st i S ts) all
  sound [] all st i S h = finished_spelled st i S all h
  sound ((at, y) ∷ ts) all st i S h =
      elim (step most st i S (at, y)) as (λ n. OnNext n all ts
      → OnEnd (option_and_then (λ q. run most q.0 q.1 q.2 ts) n) all) [
        | None ↦ λ k. tt
        | Some q ↦ λ k. sound ts all q.0 q.1 q.2 k
      ] (step_stands st i S at y all ts h)

  pub parsed_ends : (ts : List Placed) → OnEnd (parsed most ts) ts
  parsed_ends ts =
      sound ts ts between false (in_file empty ∷ [])
      (record { flag_is = refl; left_at = ts; stands = (tt, ([], refl, ([], tt, refl))); skips = ([], tt, refl) })

-- what is read is what is kept of a file that the tokens spell
pub parsed_sound : (most : ℕ) (ts : List Placed) (k : Kept FileTree) → parsed most ts ≡ Some k → IsSpelled most k ts
parsed_sound most ts k h = subst (λ o. OnEnd most o ts) h (parsed_ends most ts)
