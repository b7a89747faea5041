-- A file that tokens spell has the names of the tokens, and no more holes than there are tokens.
use Rattle.std.proofs.Common.{◌≤◌, ℕ, ◌+◌, Bool, true, false, List, [], ◌∷◌, ◌++◌, length, ap, subst}
use Rattle.std.proofs.Common.{arith}
use Rattle.std.proofs.Common.{length-append, codes}
use Rattle.std.specs.Prelude.{◌&&◌, ◌^◌}
use Rattle.arm_expr.specs.Grammar.{IsName}
use Rattle.bicep_tree.specs.declared.leaf.Access.TheVariants as a
use Rattle.bicep_tree.specs.declared.leaf.Function.{Function}
use Rattle.bicep_tree.specs.declared.leaf.Function.TheVariants as function
use Rattle.bicep_tree.specs.declared.leaf.Label.{Label}
use Rattle.bicep_tree.specs.declared.leaf.Label.TheVariants as label
use Rattle.bicep_tree.specs.declared.leaf.Literal.TheVariants as l
use Rattle.bicep_tree.specs.declared.leaf.LoopNames.{LoopNames}
use Rattle.bicep_tree.specs.declared.leaf.LoopNames.TheVariants as ns
use Rattle.bicep_tree.specs.declared.leaf.Name.{Name}
use Rattle.bicep_tree.specs.declared.leaf.Namespace.TheVariants as n
use Rattle.bicep_tree.specs.declared.leaf.Quoted.{Quoted}
use Rattle.bicep_tree.specs.declared.terminal.Terminal.{Terminal}
use Rattle.bicep_tree.specs.declared.terminal.Terminal.TheVariants as t
use Rattle.bicep_tree.specs.Declarations.{declaration, a_statement, a_file, further_statements, type_word}
use Rattle.bicep_tree.specs.Expressions as e
use Rattle.bicep_tree.specs.Forms as form
use Rattle.bicep_tree.specs.Forms.{is_newline, is_separator, index_sign, prefix_sign, namespace_word}
use Rattle.bicep_tree.specs.Terminals.{Placed}
use Rattle.bicep_tree.specs.Tree.{Tree, Trees, Holes, ObjectTree, MemberTree, MemberTrees, ValueTree, LoopTree}
use Rattle.bicep_tree.specs.Tree.{DecoratorTree, DecoratorTrees, ResourceTree, BodyTree, DeclarationTree, StatementTree}
use Rattle.bicep_tree.specs.Tree.{FileTree}
use Rattle.bicep_tree.specs.Tree as tree
use Rattle.bicep_names.specs.Resolve.{function_name}
use Rattle.file_words.specs.Words.{IsShort, count, IsWorded, AreWorded, HolesAreWorded}
use Rattle.file_words.specs.Words.{ObjectIsWorded, MembersAreWorded}
use Rattle.file_words.specs.Words.{MemberIsWorded, ValueIsWorded, LoopIsWorded, ResourceIsWorded, BodyIsWorded}
use Rattle.file_words.specs.Words.{IsDeclaredWorded, StatementIsWorded, FileIsWorded}
use Rattle.file_words.proofs.TokenLemmas.{IsFine, AreFine}

-- what is read of some tokens, so many of them at least; and what is left
record Read (P : Type 0) (some : ℕ) (ts ks : List Placed) : Type 0 where
  own : P
  rest : AreFine ks
  fewer : some + length ks ≤ length ts

abbrev Nothing : Type 0
Nothing = Unit {0}

-- ---- tokens

sign_at : (at : ℕ) (s : Terminal) (ts ks : List Placed) → form.sign_at at s ts ks → AreFine ts
    → Read (IsFine s) 1 ts ks
sign_at at s ts ks h f =
    let g = subst AreFine h f in
    let n = ap (λ (us : List Placed). length us) h in
    record { own = g.0; rest = g.1; fewer = omega (arith, n) }

back : (passed ks : List Placed) → AreFine (passed ++ ks) → AreFine ks
back [] ks f = f
back (p ∷ passed) ks f = back passed ks f.1

any : (test : Terminal → Bool) (ts ks : List Placed) → form.any test ts ks → AreFine ts → Read Nothing 0 ts ks
any test ts ks h f =
    let n = ap (λ (us : List Placed). length us) h.2 in
    let m = length-append h.0 ks in
    record { own = tt; rest = back h.0 ks (subst AreFine h.2 f); fewer = omega (arith, n, m) }

sign : (s : Terminal) (ts ks : List Placed) → form.sign s ts ks → AreFine ts → Read (IsFine s) 1 ts ks
sign s ts ks h f = sign_at h.0 s ts ks h.1 f

one : (test : Terminal → Bool) (ts ks : List Placed) → form.one test ts ks → AreFine ts → Read Nothing 0 ts ks
one test ts ks h f =
    let r = sign_at h.0 h.1 ts ks h.2 f in
    let n = r.fewer in
    record { own = tt; rest = r.rest; fewer = omega (arith, n) }

-- one part, and then another
module _ {P Q : Type 0} {m n : ℕ} {ts us ks : List Placed} where
  second : Read P m ts us → Read Q n us ks → Read Q n ts ks
  second a b =
      let x = a.fewer in let y = b.fewer in record { own = b.own; rest = b.rest; fewer = omega (arith, x, y) }

  first : Read P m ts us → Read Q n us ks → Read P m ts ks
  first a b =
      let x = a.fewer in let y = b.fewer in record { own = a.own; rest = b.rest; fewer = omega (arith, x, y) }

  both : Read P m ts us → Read Q n us ks → Read (P × Q) (m + n) ts ks
  both a b =
      let x = a.fewer in
      let y = b.fewer in record { own = (a.own, b.own); rest = b.rest; fewer = omega (arith, x, y) }

made : {P Q : Type 0} {m n : ℕ} {ts ks : List Placed} → (P → Q) → n ≤ m → Read P m ts ks → Read Q n ts ks
made f le a = let x = a.fewer in record { own = f a.own; rest = a.rest; fewer = omega (arith, x, le) }

any_some : {P : Type 0} {m : ℕ} {ts ks : List Placed} → Read P m ts ks → Read P 0 ts ks
any_some a = made (λ p. p) (omega arith) a

token_at : (i : Bool) (at : ℕ) (s : Terminal) (ts ks : List Placed) → form.token_at i at s ts ks → AreFine ts
    → Read (IsFine s) 1 ts ks
token_at i at s ts ks h f =
    let a = any (λ x. i && is_newline x) ts h.0 h.1 f in
    second a (sign_at at s h.0 ks h.2 a.rest)

token : (i : Bool) (s : Terminal) (ts ks : List Placed) → form.token i s ts ks → AreFine ts → Read (IsFine s) 1 ts ks
token i s ts ks h f =
    let a = any (λ x. i && is_newline x) ts h.0 h.1 f in
    second a (sign s h.0 ks h.2 a.rest)

named : (i : Bool) (x : Name) (ts ks : List Placed) → form.named i x ts ks → AreFine ts → Read (IsName x.text) 1 ts ks
named i x ts ks h f = token_at i x.at (t.Name x.text) ts ks h f

quoted : (q : Quoted) (ts ks : List Placed) → form.quoted q ts ks → AreFine ts → Read (IsShort q.text) 0 ts ks
quoted q ts ks h f = made (λ p. p.1) (omega arith) (sign_at q.at (t.Literal (l.Text q.text)) ts ks h f)

labelled : (x : Label) (ts ks : List Placed) → form.labelled x ts ks → AreFine ts → Read Nothing 0 ts ks
labelled (label.Name x) ts ks h f = made (λ p. tt) (omega arith) (named false x ts ks h f)
labelled (label.Quoted q) ts ks h f = made (λ p. tt) (omega arith) (quoted q ts ks h f)

-- the name of a function
called : (i : Bool) (x : Function) (ts ks : List Placed) → form.function i x ts ks → AreFine ts
    → Read (IsName (function_name x).text) 1 ts ks
called i (function.Plain x) ts ks h f = named i x ts ks h f
called i (function.Qualified at space x) ts ks h f =
    let r = token_at i at (t.Name (namespace_word space)) ts h.0 h.1 f in
    let s = token i (t.Access a.Member) h.0 h.2.0 h.2.1 r.rest in
    second r (second s (named i x h.2.0 ks h.2.2 s.rest))

decorating : (x : Function) (ts ks : List Placed) → form.decorating x ts ks → AreFine ts → Read Nothing 0 ts ks
decorating (function.Plain x) ts ks h f = made (λ p. tt) (omega arith) (named false x ts ks h f)
decorating (function.Qualified at n.Sys x) ts ks h f =
    let r = sign_at at (t.Name (codes "sys")) ts h.0 h.1 f in
    let s = sign (t.Access a.Member) h.0 h.2.0 h.2.1 r.rest in
    second r (second s (made (λ p. tt) (omega arith) (named false x h.2.0 ks h.2.2 s.rest)))
decorating (function.Qualified at n.Az x) ts ks h f = absurd h

loop_names : (x : LoopNames) (ts ks : List Placed) → e.loop_names x ts ks → AreFine ts → Read Nothing 0 ts ks
loop_names (ns.Item x) ts ks h f = made (λ p. tt) (omega arith) (named false x ts ks h f)
loop_names (ns.Both x i) ts ks h f =
    let a = sign t.OpenParen ts h.0 h.1 f in
    let b = named true x h.0 h.2.0 h.2.1 a.rest in
    let c = token true t.Comma h.2.0 h.2.2.0 h.2.2.1 b.rest in
    let d = named true i h.2.2.0 h.2.2.2.0 h.2.2.2.1 c.rest in
    second a (second b (second c (second d
    (made (λ p. tt) (omega arith) (token true t.CloseParen h.2.2.2.0 ks h.2.2.2.2 d.rest)))))

existing : (x : Bool) (ts ks : List Placed) → e.existing x ts ks → AreFine ts → Read Nothing 0 ts ks
existing true ts ks h f = made (λ p. tt) (omega arith) (sign (t.Name (codes "existing")) ts ks h f)
existing false ts ks h f = record {
  own = tt;
  rest = subst AreFine h f;
  fewer = let n = ap (λ (us : List Placed). length us) h in omega (arith, n);
}

separators : (ts ks : List Placed) → e.separators ts ks → AreFine ts → Read Nothing 0 ts ks
separators ts ks h f = any is_separator ts ks h f

separated : (ts ks : List Placed) → e.separated ts ks → AreFine ts → Read Nothing 0 ts ks
separated ts ks h f =
    let a = one is_separator ts h.0 h.1 f in second a (any is_separator h.0 ks h.2 a.rest)

-- ---- expressions

few_by : (n m : ℕ) → n ≤ m → m ≤ 2 ^ 64 → n ≤ 2 ^ 64
few_by n m a b = omega (arith, a, b)

-- there are so few tokens
abbrev AreFew : List Placed → Type 0
AreFew ts = length ts ≤ 2 ^ 64

still_few : {P : Type 0} {m : ℕ} {ts ks : List Placed} → Read P m ts ks → AreFew ts → AreFew ks
still_few a few = let x = a.fewer in omega (arith, x, few)

-- `if (c)`
under : {P : Type 0} (c : List Placed → List Placed → Type 0) (at : ℕ) (ts ks : List Placed) → e.under at c ts ks
    → AreFine ts → AreFew ts
    → ((us vs : List Placed) → c us vs → AreFine us → AreFew us → Read P 0 us vs) → Read P 0 ts ks
under c at ts ks h f few reads =
    let a = sign_at at (t.Name (codes "if")) ts h.0 h.1 f in
    let b = sign t.OpenParen h.0 h.2.0 h.2.1 a.rest in
    let q = h.2.2 in
    let d = reads h.2.0 q.0 q.1 b.rest (still_few b (still_few a few)) in
    second a (second b (first d (token true t.CloseParen q.0 ks q.2 d.rest)))

-- holes, and so many tokens beside one for each
record HolesRead (some : ℕ) (hs : Holes) (ts ks : List Placed) : Type 0 where
  own : HolesAreWorded hs
  rest : AreFine ks
  fewer : count hs + (some + length ks) ≤ length ts

mutual
  expression : (i : Bool) (x : Tree) (ts ks : List Placed) → e.expression i x ts ks → AreFine ts → AreFew ts
      → Read (IsWorded x) 0 ts ks
  expression i (tree.name n) ts ks h f few = made (λ p. tt) (omega arith) (named i n ts ks h f)
  expression i (tree.literal at v) ts ks h f few =
      made (λ p. p.0) (omega arith) (token_at i at (t.Literal v) ts ks h f)
  expression i (tree.interpolated at begin hs) ts ks h f few =
      let a = token_at i at (t.LeftPiece begin) ts h.0 h.1 f in
      let b = a_hole i hs h.0 ks h.2 a.rest (still_few a few) in
      let x = a.fewer in
      let y = b.fewer in
      record {
        own = (b.own, few_by (count hs) (length ts) (omega (arith, x, y)) few);
        rest = b.rest;
        fewer = omega (arith, x, y);
      }
  expression i (tree.object o) ts ks h f few = an_object i o ts ks h f few
  expression i (tree.array at es) ts ks h f few =
      let a = token_at i at t.OpenBracket ts h.0 h.1 f in
      let b = separators h.0 h.2.0 h.2.1 a.rest in
      second a (second b (items es h.2.0 ks h.2.2 b.rest (still_few b (still_few a few))))
  expression i (tree.parentheses at x) ts ks h f few =
      let a = token_at i at t.OpenParen ts h.0 h.1 f in
      let b = expression true x h.0 h.2.0 h.2.1 a.rest (still_few a few) in
      second a (first b (token true t.CloseParen h.2.0 ks h.2.2 b.rest))
  expression i (tree.call g es) ts ks h f few =
      let a = called i g ts h.0 h.1 f in
      let b = token i t.OpenParen h.0 h.2.0 h.2.1 a.rest in
      any_some (both a (second b (arguments es h.2.0 ks h.2.2 b.rest (still_few b (still_few a few)))))
  expression i (tree.access x k n) ts ks h f few =
      let q = h.1 in
      let a = expression i x ts q.0 q.1 f few in
      let b = token i (t.Access k) q.0 q.2.0 q.2.1 a.rest in
      any_some (both a (second b (named i n q.2.0 ks q.2.2 b.rest)))
  expression i (tree.index x k y) ts ks h f few =
      let q = h.1 in
      let a = expression i x ts q.0 q.1 f few in
      let b = token i (index_sign k) q.0 q.2.0 q.2.1 a.rest in
      let c = expression i y q.2.0 q.2.2.0 q.2.2.1 b.rest (still_few b (still_few a few)) in
      any_some (both a (second b (first c (token i t.CloseBracket q.2.2.0 ks q.2.2.2 c.rest))))
  expression i (tree.not_null x) ts ks h f few =
      let q = h.1 in
      let a = expression i x ts q.0 q.1 f few in first a (token i t.Not q.0 ks q.2 a.rest)
  expression i (tree.prefixed at p x) ts ks h f few =
      let q = h.1 in
      let a = token_at i at (prefix_sign p) ts q.0 q.1 f in
      second a (expression i x q.0 ks q.2 a.rest (still_few a few))
  expression i (tree.binary o x y) ts ks h f few =
      let q = h.1 in
      let a = expression i x ts q.0 q.1 f few in
      let b = token i (t.Operator o) q.0 q.2.0 q.2.1 a.rest in
      let c = any (λ s. true && is_newline s) q.2.0 q.2.2.0 q.2.2.1 b.rest in
      any_some (both a (second b (second c
      (expression i y q.2.2.0 ks q.2.2.2 c.rest (still_few c (still_few b (still_few a few)))))))
  expression i (tree.conditional x y z) ts ks h f few =
      let q = h.1 in
      let a = expression i x ts q.0 q.1 f few in
      let b = token true t.Question q.0 q.2.0 q.2.1 a.rest in
      let c = any (λ s. true && is_newline s) q.2.0 q.2.2.0 q.2.2.1 b.rest in
      let u = q.2.2.2 in
      let fewer = still_few c (still_few b (still_few a few)) in
      let d = expression i y q.2.2.0 u.0 u.1 c.rest fewer in
      let g = token true t.Colon u.0 u.2.0 u.2.1 d.rest in
      let k = any (λ s. true && is_newline s) u.2.0 u.2.2.0 u.2.2.1 g.rest in
      let z1 = expression i z u.2.2.0 ks u.2.2.2 k.rest (still_few k (still_few g (still_few d fewer))) in
      any_some (both a (second b (second c (both d (second g (second k z1))))))

  arguments : (es : Trees) (ts ks : List Placed) → e.arguments es ts ks → AreFine ts → AreFew ts
      → Read (AreWorded es) 0 ts ks
  arguments tree.none ts ks h f few = made (λ p. tt) (omega arith) (token true t.CloseParen ts ks h f)
  arguments (tree.more x es) ts ks h f few =
      let a = expression true x ts h.0 h.1 f few in
      both a (further_arguments es h.0 ks h.2 a.rest (still_few a few))

  further_arguments : (es : Trees) (ts ks : List Placed) → e.further_arguments es ts ks → AreFine ts → AreFew ts
      → Read (AreWorded es) 0 ts ks
  further_arguments tree.none ts ks h f few = made (λ p. tt) (omega arith) (token true t.CloseParen ts ks h f)
  further_arguments (tree.more x es) ts ks h f few =
      let c = token true t.Comma ts h.0 h.1 f in
      let a = expression true x h.0 h.2.0 h.2.1 c.rest (still_few c few) in
      second c (both a (further_arguments es h.2.0 ks h.2.2 a.rest (still_few a (still_few c few))))

  items : (es : Trees) (ts ks : List Placed) → e.items es ts ks → AreFine ts → AreFew ts → Read (AreWorded es) 0 ts ks
  items tree.none ts ks h f few = made (λ p. tt) (omega arith) (sign t.CloseBracket ts ks h f)
  items (tree.more x es) ts ks h f few =
      let a = expression false x ts h.0 h.1 f few in both a (further_items es h.0 ks h.2 a.rest (still_few a few))

  further_items : (es : Trees) (ts ks : List Placed) → e.further_items es ts ks → AreFine ts → AreFew ts
      → Read (AreWorded es) 0 ts ks
  further_items tree.none ts ks h f few =
      let a = separators ts h.0 h.1 f in second a (made (λ p. tt) (omega arith) (sign t.CloseBracket h.0 ks h.2 a.rest))
  further_items (tree.more x es) ts ks h f few =
      let c = separated ts h.0 h.1 f in
      let a = expression false x h.0 h.2.0 h.2.1 c.rest (still_few c few) in
      second c (both a (further_items es h.2.0 ks h.2.2 a.rest (still_few a (still_few c few))))

  a_hole : (i : Bool) (hs : Holes) (ts ks : List Placed) → e.a_hole i hs ts ks → AreFine ts → AreFew ts
      → HolesRead 0 hs ts ks
  a_hole i tree.no_hole ts ks h f few = absurd h
  a_hole i (tree.hole x s hs) ts ks h f few =
      let a = expression i x ts h.0 h.1 f few in
      let b = after_hole i s hs h.0 ks h.2 a.rest (still_few a few) in
      let n = a.fewer in
      let m = b.fewer in
      record { own = (a.own, b.own); rest = b.rest; fewer = omega (arith, n, m) }

  after_hole : (i : Bool) (s : List ℕ) (hs : Holes) (ts ks : List Placed) → e.after_hole i s hs ts ks → AreFine ts
      → AreFew ts → HolesRead 1 hs ts ks
  after_hole i s tree.no_hole ts ks h f few =
      let a = token i (t.RightPiece s) ts ks h f in
      let n = a.fewer in record { own = tt; rest = a.rest; fewer = omega (arith, n) }
  after_hole i s (tree.hole x u hs) ts ks h f few =
      let c = token i (t.MiddlePiece s) ts h.0 h.1 f in
      let a = expression i x h.0 h.2.0 h.2.1 c.rest (still_few c few) in
      let b = after_hole i u hs h.2.0 ks h.2.2 a.rest (still_few a (still_few c few)) in
      let k = c.fewer in
      let n = a.fewer in
      let m = b.fewer in
      record { own = (a.own, b.own); rest = b.rest; fewer = omega (arith, k, n, m) }

  an_object : (i : Bool) (o : ObjectTree) (ts ks : List Placed) → e.an_object i o ts ks → AreFine ts → AreFew ts
      → Read (ObjectIsWorded o) 0 ts ks
  an_object i (tree.braces at ms) ts ks h f few =
      let a = token_at i at t.OpenBrace ts h.0 h.1 f in
      let b = separators h.0 h.2.0 h.2.1 a.rest in
      second a (second b (object_members ms h.2.0 ks h.2.2 b.rest (still_few b (still_few a few))))

  object_members : (ms : MemberTrees) (ts ks : List Placed) → e.object_members ms ts ks → AreFine ts → AreFew ts
      → Read (MembersAreWorded ms) 0 ts ks
  object_members tree.no_member ts ks h f few = made (λ p. tt) (omega arith) (sign t.CloseBrace ts ks h f)
  object_members (tree.and_member m ms) ts ks h f few =
      let a = a_member m ts h.0 h.1 f few in both a (further_members ms h.0 ks h.2 a.rest (still_few a few))

  further_members : (ms : MemberTrees) (ts ks : List Placed) → e.further_members ms ts ks → AreFine ts → AreFew ts
      → Read (MembersAreWorded ms) 0 ts ks
  further_members tree.no_member ts ks h f few =
      let a = separators ts h.0 h.1 f in second a (made (λ p. tt) (omega arith) (sign t.CloseBrace h.0 ks h.2 a.rest))
  further_members (tree.and_member m ms) ts ks h f few =
      let c = separated ts h.0 h.1 f in
      let a = a_member m h.0 h.2.0 h.2.1 c.rest (still_few c few) in
      second c (both a (further_members ms h.2.0 ks h.2.2 a.rest (still_few a (still_few c few))))

  a_member : (m : MemberTree) (ts ks : List Placed) → e.a_member m ts ks → AreFine ts → AreFew ts
      → Read (MemberIsWorded m) 0 ts ks
  a_member (tree.property x v) ts ks h f few =
      let a = labelled x ts h.0 h.1 f in
      let b = sign t.Colon h.0 h.2.0 h.2.1 a.rest in
      second a (second b (value v h.2.0 ks h.2.2 b.rest (still_few b (still_few a few))))
  a_member (tree.child ds r) ts ks h f few =
      let a = decorated ds ts h.0 h.1 f few in second a (a_resource r h.0 ks h.2 a.rest (still_few a few))

  value : (v : ValueTree) (ts ks : List Placed) → e.value v ts ks → AreFine ts → AreFew ts
      → Read (ValueIsWorded v) 0 ts ks
  value (tree.plain x) ts ks h f few = expression false x ts ks h f few
  value (tree.each r x) ts ks h f few =
      let a = a_loop r ts h.0 h.1 f few in
      let b = expression false x h.0 h.2.0 h.2.1 a.rest (still_few a few) in
      both a (first b (sign t.CloseBracket h.2.0 ks h.2.2 b.rest))

  a_loop : (r : LoopTree) (ts ks : List Placed) → e.a_loop r ts ks → AreFine ts → AreFew ts
      → Read (LoopIsWorded r) 0 ts ks
  a_loop (tree.loop at x xs) ts ks h f few =
      let a = sign_at at t.OpenBracket ts h.0 h.1 f in
      let b = sign (t.Name (codes "for")) h.0 h.2.0 h.2.1 a.rest in
      let q = h.2.2 in
      let c = loop_names x h.2.0 q.0 q.1 b.rest in
      let d = sign (t.Name (codes "in")) q.0 q.2.0 q.2.1 c.rest in
      let g = expression false xs q.2.0 q.2.2.0 q.2.2.1 d.rest
      (still_few d (still_few c (still_few b (still_few a few)))) in
      second a (second b (second c (second d (first g (sign t.Colon q.2.2.0 ks q.2.2.2 g.rest)))))

  decorated : (ds : DecoratorTrees) (ts ks : List Placed) → e.decorated ds ts ks → AreFine ts → AreFew ts
      → Read Nothing 0 ts ks
  decorated tree.no_decorator ts ks h f few = record {
    own = tt;
    rest = subst AreFine h f;
    fewer = let n = ap (λ (us : List Placed). length us) h in omega (arith, n);
  }
  decorated (tree.and_decorator d ds) ts ks h f few =
      let a = a_decorator d ts h.0 h.1 f few in
      let b = sign t.Newline h.0 h.2.0 h.2.1 a.rest in
      second a (second b (decorated ds h.2.0 ks h.2.2 b.rest (still_few b (still_few a few))))

  a_decorator : (d : DecoratorTree) (ts ks : List Placed) → e.a_decorator d ts ks → AreFine ts → AreFew ts
      → Read Nothing 0 ts ks
  a_decorator (tree.decorator at x es) ts ks h f few =
      let a = sign_at at t.At ts h.0 h.1 f in
      let b = decorating x h.0 h.2.0 h.2.1 a.rest in
      let q = h.2.2 in
      let c = sign t.OpenParen h.2.0 q.0 q.1 b.rest in
      second a (second b (second c (made (λ p. tt) (omega arith)
      (arguments es q.0 ks q.2 c.rest (still_few c (still_few b (still_few a few)))))))

  a_resource : (r : ResourceTree) (ts ks : List Placed) → e.a_resource r ts ks → AreFine ts → AreFew ts
      → Read (ResourceIsWorded r) 0 ts ks
  a_resource (tree.resource at n p x b) ts ks h f few =
      let a = sign_at at (t.Name (codes "resource")) ts h.0 h.1 f in
      let c = named false n h.0 h.2.0 h.2.1 a.rest in
      let q = h.2.2 in
      let d = quoted p h.2.0 q.0 q.1 c.rest in
      let g = existing x q.0 q.2.0 q.2.1 d.rest in
      let k = sign t.Assign q.2.0 q.2.2.0 q.2.2.1 g.rest in
      any_some (second a (both c (both d (second g (second k
      (body b q.2.2.0 ks q.2.2.2 k.rest
      (still_few k (still_few g (still_few d (still_few c (still_few a few)))))))))))

  body : (b : BodyTree) (ts ks : List Placed) → e.body b ts ks → AreFine ts → AreFew ts → Read (BodyIsWorded b) 0 ts ks
  body (tree.body_plain o) ts ks h f few = an_object false o ts ks h f few
  body (tree.body_if at c o) ts ks h f few =
      let a = under (e.expression true c) at ts h.0 h.1 f few (expression true c) in
      both a (an_object false o h.0 ks h.2 a.rest (still_few a few))
  body (tree.body_each r o) ts ks h f few =
      let a = a_loop r ts h.0 h.1 f few in
      let b = an_object false o h.0 h.2.0 h.2.1 a.rest (still_few a few) in
      both a (first b (sign t.CloseBracket h.2.0 ks h.2.2 b.rest))
  body (tree.body_each_if r at c o) ts ks h f few =
      let a = a_loop r ts h.0 h.1 f few in
      let b = under (e.expression true c) at h.0 h.2.0 h.2.1 a.rest (still_few a few) (expression true c) in
      let q = h.2.2 in
      let d = an_object false o h.2.0 q.0 q.1 b.rest (still_few b (still_few a few)) in
      both a (both b (first d (sign t.CloseBracket q.0 ks q.2 d.rest)))

-- ---- declarations and files

read_declaration : (d : DeclarationTree) (ts ks : List Placed) → declaration d ts ks → AreFine ts → AreFew ts
    → Read (IsDeclaredWorded d) 0 ts ks
read_declaration (tree.metadata at n x) ts ks h f few =
    let a = sign_at at (t.Name (codes "metadata")) ts h.0 h.1 f in
    let b = named false n h.0 h.2.0 h.2.1 a.rest in
    let q = h.2.2 in
    let c = sign t.Assign h.2.0 q.0 q.1 b.rest in
    second a (second b (second c (made (λ p. tt) (omega arith)
    (expression false x q.0 ks q.2 c.rest (still_few c (still_few b (still_few a few)))))))
read_declaration (tree.target_scope at x) ts ks h f few =
    let a = sign_at at (t.Name (codes "targetScope")) ts h.0 h.1 f in
    let b = sign t.Assign h.0 h.2.0 h.2.1 a.rest in
    second a (second b (made (λ p. tt) (omega arith)
    (expression false x h.2.0 ks h.2.2 b.rest (still_few b (still_few a few)))))
read_declaration (tree.param at n ty) ts ks h f few =
    let a = sign_at at (t.Name (codes "param")) ts h.0 h.1 f in
    let b = named false n h.0 h.2.0 h.2.1 a.rest in
    any_some (second a (first b (sign (t.Name (type_word ty)) h.2.0 ks h.2.2 b.rest)))
read_declaration (tree.param_with at n ty x) ts ks h f few =
    let a = sign_at at (t.Name (codes "param")) ts h.0 h.1 f in
    let b = named false n h.0 h.2.0 h.2.1 a.rest in
    let q = h.2.2 in
    let c = sign (t.Name (type_word ty)) h.2.0 q.0 q.1 b.rest in
    let d = sign t.Assign q.0 q.2.0 q.2.1 c.rest in
    any_some (second a (both b (second c (second d
    (expression false x q.2.0 ks q.2.2 d.rest (still_few d (still_few c (still_few b (still_few a few)))))))))
read_declaration (tree.var at n v) ts ks h f few =
    let a = sign_at at (t.Name (codes "var")) ts h.0 h.1 f in
    let b = named false n h.0 h.2.0 h.2.1 a.rest in
    let q = h.2.2 in
    let c = sign t.Assign h.2.0 q.0 q.1 b.rest in
    any_some (second a (both b (second c
    (value v q.0 ks q.2 c.rest (still_few c (still_few b (still_few a few)))))))
read_declaration (tree.output at n ty v) ts ks h f few =
    let a = sign_at at (t.Name (codes "output")) ts h.0 h.1 f in
    let b = named false n h.0 h.2.0 h.2.1 a.rest in
    let q = h.2.2 in
    let c = sign (t.Name (type_word ty)) h.2.0 q.0 q.1 b.rest in
    let d = sign t.Assign q.0 q.2.0 q.2.1 c.rest in
    any_some (second a (both b (second c (second d
    (value v q.2.0 ks q.2.2 d.rest (still_few d (still_few c (still_few b (still_few a few)))))))))
read_declaration (tree.a_resource r) ts ks h f few = a_resource r ts ks h f few
read_declaration (tree.a_module at n p b) ts ks h f few =
    let a = sign_at at (t.Name (codes "module")) ts h.0 h.1 f in
    let c = named false n h.0 h.2.0 h.2.1 a.rest in
    let q = h.2.2 in
    let d = quoted p h.2.0 q.0 q.1 c.rest in
    let g = sign t.Assign q.0 q.2.0 q.2.1 d.rest in
    any_some (second a (both c (second d (second g
    (body b q.2.0 ks q.2.2 g.rest (still_few g (still_few d (still_few c (still_few a few)))))))))

read_statement : (s : StatementTree) (ts ks : List Placed) → a_statement s ts ks → AreFine ts → AreFew ts
    → Read (StatementIsWorded s) 0 ts ks
read_statement (tree.statement ds d) ts ks h f few =
    let a = decorated ds ts h.0 h.1 f few in second a (read_declaration d h.0 ks h.2 a.rest (still_few a few))

read_further : (ss : FileTree) (ts ks : List Placed) → further_statements ss ts ks → AreFine ts → AreFew ts
    → FileIsWorded ss
read_further [] ts ks h f few = tt
read_further (s ∷ ss) ts ks h f few =
    let a = one is_newline ts h.0 h.1 f in
    let b = any is_newline h.0 h.2.0 h.2.1 a.rest in
    let q = h.2.2 in
    let less = still_few b (still_few a few) in
    let c = read_statement s h.2.0 q.0 q.1 b.rest less in
    (c.own, read_further ss q.0 ks q.2 c.rest (still_few c less))

pub read_file : (ss : FileTree) (ts ks : List Placed) → a_file ss ts ks → AreFine ts → AreFew ts → FileIsWorded ss
read_file [] ts ks h f few = tt
read_file (s ∷ ss) ts ks h f few =
    let b = any is_newline ts h.0 h.1 f in
    let q = h.2 in
    let c = read_statement s h.0 q.0 q.1 b.rest (still_few b few) in
    (c.own, read_further ss q.0 ks q.2 c.rest (still_few c (still_few b few)))
